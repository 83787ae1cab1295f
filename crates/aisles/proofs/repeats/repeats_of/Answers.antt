use native.Mathlib.Omega.{arith}
use mathlib.Core.Path.{◌∙◌}
use lib.ListN.{length-set}
use Rattle.aisles.proofs.Thinning.{repeats_one}
use Rattle.aisles.proofs.repeats.repeats_of.Goals as goal

pub loop-h-preserved : goal.loop-h-preserved
loop-h-preserved c =
    let p = c.args in
    let o = c.loop-h in (
      length-set o.out o.h c.same_rows.result ∙ o.invariant.0,
      repeats_one p.map.now p.weight o.out o.h c.same_rows.result (omega (arith, o.invariant.0, c.requires.0)) o.invariant.1 c.same_rows.ensures,
    )
