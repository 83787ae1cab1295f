use native.Mathlib.Omega.{arith}
use Prim.Native.Nat.{◌+◌}
use mathlib.Core.Path.{◌∙◌}
use lib.ListN.{length-set}
use lib.Seq.{get_or-set_other}
use Rattle.demand.proofs.Filling.{filled_one}
use Rattle.aisles.specs.Turns.{front_kept, back_kept}
use Rattle.aisles.proofs.Thinning.{filled_next}
use Rattle.aisles.proofs.layers.thin.Goals as goal

pub loop-h-preserved : goal.loop-h-preserved
loop-h-preserved c =
    let p = c.args in
    let o = c.loop-h in
    let front = c.kept_turn in
    let back = c.kept_turn-in-loop-h in (
      length-set o.front (o.h + 1) front.result ∙ o.invariant.0,
      length-set o.back o.h back.result ∙ o.invariant.1,
      get_or-set_other o.front (o.h + 1) 0 front.result 0 (λ e. omega arith) ∙ o.invariant.2,
      filled_next (front_kept p.turns p.same) o.front o.h front.result (omega (arith, o.invariant.0, c.requires)) o.invariant.3 front.ensures,
      filled_one (back_kept p.turns p.same) o.back o.h back.result (omega (arith, o.invariant.1, c.requires)) o.invariant.4 back.ensures,
      get_or-set_other o.back o.h p.turns.top back.result 0 (λ e. omega arith) ∙ o.invariant.5,
    )
