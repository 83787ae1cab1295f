-- `aisles::repeats::same_rows` meets its contract: the two slices are compared.
use native.Mathlib.Omega.{arith}
use mathlib.Core.Path.{subst, sym}
use Rattle.aisles.specs.Repeating.{Agree}
use Rattle.aisles.proofs.Thinning.{rows_agree}
use Rattle.aisles.proofs.repeats.same_rows.Goals as goal

pub returns : goal.returns
returns c =
    let p = c.args in
    let r = c.requires in
    subst (Agree p.map.now p.a p.b p.weight) (sym c.eq.ensures)
    (rows_agree p.map.now p.a p.b p.weight (omega (arith, r.0, r.2, r.3)) (omega (arith, r.1, r.2, r.3)))
