use native.Mathlib.Omega.{arith}
use mathlib.Core.Path.{refl, ◌∙◌, ap}
use mathlib.Core.Bool.{Bool, false, not, ◌||◌}
use lib.ListN.{get_or, length-set}
use Rattle.aisles.specs.Turns.{front_turn, back_turn, least_back}
use Rattle.aisles.proofs.Geometry.{within}
use Rattle.demand.proofs.Filling.{filled_one}
use Rattle.aisles.proofs.layers.turns_of.Goals as goal

pub overflow_add-top : goal.overflow_add-top
overflow_add-top c = let w = within c.args.aisle.layout c.requires in omega (arith, w.cells.1)

pub loop-h-init : goal.loop-h-init
loop-h-init c =
    let w = within c.args.aisle.layout c.requires in
    (omega (arith, w.cells.1), refl, refl, refl, λ k l. absurd (omega arith), λ k l. absurd (omega arith), λ k l. absurd (omega arith))

pub loop-h-preserved : goal.loop-h-preserved
loop-h-preserved c =
    let o = c.loop-h in
    let p = c.args in
    let z = p.aisle.layout in
    let test = p.aisle.between in
    let may = λ (allowed : Bool). not p.between || allowed in (
      o.invariant.0,
      length-set o.front o.h c.front_turn.result ∙ o.invariant.1,
      length-set o.back o.h c.back_turn.result ∙ o.invariant.2,
      length-set o.from o.h c.least_back.result ∙ o.invariant.3,
      filled_one (λ k. front_turn z p.kind k (may (get_or test.front k false))) o.front o.h c.front_turn.result (omega (arith, o.invariant.0, o.invariant.1)) o.invariant.4
          (c.front_turn.ensures ∙ ap (front_turn z p.kind o.h) c.may_turn.ensures),
      filled_one (λ k. back_turn z p.kind k (may (get_or test.back k false))) o.back o.h c.back_turn.result (omega (arith, o.invariant.0, o.invariant.2)) o.invariant.5
          (c.back_turn.ensures ∙ ap (back_turn z p.kind o.h) c.may_turn-in-loop-h.ensures),
      filled_one (λ k. least_back p.between (get_or test.from k 0) k) o.from o.h c.least_back.result (omega (arith, o.invariant.0, o.invariant.3)) o.invariant.6 c.least_back.ensures,
    )
