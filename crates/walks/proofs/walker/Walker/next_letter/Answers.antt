use Rattle.std.proofs.Common.{◌≡◌, ◌∙◌, true, sym, ap, arith}
use Rattle.walks.specs.declared.walker.Walker.{Walker}
use Rattle.walks.specs.Letters.{can_be}
use Rattle.walks.proofs.Stepping.{tried, first_tried, last_right}
use Rattle.walks.proofs.walker.Walker.next_letter.Goals as goal

pub returns-then-admitted-clause-at_value : goal.returns-then-admitted-clause-at_value
returns-then-admitted-clause-at_value c =
    let w = c.args.self.now in
    let k = c.loop-step.step-index in
    let here : can_be w.layout w.left w.at (tried k) ≡ true =
    ap (λ (v : Walker). can_be v.layout v.left v.at (tried k)) (sym c.loop-step.invariant.0) ∙ sym c.admitted.ensures.value ∙ c.if-admitted.true
    in
    first_tried w.layout w.left w.at c.requires.0 k c.loop-step-test.true c.loop-step.invariant.1 here

pub returns-clause-at_value : goal.returns-clause-at_value
returns-clause-at_value c =
    let w = c.args.self.now in
    last_right w.layout w.left w.at c.requires.0 (λ i h. c.loop-step.invariant.1 i (omega arith)) c.requires.1
