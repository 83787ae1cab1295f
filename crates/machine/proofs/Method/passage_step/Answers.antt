-- `machine::Method::passage_step` meets its contract: a passage that the policy lacks leads to dead, any other is the table's.
use native.Mathlib.Omega.{arith}
use mathlib.Core.Path.{◌≡◌, refl, sym, ◌∙◌}
use Rattle.machine.specs.Steps.{place_number, cross_of}
use Rattle.machine.specs.Tables.{passage_mark}
use Rattle.machine.proofs.Method.passage_step.Goals as goal

pub returns-then-not-passable : goal.returns-then-not-passable
unfolding cross_of
returns-then-not-passable c = let lacks = sym c.passable.ensures ∙ c.if-not-passable.true in rw lacks refl

pub returns : goal.returns
unfolding passage_mark cross_of
returns c =
    let args = c.args in
    let named = sym c.passable.ensures ∙ c.if-not-passable.false in
    let mark : c.number.result ≡ passage_mark args.passage (place_number args.place) args.state
    = omega (arith, c.number.ensures, c.passage_digit.ensures) in
    mark ∙ rw named refl
