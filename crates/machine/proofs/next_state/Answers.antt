-- `machine::next_state` meets its contract: the mark of the table, decided.
use native.Mathlib.Omega.{arith}
use mathlib.Core.Path.{◌≡◌, ◌∙◌, ap}
use Rattle.machine.specs.Tables.{action_mark, decided}
use Rattle.machine.proofs.Tables.{decided_mark}
use Rattle.machine.proofs.next_state.Goals as goal

pub returns : goal.returns
returns c =
    let args = c.args in
    let mark : c.number.result ≡ action_mark args.kind args.automaton args.state
    = omega (arith, c.number.ensures, c.action_digit.ensures) in
    c.decide.ensures
    ∙ (ap (λ n. decided n args.between) mark
    ∙ decided_mark args.automaton args.between args.kind args.state)
