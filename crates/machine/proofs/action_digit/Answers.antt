-- `machine::action_digit` meets its contract: ACTIONS is the table of the automata.
use Rattle.machine.proofs.Tables.{kind_tag, automaton_tag, action_entry}
use Rattle.machine.proofs.action_digit.Goals as goal

pub returns : goal.returns
returns c =
    let args = c.args in
    rw (kind_tag args.kind, automaton_tag args.automaton) (action_entry args.kind args.automaton args.state c.requires)
