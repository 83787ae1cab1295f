-- `machine::Method::asks_between` meets its contract: by the policy's automaton.
use mathlib.Core.Path.{◌∙◌}
use Rattle.machine.proofs.Tables.{between_automaton}
use Rattle.machine.proofs.Method.asks_between.Goals as goal

pub returns : goal.returns
returns c = let self = c.args.self in c.eq.ensures ∙ rw c.automaton.ensures (between_automaton self.policy self.end)
