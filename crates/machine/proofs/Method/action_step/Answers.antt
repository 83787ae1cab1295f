-- `machine::Method::action_step` meets its contract: a step that is not possible leads to dead, any other is the automaton's.
use mathlib.Core.Path.{refl, sym, ◌∙◌, ap}
use Rattle.machine.specs.States.{state_code, state_of}
use Rattle.machine.specs.Steps.{sample_action, step_of}
use Rattle.machine.proofs.Tables.{automaton_steps}
use Rattle.machine.proofs.Method.action_step.Goals as goal

pub returns-then-not-possible : goal.returns-then-not-possible
unfolding step_of
returns-then-not-possible c = let may-not = sym c.possible.ensures ∙ c.if-not-possible.true in rw may-not refl

pub returns : goal.returns
unfolding step_of
returns c =
    let args = c.args in
    let self = args.self in
    let may = sym c.possible.ensures ∙ c.if-not-possible.false in
    c.next_state.ensures
    ∙ (rw c.automaton.ensures (ap state_code (automaton_steps self.policy self.end args.between (sample_action args.kind) (state_of args.state)) ∙ rw may refl))
