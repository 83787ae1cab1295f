-- `machine::Method::automaton` meets its contract: the digit in the policy's row is the automaton's.
use native.Mathlib.Omega.{arith}
use Prim.Native.Nat.{◌≤◌}
use mathlib.Core.Path.{sym, ◌∙◌}
use Rattle.machine.specs.Tables.{automaton_of, automaton_number}
use Rattle.machine.proofs.Tables.{automaton_mark, automaton_digit, automaton_last}
use Rattle.machine.proofs.Method.automaton.Goals as goal

pub returns-in-48 : goal.returns-in-48
returns-in-48 c =
    let self = c.args.self in
    sym (automaton_digit (automaton_of self.policy self.end) 48 (sym (automaton_mark self.policy self.end) ∙ sym c.mark.ensures ∙ c.in-48.is))

pub returns-in-49 : goal.returns-in-49
returns-in-49 c =
    let self = c.args.self in
    sym (automaton_digit (automaton_of self.policy self.end) 49 (sym (automaton_mark self.policy self.end) ∙ sym c.mark.ensures ∙ c.in-49.is))

pub returns-in-50 : goal.returns-in-50
returns-in-50 c =
    let self = c.args.self in
    sym (automaton_digit (automaton_of self.policy self.end) 50 (sym (automaton_mark self.policy self.end) ∙ sym c.mark.ensures ∙ c.in-50.is))

pub returns-in_default : goal.returns-in_default
returns-in_default c =
    let self = c.args.self in
    let last : 3 ≤ automaton_number (automaton_of self.policy self.end) = omega (arith, c.mark.ensures, automaton_mark self.policy self.end) in
    sym (automaton_last (automaton_of self.policy self.end) last)
