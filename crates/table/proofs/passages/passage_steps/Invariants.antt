-- `table::passages::passage_steps` meets its contract: the states before s are looked up.
use Rattle.std.proofs.Common.{◌≡◌, ℕ, ◌<◌, length, get_or}
use Rattle.machine.specs.Steps.{cross_of}
use Rattle.machine.specs.States.{state_code, state_of}
use Rattle.table.proofs.passages.passage_steps.Given as goal

abbrev pub invariant-loop-s : goal.invariant-loop-s
invariant-loop-s l = (length l.steps ≡ 8) × ((k : ℕ) → k < l.s → get_or l.steps k 0 ≡ state_code (cross_of l.x.method.policy l.seen l.x.place (state_of k)))
