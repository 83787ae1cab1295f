-- `aisles::layers::steps_of` meets its contract: the states before s are looked up.
use Prim.Native.Nat.{ℕ, ◌<◌}
use mathlib.Core.Path.{◌≡◌}
use lib.ListN.{length, get_or}
use Rattle.machine.specs.Steps.{sample_action, step_of}
use Rattle.machine.specs.States.{state_code, state_of}
use Rattle.aisles.proofs.layers.steps_of.Given as goal

abbrev pub invariant-loop-s : goal.invariant-loop-s
invariant-loop-s l =
    (length l.steps ≡ 8)
    × ((k : ℕ) → k < l.s → get_or l.steps k 0 ≡ state_code (step_of l.aisle.method.policy l.aisle.method.end (sample_action l.seen) l.aisle.may l.between (state_of k)))
