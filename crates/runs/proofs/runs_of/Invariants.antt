-- `runs::runs_of` meets its contract. The loop's invariant: the runs made, and those of the steps that are left, are all runs.
use Rattle.std.proofs.Common.{◌≡◌, ◌+◌, ◌≤◌, ◌++◌, length}
use Rattle.rules.specs.Sheet.{runs_of}
use Rattle.values.specs.FixedLists.{items}
use Rattle.runs.proofs.runs_of.Given as goal

abbrev pub invariant-loop-direction : goal.invariant-loop-direction
invariant-loop-direction l = (items l.runs ++ runs_of l.rest ≡ runs_of l.walk) × (length (items l.runs) + length l.rest ≤ 860)

abbrev pub decreases-loop-direction : goal.decreases-loop-direction
decreases-loop-direction l = length l.rest
