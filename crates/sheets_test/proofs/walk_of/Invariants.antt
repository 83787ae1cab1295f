-- `sheets_test::walk_of` meets its contract. The loop's invariant: the runs of the pairs so far are in the list.
use Rattle.std.proofs.Common.{◌≡◌, take, map}
use Rattle.values.specs.FixedLists.{items}
use Rattle.sheets_test.specs.Jobs.{run_of}
use Rattle.sheets_test.proofs.walk_of.Given as goal

abbrev pub invariant-loop-direction : goal.invariant-loop-direction
invariant-loop-direction l = items l.walk ≡ map run_of (take l.direction-index l.runs)
