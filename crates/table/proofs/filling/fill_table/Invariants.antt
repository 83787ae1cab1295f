-- `table::filling::fill_table` meets its contract: the rows of the aisles from j on and their ones are filled.
use Rattle.std.proofs.Common.{◌≡◌, length}
use Rattle.rules.specs.Jobs.{Job}
use Rattle.table.specs.TableHolds.{OrderOf, TableFrom}
use Rattle.table.proofs.filling.fill_table.Given as goal

abbrev pub invariant-loop-j : goal.invariant-loop-j
invariant-loop-j l =
    (length l.work ≡ length l.initial.work) × (length l.spared ≡ length l.initial.spared)
    × ((job : Job) → OrderOf job l.o → TableFrom job l.j l.work l.spared)
