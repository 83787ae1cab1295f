-- `aisles::layers::fill_row` meets its contract: what the kinds so far leave of the rows.
use Rattle.std.proofs.Common.{◌≡◌, length}
use Rattle.rows.specs.Rows.{PastKept}
use Rattle.aisles.proofs.RowsHeld.{RowsPassedTo}
use Rattle.aisles.proofs.layers.fill_row.Given as goal

abbrev pub invariant-loop-kind : goal.invariant-loop-kind
invariant-loop-kind l =
    RowsPassedTo l.lane.aisle l.row l.spared l.after l.theirs l.fronts l.backs l.kind-index 0
    × (length l.row ≡ length l.initial.row)
    × (length l.spared ≡ length l.initial.spared)
    × PastKept l.lane.aisle.weight l.initial.row l.row
    × PastKept l.lane.aisle.weight l.initial.spared l.spared

abbrev pub invariant-loop-kind-then-asks_between : goal.invariant-loop-kind-then-asks_between
invariant-loop-kind-then-asks_between l =
    RowsPassedTo l.lane.aisle l.row l.spared l.after l.theirs l.fronts l.backs 6 l.kind-index
    × (length l.row ≡ length l.initial.row)
    × (length l.spared ≡ length l.initial.spared)
    × PastKept l.lane.aisle.weight l.initial.row l.row
    × PastKept l.lane.aisle.weight l.initial.spared l.spared
