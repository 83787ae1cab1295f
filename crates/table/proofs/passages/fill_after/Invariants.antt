-- `table::passages::fill_after` meets its contract: the rows hold the least over the passages before this one.
use Rattle.std.proofs.Common.{◌≡◌, length}
use Rattle.rows.specs.Rows.{PastKept}
use Rattle.table.proofs.PassageLaws.{AfterTried}
use Rattle.table.proofs.passages.fill_after.Given as goal

abbrev pub invariant-loop-passage : goal.invariant-loop-passage
invariant-loop-passage l =
    (length l.after ≡ length l.initial.after) × (length l.spared ≡ length l.initial.spared) × AfterTried l.x l.after l.spared l.next l.theirs l.passage-index
    × PastKept l.x.weight l.initial.after l.after × PastKept l.x.weight l.initial.spared l.spared
