-- `rows::shorter` meets its contract: the states before s have the shorter of the two lengths, and the ones that go with it.
use Rattle.std.proofs.Common.{◌≡◌, length}
use Rattle.rows.specs.Rows.{Shorter}
use Rattle.rows.specs.Pairs.{Fewer}
use Rattle.rows.proofs.shorter.Given as goal

abbrev pub invariant-loop-s : goal.invariant-loop-s
invariant-loop-s l =
    (length l.lengths ≡ 8) × (length l.ones ≡ 8)
    × Shorter l.row l.at l.perm l.from l.cost l.lengths l.s
    × Fewer l.row l.spared l.at l.perm l.theirs l.from l.cost l.ones l.s
