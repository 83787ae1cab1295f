-- `rows::put` meets its contract: the first s of the eight numbers are stored.
use Rattle.rows.specs.Rows.{StoredTo}
use Rattle.rows.proofs.put.Given as goal

abbrev pub invariant-loop-s : goal.invariant-loop-s
invariant-loop-s l = StoredTo l.initial.row l.row l.eight l.at l.s
