-- `rows::spare_one` meets its contract: the numbers that were passed have a one more, the others are as they were.
use Rattle.rows.specs.Pairs.{SparedTo}
use Rattle.rows.proofs.spare_one.Given as goal

abbrev pub invariant-loop-ones : goal.invariant-loop-ones
invariant-loop-ones l = SparedTo l.initial.ones-items l.ones-items l.ones-index
