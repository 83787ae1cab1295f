-- `rows::permute` meets its contract: the states before s are set.
use Rattle.rows.specs.Rows.{Permuted}
use Rattle.rows.proofs.permute.Given as goal

abbrev pub invariant-loop-s : goal.invariant-loop-s
invariant-loop-s l = Permuted l.initial.perm l.perm l.after l.to-items l.weight l.s
