-- `jobfile::stock::stock_test` meets its contract: behind each line none so far is short, and behind each record of a line the sum is
-- what the records so far hold of its article, with no fewer enough.
use Prim.Native.Nat.{ℕ, ◌+◌, ◌-◌}
use mathlib.Core.Path.{◌≡◌}
use mathlib.Core.Bool.{Bool}
use Rattle.values.specs.declared.JobValue.{JobValue}
use Rattle.jobfile.proofs.Looking.{LookedTo, TestedTo}
use Rattle.jobfile.proofs.stock.stock_test.Given as goal

-- behind k records of a line, before which `before` records were looked at
pub record Looking (job : JobValue) (short-before : Bool) (before article quantity : ℕ) (short : Bool) (looked sum k : ℕ) : Type 0 where
  pub short_kept : short ≡ short-before
  pub counted : looked ≡ before + k
  pub to : LookedTo job article quantity sum k

abbrev pub invariant-loop-sum : goal.invariant-loop-sum
invariant-loop-sum l = Looking l.job l.initial.short l.initial.looked l.article l.quantity l.short l.looked l.sum l.k

abbrev pub decreases-loop-sum : goal.decreases-loop-sum
decreases-loop-sum l = l.records - l.k

abbrev pub invariant-lines : goal.invariant-lines
invariant-lines l = TestedTo l.job l.short l.looked l.i

abbrev pub decreases-lines : goal.decreases-lines
decreases-lines l = l.count - l.i
