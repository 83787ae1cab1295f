-- The tests of the bounds on a job by value.
use Prim.Native.Nat.{◌≤◌}
use mathlib.Core.Path.{◌≡◌}
use mathlib.Core.Bool.{Bool, true, ◌&&◌}
use native.Mathlib.Omega.{arith}
use lib.Dec.{leb}
use lib.ListN.{length, take}
use lib.Seq.{length-take-le}
use Rattle.rules.specs.Lists.{all_of}
use Rattle.rules.specs.Hours.{hours_in_bounds}
use Rattle.rules.specs.Refusals.{record_in_bounds, stock_in_bounds, line_in_bounds, list_in_bounds}
use Rattle.rules.proofs.Numbers.{both_true}
use Rattle.values.specs.declared.JobValue.{JobValue}
use Rattle.values.specs.Values.{hours_of, job_of}
use Rattle.jobfile.specs.Ready.{few_windows, store_only}

-- the arrays of a job by value have the room that they are declared with
pub record Sized (job : JobValue) : Type 0 where
  pub stock : length job.stock ≡ 384
  pub lines : length job.lines ≡ 8

module _ (job : JobValue) (size : Sized job) where
  -- as many records as are counted
  pub stock_length : job.records ≤ 384 → length (take job.records job.stock) ≡ job.records
  stock_length h = length-take-le job.records job.stock (omega (arith, size.stock))

  -- as many lines as are counted
  pub list_length : job.orders ≤ 8 → length (take job.orders job.lines) ≡ job.orders
  list_length h = length-take-le job.orders job.lines (omega (arith, size.lines))

-- the test of the hours, as it is made on a value
abbrev pub hours_test : JobValue → Bool
hours_test v = few_windows v.hours && hours_in_bounds v.layout.aisles (hours_of v.hours)

-- all records of a stock within the bounds are
pub all_records : (job : JobValue) → stock_in_bounds (job_of job) ≡ true → all_of (record_in_bounds (store_only job.layout)) (take job.records job.stock) ≡ true
unfolding stock_in_bounds record_in_bounds job_of
all_records job e = (both_true (leb (length (take job.records job.stock)) 384) (all_of (record_in_bounds (store_only job.layout)) (take job.records job.stock)) e).1

-- all lines of a list within the bounds are
pub all_lines : (job : JobValue) → list_in_bounds (job_of job) ≡ true → all_of line_in_bounds (take job.orders job.lines) ≡ true
unfolding list_in_bounds job_of
all_lines job e = (both_true (leb (length (take job.orders job.lines)) 8) (all_of line_in_bounds (take job.orders job.lines)) e).1
