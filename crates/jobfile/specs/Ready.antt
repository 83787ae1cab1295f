-- What the tests of a job by value may rely on.
use Rattle.std.specs.Prelude.{◌≤◌, ◌≡◌, [], ◌∷◌, Bool, true, ◌&&◌, leb, Option, Some, None}
use Rattle.rules.specs.declared.Layout.{Layout}
use Rattle.rules.specs.declared.Policy.TheVariants.{Exact}
use Rattle.rules.specs.Store.{layout_in_bounds}
use Rattle.rules.specs.Hours.{NoHours, hours_in_bounds}
use Rattle.rules.specs.declared.Refusal.TheVariants.{ShortOfStock}
use Rattle.rules.specs.Jobs.{Job}
use Rattle.reading.specs.declared.raw.RawJob.{RawJob}
use Rattle.reading.specs.Kept.{raw_value}
use Rattle.rules.specs.Refusals.{stock_in_bounds, list_in_bounds, short_of_stock, first_row, job_refusal}
use Rattle.values.specs.Values.{hours_of, job_of}
use Rattle.values.specs.declared.Clock.{Clock}
use Rattle.values.specs.declared.JobValue.{JobValue}

-- a store with nothing in it
abbrev pub store_only : Layout → Job
store_only z = record { layout = z; policy = Exact; stock = []; hours = NoHours; lines = [] }

-- a clock has at most 64 windows
abbrev pub few_windows : Option Clock → Bool
few_windows None = true
few_windows (Some clock) = leb clock.count 64

-- the layout and the stock are within the bounds
pub record StockReady (value : JobValue) : Type 0 where
  pub count : value.records ≤ 384
  pub layout : layout_in_bounds value.layout ≡ true
  pub stock : stock_in_bounds (job_of value) ≡ true

-- the list is within the bounds
pub record ListReady (value : JobValue) : Type 0 where
  pub count : value.orders ≤ 8
  pub list : list_in_bounds (job_of value) ≡ true

-- what the tests before that of the stock have shown of a job that was read: the bounds, and that only the stock test is left
pub record Tested (raw : RawJob) : Type 0 where
  pub layout : layout_in_bounds raw.job.layout ≡ true
  pub stock : leb raw.job.records 384 && stock_in_bounds (job_of raw.job) ≡ true
  pub hours : few_windows raw.job.hours && hours_in_bounds raw.job.layout.aisles (hours_of raw.job.hours) ≡ true
  pub list : leb raw.job.orders 8 && list_in_bounds (job_of raw.job) ≡ true
  pub last : (job : Job) → raw ≡ raw_value job → job_refusal job ≡ first_row ((short_of_stock job, ShortOfStock) ∷ [])
