-- The stock of a job as the tests of plans are lent it: its records, and which aisles are open.
use Rattle.std.specs.Prelude.{ℕ, ◌-◌, ◌≤◌, ◌≡◌, List, Bool, false, cond, ◌&&◌, eqb, leb, length, get_or}
use mathlib.Core.List.{Memᴰ}
use Rattle.rules.specs.declared.StockRecord.{StockRecord}
use Rattle.rules.specs.declared.OrderLine.{OrderLine}
use Rattle.rules.specs.Hours.{is_open}
use Rattle.rules.specs.Jobs.{Job}
use Rattle.rules.specs.Lists.{select}
use Rattle.std.specs.List.{list_all}
use Rattle.rules.specs.Plans.{plan_passes}
use Rattle.rules.specs.Refusals.{RecordWithin}
use Rattle.rules.specs.Serving.{supply}
use Rattle.values.specs.declared.PlanValue.{PlanValue}
use Rattle.values.specs.Values.{plan_of}
use Rattle.annex_stock.specs.declared.Stock.{Stock}

-- whether aisle j is open by the flags, where it stands at j - 1
abbrev pub is_open_by : List Bool → ℕ → Bool
is_open_by flags j = get_or flags (j - 1) false

-- what a record gives of an article, by the flags and the cells that are passed
abbrev pub gives : List Bool → (ℕ → ℕ → Bool) → ℕ → StockRecord → ℕ
gives flags passes article r = cond (eqb r.article article && (is_open_by flags r.aisle && passes r.aisle r.cell)) r.quantity 0

-- the records that count: those of open aisles
abbrev pub counted : Stock → List StockRecord
counted stock = select (λ (r : StockRecord). is_open_by stock.open r.aisle) stock.records.now

-- the records are few, and each is of an aisle of the plan and holds at most 255
pub record Held (stock : Stock) (plan : PlanValue) : Type 0 where
  pub few : length stock.records.now ≤ 384
  pub within : (r : StockRecord) → Memᴰ r stock.records.now → (1 ≤ r.aisle) × (r.aisle ≤ plan.aisles) × (r.quantity ≤ 255)

-- for each line the stock of its article in passed cells of open aisles is enough
abbrev pub all_supplied : Stock → List OrderLine → PlanValue → Bool
all_supplied stock lines plan = list_all (λ (l : OrderLine). leb l.quantity (supply (plan_passes (plan_of plan)) (counted stock) l.article)) lines

-- the stock is a job's, which is admitted, and the flags are those of its hours
pub record StockOf (job : Job) (stock : Stock) : Type 0 where
  pub records : stock.records.now ≡ job.stock
  pub doors : (j : ℕ) → 1 ≤ j → j ≤ 16 → is_open_by stock.open j ≡ is_open job.hours j
  pub few : length job.stock ≤ 384
  pub within : (r : StockRecord) → Memᴰ r job.stock → RecordWithin job.layout r
  pub aisles : job.layout.aisles ≤ 16
