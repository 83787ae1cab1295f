-- Document 01, "Plans": when passed cells serve a list, for plans and walks alike.
use Rattle.std.specs.Prelude.{ℕ, ◌≤◌, Bool, cond, ◌&&◌, leb, eqb}
use mathlib.Core.List.{List, Memᴰ}
use Rattle.rules.specs.declared.StockRecord.{StockRecord}
use Rattle.rules.specs.declared.OrderLine.{OrderLine}
use Rattle.rules.specs.Lists.{sum_of, all_of}
use Rattle.rules.specs.Jobs.{Job, open_stock}
use Rattle.rules.specs.Plans.{Plan, plan_passes}
use Rattle.rules.specs.Walks.{Walk, walk_passes}

-- the stock of an article in passed cells: each record of it counts once, however often its cell is passed
unfoldable pub supply : (ℕ → ℕ → Bool) → List StockRecord → ℕ → ℕ
supply passes stock a =
    sum_of (λ (r : StockRecord). cond (eqb r.article a && passes r.aisle r.cell) r.quantity 0) stock

-- passed cells serve a list: for each line the stock of its article in them that counts is at least the quantity
unfoldable pub Serves : Job → (ℕ → ℕ → Bool) → Type 0
Serves job passes = (l : OrderLine) → Memᴰ l job.lines → l.quantity ≤ supply passes (open_stock job) l.article

-- the same as a test
unfoldable pub serves : Job → (ℕ → ℕ → Bool) → Bool
serves job passes = all_of (λ (l : OrderLine). leb l.quantity (supply passes (open_stock job) l.article)) job.lines

-- a plan serves the list of a job
unfoldable pub PlanServes : Job → Plan → Type 0
PlanServes job plan = Serves job (plan_passes plan)

-- a walk serves the list of a job
unfoldable pub WalkServes : Job → Walk → Type 0
WalkServes job walk = Serves job (walk_passes job.layout walk)
