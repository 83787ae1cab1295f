-- What each cell of the store holds for the order lines, and which aisles are open.
use Rattle.std.specs.Prelude.{ℕ, suc, ◌+◌, ◌*◌, ◌-◌, ◌≤◌, ◌≡◌, List, [], ◌∷◌, cond, false, eqb, get_or}
use Rattle.std.specs.Prelude.{Option as Line, Some, None}
use Rattle.std.proofs.Math.Option.{Option, none, some}
use Rattle.rules.specs.declared.StockRecord.{StockRecord}
use Rattle.rules.specs.declared.OrderLine.{OrderLine}
use Rattle.rules.specs.Hours.{is_open}
use Rattle.rules.specs.Jobs.{Job, open_stock}
use Rattle.rules.specs.Picks.{record_at}
use Rattle.values.specs.declared.Shelf.{Shelf}

-- the number of the first line of an article, counted from k, if it is on one
abbrev pub line_from : ℕ → List OrderLine → ℕ → Line ℕ
line_from k [] a = None
line_from k (l ∷ ls) a = cond (eqb l.article a) (Some k) (line_from (suc k) ls a)

-- the same of a cell's record, counted from 0, and its quantity; no line and 0 of a cell without one
abbrev pub line_of : List OrderLine → Option StockRecord → Line ℕ
line_of lines none = None
line_of lines (some r) = line_from 0 lines r.article

abbrev pub quantity_of : Option StockRecord → ℕ
quantity_of none = 0
quantity_of (some r) = r.quantity

-- where a cell stands on the shelf: aisles, then cells, upwards, 24 cells for each aisle
abbrev pub cell_number : ℕ → ℕ → ℕ
cell_number j c = (j - 1) * 24 + (c - 1)

-- the shelf of a job, cell by cell
pub record ShelfOf (job : Job) (shelf : Shelf) : Type 0 where
  pub line_at_lem : (j c : ℕ) → 1 ≤ j → j ≤ 16 → 1 ≤ c → c ≤ 24
      → get_or shelf.line (cell_number j c) None ≡ line_of job.lines (record_at (open_stock job) (record { aisle = j; height = c }))
  pub quantity_at : (j c : ℕ) → 1 ≤ j → j ≤ 16 → 1 ≤ c → c ≤ 24
      → get_or shelf.quantity (cell_number j c) 0 ≡ quantity_of (record_at (open_stock job) (record { aisle = j; height = c }))
  pub open_at : (j : ℕ) → 1 ≤ j → j ≤ 16 → get_or shelf.open (j - 1) false ≡ is_open job.hours j
