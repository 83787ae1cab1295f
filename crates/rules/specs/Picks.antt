-- Document 01, "Policies", the picks: through aisles, then cells, upwards; from each passed cell
-- what its line still lacks, as far as stock goes.
use Rattle.std.specs.Prelude.{ℕ, ◌-◌, min, ◌≤◌, ◌<◌, ◌≡◌, ◌⊎◌, Bool, true, false, cond, ◌&&◌, ltb, eqb}
use mathlib.Core.List.{List, [], ◌∷◌, map, Memᴰ}
use Rattle.std.proofs.Math.Option.{Option, none, some}
use Rattle.rules.specs.declared.Layout.{Layout}
use Rattle.rules.specs.declared.StockRecord.{StockRecord}
use Rattle.rules.specs.declared.OrderLine.{OrderLine}
use Rattle.rules.specs.declared.Pick.{Pick}
use Rattle.rules.specs.Lists.{from, concat_of, sum_of, first_of}
use Rattle.rules.specs.Store.{Point}
use Rattle.rules.specs.Jobs.{Job, open_stock}
use Rattle.rules.specs.Plans.{Plan, plan_passes}

-- all cells, through aisles, then cells, upwards
unfoldable pub cells_of : Layout → List Point
cells_of z = concat_of (λ j. map (λ c. record { aisle = j; height = c }) (from 1 z.cells)) (from 1 z.aisles)

-- what the lines still lack of an article
unfoldable pub lack_of : List OrderLine → ℕ → ℕ
lack_of lacking a = sum_of (λ (l : OrderLine). cond (eqb l.article a) l.quantity 0) lacking

-- the lines with n fewer lacking of an article
unfoldable pub less_of : ℕ → ℕ → List OrderLine → List OrderLine
less_of a n lacking =
    map (λ (l : OrderLine). record { article = l.article; quantity = cond (eqb l.article a) (l.quantity - n) l.quantity }) lacking

-- the record of a cell
unfoldable pub record_at : List StockRecord → Point → Option StockRecord
record_at stock x = first_of (λ (r : StockRecord). eqb r.aisle x.aisle && eqb r.cell x.height) stock

-- how much is taken of a record: what its line lacks, as far as stock goes
unfoldable pub taken : List OrderLine → StockRecord → ℕ
taken lacking r = min (lack_of lacking r.article) r.quantity

-- a pick of that many, if above zero, before the others
abbrev pub add_pick : StockRecord → ℕ → List Pick → List Pick
add_pick r n picks =
    cond (ltb 0 n) (record { aisle = r.aisle; cell = r.cell; article = r.article; quantity = n } ∷ picks) picks

-- the picks from the records of passed cells, in the order of the records; the lines lack what `lacking` says
abbrev pub picks_from : List OrderLine → List StockRecord → List Pick
picks_from lacking [] = []
picks_from lacking (r ∷ rs) =
    add_pick r (taken lacking r) (picks_from (less_of r.article (taken lacking r) lacking) rs)

-- the record of a cell as a list, if the cell is passed and has one
abbrev pub found : Bool → Option StockRecord → List StockRecord
found passed none = []
found true (some r) = r ∷ []
found false (some r) = []

-- the records of the passed cells that count, in the order of the cells
unfoldable pub passed_records : Job → Plan → List StockRecord
passed_records job plan =
    concat_of (λ (x : Point). found (plan_passes plan x.aisle x.height) (record_at (open_stock job) x)) (cells_of job.layout)

-- the picks of a plan
unfoldable pub picks_of : Job → Plan → List Pick
picks_of job plan = picks_from job.lines (passed_records job plan)

-- a pick takes from a record of the stock that counts, in a cell that the plan passes: more than nothing, and no more than there is
pub record TakenFrom (job : Job) (plan : Plan) (x : Pick) (r : StockRecord) : Type 0 where
  pub in_stock : Memᴰ r (open_stock job)
  pub passed : plan_passes plan r.aisle r.cell ≡ true
  pub aisle : x.aisle ≡ r.aisle
  pub cell : x.cell ≡ r.cell
  pub article : x.article ≡ r.article
  pub some : 1 ≤ x.quantity
  pub no_more : x.quantity ≤ r.quantity

-- through aisles, then cells, upwards
unfoldable pub CellBefore : (i b j c : ℕ) → Type 0
CellBefore i b j c = (i < j) ⊎ ((i ≡ j) × (b < c))

-- a pick stands before another
unfoldable pub PickBefore : Pick → Pick → Type 0
PickBefore x y = CellBefore x.aisle x.cell y.aisle y.cell
