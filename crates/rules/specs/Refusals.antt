-- Document 01, the bounds of "The store" and the table of refusals: causes, numbers, what is left, the first that applies;
-- request #103: row 11; request #106: row 12.
use Rattle.std.specs.Prelude.{ℕ, ◌+◌, ◌≤◌, ◌≡◌, Bool, true, false, cond, ◌&&◌, not, ltb, leb, eqb, length, take, drop, replicate}
use mathlib.Core.List.{List, [], ◌∷◌, ◌++◌, Memᴰ}
use Rattle.std.proofs.Math.Option.{Option, none, some}
use Rattle.rules.specs.declared.Layout.{Layout}
use Rattle.rules.specs.declared.StockRecord.{StockRecord}
use Rattle.rules.specs.declared.OrderLine.{OrderLine}
use Rattle.rules.specs.declared.Refusal.{Refusal}
use Rattle.rules.specs.declared.Refusal.TheVariants.{WorkArea, NotAJobFile, LayoutBounds, StockBounds, CellTwice, HoursBounds}
use Rattle.rules.specs.declared.Refusal.TheVariants.{ListBounds, ArticleTwice, TooHeavy, ShortOfStock, SheetSpace, PageSpace}
use Rattle.rules.specs.Lists.{sum_of, product_of, all_of, any_of, any_two}
use Rattle.rules.specs.Store.{within, layout_in_bounds}
use Rattle.rules.specs.Hours.{hours_in_bounds}
use Rattle.rules.specs.Jobs.{Job, open_stock}
use Rattle.rules.specs.JobFile.{read_job}
use Rattle.rules.specs.Sheet.{sheet_text}
use Rattle.rules.specs.Page.{page_text}

-- a stock record has aisle 1 to m, cell 1 to C, article 1 to 65,535, quantity 1 to 255
unfoldable pub record_in_bounds : Job → StockRecord → Bool
record_in_bounds job r =
    within 1 job.layout.aisles r.aisle
    && within 1 job.layout.cells r.cell
    && within 1 65535 r.article
    && within 1 255 r.quantity

-- stock records 0 to 384, each within its bounds
unfoldable pub stock_in_bounds : Job → Bool
stock_in_bounds job = leb (length job.stock) 384 && all_of (record_in_bounds job) job.stock

-- the same bounds, number by number; that the tests say so is proved (proofs/Admission)
pub record RecordWithin (z : Layout) (r : StockRecord) : Type 0 where
  pub aisle : (1 ≤ r.aisle) × (r.aisle ≤ z.aisles)
  pub cell : (1 ≤ r.cell) × (r.cell ≤ z.cells)
  pub article : (1 ≤ r.article) × (r.article ≤ 65535)
  pub quantity : (1 ≤ r.quantity) × (r.quantity ≤ 255)

pub record StockWithin (job : Job) : Type 0 where
  pub count : length job.stock ≤ 384
  pub records : (r : StockRecord) → Memᴰ r job.stock → RecordWithin job.layout r

-- two records of one cell
unfoldable pub same_cell : StockRecord → StockRecord → Bool
same_cell r s = eqb r.aisle s.aisle && eqb r.cell s.cell

-- an order line has an article, 1 to 65,535, and a quantity 1 to 255
unfoldable pub line_in_bounds : OrderLine → Bool
line_in_bounds l = within 1 65535 l.article && within 1 255 l.quantity

-- order lines 0 to 8, each within its bounds
unfoldable pub list_in_bounds : Job → Bool
list_in_bounds job = leb (length job.lines) 8 && all_of line_in_bounds job.lines

-- the same bounds, number by number
pub record LineWithin (l : OrderLine) : Type 0 where
  pub article : (1 ≤ l.article) × (l.article ≤ 65535)
  pub quantity : (1 ≤ l.quantity) × (l.quantity ≤ 255)

pub record ListWithin (job : Job) : Type 0 where
  pub count : length job.lines ≤ 8
  pub lines : (l : OrderLine) → Memᴰ l job.lines → LineWithin l

-- two lines of one article
unfoldable pub same_article : OrderLine → OrderLine → Bool
same_article k l = eqb k.article l.article

-- the weight of a list: the product of (quantity + 1) over its lines
unfoldable pub weight : List OrderLine → ℕ
weight lines = product_of (λ (l : OrderLine). l.quantity + 1) lines

-- the most that a list may weigh
abbrev pub weight_limit : ℕ
weight_limit = 256

-- all the stock of an article: the sum of the quantities in its records that count, those of open aisles
unfoldable pub all_stock : Job → ℕ → ℕ
all_stock job a = sum_of (λ (r : StockRecord). cond (eqb r.article a) r.quantity 0) (open_stock job)

-- some line exceeds all the stock of its article
unfoldable pub short_of_stock : Job → Bool
short_of_stock job = any_of (λ (l : OrderLine). ltb (all_stock job l.article) l.quantity) job.lines

-- the least number of 16-bit numbers in the work area
abbrev pub work_limit : ℕ
work_limit = 32768

-- whether the bytes read as no job
abbrev pub is_none : Option Job → Bool
is_none none = true
is_none (some job) = false

-- whether they read as a job of which the test holds
abbrev pub of_job : Option Job → (Job → Bool) → Bool
of_job none test = false
of_job (some job) test = test job

-- the table of refusals, top to bottom: whether the cause applies, and the refusal;
-- for what the job bytes read as, a lent sheet and a lent work area. (Request #106 has its row tried between 4 and 5)
abbrev pub table : Option Job → List ℕ → List ℕ → List (Bool × Refusal)
table read sheet work =
    (ltb (length work) work_limit, WorkArea)
    ∷ (is_none read, NotAJobFile)
    ∷ (of_job read (λ job. not (layout_in_bounds job.layout)), LayoutBounds)
    ∷ (of_job read (λ job. not (stock_in_bounds job)), StockBounds)
    ∷ (of_job read (λ job. any_two same_cell job.stock), CellTwice)
    ∷ (of_job read (λ job. not (hours_in_bounds job.layout.aisles job.hours)), HoursBounds)
    ∷ (of_job read (λ job. not (list_in_bounds job)), ListBounds)
    ∷ (of_job read (λ job. any_two same_article job.lines), ArticleTwice)
    ∷ (of_job read (λ job. ltb weight_limit (weight job.lines)), TooHeavy)
    ∷ (of_job read (λ job. short_of_stock job), ShortOfStock)
    ∷ (of_job read (λ job. ltb (length sheet) (length (sheet_text job))), SheetSpace)
    ∷ []

-- with #103's row, "tried after all of document 01's", for a call that is lent a page too
unfoldable pub page_table : Option Job → List ℕ → List ℕ → List ℕ → List (Bool × Refusal)
page_table read sheet page work =
    table read sheet work ++ ((of_job read (λ job. ltb (length page) (length (page_text job))), PageSpace) ∷ [])

-- the table's second column: the number of a refusal
abbrev pub number_of : Refusal → ℕ
number_of WorkArea = 10
number_of NotAJobFile = 1
number_of LayoutBounds = 2
number_of StockBounds = 3
number_of CellTwice = 4
number_of HoursBounds = 12
number_of ListBounds = 5
number_of ArticleTwice = 6
number_of TooHeavy = 7
number_of ShortOfStock = 8
number_of SheetSpace = 9
number_of PageSpace = 11

-- a work area that is all zero
unfoldable pub cleared : List ℕ → List ℕ
cleared work = replicate (length work) 0

-- the table's last column: the work area that a refusal leaves. (The sheet is left as it was by every one)
abbrev pub work_after : Refusal → List ℕ → List ℕ
work_after WorkArea work = work
work_after NotAJobFile work = work
work_after LayoutBounds work = work
work_after StockBounds work = work
work_after CellTwice work = work
work_after HoursBounds work = work
work_after ListBounds work = work
work_after ArticleTwice work = work
work_after TooHeavy work = work
work_after ShortOfStock work = work
work_after SheetSpace work = cleared work
work_after PageSpace work = cleared work

-- the refusal of the first row whose cause applies
abbrev pub first_row : List (Bool × Refusal) → Option Refusal
first_row [] = none
first_row ((true, r) ∷ rows) = some r
first_row ((false, r) ∷ rows) = first_row rows

-- the rows that a job alone decides, 2 to 8 and 12
unfoldable pub job_rows : Job → List (Bool × Refusal)
job_rows job = take 8 (drop 2 (table (some job) [] []))

-- the refusal of a job that could be read: the first that applies, or none
unfoldable pub job_refusal : Job → Option Refusal
job_refusal job = first_row (job_rows job)

-- what the bytes of a job file come to: a job to which no refusal applies, or the first refusal
pub data Checked : Type 0 where
  good : Job → Checked
  bad : Refusal → Checked

-- a job that could be read
unfoldable pub check_job : Job → Checked
check_job job = elim (job_refusal job) [ none ↦ good job | some r ↦ bad r ]

-- the refusals 1 to 8 and 12, in table order
unfoldable pub check_bytes : List ℕ → Checked
check_bytes bytes = elim (read_job bytes) [ none ↦ bad NotAJobFile | some job ↦ check_job job ]

-- a job to which none of these refusals applies
pub record Admitted (job : Job) : Type 0 where
  pub layout : layout_in_bounds job.layout ≡ true
  pub stock : stock_in_bounds job ≡ true
  pub cells_once : any_two same_cell job.stock ≡ false
  pub hours : hours_in_bounds job.layout.aisles job.hours ≡ true
  pub list : list_in_bounds job ≡ true
  pub articles_once : any_two same_article job.lines ≡ false
  pub light : weight job.lines ≤ weight_limit
  pub in_stock : short_of_stock job ≡ false
