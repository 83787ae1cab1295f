-- Document 01's table of refusals, with request #106's row: the cause of each row as a statement about the job file and the lent space.
use Rattle.std.specs.Prelude.{ℕ, ◌≤◌, ◌<◌, ◌≡◌, length}
use mathlib.Core.List.{List, ◌∷◌, Memᴰ}
use Rattle.rules.specs.declared.StockRecord.{StockRecord}
use Rattle.rules.specs.declared.OrderLine.{OrderLine}
use Rattle.rules.specs.declared.Refusal.{Refusal}
use Rattle.rules.specs.declared.Refusal.TheVariants.{WorkArea, NotAJobFile, LayoutBounds, StockBounds, CellTwice, HoursBounds, ListBounds, ArticleTwice, TooHeavy, ShortOfStock, SheetSpace, PageSpace}
use Rattle.rules.specs.Hours.{HoursWithin}
use Rattle.rules.specs.Jobs.{Job}
use Rattle.rules.specs.JobFile.{Writable, job_text, job_file_limit}
use Rattle.rules.specs.Refusals.{weight, weight_limit, all_stock, StockWithin, ListWithin, work_limit}
use Rattle.rules.specs.Sheet.{sheet_text}
use Rattle.rules.specs.Store.{LayoutWithin}

-- the bytes are the job file of a job: at most 16,384, and the job's text; its numbers are at most 65,535
pub record JobFileOf (bytes : List ℕ) (job : Job) : Type 0 where
  pub writable : Writable job
  pub short : length bytes ≤ job_file_limit
  pub text : job_text job ≡ bytes

-- two places of a list whose elements are alike
pub data TwoAlike {A : Type 0} (Alike : A → A → Type 0) : List A → Type 0 where
  here : {x y : A} {xs : List A} → Memᴰ y xs → Alike x y → TwoAlike Alike (x ∷ xs)
  later : {x : A} {xs : List A} → TwoAlike Alike xs → TwoAlike Alike (x ∷ xs)

unfoldable pub SameCell : StockRecord → StockRecord → Type 0
SameCell r s = (r.aisle ≡ s.aisle) × (r.cell ≡ s.cell)

unfoldable pub SameArticle : OrderLine → OrderLine → Type 0
SameArticle k l = k.article ≡ l.article

-- some line exceeds all the stock of its article, which is that of open aisles
unfoldable pub LineOutOfStock : Job → Type 0
LineOutOfStock job = (l : OrderLine) × Memᴰ l job.lines × (all_stock job l.article < l.quantity)

-- the bytes are a job file, and its job is such
abbrev pub OfJob : List ℕ → (Job → Type 0) → Type 0
OfJob bytes P = (job : Job) × JobFileOf bytes job × P job

-- the causes of the table, for job bytes, a lent sheet and a lent work area
abbrev pub Cause : Refusal → List ℕ → List ℕ → List ℕ → Type 0
Cause WorkArea bytes sheet work = length work < work_limit
Cause NotAJobFile bytes sheet work = (job : Job) → JobFileOf bytes job → ⊥
Cause LayoutBounds bytes sheet work = OfJob bytes (λ job. LayoutWithin job.layout → ⊥)
Cause StockBounds bytes sheet work = OfJob bytes (λ job. StockWithin job → ⊥)
Cause CellTwice bytes sheet work = OfJob bytes (λ job. TwoAlike SameCell job.stock)
Cause HoursBounds bytes sheet work = OfJob bytes (λ job. HoursWithin job.layout.aisles job.hours → ⊥)
Cause ListBounds bytes sheet work = OfJob bytes (λ job. ListWithin job → ⊥)
Cause ArticleTwice bytes sheet work = OfJob bytes (λ job. TwoAlike SameArticle job.lines)
Cause TooHeavy bytes sheet work = OfJob bytes (λ job. weight_limit < weight job.lines)
Cause ShortOfStock bytes sheet work = OfJob bytes LineOutOfStock
Cause SheetSpace bytes sheet work = OfJob bytes (λ job. length sheet < length (sheet_text job))
Cause PageSpace bytes sheet work = ⊥  -- no page is lent; with a page: `PageCause`

-- the place of a refusal's row in the table, from 0
abbrev pub table_row : Refusal → ℕ
table_row WorkArea = 0
table_row NotAJobFile = 1
table_row LayoutBounds = 2
table_row StockBounds = 3
table_row CellTwice = 4
table_row HoursBounds = 5
table_row ListBounds = 6
table_row ArticleTwice = 7
table_row TooHeavy = 8
table_row ShortOfStock = 9
table_row SheetSpace = 10
table_row PageSpace = 11

-- a refusal is the first of the table that applies: its cause does, and that of no row above it
pub record FirstCause (r : Refusal) (bytes sheet work : List ℕ) : Type 0 where
  pub applies : Cause r bytes sheet work
  pub none_above : (q : Refusal) → table_row q < table_row r → Cause q bytes sheet work → ⊥
