-- The tests on what was read of a job are those of the job, and the first row that applies is its refusal.
use Prim.Native.Nat.{ℕ, ◌≤◌}
use mathlib.Core.Path.{◌≡◌, refl, sym, ◌∙◌, ap, ap₂}
use mathlib.Core.List.{List, [], ◌∷◌}
use mathlib.Core.Bool.{Bool, true, false, cond, ◌&&◌, not}
use mathlib.Core.Option.{Option, none, some}
use lib.Dec.{leb, ltb}
use lib.ListN.{length, take, drop}
use borrow.Author.Tests.{leb-true}
use Rattle.rules.specs.declared.StockRecord.{StockRecord}
use Rattle.rules.specs.declared.Window.{Window}
use Rattle.rules.specs.declared.OrderLine.{OrderLine}
use Rattle.rules.specs.declared.Refusal.{Refusal}
use Rattle.rules.specs.declared.Refusal.TheVariants.{NotAJobFile, LayoutBounds, StockBounds, CellTwice, HoursBounds, ListBounds, ArticleTwice, TooHeavy, ShortOfStock}
use Rattle.rules.specs.Lists.{all_of, any_two}
use Rattle.rules.specs.Store.{layout_in_bounds}
use Rattle.rules.specs.Hours.{Hours, NoHours, At, window_in_bounds, hours_in_bounds}
use Rattle.rules.specs.Jobs.{Job}
use Rattle.rules.specs.JobFile.{read_job}
use Rattle.rules.specs.Refusals.{record_in_bounds, stock_in_bounds, same_cell, list_in_bounds, same_article, weight, short_of_stock, first_row, job_rows, job_refusal, good, bad, check_job, check_bytes}
use Rattle.rules.specs.Looked.{looked, stock_tested, looked_on, looked_in, handed_on}
use Rattle.rules.proofs.Admission.{stock_within, hours_within, list_within, admitted}
use Rattle.rules.proofs.Numbers.{both_true}
use Rattle.values.specs.declared.JobValue.{JobValue}
use Rattle.std.specs.Prelude.{Some, None, IfSome, Ok, Err}
use Rattle.std.specs.Prelude.{Option as Clocked}
use Rattle.values.specs.declared.Clock.{Clock}
use Rattle.jobfile.specs.Ready.{few_windows}
use Rattle.values.specs.Values.{no_line, hours_of, job_of, Sound, no_window}
use Rattle.reading.specs.declared.raw.RawJob.{RawJob}
use Rattle.jobfile.specs.declared.verdict.Decision.{Decision}
use Rattle.jobfile.specs.declared.ReadJob.{ReadJob}
use Rattle.jobfile.specs.Ready.{StockReady, ListReady, Tested}
use Rattle.reading.specs.Kept.{no_record, padded, hours_value, job_value, raw_value, raw_of}
use Rattle.jobfile.specs.Answer.{Verdict, verdict_of, Tells, Decides, checked_as, checked_of, answer_to}
use Rattle.marks.proofs.Cells.{cells_bounded}
use Rattle.reading.proofs.Storing.{padded_all}
use Rattle.jobfile.proofs.Ranges.{hours_test}

-- the tests of the stock and of the list, as they are made on a value
abbrev pub stock_test : JobValue → Bool
stock_test v = leb v.records 384 && stock_in_bounds (job_of v)

abbrev pub list_test : JobValue → Bool
list_test v = leb v.orders 8 && list_in_bounds (job_of v)

-- a stock that has passed its tests
pub stock_ready : (v : JobValue) → layout_in_bounds v.layout ≡ true → stock_test v ≡ true → StockReady v
stock_ready v z e =
    let t = both_true (leb v.records 384) (stock_in_bounds (job_of v)) e in
    record { count = leb-true v.records 384 t.0; layout = z; stock = t.1 }

-- hours that have passed their tests
pub hours_ready : (m : ℕ) (hours : Clocked Clock) → few_windows hours && hours_in_bounds m (hours_of hours) ≡ true → IfSome hours (λ clock. clock.count ≤ 64)
hours_ready m None e = tt
hours_ready m (Some clock) e =
    leb-true clock.count 64 (both_true (leb clock.count 64) (hours_in_bounds m (hours_of (Some clock))) e).0

-- a list that has passed its tests
pub list_ready : (v : JobValue) → list_test v ≡ true → ListReady v
list_ready v e =
    let t = both_true (leb v.orders 8) (list_in_bounds (job_of v)) e in
    record { count = leb-true v.orders 8 t.0; list = t.1 }

-- all windows of hours within the bounds are kept
whole_hours : (m : ℕ) (hours : Hours) → hours_in_bounds m hours ≡ true → (hours_of (hours_value hours) ≡ hours) × IfSome (hours_value hours) (λ clock. clock.count ≤ 64)
whole_hours m NoHours e = (refl, tt)
whole_hours m (At t windows) e =
    let few = ((hours_within m (At t windows)).0 e).1 in
    (ap (At t) (padded_all 64 no_window windows few), few)

-- the test of the hours on their value is that of the hours
hours_same : (m : ℕ) (hours : Hours) → few_windows (hours_value hours) && hours_in_bounds m (hours_of (hours_value hours)) ≡ hours_in_bounds m hours
hours_same m NoHours = refl
hours_same m (At t windows) = go (leb (length windows) 64) refl
  where
    many : (b c : Bool) → false ≡ b && false && c
    many true c = refl
    many false c = refl

    go : (b : Bool) → leb (length windows) 64 ≡ b → b && hours_in_bounds m (hours_of (hours_value (At t windows))) ≡ hours_in_bounds m (At t windows)
    go true e = ap (λ (ws : List Window). hours_in_bounds m (At t ws)) (padded_all 64 no_window windows (leb-true (length windows) 64 e))
    go false e = rw e (many (leb t 1439) (all_of (window_in_bounds m) windows))

module _ (job : Job) where
  -- the job with other records, hours and lines
  abbrev among : List StockRecord → Hours → List OrderLine → Job
  among records hours lines = record { layout = job.layout; policy = job.policy; stock = records; hours = hours; lines = lines }

  -- all records are kept
  whole_stock : length job.stock ≤ 384 → (job_of (job_value job)).stock ≡ job.stock
  unfolding job_of job_value
  whole_stock h = padded_all 384 no_record job.stock h

  -- all lines are kept
  whole_lines : length job.lines ≤ 8 → (job_of (job_value job)).lines ≡ job.lines
  unfolding job_of job_value
  whole_lines h = padded_all 8 no_line job.lines h

  -- the whole job is kept
  whole_job : length job.stock ≤ 384 → hours_in_bounds job.layout.aisles job.hours ≡ true → length job.lines ≤ 8 → job_of (job_value job) ≡ job
  unfolding job_of job_value
  whole_job h w l =
      ap (λ (records : List StockRecord). among records (hours_of (hours_value job.hours)) (take (length job.lines) (padded 8 no_line job.lines))) (whole_stock h)
      ∙ ap₂ (among job.stock) (whole_hours job.layout.aisles job.hours w).0 (whole_lines l)

  -- the test of the stock is that of the job
  stock_same : stock_test (job_value job) ≡ stock_in_bounds job
  unfolding stock_in_bounds record_in_bounds job_of job_value
  stock_same = go (leb (length job.stock) 384) refl
    where
      go : (b : Bool) → leb (length job.stock) 384 ≡ b → b && stock_in_bounds (job_of (job_value job)) ≡ stock_in_bounds job
      go true e = ap (λ (records : List StockRecord). stock_in_bounds (among records job.hours job.lines)) (whole_stock (leb-true (length job.stock) 384 e))
      go false e = rw (stock_in_bounds, e)

  -- the test of the list is that of the job
  list_same : list_test (job_value job) ≡ list_in_bounds job
  unfolding list_in_bounds job_of job_value
  list_same = go (leb (length job.lines) 8) refl
    where
      go : (b : Bool) → leb (length job.lines) 8 ≡ b → b && list_in_bounds (job_of (job_value job)) ≡ list_in_bounds job
      go true e = ap (λ (lines : List OrderLine). list_in_bounds (among job.stock job.hours lines)) (whole_lines (leb-true (length job.lines) 8 e))
      go false e = rw (list_in_bounds, e)

-- the outcomes of the tests on what was read are those of the tests on the job
module _ (raw : RawJob) (job : Job) (e : raw ≡ raw_value job) {b : Bool} where
  layout_on : layout_in_bounds raw.job.layout ≡ b → layout_in_bounds job.layout ≡ b
  unfolding raw_value job_value
  layout_on t = sym (ap (λ (r : RawJob). layout_in_bounds r.job.layout) e) ∙ t

  stock_on : stock_test raw.job ≡ b → stock_in_bounds job ≡ b
  unfolding raw_value
  stock_on t = sym (stock_same job) ∙ sym (ap (λ (r : RawJob). stock_test r.job) e) ∙ t

  hours_on : hours_test raw.job ≡ b → hours_in_bounds job.layout.aisles job.hours ≡ b
  unfolding raw_value job_of job_value
  hours_on t = sym (hours_same job.layout.aisles job.hours) ∙ sym (ap (λ (r : RawJob). hours_test r.job) e) ∙ t

  list_on : list_test raw.job ≡ b → list_in_bounds job ≡ b
  unfolding raw_value
  list_on t = sym (list_same job) ∙ sym (ap (λ (r : RawJob). list_test r.job) e) ∙ t

module _ (raw : RawJob) (job : Job) (e : raw ≡ raw_value job) where
  -- all records of a stock within the bounds are kept
  stock_kept : stock_test raw.job ≡ true → length job.stock ≤ 384
  stock_kept t = ((stock_within job).0 (stock_on raw job e t)).count

  -- all lines of a list within the bounds are kept
  list_kept : list_test raw.job ≡ true → length job.lines ≤ 8
  list_kept t = ((list_within job).0 (list_on raw job e t)).count

  module _ {b : Bool} where
    cells_on : layout_in_bounds raw.job.layout ≡ true → stock_test raw.job ≡ true → raw.twice ≡ b → any_two same_cell job.stock ≡ b
    unfolding raw_value
    cells_on l s t = sym (cells_bounded job (layout_on raw job e l) (stock_on raw job e s)) ∙ sym (ap (λ (r : RawJob). r.twice) e) ∙ t

    articles_on : list_test raw.job ≡ true → any_two same_article (job_of raw.job).lines ≡ b → any_two same_article job.lines ≡ b
    unfolding raw_value
    articles_on l t =
        ap (any_two same_article) (sym (whole_lines job (list_kept l)))
        ∙ sym (ap (λ (r : RawJob). any_two same_article (job_of r.job).lines) e) ∙ t

    weight_on : list_test raw.job ≡ true → ltb 256 (weight (job_of raw.job).lines) ≡ b → ltb 256 (weight job.lines) ≡ b
    unfolding raw_value
    weight_on l t =
        ap (λ (lines : List OrderLine). ltb 256 (weight lines)) (sym (whole_lines job (list_kept l)))
        ∙ sym (ap (λ (r : RawJob). ltb 256 (weight (job_of r.job).lines)) e) ∙ t

    short_on : stock_test raw.job ≡ true → hours_test raw.job ≡ true → list_test raw.job ≡ true → short_of_stock (job_of raw.job) ≡ b → short_of_stock job ≡ b
    unfolding raw_value
    short_on s w l t =
        ap short_of_stock (sym (whole_job job (stock_kept s) (hours_on raw job e w) (list_kept l)))
        ∙ sym (ap (λ (r : RawJob). short_of_stock (job_of r.job)) e) ∙ t

  -- the records looked at are those of the job
  pub looked_on_lem : (n : ℕ) → stock_test raw.job ≡ true → hours_test raw.job ≡ true → list_test raw.job ≡ true
      → n ≡ looked (job_of raw.job) → looked job ≡ n
  unfolding raw_value
  looked_on_lem n s w l t =
      ap looked (sym (whole_job job (stock_kept s) (hours_on raw job e w) (list_kept l)))
      ∙ sym (ap (λ (r : RawJob). looked (job_of r.job)) e) ∙ sym t

-- the refusal of the job that was read is that of the rows
abbrev pub Rows : RawJob → (Job → List (Bool × Refusal)) → Type 0
Rows raw rows = (job : Job) → raw ≡ raw_value job → job_refusal job ≡ first_row (rows job)

-- it is that of the rows behind the first k
abbrev pub Past : ℕ → RawJob → Type 0
Past k raw = Rows raw (λ (job : Job). drop k (job_rows job))

-- each row in its turn, with the outcome of its test
module _ (raw : RawJob) (b : Bool) where
  pub row_layout : layout_in_bounds raw.job.layout ≡ b → Rows raw (λ (job : Job). (not b, LayoutBounds) ∷ drop 1 (job_rows job))
  unfolding job_refusal job_rows
  row_layout t job e = rw (job_refusal, job_rows, layout_on raw job e t)

  pub row_stock : Past 1 raw → stock_test raw.job ≡ b → Rows raw (λ (job : Job). (not b, StockBounds) ∷ drop 2 (job_rows job))
  unfolding job_rows
  row_stock h t job e = h job e ∙ rw (stock_on raw job e t)

  pub row_cells : Past 2 raw → layout_in_bounds raw.job.layout ≡ true → stock_test raw.job ≡ true → raw.twice ≡ b
      → Rows raw (λ (job : Job). (b, CellTwice) ∷ drop 3 (job_rows job))
  unfolding job_rows
  row_cells h l s t job e = h job e ∙ rw (cells_on raw job e l s t)

  pub row_hours : Past 3 raw → hours_test raw.job ≡ b → Rows raw (λ (job : Job). (not b, HoursBounds) ∷ drop 4 (job_rows job))
  unfolding job_rows
  row_hours h t job e = h job e ∙ rw (hours_on raw job e t)

  pub row_list : Past 4 raw → list_test raw.job ≡ b → Rows raw (λ (job : Job). (not b, ListBounds) ∷ drop 5 (job_rows job))
  unfolding job_rows
  row_list h t job e = h job e ∙ rw (list_on raw job e t)

  pub row_articles : Past 5 raw → list_test raw.job ≡ true → any_two same_article (job_of raw.job).lines ≡ b
      → Rows raw (λ (job : Job). (b, ArticleTwice) ∷ drop 6 (job_rows job))
  unfolding job_rows
  row_articles h l t job e = h job e ∙ rw (articles_on raw job e l t)

  pub row_weight : Past 6 raw → list_test raw.job ≡ true → ltb 256 (weight (job_of raw.job).lines) ≡ b
      → Rows raw (λ (job : Job). (b, TooHeavy) ∷ drop 7 (job_rows job))
  unfolding job_rows
  row_weight h l t job e = h job e ∙ rw (weight_on raw job e l t)

-- the stock test is left, and has that outcome
pub row_short : (raw : RawJob) (b : Bool) → Tested raw → short_of_stock (job_of raw.job) ≡ b → Rows raw (λ (job : Job). (b, ShortOfStock) ∷ [])
row_short raw b t q job e = t.last job e ∙ ap (λ (c : Bool). first_row ((c, ShortOfStock) ∷ [])) (short_on raw job e t.stock t.hours t.list q)

-- the decision on a job goes by its refusal
decision_by : (job : Job) (r : Option Refusal) → job_refusal job ≡ r
    → ◌≡◌ {A = Decision} record { verdict = verdict_of (job_refusal job); looked = handed_on (looked_on job) }
    record { verdict = verdict_of r; looked = handed_on (cond (stock_tested r) (some (looked job)) none) }
unfolding looked_on
decision_by job r e = ap (λ (q : Option Refusal). record { verdict = verdict_of q; looked = handed_on (cond (stock_tested q) (some (looked job)) none) }) e

-- the row of a refusal before 8 applies: no record is looked at
pub stopped : (raw : RawJob) (x : Refusal) → Tells raw (Err x) → Decides raw (record { verdict = Err x; looked = 0 })
unfolding Decides
stopped raw x t job e =
    sym (decision_by job (some x) (t.1 job e) ∙ ap (λ (b : Bool). record { verdict = Err x; looked = handed_on (cond b (some (looked job)) none) }) t.0)

-- none of them does: the stock test decides, and its number is handed on
pub tested : (raw : RawJob) (r : Option Refusal) (n : ℕ) → stock_tested r ≡ true → ((job : Job) → raw ≡ raw_value job → job_refusal job ≡ r)
    → ((job : Job) → raw ≡ raw_value job → looked job ≡ n) → Decides raw (record { verdict = verdict_of r; looked = n })
unfolding Decides
tested raw r n late h number job e =
    sym
    (decision_by job r (h job e)
    ∙ ap (λ (b : Bool). record { verdict = verdict_of r; looked = handed_on (cond b (some (looked job)) none) }) late
    ∙ ap (λ (k : ℕ). record { verdict = verdict_of r; looked = k }) (number job e))

-- a job to which no refusal applies is kept whole, and admitted
admitted_whole : (job : Job) → job_refusal job ≡ none → (job_of (job_value job) ≡ job) × Sound (job_value job)
unfolding job_value
admitted_whole job e =
    let a = (admitted job).0 e in
    let records = ((stock_within job).0 a.stock).count in
    let orders = ((list_within job).0 a.list).count in
    let windows = (whole_hours job.layout.aisles job.hours a.hours).1 in
    let same = whole_job job records a.hours orders in
    (same, record { record_count = records; order_count = orders; window_count = windows; admitted = rw same a })

-- what the answer comes to is what the bytes come to
checked : (s : List ℕ) → checked_of (answer_to (read_job s)) ≡ check_bytes s
unfolding check_bytes check_job answer_to
checked s = go (read_job s)
  where
    verdict : (job : Job) (o : Option Refusal) → job_refusal job ≡ o → checked_as (job_value job) (verdict_of o) ≡ elim o [ none ↦ good job | some x ↦ bad x ]
    verdict job none e = ap good (admitted_whole job e).0
    verdict job (some x) e = refl

    go : (o : Option Job) → checked_of (answer_to o) ≡ elim o [ none ↦ bad NotAJobFile | some job ↦ check_job job ]
    go none = refl
    go (some job) = verdict job (job_refusal job) refl

-- a refused job is not admitted
not_admitted : {C : Type 0} {x : Refusal} → ◌≡◌ {A = Verdict} (Err x) (Ok tt) → C
not_admitted e = cc

-- an admitted job is sound
sound : (o : Option Job) → (answer_to o).verdict ≡ Ok tt → Sound (answer_to o).job
unfolding answer_to
sound none q = not_admitted q
sound (some job) q = go (job_refusal job) refl q
  where
    go : (o : Option Refusal) → job_refusal job ≡ o → verdict_of o ≡ Ok tt → Sound (job_value job)
    go none e q = (admitted_whole job e).1
    go (some x) e q = not_admitted q

-- the number that is handed on
number_handed_on : (s : List ℕ) → (answer_to (read_job s)).looked ≡ handed_on (looked_in s)
unfolding answer_to looked_in
number_handed_on s = go (read_job s)
  where
    go : (o : Option Job) → (answer_to o).looked ≡ handed_on (elim o [ none ↦ none | some job ↦ looked_on job ])
    go none = refl
    go (some job) = refl

-- the answer to the bytes, and what follows of it
pub answered : (s : List ℕ) (r : ReadJob) → r ≡ answer_to (read_job s)
    → (checked_of r ≡ check_bytes s) × ((r.verdict ≡ Ok tt → Sound r.job) × ((r ≡ answer_to (read_job s)) × (r.looked ≡ handed_on (looked_in s))))
answered s r e = (
  ap checked_of e ∙ checked s,
  (λ q. rw e (sound (read_job s) (ap (λ (a : ReadJob). a.verdict) (sym e) ∙ q)), (e, ap (λ (a : ReadJob). a.looked) e ∙ number_handed_on s)),
)

-- no job was read
pub job_missing : (o : Option Job) → None ≡ raw_of o → o ≡ none
job_missing none e = refl
job_missing (some job) e = cc

-- a job was read
pub job_there : (o : Option Job) (raw : RawJob) → Some raw ≡ raw_of o → (job : Job) × (o ≡ some job) × (raw ≡ raw_value job)
job_there none raw e = cc
job_there (some job) raw e = (job, refl, cc)

-- the verdict on a job that was read
pub job_decided : (raw : RawJob) (job : Job) → raw ≡ raw_value job → (d : Decision) → Decides raw d
    → ◌≡◌ {A = ReadJob} record { verdict = d.verdict; job = raw.job; looked = d.looked } (answer_to (some job))
unfolding raw_value answer_to Decides
job_decided raw job e d by = ap₂ (λ (r : RawJob) (x : Decision). record { verdict = x.verdict; job = r.job; looked = x.looked }) e (by job e)
