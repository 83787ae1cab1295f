-- Every call's answer goes by the table of refusals: the first cause that applies, or none.
use Prim.Native.Nat.{ℕ, suc, ◌≤◌, ◌<◌}
use native.Mathlib.Omega.{arith}
use mathlib.Core.Path.{◌≡◌, refl, sym, ◌∙◌, ap, subst}
use mathlib.Core.Logic.{◌↔◌, ⊎_elim}
use mathlib.Core.List.Memᴰ
use mathlib.Core.List.{List, [], ◌∷◌, ◌++◌, map, Memᴰ}
use mathlib.Core.Bool.{Bool, true, false, not, ◌||◌, true≢false, false≢true}
use mathlib.Core.Option.{Option, none, some}
use borrow.Author.Tests.{ltb-true, lt-ltb, le-ltb, ltb-false, not-false}
use lib.Dec.{ltb}
use lib.ListN.{length, drop}
use Rattle.rules.specs.declared.Refusal.{Refusal}
use Rattle.rules.specs.declared.Refusal.TheVariants.{WorkArea, NotAJobFile, LayoutBounds, StockBounds, CellTwice, HoursBounds, ListBounds, ArticleTwice, TooHeavy, ShortOfStock, SheetSpace, PageSpace}
use Rattle.std.specs.declared.result.Result.TheVariants.{Ok, Err}
use Rattle.rules.specs.Lists.{any_of, any_two, nth, Sorted}
use Rattle.rules.specs.Store.{layout_in_bounds}
use Rattle.rules.specs.Hours.{hours_in_bounds}
use Rattle.rules.specs.Jobs.{Job}
use Rattle.rules.specs.JobFile.{read_job}
use Rattle.rules.specs.Refusals.{stock_in_bounds, same_cell, list_in_bounds, same_article, weight, short_of_stock, work_limit, is_none, of_job, table, first_row, cleared, work_after, Admitted}
use Rattle.rules.specs.Sheet.{sheet_text}
use Rattle.rules.specs.Answers.{Answer, refused, served, decided, answer}
use Rattle.rules.proofs.Lists.{any_true, place_member, sorted_by, sorted_from}
use Rattle.rules.proofs.Reading.{job_file}
use Rattle.rules.proofs.Admission.{OtherwiseAdmitted, admitted_apart, layout_within, stock_within, hours_within, list_within, same_cell_lem, same_article_lem, line_out_of_stock}
use Rattle.tours.proofs.Basics.{same_number}
use Rattle.promises.specs.Causes.{JobFileOf, TwoAlike, here, later, SameCell, SameArticle, LineOutOfStock, Cause, OfJob, table_row, FirstCause}

-- bytes are read as a job exactly if they are its job file
pub job_file_read : (bytes : List ℕ) (job : Job) → (read_job bytes ≡ some job) ↔ JobFileOf bytes job
job_file_read bytes job =
    let t = job_file bytes job in (
      λ e. (let v = t.0 e in record { writable = v.0; short = v.1; text = v.2 }),
      λ f. t.1 (f.writable, f.short, f.text),
    )

-- tests and what they say
or-true : (b : Bool) → b || true ≡ true
or-true true = refl
or-true false = refl

pub untrue : (b : Bool) → (b ≡ true → ⊥) → b ≡ false
untrue true n = absurd (n refl)
untrue false n = refl

not_said : {P : Type 0} (b : Bool) → (b ≡ true) ↔ P → (not b ≡ true) ↔ (P → ⊥)
not_said true t = (λ e. absurd (false≢true e), λ n. absurd (n (t.0 refl)))
not_said false t = (λ e p. false≢true (t.1 p), λ n. refl)

pub two_said : {A : Type 0} (alike : A → A → Bool) (Alike : A → A → Type 0) → ((x y : A) → (alike x y ≡ true) ↔ Alike x y) → (xs : List A) → (any_two alike xs ≡ true) ↔ TwoAlike Alike xs
two_said {A} alike Alike says xs = (found xs, told)
  where
    found : (ys : List A) → any_two alike ys ≡ true → TwoAlike Alike ys
    found [] h = absurd (false≢true h)
    found (y ∷ ys) h = go (any_of (alike y) ys) refl h (found ys)
      where
        go : (b : Bool) → any_of (alike y) ys ≡ b → b || any_two alike ys ≡ true → (any_two alike ys ≡ true → TwoAlike Alike ys) → TwoAlike Alike (y ∷ ys)
        go true e h rest = let t = (any_true (alike y) ys).0 e in here t.1 ((says y t.0).0 t.2)
        go false e h rest = later (rest h)

    told : {ys : List A} → TwoAlike Alike ys → any_two alike ys ≡ true
    told (here {x = w} {y = v} {xs = ws} m a) = rw ((any_true (alike w) ws).1 (v, m, (says w v).1 a))
    told (later {x = w} {xs = ws} t) = rw (told t) (or-true (any_of (alike w) ws))

less_said : (a b : ℕ) → (ltb a b ≡ true) ↔ (a < b)
less_said a b = (ltb-true a b, lt-ltb a b)

module _ (bytes : List ℕ) where
  none_said : (is_none (read_job bytes) ≡ true) ↔ Cause NotAJobFile bytes [] []
  none_said = (λ e job f. no_job_lem (read_job bytes) e ((job_file_read bytes job).1 f), λ n. go (read_job bytes) refl n)
    where
      no_job_lem : {job : Job} (o : Option Job) → is_none o ≡ true → o ≡ some job → ⊥
      no_job_lem none e f = let z : ◌≡◌ {A = ℕ} 0 1 = cc in omega arith
      no_job_lem (some job) e f = false≢true e

      go : (o : Option Job) → read_job bytes ≡ o → ((job : Job) → JobFileOf bytes job → ⊥) → is_none o ≡ true
      go none e n = refl
      go (some job) e n = absurd (n job ((job_file_read bytes job).0 e))

  of_job_said : (t : Job → Bool) (P : Job → Type 0) → ((job : Job) → (t job ≡ true) ↔ P job) → (of_job (read_job bytes) t ≡ true) ↔ OfJob bytes P
  of_job_said t P says = (go (read_job bytes) refl, λ h. rw ((job_file_read bytes h.0).1 h.1) ((says h.0).1 h.2))
    where
      go : (o : Option Job) → read_job bytes ≡ o → of_job o t ≡ true → OfJob bytes P
      go none e h = absurd (false≢true h)
      go (some job) e h = (job, (job_file_read bytes job).0 e, (says job).0 h)

-- whether the cause of a row applies, once the bytes are read
abbrev applies : Refusal → Option Job → List ℕ → List ℕ → Bool
applies WorkArea o sheet work = ltb (length work) work_limit
applies NotAJobFile o sheet work = is_none o
applies LayoutBounds o sheet work = of_job o (λ job. not (layout_in_bounds job.layout))
applies StockBounds o sheet work = of_job o (λ job. not (stock_in_bounds job))
applies CellTwice o sheet work = of_job o (λ job. any_two same_cell job.stock)
applies HoursBounds o sheet work = of_job o (λ job. not (hours_in_bounds job.layout.aisles job.hours))
applies ListBounds o sheet work = of_job o (λ job. not (list_in_bounds job))
applies ArticleTwice o sheet work = of_job o (λ job. any_two same_article job.lines)
applies TooHeavy o sheet work = of_job o (λ job. ltb 256 (weight job.lines))
applies ShortOfStock o sheet work = of_job o (λ job. short_of_stock job)
applies SheetSpace o sheet work = of_job o (λ job. ltb (length sheet) (length (sheet_text job)))
applies PageSpace o sheet work = false

applies_said : (r : Refusal) (bytes sheet work : List ℕ) → (applies r (read_job bytes) sheet work ≡ true) ↔ Cause r bytes sheet work
unfolding SameCell SameArticle LineOutOfStock
applies_said WorkArea bytes sheet work = less_said (length work) work_limit
applies_said NotAJobFile bytes sheet work = none_said bytes
applies_said LayoutBounds bytes sheet work =
    of_job_said bytes _ _ (λ job. not_said (layout_in_bounds job.layout) (layout_within job.layout))
applies_said StockBounds bytes sheet work = of_job_said bytes _ _ (λ job. not_said (stock_in_bounds job) (stock_within job))
applies_said CellTwice bytes sheet work = of_job_said bytes _ _ (λ job. two_said same_cell SameCell same_cell_lem job.stock)
applies_said HoursBounds bytes sheet work =
    of_job_said bytes _ _ (λ job. not_said (hours_in_bounds job.layout.aisles job.hours) (hours_within job.layout.aisles job.hours))
applies_said ListBounds bytes sheet work = of_job_said bytes _ _ (λ job. not_said (list_in_bounds job) (list_within job))
applies_said ArticleTwice bytes sheet work = of_job_said bytes _ _ (λ job. two_said same_article SameArticle same_article_lem job.lines)
applies_said TooHeavy bytes sheet work = of_job_said bytes _ _ (λ job. less_said 256 (weight job.lines))
applies_said ShortOfStock bytes sheet work = of_job_said bytes _ _ line_out_of_stock
applies_said SheetSpace bytes sheet work = of_job_said bytes _ _ (λ job. less_said (length sheet) (length (sheet_text job)))
applies_said PageSpace bytes sheet work = (λ e. absurd (false≢true e), λ c. absurd c)

-- the rows of the table: the first, and those that speak of the job file
abbrev file_rows : List Refusal
file_rows =
    NotAJobFile ∷ LayoutBounds ∷ StockBounds ∷ CellTwice ∷ HoursBounds ∷ ListBounds ∷ ArticleTwice ∷ TooHeavy ∷ ShortOfStock ∷ SheetSpace ∷ []

abbrev table_rows : List Refusal
table_rows = WorkArea ∷ file_rows

-- and #103's, behind them
abbrev pub all_rows : List Refusal
all_rows = table_rows ++ (PageSpace ∷ [])

-- every refusal stands in its row
pub row_of : (r : Refusal) → (table_row r < 12) × (nth all_rows (suc (table_row r)) WorkArea ≡ r)
row_of WorkArea = (omega arith, refl)
row_of NotAJobFile = (omega arith, refl)
row_of LayoutBounds = (omega arith, refl)
row_of StockBounds = (omega arith, refl)
row_of CellTwice = (omega arith, refl)
row_of HoursBounds = (omega arith, refl)
row_of ListBounds = (omega arith, refl)
row_of ArticleTwice = (omega arith, refl)
row_of TooHeavy = (omega arith, refl)
row_of ShortOfStock = (omega arith, refl)
row_of SheetSpace = (omega arith, refl)
row_of PageSpace = (omega arith, refl)

in_rows : (r : Refusal) → Memᴰ r all_rows
in_rows r = let t = row_of r in subst (λ (q : Refusal). Memᴰ q all_rows) t.1 (place_member WorkArea all_rows (table_row r) t.0)

-- and one with a cause is in the table of document 01
in_table : (r : Refusal) (bytes sheet work : List ℕ) → Cause r bytes sheet work → Memᴰ r table_rows
in_table r bytes sheet work c =
    ⊎_elim (λ m. m) (λ m. absurd (subst (λ q. Cause q bytes sheet work) (Memᴰ.eq_of_singleton m) c)) (Memᴰ.append_cases table_rows (in_rows r))

pub same_row : (q r : Refusal) → table_row q ≡ table_row r → q ≡ r
same_row q r e = sym (row_of q).1 ∙ ap (λ n. nth all_rows (suc n) WorkArea) e ∙ (row_of r).1

module _ (t : Refusal → Bool) where
  abbrev tested : List Refusal → List (Bool × Refusal)
  tested rows = map (λ r. (t r, r)) rows

  -- the first of the rows whose test holds, or none
  abbrev FirstOf : List Refusal → Option Refusal → Type 0
  FirstOf rows none = (q : Refusal) → Memᴰ q rows → t q ≡ false
  FirstOf rows (some r) = (t r ≡ true) × ((q : Refusal) → Memᴰ q rows → table_row q < table_row r → t q ≡ false)

  first_of : (rows : List Refusal) → Sorted (λ p q. table_row p < table_row q) rows → FirstOf rows (first_row (tested rows))
  first_of [] s = λ q m. absurd (Memᴰ.not-nil m)
  first_of (x ∷ rows) s = subst (λ o. FirstOf (x ∷ rows) o) (sym (row_first (t x))) (go (t x) refl (first_row (tested rows)) (first_of rows s.1))
    where
      row_first : (b : Bool) → first_row ((b, x) ∷ tested rows) ≡ elim b as (λ w. Option Refusal) [ true ↦ some x | false ↦ first_row (tested rows) ]
      row_first true = refl
      row_first false = refl

      above : (q : Refusal) → Memᴰ q (x ∷ rows) → table_row q < table_row x → ⊥
      above q (Memᴰ.head e) l = omega (arith, ap table_row e)
      above q (Memᴰ.tail m) l = omega (arith, s.0 q m)

      put : {P : Refusal → Type 0} → t x ≡ false → ((q : Refusal) → Memᴰ q rows → P q → t q ≡ false) → (q : Refusal) → Memᴰ q (x ∷ rows) → P q → t q ≡ false
      put e f q (Memᴰ.head h) p = ap t h ∙ e
      put e f q (Memᴰ.tail m) p = f q m p

      go : (b : Bool) → t x ≡ b → (o : Option Refusal) → FirstOf rows o → FirstOf (x ∷ rows) (elim b as (λ w. Option Refusal) [ true ↦ some x | false ↦ o ])
      go true e o f = (e, λ q m l. absurd (above q m l))
      go false e none f = λ q m. put {P = λ r. Unit {0}} e (λ r n p. f r n) q m tt
      go false e (some r) f = (f.0, put {P = λ q. table_row q < table_row r} e f.1)

module _ (sheet work : List ℕ) where
  -- what a call answers that read this, when the first cause that applies is that
  abbrev AnswersFor : Option Job → Option Refusal → Answer → Type 0
  AnswersFor o none a =
      (job : Job) × (o ≡ some job)
      × (a ≡ record { reply = Ok (length (sheet_text job)); sheet = sheet_text job ++ drop (length (sheet_text job)) sheet; work = cleared work })
  AnswersFor o (some r) a = a ≡ record { reply = Err r; sheet = sheet; work = work_after r work }

module _ (bytes sheet work : List ℕ) where
  -- the first cause that applies, or none
  abbrev first_cause : Option Refusal
  first_cause = first_row (tested (λ r. applies r (read_job bytes) sheet work) table_rows)

  answers_for : AnswersFor sheet work (read_job bytes) first_cause (answer bytes sheet work)
  unfolding answer refused served
  answers_for = by (read_job bytes)
    where
      by : (read : Option Job) → AnswersFor sheet work read (first_row (table read sheet work)) (decided (first_row (table read sheet work)) read sheet work)
      by none = area (ltb (length work) work_limit) _
        where
          area : (b : Bool) (rest : List (Bool × Refusal))
              → AnswersFor sheet work none (first_row ((b, WorkArea) ∷ (true, NotAJobFile) ∷ rest)) (decided (first_row ((b, WorkArea) ∷ (true, NotAJobFile) ∷ rest)) none sheet work)
          area true rest = refl
          area false rest = refl
      by (some job) = row (first_row (table (some job) sheet work))
        where
          row : (q : Option Refusal) → AnswersFor sheet work (some job) q (decided q (some job) sheet work)
          row none = (job, refl, refl)
          row (some r) = refl

  -- what the tests say of the first cause
  abbrev CausedBy : Option Refusal → Type 0
  CausedBy none = (q : Refusal) → Cause q bytes sheet work → ⊥
  CausedBy (some r) = FirstCause r bytes sheet work

  caused_by : CausedBy first_cause
  caused_by = go first_cause (first_of (λ r. applies r (read_job bytes) sheet work) table_rows (sorted_by table_row ◌<◌ table_rows (sorted_from 0 11)))
    where
      absent : (q : Refusal) → (Memᴰ q table_rows → applies q (read_job bytes) sheet work ≡ false) → Cause q bytes sheet work → ⊥
      absent q e c = true≢false (sym ((applies_said q bytes sheet work).1 c) ∙ e (in_table q bytes sheet work c))

      go : (o : Option Refusal) → FirstOf (λ r. applies r (read_job bytes) sheet work) table_rows o → CausedBy o
      go none f = λ q c. absent q (f q) c
      go (some r) f = record { applies = (applies_said r bytes sheet work).0 f.0; none_above = λ q l c. absent q (λ m. f.1 q m l) c }

  -- there is one first cause
  one_first_cause : (q r : Refusal) → FirstCause q bytes sheet work → FirstCause r bytes sheet work → q ≡ r
  one_first_cause q r f g =
      same_row q r (same_number (table_row q) (table_row r) (λ l. g.none_above q l f.applies) (λ l. f.none_above r l g.applies))

  -- no row of the table applies
  abbrev pub NoCause : Type 0
  NoCause = (r : Refusal) → Cause r bytes sheet work → ⊥

  -- the first cause refuses the call
  pub refused_for : (r : Refusal) → FirstCause r bytes sheet work → answer bytes sheet work ≡ record { reply = Err r; sheet = sheet; work = work_after r work }
  refused_for r f = go first_cause answers_for caused_by
    where
      go : (o : Option Refusal) → AnswersFor sheet work (read_job bytes) o (answer bytes sheet work) → CausedBy o → answer bytes sheet work ≡ record { reply = Err r; sheet = sheet; work = work_after r work }
      go none a c = absurd (c r f.applies)
      go (some q) a c = a ∙ ap (λ p. record { reply = Err p; sheet = sheet; work = work_after p work }) (one_first_cause q r c f)

  -- and a refused call has it
  pub refused_by : (r : Refusal) → (answer bytes sheet work).reply ≡ Err r → FirstCause r bytes sheet work
  refused_by r e = go first_cause answers_for caused_by
    where
      go : (o : Option Refusal) → AnswersFor sheet work (read_job bytes) o (answer bytes sheet work) → CausedBy o → FirstCause r bytes sheet work
      go none a c = let f = ap (λ x. x.reply) a.2 in let z : ◌≡◌ {A = ℕ} 0 1 = cc in absurd (omega arith)
      go (some q) a c =
          let f = ap (λ x. x.reply) a in
          let same : q ≡ r = cc in
          subst (λ p. FirstCause p bytes sheet work) same c

  -- a call that no cause applies to writes the sheet of its job
  pub served_for : NoCause → (job : Job) × (read_job bytes ≡ some job) × (answer bytes sheet work ≡ record { reply = Ok (length (sheet_text job)); sheet = sheet_text job ++ drop (length (sheet_text job)) sheet; work = cleared work })
  served_for n = go first_cause answers_for caused_by
    where
      go : (o : Option Refusal) → AnswersFor sheet work (read_job bytes) o (answer bytes sheet work) → CausedBy o → AnswersFor sheet work (read_job bytes) none (answer bytes sheet work)
      go none a c = a
      go (some q) a c = absurd (n q c.applies)

  -- and no cause applies to a served call
  pub served_by : (n : ℕ) → (answer bytes sheet work).reply ≡ Ok n → NoCause
  served_by n e = go first_cause answers_for caused_by
    where
      go : (o : Option Refusal) → AnswersFor sheet work (read_job bytes) o (answer bytes sheet work) → CausedBy o → NoCause
      go none a c = c
      go (some q) a c = let f = ap (λ x. x.reply) a in let z : ◌≡◌ {A = ℕ} 0 1 = cc in absurd (omega arith)

  -- the test of a row whose cause does not apply
  row_fails : (job : Job) → read_job bytes ≡ some job → (q : Refusal) → (Cause q bytes sheet work → ⊥) → applies q (some job) sheet work ≡ false
  row_fails job e q n = untrue (applies q (some job) sheet work) (λ h. n ((applies_said q bytes sheet work).0 (ap (λ o. applies q o sheet work) e ∙ h)))

  -- a job to which no row above that of the stock applies
  pub above_stock : ((q : Refusal) → table_row q < table_row ShortOfStock → Cause q bytes sheet work → ⊥) → (job : Job) → read_job bytes ≡ some job → OtherwiseAdmitted job
  above_stock n job e =
      record {
        layout = not-false (layout_in_bounds job.layout) (fails LayoutBounds (omega arith));
        stock = not-false (stock_in_bounds job) (fails StockBounds (omega arith));
        cells_once = fails CellTwice (omega arith);
        hours = not-false (hours_in_bounds job.layout.aisles job.hours) (fails HoursBounds (omega arith));
        list = not-false (list_in_bounds job) (fails ListBounds (omega arith));
        articles_once = fails ArticleTwice (omega arith);
        light = ltb-false 256 (weight job.lines) (fails TooHeavy (omega arith));
      }
    where
      fails : (q : Refusal) → table_row q < table_row ShortOfStock → applies q (some job) sheet work ≡ false
      fails q l = row_fails job e q (n q l)

  -- and the other way round
  pub stock_reached : (job : Job) → read_job bytes ≡ some job → OtherwiseAdmitted job → work_limit ≤ length work
      → (q : Refusal) → table_row q < table_row ShortOfStock → Cause q bytes sheet work → ⊥
  stock_reached job e o w r l c = true≢false (sym ((applies_said r bytes sheet work).1 c) ∙ ap (λ x. applies r x sheet work) e ∙ fails r l)
    where
      fails : (q : Refusal) → table_row q < table_row ShortOfStock → applies q (some job) sheet work ≡ false
      fails WorkArea l = le-ltb (length work) work_limit w
      fails NotAJobFile l = refl
      fails LayoutBounds l = ap not o.layout
      fails StockBounds l = ap not o.stock
      fails CellTwice l = o.cells_once
      fails HoursBounds l = ap not o.hours
      fails ListBounds l = ap not o.list
      fails ArticleTwice l = o.articles_once
      fails TooHeavy l = le-ltb 256 (weight job.lines) o.light
      fails ShortOfStock l = absurd (omega arith)
      fails SheetSpace l = absurd (omega arith)
      fails PageSpace l = absurd (omega arith)

  -- a job to which no row above the last applies is admitted
  pub above_admitted : ((q : Refusal) → table_row q < table_row SheetSpace → Cause q bytes sheet work → ⊥) → (job : Job) → read_job bytes ≡ some job → Admitted job
  above_admitted n job e =
      (admitted_apart job).1 (above_stock (λ q l. n q (omega arith)) job e, row_fails job e ShortOfStock (n ShortOfStock (omega arith)))

  -- the job of a call that no cause applies to is admitted, and the sheet has space
  pub served_admitted : NoCause → (job : Job) → read_job bytes ≡ some job → Admitted job × (length (sheet_text job) ≤ length sheet)
  served_admitted n job e = (above_admitted (λ q l. n q) job e, ltb-false (length sheet) (length (sheet_text job)) (row_fails job e SheetSpace (n SheetSpace)))

  -- and no cause applies where a job is admitted and the lent space suffices
  pub admitted_served : (job : Job) → read_job bytes ≡ some job → Admitted job → work_limit ≤ length work → length (sheet_text job) ≤ length sheet → NoCause
  admitted_served job e a w s r c = true≢false (sym ((applies_said r bytes sheet work).1 c) ∙ ap (λ o. applies r o sheet work) e ∙ fails r)
    where
      fails : (q : Refusal) → applies q (some job) sheet work ≡ false
      fails WorkArea = le-ltb (length work) work_limit w
      fails NotAJobFile = refl
      fails LayoutBounds = ap not a.layout
      fails StockBounds = ap not a.stock
      fails CellTwice = a.cells_once
      fails HoursBounds = ap not a.hours
      fails ListBounds = ap not a.list
      fails ArticleTwice = a.articles_once
      fails TooHeavy = le-ltb 256 (weight job.lines) a.light
      fails ShortOfStock = a.in_stock
      fails SheetSpace = le-ltb (length sheet) (length (sheet_text job)) s
      fails PageSpace = refl
