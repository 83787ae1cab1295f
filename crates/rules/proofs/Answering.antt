-- What a call answers by what it looks at in turn: the work area, the job file (refusals 1 to 8 and 12), the sheet space.
use Prim.Native.Nat.{ℕ, ◌≤◌, ◌<◌}
use native.Mathlib.Omega.{arith}
use mathlib.Core.Path.{◌≡◌, refl, ◌∙◌, ap, subst}
use mathlib.Core.List.{List, [], ◌∷◌, ◌++◌}
use mathlib.Core.Bool.{Bool, true, false}
use mathlib.Core.Option.{Option, none, some}
use lib.Dec.{ltb}
use lib.ListN.{length}
use borrow.Author.Tests.{lt-ltb, le-ltb}
use Rattle.rules.specs.declared.Refusal.{Refusal}
use Rattle.rules.specs.declared.Refusal.TheVariants.{WorkArea, NotAJobFile, LayoutBounds, StockBounds, CellTwice, HoursBounds}
use Rattle.rules.specs.declared.Refusal.TheVariants.{ListBounds, ArticleTwice, TooHeavy, ShortOfStock, SheetSpace, PageSpace}
use Rattle.rules.specs.Jobs.{Job}
use Rattle.rules.specs.JobFile.{read_job}
use Rattle.rules.specs.Sheet.{sheet_text}
use Rattle.rules.specs.Refusals.{work_limit, table, number_of, first_row, job_rows, job_refusal, work_after, Checked, good, bad, check_job, check_bytes}
use Rattle.rules.specs.Answers.{refused, served, decided, answer}

-- a refusal's number is at most 12
pub number_small : (r : Refusal) → number_of r ≤ 12
number_small WorkArea = omega arith
number_small NotAJobFile = omega arith
number_small LayoutBounds = omega arith
number_small StockBounds = omega arith
number_small CellTwice = omega arith
number_small HoursBounds = omega arith
number_small ListBounds = omega arith
number_small ArticleTwice = omega arith
number_small TooHeavy = omega arith
number_small ShortOfStock = omega arith
number_small SheetSpace = omega arith
number_small PageSpace = omega arith

-- rows in front of other rows
abbrev pub or_rows : Option Refusal → List (Bool × Refusal) → Option Refusal
or_rows none more = first_row more
or_rows (some r) more = some r

pub rows_append : (rows more : List (Bool × Refusal)) → first_row (rows ++ more) ≡ or_rows (first_row rows) more
rows_append [] more = refl
rows_append ((true, q) ∷ rows) more = refl
rows_append ((false, q) ∷ rows) more = rows_append rows more

module _ (sheet work : List ℕ) where
  -- the last row, of a job
  abbrev space_row : Job → List (Bool × Refusal)
  space_row job = (ltb (length sheet) (length (sheet_text job)), SheetSpace) ∷ []

  -- the first refusal from row 1 on
  abbrev file_refusal : Option Job → Option Refusal
  file_refusal none = some NotAJobFile
  file_refusal (some job) = or_rows (job_refusal job) (space_row job)

  -- with a work area that is large enough, it is the table's
  table_row_lem : (read : Option Job) → work_limit ≤ length work → first_row (table read sheet work) ≡ file_refusal read
  unfolding job_refusal job_rows
  table_row_lem none h = rw (le-ltb (length work) work_limit h) refl
  table_row_lem (some job) h = rw (le-ltb (length work) work_limit h) (rows_append (job_rows job) (space_row job))

module _ (bytes : List ℕ) where
  -- what the job file comes to, and where it comes from
  data FileSays : Checked → Type 0 where
    no_file : read_job bytes ≡ none → FileSays (bad NotAJobFile)
    bad_job : (job : Job) (r : Refusal) → read_job bytes ≡ some job → job_refusal job ≡ some r → FileSays (bad r)
    good_job : (job : Job) → read_job bytes ≡ some job → job_refusal job ≡ none → FileSays (good job)

  file_says : FileSays (check_bytes bytes)
  unfolding check_bytes check_job
  file_says = read (read_job bytes) refl
    where
      judged : (job : Job) (o : Option Refusal) → read_job bytes ≡ some job → job_refusal job ≡ o → FileSays (elim o [ none ↦ good job | some r ↦ bad r ])
      judged job none e f = good_job job e f
      judged job (some r) e f = bad_job job r e f

      read : (o : Option Job) → read_job bytes ≡ o → FileSays (elim o [ none ↦ bad NotAJobFile | some job ↦ check_job job ])
      read none e = no_file e
      read (some job) e = judged job (job_refusal job) e refl

-- a job file that is good reads as its job
pub good_read : (bytes : List ℕ) (job : Job) → check_bytes bytes ≡ good job → read_job bytes ≡ some job
good_read bytes job = go (file_says bytes)
  where
    go : {c : Checked} → FileSays bytes c → c ≡ good job → read_job bytes ≡ some job
    go (no_file f) e = let z : ◌≡◌ {A = ℕ} 0 1 = cc in absurd (omega arith)
    go (bad_job j q f g) e = let z : ◌≡◌ {A = ℕ} 0 1 = cc in absurd (omega arith)
    go (good_job j f g) e = let same : j ≡ job = cc in f ∙ ap some same

module _ (bytes sheet work : List ℕ) where
  -- a work area that is too small: nothing is looked at
  pub answer_area : length work < work_limit → answer bytes sheet work ≡ refused WorkArea sheet work
  unfolding answer
  answer_area h = rw (lt-ltb (length work) work_limit h) refl

  module _ (h : work_limit ≤ length work) where
    by_file : {read : Option Job} → read_job bytes ≡ read → answer bytes sheet work ≡ decided (file_refusal sheet work read) read sheet work
    unfolding answer
    by_file {read} e = ap (λ o. decided (first_row (table o sheet work)) o sheet work) e ∙ ap (λ q. decided q read sheet work) (table_row_lem sheet work read h)

    -- a job file that is refused
    pub answer_bad : (r : Refusal) → check_bytes bytes ≡ bad r → answer bytes sheet work ≡ refused r sheet work
    answer_bad r = go (file_says bytes)
      where
        go : {c : Checked} → FileSays bytes c → c ≡ bad r → answer bytes sheet work ≡ refused r sheet work
        go (no_file f) e = let same : NotAJobFile ≡ r = cc in by_file f ∙ ap (λ q. refused q sheet work) same
        go (bad_job job q f g) e =
            let same : q ≡ r = cc in
            by_file f ∙ ap (λ o. decided (or_rows o (space_row sheet work job)) (some job) sheet work) g ∙ ap (λ p. refused p sheet work) same
        go (good_job job f g) e = let z : ◌≡◌ {A = ℕ} 0 1 = cc in absurd (omega arith)

    -- a job file that is good: the sheet space decides
    by_space : (job : Job) → check_bytes bytes ≡ good job → answer bytes sheet work ≡ decided (first_row (space_row sheet work job)) (some job) sheet work
    by_space job = go (file_says bytes)
      where
        go : {c : Checked} → FileSays bytes c → c ≡ good job → answer bytes sheet work ≡ decided (first_row (space_row sheet work job)) (some job) sheet work
        go (no_file f) e = let z : ◌≡◌ {A = ℕ} 0 1 = cc in absurd (omega arith)
        go (bad_job j q f g) e = let z : ◌≡◌ {A = ℕ} 0 1 = cc in absurd (omega arith)
        go (good_job j f g) e =
            let same : j ≡ job = cc in
            by_file f
            ∙ ap (λ o. decided (or_rows o (space_row sheet work j)) (some j) sheet work) g
            ∙ ap (λ k. decided (first_row (space_row sheet work k)) (some k) sheet work) same

    -- whose sheet is longer than its space
    pub answer_long : (job : Job) → check_bytes bytes ≡ good job → length sheet < length (sheet_text job) → answer bytes sheet work ≡ refused SheetSpace sheet work
    answer_long job e l = by_space job e ∙ ap (λ b. decided (first_row ((b, SheetSpace) ∷ [])) (some job) sheet work) (lt-ltb (length sheet) (length (sheet_text job)) l)

    -- and whose sheet has space
    pub answer_served : (job : Job) → check_bytes bytes ≡ good job → length (sheet_text job) ≤ length sheet → answer bytes sheet work ≡ served job sheet work
    answer_served job e l = by_space job e ∙ ap (λ b. decided (first_row ((b, SheetSpace) ∷ [])) (some job) sheet work) (le-ltb (length sheet) (length (sheet_text job)) l)

-- what every row has, the first that applies has
abbrev EachRow : (Refusal → Type 0) → List (Bool × Refusal) → Type 0
EachRow P [] = Unit {0}
EachRow P (row ∷ rows) = P row.1 × EachRow P rows

row_has : (P : Refusal → Type 0) (rows : List (Bool × Refusal)) (r : Refusal) → EachRow P rows → first_row rows ≡ some r → P r
row_has P [] r f e = let z : ◌≡◌ {A = ℕ} 0 1 = cc in absurd (omega arith)
row_has P ((true, q) ∷ rows) r f e = let same : q ≡ r = cc in subst P same f.0
row_has P ((false, q) ∷ rows) r f e = row_has P rows r f.1 e

-- the refusals 1 to 8 and 12 leave the work area as it was
pub file_refusal_lem : (bytes : List ℕ) (r : Refusal) → check_bytes bytes ≡ bad r → (work : List ℕ) → work ≡ work_after r work
unfolding job_refusal job_rows
file_refusal_lem bytes r e work = go (file_says bytes) e
  where
    rows_kept : (job : Job) (q : Refusal) → job_refusal job ≡ some q → work ≡ work_after q work
    rows_kept job q f = row_has (λ p. work ≡ work_after p work) (job_rows job) q (refl, (refl, (refl, (refl, (refl, (refl, (refl, (refl, tt)))))))) f

    go : {c : Checked} → FileSays bytes c → c ≡ bad r → work ≡ work_after r work
    go (no_file f) e = let same : NotAJobFile ≡ r = cc in subst (λ q. work ≡ work_after q work) same refl
    go (bad_job job q f g) e = let same : q ≡ r = cc in subst (λ p. work ≡ work_after p work) same (rows_kept job q g)
    go (good_job job f g) e = let z : ◌≡◌ {A = ℕ} 0 1 = cc in absurd (omega arith)
