-- Request #105: how many records the stock test looks at.
use Prim.Native.Nat.{ℕ, ◌≤◌, ◌<◌}
use mathlib.Core.Path.{◌≡◌, refl, sym, ap, ◌∙◌, subst}
use mathlib.Core.Logic.{◌↔◌}
use mathlib.Core.List.{List, [], ◌∷◌, Memᴰ}
use mathlib.Core.Bool.{Bool, true, false, cond}
use mathlib.Core.Option.{Option, none, some}
use native.Mathlib.Omega.{arith}
use lib.ListN.{length, take}
use Rattle.rules.specs.declared.OrderLine.{OrderLine}
use Rattle.rules.specs.declared.Refusal.{Refusal}
use Rattle.rules.specs.declared.Refusal.TheVariants.{NotAJobFile, ShortOfStock}
use Rattle.rules.specs.Lists.{sum_of}
use Rattle.rules.specs.Jobs.{Job}
use Rattle.rules.specs.JobFile.{read_job}
use Rattle.rules.specs.Refusals.{job_refusal, work_limit}
use Rattle.rules.specs.Looked.{looked_for, tested_lines, looked, stock_tested, looked_on, looked_in}
use Rattle.rules.proofs.Admission.{OtherwiseAdmitted, list_within}
use Rattle.rules.proofs.Lists.{sum_append}
use Rattle.rules.proofs.Looked as Looked
use Rattle.promises.specs.Causes.{OfJob, Cause, table_row}
use Rattle.promises.specs.StockTests.{LineShort, InStock, NoneShort, LeastHolding, AddedUp, LookedBounds}
use Rattle.promises.proofs.Table.{job_file_read, above_stock, stock_reached}
use Rattle.promises.proofs.Program.{read_start}

-- for a line that is not short
pub least : (job : Job) (l : OrderLine) → InStock job l → LeastHolding job l (looked_for job l)
unfolding InStock
least job l h = let (hold, fewer, within) = Looked.looked_least job l h in record { within = within; hold = hold; fewer_do_not = fewer }

-- for a short line
pub short : (job : Job) (l : OrderLine) → LineShort job l → looked_for job l ≡ length job.stock
unfolding LineShort
short job l h = Looked.looked_short job l h

-- the sum over the lines
pub added : (job : Job) → AddedUp job (looked job)
unfolding looked LineShort InStock NoneShort
added job =
    record {
      all_lines = λ h. ap (sum_of (looked_for job)) (Looked.tested_all job job.lines h);
      to_first_short = λ before after l e h s. (
          ap (λ lines. sum_of (looked_for job) (tested_lines job lines)) e
          ∙ ap (sum_of (looked_for job)) (Looked.tested_first job before l after h s)
          ∙ sum_append (looked_for job) before (l ∷ [])
          ∙ omega (arith, Looked.looked_short job l s)
          );
    }

-- a number is there for a job file whose job the stock test is made on
tested_job : (bytes : List ℕ) (n : ℕ) → looked_in bytes ≡ some n → (job : Job) × (read_job bytes ≡ some job) × OtherwiseAdmitted job × (n ≡ looked job)
unfolding looked_in looked_on
tested_job bytes n e = go (read_job bytes) refl e
  where
    at : (job : Job) (b : Bool) → stock_tested (job_refusal job) ≡ b → cond b (some (looked job)) none ≡ some n → OtherwiseAdmitted job × (n ≡ looked job)
    at job true t e = ((Looked.stock_tested_lem job).0 t, let same : n ≡ looked job = cc in same)
    at job false t e = let z : ◌≡◌ {A = ℕ} 0 1 = cc in absurd (omega arith)

    go : (o : Option Job) → read_job bytes ≡ o → elim o [ none ↦ none | some job ↦ looked_on job ] ≡ some n
        → (job : Job) × (read_job bytes ≡ some job) × OtherwiseAdmitted job × (n ≡ looked job)
    go none r e = let z : ◌≡◌ {A = ℕ} 0 1 = cc in absurd (omega arith)
    go (some job) r e = let (o, same) = at job (stock_tested (job_refusal job)) refl e in (job, r, o, same)

-- its bounds
pub bounds : (bytes : List ℕ) (n : ℕ) → looked_in bytes ≡ some n → OfJob bytes (λ job. (n ≡ looked job) × LookedBounds job n)
bounds bytes n e =
    let (job, read, o, same) = tested_job bytes n e in
    let quantities : (l : OrderLine) → Memᴰ l job.lines → 1 ≤ l.quantity = λ l m. (((list_within job).0 o.list).lines l m).quantity.0 in (
      job,
      (job_file_read bytes job).0 read,
      (same, subst (LookedBounds job) (sym same) (record { most = Looked.looked_most job; none = Looked.looked_none job quantities })),
    )

-- it is there exactly where no refusal before 8 stops the job
pub made : (bytes sheet work : List ℕ) → work_limit ≤ length work
    → ((n : ℕ) × (looked_in bytes ≡ some n)) ↔ ((q : Refusal) → table_row q < table_row ShortOfStock → Cause q bytes sheet work → ⊥)
unfolding looked_in looked_on
made bytes sheet work w = (to, λ h. from (read_job bytes) refl h)
  where
    to : (n : ℕ) × (looked_in bytes ≡ some n) → (q : Refusal) → table_row q < table_row ShortOfStock → Cause q bytes sheet work → ⊥
    to (n, e) = let (job, read, o, same) = tested_job bytes n e in stock_reached bytes sheet work job read o w

    from : (o : Option Job) → read_job bytes ≡ o → ((q : Refusal) → table_row q < table_row ShortOfStock → Cause q bytes sheet work → ⊥)
        → (n : ℕ) × (elim o [ none ↦ none | some job ↦ looked_on job ] ≡ some n)
    from none r h = absurd (h NotAJobFile (omega arith) (λ job f. (let e = sym r ∙ (job_file_read bytes job).1 f in let z : ◌≡◌ {A = ℕ} 0 1 = cc in omega arith)))
    from (some job) r h = (looked job, rw ((Looked.stock_tested_lem job).1 (above_stock bytes sheet work h job r)) refl)

-- the first 16,385 bytes decide it
pub start : (bytes : List ℕ) → looked_in (take 16385 bytes) ≡ looked_in bytes
unfolding looked_in
start bytes = ap (λ read. elim read [ none ↦ none | some job ↦ looked_on job ]) (read_start bytes)
