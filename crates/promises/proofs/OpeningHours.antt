-- Request #106: jobs that are alike get the same answers, byte for byte (rules/proofs/OpenAlike).
use Prim.Native.Nat.{ℕ, zero, suc, ◌≤◌}
use native.Mathlib.Omega.{arith}
use mathlib.Core.Path.{◌≡◌, refl, sym, ◌∙◌}
use mathlib.Core.List.{List, [], ◌∷◌}
use mathlib.Core.Bool.{true, false, true≢false}
use mathlib.Core.Option.{some}
use Rattle.rules.specs.declared.Policy.{Policy}
use Rattle.rules.specs.declared.Policy.TheVariants.{Exact, Return, Traversal, Midpoint, Composite, Largest}
use Rattle.rules.specs.declared.StockRecord.{StockRecord}
use Rattle.rules.specs.Lists.{any_two}
use Rattle.rules.specs.Store.{within}
use Rattle.rules.specs.Hours.{Hours, NoHours, open_at, is_open, window_in_bounds, hours_in_bounds}
use Rattle.rules.specs.Jobs.{Job, job_with_hours, open_stock}
use Rattle.rules.specs.JobFile.{numeral, field, header, layout_text, layout_section_text, record_text, window_text, line_text, section_text, job_text}
use Rattle.rules.specs.JobFile.{is_digit, is_number, read_field, read_header, read_policy_as, read_policy, read_layout, read_posts, read_record, read_window}
use Rattle.rules.specs.JobFile.{read_minute, read_clock, read_line, read_section, read_layout_section, read_sections, read_job}
use Rattle.rules.specs.Refusals.{same_cell, record_in_bounds, stock_in_bounds}
use Rattle.rules.specs.Looked.{looked_in}
use Rattle.rules.specs.Examples.{stocked, ◌⨯◌, alpha, window, timed, seven_at, in_aisle_two, hours_cases}
use Rattle.rules.proofs.Admission.{layout_within, stock_within, hours_within, same_cell_lem, admitted}
use Rattle.rules.proofs.OpenAlike.{changed, Alike, same_answer, same_page_answer}
use Rattle.rules.proofs.OpenHours.{open_alike, open_looked, gone_alike, plain_alike, gone_bounds, gone_once}
use Rattle.rules.proofs.Cases.{hours_cases_hold}
use Rattle.promises.specs.Causes.{JobFileOf, SameCell}
use Rattle.promises.specs.OpeningHours.{SameAnswers, AllOpen, shut_gone, PassesToHours}
use Rattle.promises.proofs.Table.{job_file_read, untrue, two_said}
use Rattle.promises.proofs.SameAnswers.{same_answers, same_looked_in}

-- the tests of stock and hours agree on a job with other stock and other hours
record Tested (job : Job) (stock : List StockRecord) (hours : Hours) : Type 0 where
  bounds : stock_in_bounds (changed job stock hours) ≡ stock_in_bounds job
  twice : any_two same_cell stock ≡ any_two same_cell job.stock
  timely : hours_in_bounds job.layout.aisles hours ≡ hours_in_bounds job.layout.aisles job.hours

module _ (job : Job) (stock : List StockRecord) (hours : Hours) (alike : Alike job stock hours) (tests : Tested job stock hours) where
  -- then the files of the two jobs get the same answers
  alike_answers : (bytes others : List ℕ) → JobFileOf bytes job → JobFileOf others (changed job stock hours) → SameAnswers bytes others
  alike_answers bytes others f g =
      same_answers bytes others job (changed job stock hours) f g
      (λ sheet work. sym (same_answer job stock hours alike tests.bounds tests.twice tests.timely sheet work))
      (λ sheet page work. sym (same_page_answer job stock hours alike tests.bounds tests.twice tests.timely sheet page work))

-- where every aisle is open the sections change nothing
pub all_open : (job : Job) (timed plain : List ℕ) → AllOpen job timed plain → SameAnswers timed plain
unfolding stock_in_bounds record_in_bounds
all_open job timed plain o =
    let timely = sym ((hours_within job.layout.aisles job.hours).1 o.within) in
    let tests : Tested job job.stock NoHours = record { bounds = refl; twice = refl; timely = timely } in
    alike_answers job job.stock NoHours (open_alike job o.within o.every) tests timed plain o.with_sections o.without

-- and as many records are looked at
pub all_open_looked : (job : Job) (timed plain : List ℕ) → AllOpen job timed plain → looked_in timed ≡ looked_in plain
all_open_looked job timed plain o =
    same_looked_in timed plain job (job_with_hours NoHours job) o.with_sections o.without (sym (open_looked job o.within o.every))

module _ (job : Job) (bytes : List ℕ) (p : PassesToHours job bytes) where
  -- no cell of the job has two records, as a test
  once : any_two same_cell job.stock ≡ false
  unfolding SameCell
  once = untrue (any_two same_cell job.stock) (λ e. p.cells_once ((two_said same_cell SameCell same_cell_lem job.stock).0 e))

  -- the tests agree on the job without the records of its shut aisles
  gone_tested : (hours : Hours) → hours_in_bounds job.layout.aisles hours ≡ true → Tested job (open_stock job) hours
  gone_tested hours t =
      record {
        bounds = gone_bounds job hours p.stock ∙ sym ((stock_within job).1 p.stock);
        twice = gone_once job once ∙ sym once;
        timely = t ∙ sym ((hours_within job.layout.aisles job.hours).1 p.hours);
      }

  -- so the records of shut aisles change nothing
  pub shut_is_gone : (others : List ℕ) → JobFileOf others (shut_gone job) → SameAnswers bytes others
  shut_is_gone others f =
      let timely = (hours_within job.layout.aisles job.hours).1 p.hours in
      alike_answers job (open_stock job) job.hours (gone_alike job) (gone_tested job.hours timely) bytes others p.file f

  -- and under every policy but EXACT neither do the sections, once these records are gone
  pub shut_is_gone_plain : (job.policy ≡ Exact → ⊥) → (plain : List ℕ) → JobFileOf plain (job_with_hours NoHours (shut_gone job)) → SameAnswers bytes plain
  shut_is_gone_plain other plain f =
      alike_answers job (open_stock job) NoHours (plain_alike job other) (gone_tested NoHours refl) bytes plain p.file f

-- a job whose text is read as it
abbrev Read : Job → Type 0
Read job = read_job (job_text job) ≡ some job

-- the first two cases of the request: with the sections, without them, and without the record of the shut aisle
abbrev opened : Policy → Job
opened = seven_at 5 ((5, 6) ∷ [])

abbrev shut : Policy → Job
shut = seven_at 6 ((5, 6) ∷ [])

abbrev FilesRead : Policy → Type 0
FilesRead policy =
    Read (opened policy) × Read (job_with_hours NoHours (opened policy))
    × Read (shut policy) × Read (shut_gone (shut policy)) × Read (job_with_hours NoHours (shut_gone (shut policy)))

files_read : (policy : Policy) → FilesRead policy
unfolding seven_at timed window open_at ◌⨯◌ stocked alpha job_text layout_section_text numeral field header layout_text record_text window_text line_text section_text
    is_digit is_number read_field read_header read_policy_as read_policy read_layout read_posts read_record read_window read_minute read_clock read_line read_section
    read_layout_section read_sections read_job
files_read Exact = (refl, refl, refl, refl, refl)
files_read Return = (refl, refl, refl, refl, refl)
files_read Traversal = (refl, refl, refl, refl, refl)
files_read Midpoint = (refl, refl, refl, refl, refl)
files_read Composite = (refl, refl, refl, refl, refl)
files_read Largest = (refl, refl, refl, refl, refl)

-- so they are job files
file_of : (job : Job) → Read job → JobFileOf (job_text job) job
file_of job e = (job_file_read (job_text job) job).0 e

-- the window of aisle 1 begins at the minute, and aisle 2 has none: both are open
pub open_files : (policy : Policy) → AllOpen (opened policy) (job_text (opened policy)) (job_text (job_with_hours NoHours (opened policy)))
unfolding seven_at timed window alpha open_at window_in_bounds within
open_files policy =
    let (with_sections, without, own, gone, plain) = files_read policy in
    record {
      within = (hours_within 2 (opened policy).hours).0 refl;
      every = every;
      with_sections = file_of (opened policy) with_sections;
      without = file_of (job_with_hours NoHours (opened policy)) without;
    }
  where
    every : (j : ℕ) → 1 ≤ j → j ≤ 2 → is_open (opened policy).hours j ≡ true
    every zero low high = absurd (omega arith)
    every (suc zero) low high = refl
    every (suc (suc zero)) low high = refl
    every (suc (suc (suc j))) low high = absurd (omega arith)

-- it ends at the minute: none of 1 to 4 and 12 applies
pub gone_files : (policy : Policy)
    → PassesToHours (shut policy) (job_text (shut policy)) × JobFileOf (job_text (shut_gone (shut policy))) (shut_gone (shut policy))
    × JobFileOf (job_text (job_with_hours NoHours (shut_gone (shut policy)))) (job_with_hours NoHours (shut_gone (shut policy)))
unfolding hours_cases in_aisle_two SameCell
gone_files policy =
    let (with_sections, without, own, gone, plain) = files_read policy in
    let a = (admitted (shut policy)).0 (hours_cases_hold.0.1.0 policy).0.admitted in (
      record {
        file = file_of (shut policy) own;
        layout = (layout_within (shut policy).layout).0 a.layout;
        stock = (stock_within (shut policy)).0 a.stock;
        cells_once = λ two. true≢false (sym ((two_said same_cell SameCell same_cell_lem (shut policy).stock).1 two) ∙ a.cells_once);
        hours = (hours_within (shut policy).layout.aisles (shut policy).hours).0 a.hours;
      },
      file_of (shut_gone (shut policy)) gone,
      file_of (job_with_hours NoHours (shut_gone (shut policy))) plain,
    )
