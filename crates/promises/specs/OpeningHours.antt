-- Request #106, aisles with opening hours: the files of one job with the sections M and H and without them, with the records of its
-- shut aisles and without them.
use Rattle.std.specs.Prelude.{ℕ, ◌≤◌, ◌≡◌, List, true}
use Rattle.rules.specs.Store.{LayoutWithin}
use Rattle.rules.specs.Hours.{NoHours, is_open, HoursWithin}
use Rattle.rules.specs.Jobs.{Job, job_with_stock, job_with_hours, open_stock}
use Rattle.rules.specs.Refusals.{StockWithin}
use Rattle.rules.specs.Answers.{answer, output}
use Rattle.rules.specs.PageAnswers.{page_answer, page_output}
use Rattle.promises.specs.Causes.{JobFileOf, TwoAlike, SameCell}

-- two job files get the same answers, byte for byte and number for number: calls, page calls, and what the programs print
pub record SameAnswers (bytes others : List ℕ) : Type 0 where
  pub call : (sheet work : List ℕ) → answer bytes sheet work ≡ answer others sheet work
  pub page_call : (sheet page work : List ℕ) → page_answer bytes sheet page work ≡ page_answer others sheet page work
  pub printed : output bytes ≡ output others
  pub page_prints : page_output bytes ≡ page_output others

-- two job files of one job to which 12 does not apply and whose aisles are all open: `timed` as it is, `plain` without the sections
pub record AllOpen (job : Job) (timed plain : List ℕ) : Type 0 where
  pub within : HoursWithin job.layout.aisles job.hours
  pub every : (j : ℕ) → 1 ≤ j → j ≤ job.layout.aisles → is_open job.hours j ≡ true
  pub with_sections : JobFileOf timed job
  pub without : JobFileOf plain (job_with_hours NoHours job)

-- the job without the records of its shut aisles
abbrev pub shut_gone : Job → Job
shut_gone job = job_with_stock (open_stock job) job

-- the file of a job to which none of 1 to 4 and 12 applies
pub record PassesToHours (job : Job) (bytes : List ℕ) : Type 0 where
  pub file : JobFileOf bytes job
  pub layout : LayoutWithin job.layout
  pub stock : StockWithin job
  pub cells_once : TwoAlike SameCell job.stock → ⊥
  pub hours : HoursWithin job.layout.aisles job.hours
