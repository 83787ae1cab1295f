-- Request #105, "Enough is enough": how many records the stock test looks at.
use Rattle.std.specs.Prelude.{ℕ, ◌+◌, List, [], ◌∷◌, Bool, true, cond, leb, eqb, length, take}
use Rattle.std.proofs.Math.Option.{Option, none, some}
use Rattle.rules.specs.declared.OrderLine.{OrderLine}
use Rattle.rules.specs.declared.Refusal.{Refusal}
use Rattle.rules.specs.Lists.{from, sum_of, select, head_or}
use Rattle.rules.specs.Jobs.{Job, job_with_stock}
use Rattle.rules.specs.JobFile.{line_feed, field, read_job}
use Rattle.rules.specs.Refusals.{all_stock, number_of, job_refusal}

-- the job with the first n records from the top of its S section, and no others
unfoldable pub with_first : ℕ → Job → Job
with_first n job = job_with_stock (take n job.stock) job

-- the first n records hold a line's quantity of its article
unfoldable pub first_hold : Job → OrderLine → ℕ → Bool
first_hold job l n = leb l.quantity (all_stock (with_first n job) l.article)

-- the records looked at for a line: the least number from the top that hold its quantity of its article, or all where it is short
unfoldable pub looked_for : Job → OrderLine → ℕ
looked_for job l = head_or (length job.stock) (select (first_hold job l) (from 0 (length job.stock + 1)))

-- of these lines, those up to and including the first short one: a line is short where even all the records do not hold its quantity
abbrev pub tested_lines : Job → List OrderLine → List OrderLine
tested_lines job [] = []
tested_lines job (l ∷ lines) = l ∷ cond (first_hold job l (length job.stock)) (tested_lines job lines) []

-- the records that the stock test looks at, added up over the lines up to and including the first short one
unfoldable pub looked : Job → ℕ
looked job = sum_of (looked_for job) (tested_lines job job.lines)

-- whether the stock test is made on a job with that refusal: none applies, or 8 is the first that does
abbrev pub stock_tested : Option Refusal → Bool
stock_tested none = true
stock_tested (some r) = eqb (number_of r) 8

-- the records looked at for a job; none where a refusal before 8 stops it
unfoldable pub looked_on : Job → Option ℕ
looked_on job = cond (stock_tested (job_refusal job)) (some (looked job)) none

-- the records looked at for the bytes of a job file
unfoldable pub looked_in : List ℕ → Option ℕ
looked_in bytes = elim (read_job bytes) [ none ↦ none | some job ↦ looked_on job ]

-- the number that the job reader hands on: 0 where a refusal before 8 stops the job
abbrev pub handed_on : Option ℕ → ℕ
handed_on none = 0
handed_on (some n) = n

-- what the program `looked` prints: a line with the number, or with `-` where a refusal before 8 stops the job
abbrev pub looked_text : Option ℕ → List ℕ
looked_text none = 45 ∷ line_feed ∷ []  -- -
looked_text (some n) = field line_feed n
