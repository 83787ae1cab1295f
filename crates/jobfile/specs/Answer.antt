-- The answer to job bytes: the verdict, the job by value and the records that the stock test looked at.
use Rattle.std.specs.Prelude.{◌≡◌, [], false, Result, Ok, Err}
use Rattle.std.proofs.Math.Option.{Option, none, some}
use Rattle.rules.specs.declared.Refusal.{Refusal}
use Rattle.rules.specs.declared.Refusal.TheVariants.{NotAJobFile}
use Rattle.rules.specs.Jobs.{Job}
use Rattle.rules.specs.Refusals.{job_refusal, Checked, good, bad}
use Rattle.rules.specs.Looked.{stock_tested, looked_on, handed_on}
use Rattle.values.specs.declared.JobValue.{JobValue}
use Rattle.values.specs.Values.{job_of}
use Rattle.rules.specs.declared.Policy.TheVariants.{Exact}
use Rattle.rules.specs.declared.Posts.TheVariants.{NoPosts}
use Rattle.rules.specs.Hours.{NoHours}
use Rattle.reading.specs.declared.raw.RawJob.{RawJob}
use Rattle.reading.specs.Kept.{job_value, raw_value}
use Rattle.jobfile.specs.declared.verdict.Decision.{Decision}
use Rattle.jobfile.specs.declared.ReadJob.{ReadJob}
use Rattle.jobfile.specs.Ready.{Tested}

-- a job is admitted, or refused for the first cause that applies
abbrev pub Verdict : Type 0
Verdict = Result (Unit {0}) Refusal

-- the verdict that names a refusal, or none
abbrev pub verdict_of : Option Refusal → Verdict
verdict_of none = Ok tt
verdict_of (some x) = Err x

-- a job that says nothing
unfoldable pub no_job : Job
no_job =
    record {
      layout = record { aisles = 0; cells = 0; front = 0; pitch = 0; back = 0; width = 0; depot = 0; posts = NoPosts };
      policy = Exact;
      stock = [];
      hours = NoHours;
      lines = [];
    }

-- a job was read
unfoldable pub Holds : RawJob → Type 0
Holds raw = (job : Job) × (raw ≡ raw_value job)

-- what the tests before that of the stock tell: a refusal before 8, that of the job; or that the tests are passed
abbrev pub Tells : RawJob → Verdict → Type 0
Tells raw (Ok u) = Tested raw
Tells raw (Err x) = (stock_tested (some x) ≡ false) × ((job : Job) → raw ≡ raw_value job → job_refusal job ≡ some x)

-- the verdict on the job that was read, and the records looked at
unfoldable pub Decides : RawJob → Decision → Type 0
Decides raw decision =
    (job : Job) → raw ≡ raw_value job → decision ≡ record { verdict = verdict_of (job_refusal job); looked = handed_on (looked_on job) }

-- the answer to a job file, or to bytes that are none
unfoldable pub answer_to : Option Job → ReadJob
answer_to none = record { verdict = Err NotAJobFile; job = job_value no_job; looked = 0 }
answer_to (some job) = record { verdict = verdict_of (job_refusal job); job = job_value job; looked = handed_on (looked_on job) }

-- what a verdict on a job by value comes to
abbrev pub checked_as : JobValue → Verdict → Checked
checked_as value (Ok u) = good (job_of value)
checked_as value (Err x) = bad x

-- what the answer comes to
abbrev pub checked_of : ReadJob → Checked
checked_of r = checked_as r.job r.verdict
