-- What was read, and the verdict on it.
use Rattle.std.proofs.Common.{◌≡◌, ap, sym, ◌∙◌, Err}
use Rattle.std.proofs.Math.Option.{none}
use Rattle.rules.specs.declared.Refusal.TheVariants.{NotAJobFile}
use Rattle.rules.specs.JobFile.{read_job}
use Rattle.values.specs.declared.JobValue.{JobValue}
use Rattle.jobfile.specs.declared.ReadJob.{ReadJob}
use Rattle.jobfile.specs.Answer.{Holds, answer_to}
use Rattle.jobfile.proofs.Verdicts.{answered, job_missing, job_there, job_decided}
use Rattle.jobfile.proofs.read_job.Goals as goal

-- the answer to bytes that are no job file
no_file : (j : JobValue) → j ≡ (answer_to none).job → ◌≡◌ {A = ReadJob} record { verdict = Err NotAJobFile; job = j; looked = 0 } (answer_to none)
unfolding answer_to
no_file j e = ap (λ (v : JobValue). record { verdict = Err NotAJobFile; job = v; looked = 0 }) e

pub returns-in_default : goal.returns-in_default
unfolding answer_to
returns-in_default c =
    let s = c.args.bytes.now in
    let missing = job_missing (read_job s) c.in_default.ensures in
    let a = answered s _ (no_file c.no_job.result c.no_job.ensures ∙ ap answer_to (sym missing)) in
    record { result_value = a.0; sound = a.1.0; value = a.1.1.0; looked_value = a.1.1.1 }

pub verdict_on-decision-requires : goal.verdict_on-decision-requires
unfolding Holds
verdict_on-decision-requires c =
    -- a job was read of the bytes
    let t = job_there (read_job c.args.bytes.now) c.in-Some.raw c.in-Some.ensures in (t.0, t.2)

pub returns : goal.returns
returns c =
    let s = c.args.bytes.now in
    let t = job_there (read_job s) c.in-Some.raw c.in-Some.ensures in
    let a = answered s _ (job_decided c.in-Some.raw t.0 t.2 c.verdict_on-decision.result c.verdict_on-decision.ensures ∙ ap answer_to (sym t.1)) in
    record { result_value = a.0; sound = a.1.0; value = a.1.1.0; looked_value = a.1.1.1 }
