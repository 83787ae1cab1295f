-- `finishing::RoutedJob::finish` meets its contract: the size decides, and what is written is the job's sheet.
use native.Mathlib.Omega.{arith}
use mathlib.Core.Path.{ap, subst}
use lib.ListN.{length}
use Rattle.std.proofs.lemmas.Result.{err_from_is_err_and}
use Rattle.values.specs.Values.{job_of}
use Rattle.lines.specs.Written.{Written}
use Rattle.finishing.proofs.Replies.{replied_short, replied_written}
use Rattle.finishing.proofs.RoutedJob.finish.Goals as goal

pub returns-in_err-parts : goal.returns-in_err-parts
returns-in_err-parts c work =
    let p = err_from_is_err_and c.from_residual.result c.from_residual.ensures.1 in
    rw (p.1, p.2, c.in_err-parts.ensures.err.0) (replied_short (job_of c.args.self.now.job) c.args.sheet.now work c.in_err-parts.ensures.err.1)

pub returns : goal.returns
returns c work =
    replied_written (job_of c.args.self.now.job) c.args.sheet.now work c.write.new.space c.write.result
    (omega (arith, c.in_ok-parts.ensures.ok.1, ap length c.in_ok-parts.ensures.ok.0))
    (subst (λ t. Written t c.args.sheet.now c.write.new.space c.write.result) c.in_ok-parts.ensures.ok.0 c.write.ensures)
