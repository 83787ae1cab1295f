-- `host::plan_page` meets its contract: the page's count in the high half, the reply of the page call as one number in the low half.
use native.Mathlib.Omega.{arith}
use Prim.Native.Nat.{◌≤◌}
use mathlib.Core.Path.{ap, sym, subst}
use lib.ListN.{replicate}
use Rattle.rules.specs.Refusals.{work_limit}
use Rattle.rules.specs.Answers.{host_number, reply_length, sheet_limit}
use Rattle.rules.specs.PageAnswers.{host_page_answer, host_page_number}
use Rattle.finishing.specs.Paged.{sheet_reply, page_count}
use Rattle.planner.proofs.PageSpace.{counts_within}
use Rattle.host.proofs.plan_page.Goals as goal

-- the two byte counts of a served call are within their limits
pub overflow_add-result : goal.overflow_add-result
overflow_add-result c =
    let a = c.plan_page.ensures.replied in
    let most = counts_within c.args.job.now c.args.sheet.now c.args.page.now (replicate work_limit 0) in
    let sheet : reply_length (sheet_reply c.plan_page.result) ≤ sheet_limit = subst (λ r. reply_length r ≤ sheet_limit) (sym a.replied.reply) most.sheet in
    omega (arith, a.count, most.page, ap page_count c.in-Ok.is, sheet, ap (λ r. reply_length (sheet_reply r)) c.in-Ok.is)

pub returns-in-Ok-clause-number : goal.returns-in-Ok-clause-number
unfolding host_page_answer host_page_number
returns-in-Ok-clause-number c =
    let a = c.plan_page.ensures.replied in
    let most = counts_within c.args.job.now c.args.sheet.now c.args.page.now (replicate work_limit 0) in
    omega (arith, a.count, most.page, ap page_count c.in-Ok.is, ap host_number a.replied.reply, ap (λ r. host_number (sheet_reply r)) c.in-Ok.is)

pub returns-in-Err-clause-number : goal.returns-in-Err-clause-number
unfolding host_page_answer host_page_number
returns-in-Err-clause-number c =
    let a = c.plan_page.ensures.replied in
    omega (arith, a.count, ap page_count c.in-Err.is, ap host_number a.replied.reply, ap (λ r. host_number (sheet_reply r)) c.in-Err.is, c.from.ensures, c.from-in-Err.ensures)
