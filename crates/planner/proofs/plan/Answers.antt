-- `planner::plan` meets its contract: a refusal is answered where it is found, and a routed job is finished.
use Rattle.std.proofs.lemmas.Result.{err_from_is_err_and}
use Rattle.planner.proofs.Replies.{stops_answered, routes_answered}
use Rattle.planner.proofs.plan.Goals as goal

pub returns-in_err-routed : goal.returns-in_err-routed
returns-in_err-routed c =
    let x = c.args in
    let p = err_from_is_err_and c.from_residual.result c.from_residual.ensures.1 in
    rw (p.1, p.2) (stops_answered x.job.now x.sheet.now x.work.now _ c.route_job.new.work c.in_err-routed.ensures.err)

pub returns : goal.returns
returns c =
    let x = c.args in
    routes_answered x.job.now x.sheet.now x.work.now c.in_ok-routed.routed c.finish.result c.finish.new.sheet c.route_job.new.work
    c.in_ok-routed.ensures.ok (c.finish.ensures x.work.now)
