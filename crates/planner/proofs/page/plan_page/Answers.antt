-- `planner::page::plan_page` meets its contract: a refusal is answered where it is found, and a routed job is finished with its page.
use Rattle.std.proofs.lemmas.Result.{err_from_is_err_and}
use Rattle.planner.proofs.PageReplies.{page_stops, page_routes}
use Rattle.planner.proofs.page.plan_page.Goals as goal

pub returns-in_err-routed : goal.returns-in_err-routed
returns-in_err-routed c =
    let x = c.args in
    let p = err_from_is_err_and c.from_residual.result c.from_residual.ensures.1 in
    rw (p.1, p.2) (page_stops x.job.now x.sheet.now x.page.now x.work.now _ c.route_job.new.work c.in_err-routed.ensures.err)

pub returns : goal.returns
returns c =
    let x = c.args in
    page_routes x.job.now x.sheet.now x.page.now x.work.now c.in_ok-routed.routed c.finish_page.result c.finish_page.new.sheet c.finish_page.new.page c.route_job.new.work
    c.in_ok-routed.ensures.ok (c.finish_page.ensures x.work.now)
