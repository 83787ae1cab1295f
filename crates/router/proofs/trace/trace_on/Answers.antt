-- `router::trace::trace_on` meets its contract: the table has the length where the trace stands, and the rows behind the next aisle.
use native.Mathlib.Omega.{arith}
use mathlib.Core.Path.{sym}
use Rattle.table.proofs.TableFills.{order_aisles, order_few}
use Rattle.router.proofs.TraceRows.{asked}
use Rattle.router.proofs.trace.trace_on.Goals as goal

pub overflow_mul-n : goal.overflow_mul-n
overflow_mul-n c = let r = c.requires.0 in omega (arith, c.requires.1, order_few r.0 c.args.order.now r.1)

pub overflow_add-n : goal.overflow_add-n
overflow_add-n c =
    let r = c.requires.0 in
    omega (arith, c.requires.1, order_few r.0 c.args.order.now r.1, r.3.demand_below, r.1.admitted.light)

pub overflow_add-n-2 : goal.overflow_add-n-2
overflow_add-n-2 c =
    let r = c.requires.0 in
    omega (arith, c.requires.1, order_few r.0 c.args.order.now r.1, r.3.demand_below, r.3.state_below, r.1.admitted.light)

pub offset_bounds-work-n : goal.offset_bounds-work-n
offset_bounds-work-n c =
    let r = c.requires.0 in
    omega (arith, c.requires.1, order_few r.0 c.args.order.now r.1, r.3.demand_below, r.3.state_below, r.1.admitted.light)

pub bounds-work-n : goal.bounds-work-n
bounds-work-n c =
    let r = c.requires.0 in
    omega (arith, c.requires.1, c.requires.2, order_few r.0 c.args.order.now r.1, r.3.demand_below, r.3.state_below, r.1.admitted.light)

pub rows_behind-next-requires : goal.rows_behind-next-requires
rows_behind-next-requires c =
    let r = c.requires.0 in
    (omega (arith, c.requires.1), order_few r.0 c.args.order.now r.1, c.requires.2, c.requires.3)

pub trace_aisle-requires : goal.trace_aisle-requires
trace_aisle-requires c =
    let x = c.args in
    let r = c.requires.0 in
    let aisles = order_aisles r.0 x.order.now r.1 in
    (r.0, r.1, asked x.work.now x.spared.now r.1.admitted.light r.2 r.3 (omega (arith, c.requires.1, aisles)) c.from-here.ensures _ _ _ (sym aisles) c.rows_behind-next.ensures)

pub returns : goal.returns
returns c =
    let x = c.args in
    λ job of table traced. (
    let aisles = order_aisles job x.order.now of in
    c.trace_aisle.ensures job of (asked x.work.now x.spared.now of.admitted.light table traced (omega (arith, c.requires.1, aisles)) c.from-here.ensures _ _ _ (sym aisles) c.rows_behind-next.ensures)
    )
