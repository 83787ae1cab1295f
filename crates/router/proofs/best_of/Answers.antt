-- `router::best_of` meets its contract: of an empty list the best plan treads nothing. For any other the order is the job's, so what the
-- table and the trace give of any job of the order holds of it.
use Prim.Native.Nat.{◌*◌, ◌-◌}
use native.Mathlib.Omega.{arith}
use mathlib.Core.Path.{◌≡◌, refl, sym, ◌∙◌, ap}
use mathlib.Core.List.{[]}
use lib.ListN.{get_or}
use Rattle.rules.specs.Plans.{plan_length}
use Rattle.rules.proofs.EmptyPlan.{empty_length}
use Rattle.rules.proofs.EmptyList.{best_empty}
use Rattle.values.specs.Values.{job_of}
use Rattle.aisles.proofs.Geometry.{within}
use Rattle.router.proofs.EmptyLists.{no_line, some_line}
use Rattle.router.proofs.TraceEnds.{start_held, start_length}
use Rattle.router.proofs.best_of.Goals as goal

pub empty_plan-plan-requires : goal.empty_plan-plan-requires
unfolding job_of
empty_plan-plan-requires c =
    (within c.args.job.layout c.requires.0.admitted.layout).aisles.1

-- the list is empty: the best plan treads nothing
pub returns-then-job-eq0 : goal.returns-then-job-eq0
unfolding job_of
returns-then-job-eq0 c =
    let job = c.args.job in
    let none : job.orders ≡ 0 = c.if-job-eq0.true in
    let best = best_empty (job_of job) (no_line job none) c.requires.0.admitted.layout in (
      record {
        aisles = c.empty_plan-plan.ensures.0;
        plan = c.empty_plan-plan.ensures.1 ∙ sym best;
        length = sym (ap (plan_length job.layout) best ∙ empty_length job.layout);
      },
      refl,
    )

pub fill_table-requires : goal.fill_table-requires
fill_table-requires c =
    ((job_of c.args.job, c.order_of-order.ensures), c.requires.2, omega arith)

pub read_plan-plan-requires : goal.read_plan-plan-requires
read_plan-plan-requires c =
    -- where the list is not empty it has a line
    let has_line : ((job_of c.args.job).lines ≡ [] → ⊥) = let lines_long = c.well_formed.0.1.1.1.1.1.1.1.0.1.0.1 in
    some_line c.args.job lines_long (omega (arith, c.if-job-eq0.false)) c.requires.0.order_count in
    let job = job_of c.args.job in
    let of = c.order_of-order.ensures in (
      (job, record { order = of; some_line = has_line; table = c.fill_table.ensures.0 job of }),
      omega (arith, c.requires.2, c.fill_table.ensures.1),
      omega (arith, c.fill_table.ensures.2),
    )

-- the length is the table's for the whole list before the first aisle
pub returns : goal.returns
unfolding job_of
returns c =
    let has_line : ((job_of c.args.job).lines ≡ [] → ⊥) = let lines_long = c.well_formed.0.1.1.1.1.1.1.1.0.1.0.1 in
    some_line c.args.job lines_long (omega (arith, c.if-job-eq0.false)) c.requires.0.order_count in
    let job = job_of c.args.job in
    let ok = c.requires.0.admitted in
    let of = c.order_of-order.ensures in
    let some = has_line in
    let filled = c.fill_table.ensures.0 job of in
    let plan = c.read_plan-plan.ensures job (record { order = of; some_line = some; table = filled }) in
    let work = c.fill_table.new.work in
    let spared = c.fill_table.new.spared in
    let k = (c.order_of-order.result.digits.weight - 1) * 8 in
    let held = start_held job ok work spared filled k (ap (λ w. (w - 1) * 8) of.digits.counted) in (
      record { aisles = plan.0; plan = plan.1; length = c.from-length.ensures ∙ start_length job ok some (get_or work k 0) (get_or spared k 0) held },
      c.fill_table.ensures.1,
    )
