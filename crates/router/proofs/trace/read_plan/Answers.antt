use Prim.Native.Nat.{◌*◌, ◌-◌, ◌≤◌, ◌<◌}
use native.Mathlib.Omega.{arith}
use native.Mathlib.Numerals.{add-one}
use mathlib.Core.Path.{◌≡◌, refl, sym, ◌∙◌, ap, subst}
use lib.Count.{ones}
use lib.ListN.{get_or}
use Rattle.aisles.proofs.Geometry.{within}
use Rattle.table.proofs.TableFills.{order_aisles, order_few}
use Rattle.router.specs.Tracing.{Traced}
use Rattle.router.proofs.TraceEnds.{start_held, trace_start, trace_end}
use Rattle.router.proofs.trace.read_plan.Goals as goal
use Rattle.router.proofs.trace.read_plan.Goals.{In-loop-n, Start}

pub overflow_sub-whole : goal.overflow_sub-whole
overflow_sub-whole c =
    -- the list weighs 1 to 256
    let weighs : (1 ≤ c.args.order.now.digits.weight) × (c.args.order.now.digits.weight ≤ 256) = c.requires.0.1.order.digits.small in
    omega (arith, weighs)

pub overflow_mul-whole : goal.overflow_mul-whole
overflow_mul-whole c =
    let weighs : (1 ≤ c.args.order.now.digits.weight) × (c.args.order.now.digits.weight ≤ 256) = c.requires.0.1.order.digits.small in
    omega (arith, weighs)

pub offset_bounds-spared-whole : goal.offset_bounds-spared-whole
offset_bounds-spared-whole c =
    let weighs : (1 ≤ c.args.order.now.digits.weight) × (c.args.order.now.digits.weight ≤ 256) = c.requires.0.1.order.digits.small in
    omega (arith, weighs)

pub bounds-spared-whole : goal.bounds-spared-whole
bounds-spared-whole c =
    let weighs : (1 ≤ c.args.order.now.digits.weight) × (c.args.order.now.digits.weight ≤ 256) = c.requires.0.1.order.digits.small in
    omega (arith, weighs, c.requires.2)

pub loop-n-init : goal.loop-n-init
loop-n-init c =
    let x = c.args in
    λ job of. (
    let order = of.order in
    let aisles = order_aisles job x.order.now order in
    let demand = ap (λ k. k - 1) order.digits.counted in
    let held = start_held job order.admitted x.work.now x.spared.now of.table ((x.order.now.digits.weight - 1) * 8) (ap (λ k. k * 8) demand) in
    let fewest = c.entered_of.ensures ∙ ap (λ m. m - ones (get_or x.spared.now ((x.order.now.digits.weight - 1) * 8) 0)) aisles in
    trace_start job order.admitted of.some_line _ _ _ _ held demand fewest _ refl
    )

pub trace_on-trace-requires : goal.trace_on-trace-requires
trace_on-trace-requires c =
    -- in the loop there is an aisle more
    let in_aisles : (c.loop-n.n < c.args.order.now.layout.aisles) × (c.loop-n.n < 16) = let r = c.requires.0 in
    let aisles = order_aisles r.0 c.args.order.now r.1.order in
    let w = (within r.0.layout r.1.order.admitted.layout).aisles in (omega arith, omega arith) in
    let r = c.requires.0 in
    ((r.0, r.1.order, r.1.table, c.loop-n.invariant r.0 r.1), (in_aisles).0, c.requires.1, c.requires.2)

pub loop-n-preserved : goal.loop-n-preserved
loop-n-preserved c =
    let loop = c.loop-n in
    λ job of. subst (λ k. Traced job k c.trace_on-trace.result) (sym (add-one loop.n)) (c.trace_on-trace.ensures job of.order of.table (loop.invariant job of))

-- behind the loop all aisles are found
pub returns : goal.returns
returns c =
    let o = c.args.order.now in
    let loop = c.loop-n in
    let all : loop.n ≡ o.layout.aisles = omega (arith, loop.auto.n-end, c.loop-n-test.false) in
    λ job of.
    let aisles = order_aisles job o of.order in
    let traced = subst (λ k. Traced job k loop.trace) all (loop.invariant job of) in
    (aisles, trace_end job of.order.admitted o.layout.aisles loop.trace aisles traced _)

-- a plan has at most sixteen aisles
pub invariant_of-result : goal.invariant_of-result
invariant_of-result c = let r = c.requires.0 in record { fits = order_few r.0 c.args.order.now r.1.order }
