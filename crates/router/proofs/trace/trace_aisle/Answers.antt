-- `router::trace::trace_aisle` meets its contract: its parts make what the trace's laws ask for, and `trace_next` takes the trace on.
use Prim.Native.Nat.{ℕ, suc, ◌+◌, ◌-◌, ◌≤◌, ◌<◌}
use native.Mathlib.Omega.{arith}
use native.Mathlib.Numerals.{add-one}
use mathlib.Core.Path.{◌≡◌, sym, ◌∙◌, ap, subst}
use mathlib.Core.List.{List}
use Rattle.rules.specs.Jobs.{Job}
use Rattle.demand.specs.Maps.{MapsReady}
use Rattle.aisles.specs.declared.layers.Aisle.{Aisle}
use Rattle.table.specs.declared.filling.Order.{Order}
use Rattle.table.specs.Crossings.{AfterFilled}
use Rattle.table.specs.TableHolds.{OrderOf, aisle_of}
use Rattle.table.proofs.TableFills.{order_aisles, order_few, maps_asked, same_weight, in_range, ready}
use Rattle.router.specs.declared.choices.Sought.{Sought}
use Rattle.router.specs.declared.trace.Trace.{Trace}
use Rattle.router.specs.Tracing.{TraceAsked, Traced}
use Rattle.router.proofs.TraceLaws.{Aisled, action_there, taken_lands, taken_left, passage_there, trace_next}
use Rattle.router.proofs.trace.trace_aisle.Goals as goal

module _ (o : Order) (n : ℕ) (t : Trace) (next theirs : List ℕ) (here : ℕ) where
  -- the aisle can be traced, by the call's own arguments, for a job
  abbrev Asked : Job → Type 0
  Asked job = TraceAsked job n t next theirs here

  -- the next aisle is one of the order's
  in_order : (job : Job) → OrderOf job o → Asked job → (1 ≤ n + 1) × (n + 1 ≤ o.layout.aisles)
  in_order job of asked = (omega arith, omega (arith, asked.more, order_aisles job o of))

  few : (job : Job) → OrderOf job o → Asked job → n < 16
  few job of asked = let l = in_order job of asked in omega (arith, order_few job o of)

  -- what is sought, as the code has it
  abbrev sought : Sought
  sought = record { at = t.at; length = here; fewest = t.fewest; entered = t.entered; aisle = n; left = o.layout.aisles - (n + 1) }

  -- what the laws ask for, of any job of the order
  aisled : (job : Job) → OrderOf job o → Asked job → (x : Aisle) → x ≡ aisle_of job (n + 1) → (fronts backs after ones : List ℕ) → MapsReady job (n + 1) fronts backs
      → AfterFilled x after ones next theirs → Aisled job n here t x sought next theirs after ones fronts backs
  aisled job of asked x x-is fronts backs after ones maps filled =
      let left : o.layout.aisles - (n + 1) ≡ job.layout.aisles - suc n = omega (arith, order_aisles job o of) in
      record {
        ok = of.admitted;
        numbers = x-is ∙ ap (aisle_of job) (add-one n);
        sought = rw left;
        maps = subst (λ k. MapsReady job k fronts backs) (add-one n) maps;
        filled = filled;
      }

pub overflow_add-j : goal.overflow_add-j
overflow_add-j c =
    let x = c.args in
    let r = c.requires in
    let l = few x.order.now x.n x.trace x.next.now.lengths x.next.now.ones x.here r.0 r.1 r.2 in omega arith

pub fill_maps-requires : goal.fill_maps-requires
fill_maps-requires c =
    let x = c.args in
    let r = c.requires in
    let l = in_order x.order.now x.n x.trace x.next.now.lengths x.next.now.ones x.here r.0 r.1 r.2 in
    (omega arith, omega arith, (r.0, maps_asked r.0 x.order.now r.1 (x.n + 1) l.0 l.1))

pub aisle_of-aisle-requires : goal.aisle_of-aisle-requires
aisle_of-aisle-requires c =
    let x = c.args in
    let r = c.requires in
    let l = in_order x.order.now x.n x.trace x.next.now.lengths x.next.now.ones x.here r.0 r.1 r.2 in ((r.0, r.1), l.0, l.1)

pub fill_after-requires : goal.fill_after-requires
fill_after-requires c =
    let r = c.requires in
    let range = in_range r.0 _ c.aisle_of-aisle.result (c.aisle_of-aisle.ensures r.0 r.1) r.1.admitted in
    let small = range.small in
    record {
      aisle = range;
      after_long = omega arith;
      after_spared_long = omega arith;
      next_long = omega arith;
      next_spared_long = omega arith;
    }

pub take_action-taken-requires : goal.take_action-taken-requires
take_action-taken-requires c =
    let args = c.args in
    let maps = c.fill_maps in
    let r = c.requires in
    let x = c.aisle_of-aisle.result in
    let l = in_order args.order.now args.n args.trace args.next.now.lengths args.next.now.ones args.here r.0 r.1 r.2 in
    let h = aisled args.order.now args.n args.trace args.next.now.lengths args.next.now.ones args.here r.0 r.1 r.2 x (c.aisle_of-aisle.ensures r.0 r.1) maps.new.fronts maps.new.backs
    c.fill_after.new.after c.fill_after.new.spared (maps.ensures.0 r.0 (maps_asked r.0 args.order.now r.1 (args.n + 1) l.0 l.1)) c.fill_after.ensures.0 in
    let traced = r.2.traced in (
      record {
        ready = ready r.0 _ x h.numbers r.1.admitted _ _ h.maps (omega (arith, maps.ensures.1)) (omega (arith, maps.ensures.2));
        state_below = omega (arith, traced.state_below);
        demand_below = omega (arith, same_weight r.0 _ x h.numbers, traced.demand_below);
        aisle_below = few args.order.now args.n args.trace args.next.now.lengths args.next.now.ones args.here r.0 r.1 r.2;
        left_few = omega (arith, order_few r.0 args.order.now r.1);
      },
      action_there h r.2,
    )

pub take_passage-requires : goal.take_passage-requires
take_passage-requires c =
    let args = c.args in
    let maps = c.fill_maps in
    let r = c.requires in
    let x = c.aisle_of-aisle.result in
    let l = in_order args.order.now args.n args.trace args.next.now.lengths args.next.now.ones args.here r.0 r.1 r.2 in
    let h = aisled args.order.now args.n args.trace args.next.now.lengths args.next.now.ones args.here r.0 r.1 r.2 x (c.aisle_of-aisle.ensures r.0 r.1) maps.new.fronts maps.new.backs
    c.fill_after.new.after c.fill_after.new.spared (maps.ensures.0 r.0 (maps_asked r.0 args.order.now r.1 (args.n + 1) l.0 l.1)) c.fill_after.ensures.0 in
    let to = taken_lands h r.2 c.take_action-taken.ensures in
    let light = r.1.admitted.light in (
      record {
        aisle = in_range r.0 _ x h.numbers r.1.admitted;
        demand = omega arith;
        state_below = to.0;
        left_few = taken_left h r.2 c.take_action-taken.ensures;
      },
      passage_there h r.2 c.take_action-taken.ensures,
    )

pub with_stage-requires : goal.with_stage-requires
with_stage-requires c =
    let x = c.args in
    let r = c.requires in
    few x.order.now x.n x.trace x.next.now.lengths x.next.now.ones x.here r.0 r.1 r.2

pub returns : goal.returns
returns c =
    let args = c.args in
    let maps = c.fill_maps in
    let x = c.aisle_of-aisle.result in
    λ job of asked.
    let l = in_order args.order.now args.n args.trace args.next.now.lengths args.next.now.ones args.here job of asked in
    let h = aisled args.order.now args.n args.trace args.next.now.lengths args.next.now.ones args.here job of asked x (c.aisle_of-aisle.ensures job of) maps.new.fronts maps.new.backs
    c.fill_after.new.after c.fill_after.new.spared (maps.ensures.0 job (maps_asked job args.order.now of (args.n + 1) l.0 l.1)) c.fill_after.ensures.0 in
    subst (Traced job _) (sym c.with_stage.ensures) (trace_next h asked c.take_action-taken.ensures c.take_passage.ensures)
