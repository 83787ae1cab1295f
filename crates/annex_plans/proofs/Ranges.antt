-- The bounds of a store of which a plan is.
use Prim.Native.Nat.{◌≤◌}
use mathlib.Core.Path.{◌≡◌}
use Rattle.rules.specs.declared.Layout.{Layout}
use Rattle.rules.proofs.Admission.{layout_within}
use Rattle.values.specs.declared.PlanValue.{PlanValue}
use Rattle.annex_plans.specs.OfStore.{PlanFor}

-- at most 16 aisles and 24 cells, a depot at one of the aisles, and a stage of the plan for each
pub plan_range : (z : Layout) (plan : PlanValue) → PlanFor z plan
    → (z.aisles ≤ 16) × (z.cells ≤ 24) × (1 ≤ z.depot) × (z.depot ≤ z.aisles) × (plan.aisles ≡ z.aisles)
plan_range z plan p =
    let w = (layout_within z).0 p.bounds in
    (w.aisles.1, w.cells.1, w.depot.0, w.depot.1, p.aisles)
