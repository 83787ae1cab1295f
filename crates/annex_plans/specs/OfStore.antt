-- A plan value of a store.
use mathlib.Core.Path.{◌≡◌}
use mathlib.Core.Bool.{true}
use Rattle.rules.specs.declared.Layout.{Layout}
use Rattle.rules.specs.Store.{layout_in_bounds}
use Rattle.rules.specs.Plans.{WellFormed}
use Rattle.values.specs.declared.PlanValue.{PlanValue}
use Rattle.values.specs.Values.{plan_of}

-- a plan of a store within the bounds
pub record PlanFor (z : Layout) (plan : PlanValue) : Type 0 where
  pub bounds : layout_in_bounds z ≡ true
  pub aisles : plan.aisles ≡ z.aisles
  pub well_formed : WellFormed z (plan_of plan)
