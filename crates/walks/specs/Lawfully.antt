-- What the walk asks of a plan.
use Rattle.std.specs.Prelude.{◌≡◌, [], true}
use Rattle.rules.specs.declared.Layout.{Layout}
use Rattle.rules.specs.Store.{layout_in_bounds}
use Rattle.rules.specs.Lawful.{LawfulFor}
use Rattle.values.specs.declared.PlanValue.{PlanValue}
use Rattle.values.specs.Values.{plan_of}

-- a lawful plan of a store within the bounds, or the one that treads nothing: a plan that is lawful for an empty list
pub record LawfulPlan (z : Layout) (plan : PlanValue) : Type 0 where
  pub bounds : layout_in_bounds z ≡ true
  pub aisles : plan.aisles ≡ z.aisles
  pub lawful : LawfulFor z [] (plan_of plan)
