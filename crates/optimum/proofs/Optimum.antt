-- The plan that the table of a list with lines leads to is the best plan of the rules, and the table's value at the start is its
-- key: the table weighed by the key, where 'none' is 17 times 65,535 and no tour is longer than 57,280.
use Prim.Native.Nat.{ℕ, ◌≤◌}
use mathlib.Core.Path.{◌≡◌, sym, ◌∙◌}
use mathlib.Core.List.{[], Memᴰ}
use mathlib.Core.Bool.{true}
use mathlib.Core.Option.{Option, some}
use lib.Dec.{ltb}
use Rattle.rules.specs.Store.{layout_in_bounds}
use Rattle.rules.specs.Jobs.{Job}
use Rattle.rules.specs.Plans.{Plan, WellFormed, plan_length}
use Rattle.rules.specs.Policies.{entered_aisles}
use Rattle.rules.specs.Serving.{PlanServes}
use Rattle.rules.specs.Machine.{nothing, accepts}
use Rattle.rules.specs.BestPlan.{is_better, serving_plans, best_plan}
use Rattle.rules.proofs.Admission.{layout_within}
use Rattle.rules.proofs.FirstBest.{first_best_agrees}
use Rattle.rules.proofs.Enumeration.{first_shortest, FirstShortest, first_shortest_given, serving_plans_lem, best_plan_found, best_plan_listed, best_plan_shortest}
use Rattle.optimum.specs.Table.{Rest, value, choose}
use Rattle.optimum.specs.Demand.{whole_demand}
use Rattle.optimum.specs.Routing.{keys, plan_key, routing, all_actions, rest_of}
use Rattle.optimum.proofs.Weighed.{weighed_value, weighed_choice}
use Rattle.optimum.proofs.Keys.{better_by_key, by_key}

-- the table of a job at the start: all aisles, no tread yet, the whole demand open
unfoldable pub table_value : Job → ℕ
table_value job = value (routing job (all_actions job)) job.layout.aisles 1 nothing (whole_demand job)

-- the rest that the table leads to from there
unfoldable pub table_choice : Job → Option Rest
table_choice job = choose (routing job (all_actions job)) job.layout.aisles 1 nothing (whole_demand job)

module _ (job : Job) (bounds : layout_in_bounds job.layout ≡ true) where
  -- the key of a plan of this job
  abbrev key_of : Plan → ℕ
  key_of = plan_key job.layout

  -- by the bounds there is at least one aisle
  some_aisle : 1 ≤ job.layout.aisles
  some_aisle = ((layout_within job.layout).0 bounds).aisles.0

  -- the plans among which the best is chosen are compared by their keys
  compared : (x y : Plan) → Memᴰ x (serving_plans job) → Memᴰ y (serving_plans job)
      → is_better (plan_length job.layout) entered_aisles x y ≡ ltb (key_of x) (key_of y)
  compared x y m l = better_by_key job.layout bounds x y ((serving_plans_lem job x).0 m).0 ((serving_plans_lem job y).0 l).0

  module _ (plan : Plan) (serving : Memᴰ plan (serving_plans job)) where
    -- as there is a serving plan, the first with the least key is found, and it is the best plan
    best_found : first_shortest key_of (serving_plans job) ≡ some (best_plan job)
    best_found =
        sym (first_best_agrees (is_better (plan_length job.layout) entered_aisles) (λ x y. ltb (key_of x) (key_of y)) (serving_plans job) compared)
        ∙ best_plan_found job plan serving

    pub best_first : FirstShortest key_of (serving_plans job) (best_plan job)
    best_first = (first_shortest_given key_of (serving_plans job) (best_plan job)).0 best_found

    -- the best plan is one of the plans that the policy allows and that serve the list
    pub best_allowed : WellFormed job.layout (best_plan job) × (accepts job (best_plan job) ≡ true) × PlanServes job (best_plan job)
    best_allowed = (serving_plans_lem job (best_plan job)).0 (best_plan_listed job plan serving)

    -- the table's value at the start is the key of the best plan
    pub table_key : (job.lines ≡ [] → ⊥) → table_value job ≡ key_of (best_plan job)
    unfolding table_value
    table_key some_line = weighed_value job (keys job.layout) key_of (by_key job bounds) some_aisle some_line (best_plan job) best_found

    -- the rest that the table leads to is the best plan
    pub table_plan : (job.lines ≡ [] → ⊥) → table_choice job ≡ some (rest_of (best_plan job))
    unfolding table_choice
    table_plan some_line = weighed_choice job (keys job.layout) key_of (by_key job bounds) some_aisle some_line (best_plan job) best_found

  -- every plan that the policy allows and that serves the list is at least as long as the best plan
  pub best_shortest : (plan : Plan) → WellFormed job.layout plan → accepts job plan ≡ true → PlanServes job plan
      → plan_length job.layout (best_plan job) ≤ plan_length job.layout plan
  best_shortest plan well accepted served = best_plan_shortest job plan ((serving_plans_lem job plan).1 (well, accepted, served))
