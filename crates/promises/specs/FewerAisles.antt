-- Request #108, fewer aisles between equals: document 01's tie as it was before, kept for the statements that compare the two.
use Rattle.std.proofs.Math.Option.{get_or}
use Rattle.std.specs.Prelude.{ltb}
use Rattle.rules.specs.Jobs.{Job}
use Rattle.rules.specs.Plans.{Plan, plan_length}
use Rattle.rules.specs.BestPlan.{first_best, serving_plans, empty_plan}

-- the plan of the sheet before the request: of the plans that the policy allows and that serve the list, in the order of plans, the first of the
-- shortest; however many aisles it enters
unfoldable pub best_before : Job → Plan
best_before job =
    get_or (first_best (λ x y. ltb (plan_length job.layout x) (plan_length job.layout y)) (serving_plans job)) (empty_plan job.layout)
