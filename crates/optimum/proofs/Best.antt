-- The best plan of an admitted job is what its declarative twin says, and nothing else is: the policy allows it, it serves the list,
-- no other such plan is shorter, none that is no longer enters fewer aisles, and of those that enter no more it is the first.
use Prim.Native.Nat.{ℕ, ◌≤◌}
use native.Mathlib.Omega.{arith}
use mathlib.Core.Path.{◌≡◌, sym}
use mathlib.Core.Logic.{◌⊎◌, inl, inr}
use mathlib.Core.List.{Memᴰ}
use Rattle.rules.specs.Jobs.{Job}
use Rattle.rules.specs.Plans.{Plan}
use Rattle.rules.specs.Policies.{Allowed}
use Rattle.rules.specs.Serving.{PlanServes}
use Rattle.rules.specs.BestPlan.{best_plan, serving_plans, PlanBefore, IsBest}
use Rattle.rules.specs.Refusals.{Admitted}
use Rattle.rules.proofs.Admission.{layout_within}
use Rattle.rules.proofs.Enumeration.{serving_plans_lem, serving_plans_ordered, plan_before_one_way, first_shortest_least, first_shortest_first, best_plan_shortest}
use Rattle.tours.proofs.Machine.{accepts_allowed}
use Rattle.tours.proofs.Existence.{serving_exists}
use Rattle.optimum.specs.Routing.{plan_key}
use Rattle.optimum.proofs.Keys.{key_fewest}
use Rattle.optimum.proofs.Optimum.{best_first, best_allowed}

module _ (job : Job) (a : Admitted job) where
  -- the key of a plan of this job
  abbrev key : Plan → ℕ
  key = plan_key job.layout

  depot_low : 1 ≤ job.layout.depot
  depot_low = ((layout_within job.layout).0 a.layout).depot.0

  -- a plan that the policy allows and that serves the list is one of the enumeration
  pub listed_plan : (plan : Plan) → Allowed job plan → PlanServes job plan → Memᴰ plan (serving_plans job)
  listed_plan plan allowed serving =
      let p = (accepts_allowed job plan depot_low).1 allowed in
      (serving_plans_lem job plan).1 (p.0, p.1, serving)

  -- so the first with the least key in the enumeration is the twin
  pub best_plan_lem : IsBest job (best_plan job)
  unfolding plan_key
  best_plan_lem =
      let t = serving_exists job a in
      let b = best_allowed job a.layout t.0 ((serving_plans_lem job t.0).1 (t.1, t.2, t.3)) in
      record {
        allowed = (accepts_allowed job (best_plan job) depot_low).0 (b.0, b.1);
        serving = b.2;
        least = λ plan allowed serving. best_plan_shortest job plan (listed_plan plan allowed serving);
        fewest = λ plan allowed serving no_longer. (
            let m = listed_plan plan allowed serving in
            let no_more = first_shortest_least key (best_first job a.layout plan m) plan m in
            key_fewest job.layout a.layout (best_plan job) plan b.0 ((accepts_allowed job plan depot_low).1 allowed).0 no_more no_longer
            );
        first = λ plan allowed serving no_longer no_more. (
            let m = listed_plan plan allowed serving in
            first_shortest_first key (PlanBefore job.layout.cells) (serving_plans_ordered job) (best_first job a.layout plan m) plan m (omega (arith, no_longer, no_more))
            );
      }

  -- there is only one: of two, each would come before the other
  pub best_plan_only : (plan : Plan) → IsBest job plan → plan ≡ best_plan job
  best_plan_only plan i =
      let b = best_plan_lem in
      let no_longer = i.least (best_plan job) b.allowed b.serving in
      let no-shorter = b.least plan i.allowed i.serving in
      go (i.first (best_plan job) b.allowed b.serving no-shorter (b.fewest plan i.allowed i.serving no_longer))
      (b.first plan i.allowed i.serving no_longer (i.fewest (best_plan job) b.allowed b.serving no-shorter))
    where
      go : (best_plan job ≡ plan) ⊎ PlanBefore job.layout.cells plan (best_plan job) → (plan ≡ best_plan job) ⊎ PlanBefore job.layout.cells (best_plan job) plan → plan ≡ best_plan job
      go (inl e) q = sym e
      go (inr h) (inl e) = e
      go (inr h) (inr k) = absurd (plan_before_one_way job.layout.cells plan (best_plan job) h k)
