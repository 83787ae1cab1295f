-- Policies compared: the best plan under LARGEST is no longer than the one under MIDPOINT.
use Prim.Native.Nat.{ℕ, ◌≤◌}
use mathlib.Core.Path.{◌≡◌, refl, sym, ◌∙◌, ap}
use mathlib.Core.List.{List, [], ◌∷◌}
use native.Mathlib.Omega.{arith}
use Rattle.rules.specs.declared.Policy.TheVariants.{Midpoint, Largest}
use Rattle.rules.specs.declared.OrderLine.{OrderLine}
use Rattle.rules.specs.Jobs.{Job, job_under}
use Rattle.rules.specs.Plans.{plan_length}
use Rattle.rules.specs.Serving.{Serves, PlanServes}
use Rattle.rules.specs.BestPlan.{best_plan}
use Rattle.rules.specs.Refusals.{Admitted}
use Rattle.rules.proofs.Admission.{layout_within, admitted_under}
use Rattle.rules.proofs.EmptyList.{closed_accepted, accepts_with_lines, best_empty}
use Rattle.tours.proofs.Machine.{accepts_allowed}
use Rattle.tours.proofs.GapsMoved.{gaps_moved}
use Rattle.optimum.proofs.Best.{best_plan_lem}

module _ (job : Job) (a : Admitted job) where
  -- for a list with lines MIDPOINT's plan with its gaps moved is one that LARGEST allows and that serves the list
  largest_with_lines : (job.lines ≡ [] → ⊥)
      → plan_length job.layout (best_plan (job_under Largest job)) ≤ plan_length job.layout (best_plan (job_under Midpoint job))
  unfolding PlanServes Serves
  largest_with_lines some_line =
      let mid = job_under Midpoint job in
      let large = job_under Largest job in
      let depot = ((layout_within job.layout).0 a.layout).depot.0 in
      let best = best_plan_lem mid (admitted_under Midpoint job a) in
      let (formed, accepted) = (accepts_allowed mid (best_plan mid) depot).1 best.allowed in
      let closes = sym (accepts_with_lines mid (best_plan mid) some_line) ∙ accepted in
      let (moved, well, closed, serves, shorter) = gaps_moved job a (best_plan mid) formed closes in
      let allowed = (accepts_allowed large moved depot).0 (well, closed_accepted large moved closed) in
      omega (arith, (best_plan_lem large (admitted_under Largest job a)).least moved allowed (serves best.serving))

  -- for an empty list both tread nothing
  pub largest_no_longer : plan_length job.layout (best_plan (job_under Largest job)) ≤ plan_length job.layout (best_plan (job_under Midpoint job))
  largest_no_longer = go job.lines refl
    where
      go : (lines : List OrderLine) → job.lines ≡ lines
          → plan_length job.layout (best_plan (job_under Largest job)) ≤ plan_length job.layout (best_plan (job_under Midpoint job))
      go [] e =
          let largest = ap (plan_length job.layout) (best_empty (job_under Largest job) e a.layout) in
          let midpoint = ap (plan_length job.layout) (best_empty (job_under Midpoint job) e a.layout) in
          omega (arith, largest, midpoint)
      go (l ∷ lines) e = largest_with_lines (λ none. let some : ◌≡◌ {A = ℕ} 1 0 = ap count (sym e ∙ none) in omega arith)
        where
          count : List OrderLine → ℕ
          count [] = 0
          count (x ∷ xs) = 1
