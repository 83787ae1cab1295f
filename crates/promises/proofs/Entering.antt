-- Store α with the list 9×1: its aisle 1 holds article 7 alone. BOTTOM 1 02 BOTTOM 1 enters it and serves the list:
-- EXACT allows that plan, and no other policy does.
use Prim.Native.Nat.{ℕ, zero, suc}
use native.Mathlib.Omega.{arith}
use mathlib.Core.Path.{◌≡◌, refl, sym, ◌∙◌}
use mathlib.Core.Bool.{false, true≢false}
use mathlib.Core.List.{[], ◌∷◌}
use Rattle.rules.specs.declared.Policy.{Policy}
use Rattle.rules.specs.declared.Policy.TheVariants.{Exact, Return, Traversal, Midpoint, Composite, Largest}
use Rattle.rules.specs.declared.Action.TheVariants.{Bottom}
use Rattle.rules.specs.declared.Passage.TheVariants.{P02}
use Rattle.rules.specs.Jobs.{Job, listed, holds_listed}
use Rattle.rules.specs.Plans.{Plan, WellFormed, Fits, action_at, plan_passes}
use Rattle.rules.specs.Policies.{Allowed}
use Rattle.rules.specs.Machine.{action_possible, action_step, passage_step, accepts}
use Rattle.rules.specs.Serving.{PlanServes}
use Rattle.rules.specs.Examples.{stocked, ◌⨯◌, alpha, both_bottom, own_cases}
use Rattle.rules.proofs.Serving.{serves_test}
use Rattle.rules.proofs.Cases.{own_cases_hold}
use Rattle.tours.proofs.Machine.{accepts_allowed}

-- the job and the plan
abbrev pub one_nine : Policy → Job
one_nine = alpha ((9 ⨯ 1) ∷ [])

abbrev pub through_aisle_one : Plan
through_aisle_one = record { actions = Bottom 1 ∷ Bottom 1 ∷ []; passages = P02 ∷ [] }

of_store : (policy : Policy) → WellFormed (one_nine policy).layout through_aisle_one
unfolding alpha action_at
of_store policy = record { aisles = refl; passages = refl; fits = fits }
  where
    fits : (j : ℕ) → Fits 3 (action_at through_aisle_one j)
    fits zero = tt
    fits (suc zero) = (omega arith, omega arith)
    fits (suc (suc zero)) = (omega arith, omega arith)
    fits (suc (suc (suc j))) = tt

-- it serves the list
pub entering_serves : PlanServes (one_nine Exact) through_aisle_one
unfolding PlanServes own_cases both_bottom
entering_serves = (serves_test (one_nine Exact) (plan_passes through_aisle_one)).0 own_cases_hold.0.0

pub entering_exact : Allowed (one_nine Exact) through_aisle_one
unfolding own_cases both_bottom alpha
entering_exact = (accepts_allowed (one_nine Exact) through_aisle_one (omega arith)).0 (of_store Exact, own_cases_hold.0.1)

-- no other policy allows it
not_accepted : (policy : Policy) → accepts (one_nine policy) through_aisle_one ≡ false → Allowed (one_nine policy) through_aisle_one → ⊥
unfolding alpha
not_accepted policy e a = true≢false (sym ((accepts_allowed (one_nine policy) through_aisle_one (omega arith)).1 a).1 ∙ e)

pub entering_others : (policy : Policy) → (policy ≡ Exact → ⊥) → Allowed (one_nine policy) through_aisle_one → ⊥
unfolding alpha ◌⨯◌ stocked listed holds_listed accepts action_possible action_step passage_step
entering_others Exact n = absurd (n refl)
entering_others Return n = not_accepted Return refl
entering_others Traversal n = not_accepted Traversal refl
entering_others Midpoint n = not_accepted Midpoint refl
entering_others Composite n = not_accepted Composite refl
entering_others Largest n = not_accepted Largest refl
