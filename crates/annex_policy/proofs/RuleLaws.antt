-- What a policy names and which aisles are VOID, aisle by aisle.
use Prim.Native.Nat.{ℕ, zero, suc, ◌+◌, ◌-◌, ◌≤◌, ◌<◌}
use native.Mathlib.Omega.{arith}
use native.Mathlib.Nat.{eq-or-lt_of_le}
use mathlib.Core.Path.{◌≡◌, refl, sym, ap, ◌∙◌, subst}
use mathlib.Core.Logic.{◌⊎◌, inl, inr}
use mathlib.Core.List.{map}
use mathlib.Core.Bool.{true, false}
use lib.ListN.{take, length-map, length-take}
use Rattle.rules.specs.declared.Action.{Action}
use Rattle.rules.specs.declared.Action.TheVariants.{Void}
use Rattle.rules.specs.declared.Passage.{Passage}
use Rattle.rules.specs.declared.Passage.TheVariants.{P00}
use Rattle.rules.specs.Store.{side_of}
use Rattle.rules.specs.Jobs.{Job}
use Rattle.rules.specs.Plans.{Plan, action_at, passage_at}
use Rattle.rules.specs.Policies.{action_named, passage_named}
use Rattle.rules.proofs.Lists.{place_beyond}
use Rattle.rules.proofs.EmptyPlan.{named_void}
use Rattle.values.specs.declared.Stage.{Stage}
use Rattle.values.specs.declared.PlanValue.{PlanValue}
use Rattle.values.specs.Values.{plan_of}
use Rattle.closedwalks.proofs.Splits.{below_or_from}
use Rattle.annex_policy.specs.Ruled.{may_be_entered, Named}

module _ (plan : PlanValue) where
  -- outside the store every aisle is VOID
  pub action_outside : (j : ℕ) → (j ≡ 0) ⊎ (plan.aisles < j) → action_at (plan_of plan) j ≡ Void
  unfolding plan_of action_at
  action_outside zero h = refl
  action_outside (suc j) (inl e) = absurd (omega arith)
  action_outside (suc j) (inr l) =
      let f : Stage → Action = λ (s : Stage). s.action in
      let stages = take plan.aisles plan.stages in
      place_beyond Void (map f stages) j (omega (arith, length-map stages f, length-take plan.aisles plan.stages))

  -- and every passage 00
  passage_outside : (j : ℕ) → (j ≡ 0) ⊎ (plan.aisles < j) → passage_at (plan_of plan) j ≡ P00
  unfolding plan_of passage_at
  passage_outside zero h = refl
  passage_outside (suc j) (inl e) = absurd (omega arith)
  passage_outside (suc j) (inr l) =
      let f : Stage → Passage = λ (s : Stage). s.passage in
      let stages = take (plan.aisles - 1) plan.stages in
      place_beyond P00 (map f stages) j (omega (arith, length-map stages f, length-take (plan.aisles - 1) plan.stages))

-- what is asked of aisle j and the passage behind it
pub record NamedAt (job : Job) (plan : Plan) (j : ℕ) : Type 0 where
  pub action : action_named (side_of job.layout) job.policy (action_at plan j) ≡ true
  pub passage : passage_named (side_of job.layout) job.policy (passage_at plan j) ≡ true
  pub void : may_be_entered job j ≡ false → action_at plan j ≡ Void

-- of the first n aisles
abbrev pub NamedTo : Job → Plan → ℕ → Type 0
NamedTo job plan n = (j : ℕ) → 1 ≤ j → j ≤ n → NamedAt job plan j

-- of one aisle more
pub named_more : (job : Job) (plan : Plan) (n : ℕ) → NamedTo job plan n → NamedAt job plan (n + 1) → NamedTo job plan (n + 1)
named_more job plan n f g j l h = go (eq-or-lt_of_le h)
  where
    go : (j ≡ n + 1) ⊎ (j < n + 1) → NamedAt job plan j
    go (inl e) = subst (NamedAt job plan) (sym e) g
    go (inr k) = f j l (omega arith)

-- the aisles of the store are all that is asked
pub named_all : (job : Job) (plan : PlanValue) → NamedTo job (plan_of plan) plan.aisles → Named job (plan_of plan)
named_all job plan f = record { actions = λ j. (at j).action; passages = λ j. (at j).passage; void = λ j. (at j).void }
  where
    outside : (j : ℕ) → (j ≡ 0) ⊎ (plan.aisles < j) → NamedAt job (plan_of plan) j
    outside j o =
        let side = side_of job.layout in
        let named = named_void side job.policy in
        record {
          action = ap (action_named side job.policy) (action_outside plan j o) ∙ named.0;
          passage = ap (passage_named side job.policy) (passage_outside plan j o) ∙ named.1;
          void = λ e. action_outside plan j o;
        }

    at : (j : ℕ) → NamedAt job (plan_of plan) j
    at zero = outside zero (inl refl)
    at (suc j) = go (below_or_from plan.aisles (suc j))
      where
        go : (plan.aisles < suc j) ⊎ (suc j ≤ plan.aisles) → NamedAt job (plan_of plan) (suc j)
        go (inl h) = outside (suc j) (inr h)
        go (inr h) = f (suc j) (omega arith) h
