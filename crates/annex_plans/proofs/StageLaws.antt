-- The actions and passages of a plan value.
use Prim.Native.Nat.{ℕ, zero, suc, ◌-◌, ◌≤◌, ◌<◌}
use native.Mathlib.Omega.{arith}
use mathlib.Core.Path.{◌≡◌, refl, sym}
use mathlib.Core.List.{List, [], ◌∷◌, map}
use lib.ListN.{get_or, take, length-map, length-take}
use Rattle.rules.specs.declared.Action.TheVariants.{Void}
use Rattle.rules.specs.declared.Passage.{Passage}
use Rattle.rules.specs.declared.Passage.TheVariants.{P00}
use Rattle.rules.specs.Lists.{nth}
use Rattle.rules.specs.Plans.{action_at, passage_at}
use Rattle.rules.proofs.Lists.{place_beyond}
use Rattle.values.specs.declared.Stage.{Stage}
use Rattle.values.specs.declared.PlanValue.{PlanValue}
use Rattle.values.specs.Values.{plan_of}

-- a part of the j-th of the first n stages
nth_take : {A : Type 0} (f : Stage → A) (n j : ℕ) (stages : List Stage) (s : Stage) → j < n
    → nth (map f (take n stages)) (suc j) (f s) ≡ f (get_or stages j s)
nth_take f zero j stages s h = absurd (omega arith)
nth_take f (suc n) j [] s h = refl
nth_take f (suc n) zero (x ∷ stages) s h = refl
nth_take f (suc n) (suc j) (x ∷ stages) s h = nth_take f n j stages s (omega arith)

-- a stage that treads nothing
abbrev no_stage : Stage
no_stage = record { action = Void; passage = P00 }

module _ (plan : PlanValue) where
  -- the action of aisle j
  pub stage_action : (j : ℕ) → 1 ≤ j → j ≤ plan.aisles → (get_or plan.stages (j - 1) no_stage).action ≡ action_at (plan_of plan) j
  unfolding plan_of action_at
  stage_action zero l h = absurd (omega arith)
  stage_action (suc j) l h =
      let e : suc j - 1 ≡ j = omega arith in
      rw e (sym (nth_take (λ (s : Stage). s.action) plan.aisles j plan.stages no_stage (omega arith)))

  -- the passage behind it
  pub stage_passage : (j : ℕ) → 1 ≤ j → j < plan.aisles → (get_or plan.stages (j - 1) no_stage).passage ≡ passage_at (plan_of plan) j
  unfolding plan_of passage_at
  stage_passage zero l h = absurd (omega arith)
  stage_passage (suc j) l h =
      let e : suc j - 1 ≡ j = omega arith in
      rw e (sym (nth_take (λ (s : Stage). s.passage) (plan.aisles - 1) j plan.stages no_stage (omega arith)))

  -- before the first aisle and behind the last one there is none
  pub first_passage_lem : (j : ℕ) → j ≡ 0 → P00 ≡ passage_at (plan_of plan) j
  unfolding passage_at
  first_passage_lem j e = rw e refl

  pub last_passage : (j : ℕ) → j ≡ plan.aisles → 1 ≤ j → P00 ≡ passage_at (plan_of plan) j
  unfolding plan_of passage_at
  last_passage zero e l = absurd (omega arith)
  last_passage (suc j) e l =
      let firsts = take (plan.aisles - 1) plan.stages in
      let passage : Stage → Passage = λ (s : Stage). s.passage in
      sym (place_beyond P00 (map passage firsts) j (omega (arith, length-map firsts passage, length-take (plan.aisles - 1) plan.stages)))
