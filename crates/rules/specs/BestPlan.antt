-- Document 01, "Policies", the ties, as request #108 has them: the order of plans, and the best of those that serve the list: of the shortest
-- those that enter the fewest aisles, and of these the first.
use Rattle.std.specs.Prelude.{ℕ, zero, suc, ◌-◌, ◌≤◌, ◌<◌, ◌≡◌, ◌⊎◌, List, [], ◌∷◌, ◌++◌, map, Bool, cond, ◌&&◌, ◌||◌, eqb, ltb, replicate}
use Rattle.std.proofs.Math.Option.{Option, none, some, get_or}
use Rattle.rules.specs.declared.Layout.{Layout}
use Rattle.rules.specs.declared.Action.{Action}
use Rattle.rules.specs.declared.Action.TheVariants.{Void, Bottom, Top, Gap, Once, Twice}
use Rattle.rules.specs.declared.Passage.{Passage}
use Rattle.rules.specs.declared.Passage.TheVariants.{P00, P02, P11, P20, P22}
use Rattle.rules.specs.Lists.{from, select, concat_of}
use Rattle.rules.specs.Jobs.{Job}
use Rattle.rules.specs.Plans.{Plan, plan_length, plan_passes}
use Rattle.rules.specs.Serving.{serves, PlanServes}
use Rattle.rules.specs.Policies.{entered_aisles, Allowed}
use Rattle.rules.specs.Machine.{accepts}

-- the numbers from n down to 1
abbrev pub down_from : ℕ → List ℕ
down_from zero = []
down_from (suc n) = suc n ∷ down_from n

-- the actions of an aisle in rank order: VOID, BOTTOM (small i first), TOP (large i first), GAP (small h, then small i), ONCE, TWICE
unfoldable pub actions_of : ℕ → List Action
actions_of cells =
    (Void ∷ map Bottom (from 1 cells))
    ++ (map Top (down_from cells)
    ++ (concat_of (λ h. map (Gap h) (from (suc h) (cells - h))) (from 1 cells) ++ (Once ∷ Twice ∷ [])))

-- the passages in rank order: 00, 02, 11, 20, 22
unfoldable pub passages_in_order : List Passage
passages_in_order = P00 ∷ P02 ∷ P11 ∷ P20 ∷ P22 ∷ []

-- a plan of one aisle
unfoldable pub single : Action → Plan
single a = record { actions = a ∷ []; passages = [] }

-- a plan with one more aisle and passage in front
unfoldable pub prepend : Action → Passage → Plan → Plan
prepend a p plan = record { actions = a ∷ plan.actions; passages = p ∷ plan.passages }

-- all plans of so many aisles with so many cells, in order: by aisle 1, then passage 1–2, then aisle 2 and so on
abbrev pub plans_of : ℕ → ℕ → List Plan
plans_of cells zero = []
plans_of cells (suc zero) = map single (actions_of cells)
plans_of cells (suc (suc n)) =
    concat_of (λ a. concat_of (λ p. map (prepend a p) (plans_of cells (suc n))) passages_in_order) (actions_of cells)

-- the rank of an action, in an aisle with so many cells: its kind, then its cells
unfoldable pub action_rank : ℕ → Action → ℕ × ℕ × ℕ
action_rank cells Void = (0, 0, 0)
action_rank cells (Bottom i) = (1, i, 0)
action_rank cells (Top i) = (2, cells - i, 0)
action_rank cells (Gap h i) = (3, h, i)
action_rank cells Once = (4, 0, 0)
action_rank cells Twice = (5, 0, 0)

-- the rank of a passage
abbrev pub passage_rank : Passage → ℕ
passage_rank P00 = 0
passage_rank P02 = 1
passage_rank P11 = 2
passage_rank P20 = 3
passage_rank P22 = 4

-- one rank comes before another
unfoldable pub RankBefore : ℕ × ℕ × ℕ → ℕ × ℕ × ℕ → Type 0
RankBefore r s = (r.0 < s.0) ⊎ ((r.0 ≡ s.0) × ((r.1 < s.1) ⊎ ((r.1 ≡ s.1) × (r.2 < s.2))))

-- one plan comes before another: at the first difference, comparing aisle 1, passage 1–2, aisle 2 and so on
pub data Before (cells : ℕ) : List Action → List Passage → List Action → List Passage → Type 0 where
  by_action : {a b : Action} {xs ys : List Action} {ps qs : List Passage} → RankBefore (action_rank cells a) (action_rank cells b) → Before cells (a ∷ xs) ps (b ∷ ys) qs
  by_passage : {a : Action} {xs ys : List Action} {p q : Passage} {ps qs : List Passage} → passage_rank p < passage_rank q → Before cells (a ∷ xs) (p ∷ ps) (a ∷ ys) (q ∷ qs)
  further : {a : Action} {xs ys : List Action} {p : Passage} {ps qs : List Passage} → Before cells xs ps ys qs → Before cells (a ∷ xs) (p ∷ ps) (a ∷ ys) (p ∷ qs)

-- the same of whole plans
unfoldable pub PlanBefore : ℕ → Plan → Plan → Type 0
PlanBefore cells x y = Before cells x.actions x.passages y.actions y.passages

module _ {A : Type 0} where
  -- one is better than another: it is shorter, or it is as long and enters fewer aisles
  unfoldable pub is_better : (A → ℕ) → (A → ℕ) → A → A → Bool
  is_better len aisles x y = ltb (len x) (len y) || (eqb (len x) (len y) && ltb (aisles x) (aisles y))

  -- the first of two, unless the second is better
  unfoldable pub better_of : (A → A → Bool) → A → Option A → A
  better_of better x none = x
  better_of better x (some y) = cond (better y x) y x

  -- the first of the best in a list
  abbrev pub first_best : (A → A → Bool) → List A → Option A
  first_best better [] = none
  first_best better (x ∷ xs) = some (better_of better x (first_best better xs))

-- the plans that the job's policy allows and that serve its list, in order. `accepts` (Machine) is the executable test of
-- `Allowed` (Policies): that the two agree is proved (tours/proofs/Machine, `accepts_allowed`)
unfoldable pub serving_plans : Job → List Plan
serving_plans job =
    select (λ plan. accepts job plan && serves job (plan_passes plan)) (plans_of job.layout.cells job.layout.aisles)

-- the plan that treads nothing
unfoldable pub empty_plan : Layout → Plan
empty_plan z = record { actions = replicate z.aisles Void; passages = replicate (z.aisles - 1) P00 }

-- the plan of the sheet: of the shortest the first of those that enter the fewest aisles. (There is one for every job that is not refused: of
-- an empty list the plan that treads nothing. Else that only stands in where there is none.)
unfoldable pub best_plan : Job → Plan
best_plan job =
    get_or (first_best (is_better (plan_length job.layout) entered_aisles) (serving_plans job)) (empty_plan job.layout)

-- its declarative twin, among the plans that some rules allow: the plan is one of them and serves the list; no other such plan is shorter;
-- none that is no longer enters fewer aisles; and of those that are no longer and enter no more it is the first in the order of plans
pub record BestAmong (Allows : Plan → Type 0) (job : Job) (plan : Plan) : Type 0 where
  pub allowed : Allows plan
  pub serving : PlanServes job plan
  pub least : (other : Plan) → Allows other → PlanServes job other → plan_length job.layout plan ≤ plan_length job.layout other
  pub fewest : (other : Plan) → Allows other → PlanServes job other → plan_length job.layout other ≤ plan_length job.layout plan
      → entered_aisles plan ≤ entered_aisles other
  pub first : (other : Plan) → Allows other → PlanServes job other → plan_length job.layout other ≤ plan_length job.layout plan
      → entered_aisles other ≤ entered_aisles plan → (other ≡ plan) ⊎ PlanBefore job.layout.cells plan other

-- among those that the job's policy allows: that this is `best_plan`, and no other plan, for every job that is not refused is proved
-- (optimum/proofs/Best, `best_plan_lem`, `best_plan_only`)
abbrev pub IsBest : Job → Plan → Type 0
IsBest job plan = BestAmong (Allowed job) job plan
