-- The finding of a plan by its number: aisle by aisle, each cuts the number of what is left.
use Prim.Native.Nat.{ℕ, zero, suc, ◌+◌, ◌*◌, ◌-◌, ◌/◌, ◌%◌, ◌≤◌, ◌<◌}
use native.Mathlib.Omega.{arith}
use native.Mathlib.Nat.{mul-div_cancel_left}
use mathlib.Core.Path.{◌≡◌, refl, sym, ◌∙◌, ap}
use mathlib.Core.List.{List, [], ◌∷◌, ◌++◌, map}
use lib.ListN.{length, get_or, take, set, length-set}
use lib.Seq.{take-suc-set, take-set-le}
use Rattle.rules.specs.declared.Action.{Action}
use Rattle.rules.specs.declared.Action.TheVariants.{Void}
use Rattle.rules.specs.declared.Passage.{Passage}
use Rattle.rules.specs.declared.Passage.TheVariants.{P00}
use Rattle.rules.specs.Plans.{Plan}
use Rattle.rules.specs.BestPlan.{actions_of, passages_in_order, single, prepend, plans_of}
use Rattle.rules.proofs.Lists.{map-append}
use Rattle.values.specs.declared.Stage.{Stage}
use Rattle.values.specs.Values.{plan_of}
use Rattle.annex_plans.specs.Numbered.{no_plan}
use Rattle.annex_plans.proofs.Numbers.{some_actions, plans_length, plans_split, plans_some, single_at}

-- a plan with stages in front
abbrev joined : List Stage → Plan → Plan
joined [] plan = plan
joined (s ∷ stages) plan = prepend s.action s.passage (joined stages plan)

-- the actions and the passages of stages
abbrev actions_in : List Stage → List Action
actions_in stages = map (λ (s : Stage). s.action) stages

abbrev passages_in : List Stage → List Passage
passages_in stages = map (λ (s : Stage). s.passage) stages

-- one more stage in front is one more before the plan
joined_more : (stages : List Stage) (s : Stage) (plan : Plan) → joined (stages ++ (s ∷ [])) plan ≡ joined stages (prepend s.action s.passage plan)
joined_more [] s plan = refl
joined_more (t ∷ stages) s plan = ap (prepend t.action t.passage) (joined_more stages s plan)

-- stages in front of a plan of one aisle
joined_single : (stages : List Stage) (a : Action) → joined stages (single a) ≡ record { actions = actions_in stages ++ (a ∷ []); passages = passages_in stages }
unfolding single
joined_single [] a = refl
joined_single (t ∷ stages) a = ap (prepend t.action t.passage) (joined_single stages a) ∙ (unfold prepend in refl)

-- the plan of a number; that of no aisle where there is none
abbrev plan_numbered : ℕ → ℕ → ℕ → Plan
plan_numbered cells aisles number = get_or (plans_of cells aisles) number no_plan

-- where the finding of a plan stands: j stages are set, and the plan of the number `rest` of the aisles behind them is to come
pub record Going (cells aisles number : ℕ) (stages : List Stage) (size rest j : ℕ) : Type 0 where
  pub n : ℕ
  pub left : j + suc n ≡ aisles
  pub size_is : size ≡ length (plans_of cells (suc n))
  pub below : rest < size
  pub wide : length stages ≡ 16
  pub same : joined (take j stages) (plan_numbered cells (suc n) rest) ≡ plan_numbered cells aisles number

-- it begins with no stage set
pub going_start : (cells aisles number : ℕ) (stages : List Stage) (size : ℕ) → 1 ≤ aisles → size ≡ length (plans_of cells aisles)
    → number < length (plans_of cells aisles) → length stages ≡ 16 → Going cells aisles number stages size number 0
going_start cells zero number stages size h e l w = absurd (omega arith)
going_start cells (suc n) number stages size h e l w = record { n = n; left = omega arith; size_is = e; below = omega arith; wide = w; same = refl }

module _ (cells aisles number : ℕ) (stages : List Stage) (size rest j : ℕ) where
  -- what one more aisle asks of the divisors and ranks, and that with its stage the finding goes on
  pub record Cut (count : ℕ) : Type 0 where
    pub block_some : 0 < size / count
    pub rest_some : 0 < size / count / 5
    pub action : rest / (size / count) < length (actions_of cells)
    pub passage : rest % (size / count) / (size / count / 5) < 5
    pub going : (s : Stage) → s.action ≡ get_or (actions_of cells) (rest / (size / count)) Void
        → s.passage ≡ get_or passages_in_order (rest % (size / count) / (size / count / 5)) P00
        → Going cells aisles number (set stages j s) (size / count / 5) (rest % (size / count) % (size / count / 5)) (suc j)

  pub going_cut : (count : ℕ) → count ≡ length (actions_of cells) → Going cells aisles number stages size rest j → aisles ≤ 16 → j + 1 < aisles → Cut count
  going_cut count k g few more = go g.n g.left g.size_is g.same
    where
      go : (n : ℕ) → j + suc n ≡ aisles → size ≡ length (plans_of cells (suc n))
          → joined (take j stages) (plan_numbered cells (suc n) rest) ≡ plan_numbered cells aisles number → Cut count
      go zero left e same = absurd (omega arith)
      go (suc n) left e same =
          let later = length (plans_of cells (suc n)) in
          let some = plans_some cells n in
          let total : size ≡ count * (5 * later) = e ∙ plans_length cells n ∙ ap (λ s. s * (5 * later)) (sym k) in
          let counted = some_actions cells in
          let block : size / count ≡ 5 * later = ap (λ s. s / count) total ∙ mul-div_cancel_left (5 * later) {n = count} (omega arith) in
          let small : size / count / 5 ≡ later = ap (λ s. s / 5) block ∙ omega arith in
          let t = plans_split cells n some rest (omega (arith, e, g.below)) in
          let next = plan_numbered cells (suc n) (rest % (size / count) % (size / count / 5)) in
          record {
            block_some = omega (arith, block);
            rest_some = omega (arith, small);
            action = rw block t.action;
            passage = rw (small, block) t.passage;
            going = λ s x y. record {
              n = n;
              left = omega arith;
              size_is = small;
              below = rw (small, block) t.rest;
              wide = length-set stages j s ∙ g.wide;
              same =
                  ap (λ l. joined l next) (take-suc-set stages j s (omega (arith, g.wide)))
                  ∙ joined_more (take j stages) s next
                  ∙ ap (joined (take j stages)) (rw (x, y, small, block) (sym t.plan))
                  ∙ same;
            };
          }

  -- the end: with the stage of the last aisle the plan is found
  abbrev pub Ends : Type 0
  Ends =
      (rest < length (actions_of cells))
      × ((s : Stage) (fits : aisles ≤ 16) → s.action ≡ get_or (actions_of cells) rest Void → plan_of (record { aisles = aisles; stages = set stages j s; fits = fits }) ≡ plan_numbered cells aisles number)

  pub going_end : Going cells aisles number stages size rest j → aisles ≤ 16 → aisles ≤ j + 1 → Ends
  unfolding plan_of
  going_end g few last = go g.n g.left g.size_is g.same
    where
      go : (n : ℕ) → j + suc n ≡ aisles → size ≡ length (plans_of cells (suc n))
          → joined (take j stages) (plan_numbered cells (suc n) rest) ≡ plan_numbered cells aisles number → Ends
      go (suc n) left e same = absurd (omega arith)
      go zero left e same =
          let t = single_at cells rest (omega (arith, e, g.below)) in
          let m : aisles ≡ suc j = omega arith in
          let k : aisles - 1 ≡ j = omega arith in
          let inside : j < length stages = omega (arith, g.wide) in (
            t.0,
            λ s fits x. (
                let acts : actions_in (take aisles (set stages j s)) ≡ actions_in (take j stages) ++ (s.action ∷ []) =
                ap (λ i. actions_in (take i (set stages j s))) m
                ∙ ap actions_in (take-suc-set stages j s inside)
                ∙ map-append (λ (r : Stage). r.action) (take j stages) (s ∷ []) in
                let ps : passages_in (take (aisles - 1) (set stages j s)) ≡ passages_in (take j stages) =
                ap (λ i. passages_in (take i (set stages j s))) k ∙ ap passages_in (take-set-le j stages j s (omega arith)) in
                let both : plan_of (record { aisles = aisles; stages = set stages j s; fits = fits }) ≡ record { actions = actions_in (take j stages) ++ (s.action ∷ []); passages = passages_in (take j stages) } =
                λ i. record { actions = acts i; passages = ps i } in
                both ∙ sym (joined_single (take j stages) s.action) ∙ ap (λ a. joined (take j stages) (single a)) x ∙ ap (joined (take j stages)) (sym t.1) ∙ same
                ),
          )
