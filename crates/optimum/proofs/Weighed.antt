-- The plan that the table of a job leads to is the first of the cheapest that are allowed and serve the list, and the table's value
-- at the start is its cost: over any cost that adds up over the actions and passages of a plan.
use Prim.Native.Nat.{ℕ, zero, suc, ◌+◌, min, ◌≤◌, ◌<◌}
use native.Mathlib.Omega.{arith}
use mathlib.Core.Path.{◌≡◌, refl, sym, ◌∙◌, ap, ap₂}
use mathlib.Core.List.{List, [], ◌∷◌, map, tail, Memᴰ}
use mathlib.Core.Bool.{Bool, true, false, cond, ◌&&◌}
use mathlib.Core.Option.{some}
use Rattle.rules.specs.declared.Action.{Action}
use Rattle.rules.specs.declared.Passage.{Passage}
use Rattle.rules.specs.declared.Passage.TheVariants.{P00}
use Rattle.rules.specs.Lists.{head_or, concat_of}
use Rattle.rules.specs.Jobs.{Job}
use Rattle.rules.specs.Plans.{Plan, WellFormed, plan_passes}
use Rattle.rules.specs.Serving.{serves}
use Rattle.rules.specs.Machine.{State, nothing, action_step, passage_step, run_from, is_closed, closes_off, accepts}
use Rattle.rules.specs.BestPlan.{actions_of, passages_in_order, single, prepend, plans_of, serving_plans}
use Rattle.rules.proofs.Lists.{map_map, map_concat, concat_cong}
use Rattle.rules.proofs.EmptyList.{accepts_with_lines}
use Rattle.rules.proofs.Enumeration.{first_shortest, enumeration_sound, first_shortest_given, first_shortest_member, serving_plans_lem}
use Rattle.optimum.specs.Least.{sum_up_to, least_or, first_at}
use Rattle.optimum.specs.Table.{Cost, Problem, Rest, rests, rest_cost, action_then, passage_then, value, choose}
use Rattle.optimum.specs.Demand.{less, gains, whole_demand, met}
use Rattle.optimum.specs.Routing.{weighed, all_actions, pair_up, rest_of, cost_from}
use Rattle.optimum.proofs.Choice.{map_first, least_map, first_map, least_agree, first_agree}
use Rattle.optimum.proofs.Table.{value_least, choose_first}
use Rattle.optimum.proofs.Demand.{demand_after, serves_met}
use Rattle.optimum.proofs.Shortest.{counted, found_length, least_found, first_found}

-- the rests of one aisle are the plans of one aisle
singles : (xs : List Action) → concat_of (λ a. ((a, P00) ∷ []) ∷ []) xs ≡ map rest_of (map single xs)
unfolding rest_of single
singles [] = refl
singles (a ∷ xs) = ap (λ l. ((a, P00) ∷ []) ∷ l) (singles xs)

-- a plan that is allowed and serves the list
abbrev allowed_serving : Job → Plan → Bool
allowed_serving job plan = accepts job plan && serves job (plan_passes plan)

-- A cost of plans by which the table of a job can choose: it adds up over actions and passages, and 'none' is above it.
-- The router's is the key (Keys).
pub record Weighs (job : Job) (c : Cost) (cost : Plan → ℕ) : Type 0 where
  pub adds_up : (plan : Plan) → WellFormed job.layout plan → cost_from c 1 plan.actions plan.passages ≡ cost plan
  pub below : (plan : Plan) → WellFormed job.layout plan → cost plan < c.no_way

module _ (job : Job) (c : Cost) where
  -- the table over all actions
  abbrev table : Problem
  table = weighed job c (all_actions job)

  -- 'none'
  abbrev no_way : ℕ
  no_way = c.no_way

  -- the rests of all aisles are the plans, action and passage paired up
  abbrev Paired : ℕ → ℕ → Type 0
  Paired n j = rests table (suc n) j ≡ map rest_of (plans_of job.layout.cells (suc n))

  -- one aisle more: by action, then by passage
  one_more_lem : (n j : ℕ) → Paired n (suc j) → Paired (suc n) j
  unfolding all_actions rest_of prepend
  one_more_lem n j next = concat_cong _ _ with_action actions ∙ sym (map_concat rest_of _ actions)
    where
      actions : List Action
      actions = actions_of job.layout.cells

      plans : List Plan
      plans = plans_of job.layout.cells (suc n)

      following : List Rest
      following = rests table (suc n) (suc j)

      onward : Action → Passage × Rest → Rest
      onward a t = (a, t.0) ∷ t.1

      with_passage_lem : (a : Action) (p : Passage) → map (onward a) (map (λ rest. (p, rest)) following) ≡ map rest_of (map (prepend a p) plans)
      with_passage_lem a p =
          map_map _ _ following ∙ ap (map (λ rest. (a, p) ∷ rest)) next ∙ map_map _ rest_of plans ∙ sym (map_map rest_of (prepend a p) plans)

      with_action : (a : Action)
          → map (onward a) (concat_of (λ p. map (λ rest. (p, rest)) following) passages_in_order) ≡ map rest_of (concat_of (λ p. map (prepend a p) plans) passages_in_order)
      with_action a = map_concat _ _ passages_in_order ∙ concat_cong _ _ (with_passage_lem a) passages_in_order ∙ sym (map_concat rest_of _ passages_in_order)

  -- by induction on the aisles
  rests_plans : (n j : ℕ) → Paired n j
  unfolding all_actions
  rests_plans zero j = singles (actions_of job.layout.cells)
  rests_plans (suc n) j = one_more_lem n j (rests_plans n (suc j))

  -- one aisle more of a sum that is cut at 'none'
  one_aisle_lem : (b : Bool) (x y n : ℕ) → sum_up_to no_way x (sum_up_to no_way y (cond b (min n no_way) no_way)) ≡ cond b (min (x + (y + n)) no_way) no_way
  unfolding sum_up_to
  one_aisle_lem true x y n = omega arith
  one_aisle_lem false x y n = omega arith

  -- behind the last aisle the sum is 0
  at_end_lem : (b : Bool) → cond b 0 no_way ≡ cond b (min 0 no_way) no_way
  at_end_lem true = omega arith
  at_end_lem false = refl

  -- the machine accepts the actions and passages of the aisles from j on, and nothing is lacking behind them
  abbrev arrives : ℕ → State → List ℕ → List Action → List Passage → Bool
  arrives j s q actions passages = is_closed (run_from job j s actions passages) && met (demand_after job j q actions)

  -- the cost of a rest: what it adds up to, if the machine accepts it and nothing is lacking; aisle by aisle
  rest_cost_lem : (candidates : ℕ → List Action) (actions : List Action) (passages : List Passage) (j : ℕ) (s : State) (q : List ℕ)
      → rest_cost (weighed job c candidates) j s q (pair_up actions passages) ≡ cond (arrives j s q actions passages) (min (cost_from c j actions passages) no_way) no_way
  rest_cost_lem candidates [] passages j s q = at_end_lem (is_closed s && met q)
  rest_cost_lem candidates (a ∷ actions) passages j s q =
      let p = head_or P00 passages in
      let next = rest_cost_lem candidates actions (tail passages) (suc j) (passage_step job j p (action_step job j a s)) (less q (gains job j a)) in
      ap (λ n. action_then table j a (passage_then table j p n)) next
      ∙ one_aisle_lem (arrives j s q (a ∷ actions) passages) (c.of_action j a) (c.of_passage j p) (cost_from c (suc j) actions (tail passages))

  module _ (cost : Plan → ℕ) (weighs : Weighs job c cost) (some_aisle : 1 ≤ job.layout.aisles) (some_line : job.lines ≡ [] → ⊥) where
    -- the table at the start: all aisles, no tread yet, the whole demand open
    abbrev start : ℕ
    start = value table job.layout.aisles 1 nothing (whole_demand job)

    -- all plans, and what each counts: its cost, or 'none' where it is not allowed or does not serve
    abbrev plans : List Plan
    plans = plans_of job.layout.cells job.layout.aisles

    abbrev plan_counted : Plan → ℕ
    plan_counted = counted no_way (allowed_serving job) cost

    -- the table counts a plan by its cost, or as 'none': a list with lines is decided by the machine alone
    plan_counted_lem : (candidates : ℕ → List Action) (plan : Plan) → WellFormed job.layout plan
        → rest_cost (weighed job c candidates) 1 nothing (whole_demand job) (rest_of plan) ≡ plan_counted plan
    unfolding rest_of
    plan_counted_lem candidates plan well =
        let its-cost : min (cost_from c 1 plan.actions plan.passages) no_way ≡ cost plan = omega (arith, weighs.adds_up plan well, weighs.below plan well) in
        rest_cost_lem candidates plan.actions plan.passages 1 nothing (whole_demand job)
        ∙ ap₂ (λ b n. cond (closes_off job plan && b) n no_way) (serves_met job plan) its-cost
        ∙ ap (λ b. cond (b && serves job (plan_passes plan)) (cost plan) no_way) (sym (accepts_with_lines job plan some_line))

    -- the plans of the enumeration are well_formed
    agrees : (plan : Plan) → Memᴰ plan plans → rest_cost table 1 nothing (whole_demand job) (rest_of plan) ≡ plan_counted plan
    agrees plan m = plan_counted_lem (all_actions job) plan (enumeration_sound job.layout plan m)

    -- so each costs less than 'none'
    cheap : (plan : Plan) → Memᴰ plan plans → cost plan < no_way
    cheap plan m = weighs.below plan (enumeration_sound job.layout plan m)

    -- the rests of all aisles are the plans; there is at least one aisle
    paired : rests table job.layout.aisles 1 ≡ map rest_of plans
    paired = go job.layout.aisles some_aisle
      where
        go : (m : ℕ) → 1 ≤ m → rests table m 1 ≡ map rest_of (plans_of job.layout.cells m)
        go zero h = absurd (omega arith)
        go (suc n) h = rests_plans n 1

    -- the table's value at the start is the least over the plans
    start_counted : start ≡ least_or no_way plan_counted plans
    start_counted =
        value_least table job.layout.aisles 1 nothing (whole_demand job)
        ∙ ap (least_or no_way _) paired
        ∙ least_map no_way _ rest_of plans
        ∙ least_agree no_way _ _ plans agrees

    module _ (plan : Plan) (first : first_shortest cost (serving_plans job) ≡ some plan) where
      -- the table's value at the start is the cost of the first of the cheapest
      pub weighed_value : start ≡ cost plan
      unfolding serving_plans
      weighed_value = start_counted ∙ least_found no_way (allowed_serving job) cost plans cheap ∙ ap (found_length no_way (allowed_serving job) cost) first

      -- it is not 'none': the plan is one of the enumeration
      a_way : start < no_way
      a_way =
          let m = first_shortest_member cost ((first_shortest_given cost (serving_plans job) plan).0 first) in
          omega (arith, weighed_value, weighs.below plan ((serving_plans_lem job plan).0 m).0)

      -- the rest that the table leads to is that plan: both are the first that attains the least
      pub weighed_choice : choose table job.layout.aisles 1 nothing (whole_demand job) ≡ some (rest_of plan)
      unfolding serving_plans first_at
      weighed_choice =
          choose_first table job.layout.aisles 1 nothing (whole_demand job) a_way
          ∙ ap (first_at _ start) paired
          ∙ first_map _ rest_of plans
          ∙ ap (map_first rest_of) (first_agree _ _ start plans agrees ∙ ap (λ v. first_at plan_counted v plans) start_counted ∙ the_first)
        where
          the_first : first_at plan_counted (least_or no_way plan_counted plans) plans ≡ some plan
          the_first = first_found no_way (allowed_serving job) cost plans cheap (omega (arith, start_counted, a_way)) ∙ first
