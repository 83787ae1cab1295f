-- The table's meaning: the least cost of the rest of a plan, by aisle, machine state and open demand, in two half-steps;
-- and the rest that the table's values lead to. Over any candidate actions, states, demands and costs.
use Rattle.std.specs.Prelude.{ℕ, zero, suc, List, [], ◌∷◌, map, Bool, cond}
use Rattle.std.proofs.Math.Option.{Option, none, some}
use Rattle.rules.specs.declared.Action.{Action}
use Rattle.rules.specs.declared.Passage.{Passage}
use Rattle.rules.specs.declared.Passage.TheVariants.{P00}
use Rattle.rules.specs.Lists.{concat_of}
use Rattle.optimum.specs.Least.{sum_up_to, least_or, first_at}

-- the rest of a plan: an action and the passage behind it, aisle by aisle; behind the last aisle the passage is 00
abbrev pub Rest : Type 0
Rest = List (Action × Passage)

-- the passages behind an aisle with n aisles to its right
abbrev pub passages_behind : List Passage → ℕ → List Passage
passages_behind passages zero = P00 ∷ []
passages_behind passages (suc n) = passages

-- a way on: nothing where there is none
abbrev pub on_from : {A B : Type 0} → Option A → (A → Option B) → Option B
on_from none next = none
on_from (some x) next = next x

-- what is weighed: the cost of an action and of the passage behind it in an aisle, and the number that stands for 'none'
pub record Cost : Type 0 where
  pub of_action : ℕ → Action → ℕ
  pub of_passage : ℕ → Passage → ℕ
  pub no_way : ℕ

-- what a table is about
pub record Problem : Type 1 where
  pub State : Type 0
  pub Demand : Type 0
  pub candidates : ℕ → List Action  -- the actions that are tried in an aisle, in rank order
  pub passages : List Passage  -- the passages in rank order
  pub act : ℕ → Action → State → State  -- the state after the action of an aisle
  pub cross : ℕ → Passage → State → State  -- the state after the passage behind an aisle
  pub fetch : ℕ → Action → Demand → Demand  -- the open demand after the action of an aisle
  pub cost : Cost
  pub done : State → Demand → Bool  -- behind the last aisle: accepted and served

module _ (P : Problem) where
  -- the rests of n aisles from aisle j on, in order: by action, then passage, then what follows
  abbrev pub rests : ℕ → ℕ → List Rest
  rests zero j = [] ∷ []
  rests (suc n) j =
      concat_of
      (λ a. map (λ (t : Passage × Rest). (a, t.0) ∷ t.1) (concat_of (λ p. map (λ rest. (p, rest)) (rests n (suc j))) (passages_behind P.passages n)))
      (P.candidates j)

  -- the cost of an action of aisle j and of what follows
  abbrev pub action_then : ℕ → Action → ℕ → ℕ
  action_then j a next = sum_up_to P.cost.no_way (P.cost.of_action j a) next

  -- the cost of the passage behind aisle j and of what follows
  abbrev pub passage_then : ℕ → Passage → ℕ → ℕ
  passage_then j p next = sum_up_to P.cost.no_way (P.cost.of_passage j p) next

  -- behind the last aisle: nothing more, or 'none' where the rest is not accepted or does not serve
  abbrev pub at_end : P.State → P.Demand → ℕ
  at_end s q = cond (P.done s q) 0 P.cost.no_way

  -- the cost of a rest from a state with open demand
  abbrev pub rest_cost : ℕ → P.State → P.Demand → Rest → ℕ
  rest_cost j s q [] = at_end s q
  rest_cost j s q ((a, p) ∷ rest) =
      action_then j a (passage_then j p (rest_cost (suc j) (P.cross j p (P.act j a s)) (P.fetch j a q) rest))

  -- through a passage behind aisle j, from the values of the next aisle
  abbrev pub over_passage : (P.State → P.Demand → ℕ) → ℕ → P.State → P.Demand → Passage → ℕ
  over_passage next j s q p = passage_then j p (next (P.cross j p s) q)

  -- the first half-step: the least over the passages behind aisle j
  unfoldable pub after_action : (P.State → P.Demand → ℕ) → ℕ → ℕ → P.State → P.Demand → ℕ
  after_action next n j s q = least_or P.cost.no_way (over_passage next j s q) (passages_behind P.passages n)

  -- through an action of aisle j with n aisles to its right, from the values of the next aisle
  abbrev pub over_action : (P.State → P.Demand → ℕ) → ℕ → ℕ → P.State → P.Demand → Action → ℕ
  over_action next n j s q a = action_then j a (after_action next n j (P.act j a s) (P.fetch j a q))

  -- the table's value with n aisles left from aisle j on: the second half-step, the least over the actions
  abbrev pub value : ℕ → ℕ → P.State → P.Demand → ℕ
  value zero j s q = at_end s q
  value (suc n) j s q = least_or P.cost.no_way (over_action (value n (suc j)) n j s q) (P.candidates j)

  -- the first passage behind aisle j that attains the value there, from the state and the demand after the action
  abbrev pub first_passage : ℕ → ℕ → P.State → P.Demand → Option Passage
  first_passage n j s q =
      first_at (over_passage (value n (suc j)) j s q) (after_action (value n (suc j)) n j s q) (passages_behind P.passages n)

  -- the first action of aisle j that attains the value there
  abbrev pub first_action : ℕ → ℕ → P.State → P.Demand → Option Action
  first_action n j s q = first_at (over_action (value n (suc j)) n j s q) (value (suc n) j s q) (P.candidates j)

  -- the rest that takes, aisle by aisle, the first action and then the first passage that attain the value
  abbrev pub choose : ℕ → ℕ → P.State → P.Demand → Option Rest
  choose zero j s q = some []
  choose (suc n) j s q =
      on_from (first_action n j s q)
      (λ a.
      on_from (first_passage n j (P.act j a s) (P.fetch j a q))
      (λ p. on_from (choose n (suc j) (P.cross j p (P.act j a s)) (P.fetch j a q)) (λ rest. some ((a, p) ∷ rest))))
