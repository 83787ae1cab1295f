-- The table's value is the least cost over the enumeration of rests, and the rest that it leads to is the first of that cost.
-- Over any problem: any states, demands, actions and cost.
use Prim.Native.Nat.{ℕ, zero, suc, min, ◌≤◌, ◌<◌}
use native.Mathlib.Omega.{arith}
use mathlib.Core.Path.{◌≡◌, refl, sym, ◌∙◌, ap}
use borrow.Author.Tests.{eq-eqb}
use mathlib.Core.List.{List, ◌∷◌, map}
use mathlib.Core.Bool.{Bool, true, false, cond}
use mathlib.Core.Option.{Option, none, some}
use Rattle.rules.specs.declared.Action.{Action}
use Rattle.rules.specs.declared.Passage.{Passage}
use Rattle.rules.specs.Lists.{concat_of}
use Rattle.optimum.specs.Least.{sum_up_to, least_or, first_at}
use Rattle.optimum.specs.Table.{Rest, passages_behind, on_from, Problem, rests, action_then, passage_then, at_end, rest_cost}
use Rattle.optimum.specs.Table.{over_passage, after_action, over_action, value, first_passage, first_action, choose}
use Rattle.optimum.proofs.Choice.{least_bound, least_cong, least_step, first_step, first_at_cong, first_at_holds, on_cong, map_first}

-- laws of what was found: in two steps, behind a way on, and as a way on
map_first_map_first : {A B C : Type 0} (f : B → C) (g : A → B) (o : Option A) → map_first f (map_first g o) ≡ map_first (λ x. f (g x)) o
map_first_map_first f g none = refl
map_first_map_first f g (some x) = refl

map_on : {A B C : Type 0} (f : B → C) (o : Option A) (g : A → Option B) → map_first f (on_from o g) ≡ on_from o (λ x. map_first f (g x))
map_on f none g = refl
map_on f (some x) g = refl

on_some : {A B : Type 0} (o : Option A) (g : A → B) → on_from o (λ x. some (g x)) ≡ map_first g o
on_some none g = refl
on_some (some x) g = refl

-- an action in front of a way on
abbrev onward : Action → Passage × Rest → Rest
onward a t = (a, t.0) ∷ t.1

module _ (P : Problem) where
  -- 'none'
  abbrev no_way : ℕ
  no_way = P.cost.no_way

  -- the passages behind aisle j, and the ways on from there: the passage and what follows
  abbrev behind : ℕ → List Passage
  behind n = passages_behind P.passages n

  abbrev ways : ℕ → ℕ → List (Passage × Rest)
  ways n j = concat_of (λ p. map (λ rest. (p, rest)) (rests P n (suc j))) (behind n)

  -- the cost of a rest of the next aisles behind a passage, and of a way on, from the state and the demand after the action
  abbrev rest_after : ℕ → P.State → P.Demand → Passage → Rest → ℕ
  rest_after j s q p rest = rest_cost P (suc j) (P.cross j p s) q rest

  abbrev way_cost : ℕ → P.State → P.Demand → Passage × Rest → ℕ
  way_cost j s q t = passage_then P j t.0 (rest_after j s q t.0 t.1)

  -- the same from the state and the demand before the action
  abbrev way_after : ℕ → P.State → P.Demand → Action → Passage × Rest → ℕ
  way_after j s q a t = way_cost j (P.act j a s) (P.fetch j a q) t

  -- the least over the rests behind a passage, and over the ways on behind an action
  abbrev passage_walked : ℕ → ℕ → P.State → P.Demand → Passage → ℕ
  passage_walked n j s q p = passage_then P j p (least_or no_way (rest_after j s q p) (rests P n (suc j)))

  abbrev action_walked : ℕ → ℕ → P.State → P.Demand → Action → ℕ
  action_walked n j s q a = action_then P j a (least_or no_way (way_after j s q a) (ways n j))

  -- behind the last aisle there is one rest, and its cost is at most 'none'
  end_bound : (b : Bool) → min (cond b 0 no_way) no_way ≡ cond b 0 no_way
  end_bound true = omega arith
  end_bound false = omega arith

  -- one step of the choice, passage by passage and action by action
  passages_least : (n j : ℕ) (s : P.State) (q : P.Demand) → least_or no_way (way_cost j s q) (ways n j) ≡ least_or no_way (passage_walked n j s q) (behind n)
  passages_least n j s q =
      least_step no_way (λ p. rests P n (suc j)) (λ p rest. (p, rest)) (way_cost j s q) (P.cost.of_passage j) (rest_after j s q) (λ p rest. refl) (behind n)

  actions_least : (n j : ℕ) (s : P.State) (q : P.Demand)
      → least_or no_way (rest_cost P j s q) (rests P (suc n) j) ≡ least_or no_way (action_walked n j s q) (P.candidates j)
  actions_least n j s q =
      least_step no_way (λ a. ways n j) onward (rest_cost P j s q) (P.cost.of_action j) (way_after j s q) (λ a t. refl) (P.candidates j)

  -- the value with n aisles left is the least cost over the rests
  abbrev Least : ℕ → ℕ → Type 0
  Least n j = (s : P.State) (q : P.Demand) → value P n j s q ≡ least_or no_way (rest_cost P j s q) (rests P n j)

  -- the first half-step is the least over the ways on
  after_least : (n j : ℕ) → Least n (suc j) → (s : P.State) (q : P.Demand)
      → after_action P (value P n (suc j)) n j s q ≡ least_or no_way (way_cost j s q) (ways n j)
  unfolding after_action
  after_least n j next s q =
      least_cong no_way _ _ (λ p. ap (passage_then P j p) (next (P.cross j p s) q)) (behind n) ∙ sym (passages_least n j s q)

  -- and through an action the table's value is the least over the ways on behind it
  action_least : (n j : ℕ) → Least n (suc j) → (s : P.State) (q : P.Demand) (a : Action)
      → over_action P (value P n (suc j)) n j s q a ≡ action_walked n j s q a
  action_least n j next s q a = ap (action_then P j a) (after_least n j next (P.act j a s) (P.fetch j a q))

  -- the table's value is the least cost over the rests: by induction, the two half-steps
  pub value_least : (n j : ℕ) → Least n j
  value_least zero j s q = sym (end_bound (P.done s q))
  value_least (suc n) j s q =
      least_cong no_way _ _ (action_least n j (value_least n (suc j)) s q) (P.candidates j) ∙ sym (actions_least n j s q)

  -- as a least it is at most 'none'
  pub value_bound : (n j : ℕ) (s : P.State) (q : P.Demand) → value P n j s q ≤ no_way
  value_bound n j s q = rw value_least (least_bound no_way (rest_cost P j s q) (rests P n j))

  -- a sum below 'none' has a part below 'none'
  below : (c v w : ℕ) → sum_up_to no_way c w ≡ v → v < no_way → w < no_way
  unfolding sum_up_to
  below c v w e h = omega arith

  -- the first rest that attains the value
  abbrev first_rest : ℕ → ℕ → P.State → P.Demand → Option Rest
  first_rest n j s q = first_at (rest_cost P j s q) (value P n j s q) (rests P n j)

  -- where there is a rest, the one that the table leads to is the first that attains the value
  abbrev First : ℕ → ℕ → Type 0
  First n j = (s : P.State) (q : P.Demand) → value P n j s q < no_way → choose P n j s q ≡ first_rest n j s q

  -- behind an action, the first passage that attains the first half-step leads to the first of the least ways on
  after_first : (n j : ℕ) → First n (suc j) → (a : Action) (s : P.State) (q : P.Demand) → after_action P (value P n (suc j)) n j s q < no_way
      → map_first (onward a) (first_at (way_cost j s q) (least_or no_way (way_cost j s q) (ways n j)) (ways n j))
      ≡ on_from (first_passage P n j s q) (λ p. on_from (choose P n (suc j) (P.cross j p s) q) (λ rest. some ((a, p) ∷ rest)))
  after_first n j next a s q h =
      ap (λ v. map_first (onward a) (first_at (way_cost j s q) v (ways n j))) (sym least)
      ∙ ap (map_first (onward a)) by_passage
      ∙ map_on (onward a) (first_at walked here (behind n)) (λ p. map_first (λ rest. (p, rest)) (shortest p))
      ∙ ap (λ o. on_from o (λ p. map_first (onward a) (map_first (λ rest. (p, rest)) (shortest p)))) (first_at_cong walked tabled same here (behind n))
      ∙ on_cong (first_at tabled here (behind n)) _ _ behind_it
    where
      here : ℕ
      here = after_action P (value P n (suc j)) n j s q

      walked : Passage → ℕ
      walked p = passage_walked n j s q p

      tabled : Passage → ℕ
      tabled p = over_passage P (value P n (suc j)) j s q p

      same : (p : Passage) → walked p ≡ tabled p
      same p = ap (passage_then P j p) (sym (value_least n (suc j) (P.cross j p s) q))

      least : here ≡ least_or no_way (way_cost j s q) (ways n j)
      least = after_least n j (value_least n (suc j)) s q

      shortest : Passage → Option Rest
      shortest p = first_at (rest_after j s q p) (least_or no_way (rest_after j s q p) (rests P n (suc j))) (rests P n (suc j))

      by_passage : first_at (way_cost j s q) here (ways n j) ≡ on_from (first_at walked here (behind n)) (λ p. map_first (λ rest. (p, rest)) (shortest p))
      by_passage =
          let low : here ≤ least_or no_way walked (behind n) = omega (arith, least, passages_least n j s q) in
          first_step no_way (λ p. rests P n (suc j)) (λ p rest. (p, rest)) (way_cost j s q) (P.cost.of_passage j) (rest_after j s q) (λ p rest. refl) here h (behind n) low

      behind_it : (p : Passage) → first_at tabled here (behind n) ≡ some p
          → map_first (onward a) (map_first (λ rest. (p, rest)) (shortest p)) ≡ on_from (choose P n (suc j) (P.cross j p s) q) (λ rest. some ((a, p) ∷ rest))
      behind_it p found =
          let value_there = value P n (suc j) (P.cross j p s) q in
          let low = below (P.cost.of_passage j p) here value_there (first_at_holds tabled here (behind n) p found) h in
          map_first_map_first (onward a) (λ rest. (p, rest)) (shortest p)
          ∙ ap (λ v. map_first (λ rest. (a, p) ∷ rest) (first_at (rest_after j s q p) v (rests P n (suc j)))) (sym (value_least n (suc j) (P.cross j p s) q))
          ∙ ap (map_first (λ rest. (a, p) ∷ rest)) (sym (next (P.cross j p s) q low))
          ∙ sym (on_some (choose P n (suc j) (P.cross j p s) q) (λ rest. (a, p) ∷ rest))

  -- one aisle more: the first action that attains the value leads to the first of the least rests
  action_first : (n j : ℕ) → First n (suc j) → First (suc n) j
  action_first n j next s q h =
      sym
      (by_action
      ∙ ap (λ o. on_from o (λ a. map_first (onward a) (shortest a))) (first_at_cong walked tabled (λ a. sym (same a)) here (P.candidates j))
      ∙ on_cong (first_action P n j s q) _ _ behind_it)
    where
      here : ℕ
      here = value P (suc n) j s q

      walked : Action → ℕ
      walked a = action_walked n j s q a

      tabled : Action → ℕ
      tabled a = over_action P (value P n (suc j)) n j s q a

      same : (a : Action) → tabled a ≡ walked a
      same a = action_least n j (value_least n (suc j)) s q a

      shortest : Action → Option (Passage × Rest)
      shortest a = first_at (way_after j s q a) (least_or no_way (way_after j s q a) (ways n j)) (ways n j)

      by_action : first_rest (suc n) j s q ≡ on_from (first_at walked here (P.candidates j)) (λ a. map_first (onward a) (shortest a))
      by_action =
          let low : here ≤ least_or no_way walked (P.candidates j) = omega (arith, least_cong no_way tabled walked same (P.candidates j)) in
          first_step no_way (λ a. ways n j) onward (rest_cost P j s q) (P.cost.of_action j) (way_after j s q) (λ a t. refl) here h (P.candidates j) low

      behind_it : (a : Action) → first_action P n j s q ≡ some a
          → map_first (onward a) (shortest a)
          ≡ on_from (first_passage P n j (P.act j a s) (P.fetch j a q)) (λ p. on_from (choose P n (suc j) (P.cross j p (P.act j a s)) (P.fetch j a q)) (λ rest. some ((a, p) ∷ rest)))
      behind_it a found =
          let low = below (P.cost.of_action j a) here _ (first_at_holds tabled here (P.candidates j) a found) h in
          after_first n j next a (P.act j a s) (P.fetch j a q) low

  -- the rest that the table leads to is the first of the least: by induction, the two half-steps
  pub choose_first : (n j : ℕ) → First n j
  unfolding first_at
  choose_first zero j s q h = rw (eq-eqb (at_end P s q) (at_end P s q) refl) refl
  choose_first (suc n) j s q h = action_first n j (choose_first n (suc j)) s q h
