-- Sets of entered aisles counted: with one more aisle, and of a plan.
use Prim.Native.Nat.{ℕ, suc, ◌+◌, ◌*◌, ◌/◌, ◌%◌, ◌^◌, ◌≤◌, ◌<◌}
use native.Mathlib.Omega.{arith}
use native.Mathlib.Nat.{one-mul, pow-suc}
use mathlib.Core.Path.{◌≡◌, refl, sym, ◌∙◌, ap}
use mathlib.Core.List.{List, [], ◌∷◌, ◌++◌, map}
use mathlib.Core.Bool.{Bool, true, false, cond}
use lib.Bits.{bit_or, or_shifted_r}
use lib.Count.{ones, ones_cat, ones-ones, ones_step}
use lib.ListN.{length, get_or, take, length-map}
use lib.Seq.{take-suc, length-take-le}
use Rattle.rules.specs.declared.Action.{Action}
use Rattle.rules.specs.Lists.{sum_of}
use Rattle.rules.specs.Plans.{Plan, entered}
use Rattle.rules.specs.Policies.{entered_aisles}
use Rattle.rules.proofs.Lists.{map-append}
use Rattle.values.specs.declared.Stage.{Stage}
use Rattle.entered.specs.Sets.{with_aisle, set_of, entered_set}

-- one has one one
one_one : ones 1 ≡ 1
one_one = ones-ones 1

-- an action enters its aisle or not
at_most_one : (b : Bool) → cond b 1 0 ≤ 1
at_most_one true = omega arith
at_most_one false = omega arith

module _ (set n : ℕ) (action : Action) (before : set < 2 ^ n) where
  -- the aisle of a number is not in a set of those before it
  with_it : bit_or set (2 ^ n) ≡ 1 * 2 ^ n + set
  with_it = ap (bit_or set) (sym (one-mul (2 ^ n))) ∙ or_shifted_r 1 n set before

  -- with it the set has a one more, if the aisle is entered
  pub ones_with : ones (with_aisle set n action) ≡ ones set + cond (entered action) 1 0
  unfolding with_aisle
  ones_with = go (entered action)
    where
      go : (b : Bool) → ones (cond b (bit_or set (2 ^ n)) set) ≡ ones set + cond b 1 0
      go true = omega (arith, ap ones with_it, ones_cat n 1 set before, one_one)
      go false = omega arith

  -- and it is a set of the aisles up to it
  pub with_below : with_aisle set n action < 2 ^ suc n
  unfolding with_aisle
  with_below = go (entered action)
    where
      go : (b : Bool) → cond b (bit_or set (2 ^ n)) set < 2 ^ suc n
      go true = omega (arith, with_it, pow-suc 2 n)
      go false = omega (arith, before, pow-suc 2 n)

-- the set of a list of actions has a bit for each of them at most
set_below : (actions : List Action) → set_of actions < 2 ^ length actions
set_below [] = omega arith
set_below (a ∷ actions) = omega (arith, at_most_one (entered a), set_below actions, pow-suc 2 (length actions))

-- with one more action it is that with the bit of that one's aisle, if it enters it
set_more : (actions : List Action) (a : Action) → with_aisle (set_of actions) (length actions) a ≡ set_of (actions ++ (a ∷ []))
unfolding with_aisle
set_more actions a = go (entered a) refl
  where
    -- as numbers: the aisle's bit is added
    more : (b : Bool) → entered a ≡ b → (xs : List Action) → set_of (xs ++ (a ∷ [])) ≡ set_of xs + cond b (2 ^ length xs) 0
    more true e [] = rw e refl
    more false e [] = rw e refl
    more true e (x ∷ xs) = omega (arith, more true e xs, pow-suc 2 (length xs))
    more false e (x ∷ xs) = omega (arith, more false e xs)

    go : (b : Bool) → entered a ≡ b → cond b (bit_or (set_of actions) (2 ^ length actions)) (set_of actions) ≡ set_of (actions ++ (a ∷ []))
    go true e = omega (arith, with_it (set_of actions) (length actions) a (set_below actions), more true e actions)
    go false e = omega (arith, more false e actions)

-- the first k actions of a list of stages
abbrev pub first_actions : List Stage → ℕ → List Action
first_actions stages k = map (λ (s : Stage). s.action) (take k stages)

module _ (stages : List Stage) (k : ℕ) (d : Stage) (within : k < length stages) where
  -- one action more
  actions_next : first_actions stages (suc k) ≡ first_actions stages k ++ ((get_or stages k d).action ∷ [])
  actions_next =
      ap (map (λ (s : Stage). s.action)) (take-suc stages k d within)
      ∙ map-append (λ (s : Stage). s.action) (take k stages) (get_or stages k d ∷ [])

  -- there are k of them
  actions_long : length (first_actions stages k) ≡ k
  actions_long = length-map (take k stages) (λ (s : Stage). s.action) ∙ length-take-le k stages (omega arith)

  -- the set with the next action is that with the bit of its aisle, if it enters it
  pub set_next : (set : ℕ) → set ≡ set_of (first_actions stages k) → with_aisle set k (get_or stages k d).action ≡ set_of (first_actions stages (suc k))
  set_next set set_is =
      let more = set_more (first_actions stages k) (get_or stages k d).action in
      rw (set_is, actions_next) (rw actions_long at more)

-- a set of a list of actions has a one for each that enters its aisle
ones_set : (actions : List Action) → ones (set_of actions) ≡ sum_of (λ a. cond (entered a) 1 0) actions
ones_set [] = ones-ones 0
ones_set (a ∷ actions) =
    let n = set_of (a ∷ actions) in
    let b : ℕ = cond (entered a) 1 0 in
    let low : n % 2 ≡ b = omega (arith, at_most_one (entered a)) in
    let rest : n / 2 ≡ set_of actions = omega (arith, at_most_one (entered a)) in
    ones_step n ∙ rw (low, rest) (ap (λ k. b + k) (ones_set actions))

-- a plan enters as many aisles as its set has ones
pub ones_entered : (plan : Plan) → ones (entered_set plan) ≡ entered_aisles plan
unfolding entered_set entered_aisles
ones_entered plan = ones_set plan.actions
