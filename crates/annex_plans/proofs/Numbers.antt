-- The plans of a store by number: how many there are, and the first aisle of each.
use Prim.Native.Nat.{ℕ, zero, suc, ◌*◌, ◌/◌, ◌%◌, ◌≤◌, ◌<◌}
use native.Mathlib.Omega.{arith}
use native.Mathlib.Nat.{mul-le-mul_right}
use mathlib.Core.Path.{◌≡◌, refl, sym, ◌∙◌, ap}
use mathlib.Core.List.{List, [], ◌∷◌, map}
use lib.ListN.{length, get_or, length-map}
use Rattle.rules.specs.declared.Action.{Action}
use Rattle.rules.specs.declared.Action.TheVariants.{Void}
use Rattle.rules.specs.declared.Passage.{Passage}
use Rattle.rules.specs.declared.Passage.TheVariants.{P00}
use Rattle.rules.specs.Lists.{concat_of}
use Rattle.rules.specs.Plans.{Plan}
use Rattle.rules.specs.BestPlan.{actions_of, passages_in_order, single, prepend, plans_of}
use Rattle.annex_plans.specs.Numbered.{no_plan}
use Rattle.annex_plans.proofs.Blocks.{blocks_length, blocks_at}

-- there are some actions
pub some_actions : (cells : ℕ) → 0 < length (actions_of cells)
unfolding actions_of
some_actions cells = omega arith

-- in an aisle of at most 4 cells there are at most 17
pub few_actions : (cells : ℕ) → cells ≤ 4 → length (actions_of cells) ≤ 17
unfolding actions_of
few_actions zero h = omega arith
few_actions (suc zero) h = omega arith
few_actions (suc (suc zero)) h = omega arith
few_actions (suc (suc (suc zero))) h = omega arith
few_actions (suc (suc (suc (suc zero)))) h = omega arith
few_actions (suc (suc (suc (suc (suc n))))) h = absurd (omega arith)

-- an element of a mapped list
map_at : {A B : Type 0} (f : A → B) (xs : List A) (i : ℕ) (d : A) (e : B) → i < length xs → get_or (map f xs) i e ≡ f (get_or xs i d)
map_at f [] i d e h = absurd (omega arith)
map_at f (x ∷ xs) zero d e h = refl
map_at f (x ∷ xs) (suc i) d e h = map_at f xs i d e (omega arith)

module _ (cells n : ℕ) where
  -- the plans of one aisle less, and how many there are
  abbrev later : List Plan
  later = plans_of cells (suc n)

  abbrev size : ℕ
  size = length later

  -- the plans that begin with an action
  abbrev of_action_lem : Action → List Plan
  of_action_lem a = concat_of (λ p. map (prepend a p) later) passages_in_order

  of_action_length : (a : Action) → length (of_action_lem a) ≡ 5 * size
  unfolding passages_in_order
  of_action_length a = blocks_length (λ p. map (prepend a p) later) size (λ p. length-map later (prepend a p)) passages_in_order

  -- how many plans there are of one more aisle
  pub plans_length : length (plans_of cells (suc (suc n))) ≡ length (actions_of cells) * (5 * size)
  plans_length = blocks_length of_action_lem (5 * size) of_action_length (actions_of cells)

  -- the plan of the number i by its first aisle, the passage behind it, and the number of the rest
  pub record Split (i : ℕ) : Type 0 where
    pub action : i / (5 * size) < length (actions_of cells)
    pub passage : i % (5 * size) / size < 5
    pub rest : i % (5 * size) % size < size
    pub plan : get_or (plans_of cells (suc (suc n))) i no_plan
        ≡ prepend (get_or (actions_of cells) (i / (5 * size)) Void) (get_or passages_in_order (i % (5 * size) / size) P00) (get_or later (i % (5 * size) % size) no_plan)

  -- THE LAW: a number is that of an action, that of a passage and that of a plan of one aisle less
  pub plans_split : 0 < size → (i : ℕ) → i < length (plans_of cells (suc (suc n))) → Split i
  unfolding passages_in_order
  plans_split p i h =
      let a = get_or (actions_of cells) (i / (5 * size)) Void in
      let first = blocks_at of_action_lem (5 * size) of_action_length (actions_of cells) i Void no_plan (omega arith) (omega (arith, plans_length)) in
      let behind = i % (5 * size) in
      let long : (q : Passage) → length (map (prepend a q) later) ≡ size = λ q. length-map later (prepend a q) in
      let second = blocks_at (λ q. map (prepend a q) later) size long passages_in_order behind P00 no_plan p (omega (arith, first.1)) in
      let q = get_or passages_in_order (behind / size) P00 in
      record {
        action = first.0;
        passage = second.0;
        rest = second.1;
        plan = first.2 ∙ second.2 ∙ map_at (prepend a q) later (behind % size) no_plan no_plan second.1;
      }

-- there are some plans
pub plans_some : (cells n : ℕ) → 0 < length (plans_of cells (suc n))
plans_some cells zero = omega (arith, length-map (actions_of cells) single, some_actions cells)
plans_some cells (suc n) =
    let later = 5 * length (plans_of cells (suc n)) in
    let more = mul-le-mul_right {m = 1} {n = length (actions_of cells)} later (some_actions cells) in
    omega (arith, plans_some cells n, plans_length cells n, more)

-- a plan of one aisle is its action
pub single_at : (cells i : ℕ) → i < length (plans_of cells 1)
    → (i < length (actions_of cells)) × (get_or (plans_of cells 1) i no_plan ≡ single (get_or (actions_of cells) i Void))
single_at cells i h =
    let l : i < length (actions_of cells) = omega (arith, length-map (actions_of cells) single) in
    (l, map_at single (actions_of cells) i Void no_plan l)

module _ (cells aisles : ℕ) where
  -- how many actions an aisle has
  abbrev k : ℕ
  k = length (actions_of cells)

  -- how many plans there are of one, two and three aisles
  one_length : length (plans_of cells 1) ≡ k
  one_length = length-map (actions_of cells) single

  two_length : length (plans_of cells 2) ≡ k * (5 * k)
  two_length = plans_length cells 0 ∙ ap (λ n. k * (5 * n)) one_length

  pub count_one : aisles ≡ 1 → k ≡ length (plans_of cells aisles)
  count_one e = sym (ap (λ m. length (plans_of cells m)) e ∙ one_length)

  pub count_two : aisles ≡ 2 → k * (5 * k) ≡ length (plans_of cells aisles)
  count_two e = sym (ap (λ m. length (plans_of cells m)) e ∙ two_length)

  pub count_three : aisles ≡ 3 → k * (5 * (k * (5 * k))) ≡ length (plans_of cells aisles)
  count_three e = sym (ap (λ m. length (plans_of cells m)) e ∙ plans_length cells 1 ∙ ap (λ n. k * (5 * n)) two_length)

-- with at most 17 actions these are few
pub two_few : (n : ℕ) → n ≤ 17 → n * (5 * n) ≤ 1445
two_few n h = omega (arith, mul-le-mul_right {m = n} {n = 17} (5 * n) h)

pub three_few : (n : ℕ) → n ≤ 17 → n * (5 * (n * (5 * n))) ≤ 122825
three_few n h = omega (arith, two_few n h, mul-le-mul_right {m = n} {n = 17} (5 * (n * (5 * n))) h)

-- THE LAW of request #110: at most 122,825 plans
pub few_plans : (cells aisles : ℕ) → cells ≤ 4 → aisles ≤ 3 → length (plans_of cells aisles) ≤ 122825
few_plans cells zero h l = omega arith
few_plans cells (suc zero) h l = omega (arith, few_actions cells h, count_one cells 1 refl)
few_plans cells (suc (suc zero)) h l = omega (arith, two_few (length (actions_of cells)) (few_actions cells h), count_two cells 2 refl)
few_plans cells (suc (suc (suc zero))) h l = omega (arith, three_few (length (actions_of cells)) (few_actions cells h), count_three cells 3 refl)
few_plans cells (suc (suc (suc (suc n)))) h l = absurd (omega arith)
