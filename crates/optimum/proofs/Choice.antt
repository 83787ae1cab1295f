-- One step of a choice: the least over options and what follows each is the least over the options of the least that follows,
-- and the first that attains it is the first option that does, with the first that attains it there. Over any costs and any
-- number `no_way` for 'none'.
use Prim.Native.Nat.{ℕ, ◌+◌, min, ◌≤◌, ◌<◌}
use native.Mathlib.Omega.{arith}
use mathlib.Core.Path.{◌≡◌, refl, sym, ◌∙◌, ap, ap₂}
use mathlib.Core.List.{List, [], ◌∷◌, ◌++◌, map, Memᴰ}
use mathlib.Core.Bool.{Bool, true, false, cond}
use mathlib.Core.Option.{Option, none, some}
use native.Mathlib.Numerals.{add-one}
use lib.Dec.{eqb}
use lib.ListN.{length, get_or, take}
use lib.Seq.{take-suc}
use borrow.Author.Tests.{eqb-true, eqb-false, eq-eqb, ne_eqb}
use Rattle.rules.specs.Lists.{first_of, concat_of}
use Rattle.optimum.specs.Least.{sum_up_to, least_or, first_at}
use Rattle.optimum.specs.Table.{on_from}

-- the first that passes a test, or that has a value
module _ {A : Type 0} where
  -- where the front has none, the first of the whole is that of the back
  append_none : (t : A → Bool) (xs ys : List A) → first_of t xs ≡ none → first_of t (xs ++ ys) ≡ first_of t ys
  append_none t [] ys e = refl
  append_none t (x ∷ xs) ys e = go (t x) e (append_none t xs ys)
    where
      go : (b : Bool) → cond b (some x) (first_of t xs) ≡ none → (first_of t xs ≡ none → first_of t (xs ++ ys) ≡ first_of t ys)
          → cond b (some x) (first_of t (xs ++ ys)) ≡ first_of t ys
      go true p next = let z : ◌≡◌ {A = ℕ} 0 1 = cc in absurd (omega arith)
      go false p next = next p

  -- where the front has one, it is the first of the whole
  append_some : (t : A → Bool) (xs ys : List A) (y : A) → first_of t xs ≡ some y → first_of t (xs ++ ys) ≡ some y
  append_some t [] ys y e = let z : ◌≡◌ {A = ℕ} 0 1 = cc in absurd (omega arith)
  append_some t (x ∷ xs) ys y e = go (t x) e (append_some t xs ys y)
    where
      go : (b : Bool) → cond b (some x) (first_of t xs) ≡ some y → (first_of t xs ≡ some y → first_of t (xs ++ ys) ≡ some y)
          → cond b (some x) (first_of t (xs ++ ys)) ≡ some y
      go true p next = p
      go false p next = next p

  -- tests that agree find the same
  first_cong : (t u : A → Bool) → ((x : A) → t x ≡ u x) → (xs : List A) → first_of t xs ≡ first_of u xs
  first_cong t u e [] = refl
  first_cong t u e (x ∷ xs) = ap₂ (λ b o. cond b (some x) o) (e x) (first_cong t u e xs)

  -- what is found at a value has it: by the test at each element
  pub first_at_holds : (f : A → ℕ) (v : ℕ) (xs : List A) (y : A) → first_at f v xs ≡ some y → f y ≡ v
  unfolding first_at
  first_at_holds f v [] y e = let z : ◌≡◌ {A = ℕ} 0 1 = cc in absurd (omega arith)
  first_at_holds f v (x ∷ xs) y e = go (eqb (f x) v) refl e (first_at_holds f v xs y)
    where
      go : (b : Bool) → eqb (f x) v ≡ b → cond b (some x) (first_of (λ z. eqb (f z) v) xs) ≡ some y
          → (first_of (λ z. eqb (f z) v) xs ≡ some y → f y ≡ v) → f y ≡ v
      go true p q next = let same : x ≡ y = cc in ap f (sym same) ∙ eqb-true (f x) v p
      go false p q next = next q

  -- functions that agree on the members of the list find the same
  pub first_agree : (f g : A → ℕ) (v : ℕ) (xs : List A) → ((x : A) → Memᴰ x xs → f x ≡ g x) → first_at f v xs ≡ first_at g v xs
  unfolding first_at
  first_agree f g v [] e = refl
  first_agree f g v (x ∷ xs) e =
      ap₂ (λ n o. cond (eqb n v) (some x) o) (e x (Memᴰ.head refl)) (first_agree f g v xs (λ y m. e y (Memᴰ.tail m)))

  -- and so do functions that agree everywhere
  pub first_at_cong : (f g : A → ℕ) → ((x : A) → f x ≡ g x) → (v : ℕ) (xs : List A) → first_at f v xs ≡ first_at g v xs
  unfolding first_at
  first_at_cong f g e v xs = first_cong _ _ (λ x. ap (λ n. eqb n v) (e x)) xs

-- the least of a list, element by element; `omega` reads `min`
module _ {A : Type 0} (no_way : ℕ) where
  -- the least is at most 'none'
  pub least_bound : (f : A → ℕ) (xs : List A) → least_or no_way f xs ≤ no_way
  least_bound f [] = omega arith
  least_bound f (x ∷ xs) = omega (arith, least_bound f xs)

  -- the least of two lists is the smaller of theirs
  pub least_append : (f : A → ℕ) (xs ys : List A) → least_or no_way f (xs ++ ys) ≡ min (least_or no_way f xs) (least_or no_way f ys)
  least_append f [] ys = omega (arith, least_bound f ys)
  least_append f (x ∷ xs) ys = omega (arith, least_append f xs ys)

  -- one more element is looked at
  pub least_take : (f : A → ℕ) (xs : List A) (k : ℕ) (d : A) → k < length xs
      → least_or no_way f (take (k + 1) xs) ≡ min (least_or no_way f (take k xs)) (min (f (get_or xs k d)) no_way)
  least_take f xs k d h =
      ap (λ n. least_or no_way f (take n xs)) (add-one k)
      ∙ ap (least_or no_way f) (take-suc xs k d h)
      ∙ least_append f (take k xs) (get_or xs k d ∷ [])

  -- a cost that is common to all
  least_sum : (c : ℕ) (f : A → ℕ) (xs : List A) → least_or no_way (λ x. sum_up_to no_way c (f x)) xs ≡ sum_up_to no_way c (least_or no_way f xs)
  unfolding sum_up_to
  least_sum c f [] = omega arith
  least_sum c f (x ∷ xs) = omega (arith, least_sum c f xs)

  -- functions that agree have the same least
  pub least_cong : (f g : A → ℕ) → ((x : A) → f x ≡ g x) → (xs : List A) → least_or no_way f xs ≡ least_or no_way g xs
  least_cong f g e [] = refl
  least_cong f g e (x ∷ xs) = ap₂ min (e x) (least_cong f g e xs)

  -- the same, where the two agree on the members of the list
  pub least_agree : (f g : A → ℕ) (xs : List A) → ((x : A) → Memᴰ x xs → f x ≡ g x) → least_or no_way f xs ≡ least_or no_way g xs
  least_agree f g [] e = refl
  least_agree f g (x ∷ xs) e = ap₂ min (e x (Memᴰ.head refl)) (least_agree f g xs (λ y m. e y (Memᴰ.tail m)))

  -- nothing attains a value below the least
  first_none : (f : A → ℕ) (v : ℕ) (xs : List A) → v < least_or no_way f xs → first_at f v xs ≡ none
  unfolding first_at
  first_none f v [] h = refl
  first_none f v (x ∷ xs) h = rw (ne_eqb (f x) v (λ e. omega arith)) (first_none f v xs (omega arith))

  -- the least is attained unless it is 'none'
  first_some : (f : A → ℕ) (v : ℕ) (xs : List A) → least_or no_way f xs ≡ v → v < no_way → (x : A) × (first_at f v xs ≡ some x)
  unfolding first_at
  first_some f v [] e h = absurd (omega arith)
  first_some f v (x ∷ xs) e h = go (eqb (f x) v) refl (first_some f v xs)
    where
      go : (b : Bool) → eqb (f x) v ≡ b
          → (least_or no_way f xs ≡ v → v < no_way → (y : A) × (first_of (λ z. eqb (f z) v) xs ≡ some y))
          → (y : A) × (cond b (some x) (first_of (λ z. eqb (f z) v) xs) ≡ some y)
      go true p next = (x, refl)
      go false p next = next (omega (arith, eqb-false (f x) v p)) h

module _ {A B : Type 0} where
  -- two ways on agree where they agree on what was found
  pub on_cong : (o : Option A) (g h : A → Option B) → ((x : A) → o ≡ some x → g x ≡ h x) → on_from o g ≡ on_from o h
  on_cong none g h e = refl
  on_cong (some x) g h e = e x refl

  -- the least over what is made of the elements
  pub least_map : (no_way : ℕ) (f : B → ℕ) (g : A → B) (xs : List A) → least_or no_way f (map g xs) ≡ least_or no_way (λ x. f (g x)) xs
  least_map no_way f g [] = refl
  least_map no_way f g (x ∷ xs) = ap (min (f (g x))) (least_map no_way f g xs)

  -- what is made of what was found
  abbrev pub map_first : (A → B) → Option A → Option B
  map_first g none = none
  map_first g (some x) = some (g x)

  -- the first of what is made of the elements is made of the first
  pub first_map : (t : B → Bool) (g : A → B) (xs : List A) → first_of t (map g xs) ≡ map_first g (first_of (λ x. t (g x)) xs)
  first_map t g [] = refl
  first_map t g (x ∷ xs) = go (t (g x)) (first_map t g xs)
    where
      go : (b : Bool) → first_of t (map g xs) ≡ map_first g (first_of (λ y. t (g y)) xs)
          → cond b (some (g x)) (first_of t (map g xs)) ≡ map_first g (cond b (some x) (first_of (λ y. t (g y)) xs))
      go true e = refl
      go false e = e

-- options X, what follows each, how they are put together, and the cost of an option
module _ {X R S : Type 0} (no_way : ℕ) (f : X → List R) (k : X → R → S) (whole : S → ℕ) (c : X → ℕ) (part : X → R → ℕ) (sum : (x : X) (r : R) → whole (k x r) ≡ sum_up_to no_way (c x) (part x r)) where
  -- the least that follows an option, and the least of the option: its cost and that
  abbrev rest : X → ℕ
  rest x = least_or no_way (part x) (f x)

  abbrev pub through : X → ℕ
  through x = sum_up_to no_way (c x) (rest x)

  -- an option with all that follows it
  abbrev wholes : X → List S
  wholes x = map (k x) (f x)

  -- an option with the first of the least that follow it
  abbrev first_on : X → Option S
  first_on x = map_first (k x) (first_at (part x) (rest x) (f x))

  -- the least of one option: its cost is common to all that follows
  least_one : (x : X) → least_or no_way whole (wholes x) ≡ through x
  least_one x = least_map no_way whole (k x) (f x) ∙ least_cong no_way _ _ (sum x) (f x) ∙ least_sum no_way (c x) (part x) (f x)

  -- option by option
  pub least_step : (xs : List X) → least_or no_way whole (concat_of wholes xs) ≡ least_or no_way through xs
  least_step [] = refl
  least_step (x ∷ xs) = least_append no_way whole (wholes x) (concat_of wholes xs) ∙ ap₂ min (least_one x) (least_step xs)

  -- at an option that attains the value, what follows attains its own least
  same_test : (x : X) (v : ℕ) → v < no_way → through x ≡ v → (r : R) → eqb (whole (k x r)) v ≡ eqb (part x r) (rest x)
  unfolding sum_up_to
  same_test x v h e r = go (eqb (part x r) (rest x)) refl
    where
      go : (b : Bool) → eqb (part x r) (rest x) ≡ b → eqb (whole (k x r)) v ≡ b
      go true p = eq-eqb _ _ (sum x r ∙ ap (sum_up_to no_way (c x)) (eqb-true _ _ p) ∙ e)
      go false p = ne_eqb (whole (k x r)) v (λ q. eqb-false (part x r) (rest x) p (omega (arith, sum x r)))

  -- a sum below 'none' has a part below 'none'
  attained : (x : X) (v : ℕ) → v < no_way → through x ≡ v → rest x < no_way
  unfolding sum_up_to
  attained x v h e = omega arith

  -- option by option: at the first that attains the value the front has one, before it the front has none
  pub first_step : (v : ℕ) → v < no_way → (xs : List X) → v ≤ least_or no_way through xs
      → first_at whole v (concat_of wholes xs) ≡ on_from (first_at through v xs) first_on
  unfolding first_at
  first_step v h [] l = refl
  first_step v h (x ∷ xs) l = go (eqb (through x) v) refl (first_step v h xs (omega arith))
    where
      go : (b : Bool) → eqb (through x) v ≡ b → first_at whole v (concat_of wholes xs) ≡ on_from (first_at through v xs) first_on
          → first_at whole v (wholes x ++ concat_of wholes xs) ≡ on_from (cond b (some x) (first_at through v xs)) first_on
      go true p next =
          let e : through x ≡ v = eqb-true (through x) v p in
          let tests = first_cong _ _ (same_test x v h e) (f x) in
          let here : first_at whole v (wholes x) ≡ first_on x = first_map (λ s. eqb (whole s) v) (k x) (f x) ∙ ap (map_first (k x)) tests in
          let some-r = first_some no_way (part x) (rest x) (f x) refl (attained x v h e) in
          let found : first_on x ≡ some (k x some-r.0) = ap (map_first (k x)) some-r.1 in
          append_some (λ s. eqb (whole s) v) (wholes x) (concat_of wholes xs) (k x some-r.0) (here ∙ found) ∙ sym found
      go false p next =
          let above = first_none no_way whole v (wholes x) (omega (arith, least_one x, eqb-false (through x) v p)) in
          append_none _ (wholes x) _ above ∙ next
