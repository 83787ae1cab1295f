-- The first of the shortest among selected elements is the first that attains the least value, where an element that is
-- not selected counts as 'none'. Over any length and any 'none' above it.
use Prim.Native.Nat.{ℕ, min, ◌<◌}
use native.Mathlib.Omega.{arith}
use mathlib.Core.Path.{◌≡◌, refl, ◌∙◌, ap}
use mathlib.Core.List.{List, [], ◌∷◌, Memᴰ}
use mathlib.Core.Bool.{Bool, true, false, cond}
use mathlib.Core.Option.{Option, none, some}
use lib.Dec.{eqb, ltb}
use borrow.Author.Tests.{eq-eqb, ne_eqb, ltb-true, ltb-false}
use Rattle.rules.specs.Lists.{select}
use Rattle.rules.specs.BestPlan.{better_of}
use Rattle.rules.proofs.Enumeration.{first_shortest, shorter_of}
use Rattle.optimum.specs.Least.{least_or, first_at}
use Rattle.optimum.proofs.Choice.{least_bound}

module _ {A : Type 0} (no_way : ℕ) (ok : A → Bool) (len : A → ℕ) where
  -- the value of an element: its length, or 'none'
  abbrev pub counted : A → ℕ
  counted x = cond (ok x) (len x) no_way

  -- the length of what was found
  abbrev pub found_length : Option A → ℕ
  found_length none = no_way
  found_length (some x) = len x

  -- the least value, and the first of the shortest that are selected
  abbrev least : List A → ℕ
  least xs = least_or no_way counted xs

  abbrev found : List A → Option A
  found xs = first_shortest len (select ok xs)

  -- each length is below 'none'
  abbrev Short : List A → Type 0
  Short xs = (x : A) → Memᴰ x xs → len x < no_way

  -- the shorter of two has the smaller length, by the test that chooses it
  shorter_length : (x : A) (o : Option A) → len x < no_way → len (shorter_of len x o) ≡ min (len x) (found_length o)
  unfolding better_of
  shorter_length x none h = omega arith
  shorter_length x (some y) h = go (ltb (len y) (len x)) refl
    where
      go : (b : Bool) → ltb (len y) (len x) ≡ b → len (cond b y x) ≡ min (len x) (len y)
      go true e = omega (arith, ltb-true (len y) (len x) e)
      go false e = omega (arith, ltb-false (len y) (len x) e)

  -- the least value is the length of the first of the shortest
  pub least_found : (xs : List A) → Short xs → least xs ≡ found_length (found xs)
  least_found [] h = refl
  least_found (x ∷ xs) h = go (ok x) (least_found xs (λ y m. h y (Memᴰ.tail m)))
    where
      go : (b : Bool) → least xs ≡ found_length (found xs)
          → min (cond b (len x) no_way) (least xs) ≡ found_length (first_shortest len (cond b (x ∷ select ok xs) (select ok xs)))
      go true e = omega (arith, shorter_length x (found xs) (h x (Memᴰ.head refl)))
      go false e = omega (arith, least_bound no_way counted xs)

  -- the first that attains the least of xs is o, if that is not 'none'
  abbrev Attains : List A → Option A → Type 0
  Attains xs o = least xs < no_way → first_at counted (least xs) xs ≡ o

  -- a selected element in front: it is found unless what follows is shorter
  taken : (x : A) (xs : List A) (o : Option A) (v : ℕ) → len x < no_way → least xs ≡ found_length o → Attains xs o → v ≡ min (len x) (least xs)
      → cond (eqb (len x) v) (some x) (first_at counted v xs) ≡ some (shorter_of len x o)
  unfolding better_of
  taken x xs none v short e next is-least = rw (eq-eqb (len x) v (omega arith)) refl
  taken x xs (some y) v short e next is-least = go (ltb (len y) (len x)) refl
    where
      go : (b : Bool) → ltb (len y) (len x) ≡ b → cond (eqb (len x) v) (some x) (first_at counted v xs) ≡ some (cond b y x)
      go false p = rw (eq-eqb (len x) v (omega (arith, ltb-false (len y) (len x) p))) refl
      go true p =
          let longer = ltb-true (len y) (len x) p in
          let later : v ≡ least xs = omega (arith, longer) in
          rw (ne_eqb (len x) v (λ q. omega (arith, longer))) (ap (λ n. first_at counted n xs) later ∙ next (omega (arith, longer)))

  -- and the first that attains it is the first of the shortest
  pub first_found : (xs : List A) → Short xs → Attains xs (found xs)
  unfolding first_at
  first_found [] h l = refl
  first_found (x ∷ xs) h l = go (ok x) refl l (first_found xs (λ y m. h y (Memᴰ.tail m)))
    where
      -- the value of x, and the least of the whole list, if x is selected and if not
      here : Bool → ℕ
      here b = cond b (len x) no_way

      whole : Bool → ℕ
      whole b = min (here b) (least xs)

      go : (b : Bool) → ok x ≡ b → whole b < no_way → Attains xs (found xs)
          → cond (eqb (here b) (whole b)) (some x) (first_at counted (whole b) xs) ≡ first_shortest len (cond b (x ∷ select ok xs) (select ok xs))
      go true e k next = taken x xs (found xs) _ (h x (Memᴰ.head refl)) (least_found xs (λ y m. h y (Memᴰ.tail m))) next refl
      go false e k next =
          let later : min no_way (least xs) ≡ least xs = omega arith in
          rw (ne_eqb no_way (min no_way (least xs)) (λ q. omega arith), later) (next (omega arith))
