-- Lists: the few functions that the definitions are written with.
use Rattle.std.specs.Prelude.{ℕ, zero, suc, ◌+◌, ◌*◌, Bool, true, false, ◌&&◌, ◌||◌, cond}
use mathlib.Core.List.{List, [], ◌∷◌, ◌++◌, Memᴰ}
use Rattle.std.proofs.Math.Option.{Option, none, some}

-- the n numbers from a upwards
abbrev pub from : ℕ → ℕ → List ℕ
from a zero = []
from a (suc n) = a ∷ from (suc a) n

module _ {A : Type 0} where
  -- the sum of f over the list
  abbrev pub sum_of : (A → ℕ) → List A → ℕ
  sum_of f [] = 0
  sum_of f (x ∷ xs) = f x + sum_of f xs

  -- the product of f over the list
  abbrev pub product_of : (A → ℕ) → List A → ℕ
  product_of f [] = 1
  product_of f (x ∷ xs) = f x * product_of f xs

  -- whether the test holds of every element
  abbrev pub all_of : (A → Bool) → List A → Bool
  all_of t [] = true
  all_of t (x ∷ xs) = t x && all_of t xs

  -- whether the test holds of some element
  abbrev pub any_of : (A → Bool) → List A → Bool
  any_of t [] = false
  any_of t (x ∷ xs) = t x || any_of t xs

  -- whether two places of the list are alike
  abbrev pub any_two : (A → A → Bool) → List A → Bool
  any_two alike [] = false
  any_two alike (x ∷ xs) = any_of (alike x) xs || any_two alike xs

  -- the elements of which the test holds, in their order
  abbrev pub select : (A → Bool) → List A → List A
  select t [] = []
  select t (x ∷ xs) = cond (t x) (x ∷ select t xs) (select t xs)

  -- the first element of which the test holds
  abbrev pub first_of : (A → Bool) → List A → Option A
  first_of t [] = none
  first_of t (x ∷ xs) = cond (t x) (some x) (first_of t xs)

  -- the element with the number j, counted from 1; d where there is none
  abbrev pub nth : List A → ℕ → A → A
  nth xs zero d = d
  nth [] (suc j) d = d
  nth (x ∷ xs) (suc zero) d = x
  nth (x ∷ xs) (suc (suc j)) d = nth xs (suc j) d

  -- the first element; d where there is none
  abbrev pub head_or : A → List A → A
  head_or d [] = d
  head_or d (x ∷ xs) = x

  -- each element stands in the relation to all later ones
  abbrev pub Sorted : (A → A → Type 0) → List A → Type 0
  Sorted R [] = Unit {0}
  Sorted R (x ∷ xs) = ((y : A) → Memᴰ y xs → R x y) × Sorted R xs

-- the lists of f, one behind the other
abbrev pub concat_of : {A B : Type 0} → (A → List B) → List A → List B
concat_of f [] = []
concat_of f (x ∷ xs) = f x ++ concat_of f xs
