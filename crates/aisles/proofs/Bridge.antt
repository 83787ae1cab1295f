-- A number that no way undercuts, and that is 'none' or one of the ways, is the least: the order in which the ways were
-- tried, and those that were left out because another is no longer, do not matter.
use Prim.Native.Nat.{ℕ, ◌≤◌}
use native.Mathlib.Omega.{arith}
use native.Mathlib.Nat.{le_antisymm}
use mathlib.Core.Path.{◌≡◌, refl, ap}
use mathlib.Core.Logic.{◌⊎◌, inl, inr}
use mathlib.Core.List.{List, [], ◌∷◌, Memᴰ}
use Rattle.optimum.specs.Least.{least_or}

module _ {A : Type 0} (no_way : ℕ) (f : A → ℕ) where
  -- what no way undercuts is at most the least
  above : (v : ℕ) → v ≤ no_way → (xs : List A) → ((a : A) → Memᴰ a xs → v ≤ f a) → v ≤ least_or no_way f xs
  above v top [] low = top
  above v top (x ∷ xs) low = omega (arith, low x (Memᴰ.head refl), above v top xs (λ a m. low a (Memᴰ.tail m)))

  -- the least is at most 'none'
  none : (xs : List A) → least_or no_way f xs ≤ no_way
  none [] = omega arith
  none (x ∷ xs) = omega (arith, none xs)

  -- and at most each way
  below : (a : A) (xs : List A) → Memᴰ a xs → least_or no_way f xs ≤ f a
  below a [] m = elim m [ ]
  below a (x ∷ xs) (Memᴰ.head e) = omega (arith, ap f e)
  below a (x ∷ xs) (Memᴰ.tail m) = omega (arith, below a xs m)

  -- so it is at most what is 'none' or one of the ways
  under : (v : ℕ) (xs : List A) → (v ≡ no_way) ⊎ ((a : A) × Memᴰ a xs × (v ≡ f a)) → least_or no_way f xs ≤ v
  under v xs (inl e) = omega (arith, none xs)
  under v xs (inr (a, m, e)) = omega (arith, below a xs m)

  -- what is both is the least
  pub least_is : (v : ℕ) (xs : List A) → v ≤ no_way → ((a : A) → Memᴰ a xs → v ≤ f a)
      → (v ≡ no_way) ⊎ ((a : A) × Memᴰ a xs × (v ≡ f a)) → v ≡ least_or no_way f xs
  least_is v xs top low one = le_antisymm (above v top xs low) (under v xs one)
