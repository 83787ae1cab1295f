-- Small facts about numbers and Booleans that the other files share.
use Prim.Native.Nat.{ℕ, suc, ◌≤◌, ◌<◌}
use native.Mathlib.Omega.{arith}
use mathlib.Core.Path.{◌≡◌, refl}
use mathlib.Core.Logic.{◌⊎◌, inl, inr}
use mathlib.Core.Bool.{Bool, true, false, cond, ◌||◌}
use lib.Dec.{ltb}
use borrow.Author.Tests.{ltb-true, ltb-false}

-- two numbers in their order
pub split_at : (i n : ℕ) → (i < n) ⊎ (n ≤ i)
split_at i n = go (ltb i n) refl
  where
    go : (b : Bool) → ltb i n ≡ b → (i < n) ⊎ (n ≤ i)
    go true e = inl (ltb-true i n e)
    go false e = inr (ltb-false i n e)

-- up to a successor: up to the number, or the successor itself
pub below : (i n : ℕ) → i ≤ suc n → (i ≤ n) ⊎ (i ≡ suc n)
below i n l = elim (split_at n i) [ inl h ↦ inr (omega arith) | inr h ↦ inl h ]

-- neither below nor above: the same
pub same_number : (j k : ℕ) → (j < k → ⊥) → (k < j → ⊥) → j ≡ k
same_number j k a b = elim (split_at j k) [
  | inl l ↦ absurd (a l)
  | inr l ↦ elim (split_at k j) [ inl h ↦ absurd (b h) | inr h ↦ omega arith ]
]

-- what is not trodden proves anything if it is trodden
pub not_trodden : {A : Type 0} {n : ℕ} → n ≡ 0 → 0 < n → A
not_trodden e t = absurd (omega arith)

-- Booleans
pub true_not_false : true ≡ false → ⊥
true_not_false e = let c : ◌≡◌ {A = ℕ} 0 1 = cc in omega arith

pub false_not_true : false ≡ true → ⊥
false_not_true e = let c : ◌≡◌ {A = ℕ} 0 1 = cc in omega arith

pub or-true : (b : Bool) → b || true ≡ true
or-true true = refl
or-true false = refl

-- what holds of both outcomes of a test holds of the one that it has
pub either_outcome : {A : Type 0} (P : A → Type 0) (b : Bool) (s t : A) → P s → P t → P (cond b s t)
either_outcome P true s t f g = f
either_outcome P false s t f g = g
