-- The case distinctions on numbers that the proofs use.
use Prim.Native.Nat.{ℕ, zero, suc, ◌≤◌, ◌<◌}
use native.Mathlib.Omega.{arith}
use native.Mathlib.Decide.{dec_lt}
use mathlib.Core.Path.{◌≡◌, refl}
use mathlib.Core.Logic.{◌⊎◌, inl, inr}

pub none_or_some : (n : ℕ) → (n ≡ 0) ⊎ (0 < n)
none_or_some zero = inl refl
none_or_some (suc n) = inr (omega arith)

pub equal_or_below : (a b : ℕ) → a ≤ b → (a ≡ b) ⊎ (a < b)
equal_or_below a b h = elim (dec_lt a b) [ yes l ↦ inr l | no l ↦ inl (omega arith) ]

pub below_or_from : (a b : ℕ) → (a < b) ⊎ (b ≤ a)
below_or_from a b = elim (dec_lt a b) [ yes l ↦ inl l | no l ↦ inr (omega arith) ]
