-- Lists that are filled from the front, one number at a time.
use Prim.Native.Nat.{ℕ, zero, suc, ◌+◌, ◌≤◌, ◌<◌}
use native.Mathlib.Omega.{arith}
use native.Mathlib.Nat.{eq-or-lt_of_le}
use mathlib.Core.Path.{◌≡◌, refl, sym, ◌∙◌, ap}
use mathlib.Core.Logic.{◌⊎◌, inl, inr, ⊎_elim}
use mathlib.Core.List.{List}
use lib.ListN.{length, get_or, set, replicate, length-replicate, get_or-replicate}
use lib.Seq.{get_or-set_same, get_or-set_other, ext_get_or}

-- an index below i + 1 is below i, or i
pub below : (k i : ℕ) → k < i + 1 → (k < i) ⊎ (k ≡ i)
below k i h = ⊎_elim (λ e. inr e) (λ l. inl l) (eq-or-lt_of_le (small k i h))
  where
    small : (k i : ℕ) → k < i + 1 → k ≤ i
    small k i h = omega arith

-- a list of zeros, in it and past its end
pub zero_at : (n k : ℕ) → get_or {A = ℕ} (replicate n 0) k 0 ≡ 0
zero_at zero k = refl
zero_at (suc n) zero = refl
zero_at (suc n) (suc k) = zero_at n k

-- one more entry of a list that is filled from the front
pub filled_one : (f : ℕ → ℕ) (xs : List ℕ) (i v : ℕ) → i < length xs → ((k : ℕ) → k < i → get_or xs k 0 ≡ f k) → v ≡ f i → (k : ℕ) → k < i + 1 → get_or (set xs i v) k 0 ≡ f k
filled_one f xs i v in_List filled e k h =
    ⊎_elim (λ l. get_or-set_other xs i k v 0 (λ p. omega arith) ∙ filled k l)
    (λ p. ap (λ n. get_or (set xs i v) n 0) p ∙ get_or-set_same xs i v 0 in_List ∙ e ∙ ap f (sym p))
    (below k i h)

-- a list whose numbers are all zero
pub all_zero : (xs : List ℕ) (n : ℕ) → length xs ≡ n → ((k : ℕ) → k < n → get_or xs k 0 ≡ 0) → xs ≡ replicate n 0
all_zero xs n e zeros =
    ext_get_or 0 xs (replicate n 0) (e ∙ sym (length-replicate n 0)) (λ i h. zeros i (omega arith) ∙ sym (get_or-replicate n i 0 0 (omega arith)))
