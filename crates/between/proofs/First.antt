-- The first number that passes a test.
use Prim.Native.Nat.{ℕ, zero, suc, ◌+◌, ◌-◌, ◌≤◌, ◌<◌}
use native.Mathlib.Omega.{arith}
use native.Mathlib.Nat.{eq-or-lt_of_le}
use native.Mathlib.Numerals.{add-one}
use mathlib.Core.Path.{◌≡◌, refl, sym, ◌∙◌, ap, ap₂}
use mathlib.Core.Logic.{⊎_elim}
use mathlib.Core.Bool.{Bool, true, false, cond, true≢false}
use lib.Dec.{leb}
use borrow.Author.Tests.{leb-true, leb-false}
use Rattle.between.specs.Between.{first_from}

-- a search up to m, from a on: a passes
pub first_here : (t : ℕ → Bool) (a m : ℕ) → a < m → t a ≡ true → first_from t a (m - a) ≡ a
first_here t a m l e = let more : m - a ≡ suc (m - suc a) = omega arith in rw (more, e)

-- a does not pass
pub first_later : (t : ℕ → Bool) (a m : ℕ) → a < m → t a ≡ false → first_from t a (m - a) ≡ first_from t (a + 1) (m - (a + 1))
first_later t a m l e = let more : m - a ≡ suc (m - suc a) = omega arith in rw (add-one a, more, e)

-- nothing is left
pub first_none : (t : ℕ → Bool) (a m : ℕ) → m ≤ a → first_from t a (m - a) ≡ a
first_none t a m l = let none_left : m - a ≡ 0 = omega arith in rw (none_left)

-- it is one of the numbers, or the one behind them
pub first_range : (t : ℕ → Bool) (a n b : ℕ) → a + n ≡ b → (a ≤ first_from t a n) × (first_from t a n ≤ b)
first_range t a zero b e = omega arith
first_range t a (suc n) b e = go (t a) (first_range t (suc a) n b (omega arith))
  where
    go : (s : Bool) → (suc a ≤ first_from t (suc a) n) × (first_from t (suc a) n ≤ b) → (a ≤ cond s a (first_from t (suc a) n)) × (cond s a (first_from t (suc a) n) ≤ b)
    go true rest = omega arith
    go false rest = omega arith

-- tests that agree on the numbers have the same first
pub first_agree : (s t : ℕ → Bool) (a n : ℕ) → ((i : ℕ) → a ≤ i → i < a + n → s i ≡ t i) → first_from s a n ≡ first_from t a n
first_agree s t a zero agree = refl
first_agree s t a (suc n) agree =
    ap₂ (λ b k. cond b a k) (agree a (omega arith) (omega arith)) (first_agree s t (suc a) n (λ i low high. agree i (omega arith) (omega arith)))

-- no number before it passes
first_fails : (t : ℕ → Bool) (a n i : ℕ) → a ≤ i → i < first_from t a n → t i ≡ false
first_fails t a zero i low high = absurd (omega arith)
first_fails t a (suc n) i low high = go (t a) refl high (first_fails t (suc a) n i)
  where
    go : (s : Bool) → t a ≡ s → i < cond s a (first_from t (suc a) n) → (suc a ≤ i → i < first_from t (suc a) n → t i ≡ false) → t i ≡ false
    go true p l rest = absurd (omega arith)
    go false p l rest = ⊎_elim (λ e. ap t (sym e) ∙ p) (λ more. rest more l) (eq-or-lt_of_le low)

-- it passes, unless none does
first_passes : (t : ℕ → Bool) (a n : ℕ) → first_from t a n < a + n → t (first_from t a n) ≡ true
first_passes t a zero l = absurd (omega arith)
first_passes t a (suc n) l = go (t a) refl l (first_passes t (suc a) n)
  where
    go : (s : Bool) → t a ≡ s → cond s a (first_from t (suc a) n) < a + suc n → (first_from t (suc a) n < suc a + n → t (first_from t (suc a) n) ≡ true) → t (cond s a (first_from t (suc a) n)) ≡ true
    go true p k rest = p
    go false p k rest = rest (omega arith)

-- where each number past one that passes does too, those that pass are those from the first on
pub first_upwards : (t : ℕ → Bool) (a n i : ℕ) → ((k : ℕ) → a ≤ k → k ≤ i → t k ≡ true → t i ≡ true) → a ≤ i → i < a + n → leb (first_from t a n) i ≡ t i
first_upwards t a n i upwards low high = go (leb (first_from t a n) i) refl
  where
    go : (b : Bool) → leb (first_from t a n) i ≡ b → b ≡ t i
    go true p =
        let l = leb-true (first_from t a n) i p in
        sym (upwards (first_from t a n) (first_range t a n (a + n) refl).0 l (first_passes t a n (omega arith)))
    go false p = sym (first_fails t a n i low (leb-false (first_from t a n) i p))

-- a test that passes where another does, from one number lower to the same end, has no later first
pub first_earlier : (s t : ℕ → Bool) (a n : ℕ) → ((i : ℕ) → suc a ≤ i → i < suc a + n → s i ≡ true → t i ≡ true) → first_from t a (suc n) ≤ first_from s (suc a) n
first_earlier s t a n passes = go (leb (first_from t a (suc n)) (first_from s (suc a) n)) refl
  where
    go : (b : Bool) → leb (first_from t a (suc n)) (first_from s (suc a) n) ≡ b → first_from t a (suc n) ≤ first_from s (suc a) n
    go true p = leb-true (first_from t a (suc n)) (first_from s (suc a) n) p
    go false p =
        let k = first_from s (suc a) n in
        let less = leb-false (first_from t a (suc n)) k p in
        let range-s = first_range s (suc a) n (suc a + n) refl in
        let range-t = first_range t a (suc n) (suc a + n) (omega arith) in
        let passed = passes k range-s.0 (omega arith) (first_passes s (suc a) n (omega arith)) in
        absurd (true≢false (sym passed ∙ first_fails t a (suc n) k (omega arith) less))
