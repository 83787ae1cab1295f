-- The first rank that passes a test is that of the first element found.
use Prim.Native.Nat.{ℕ, zero, suc, ◌<◌}
use native.Mathlib.Omega.{arith}
use native.Mathlib.Nat.{eq-or-lt_of_le}
use mathlib.Core.Logic.{⊎_elim}
use mathlib.Core.Path.{◌≡◌, refl, sym, ◌∙◌, ap₂}
use mathlib.Core.List.{List, [], ◌∷◌, Memᴰ}
use mathlib.Core.Bool.{Bool, true, false, cond, true≢false}
use mathlib.Core.Option.{none, some}
use lib.ListN.{length, get_or}
use Rattle.rules.specs.Lists.{first_of}
use Rattle.router.specs.Choosing.{FirstPass, FirstRank, Attained}

-- no element before rank k passes the test
abbrev NoneBefore : {A : Type 0} → (A → Bool) → List A → A → ℕ → Type 0
NoneBefore test xs d k = (i : ℕ) → i < k → test (get_or xs i d) ≡ true → ⊥

-- what is not so is false
is_false : (b : Bool) → (b ≡ true → ⊥) → b ≡ false
is_false true h = absurd (h refl)
is_false false h = refl

-- a search from the first rank on: it ends where the test is passed, or behind the last
-- the first number that passes is the first rank, where what is answered is what the test says of the element
pub rank_passed : {A : Type 0} (test : A → Bool) (d : A) (xs : List A) (answers : ℕ → Bool → Type 0) (count r : ℕ)
    → count ≡ length xs → ((k : ℕ) (b : Bool) → k < count → answers k b → b ≡ test (get_or xs k d))
    → FirstPass answers count r → FirstRank test xs d r
rank_passed test d xs answers count r size said first = record {
  within = omega (arith, first.within);
  before = λ k l e. true≢false (sym e ∙ sym (said k false (omega (arith, first.within, l)) (first.before k l)));
  attained = λ l. sym (said r true (omega arith) (first.passed (omega arith)));
}

module _ {A : Type 0} (test : A → Bool) (d : A) where
  -- a rank that passes the test is that of the first element found
  rank_first : (xs : List A) (k : ℕ) → k < length xs → NoneBefore test xs d k → test (get_or xs k d) ≡ true → first_of test xs ≡ some (get_or xs k d)
  rank_first [] k h before e = absurd (omega arith)
  rank_first (x ∷ xs) zero h before e = rw e refl
  rank_first (x ∷ xs) (suc k) h before e =
      rw (is_false (test x) (before 0 (omega arith))) (rank_first xs k (omega arith) (λ i l. before (suc i) (omega arith)) e)

  none_found : (xs : List A) → NoneBefore test xs d (length xs) → first_of test xs ≡ none
  none_found [] before = refl
  none_found (x ∷ xs) before =
      rw (is_false (test x) (before 0 (omega arith))) (none_found xs (λ i l. before (suc i) (omega arith)))

  -- where some element passes the test, the first rank is that of what is found
  pub rank_within : (xs : List A) (k : ℕ) → FirstRank test xs d k → Attained test xs
      → (k < length xs) × (first_of test xs ≡ some (get_or xs k d))
  rank_within xs k r found = ⊎_elim past here (eq-or-lt_of_le r.within)
    where
      past : k ≡ length xs → (k < length xs) × (first_of test xs ≡ some (get_or xs k d))
      past e =
          let some-y : first_of test xs ≡ some found.0 = found.1 in
          let no-y : first_of test xs ≡ none = none_found xs (λ i l. r.before i (omega arith)) in
          let z : ◌≡◌ {A = ℕ} 0 1 = cc in
          absurd (omega arith)

      here : k < length xs → (k < length xs) × (first_of test xs ≡ some (get_or xs k d))
      here l = (l, rank_first xs k l r.before (r.attained l))

-- what is found is a member
pub first_member : {A : Type 0} (test : A → Bool) (xs : List A) (y : A) → first_of test xs ≡ some y → Memᴰ y xs
first_member test [] y e = let z : ◌≡◌ {A = ℕ} 0 1 = cc in absurd (omega arith)
first_member test (x ∷ xs) y e = go (test x) e (first_member test xs y)
  where
    go : (b : Bool) → cond b (some x) (first_of test xs) ≡ some y → (first_of test xs ≡ some y → Memᴰ y xs) → Memᴰ y (x ∷ xs)
    go true q next = let same : y ≡ x = cc in Memᴰ.head same
    go false q next = Memᴰ.tail (next q)

-- tests that agree on the members of a list find the same
pub first_tested : {A : Type 0} (t u : A → Bool) (xs : List A) → ((x : A) → Memᴰ x xs → t x ≡ u x) → first_of t xs ≡ first_of u xs
first_tested t u [] e = refl
first_tested t u (x ∷ xs) e =
    ap₂ (λ b o. cond b (some x) o) (e x (Memᴰ.head refl)) (first_tested t u xs (λ y m. e y (Memᴰ.tail m)))
