-- The first of the best in a list: it is one of the list, and none is shorter, as long as a shorter one is better. These laws hold whichever way
-- `is_better` breaks a tie, so that an edit of how counts are compared is refused at its case.
use Prim.Native.Nat.{ℕ, ◌≤◌, ◌<◌, min}
use mathlib.Core.Path.{◌≡◌, refl, ◌∙◌, ap}
use mathlib.Core.Logic.{◌⊎◌, inl, inr}
use mathlib.Core.List.Memᴰ
use mathlib.Core.List.{List, [], ◌∷◌, Memᴰ}
use mathlib.Core.Bool.{Bool, true, false}
use mathlib.Core.Option.{Option, none, some, get_or}
use lib.Dec.{ltb}
use native.Mathlib.Omega.{arith}
use borrow.Author.Tests.{ltb-true, ltb-false, lt-ltb, le-ltb, ne_eqb}
use Rattle.rules.specs.BestPlan.{is_better, better_of, first_best}

-- a shorter one is better, and a longer one is not, whatever else is compared
abbrev pub LengthFirst : {A : Type 0} → (A → ℕ) → (A → A → Bool) → Type 0
LengthFirst {A = A} len better = (x y : A) → len x < len y → (better x y ≡ true) × (better y x ≡ false)

-- so it is of plans
pub shorter_better : {A : Type 0} (len aisles : A → ℕ) → LengthFirst len (is_better len aisles)
unfolding is_better
shorter_better len aisles x y h = (
  rw (lt-ltb (len x) (len y) h),
  rw (le-ltb (len y) (len x) (omega arith), ne_eqb (len y) (len x) (λ e. omega arith)),
)

module _ {A : Type 0} (better : A → A → Bool) where
  -- the better of two is one of them
  either_of : (x y : A) → (better_of better x (some y) ≡ x) ⊎ (better_of better x (some y) ≡ y)
  unfolding better_of
  either_of x y = go (better y x) refl
    where
      go : (b : Bool) → better y x ≡ b → (better_of better x (some y) ≡ x) ⊎ (better_of better x (some y) ≡ y)
      go true p = inr (rw p)
      go false p = inl (rw p)

  -- the first of the best is one of the list
  pub first_best_member : (xs : List A) (x : A) → first_best better xs ≡ some x → Memᴰ x xs
  unfolding better_of
  first_best_member [] x e = let none_some : ◌≡◌ {A = ℕ} 0 1 = cc in absurd (omega arith)
  first_best_member (w ∷ ws) x e = go (first_best better ws) refl (first_best_member ws x)
    where
      go : (o : Option A) → first_best better ws ≡ o → (first_best better ws ≡ some x → Memᴰ x ws) → Memᴰ x (w ∷ ws)
      go none p rest = let here : x ≡ w = cc in Memᴰ.head here
      go (some y) p rest = elim (either_of w y) [
        | inl q ↦ (let here : x ≡ w = cc in Memᴰ.head here)
        | inr q ↦ Memᴰ.tail (rest (cc))
      ]

  module _ (len : A → ℕ) (by_length : LengthFirst len better) (x y : A) where
    -- the shorter of two is the better one
    pub second_better : len y < len x → better_of better x (some y) ≡ y
    unfolding better_of
    second_better h = rw (by_length y x h).0

    pub first_better : len x < len y → better_of better x (some y) ≡ x
    unfolding better_of
    first_better h = rw (by_length x y h).1

    -- so it has the lesser length
    pub better_length : len (better_of better x (some y)) ≡ min (len x) (len y)
    better_length = go (ltb (len x) (len y)) refl (ltb (len y) (len x)) refl
      where
        go : (b : Bool) → ltb (len x) (len y) ≡ b → (c : Bool) → ltb (len y) (len x) ≡ c → len (better_of better x (some y)) ≡ min (len x) (len y)
        go true p c q = let l = ltb-true (len x) (len y) p in omega (arith, ap len (first_better l))
        go false p true q = let l = ltb-true (len y) (len x) q in omega (arith, ap len (second_better l))
        go false p false q =
            let same : len x ≡ len y = omega (arith, ltb-false (len x) (len y) p, ltb-false (len y) (len x) q) in
            elim (either_of x y) [ inl e ↦ omega (arith, same, ap len e) | inr e ↦ omega (arith, same, ap len e) ]

  -- where something is listed, something is found
  pub first_best_some : (xs : List A) {x : A} → Memᴰ x xs → (other : A) → first_best better xs ≡ some (get_or (first_best better xs) other)
  first_best_some [] m other = absurd (Memᴰ.not-nil m)
  first_best_some (w ∷ ws) m other = refl

  -- where nothing is found, nothing is listed
  none_listed : (xs : List A) → first_best better xs ≡ none → (x : A) → Memᴰ x xs → ⊥
  none_listed [] e x m = Memᴰ.not-nil m
  none_listed (w ∷ ws) e x m = let some-none : ◌≡◌ {A = ℕ} 0 1 = cc in omega arith

  -- none of the list is shorter than the first of its best
  pub first_best_least : (len : A → ℕ) → LengthFirst len better → (xs : List A) (x : A) → first_best better xs ≡ some x
      → (y : A) → Memᴰ y xs → len x ≤ len y
  unfolding better_of
  first_best_least len by_length [] x e y m = elim m [ ]
  first_best_least len by_length (w ∷ ws) x e y m = go (first_best better ws) refl (λ v p l. first_best_least len by_length ws v p y l) m
    where
      go : (o : Option A) → first_best better ws ≡ o → ((v : A) → first_best better ws ≡ some v → Memᴰ y ws → len v ≤ len y) → Memᴰ y (w ∷ ws) → len x ≤ len y
      go none p rest (Memᴰ.head q) = let here : w ≡ x = cc in omega (arith, ap len here, ap len q)
      go none p rest (Memᴰ.tail l) = absurd (none_listed ws p y l)
      go (some v) p rest (Memᴰ.head q) =
          let here : better_of better w (some v) ≡ x = cc in
          omega (arith, ap len here, ap len q, better_length len by_length w v)
      go (some v) p rest (Memᴰ.tail l) =
          let here : better_of better w (some v) ≡ x = cc in
          omega (arith, ap len here, rest v p l, better_length len by_length w v)

-- two comparisons that agree on a list find the same in it
module _ {A : Type 0} (better better' : A → A → Bool) where
  pub first_best_agrees : (xs : List A) → ((x y : A) → Memᴰ x xs → Memᴰ y xs → better x y ≡ better' x y)
      → first_best better xs ≡ first_best better' xs
  unfolding better_of
  first_best_agrees [] h = refl
  first_best_agrees (x ∷ xs) h =
      let rest = first_best_agrees xs (λ y z m l. h y z (Memᴰ.tail m) (Memᴰ.tail l)) in
      ap some (go (first_best better xs) refl ∙ ap (better_of better' x) rest)
    where
      go : (o : Option A) → first_best better xs ≡ o → better_of better x o ≡ better_of better' x o
      go none p = refl
      go (some y) p = rw (h y x (Memᴰ.tail (first_best_member better xs y p)) (Memᴰ.head refl))
