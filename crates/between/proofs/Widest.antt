-- The stops on a part that turns one height further, and the largest distance between neighbouring stops.
use Prim.Native.Nat.{ℕ, zero, suc, ◌+◌, ◌-◌, max, ◌≤◌, ◌<◌}
use native.Mathlib.Omega.{arith}
use mathlib.Core.Path.{◌≡◌, refl, sym, ◌∙◌, ap}
use mathlib.Core.Logic.{◌⊎◌, inl, inr, ⊎_elim}
use mathlib.Core.List.{List, [], ◌∷◌, ◌++◌, append-nil}
use mathlib.Core.Bool.{Bool, true, false, cond, ◌&&◌}
use lib.Dec.{leb}
use lib.ListN.{get_or}
use borrow.Author.Tests.{le-leb, lt-leb, leb-true, leb-false}
use Rattle.rules.specs.Lists.{from, select, head_or}
use Rattle.rules.specs.Machine.{stops_within}
use Rattle.rules.proofs.Lists.{select_append}
use Rattle.between.specs.Stops.{widest, flagged, front_stops, back_stops}

-- the larger of two numbers is at most n where both are
leb_max : (a b n : ℕ) → leb (max a b) n ≡ (leb a n && leb b n)
leb_max a b n = go (leb a n) refl (leb b n) refl
  where
    go : (s : Bool) → leb a n ≡ s → (t : Bool) → leb b n ≡ t → leb (max a b) n ≡ (s && t)
    go true p true q = le-leb (max a b) n (omega (arith, leb-true a n p, leb-true b n q))
    go true p false q = lt-leb (max a b) n (omega (arith, leb-false b n q))
    go false p t q = lt-leb (max a b) n (omega (arith, leb-false a n p))

-- neighbouring stops are at most n apart where the largest of their distances is at most n
pub within_widest : (at : ℕ → ℕ) (n : ℕ) (stops : List ℕ) → stops_within at n stops ≡ leb (widest at stops) n
within_widest at n [] = sym (le-leb 0 n (omega arith))
within_widest at n (x ∷ []) = sym (le-leb 0 n (omega arith))
within_widest at n (x ∷ y ∷ stops) =
    ap (λ b. leb (at y - at x) n && b) (within_widest at n (y ∷ stops)) ∙ sym (leb_max (at y - at x) (widest at (y ∷ stops)) n)

-- the last stop of a list, d where it has none
abbrev last_of : ℕ → List ℕ → ℕ
last_of d [] = d
last_of d (x ∷ stops) = last_of x stops

-- a stop put behind the others is the last
last_behind : (d y : ℕ) (stops : List ℕ) → last_of d (stops ++ (y ∷ [])) ≡ y
last_behind d y [] = refl
last_behind d y (x ∷ stops) = last_behind x y stops

-- its distance from the one before counts
widest_behind : (at : ℕ → ℕ) (x y : ℕ) (stops : List ℕ) → widest at ((x ∷ stops) ++ (y ∷ [])) ≡ max (widest at (x ∷ stops)) (at y - at (last_of x stops))
widest_behind at x y [] = omega arith
widest_behind at x y (w ∷ stops) = omega (arith, widest_behind at w y stops)

-- and so does the distance of one put before the others from the next
widest_before : (at : ℕ → ℕ) (x y : ℕ) (stops : List ℕ) → widest at (x ∷ (stops ++ (y ∷ []))) ≡ max (widest at (stops ++ (y ∷ []))) (at (head_or y stops) - at x)
widest_before at x y [] = omega arith
widest_before at x y (w ∷ stops) = omega arith

-- consecutive numbers in two parts
pub from_append : (a b n k m : ℕ) → a + n ≡ b → n + k ≡ m → from a m ≡ from a n ++ from b k
from_append a b zero k m e f = let same : a ≡ b = omega arith in let all : k ≡ m = omega arith in rw (same, all)
from_append a b (suc n) k zero e f = absurd (omega arith)
from_append a b (suc n) k (suc m) e f = ap (λ l. a ∷ l) (from_append (suc a) b n k m (omega arith) (omega arith))

module _ (flags : List Bool) where
  -- the last stop on a front part
  unfoldable pub front_last : ℕ → ℕ
  front_last h = last_of 0 (flagged flags 1 h)

  -- the first stop on a back part
  unfoldable pub back_first : ℕ → ℕ → ℕ
  back_first top i = head_or top (flagged flags i (top - i))

  -- the flagged heights with one more behind them
  flagged_behind : (h : ℕ) → flagged flags 1 (suc h) ≡ flagged flags 1 h ++ cond (get_or flags (suc h) false) (suc h ∷ []) []
  flagged_behind h =
      let flag : ℕ → Bool = λ c. get_or flags c false in
      ap (select flag) (from_append 1 (suc h) h 1 (suc h) (omega arith) (omega arith)) ∙ select_append flag (from 1 h) (suc h ∷ [])

  -- the flagged heights with one more before them
  flagged_before : (top i : ℕ) → i < top
      → flagged flags i (top - i) ≡ cond (get_or flags i false) (i ∷ flagged flags (suc i) (top - suc i)) (flagged flags (suc i) (top - suc i))
  flagged_before top i l = let left : top - i ≡ suc (top - suc i) = omega arith in ap (flagged flags i) left

  -- a front part that turns one height further: a flagged height is its last stop, and the distance from the one before counts
  pub front_flagged : (h : ℕ) → get_or flags (suc h) false ≡ true
      → (front_last (suc h) ≡ suc h) × ((at : ℕ → ℕ) → widest at (front_stops flags (suc h)) ≡ max (widest at (front_stops flags h)) (at (suc h) - at (front_last h)))
  unfolding front_last front_stops
  front_flagged h e =
      let more = rw e at (flagged_behind h) in
      let before = flagged flags 1 h in
      (ap (last_of 0) more ∙ last_behind 0 (suc h) before, λ at. ap (λ l. widest at (0 ∷ l)) more ∙ widest_behind at 0 (suc h) before)

  -- another height changes nothing
  pub front_unflagged : (h : ℕ) → get_or flags (suc h) false ≡ false → (front_last (suc h) ≡ front_last h) × (front_stops flags (suc h) ≡ front_stops flags h)
  unfolding front_last front_stops
  front_unflagged h e =
      let same = rw e at (flagged_behind h) ∙ append-nil (flagged flags 1 h) in (ap (last_of 0) same, ap (λ l. 0 ∷ l) same)

  -- a back part that turns one height nearer to the front: a flagged height is its first stop
  pub back_flagged : (top i : ℕ) → i < top → get_or flags i false ≡ true
      → (back_first top i ≡ i) × ((at : ℕ → ℕ) → widest at (back_stops flags top i) ≡ max (widest at (back_stops flags top (suc i))) (at (back_first top (suc i)) - at i))
  unfolding back_first back_stops
  back_flagged top i l e =
      let more = rw e at (flagged_before top i l) in
      (ap (head_or top) more, λ at. ap (λ s. widest at (s ++ (top ∷ []))) more ∙ widest_before at i top (flagged flags (suc i) (top - suc i)))

  -- another height changes nothing
  pub back_unflagged : (top i : ℕ) → i < top → get_or flags i false ≡ false → (back_first top i ≡ back_first top (suc i)) × (back_stops flags top i ≡ back_stops flags top (suc i))
  unfolding back_first back_stops
  back_unflagged top i l e = let same = rw e at (flagged_before top i l) in (ap (head_or top) same, ap (λ s. s ++ (top ∷ [])) same)

  -- a flag is up or down
  flag? : (c : ℕ) → (get_or flags c false ≡ true) ⊎ (get_or flags c false ≡ false)
  flag? c = go (get_or flags c false)
    where
      go : (b : Bool) → (b ≡ true) ⊎ (b ≡ false)
      go true = inl refl
      go false = inr refl

  -- the last stop on a front part is not past its turn
  pub front_last_within : (h : ℕ) → front_last h ≤ h
  unfolding front_last
  front_last_within zero = omega arith
  front_last_within (suc h) =
      let before = front_last_within h in
      ⊎_elim (λ e. omega (arith, (front_flagged h e).0)) (λ e. omega (arith, (front_unflagged h e).0)) (flag? (suc h))

  -- the first stop on a back part is not before its turn
  pub back_first_within : (top i n : ℕ) → i + n ≡ top → i ≤ back_first top i
  unfolding back_first
  back_first_within top i zero e = let none_left : top - i ≡ 0 = omega arith in rw (none_left) (omega arith)
  back_first_within top i (suc n) e =
      let behind = back_first_within top (suc i) n (omega arith) in
      ⊎_elim (λ f. omega (arith, (back_flagged top i (omega arith) f).0)) (λ f. omega (arith, (back_unflagged top i (omega arith) f).0)) (flag? i)

  -- the largest distance grows with a front part, by one height
  front_more : (at : ℕ → ℕ) (h : ℕ) → widest at (front_stops flags h) ≤ widest at (front_stops flags (suc h))
  front_more at h =
      ⊎_elim (λ e. omega (arith, (front_flagged h e).1 at)) (λ e. omega (arith, ap (widest at) (front_unflagged h e).1)) (flag? (suc h))

  -- and with a back part
  back_more : (at : ℕ → ℕ) (top i : ℕ) → i < top → widest at (back_stops flags top (suc i)) ≤ widest at (back_stops flags top i)
  back_more at top i l =
      ⊎_elim (λ e. omega (arith, (back_flagged top i l e).1 at)) (λ e. omega (arith, ap (widest at) (back_unflagged top i l e).1)) (flag? i)

  -- with a front part by any number of heights
  pub front_grows : (at : ℕ → ℕ) (h n k : ℕ) → h + n ≡ k → widest at (front_stops flags h) ≤ widest at (front_stops flags k)
  front_grows at h zero k e = let same : h ≡ k = omega arith in rw (same) (omega arith)
  front_grows at h (suc n) k e = omega (arith, front_more at h, front_grows at (suc h) n k (omega arith))

  -- with a back part by any number of heights
  pub back_grows : (at : ℕ → ℕ) (top i n k : ℕ) → i + n ≡ k → k ≤ top → widest at (back_stops flags top k) ≤ widest at (back_stops flags top i)
  back_grows at top i zero k e l = let same : i ≡ k = omega arith in rw (same) (omega arith)
  back_grows at top i (suc n) k e l = omega (arith, back_more at top i (omega arith), back_grows at top (suc i) n k (omega arith) l)
