-- What a loop over the heights of a part keeps: where the stop at the part's end lies, and the largest distance so far.
use Prim.Native.Nat.{ℕ, ◌+◌, ◌-◌, max, ◌≤◌, ◌<◌}
use native.Mathlib.Omega.{arith}
use native.Mathlib.Numerals.{add-one}
use mathlib.Core.Path.{◌≡◌, refl, sym, ◌∙◌, ap}
use mathlib.Core.List.{List}
use mathlib.Core.Bool.{Bool, true, false}
use lib.ListN.{get_or}
use Rattle.rules.specs.declared.Layout.{Layout}
use Rattle.rules.specs.Store.{position, aisle_length}
use Rattle.rules.proofs.Lengths.{position_front, position_back, position_monotone}
use Rattle.between.specs.Stops.{widest, front_stops, back_stops}
use Rattle.between.proofs.Widest.{front_last, back_first, front_flagged, front_unflagged, back_flagged, back_unflagged, front_last_within, back_first_within}

-- the place of a part's stop, and the largest distance between its stops
pub record Reached (z : Layout) (stop : ℕ) (stops : List ℕ) (last most : ℕ) : Type 0 where
  pub place : last ≡ position z stop
  pub apart : most ≡ widest (position z) stops

module _ (z : Layout) (flags : List Bool) where
  -- of a front part that turns at height h
  abbrev pub FrontReached : ℕ → ℕ → ℕ → Type 0
  FrontReached h last most = Reached z (front_last flags h) (front_stops flags h) last most

  -- of a back part that turns at height i
  abbrev pub BackReached : ℕ → ℕ → ℕ → ℕ → Type 0
  BackReached top i last most = Reached z (back_first flags top i) (back_stops flags top i) last most

  -- before the first cell
  pub front_begins : FrontReached 0 0 0
  unfolding front_last front_stops
  front_begins = record { place = sym (position_front z); apart = refl }

  -- behind the last cell
  pub back_begins : (top : ℕ) → z.cells < top → BackReached top top (aisle_length z) 0
  unfolding back_first back_stops
  back_begins top l =
      let no_cell : top - top ≡ 0 = omega arith in
      rw (no_cell) (record { place = sym (position_back z top l); apart = refl })

  -- the last stop lies before the next height
  pub front_before : (h last most : ℕ) → FrontReached h last most → last ≤ position z (h + 1)
  front_before h last most r =
      let l = position_monotone z (front_last flags h) (h + 1) (omega (arith, front_last_within flags h)) in omega (arith, r.place)

  -- the first stop lies behind the next height
  pub back_behind : (top i last most : ℕ) → i < top → BackReached top (i + 1) last most → position z i ≤ last
  back_behind top i last most l r =
      let inside = back_first_within flags top (i + 1) (top - (i + 1)) (omega arith) in
      omega (arith, r.place, position_monotone z i (back_first flags top (i + 1)) (omega arith))

  -- the next height of a front part is a stop
  pub front_stop : (h last most at m : ℕ) → FrontReached h last most → get_or flags (h + 1) false ≡ true → at ≡ position z (h + 1) → m ≡ max most (at - last) → FrontReached (h + 1) at m
  front_stop h last most at m r e a n =
      let next = (rw (← add-one h) at (front_flagged flags h)) e in
      record { place = a ∙ ap (position z) (sym next.0); apart = omega (arith, r.place, r.apart, next.1 (position z)) }

  -- it is none
  pub front_other : (h last most : ℕ) → FrontReached h last most → get_or flags (h + 1) false ≡ false → FrontReached (h + 1) last most
  front_other h last most r e =
      let same = (rw (← add-one h) at (front_unflagged flags h)) e in
      record { place = r.place ∙ ap (position z) (sym same.0); apart = r.apart ∙ ap (widest (position z)) (sym same.1) }

  -- the next height of a back part is a stop
  pub back_stop : (top i last most at m : ℕ) → i < top → BackReached top (i + 1) last most → get_or flags i false ≡ true → at ≡ position z i → m ≡ max most (last - at) → BackReached top i at m
  back_stop top i last most at m l r e a n =
      let next = rw (← add-one i) at (back_flagged flags top i l e) in
      record { place = a ∙ ap (position z) (sym next.0); apart = omega (arith, r.place, r.apart, next.1 (position z)) }

  -- it is none
  pub back_other : (top i last most : ℕ) → i < top → BackReached top (i + 1) last most → get_or flags i false ≡ false → BackReached top i last most
  back_other top i last most l r e =
      let same = rw (← add-one i) at (back_unflagged flags top i l e) in
      record { place = r.place ∙ ap (position z) (sym same.0); apart = r.apart ∙ ap (widest (position z)) (sym same.1) }
