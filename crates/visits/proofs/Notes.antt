-- The picks noted at their cells: no two share a cell, so that at the number of each point stands the pick made there.
use Prim.Native.Nat.{ℕ, zero, suc, ◌<◌}
use native.Mathlib.Omega.{arith}
use mathlib.Core.Path.{◌≡◌, refl, sym, ap, ◌∙◌}
use mathlib.Core.List.{List, [], ◌∷◌, Memᴰ}
use mathlib.Core.Bool.{Bool, true, false, cond, true≢false}
use lib.ListN.{length, get_or, set, take, length-set}
use lib.Seq.{get_or-set_same, get_or-set_other}
use Rattle.rules.specs.declared.Pick.{Pick}
use Rattle.rules.specs.Lists.{select, Sorted}
use Rattle.rules.specs.Store.{Point, same_point}
use Rattle.rules.specs.Page.{pick_cell, picked_at}
use Rattle.rules.proofs.WalkOrder.{same_point_lem, point_same}
use Rattle.visits.specs.Visited.{Apart}
use Rattle.visits.specs.Numbered.{spot_of, noted_all, noted_at}
use Rattle.std.proofs.Common.{Option, Some, None, option_to_list}
use Rattle.visits.proofs.Order.{spot_at, PointWithin, point_number, spot_same, Standing}

-- the list keeps its length
pub noted_length : (xs : List Pick) (noted : List (Option Pick)) → length (noted_all xs noted) ≡ length noted
noted_length [] noted = refl
noted_length (x ∷ xs) noted = noted_length xs (set noted (spot_of x) (Some x)) ∙ length-set noted (spot_of x) (Some x)

-- one pick more is noted
pub noted_more : (xs : List Pick) (i : ℕ) (x : Pick) (noted : List (Option Pick)) → i < length xs
    → noted_all (take (suc i) xs) noted ≡ set (noted_all (take i xs) noted) (spot_of (get_or xs i x)) (Some (get_or xs i x))
noted_more [] i x noted h = absurd (omega arith)
noted_more (y ∷ xs) zero x noted h = refl
noted_more (y ∷ xs) (suc i) x noted h = noted_more xs i x (set noted (spot_of y) (Some y)) (omega arith)

-- what stands at a place of a list is a member
pub place_member : {A : Type 0} (xs : List A) (i : ℕ) (d : A) → i < length xs → Memᴰ (get_or xs i d) xs
place_member [] i d l = absurd (omega arith)
place_member (x ∷ xs) zero d l = Memᴰ.head refl
place_member (x ∷ xs) (suc i) d l = Memᴰ.tail (place_member xs i d (omega arith))

-- where no pick is noted the list is as it was
noted_other : (xs : List Pick) (noted : List (Option Pick)) (i : ℕ) → ((x : Pick) → Memᴰ x xs → i ≡ spot_of x → ⊥) → get_or (noted_all xs noted) i None ≡ get_or noted i None
noted_other [] noted i h = refl
noted_other (x ∷ xs) noted i h =
    noted_other xs (set noted (spot_of x) (Some x)) i (λ y m. h y (Memᴰ.tail m)) ∙ get_or-set_other noted (spot_of x) i (Some x) None (h x (Memᴰ.head refl))

-- nothing is selected where the test holds of no member
none_selected : (t : Pick → Bool) (xs : List Pick) → ((x : Pick) → Memᴰ x xs → t x ≡ false) → select t xs ≡ []
none_selected t [] h = refl
none_selected t (x ∷ xs) h = rw (h x (Memᴰ.head refl)) (none_selected t xs (λ y m. h y (Memᴰ.tail m)))

-- a pick's cell has the pick's number
cell_spot : (x : Pick) → spot_at (pick_cell x) ≡ spot_of x
unfolding pick_cell
cell_spot x = refl

-- what is noted at a point where nothing stood: the pick made there
module _ (p : Point) (v : PointWithin p) where
  noted_here : (xs : List Pick) → ((x : Pick) → Memᴰ x xs → PointWithin (pick_cell x)) → Sorted Apart xs → (noted : List (Option Pick)) → length noted ≡ 442 → get_or noted (spot_at p) None ≡ None
      → noted_at (noted_all xs noted) (spot_at p) ≡ select (picked_at p) xs
  unfolding picked_at Apart
  noted_here [] within apart noted size blank = ap option_to_list blank
  noted_here (x ∷ xs) within apart noted size blank =
      go (same_point p (pick_cell x)) refl (noted_here xs (λ y m. within y (Memᴰ.tail m)) apart.1 next (length-set noted (spot_of x) (Some x) ∙ size))
    where
      next : List (Option Pick)
      next = set noted (spot_of x) (Some x)

      its_cell : PointWithin (pick_cell x)
      its_cell = within x (Memᴰ.head refl)

      go : (b : Bool) → same_point p (pick_cell x) ≡ b → (get_or next (spot_at p) None ≡ None → noted_at (noted_all xs next) (spot_at p) ≡ select (picked_at p) xs)
          → noted_at (noted_all xs next) (spot_at p) ≡ cond b (x ∷ select (picked_at p) xs) (select (picked_at p) xs)
      go true t later =
          let same = same_point_lem p (pick_cell x) t in
          let spot : spot_at p ≡ spot_of x = ap spot_at same ∙ cell_spot x in
          let others : (y : Pick) → Memᴰ y xs → p ≡ pick_cell y → ⊥ = λ y m f. apart.0 y m (sym same ∙ f) in
          let elsewhere : (y : Pick) → Memᴰ y xs → spot_at p ≡ spot_of y → ⊥ = λ y m f. others y m (spot_same p (pick_cell y) v (within y (Memᴰ.tail m)) (f ∙ sym (cell_spot y))) in
          let stands : get_or next (spot_at p) None ≡ Some x =
          ap (λ (n : ℕ). get_or next n None) spot ∙ get_or-set_same noted (spot_of x) (Some x) None (omega (arith, size, spot, point_number p v))
          in
          let none : select (picked_at p) xs ≡ [] = none_selected (picked_at p) xs (λ y m. differs (same_point p (pick_cell y)) refl (others y m)) in
          ap option_to_list (noted_other xs next (spot_at p) elsewhere ∙ stands) ∙ ap (λ (l : List Pick). x ∷ l) (sym none)
        where
          differs : {q : Point} (b : Bool) → same_point p q ≡ b → (p ≡ q → ⊥) → b ≡ false
          differs {q} true e n = absurd (n (same_point_lem p q e))
          differs false e n = refl
      go false t later =
          let other : spot_at p ≡ spot_of x → ⊥ = λ f. true≢false (sym (point_same p (pick_cell x) (spot_same p (pick_cell x) v its_cell (f ∙ sym (cell_spot x)))) ∙ t) in
          later (get_or-set_other noted (spot_of x) (spot_at p) (Some x) None other ∙ blank)

-- the picks noted in a list where nothing stood
pub noted_standing : (picks : List Pick) (noted : List (Option Pick)) → ((x : Pick) → Memᴰ x picks → PointWithin (pick_cell x)) → Sorted Apart picks
    → length noted ≡ 442 → ((i : ℕ) → get_or noted i None ≡ None) → Standing (noted_all picks noted) picks
noted_standing picks noted within apart size blank =
    record { size = noted_length picks noted ∙ size; here = λ p v. noted_here p v picks within apart noted size (blank (spot_at p)) }
