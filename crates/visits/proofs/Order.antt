-- The picks that a walk meets are those in its order, where at the number of each point stands the pick made there.
-- A pick that is met is taken out: so what stands in the list is always what is left of the picks.
use Prim.Native.Nat.{ℕ, ◌+◌, ◌*◌, ◌≤◌}
use native.Mathlib.Omega.{arith}
use mathlib.Core.Path.{◌≡◌, refl, sym, ap, ap₂, ◌∙◌, subst}
use mathlib.Core.List.{List, [], ◌∷◌, ◌++◌}
use mathlib.Core.Bool.{Bool, true, false, not, ◌&&◌, true≢false}
use lib.ListN.{length, get_or, set, length-set}
use lib.Seq.{get_or-set_same, get_or-set_other}
use borrow.Author.Tests.{ltb-true}
use Rattle.rules.specs.declared.Layout.{Layout}
use Rattle.rules.specs.declared.Direction.{Direction}
use Rattle.rules.specs.declared.Direction.TheVariants.{Back, Front, Left, Right}
use Rattle.rules.specs.declared.Pick.{Pick}
use Rattle.rules.specs.Lists.{select}
use Rattle.rules.specs.Store.{Point, same_point}
use Rattle.rules.specs.Walks.{Walk, can_step, step_to, walk_points}
use Rattle.rules.specs.Page.{picked_at, pick_cell, in_order_of}
use Rattle.rules.proofs.Lists.{select_none, select_both, select_implied}
use Rattle.closedwalks.specs.Ways.{PointOf, Leads}
use Rattle.rules.proofs.WalkOrder.{same_point_lem, point_same}
use Rattle.closedwalks.proofs.Steps.{stepped}
use Rattle.std.proofs.Common.{Option, None, option_to_list}
use Rattle.flood.specs.Points.{next_by}
use Rattle.visits.specs.Numbered.{PointNumber, StaysIn, noted_at, picks_along}

-- the number of a point
abbrev pub spot_at : Point → ℕ
spot_at p = 26 * p.aisle + p.height

-- a point of the largest store
pub record PointWithin (p : Point) : Type 0 where
  pub aisle : (1 ≤ p.aisle) × (p.aisle ≤ 16)
  pub height : p.height ≤ 25

-- its number is that of a point
pub point_number : (p : Point) → PointWithin p → PointNumber (spot_at p)
point_number p w = let a = w.aisle in let h = w.height in (omega arith, omega arith)

-- no two points have the same number
pub spot_same : (p q : Point) → PointWithin p → PointWithin q → spot_at p ≡ spot_at q → p ≡ q
spot_same p q v w e =
    let h = v.height in
    let k = w.height in
    let a : p.aisle ≡ q.aisle = omega arith in
    let b : p.height ≡ q.height = omega arith in
    λ i. record { aisle = a i; height = b i }

-- what is left of the picks stands in the list, each at its point
pub record Standing (noted : List (Option Pick)) (picks : List Pick) : Type 0 where
  pub size : length noted ≡ 442
  pub here : (p : Point) → PointWithin p → noted_at noted (spot_at p) ≡ select (picked_at p) picks

-- a pick is made at one point only
one_point : (p q : Point) → same_point p q ≡ false → (x : Pick) → picked_at q x ≡ true → not (picked_at p x) ≡ true
unfolding picked_at
one_point p q n x t = go (same_point p (pick_cell x)) refl
  where
    go : (b : Bool) → same_point p (pick_cell x) ≡ b → not b ≡ true
    go false e = refl
    go true e = absurd (true≢false (sym (point_same p q (same_point_lem p (pick_cell x) e ∙ sym (same_point_lem q (pick_cell x) t))) ∙ n))

-- none of those that are not made at a point is made there
none_here : (t : Pick → Bool) (picks : List Pick) → select t (select (λ x. not (t x)) picks) ≡ []
none_here t picks = sym (select_both (λ x. not (t x)) t picks) ∙ select_none (λ x. not (t x) && t x) (λ x. never (t x)) picks
  where
    never : (b : Bool) → (not b && b) ≡ false
    never true = refl
    never false = refl

-- taking the pick at a point out leaves the picks that are not made there
standing_next : (noted : List (Option Pick)) (picks : List Pick) (p : Point) → PointWithin p → Standing noted picks → Standing (set noted (spot_at p) None) (select (λ x. not (picked_at p x)) picks)
standing_next noted picks p v s = record { size = length-set noted (spot_at p) None ∙ s.size; here = λ q w. go q w (same_point p q) refl }
  where
    left : List Pick
    left = select (λ x. not (picked_at p x)) picks

    go : (q : Point) → PointWithin q → (b : Bool) → same_point p q ≡ b → noted_at (set noted (spot_at p) None) (spot_at q) ≡ select (picked_at q) left
    go q w true e =
        let at_p : get_or (set noted (spot_at p) None) (spot_at p) None ≡ None = get_or-set_same noted (spot_at p) None None (omega (arith, s.size, point_number p v)) in
        subst (λ (r : Point). noted_at (set noted (spot_at p) None) (spot_at r) ≡ select (picked_at r) left) (same_point_lem p q e)
        (ap option_to_list at_p ∙ sym (none_here (picked_at p) picks))
    go q w false e =
        let other : spot_at q ≡ spot_at p → ⊥ = λ f. true≢false (sym (point_same p q (sym (spot_same q p w v f))) ∙ e) in
        ap option_to_list (get_or-set_other noted (spot_at p) (spot_at q) None None other)
        ∙ s.here q w
        ∙ sym (select_implied (picked_at q) (λ x. not (picked_at p x)) (one_point p q e) picks)

-- walks in a store
module _ (z : Layout) (wide : z.aisles ≤ 16) (deep : z.cells ≤ 24) where
  -- a point of the store is one of the largest store
  point_within : (x : Point) → PointOf z x → PointWithin x
  point_within x p = record { aisle = (p.first, omega (arith, p.last)); height = omega (arith, p.high) }

  -- the number of the point where a step ends
  next_number : (x : Point) → PointOf z x → (d : Direction) → can_step z x d ≡ true → spot_at (step_to x d) ≡ next_by d (spot_at x)
  unfolding step_to can_step
  next_number x p Back c = omega arith
  next_number x p Front c = let h = ltb-true 0 x.height c in omega arith
  next_number x p Left c = let h = p.first in omega arith
  next_number x p Right c = omega arith

  -- a walk stays in the store
  pub stays_in : (x y : Point) (walk : Walk) → PointOf z x → Leads z x walk y → StaysIn (spot_at x) walk
  stays_in x y [] p l = point_number x (point_within x p)
  stays_in x y (d ∷ walk) p l =
      let s = stepped z x p d l.0 in
      (point_number x (point_within x p), subst (λ (n : ℕ). StaysIn n walk) (next_number x p d l.0) (stays_in (step_to x d) y walk s.end l.1))

  -- and meets the picks in its order
  pub met_in_order : (x y : Point) (walk : Walk) → PointOf z x → Leads z x walk y → (noted : List (Option Pick)) (picks : List Pick) → Standing noted picks
      → picks_along (spot_at x) walk noted ≡ in_order_of (walk_points x walk) picks
  met_in_order x y [] p l noted picks s = refl
  met_in_order x y (d ∷ walk) p l noted picks s =
      let next = step_to x d in
      let o = (stepped z x p d l.0).end in
      let w = point_within next o in
      let n = spot_at next in
      let rest = met_in_order next y walk o l.1 (set noted n None) (select (λ t. not (picked_at next t)) picks) (standing_next noted picks next w s) in
      ap (λ (k : ℕ). noted_at noted k ++ picks_along k walk (set noted k None)) (sym (next_number x p d l.0)) ∙ ap₂ ◌++◌ (s.here next w) rest
