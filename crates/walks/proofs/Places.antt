-- The numbers of points and edges: a step leads from one point's to another's, along the edge that has its letter's place.
use Prim.Native.Nat.{ℕ, suc, ◌≤◌, ◌<◌}
use native.Mathlib.Omega.{arith}
use mathlib.Core.Path.{◌≡◌, refl, sym, ap, ◌∙◌, subst}
use mathlib.Core.Logic.{◌⊎◌, inl, inr}
use mathlib.Core.List.{List}
use mathlib.Core.Bool.{Bool, true, false, ◌&&◌, ◌||◌}
use lib.Dec.{ltb, eqb}
use lib.ListN.{get_or}
use borrow.Author.Tests.{ltb-true, eqb-true, lt-ltb, le-ltb}
use Rattle.rules.specs.declared.Layout.{Layout}
use Rattle.rules.specs.declared.Direction.{Direction}
use Rattle.rules.specs.declared.Direction.TheVariants.{Back, Front, Left, Right}
use Rattle.rules.specs.Store.{Point, Edge, along, front, back, InStore, back_height}
use Rattle.rules.specs.Walks.{can_step, step_to, step_edge, is_crossing}
use Rattle.closedwalks.specs.Ways.{PointOf}
use Rattle.closedwalks.proofs.Splits.{none_or_some}
use Rattle.closedwalks.proofs.Steps.{both_true, true_both, level_crossing, stepped}
use Rattle.treads.specs.Treads.{spot, slot_of, left_of, Charted}
use Rattle.treads.proofs.Places.{left_in}
use Rattle.flood.specs.Points.{next_by}
use Rattle.walks.specs.Letters.{slot_by}

-- a crossing is at the front or at the back
crossing_height : (z : Layout) (x : Point) → is_crossing z x ≡ true → ((x.height ≡ 0) × (eqb x.height 0 ≡ true)) ⊎ ((x.height ≡ suc z.cells) × (eqb x.height 0 ≡ false))
unfolding is_crossing back_height
crossing_height z x c = go (eqb x.height 0) refl
  where
    go : (b : Bool) → eqb x.height 0 ≡ b → ((x.height ≡ 0) × (eqb x.height 0 ≡ true)) ⊎ ((x.height ≡ suc z.cells) × (eqb x.height 0 ≡ false))
    go true e = inl (eqb-true x.height 0 e, e)
    go false e = inr (eqb-true x.height (suc z.cells) (subst (λ (t : Bool). (t || eqb x.height (suc z.cells)) ≡ true) e c), e)

module _ (z : Layout) (wide : z.aisles ≤ 16) (deep : z.cells ≤ 24) where
  module _ (x : Point) (p : PointOf z x) where
    -- a letter's edge has the letter's place
    pub letter_slot : (d : Direction) → can_step z x d ≡ true → slot_of z (step_edge x d) ≡ slot_by d (spot x)
    unfolding can_step step_edge spot
    letter_slot Back c = refl
    letter_slot Front c = let h = ltb-true 0 x.height c in omega arith
    letter_slot Left c =
        let t = both_true (is_crossing z x) (ltb 1 x.aisle) c in
        let a = ltb-true 1 x.aisle t.1 in
        elim (crossing_height z x t.0) [ inl h ↦ rw h.1 (omega (arith, h.0)) | inr h ↦ rw h.1 (omega (arith, h.0)) ]
    letter_slot Right c =
        let t = both_true (is_crossing z x) (ltb x.aisle z.aisles) c in
        elim (crossing_height z x t.0) [ inl h ↦ rw h.1 (omega (arith, h.0)) | inr h ↦ rw h.1 (omega (arith, h.0)) ]

    -- its end has the letter's number
    pub letter_next : (d : Direction) → can_step z x d ≡ true → spot (step_to x d) ≡ next_by d (spot x)
    unfolding can_step step_to spot
    letter_next Back c = omega arith
    letter_next Front c = let h = ltb-true 0 x.height c in omega arith
    letter_next Left c = let a = ltb-true 1 x.aisle (both_true (is_crossing z x) (ltb 1 x.aisle) c).1 in omega arith
    letter_next Right c = omega arith

    -- where an edge has a letter's place, the letter can be taken
    pub slot_letter : (d : Direction) (e : Edge) → InStore z e → slot_of z e ≡ slot_by d (spot x) → can_step z x d ≡ true
    unfolding can_step spot InStore back_height
    slot_letter Back (along j k) h e = let t = p.high in lt-ltb x.height (suc z.cells) (omega arith)
    slot_letter Back (front j) h e = absurd (let t = p.high in let l = p.last in omega arith)
    slot_letter Back (back j) h e = absurd (let t = p.high in let l = p.last in omega arith)
    slot_letter Front (along j k) h e = let t = p.high in lt-ltb 0 x.height (let f = p.first in omega arith)
    slot_letter Front (front j) h e = absurd (let t = p.high in let l = p.last in omega arith)
    slot_letter Front (back j) h e = absurd (let t = p.high in let l = p.last in omega arith)
    slot_letter Left (along j k) h e = absurd (let f = p.first in omega arith)
    slot_letter Left (front j) h e = let t = p.high in true_both (is_crossing z x) (ltb 1 x.aisle) (level_crossing z x true (omega arith)).0 (lt-ltb 1 x.aisle (omega arith))
    slot_letter Left (back j) h e = let t = p.high in true_both (is_crossing z x) (ltb 1 x.aisle) (level_crossing z x false (omega arith)).0 (lt-ltb 1 x.aisle (omega arith))
    slot_letter Right (along j k) h e = absurd (let f = p.first in omega arith)
    slot_letter Right (front j) h e =
        let t = p.high in true_both (is_crossing z x) (ltb x.aisle z.aisles) (level_crossing z x true (omega arith)).0 (lt-ltb x.aisle z.aisles (omega arith))
    slot_letter Right (back j) h e =
        let t = p.high in true_both (is_crossing z x) (ltb x.aisle z.aisles) (level_crossing z x false (omega arith)).0 (lt-ltb x.aisle z.aisles (omega arith))

    module _ (left : List ℕ) (c : Charted z left) (d : Direction) where
      -- a letter can be taken, and its edge is left
      abbrev pub Free : Type 0
      Free = (can_step z x d ≡ true) × (0 < left_of z left (step_edge x d))

      -- the treads of a letter stand at its place
      pub free_slot : can_step z x d ≡ true → left_of z left (step_edge x d) ≡ get_or left (slot_by d (spot x)) 0
      free_slot s = left_in z left (step_edge x d) (stepped z x p d s).edge ∙ ap (λ (i : ℕ). get_or left i 0) (letter_slot d s)

      -- exactly where its place has treads
      pub slot_free : 0 < get_or left (slot_by d (spot x)) 0 → Free
      slot_free h =
          let t = c.edge (slot_by d (spot x)) h in
          let s = slot_letter d t.0 t.1 t.2 in
          (s, omega (arith, free_slot s))

      -- so a letter is free exactly if its place has treads
      pub free_test : (can_step z x d && ltb 0 (left_of z left (step_edge x d))) ≡ ltb 0 (get_or left (slot_by d (spot x)) 0)
      free_test = go (none_or_some (get_or left (slot_by d (spot x)) 0)) (can_step z x d) refl
        where
          go : ((get_or left (slot_by d (spot x)) 0 ≡ 0) ⊎ (0 < get_or left (slot_by d (spot x)) 0)) → (b : Bool) → can_step z x d ≡ b
              → (b && ltb 0 (left_of z left (step_edge x d))) ≡ ltb 0 (get_or left (slot_by d (spot x)) 0)
          go (inl n) false s = sym (le-ltb 0 (get_or left (slot_by d (spot x)) 0) (omega arith))
          go (inl n) true s = ap (ltb 0) (free_slot s)
          go (inr h) false s = absurd (let bad : ◌≡◌ {A = ℕ} 0 1 = cc (slot_free h).0 in omega arith)
          go (inr h) true s = ap (ltb 0) (free_slot s)
