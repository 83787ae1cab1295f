-- The numbers of points and edges: each point of the store and each of its edges has its own.
use Prim.Native.Nat.{ℕ, ◌+◌, ◌*◌, ◌-◌, ◌/◌, ◌%◌, ◌≤◌, ◌<◌}
use native.Mathlib.Omega.{arith}
use mathlib.Core.Path.{◌≡◌, refl, sym, ap, ap₂, ◌∙◌}
use mathlib.Core.Logic.{◌⊎◌, inl, inr}
use mathlib.Core.List.{List}
use mathlib.Core.Bool.{Bool, true, false, cond, ◌&&◌}
use lib.Dec.{ltb, leb}
use lib.ListN.{length, get_or, set}
use lib.Seq.{get_or-set_same, get_or-set_other}
use borrow.Author.Tests.{ltb-true, leb-true, lt-ltb, le-leb}
use Rattle.rules.specs.declared.Layout.{Layout}
use Rattle.rules.specs.Store.{Point, Edge, along, front, back, start_of, end_of, InStore, back_height}
use Rattle.rules.specs.Lawful.{Trodden}
use Rattle.rules.specs.Walks.{one}
use Rattle.rules.specs.FirstWalk.{without}
use Rattle.closedwalks.specs.Ways.{PointOf}
use Rattle.closedwalks.proofs.Steps.{both_true, edge_split}
use Rattle.treads.specs.Treads.{spot, point_at, slot_of, in_store, left_of, Charted}
use Rattle.flood.specs.Flooded.{Ranged}

-- the point with a number has that number
pub spot_at_lem : (n : ℕ) → spot (point_at n) ≡ n
unfolding spot point_at
spot_at_lem n = omega arith

-- one edge after its start's number, or across
pub edge_kind : (z : Layout) (e : Edge)
    → ((slot_of z e ≡ spot (start_of z e)) × (spot (end_of z e) ≡ spot (start_of z e) + 1)) ⊎ ((slot_of z e ≡ 442 + spot (start_of z e)) × (spot (end_of z e) ≡ spot (start_of z e) + 26))
unfolding spot start_of end_of back_height
edge_kind z (along j k) = inl (refl, omega arith)
edge_kind z (front j) = inr (omega arith, omega arith)
edge_kind z (back j) = inr (omega arith, omega arith)

-- the test says that an edge is one of the store
pub in_store_lem : (z : Layout) (e : Edge) → in_store z e ≡ true → InStore z e
unfolding in_store InStore
in_store_lem z (along j k) h =
    let t = both_true (ltb 0 j && leb j z.aisles) (leb k z.cells) h in
    let u = both_true (ltb 0 j) (leb j z.aisles) t.0 in
    (ltb-true 0 j u.0, leb-true j z.aisles u.1, leb-true k z.cells t.1)
in_store_lem z (front j) h = let u = both_true (ltb 0 j) (ltb j z.aisles) h in (ltb-true 0 j u.0, ltb-true j z.aisles u.1)
in_store_lem z (back j) h = let u = both_true (ltb 0 j) (ltb j z.aisles) h in (ltb-true 0 j u.0, ltb-true j z.aisles u.1)

-- and it holds of each of them
pub store_in : (z : Layout) (e : Edge) → InStore z e → in_store z e ≡ true
unfolding in_store InStore
store_in z (along j k) h = rw (lt-ltb 0 j h.0, le-leb j z.aisles h.1, le-leb k z.cells h.2)
store_in z (front j) h = rw (lt-ltb 0 j h.0, lt-ltb j z.aisles h.1)
store_in z (back j) h = rw (lt-ltb 0 j h.0, lt-ltb j z.aisles h.1)

-- the treads of an edge of the store
pub left_in : (z : Layout) (left : List ℕ) (e : Edge) → InStore z e → left_of z left e ≡ get_or left (slot_of z e) 0
unfolding left_of
left_in z left e h = rw (store_in z e h)

-- an edge of the store whose place has treads is trodden
pub trodden_in : (z : Layout) (left : List ℕ) (e : Edge) → InStore z e → 0 < get_or left (slot_of z e) 0 → Trodden z (left_of z left) e
unfolding Trodden
trodden_in z left e i h = (i, omega (arith, left_in z left e i))

-- and a trodden edge has them
pub trodden_out : (z : Layout) (left : List ℕ) (e : Edge) → Trodden z (left_of z left) e → InStore z e × (0 < get_or left (slot_of z e) 0)
unfolding Trodden
trodden_out z left e t = (t.0, omega (arith, t.1, left_in z left e t.0))

-- fewer edges are charted too
pub charted_fewer : (z : Layout) (left rest : List ℕ) → Charted z left → length rest ≡ length left → ((i : ℕ) → 0 < get_or rest i 0 → 0 < get_or left i 0) → Charted z rest
charted_fewer z left rest c s h = record { size = s ∙ c.size; edge = λ i p. c.edge i (h i p) }

module _ (z : Layout) (wide : z.aisles ≤ 16) (deep : z.cells ≤ 24) where
  -- the point with a point's number is that point
  pub spot_point : (x : Point) → PointOf z x → point_at (spot x) ≡ x
  unfolding spot point_at
  spot_point x p =
      let high = p.high in
      let a : (26 * x.aisle + x.height) / 26 ≡ x.aisle = omega arith in
      let h : (26 * x.aisle + x.height) % 26 ≡ x.height = omega arith in
      λ i. record { aisle = a i; height = h i }

  -- no two points have the same number
  pub spot_same : (x y : Point) → PointOf z x → PointOf z y → spot x ≡ spot y → x ≡ y
  spot_same x y p q e = sym (spot_point x p) ∙ ap point_at e ∙ spot_point y q

  -- where a point's number lies
  pub spot_range : (x : Point) → PointOf z x → (26 ≤ spot x) × (spot x < 26 * (z.aisles + 1)) × (spot x < 442)
  unfolding spot
  spot_range x p = let f = p.first in let l = p.last in let h = p.high in (omega arith, omega arith, omega arith)

  -- the ends of an edge are points of the store
  pub start_point : (e : Edge) → InStore z e → PointOf z (start_of z e)
  unfolding InStore start_of back_height
  start_point (along j k) h = record { first = h.0; last = h.1; high = omega arith }
  start_point (front j) h = record { first = h.0; last = omega arith; high = omega arith }
  start_point (back j) h = record { first = h.0; last = omega arith; high = omega arith }

  -- its other end
  pub end_point : (e : Edge) → InStore z e → PointOf z (end_of z e)
  unfolding InStore end_of back_height
  end_point (along j k) h = record { first = h.0; last = h.1; high = omega arith }
  end_point (front j) h = record { first = omega arith; last = h.1; high = omega arith }
  end_point (back j) h = record { first = omega arith; last = h.1; high = omega arith }

  -- no two edges have the same place
  pub slot_same : (e f : Edge) → InStore z e → InStore z f → slot_of z e ≡ slot_of z f → e ≡ f
  unfolding InStore
  slot_same (along i h) (along j k) p q e = let a : i ≡ j = omega arith in let b : h ≡ k = omega arith in ap₂ along a b
  slot_same (along i h) (front j) p q e = absurd (omega arith)
  slot_same (along i h) (back j) p q e = absurd (omega arith)
  slot_same (front i) (along j k) p q e = absurd (omega arith)
  slot_same (front i) (front j) p q e = let a : i ≡ j = omega arith in ap front a
  slot_same (front i) (back j) p q e = absurd (omega arith)
  slot_same (back i) (along j k) p q e = absurd (omega arith)
  slot_same (back i) (front j) p q e = absurd (omega arith)
  slot_same (back i) (back j) p q e = let a : i ≡ j = omega arith in ap back a

  -- where an edge's place lies
  pub slot_range : (e : Edge) → InStore z e → slot_of z e < 884
  unfolding InStore
  slot_range (along j k) h = omega arith
  slot_range (front j) h = omega arith
  slot_range (back j) h = omega arith

  -- one tread less of an edge
  pub left_without : (left : List ℕ) (e : Edge) (v : ℕ) → InStore z e → slot_of z e < length left → v + 1 ≡ get_or left (slot_of z e) 0
      → left_of z (set left (slot_of z e) v) ≡ without (left_of z left) e
  unfolding without left_of
  left_without left e v h low n = λ i f. point f i
    where
      point : (f : Edge) → left_of z (set left (slot_of z e) v) f ≡ left_of z left f - one e f
      point f = go (in_store z f) refl (edge_split e f)
        where
          go : (b : Bool) → in_store z f ≡ b → ((e ≡ f) × (one e f ≡ 1)) ⊎ ((one e f ≡ 0) × (e ≡ f → ⊥))
              → cond b (get_or (set left (slot_of z e) v) (slot_of z f) 0) 0 ≡ cond b (get_or left (slot_of z f) 0) 0 - one e f
          go false q s = omega arith
          go true q (inl s) =
              let after = ap (λ (k : Edge). get_or (set left (slot_of z e) v) (slot_of z k) 0) s.0 in
              let before = ap (λ (k : Edge). get_or left (slot_of z k) 0) s.0 in
              omega (arith, get_or-set_same left (slot_of z e) v 0 low, s.1)
          go true q (inr s) =
              omega (arith, s.0, get_or-set_other left (slot_of z e) (slot_of z f) v 0 (λ t. s.1 (slot_same e f h (in_store_lem z f q) (sym t))))

  -- the edges of the store lie among its points
  pub charted_range : (left : List ℕ) → Charted z left → Ranged left (26 * (z.aisles + 1))
  unfolding InStore
  charted_range left c =
      record {
        size = c.size;
        top = omega arith;
        along = λ p low h. let t = c.edge p h in ups p t.0 t.1 t.2 low;
        across = λ p h. let t = c.edge (442 + p) h in rights p t.0 t.1 t.2;
      }
    where
      ups : (p : ℕ) (e : Edge) → InStore z e → slot_of z e ≡ p → p < 442 → (26 ≤ p) × (p + 1 < 26 * (z.aisles + 1))
      ups p (along j k) h e low = (omega arith, omega arith)
      ups p (front j) h e low = absurd (omega arith)
      ups p (back j) h e low = absurd (omega arith)

      rights : (p : ℕ) (e : Edge) → InStore z e → slot_of z e ≡ 442 + p → (26 ≤ p) × (p + 26 < 26 * (z.aisles + 1))
      rights p (along j k) h e = absurd (omega arith)
      rights p (front j) h e = (omega arith, omega arith)
      rights p (back j) h e = (omega arith, omega arith)
