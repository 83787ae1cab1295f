-- What an action links inside its aisle, and what a plan treads at the ends of the store.
use Prim.Native.Nat.{ℕ, zero, suc, ◌+◌, ◌-◌, ◌≤◌, ◌<◌}
use native.Mathlib.Omega.{arith}
use mathlib.Core.Path.{◌≡◌, refl, subst}
use mathlib.Core.Logic.{◌⊎◌, inl, inr}
use mathlib.Core.List.{List, [], ◌∷◌}
use mathlib.Core.Bool.{Bool, true, false, cond, ◌||◌}
use lib.Dec.{ltb, leb}
use lib.ListN.{length}
use borrow.Author.Tests.{ltb-true, leb-true, lt-ltb, le-leb, le-ltb, lt-leb}
use Rattle.rules.specs.declared.Layout.{Layout}
use Rattle.rules.specs.declared.Action.{Action}
use Rattle.rules.specs.declared.Action.TheVariants.{Void, Bottom, Top, Gap, Once, Twice}
use Rattle.rules.specs.declared.Passage.TheVariants.{P00}
use Rattle.rules.specs.Lists.{nth}
use Rattle.rules.specs.Store.{Point, Edge, along, front, back, start_of, end_of, back_height, InStore}
use Rattle.rules.specs.Plans.{Plan, WellFormed, Fits, action_at, passage_at, aisle_treads, back_treads, front_treads, multiplicity, entered}
use Rattle.rules.specs.Lawful.{Trodden, Touched, Linked, here, LawfulAt}
use Rattle.tours.proofs.Basics.{split_at, or-true, true_not_false, false_not_true}
use Rattle.tours.proofs.Links.{linked_trans, edge_forth, edge_back}

-- the crossings of aisle j, and the point of it at height k
abbrev pub front_of : ℕ → Point
front_of j = record { aisle = j; height = 0 }

-- lawful with the depot at the front
abbrev pub LawfulFront : Layout → Plan → Type 0
LawfulFront z plan = LawfulAt (front_of z.depot) z plan

abbrev pub back_of : Layout → ℕ → Point
back_of z j = record { aisle = j; height = suc z.cells }

abbrev pub point_at : ℕ → ℕ → Point
point_at j k = record { aisle = j; height = k }

-- the edges of the first a aisles and of the first p passages
abbrev pub Seen : ℕ → ℕ → Edge → Type 0
Seen a p (along j k) = j ≤ a
Seen a p (front j) = j ≤ p
Seen a p (back j) = j ≤ p

-- the actions that tread the whole aisle
abbrev pub once_or_twice : Action → Bool
once_or_twice Void = false
once_or_twice (Bottom i) = false
once_or_twice (Top i) = false
once_or_twice (Gap h i) = false
once_or_twice Once = true
once_or_twice Twice = true

cond_true : (b : Bool) → 0 < cond b 2 0 → b ≡ true
cond_true true h = refl
cond_true false h = absurd (omega arith)

either_true : (a b : Bool) → a || b ≡ true → (a ≡ true) ⊎ (b ≡ true)
either_true true b h = inl refl
either_true false b h = inr h

gap_trodden : (h i k : ℕ) → 0 < aisle_treads (Gap h i) k → (k < h) ⊎ (i ≤ k)
gap_trodden h i k t = elim (either_true (ltb k h) (leb i k) (cond_true (ltb k h || leb i k) t))
    [ inl p ↦ inl (ltb-true k h p) | inr p ↦ inr (leb-true i k p) ]

-- the edges that BOTTOM, TOP and GAP tread
pub bottom_treads : (i k : ℕ) → k < i → 0 < aisle_treads (Bottom i) k
bottom_treads i k l = rw (lt-ltb k i l) (omega arith)

pub top_treads : (i k : ℕ) → i ≤ k → 0 < aisle_treads (Top i) k
top_treads i k l = rw (le-leb i k l) (omega arith)

pub gap_front : (h i k : ℕ) → k < h → 0 < aisle_treads (Gap h i) k
gap_front h i k l = rw (lt-ltb k h l) (omega arith)

pub gap_back : (h i k : ℕ) → i ≤ k → 0 < aisle_treads (Gap h i) k
gap_back h i k l = rw (le-leb i k l, or-true (ltb k h)) (omega arith)

-- the edge of an aisle that an action leaves untrodden; none under ONCE and TWICE
pub untrodden : (cells : ℕ) (a : Action) → Fits cells a → once_or_twice a ≡ false → (k : ℕ) × (k ≤ cells) × (aisle_treads a k ≡ 0)
untrodden cells Void f e = (0, omega arith, refl)
untrodden cells (Bottom i) f e = (i, f.1, rw (le-ltb i i (omega arith)))
untrodden cells (Top i) f e = (i - 1, omega arith, rw (lt-leb i (i - 1) (omega arith)))
untrodden cells (Gap h i) f e = (h, omega arith, rw (le-ltb h h (omega arith), lt-leb i h f.1))
untrodden cells Once f e = absurd (true_not_false e)
untrodden cells Twice f e = absurd (true_not_false e)

nth_past : {A : Type 0} (xs : List A) (j : ℕ) (d : A) → length xs < j → nth xs j d ≡ d
nth_past xs zero d l = refl
nth_past [] (suc j) d l = refl
nth_past (x ∷ xs) (suc zero) d l = absurd (omega arith)
nth_past (x ∷ xs) (suc (suc j)) d l = nth_past xs (suc j) d (omega arith)

module _ {z : Layout} {plan : Plan} (wf : WellFormed z plan) where
  -- behind the last aisle nothing is trodden
  pub passage_past : (j : ℕ) → z.aisles ≤ j → passage_at plan j ≡ P00
  unfolding passage_at
  passage_past j l = let e = wf.passages in nth_past plan.passages j P00 (omega arith)

  pub action_past : (j : ℕ) → z.aisles < j → action_at plan j ≡ Void
  unfolding action_at
  action_past j l = let e = wf.aisles in nth_past plan.actions j Void (omega arith)

  -- before the first aisle no edge of the store has been seen, behind the last one all have
  pub none_seen : (e : Edge) → Trodden z (multiplicity plan) e → Seen 0 0 e → ⊥
  unfolding Trodden InStore
  none_seen (along j k) t seen = omega arith
  none_seen (front j) t seen = omega arith
  none_seen (back j) t seen = omega arith

  pub all_seen : (e : Edge) → Trodden z (multiplicity plan) e → Seen z.aisles z.aisles e
  unfolding Trodden InStore
  all_seen (along j k) t = t.0.1
  all_seen (front j) t = omega arith
  all_seen (back j) t = omega arith

  -- a trodden passage is one of the store's
  treads_inside : (j : ℕ) → 0 < front_treads (passage_at plan j) + back_treads (passage_at plan j) → j < z.aisles
  treads_inside j t = elim (split_at j z.aisles) [
    | inl l ↦ l
    | inr l ↦ absurd (let h = rw (passage_past j l) at t in omega arith)
  ]

  pub front_edge : (j : ℕ) → 1 ≤ j → 0 < front_treads (passage_at plan j) → Trodden z (multiplicity plan) (front j)
  unfolding Trodden InStore multiplicity
  front_edge j low t = ((low, treads_inside j (omega arith)), t)

  pub back_edge : (j : ℕ) → 1 ≤ j → 0 < back_treads (passage_at plan j) → Trodden z (multiplicity plan) (back j)
  unfolding Trodden InStore multiplicity
  back_edge j low t = ((low, treads_inside j (omega arith)), t)

  -- a trodden passage links the crossings on its two sides
  pub front_over : (j : ℕ) → 1 ≤ j → 0 < front_treads (passage_at plan j)
      → Linked z (multiplicity plan) (front_of (suc j)) (front_of j)
  unfolding start_of end_of
  front_over j low t = edge_forth (front j) (front_edge j low t)

  pub back_over : (j : ℕ) → 1 ≤ j → 0 < back_treads (passage_at plan j)
      → Linked z (multiplicity plan) (back_of z (suc j)) (back_of z j)
  unfolding start_of end_of back_height
  back_over j low t = edge_forth (back j) (back_edge j low t)

  -- an edge that the action of an aisle of the store treads is trodden
  trodden_along : (j : ℕ) → 1 ≤ j → j ≤ z.aisles → (k : ℕ) → k ≤ z.cells → 0 < aisle_treads (action_at plan j) k
      → Trodden z (multiplicity plan) (along j k)
  unfolding Trodden InStore multiplicity
  trodden_along j low high k l t = ((low, high, l), t)

  -- the edges below height i link their points to the front crossing
  front_part_lem : (j : ℕ) → 1 ≤ j → j ≤ z.aisles → (i : ℕ) → i ≤ suc z.cells
      → ((k : ℕ) → k < i → 0 < aisle_treads (action_at plan j) k)
      → (k : ℕ) → k ≤ i → Linked z (multiplicity plan) (front_of j) (point_at j k)
  unfolding start_of end_of
  front_part_lem j low high i l t zero h = here
  front_part_lem j low high i l t (suc k) h =
      linked_trans
      (front_part_lem j low high i l t k (omega arith))
      (edge_back (along j k) (trodden_along j low high k (omega arith) (t k h)))

  -- the edges from height i on link their points to the back crossing
  back_part_lem : (j : ℕ) → 1 ≤ j → j ≤ z.aisles → (i : ℕ)
      → ((k : ℕ) → i ≤ k → 0 < aisle_treads (action_at plan j) k)
      → (n k : ℕ) → k + n ≡ suc z.cells → i ≤ k → Linked z (multiplicity plan) (back_of z j) (point_at j k)
  unfolding start_of end_of
  back_part_lem j low high i t zero k e h =
      let p : k ≡ suc z.cells = omega arith in rw p here
  back_part_lem j low high i t (suc n) k e h =
      linked_trans
      (back_part_lem j low high i t n (suc k) (omega arith) (omega arith))
      (edge_forth (along j k) (trodden_along j low high k (omega arith) (t k h)))

  -- the points of an aisle from which the action leads to the front crossing, the back crossing or both
  abbrev pub Reached : Action → ℕ → Point → Type 0
  Reached Void j x = ⊥
  Reached (Bottom i) j x = Linked z (multiplicity plan) (front_of j) x
  Reached (Top i) j x = Linked z (multiplicity plan) (back_of z j) x
  Reached (Gap h i) j x = Linked z (multiplicity plan) (front_of j) x ⊎ Linked z (multiplicity plan) (back_of z j) x
  Reached Once j x = Linked z (multiplicity plan) (front_of j) x
  Reached Twice j x = Linked z (multiplicity plan) (front_of j) x

  module _ (j : ℕ) (low : 1 ≤ j) (high : j ≤ z.aisles) where
    -- an aisle that is trodden all along links its crossings
    pub whole_aisle : ((k : ℕ) → 0 < aisle_treads (action_at plan j) k) → (k : ℕ) → k ≤ suc z.cells
        → Linked z (multiplicity plan) (front_of j) (point_at j k)
    whole_aisle t k l = front_part_lem j low high (suc z.cells) (omega arith) (λ n h. t n) k l

    -- every trodden edge of an aisle begins at a point that the action links to a crossing
    pub reached : (a : Action) → action_at plan j ≡ a → (k : ℕ) → k ≤ z.cells → 0 < aisle_treads a k → Reached a j (point_at j k)
    reached Void e k l t = omega arith
    reached (Bottom i) e k l t =
        let f = subst (Fits z.cells) e (wf.fits j) in
        let h = ltb-true k i (cond_true (ltb k i) t) in
        front_part_lem j low high i (omega arith) (λ n g. rw e (bottom_treads i n g)) k (omega arith)
    reached (Top i) e k l t =
        let h = leb-true i k (cond_true (leb i k) t) in
        back_part_lem j low high i (λ n g. rw e (top_treads i n g)) (suc z.cells - k) k (omega arith) h
    reached (Gap h i) e k l t = elim (gap_trodden h i k t) [
      | inl g ↦
          let f = subst (Fits z.cells) e (wf.fits j) in
          inl (front_part_lem j low high h (omega arith) (λ n g. rw e (gap_front h i n g)) k (omega arith))
      | inr g ↦ inr (back_part_lem j low high i (λ n g. rw e (gap_back h i n g)) (suc z.cells - k) k (omega arith) g)
    ]
    reached Once e k l t = whole_aisle (λ n. rw e (omega arith)) k (omega arith)
    reached Twice e k l t = whole_aisle (λ n. rw e (omega arith)) k (omega arith)

    -- an entered aisle has a trodden edge
    pub entered_edge : (a : Action) → action_at plan j ≡ a → entered a ≡ true → (e : Edge) × Trodden z (multiplicity plan) e
    entered_edge Void e h = absurd (false_not_true h)
    entered_edge (Bottom i) e h =
        let f = subst (Fits z.cells) e (wf.fits j) in
        (along j 0, trodden_along j low high 0 (omega arith) (rw e (bottom_treads i 0 (omega arith))))
    entered_edge (Top i) e h =
        let f = subst (Fits z.cells) e (wf.fits j) in
        (along j z.cells, trodden_along j low high z.cells (omega arith) (rw e (top_treads i z.cells (omega arith))))
    entered_edge (Gap g i) e h =
        let f = subst (Fits z.cells) e (wf.fits j) in
        (along j 0, trodden_along j low high 0 (omega arith) (rw e (gap_front g i 0 (omega arith))))
    entered_edge Once e h = (along j 0, trodden_along j low high 0 (omega arith) (rw e (omega arith)))
    entered_edge Twice e h = (along j 0, trodden_along j low high 0 (omega arith) (rw e (omega arith)))

    -- the first edge of an aisle touches the front crossing, the last one the back crossing
    pub front_touched : 0 < aisle_treads (action_at plan j) 0 → Touched z (multiplicity plan) (front_of j)
    unfolding Touched start_of
    front_touched t = (along j 0, trodden_along j low high 0 (omega arith) t, inl refl)

    pub back_touched : 0 < aisle_treads (action_at plan j) z.cells → Touched z (multiplicity plan) (back_of z j)
    unfolding Touched end_of
    back_touched t = (along j z.cells, trodden_along j low high z.cells (omega arith) t, inr refl)
