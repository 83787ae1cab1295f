-- Lawful plans are accepted: from left to right, no step of a lawful plan leads to `dead`.
-- Where the crossings of an aisle are not linked so far, a set of points tells them apart that no trodden edge seen so far leaves.
use Prim.Native.Nat.{ℕ, zero, suc, ◌%◌, ◌≤◌, ◌<◌}
use native.Mathlib.Omega.{arith}
use native.Mathlib.Nat.{le_of_eq}
use mathlib.Core.Path.{◌≡◌, refl, sym, subst, ap, ◌∙◌}
use mathlib.Core.Logic.{inl, inr}
use mathlib.Core.Bool.{Bool, true, false, cond}
use lib.Dec.{ltb, leb, eqb}
use borrow.Author.Tests.{ltb-true, ltb-false, leb-true, leb-false, eqb-true, lt-ltb, le-ltb, le-leb, lt-leb}
use Rattle.rules.specs.declared.Layout.{Layout}
use Rattle.rules.specs.declared.Action.{Action}
use Rattle.rules.specs.declared.Action.TheVariants.{Void, Bottom, Top, Gap, Once, Twice}
use Rattle.rules.specs.declared.Passage.{Passage}
use Rattle.rules.specs.declared.Passage.TheVariants.{P00, P02, P11, P20, P22}
use Rattle.rules.specs.Store.{Point, Edge, along, front, back, start_of, end_of, back_height, InStore}
use Rattle.rules.specs.Plans.{Plan, WellFormed, Fits, action_at, passage_at, aisle_treads, back_treads, front_treads, multiplicity}
use Rattle.rules.specs.Lawful.{Trodden, Touched}
use Rattle.rules.specs.Machine.{State, nothing, closed, at_front, at_back, odd, joined, split, ending, dead, row, lawful_step, cross_step}
use Rattle.tours.specs.Prefixes.{lawful_state}
use Rattle.tours.proofs.Basics.{split_at, below, not_trodden, true_not_false}
use Rattle.tours.proofs.Links.{linked_inside}
use Rattle.tours.proofs.Aisles.{front_of, back_of, point_at, Seen, all_seen, none_seen, passage_past, front_edge, back_edge, once_or_twice, untrodden, front_touched, back_touched, bottom_treads, top_treads, gap_front, gap_back, LawfulFront}
use Rattle.tours.proofs.Parity.{Live, oddness, next_parity, run_parity}

-- a set of points that no trodden edge seen so far leaves, with the back crossing of aisle h inside and the front one outside
record Cut (z : Layout) (treads : Edge → ℕ) (a p h : ℕ) : Type 0 where
  inside : Point → Bool
  keeps : (e : Edge) → Trodden z treads e → Seen a p e → inside (start_of z e) ≡ inside (end_of z e)
  back_in : inside (back_of z h) ≡ true
  front_out : inside (front_of h) ≡ false

-- what each state of a lawful plan says of the edges seen so far
abbrev Backward : Layout → Plan → State → ℕ → ℕ → ℕ → Type 0
Backward z plan nothing a p h =
    ((e : Edge) → Trodden z (multiplicity plan) e → Seen a p e → ⊥) × Cut z (multiplicity plan) a p h
Backward z plan closed a p h = (c : ℕ) × (passage_at plan c ≡ P00) × (z.depot ≤ c) × (c < h)
Backward z plan at_front a p h = Touched z (multiplicity plan) (front_of h) × Cut z (multiplicity plan) a p h
Backward z plan at_back a p h = Touched z (multiplicity plan) (back_of z h) × Cut z (multiplicity plan) a p h
Backward z plan odd a p h = Unit {0}
Backward z plan joined a p h = Touched z (multiplicity plan) (front_of h)
Backward z plan split a p h =
    Touched z (multiplicity plan) (front_of h) × Touched z (multiplicity plan) (back_of z h) × Cut z (multiplicity plan) a p h
Backward z plan ending a p h = ⊥
Backward z plan dead a p h = ⊥

-- the invariant before aisle i + 1, and behind it
abbrev Before : Layout → Plan → ℕ → State → Type 0
Before z plan i s = Backward z plan s i i (suc i)

abbrev Behind : Layout → Plan → ℕ → State → Type 0
Behind z plan i s = Backward z plan s (suc i) i (suc i)

-- a passage with an untrodden cross-aisle: the front one, or the back one
abbrev Free : Bool → Passage → Type 0
Free true p = front_treads p ≡ 0
Free false p = back_treads p ≡ 0

free_front : (b : Bool) (p : Passage) → Free b p → 0 < front_treads p → b ≡ false
free_front true p e t = not_trodden e t
free_front false p e t = refl

free_back : (b : Bool) (p : Passage) → Free b p → 0 < back_treads p → b ≡ true
free_back true p e t = refl
free_back false p e t = not_trodden e t

-- the points above height k
abbrev higher : ℕ → Point → Bool
higher k x = ltb k x.height

-- one Boolean up to aisle j, another beyond
abbrev up_to : ℕ → (Point → Bool) → (Point → Bool) → Point → Bool
up_to j left right x = cond (leb x.aisle j) (left x) (right x)

up_to_left : (j : ℕ) (left right : Point → Bool) (x : Point) → x.aisle ≤ j → up_to j left right x ≡ left x
up_to_left j left right x l = rw (le-leb x.aisle j l)

up_to_right : (j : ℕ) (left right : Point → Bool) (x : Point) → j < x.aisle → up_to j left right x ≡ right x
up_to_right j left right x l = rw (lt-leb x.aisle j l)

module _ {z : Layout} {plan : Plan} (law : LawfulFront z plan) where
  wf : WellFormed z plan
  wf = law.well_formed

  -- two touched points are on one side of a set that no trodden edge leaves
  one_side : (inside : Point → Bool)
      → ((e : Edge) → Trodden z (multiplicity plan) e → inside (start_of z e) ≡ inside (end_of z e))
      → (x y : Point) → Touched z (multiplicity plan) x → Touched z (multiplicity plan) y
      → inside x ≡ true → inside y ≡ false → ⊥
  one_side inside keeps x y t u e f = true_not_false (sym e ∙ (linked_inside inside keeps (law.together x y t u) ∙ f))

  -- nothing is linked across a passage 00
  no_crossing : (c : ℕ) → passage_at plan c ≡ P00 → (x y : Point) → Touched z (multiplicity plan) x → Touched z (multiplicity plan) y
      → c < x.aisle → y.aisle ≤ c → ⊥
  unfolding start_of end_of Trodden multiplicity
  no_crossing c e x y t u l h =
      one_side (λ (p : Point). ltb c p.aisle) keeps x y t u (lt-ltb c x.aisle l) (le-ltb c y.aisle h)
    where
      beyond : (j n : ℕ) → (j ≡ c → 0 < n → ⊥) → 0 < n → ltb c j ≡ ltb c (suc j)
      beyond j n empty t = elim (split_at c j) [
        | inl l ↦ lt-ltb c j l ∙ sym (lt-ltb c (suc j) (omega arith))
        | inr l ↦ elim (split_at j c) [
          | inl h ↦ le-ltb c j l ∙ sym (le-ltb c (suc j) h)
          | inr h ↦ absurd (empty (omega arith) t)
        ]
      ]

      keeps : (e : Edge) → Trodden z (multiplicity plan) e → ltb c (start_of z e).aisle ≡ ltb c (end_of z e).aisle
      keeps (along j k) t = refl
      keeps (front j) t = beyond j (front_treads (passage_at plan j)) (λ p q. let r = rw (p, e) at q in omega arith) t.1
      keeps (back j) t = beyond j (back_treads (passage_at plan j)) (λ p q. let r = rw (p, e) at q in omega arith) t.1

  module _ (i : ℕ) where
    -- over an aisle with an untrodden edge: the aisle's points above that edge are inside
    cut_aisle : Cut z (multiplicity plan) i i (suc i)
        → (k : ℕ) → k ≤ z.cells → aisle_treads (action_at plan (suc i)) k ≡ 0
        → Cut z (multiplicity plan) (suc i) i (suc i)
    unfolding start_of end_of back_height Trodden multiplicity InStore
    cut_aisle c k l none =
        record {
          inside = inside;
          keeps = keeps;
          back_in = same_back (suc i) (omega arith) ∙ c.back_in;
          front_out = same_front (suc i) (omega arith) ∙ c.front_out;
        }
      where
        inside : Point → Bool
        inside = up_to i c.inside (higher k)

        same_front : (j : ℕ) → j ≤ suc i → inside (front_of j) ≡ c.inside (front_of j)
        same_front j h = elim (below j i h) [
          | inl g ↦ up_to_left i c.inside (higher k) (front_of j) g
          | inr p ↦ rw p (up_to_right i c.inside (higher k) (front_of (suc i)) (omega arith)
              ∙ (le-ltb k 0 (omega arith) ∙ sym c.front_out))
        ]

        same_back : (j : ℕ) → j ≤ suc i → inside (back_of z j) ≡ c.inside (back_of z j)
        same_back j h = elim (below j i h) [
          | inl g ↦ up_to_left i c.inside (higher k) (back_of z j) g
          | inr p ↦ rw p (up_to_right i c.inside (higher k) (back_of z (suc i)) (omega arith)
              ∙ (lt-ltb k (suc z.cells) (omega arith) ∙ sym c.back_in))
        ]

        above : (n : ℕ) → 0 < aisle_treads (action_at plan (suc i)) n → ltb k n ≡ ltb k (suc n)
        above n t = elim (split_at k n) [
          | inl g ↦ lt-ltb k n g ∙ sym (lt-ltb k (suc n) (omega arith))
          | inr g ↦ elim (split_at n k) [
            | inl h ↦ le-ltb k n g ∙ sym (le-ltb k (suc n) h)
            | inr h ↦ absurd (let p : n ≡ k = omega arith in let q = rw (p, none) at t in omega arith)
          ]
        ]

        keeps : (e : Edge) → Trodden z (multiplicity plan) e → Seen (suc i) i e → inside (start_of z e) ≡ inside (end_of z e)
        keeps (along j n) t seen = elim (below j i seen) [
          | inl g ↦
              up_to_left i c.inside (higher k) (point_at j n) g
              ∙ (c.keeps (along j n) t g
              ∙ sym (up_to_left i c.inside (higher k) (point_at j (suc n)) g))
          | inr p ↦ rw p (
              up_to_right i c.inside (higher k) (point_at (suc i) n) (omega arith)
              ∙ (above n (rw p at t.1)
              ∙ sym (up_to_right i c.inside (higher k) (point_at (suc i) (suc n)) (omega arith))))
        ]
        keeps (front j) t seen = same_front j (omega arith) ∙ (c.keeps (front j) t seen ∙ sym (same_front (suc j) (omega arith)))
        keeps (back j) t seen = same_back j (omega arith) ∙ (c.keeps (back j) t seen ∙ sym (same_back (suc j) (omega arith)))

    -- over a passage: a set that fits the passage's trodden edges at its left end goes on beyond
    beyond : (left right : Point → Bool)
        → ((e : Edge) → Trodden z (multiplicity plan) e → Seen (suc i) i e → left (start_of z e) ≡ left (end_of z e))
        → (0 < front_treads (passage_at plan (suc i)) → left (front_of (suc i)) ≡ right (front_of (suc (suc i))))
        → (0 < back_treads (passage_at plan (suc i)) → left (back_of z (suc i)) ≡ right (back_of z (suc (suc i))))
        → (e : Edge) → Trodden z (multiplicity plan) e
        → Seen (suc i) (suc i) e
        → up_to (suc i) left right (start_of z e) ≡ up_to (suc i) left right (end_of z e)
    unfolding start_of end_of back_height Trodden multiplicity InStore
    beyond left right old by_front by_back (along j n) t seen =
        up_to_left (suc i) left right (point_at j n) seen
        ∙ (old (along j n) t seen ∙ sym (up_to_left (suc i) left right (point_at j (suc n)) seen))
    beyond left right old by_front by_back (front j) t seen = elim (below j i seen) [
      | inl g ↦
          up_to_left (suc i) left right (front_of j) (omega arith)
          ∙ (old (front j) t g ∙ sym (up_to_left (suc i) left right (front_of (suc j)) (omega arith)))
      | inr p ↦ rw p (
          up_to_left (suc i) left right (front_of (suc i)) (omega arith)
          ∙ (by_front (rw p at t.1) ∙ sym (up_to_right (suc i) left right (front_of (suc (suc i))) (omega arith))))
    ]
    beyond left right old by_front by_back (back j) t seen = elim (below j i seen) [
      | inl g ↦
          up_to_left (suc i) left right (back_of z j) (omega arith)
          ∙ (old (back j) t g ∙ sym (up_to_left (suc i) left right (back_of z (suc j)) (omega arith)))
      | inr p ↦ rw p (
          up_to_left (suc i) left right (back_of z (suc i)) (omega arith)
          ∙ (by_back (rw p at t.1) ∙ sym (up_to_right (suc i) left right (back_of z (suc (suc i))) (omega arith))))
    ]

    cut_passage : (left : Point → Bool)
        → ((e : Edge) → Trodden z (multiplicity plan) e → Seen (suc i) i e → left (start_of z e) ≡ left (end_of z e))
        → (0 < front_treads (passage_at plan (suc i)) → left (front_of (suc i)) ≡ false)
        → (0 < back_treads (passage_at plan (suc i)) → left (back_of z (suc i)) ≡ true)
        → Cut z (multiplicity plan) (suc i) (suc i) (suc (suc i))
    cut_passage left old by_front by_back =
        let right = higher 0 in
        record {
          inside = up_to (suc i) left right;
          keeps = beyond left right old by_front (λ t. by_back t ∙ sym (lt-ltb 0 (suc z.cells) (omega arith)));
          back_in = up_to_right (suc i) left right (back_of z (suc (suc i))) (omega arith) ∙ lt-ltb 0 (suc z.cells) (omega arith);
          front_out = up_to_right (suc i) left right (front_of (suc (suc i))) (omega arith);
        }

    -- a passage with an untrodden cross-aisle parts the crossings behind it, 22 keeps them parted
    cut_constant : (b : Bool) → Free b (passage_at plan (suc i)) → Cut z (multiplicity plan) (suc i) (suc i) (suc (suc i))
    cut_constant b free =
        let p = passage_at plan (suc i) in
        cut_passage (λ (x : Point). b) (λ e t seen. refl) (free_front b p free) (free_back b p free)

    cut_both : Cut z (multiplicity plan) (suc i) i (suc i) → Cut z (multiplicity plan) (suc i) (suc i) (suc (suc i))
    cut_both c = cut_passage c.inside c.keeps (λ t. c.front_out) (λ t. c.back_in)

    -- the crossings of an aisle are not both touched if they stay parted for good: nothing joins them beyond
    parted : (b : Bool) → Free b (passage_at plan (suc i)) → Cut z (multiplicity plan) (suc i) i (suc i)
        → Touched z (multiplicity plan) (front_of (suc i)) → Touched z (multiplicity plan) (back_of z (suc i)) → ⊥
    unfolding start_of end_of back_height
    parted b free c by_front by_back =
        one_side inside keeps (back_of z (suc i)) (front_of (suc i)) by_back by_front
        (up_to_left (suc i) c.inside right (back_of z (suc i)) (omega arith) ∙ c.back_in)
        (up_to_left (suc i) c.inside right (front_of (suc i)) (omega arith) ∙ c.front_out)
      where
        p : Passage
        p = passage_at plan (suc i)

        right : Point → Bool
        right = λ (x : Point). b

        inside : Point → Bool
        inside = up_to (suc i) c.inside right

        seen : (e : Edge) → Trodden z (multiplicity plan) e → Seen (suc i) (suc i) e → inside (start_of z e) ≡ inside (end_of z e)
        seen = beyond c.inside right c.keeps
            (λ t. c.front_out ∙ sym (free_front b p free t)) (λ t. c.back_in ∙ sym (free_back b p free t))

        further : (x y : Point) → suc i < x.aisle → suc i < y.aisle → inside x ≡ inside y
        further x y l h = up_to_right (suc i) c.inside right x l ∙ sym (up_to_right (suc i) c.inside right y h)

        keeps : (e : Edge) → Trodden z (multiplicity plan) e → inside (start_of z e) ≡ inside (end_of z e)
        keeps (along j n) t = elim (split_at (suc i) j) [ inl l ↦ further (point_at j n) (point_at j (suc n)) l l | inr l ↦ seen (along j n) t l ]
        keeps (front j) t = elim (split_at (suc i) j) [ inl l ↦ further (front_of j) (front_of (suc j)) l (omega arith) | inr l ↦ seen (front j) t l ]
        keeps (back j) t = elim (split_at (suc i) j) [ inl l ↦ further (back_of z j) (back_of z (suc j)) l (omega arith) | inr l ↦ seen (back j) t l ]

  module _ (i : ℕ) (high : suc i ≤ z.aisles) where
    -- over an aisle that is not trodden all along the cut goes on
    cut_over : (a : Action) → action_at plan (suc i) ≡ a → once_or_twice a ≡ false
        → Cut z (multiplicity plan) i i (suc i) → Cut z (multiplicity plan) (suc i) i (suc i)
    cut_over a e once c =
        let u = untrodden z.cells a (subst (Fits z.cells) e (wf.fits (suc i))) once in
        cut_aisle i c u.0 u.1 (rw e u.2)

    -- once closed off, nothing is touched any more
    reopened : Before z plan i closed → (x : Point) → Touched z (multiplicity plan) x → suc i ≤ x.aisle → ⊥
    reopened (c, e, d, l) x t h = no_crossing c e x (front_of z.depot) t law.depot_touched (omega arith) d

    -- an action's row of the table, proved entry by entry
    by_row : (n f k t j s : State)
        → (Before z plan i nothing → Behind z plan i n)
        → (Before z plan i closed → ⊥)
        → (Before z plan i at_front → Behind z plan i f)
        → (Before z plan i at_back → Behind z plan i k)
        → (Before z plan i odd → Behind z plan i t)
        → (Before z plan i joined → Behind z plan i j)
        → (Before z plan i split → Behind z plan i s)
        → (st : State) → Before z plan i st → Behind z plan i (row n f k t j s st)
    by_row _ _ _ _ _ _ n c f k t j s nothing = n
    by_row _ _ _ _ _ _ n c f k t j s closed = c
    by_row _ _ _ _ _ _ n c f k t j s at_front = f
    by_row _ _ _ _ _ _ n c f k t j s at_back = k
    by_row _ _ _ _ _ _ n c f k t j s odd = t
    by_row _ _ _ _ _ _ n c f k t j s joined = j
    by_row _ _ _ _ _ _ n c f k t j s split = s
    by_row _ _ _ _ _ _ n c f k t j s ending = λ h. h
    by_row _ _ _ _ _ _ n c f k t j s dead = λ h. h

    void_action : (s : State) → action_at plan (suc i) ≡ Void → Before z plan i s → Behind z plan i s
    unfolding Trodden multiplicity
    void_action nothing e (q, c) = (quiet, cut_over Void e refl c)
      where
        quiet : (g : Edge) → Trodden z (multiplicity plan) g → Seen (suc i) i g → ⊥
        quiet (along j k) t seen = elim (below j i seen) [
          | inl l ↦ q (along j k) t l
          | inr p ↦ let h = rw (p, e) at t.1 in omega arith
        ]
        quiet (front j) t seen = q (front j) t seen
        quiet (back j) t seen = q (back j) t seen
    void_action closed e b = b
    void_action at_front e (t, c) = (t, cut_over Void e refl c)
    void_action at_back e (t, c) = (t, cut_over Void e refl c)
    void_action odd e b = b
    void_action joined e b = b
    void_action split e (t, u, c) = (t, u, cut_over Void e refl c)
    void_action ending e b = b
    void_action dead e b = b

    -- an action keeps the invariant
    backward_action : (a : Action) → action_at plan (suc i) ≡ a → (s : State) → Before z plan i s → Behind z plan i (lawful_step a s)
    backward_action Void e = λ s. void_action s e
    backward_action (Bottom n) e =
        let fits = subst (Fits z.cells) e (wf.fits (suc i)) in
        let t = front_touched wf (suc i) (omega arith) high (rw e (bottom_treads n 0 (omega arith))) in
        let cut = cut_over (Bottom n) e refl in
        by_row at_front at_front split odd joined split
        (λ b. (t, cut b.1)) (λ b. reopened b (front_of (suc i)) t (omega arith)) (λ b. (t, cut b.1))
        (λ b. (t, b.0, cut b.1)) (λ b. b) (λ b. b) (λ b. (t, b.1, cut b.2))
    backward_action (Top n) e =
        let fits = subst (Fits z.cells) e (wf.fits (suc i)) in
        let t = back_touched wf (suc i) (omega arith) high (rw e (top_treads n z.cells (omega arith))) in
        let cut = cut_over (Top n) e refl in
        by_row at_back split at_back odd joined split
        (λ b. (t, cut b.1)) (λ b. reopened b (back_of z (suc i)) t (omega arith)) (λ b. (b.0, t, cut b.1))
        (λ b. (t, cut b.1)) (λ b. b) (λ b. b) (λ b. (b.0, t, cut b.2))
    backward_action (Gap h n) e =
        let fits = subst (Fits z.cells) e (wf.fits (suc i)) in
        let t = front_touched wf (suc i) (omega arith) high (rw e (gap_front h n 0 (omega arith))) in
        let u = back_touched wf (suc i) (omega arith) high (rw e (gap_back h n z.cells (omega arith))) in
        let cut = cut_over (Gap h n) e refl in
        by_row split split split odd joined split
        (λ b. (t, u, cut b.1)) (λ b. reopened b (front_of (suc i)) t (omega arith)) (λ b. (t, u, cut b.1))
        (λ b. (t, u, cut b.1)) (λ b. b) (λ b. b) (λ b. (t, u, cut b.2))
    backward_action Once e =
        let t = front_touched wf (suc i) (omega arith) high (rw e (omega arith)) in
        by_row odd odd odd joined odd odd
        (λ b. tt) (λ b. reopened b (front_of (suc i)) t (omega arith)) (λ b. tt) (λ b. tt) (λ b. t) (λ b. tt) (λ b. tt)
    backward_action Twice e =
        let t = front_touched wf (suc i) (omega arith) high (rw e (omega arith)) in
        by_row joined joined joined odd joined joined
        (λ b. t) (λ b. reopened b (front_of (suc i)) t (omega arith)) (λ b. t) (λ b. t) (λ b. tt) (λ b. t) (λ b. t)

    depot_here : z.depot ≡ suc i → Touched z (multiplicity plan) (front_of (suc i))
    depot_here p = subst (λ (n : ℕ). Touched z (multiplicity plan) (front_of n)) p law.depot_touched

    -- a depot that no edge seen so far touches needs the front cross-aisle behind it
    depot_waits : ((e : Edge) → Trodden z (multiplicity plan) e → Seen (suc i) i e → ⊥)
        → front_treads (passage_at plan (suc i)) ≡ 0 → Touched z (multiplicity plan) (front_of (suc i)) → ⊥
    unfolding Touched start_of end_of back_height Trodden multiplicity
    depot_waits q none (along j k, t, inl p) = q (along j k) t (le_of_eq (sym (ap (λ (x : Point). x.aisle) p)))
    depot_waits q none (along j k, t, inr p) = let h = ap (λ (x : Point). x.height) p in omega arith
    depot_waits q none (front j, t, inl p) =
        let h = ap (λ (x : Point). x.aisle) p in
        let r = rw (sym h, none) at t.1 in omega arith
    depot_waits q none (front j, t, inr p) = q (front j) t (let h = ap (λ (x : Point). x.aisle) p in omega arith)
    depot_waits q none (back j, t, inl p) = let h = ap (λ (x : Point). x.height) p in omega arith
    depot_waits q none (back j, t, inr p) = let h = ap (λ (x : Point). x.height) p in omega arith

    -- the crossings that a passage touches
    module _ (t : 0 < front_treads (passage_at plan (suc i))) where
      front_left : Touched z (multiplicity plan) (front_of (suc i))
      unfolding Touched start_of
      front_left = (front (suc i), front_edge wf (suc i) (omega arith) t, inl refl)

      front_right : Touched z (multiplicity plan) (front_of (suc (suc i)))
      unfolding Touched end_of
      front_right = (front (suc i), front_edge wf (suc i) (omega arith) t, inr refl)

    module _ (t : 0 < back_treads (passage_at plan (suc i))) where
      back_left : Touched z (multiplicity plan) (back_of z (suc i))
      unfolding Touched start_of back_height
      back_left = (back (suc i), back_edge wf (suc i) (omega arith) t, inl refl)

      back_right : Touched z (multiplicity plan) (back_of z (suc (suc i)))
      unfolding Touched end_of back_height
      back_right = (back (suc i), back_edge wf (suc i) (omega arith) t, inr refl)

    when : (b : Bool) (s : State) → (b ≡ true → Before z plan (suc i) s) → (b ≡ false → ⊥) → Before z plan (suc i) (cond b s dead)
    when true s f n = f refl
    when false s f n = n refl

    unless : (b : Bool) (s : State) → (b ≡ true → ⊥) → (b ≡ false → Before z plan (suc i) s) → Before z plan (suc i) (cond b dead s)
    unless true s n f = n refl
    unless false s n f = f refl

    quiet : ((e : Edge) → Trodden z (multiplicity plan) e → Seen (suc i) i e → ⊥) → passage_at plan (suc i) ≡ P00
        → (e : Edge) → Trodden z (multiplicity plan) e → Seen (suc i) (suc i) e → ⊥
    unfolding Trodden multiplicity
    quiet q e (along j k) t seen = q (along j k) t seen
    quiet q e (front j) t seen = elim (below j i seen) [
      | inl l ↦ q (front j) t l
      | inr p ↦ let h = rw (p, e) at t.1 in omega arith
    ]
    quiet q e (back j) t seen = elim (below j i seen) [
      | inl l ↦ q (back j) t l
      | inr p ↦ let h = rw (p, e) at t.1 in omega arith
    ]

    -- what goes on at the back only is not closed off before the depot's aisle is passed
    too_early : passage_at plan (suc i) ≡ P00 → Touched z (multiplicity plan) (back_of z (suc i))
        → Cut z (multiplicity plan) (suc i) i (suc i) → suc i ≤ z.depot → ⊥
    too_early e u c l = elim (split_at (suc i) z.depot) [
      | inl h ↦ no_crossing (suc i) e (front_of z.depot) (back_of z (suc i)) law.depot_touched u h (omega arith)
      | inr h ↦ parted i true (rw e) c (depot_here (omega arith)) u
    ]

    both_go_on : passage_at plan (suc i) ≡ P22 → Cut z (multiplicity plan) (suc i) i (suc i) → Before z plan (suc i) split
    both_go_on e c = (front_right (rw e (omega arith)), back_right (rw e (omega arith)), cut_both i c)

    -- closing off behind the depot, and only there
    closing : (x : Point) → Touched z (multiplicity plan) x → x.aisle ≤ suc i → passage_at plan (suc i) ≡ P00
        → Before z plan (suc i) (cond (leb z.depot (suc i)) closed dead)
    closing x t l e =
        when (leb z.depot (suc i)) closed
        (λ h. (suc i, e, leb-true z.depot (suc i) h, omega arith))
        (λ h. no_crossing (suc i) e (front_of z.depot) x law.depot_touched t (leb-false z.depot (suc i) h) l)

    -- a passage keeps the invariant
    backward_passage : (p : Passage) → passage_at plan (suc i) ≡ p → (s : State) → front_treads p % 2 ≡ oddness s
        → Behind z plan i s → Before z plan (suc i) (cross_step z.depot (suc i) p s)
    backward_passage P00 e nothing o (q, c) =
        unless (eqb (suc i) z.depot) nothing
        (λ h. depot_waits q (rw e) (depot_here (sym (eqb-true (suc i) z.depot h))))
        (λ h. (quiet q e, cut_constant i true (rw e)))
    backward_passage P00 e closed o (c, d, g, l) = (c, d, g, omega arith)
    backward_passage P00 e at_front o (t, c) = closing (front_of (suc i)) t (omega arith) e
    backward_passage P00 e at_back o (t, c) =
        when (ltb z.depot (suc i)) closed
        (λ h. (suc i, e, (let r = ltb-true z.depot (suc i) h in omega arith), omega arith))
        (λ h. too_early e t c (ltb-false z.depot (suc i) h))
    backward_passage P00 e odd o b = absurd (omega arith)
    backward_passage P00 e joined o t = closing (front_of (suc i)) t (omega arith) e
    backward_passage P00 e split o (t, u, c) =
        parted i true (rw e) c t u
    backward_passage P00 e ending o b = absurd b
    backward_passage P00 e dead o b = b
    backward_passage P02 e nothing o (q, c) = (front_right (rw e (omega arith)), cut_constant i false (rw e))
    backward_passage P02 e closed o b = reopened b (front_of (suc (suc i))) (front_right (rw e (omega arith))) (omega arith)
    backward_passage P02 e at_front o (t, c) = (front_right (rw e (omega arith)), cut_constant i false (rw e))
    backward_passage P02 e at_back o (u, c) =
        parted i false (rw e) c (front_left (rw e (omega arith))) u
    backward_passage P02 e odd o b = absurd (omega arith)
    backward_passage P02 e joined o t = (front_right (rw e (omega arith)), cut_constant i false (rw e))
    backward_passage P02 e split o (t, u, c) =
        parted i false (rw e) c t u
    backward_passage P02 e ending o b = b
    backward_passage P02 e dead o b = b
    backward_passage P11 e nothing o b = omega arith
    backward_passage P11 e closed o b = omega arith
    backward_passage P11 e at_front o b = omega arith
    backward_passage P11 e at_back o b = omega arith
    backward_passage P11 e odd o b = tt
    backward_passage P11 e joined o b = omega arith
    backward_passage P11 e split o b = omega arith
    backward_passage P11 e ending o b = b
    backward_passage P11 e dead o b = b
    backward_passage P20 e nothing o (q, c) =
        unless (eqb (suc i) z.depot) at_back
        (λ h. depot_waits q (rw e) (depot_here (sym (eqb-true (suc i) z.depot h))))
        (λ h. (back_right (rw e (omega arith)), cut_constant i true (rw e)))
    backward_passage P20 e closed o b = reopened b (back_of z (suc (suc i))) (back_right (rw e (omega arith))) (omega arith)
    backward_passage P20 e at_front o (t, c) =
        parted i true (rw e) c t (back_left (rw e (omega arith)))
    backward_passage P20 e at_back o (u, c) =
        unless (eqb (suc i) z.depot) at_back
        (λ h. parted i true (rw e) c (depot_here (sym (eqb-true (suc i) z.depot h))) u)
        (λ h. (back_right (rw e (omega arith)), cut_constant i true (rw e)))
    backward_passage P20 e odd o b = absurd (omega arith)
    backward_passage P20 e joined o t = (back_right (rw e (omega arith)), cut_constant i true (rw e))
    backward_passage P20 e split o (t, u, c) =
        parted i true (rw e) c t u
    backward_passage P20 e ending o b = b
    backward_passage P20 e dead o b = b
    backward_passage P22 e nothing o (q, c) = both_go_on e c
    backward_passage P22 e closed o b = reopened b (front_of (suc (suc i))) (front_right (rw e (omega arith))) (omega arith)
    backward_passage P22 e at_front o (t, c) = both_go_on e c
    backward_passage P22 e at_back o (u, c) = both_go_on e c
    backward_passage P22 e odd o b = absurd (omega arith)
    backward_passage P22 e joined o t = front_right (rw e (omega arith))
    backward_passage P22 e split o (t, u, c) = both_go_on e c
    backward_passage P22 e ending o b = b
    backward_passage P22 e dead o b = b

  backward_live : (a p h : ℕ) (s : State) → Backward z plan s a p h → Live s
  backward_live a p h nothing b = tt
  backward_live a p h closed b = tt
  backward_live a p h at_front b = tt
  backward_live a p h at_back b = tt
  backward_live a p h odd b = tt
  backward_live a p h joined b = tt
  backward_live a p h split b = tt
  backward_live a p h ending b = tt
  backward_live a p h dead b = b

  -- the invariant holds before every aisle
  backward_run : (n : ℕ) → n ≤ z.aisles → Before z plan n (lawful_state z.depot plan n)
  backward_run zero l = (
    none_seen wf,
    record {
      inside = higher 0;
      keeps = λ e t seen. absurd (none_seen wf e t seen);
      back_in = lt-ltb 0 (suc z.cells) (omega arith);
      front_out = refl;
    },
  )
  backward_run (suc i) l =
      let s = lawful_step (action_at plan (suc i)) (lawful_state z.depot plan i) in
      let b = backward_action i l (action_at plan (suc i)) refl (lawful_state z.depot plan i) (backward_run i (omega arith)) in
      backward_passage i l (passage_at plan (suc i)) refl s
      (next_parity z.depot plan i (backward_live (suc i) i (suc i) s b) (law.front_even (suc i) (omega arith) l)) b

  touched_aisle : (x : Point) → Touched z (multiplicity plan) x → x.aisle ≤ z.aisles
  unfolding Touched start_of end_of Trodden InStore
  touched_aisle x (along j k, t, inl p) = rw p t.0.1
  touched_aisle x (along j k, t, inr p) = rw p t.0.1
  touched_aisle x (front j, t, inl p) = rw p (omega arith)
  touched_aisle x (front j, t, inr p) = rw p t.0.1
  touched_aisle x (back j, t, inl p) = rw p (omega arith)
  touched_aisle x (back j, t, inr p) = rw p t.0.1

  -- behind the last aisle all is closed off
  at_the_end : (s : State) → front_treads (passage_at plan z.aisles) % 2 ≡ oddness s → Before z plan z.aisles s → s ≡ closed
  unfolding Touched
  at_the_end nothing o (q, c) = let (e, t, h) = law.depot_touched in absurd (q e t (all_seen wf e t))
  at_the_end closed o b = refl
  at_the_end at_front o (t, c) = absurd (let h = touched_aisle (front_of (suc z.aisles)) t in omega arith)
  at_the_end at_back o (t, c) = absurd (let h = touched_aisle (back_of z (suc z.aisles)) t in omega arith)
  at_the_end odd o b = absurd (let h = rw (passage_past wf z.aisles (omega arith)) at o in omega arith)
  at_the_end joined o t = absurd (let h = touched_aisle (front_of (suc z.aisles)) t in omega arith)
  at_the_end split o (t, u, c) = absurd (let h = touched_aisle (front_of (suc z.aisles)) t in omega arith)
  at_the_end ending o b = absurd b
  at_the_end dead o b = absurd b

  -- a lawful plan is accepted
  pub lawful_closed : lawful_state z.depot plan z.aisles ≡ closed
  lawful_closed =
      let b = backward_run z.aisles (omega arith) in
      let s = lawful_state z.depot plan z.aisles in
      at_the_end s (run_parity z.depot plan z.aisles (backward_live z.aisles z.aisles (suc z.aisles) s b)) b
