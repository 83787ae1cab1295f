-- Accepted plans hang together: from left to right, every trodden edge seen so far is linked to a crossing
-- at which the plan can still go on, or to the depot once all is closed off.
use Prim.Native.Nat.{ℕ, zero, suc, ◌≤◌, ◌<◌}
use native.Mathlib.Omega.{arith}
use mathlib.Core.Path.{◌≡◌, refl, sym, subst}
use mathlib.Core.Logic.{◌⊎◌, inl, inr}
use mathlib.Core.Bool.{Bool, true, false, cond}
use lib.Dec.{ltb, leb, eqb}
use borrow.Author.Tests.{ltb-true, leb-true, eqb-false}
use Rattle.rules.specs.declared.Layout.{Layout}
use Rattle.rules.specs.declared.Action.{Action}
use Rattle.rules.specs.declared.Action.TheVariants.{Void, Bottom, Top, Gap, Once, Twice}
use Rattle.rules.specs.declared.Passage.{Passage}
use Rattle.rules.specs.declared.Passage.TheVariants.{P00, P02, P11, P20, P22}
use Rattle.rules.specs.Store.{Point, Edge, along, front, back, start_of, back_height, InStore}
use Rattle.rules.specs.Plans.{Plan, WellFormed, action_at, passage_at, aisle_treads, back_treads, front_treads, multiplicity}
use Rattle.rules.specs.Lawful.{Trodden, Touched, Linked, here}
use Rattle.rules.specs.Machine.{State, nothing, closed, at_front, at_back, odd, joined, split, ending, dead, row, lawful_step, cross_step}
use Rattle.tours.specs.Prefixes.{lawful_state}
use Rattle.tours.proofs.Basics.{below, not_trodden}
use Rattle.tours.proofs.Links.{linked_trans, linked_sym, edge_back, touched_end}
use Rattle.tours.proofs.Aisles.{front_of, back_of, point_at, Seen, all_seen, none_seen, whole_aisle, Reached, reached, front_over, back_over, front_edge, back_edge, entered_edge}

-- a point is linked to a crossing of aisle h at which the plan can still go on in this state
abbrev Anchor : Layout → (Edge → ℕ) → State → ℕ → Point → Type 0
Anchor z treads nothing h x = ⊥
Anchor z treads closed h x = Linked z treads (front_of z.depot) x
Anchor z treads at_front h x = Linked z treads (front_of h) x
Anchor z treads at_back h x = Linked z treads (back_of z h) x
Anchor z treads odd h x = Linked z treads (front_of h) x
Anchor z treads joined h x = Linked z treads (front_of h) x
Anchor z treads split h x = Linked z treads (front_of h) x ⊎ Linked z treads (back_of z h) x
Anchor z treads ending h x = ⊥
Anchor z treads dead h x = Unit {0}

-- whether the two crossings of aisle h are linked; the state `ending` is not reached
abbrev Bridge : Layout → (Edge → ℕ) → State → ℕ → Type 0
Bridge z treads nothing h = Unit {0}
Bridge z treads closed h = Unit {0}
Bridge z treads at_front h = Unit {0}
Bridge z treads at_back h = Unit {0}
Bridge z treads odd h = Linked z treads (front_of h) (back_of z h)
Bridge z treads joined h = Linked z treads (front_of h) (back_of z h)
Bridge z treads split h = Unit {0}
Bridge z treads ending h = ⊥
Bridge z treads dead h = Unit {0}

-- whether something is trodden at all
abbrev Some : Layout → (Edge → ℕ) → State → Type 0
Some z treads nothing = Unit {0}
Some z treads closed = (e : Edge) × Trodden z treads e
Some z treads at_front = (e : Edge) × Trodden z treads e
Some z treads at_back = (e : Edge) × Trodden z treads e
Some z treads odd = (e : Edge) × Trodden z treads e
Some z treads joined = (e : Edge) × Trodden z treads e
Some z treads split = (e : Edge) × Trodden z treads e
Some z treads ending = ⊥
Some z treads dead = Unit {0}

-- what the state says of the edges seen so far, with the crossings of aisle h to go on from
record Forward (z : Layout) (treads : Edge → ℕ) (s : State) (a p h : ℕ) : Type 0 where
  covers : (e : Edge) → Trodden z treads e → Seen a p e → Anchor z treads s h (start_of z e)
  depot : z.depot < h → Anchor z treads s h (front_of z.depot)
  bridge : Bridge z treads s h
  some : Some z treads s

-- the invariant before aisle i + 1, and behind it
abbrev Before : Layout → Plan → ℕ → State → Type 0
Before z plan i s = Forward z (multiplicity plan) s i i (suc i)

abbrev Behind : Layout → Plan → ℕ → State → Type 0
Behind z plan i s = Forward z (multiplicity plan) s (suc i) i (suc i)

dead_forward : {z : Layout} {treads : Edge → ℕ} {a p h : ℕ} → Forward z treads dead a p h
dead_forward = record { covers = λ e t seen. tt; depot = λ l. tt; bridge = tt; some = tt }

-- a point linked to one of two linked points is linked to the first
over : {z : Layout} {treads : Edge → ℕ} {x y w : Point}
    → Linked z treads y w → Linked z treads y x ⊎ Linked z treads w x → Linked z treads y x
over b (inl p) = p
over b (inr p) = linked_trans b p

module _ {z : Layout} {plan : Plan} (wf : WellFormed z plan) (i : ℕ) (high : suc i ≤ z.aisles) where
  -- over an aisle: what was linked stays linked, and the aisle's own edges are
  over_aisle : {s : State} (s' : State) → Before z plan i s
      → ((x : Point) → Anchor z (multiplicity plan) s (suc i) x → Anchor z (multiplicity plan) s' (suc i) x)
      → ((k : ℕ) → k ≤ z.cells → 0 < aisle_treads (action_at plan (suc i)) k → Anchor z (multiplicity plan) s' (suc i) (point_at (suc i) k))
      → Bridge z (multiplicity plan) s' (suc i)
      → Some z (multiplicity plan) s'
      → Behind z plan i s'
  unfolding start_of Trodden InStore multiplicity
  over_aisle {s} s' f keep own bridge some =
      record { covers = covers; depot = λ l. keep (front_of z.depot) (f.depot l); bridge = bridge; some = some }
    where
      covers : (e : Edge) → Trodden z (multiplicity plan) e → Seen (suc i) i e → Anchor z (multiplicity plan) s' (suc i) (start_of z e)
      covers (along j k) t seen = elim (below j i seen) [
        | inl l ↦ keep (point_at j k) (f.covers (along j k) t l)
        | inr p ↦ rw p (own k t.0.2 (rw p at t.1))
      ]
      covers (front j) t seen = keep (front_of j) (f.covers (front j) t seen)
      covers (back j) t seen = keep (start_of z (back j)) (f.covers (back j) t seen)

  own_edges : (a : Action) → action_at plan (suc i) ≡ a → (k : ℕ) → k ≤ z.cells
      → 0 < aisle_treads (action_at plan (suc i)) k → Reached wf a (suc i) (point_at (suc i) k)
  own_edges a e k l t = reached wf (suc i) (omega arith) high a e k l (rw e at t)

  -- an action's row of the table, proved entry by entry
  by_row : {n f k t j s : State}
      → (Before z plan i nothing → Behind z plan i n)
      → (Before z plan i at_front → Behind z plan i f)
      → (Before z plan i at_back → Behind z plan i k)
      → (Before z plan i odd → Behind z plan i t)
      → (Before z plan i joined → Behind z plan i j)
      → (Before z plan i split → Behind z plan i s)
      → (st : State) → Before z plan i st → Behind z plan i (row n f k t j s st)
  by_row n f k t j s nothing = n
  by_row n f k t j s closed = λ h. dead_forward
  by_row n f k t j s at_front = f
  by_row n f k t j s at_back = k
  by_row n f k t j s odd = t
  by_row n f k t j s joined = j
  by_row n f k t j s split = s
  by_row n f k t j s ending = λ h. dead_forward
  by_row n f k t j s dead = λ h. dead_forward

  -- an action keeps the invariant
  forward_action : (a : Action) → action_at plan (suc i) ≡ a → (s : State)
      → Before z plan i s → Behind z plan i (lawful_step a s)
  forward_action Void e = λ s f.
      over_aisle s f (λ x p. p) (λ k l. not_trodden (rw e)) f.bridge f.some
  forward_action (Bottom n) e =
      let own = own_edges (Bottom n) e in
      let some = entered_edge wf (suc i) (omega arith) high (Bottom n) e refl in
      by_row
      (λ f. over_aisle at_front f (λ x p. absurd p) own tt some)
      (λ f. over_aisle at_front f (λ x p. p) own tt some)
      (λ f. over_aisle split f (λ x p. inr p) (λ k l t. inl (own k l t)) tt some)
      (λ f. over_aisle odd f (λ x p. p) own f.bridge some)
      (λ f. over_aisle joined f (λ x p. p) own f.bridge some)
      (λ f. over_aisle split f (λ x p. p) (λ k l t. inl (own k l t)) tt some)
  forward_action (Top n) e =
      let own = own_edges (Top n) e in
      let some = entered_edge wf (suc i) (omega arith) high (Top n) e refl in
      by_row
      (λ f. over_aisle at_back f (λ x p. absurd p) own tt some)
      (λ f. over_aisle split f (λ x p. inl p) (λ k l t. inr (own k l t)) tt some)
      (λ f. over_aisle at_back f (λ x p. p) own tt some)
      (λ f. over_aisle odd f (λ x p. p) (λ k l t. linked_trans f.bridge (own k l t)) f.bridge some)
      (λ f. over_aisle joined f (λ x p. p) (λ k l t. linked_trans f.bridge (own k l t)) f.bridge some)
      (λ f. over_aisle split f (λ x p. p) (λ k l t. inr (own k l t)) tt some)
  forward_action (Gap h n) e =
      let own = own_edges (Gap h n) e in
      let some = entered_edge wf (suc i) (omega arith) high (Gap h n) e refl in
      by_row
      (λ f. over_aisle split f (λ x p. absurd p) own tt some)
      (λ f. over_aisle split f (λ x p. inl p) own tt some)
      (λ f. over_aisle split f (λ x p. inr p) own tt some)
      (λ f. over_aisle odd f (λ x p. p) (λ k l t. over f.bridge (own k l t)) f.bridge some)
      (λ f. over_aisle joined f (λ x p. p) (λ k l t. over f.bridge (own k l t)) f.bridge some)
      (λ f. over_aisle split f (λ x p. p) own tt some)
  forward_action Once e =
      let own = own_edges Once e in
      let bridge = whole_aisle wf (suc i) (omega arith) high (λ k. rw e (omega arith)) (suc z.cells) (omega arith) in
      let some = entered_edge wf (suc i) (omega arith) high Once e refl in
      by_row
      (λ f. over_aisle odd f (λ x p. absurd p) own bridge some)
      (λ f. over_aisle odd f (λ x p. p) own bridge some)
      (λ f. over_aisle odd f (λ x p. linked_trans bridge p) own bridge some)
      (λ f. over_aisle joined f (λ x p. p) own bridge some)
      (λ f. over_aisle odd f (λ x p. p) own bridge some)
      (λ f. over_aisle odd f (λ x p. over bridge p) own bridge some)
  forward_action Twice e =
      let own = own_edges Twice e in
      let bridge = whole_aisle wf (suc i) (omega arith) high (λ k. rw e (omega arith)) (suc z.cells) (omega arith) in
      let some = entered_edge wf (suc i) (omega arith) high Twice e refl in
      by_row
      (λ f. over_aisle joined f (λ x p. absurd p) own bridge some)
      (λ f. over_aisle joined f (λ x p. p) own bridge some)
      (λ f. over_aisle joined f (λ x p. linked_trans bridge p) own bridge some)
      (λ f. over_aisle odd f (λ x p. p) own bridge some)
      (λ f. over_aisle joined f (λ x p. p) own bridge some)
      (λ f. over_aisle joined f (λ x p. over bridge p) own bridge some)

  -- over a passage: what was linked stays linked, the passage's own edges are, and so is a depot at its left
  over_passage_lem : {s : State} (s' : State) → Behind z plan i s
      → ((x : Point) → Anchor z (multiplicity plan) s (suc i) x → Anchor z (multiplicity plan) s' (suc (suc i)) x)
      → (0 < front_treads (passage_at plan (suc i)) → Anchor z (multiplicity plan) s' (suc (suc i)) (front_of (suc i)))
      → (0 < back_treads (passage_at plan (suc i)) → Anchor z (multiplicity plan) s' (suc (suc i)) (back_of z (suc i)))
      → (z.depot ≡ suc i → Anchor z (multiplicity plan) s' (suc (suc i)) (front_of (suc i)))
      → Bridge z (multiplicity plan) s' (suc (suc i))
      → Some z (multiplicity plan) s'
      → Before z plan (suc i) s'
  unfolding start_of Trodden InStore multiplicity back_height
  over_passage_lem {s} s' f keep by_front by_back at_depot bridge some =
      record {
        covers = covers;
        depot = λ l. elim (below z.depot i (omega arith)) [
          | inl h ↦ keep (front_of z.depot) (f.depot (omega arith))
          | inr p ↦ subst (λ (n : ℕ). Anchor z (multiplicity plan) s' (suc (suc i)) (front_of n)) (sym p) (at_depot p)
        ];
        bridge = bridge;
        some = some;
      }
    where
      covers : (e : Edge) → Trodden z (multiplicity plan) e → Seen (suc i) (suc i) e → Anchor z (multiplicity plan) s' (suc (suc i)) (start_of z e)
      covers (along j k) t seen = keep (point_at j k) (f.covers (along j k) t seen)
      covers (front j) t seen = elim (below j i seen) [
        | inl l ↦ keep (front_of j) (f.covers (front j) t l)
        | inr p ↦ rw p (by_front (rw p at t.1))
      ]
      covers (back j) t seen = elim (below j i seen) [
        | inl l ↦ keep (back_of z j) (f.covers (back j) t l)
        | inr p ↦ rw p (by_back (rw p at t.1))
      ]

  -- closing off: the depot is linked to the crossing where all ends
  close : (s : State) → Behind z plan i s
      → ((x : Point) → Anchor z (multiplicity plan) s (suc i) x → Linked z (multiplicity plan) (front_of z.depot) x)
      → Some z (multiplicity plan) closed
      → passage_at plan (suc i) ≡ P00 → Before z plan (suc i) closed
  close s f keep some e =
      over_passage_lem closed f keep
      (not_trodden (rw e))
      (not_trodden (rw e))
      (λ p. subst (λ (n : ℕ). Linked z (multiplicity plan) (front_of z.depot) (front_of n)) p here)
      tt some

  -- the depot, at or left of aisle i + 1, is linked to the crossing from which the plan goes on
  depot_linked : (y : Point) → (z.depot < suc i → Linked z (multiplicity plan) y (front_of z.depot))
      → Linked z (multiplicity plan) y (front_of (suc i)) → z.depot ≤ suc i → Linked z (multiplicity plan) y (front_of z.depot)
  depot_linked y old new l = elim (below z.depot i l) [
    | inl h ↦ old (omega arith)
    | inr p ↦ subst (λ (n : ℕ). Linked z (multiplicity plan) y (front_of n)) (sym p) new
  ]

  when : (b : Bool) (s : State) → (b ≡ true → Before z plan (suc i) s)
      → Before z plan (suc i) (cond b s dead)
  when true s f = f refl
  when false s f = dead_forward

  unless : (b : Bool) (s : State) → (b ≡ false → Before z plan (suc i) s)
      → Before z plan (suc i) (cond b dead s)
  unless true s f = dead_forward
  unless false s f = f refl

  -- linked crossings stay linked over a passage that treads both cross-aisles
  bridge_over : Linked z (multiplicity plan) (front_of (suc i)) (back_of z (suc i))
      → 0 < front_treads (passage_at plan (suc i)) → 0 < back_treads (passage_at plan (suc i))
      → Linked z (multiplicity plan) (front_of (suc (suc i))) (back_of z (suc (suc i)))
  bridge_over b f k =
      linked_trans (front_over wf (suc i) (omega arith) f)
      (linked_trans b (linked_sym (back_over wf (suc i) (omega arith) k)))

  -- both crossings go on over 22
  over_split : {s : State} → Behind z plan i s
      → ((x : Point) → Anchor z (multiplicity plan) s (suc i) x → Anchor z (multiplicity plan) split (suc i) x)
      → passage_at plan (suc i) ≡ P22
      → Some z (multiplicity plan) split
      → Before z plan (suc i) split
  over_split f keep e some =
      let o = front_over wf (suc i) (omega arith) (rw e (omega arith)) in
      let b = back_over wf (suc i) (omega arith) (rw e (omega arith)) in
      over_passage_lem split f (λ x p. elim (keep x p) [ inl q ↦ inl (linked_trans o q) | inr q ↦ inr (linked_trans b q) ])
      (λ t. inl o) (λ t. inr b) (λ p. inl o) tt some

  -- a passage keeps the invariant
  forward_passage : (p : Passage) → passage_at plan (suc i) ≡ p → (s : State)
      → Behind z plan i s
      → Before z plan (suc i) (cross_step z.depot (suc i) p s)
  forward_passage P00 e nothing f = unless (eqb (suc i) z.depot) nothing (λ ne.
      over_passage_lem nothing f (λ x p. p)
      (not_trodden (rw e))
      (not_trodden (rw e))
      (λ p. eqb-false (suc i) z.depot ne (sym p))
      tt tt)
  forward_passage P00 e closed f = close closed f (λ x p. p) f.some e
  forward_passage P00 e at_front f = when (leb z.depot (suc i)) closed (λ le.
      let d = linked_sym (depot_linked (front_of (suc i)) f.depot here (leb-true z.depot (suc i) le)) in
      close at_front f (λ x p. linked_trans d p) f.some e)
  forward_passage P00 e at_back f = when (ltb z.depot (suc i)) closed (λ lt.
      let d = linked_sym (f.depot (ltb-true z.depot (suc i) lt)) in
      close at_back f (λ x p. linked_trans d p) f.some e)
  forward_passage P00 e odd f = dead_forward
  forward_passage P00 e joined f = when (leb z.depot (suc i)) closed (λ le.
      let d = linked_sym (depot_linked (front_of (suc i)) f.depot here (leb-true z.depot (suc i) le)) in
      close joined f (λ x p. linked_trans d p) f.some e)
  forward_passage P00 e split f = dead_forward
  forward_passage P00 e ending f = absurd f.bridge
  forward_passage P00 e dead f = dead_forward
  forward_passage P02 e nothing f =
      let t : 0 < front_treads (passage_at plan (suc i)) = rw e (omega arith) in
      let o = front_over wf (suc i) (omega arith) t in
      over_passage_lem at_front f (λ x p. absurd p) (λ t. o) (not_trodden (rw e)) (λ p. o)
      tt (front (suc i), front_edge wf (suc i) (omega arith) t)
  forward_passage P02 e closed f = dead_forward
  forward_passage P02 e at_front f =
      let o = front_over wf (suc i) (omega arith) (rw e (omega arith)) in
      over_passage_lem at_front f (λ x p. linked_trans o p) (λ t. o) (not_trodden (rw e)) (λ p. o)
      tt f.some
  forward_passage P02 e at_back f = dead_forward
  forward_passage P02 e odd f = dead_forward
  forward_passage P02 e joined f =
      let o = front_over wf (suc i) (omega arith) (rw e (omega arith)) in
      over_passage_lem at_front f (λ x p. linked_trans o p) (λ t. o) (not_trodden (rw e)) (λ p. o)
      tt f.some
  forward_passage P02 e split f = dead_forward
  forward_passage P02 e ending f = absurd f.bridge
  forward_passage P02 e dead f = dead_forward
  forward_passage P11 e nothing f = dead_forward
  forward_passage P11 e closed f = dead_forward
  forward_passage P11 e at_front f = dead_forward
  forward_passage P11 e at_back f = dead_forward
  forward_passage P11 e odd f =
      let o = front_over wf (suc i) (omega arith) (rw e (omega arith)) in
      over_passage_lem odd f (λ x p. linked_trans o p) (λ t. o) (λ t. linked_trans o f.bridge) (λ p. o)
      (bridge_over f.bridge (rw e (omega arith)) (rw e (omega arith))) f.some
  forward_passage P11 e joined f = dead_forward
  forward_passage P11 e split f = dead_forward
  forward_passage P11 e ending f = dead_forward
  forward_passage P11 e dead f = dead_forward
  forward_passage P20 e nothing f = unless (eqb (suc i) z.depot) at_back (λ ne.
      let t : 0 < back_treads (passage_at plan (suc i)) = rw e (omega arith) in
      over_passage_lem at_back f (λ x p. absurd p) (not_trodden (rw e))
      (λ t. back_over wf (suc i) (omega arith) t)
      (λ p. absurd (eqb-false (suc i) z.depot ne (sym p)))
      tt (back (suc i), back_edge wf (suc i) (omega arith) t))
  forward_passage P20 e closed f = dead_forward
  forward_passage P20 e at_front f = dead_forward
  forward_passage P20 e at_back f = unless (eqb (suc i) z.depot) at_back (λ ne.
      let o = back_over wf (suc i) (omega arith) (rw e (omega arith)) in
      over_passage_lem at_back f (λ x p. linked_trans o p) (not_trodden (rw e)) (λ t. o)
      (λ p. absurd (eqb-false (suc i) z.depot ne (sym p)))
      tt f.some)
  forward_passage P20 e odd f = dead_forward
  forward_passage P20 e joined f =
      let o = back_over wf (suc i) (omega arith) (rw e (omega arith)) in
      let b = linked_trans o (linked_sym f.bridge) in
      over_passage_lem at_back f (λ x p. linked_trans b p) (λ t. b) (λ t. o) (λ p. b) tt f.some
  forward_passage P20 e split f = dead_forward
  forward_passage P20 e ending f = dead_forward
  forward_passage P20 e dead f = dead_forward
  forward_passage P22 e nothing f =
      let t : 0 < front_treads (passage_at plan (suc i)) = rw e (omega arith) in
      over_split f (λ x p. absurd p) e (front (suc i), front_edge wf (suc i) (omega arith) t)
  forward_passage P22 e closed f = dead_forward
  forward_passage P22 e at_front f = over_split f (λ x p. inl p) e f.some
  forward_passage P22 e at_back f = over_split f (λ x p. inr p) e f.some
  forward_passage P22 e odd f = dead_forward
  forward_passage P22 e joined f =
      let o = front_over wf (suc i) (omega arith) (rw e (omega arith)) in
      over_passage_lem joined f (λ x p. linked_trans o p) (λ t. o) (λ t. linked_trans o f.bridge) (λ p. o)
      (bridge_over f.bridge (rw e (omega arith)) (rw e (omega arith))) f.some
  forward_passage P22 e split f = over_split f (λ x p. p) e f.some
  forward_passage P22 e ending f = dead_forward
  forward_passage P22 e dead f = dead_forward

module _ {z : Layout} {plan : Plan} (wf : WellFormed z plan) (depot_low : 1 ≤ z.depot) where
  -- the invariant holds before every aisle
  forward_run : (n : ℕ) → n ≤ z.aisles
      → Before z plan n (lawful_state z.depot plan n)
  forward_run zero l = record { covers = none_seen wf; depot = λ h. omega arith; bridge = tt; some = tt }
  forward_run (suc i) l =
      forward_passage wf i l (passage_at plan (suc i)) refl _
      (forward_action wf i l (action_at plan (suc i)) refl _ (forward_run i (omega arith)))

  module _ (end : lawful_state z.depot plan z.aisles ≡ closed) where
    final : Before z plan z.aisles closed
    final = rw end at (forward_run z.aisles (omega arith))

    start_linked : (e : Edge) → Trodden z (multiplicity plan) e → Linked z (multiplicity plan) (front_of z.depot) (start_of z e)
    start_linked e t = final.covers e t (all_seen wf e t)

    touched_linked : (x : Point) → Touched z (multiplicity plan) x → Linked z (multiplicity plan) (front_of z.depot) x
    unfolding Touched
    touched_linked x (e, t, inl p) = rw p (start_linked e t)
    touched_linked x (e, t, inr p) = rw p (linked_trans (start_linked e t) (edge_back e t))

    -- an accepted plan hangs together
    pub accepted_together : (x y : Point) → Touched z (multiplicity plan) x → Touched z (multiplicity plan) y
        → Linked z (multiplicity plan) y x
    accepted_together x y t u = linked_trans (linked_sym (touched_linked y u)) (touched_linked x t)

    -- an accepted plan touches the depot's crossing
    pub accepted_depot : Touched z (multiplicity plan) (front_of z.depot)
    unfolding Touched
    accepted_depot =
        let e = final.some in
        touched_end (e.0, e.1, inl refl) (start_linked e.0 e.1)
