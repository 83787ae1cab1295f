-- A closed walk reads as a plan: with at most two treads exactly, else with each edge's treads cut down to one or two.
use Prim.Native.Nat.{ℕ, suc, ◌+◌, ◌*◌, ◌-◌, ◌%◌, ◌/◌, ◌≤◌, min}
use native.Mathlib.Omega.{arith}
use native.Mathlib.Nat.{mul-le-mul_right}
use mathlib.Core.Path.{◌≡◌, refl, sym, ap}
use mathlib.Core.Logic.{inl, inr}
use mathlib.Core.List.{[], ◌∷◌}
use mathlib.Core.Bool.{Bool, true, false, cond}
use lib.Dec.{ltb, leb, eqb}
use borrow.Author.Tests.{ltb-true, le-leb, lt-leb, eq-eqb, ne_eqb}
use Rattle.rules.specs.declared.Layout.{Layout}
use Rattle.rules.specs.declared.Direction.{Direction}
use Rattle.rules.specs.declared.Direction.TheVariants.{Back, Front, Left, Right}
use Rattle.rules.specs.Store.{Point, Edge, along, front, back, InStore, Joins, depot_point, distance, same_edge}
use Rattle.rules.specs.Plans.{Plan, multiplicity, action_at, plan_passes, plan_length, length_of}
use Rattle.rules.specs.Lawful.{Trodden, Touched, Lawful}
use Rattle.rules.specs.Walks.{Walk, can_step, step_to, step_edge, cross_edge, is_crossing, one, times_in, ClosedWalk, walk_treads, walk_length, walk_passes}
use Rattle.closedwalks.specs.Ways.{PointOf, degree, Leads, treads_from, Joined}
use Rattle.closedwalks.proofs.Splits.{equal_or_below, below_or_from}
use Rattle.closedwalks.proofs.Steps.{one_refl, both_true, stepped}
use Rattle.closedwalks.proofs.Sums.{sum_le, sum_same}
use Rattle.closedwalks.proofs.Parity.{degree_add, degree_same, walk_balanced, walk_sum}
use Rattle.closedwalks.proofs.Degrees.{depot_point_lem, degree_cell}
use Rattle.closedwalks.proofs.Walked.{closed_leads}
use Rattle.closedwalks.proofs.Links.{joined_same, walk_joined}
use Rattle.closedwalks.proofs.Passing.{trodden_passes, passed_touched}
use Rattle.closedwalks.proofs.Reading.{Readable, reads}

-- one for an aisle up to j
abbrev side : ℕ → ℕ → ℕ
side j a = cond (leb a j) 1 0

passage : (b t : Bool) (j n : ℕ) → eqb j n ≡ t → one (front j) (cross_edge b n) + one (back j) (cross_edge b n) ≡ cond t 1 0
unfolding one same_edge
passage true t j n e = rw e (omega arith)
passage false t j n e = rw e (omega arith)

-- a step along a cross-aisle changes the side exactly if it treads the passage behind j
cross_cut : (b : Bool) (j n : ℕ) → (one (front j) (cross_edge b n) + one (back j) (cross_edge b n) + side j n + side j (suc n)) % 2 ≡ 0
cross_cut b j n =
    elim (below_or_from j n) [
      | inl l ↦ rw (passage b false j n (ne_eqb j n (omega arith)), lt-leb n j l, lt-leb (suc n) j (omega arith))
      | inr l ↦ elim (equal_or_below n j l) [
        | inl e ↦ rw (passage b true j n (eq-eqb j n (sym e)), le-leb n j l, lt-leb (suc n) j (omega arith))
        | inr m ↦ rw (passage b false j n (ne_eqb j n (omega arith)), le-leb n j l, le-leb (suc n) j m)
      ]
    ]

-- each edge's treads cut down to at most two, odd ones to one, even ones to two or none
abbrev clamp : ℕ → ℕ
clamp n = min n (2 - n % 2)

module _ (z : Layout) where
  step_cut : (j : ℕ) (x : Point) (d : Direction) → can_step z x d ≡ true
      → (one (front j) (step_edge x d) + one (back j) (step_edge x d) + side j x.aisle + side j (step_to x d).aisle) % 2 ≡ 0
  unfolding can_step step_edge step_to one same_edge
  step_cut j x Back c = omega arith
  step_cut j x Front c = omega arith
  step_cut j x Left c =
      let b = eqb x.height 0 in
      let h = ltb-true 1 x.aisle (both_true (is_crossing z x) (ltb 1 x.aisle) c).1 in
      let s : suc (x.aisle - 1) ≡ x.aisle = omega arith in
      omega (arith, cross_cut b j (x.aisle - 1), ap (side j) s)
  step_cut j x Right c = cross_cut (eqb x.height 0) j x.aisle

  -- a closed walk crosses between two aisles as often to the right as to the left
  walk_cut : (j : ℕ) (x : Point) (walk : Walk) (y : Point) → Leads z x walk y
      → (treads_from x walk (front j) + treads_from x walk (back j) + side j x.aisle + side j y.aisle) % 2 ≡ 0
  walk_cut j x [] y l = omega (arith, ap (λ (p : Point). side j p.aisle) l)
  walk_cut j x (d ∷ walk) y l = omega (arith, step_cut j x d l.0, walk_cut j (step_to x d) walk y l.1)

  module _ (p : 1 ≤ z.depot) (q : z.depot ≤ z.aisles) (walk : Walk) (some-steps : walk ≡ [] → ⊥) (closed : ClosedWalk z walk) where
    abbrev treads : Edge → ℕ
    treads = treads_from (depot_point z) walk

    at : PointOf z (depot_point z)
    at = depot_point_lem z p q

    leads : Leads z (depot_point z) walk (depot_point z)
    leads = closed_leads z walk closed

    walk_touched : Touched z treads (depot_point z)
    unfolding Touched Trodden Joins
    walk_touched = go walk some-steps leads
      where
        go : (w : Walk) → (w ≡ [] → ⊥) → Leads z (depot_point z) w (depot_point z) → Touched z (treads_from (depot_point z) w) (depot_point z)
        go [] n l = absurd (n refl)
        go (d ∷ w) n l =
            let s = stepped z (depot_point z) at d l.0 in
            (step_edge (depot_point z) d, (s.edge, omega (arith, one_refl (step_edge (depot_point z) d))), elim s.joins [ inl j ↦ inl j.0 | inr j ↦ inr j.1 ])

    walk_even : (x : Point) → PointOf z x → degree z treads x % 2 ≡ 0
    walk_even x o = omega (arith, walk_balanced z (depot_point z) walk (depot_point z) at leads x o)

    cut_even : (j : ℕ) → (treads (front j) + treads (back j)) % 2 ≡ 0
    cut_even j = omega (arith, walk_cut j (depot_point z) walk (depot_point z) leads)

    joined : Joined z treads (depot_point z)
    joined = walk_joined z (depot_point z) walk (depot_point z) at leads

    -- a closed walk that treads no edge more than twice has exactly the treads of a lawful plan
    pub walk_reads : ((e : Edge) → InStore z e → walk_treads z walk e ≤ 2)
        → (plan : Plan) × Lawful z plan × ((e : Edge) → InStore z e → multiplicity plan e ≡ walk_treads z walk e)
    unfolding walk_treads times_in
    walk_reads few = reads z treads (record { few = few; even = walk_even; joined = joined; cut = λ j u v. cut_even j; touched = walk_touched }) (omega arith)

    clamped : Edge → ℕ
    clamped e = clamp (treads e)

    clamped_even : (x : Point) → PointOf z x → degree z clamped x % 2 ≡ 0
    unfolding clamped
    clamped_even x o =
        let half : Edge → ℕ = λ e. (treads e - clamp (treads e)) / 2 in
        let split = degree_same z treads (λ e. clamped e + (half e + half e)) x o (λ e i. omega arith) in
        omega (arith, walk_even x o, split, degree_add z clamped (λ e. half e + half e) x, degree_add z half half x)

    clamped_readable : Readable z clamped
    unfolding clamped Touched Trodden
    clamped_readable =
        let d = walk_touched in
        record {
          few = λ e i. omega arith;
          even = clamped_even;
          joined = joined_same z treads clamped (depot_point z) (λ e i h. omega arith) (λ e i h. omega arith) joined;
          cut = λ j u v. omega (arith, cut_even j);
          touched = (d.0, (d.1.0, (let h = d.1.1 in omega arith)), d.2);
        }

    clamped_length : length_of z clamped ≤ walk_length z walk
    unfolding clamped length_of walk_length
    clamped_length =
        omega (
          arith,
          walk_sum z (distance z) (depot_point z) walk (depot_point z) at leads,
          sum_le z (λ e. clamped e * distance z e) (λ e. treads e * distance z e) (λ e i. mul-le-mul_right (distance z e) (omega arith)),
        )

    clamped_passes : (plan : Plan) → ((e : Edge) → InStore z e → multiplicity plan e ≡ clamped e) → (j c : ℕ) → walk_passes z walk j c ≡ true → 1 ≤ c → c ≤ z.cells → plan_passes plan j c ≡ true
    unfolding clamped plan_passes walk_passes multiplicity InStore
    clamped_passes plan eq j c h u v =
        let t = passed_touched z (record { aisle = j; height = c }) (depot_point z) walk (depot_point z) at leads h in
        let low = t.0.first in
        let high = t.0.last in
        trodden_passes (action_at plan j) c u
        (omega (arith, t.1, degree_cell z treads j c u v, eq (along j (c - 1)) (low, high, omega arith), eq (along j c) (low, high, v)))

    -- whatever a closed walk treads, a lawful plan passes the same cells, is no longer, and treads no other edge
    pub walk_plan : (plan : Plan) × Lawful z plan
        × ((j c : ℕ) → walk_passes z walk j c ≡ true → 1 ≤ c → c ≤ z.cells → plan_passes plan j c ≡ true)
        × (plan_length z plan ≤ walk_length z walk)
        × ((e : Edge) → InStore z e → walk_treads z walk e ≡ 0 → multiplicity plan e ≡ 0)
    unfolding plan_length length_of clamped walk_treads times_in
    walk_plan =
        let r = reads z clamped clamped_readable (omega arith) in (
          r.0,
          r.1,
          clamped_passes r.0 r.2,
          omega (arith, clamped_length, sum_same z (λ e. multiplicity r.0 e * distance z e) (λ e. clamped e * distance z e) (λ e i. rw (r.2 e i))),
          λ e i none. omega (arith, r.2 e i),
        )
