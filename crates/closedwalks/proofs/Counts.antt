-- How many steps a walk of a plan has, and how long it is.
use Prim.Native.Nat.{ℕ, suc, ◌*◌, ◌≤◌}
use native.Mathlib.Omega.{arith}
use native.Mathlib.Nat.{mul-le-mul}
use mathlib.Core.Path.{◌≡◌, refl, ◌∙◌}
use mathlib.Core.List.{[], ◌∷◌}
use mathlib.Core.Bool.{Bool, true, false, cond, ◌||◌}
use lib.Dec.{ltb, leb}
use lib.ListN.{length}
use Rattle.rules.specs.declared.Layout.{Layout}
use Rattle.rules.specs.declared.Action.{Action}
use Rattle.rules.specs.declared.Action.TheVariants.{Void, Bottom, Top, Gap, Once, Twice}
use Rattle.rules.specs.declared.Passage.{Passage}
use Rattle.rules.specs.declared.Passage.TheVariants.{P00, P02, P11, P20, P22}
use Rattle.rules.specs.Lists.{sum_of}
use Rattle.rules.specs.Store.{Point, Edge, along, front, back, InStore, depot_point, distance, layout_in_bounds}
use Rattle.rules.specs.Plans.{Plan, multiplicity, action_at, passage_at, aisle_treads, back_treads, front_treads, plan_length, length_of}
use Rattle.rules.specs.Walks.{Walk, step_to, walk_edges, walk_length}
use Rattle.rules.specs.FirstWalk.{WalkOf, steps_of}
use Rattle.rules.proofs.Admission.{layout_within}
use Rattle.closedwalks.specs.Ways.{PointOf, Leads, treads_from}
use Rattle.closedwalks.proofs.Sums.{sum_same, sum_bound}
use Rattle.closedwalks.proofs.Parity.{walk_sum}
use Rattle.closedwalks.proofs.Degrees.{depot_point_lem}
use Rattle.closedwalks.proofs.Walked.{closed_leads, of_walk}

count_steps : (x : Point) (walk : Walk) → sum_of (λ e. 1) (walk_edges x walk) ≡ length walk
count_steps x [] = refl
count_steps x (d ∷ walk) = omega (arith, count_steps (step_to x d) walk)

two_or_none : (b : Bool) → cond {A = ℕ} b 2 0 ≤ 2
two_or_none true = omega arith
two_or_none false = omega arith

action_twice : (a : Action) (k : ℕ) → aisle_treads a k ≤ 2
action_twice Void k = omega arith
action_twice (Bottom i) k = two_or_none (ltb k i)
action_twice (Top i) k = two_or_none (leb i k)
action_twice (Gap h i) k = two_or_none (ltb k h || leb i k)
action_twice Once k = omega arith
action_twice Twice k = omega arith

passage_twice : (p : Passage) → (back_treads p ≤ 2) × (front_treads p ≤ 2)
passage_twice P00 = omega arith
passage_twice P02 = omega arith
passage_twice P11 = omega arith
passage_twice P20 = omega arith
passage_twice P22 = omega arith

-- a plan treads no edge more than twice
pub treads_twice : (plan : Plan) (e : Edge) → multiplicity plan e ≤ 2
unfolding multiplicity
treads_twice plan (along j k) = action_twice (action_at plan j) k
treads_twice plan (front j) = (passage_twice (passage_at plan j)).1
treads_twice plan (back j) = (passage_twice (passage_at plan j)).0

-- the bounds of the layout that the walks need
pub layout_bounds : (z : Layout) → layout_in_bounds z ≡ true → (z.aisles ≤ 16) × (z.cells ≤ 24) × (1 ≤ z.depot) × (z.depot ≤ z.aisles)
layout_bounds z h = let b = (layout_within z).0 h in (b.aisles.1, b.cells.1, b.depot.0, b.depot.1)

module _ (z : Layout) where
  -- a walk has as many steps as the sum of its treads
  pub length_treads : (x : Point) (walk : Walk) (y : Point) → PointOf z x → Leads z x walk y → length walk ≡ steps_of z (treads_from x walk)
  unfolding steps_of
  length_treads x walk y p l =
      omega (arith, count_steps x walk, walk_sum z (λ e. 1) x walk y p l, sum_same z (λ e. treads_from x walk e * 1) (treads_from x walk) (λ e i. omega arith))

  pub same_steps : (f g : Edge → ℕ) → ((e : Edge) → InStore z e → f e ≡ g e) → steps_of z f ≡ steps_of z g
  unfolding steps_of
  same_steps f g h = sum_same z f g h

  -- a plan has at most 860 treads within the bounds of the layout
  pub few_treads : (plan : Plan) → layout_in_bounds z ≡ true → steps_of z (multiplicity plan) ≤ 860
  unfolding steps_of
  few_treads plan h =
      let b = layout_bounds z h in
      let rows = mul-le-mul b.0 (mul-le-mul (let c = b.1 in let t : suc z.cells ≤ 25 = omega arith in t) (let t : 2 ≤ 2 = omega arith in t)) in
      omega (arith, sum_bound z (multiplicity plan) 2 (treads_twice plan), rows, b.0)

  module _ (p : 1 ≤ z.depot) (q : z.depot ≤ z.aisles) (plan : Plan) (walk : Walk) (w : WalkOf z plan walk) where
    leads : Leads z (depot_point z) walk (depot_point z)
    leads = closed_leads z walk w.is_closed_lem

    -- a walk of a plan has one step for each tread of the plan
    pub walk_steps : length walk ≡ steps_of z (multiplicity plan)
    walk_steps =
        length_treads (depot_point z) walk (depot_point z) (depot_point_lem z p q) leads ∙ same_steps (treads_from (depot_point z) walk) (multiplicity plan) (of_walk z plan walk w)

    -- and the plan's length
    pub walk_long : walk_length z walk ≡ plan_length z plan
    unfolding walk_length plan_length length_of
    walk_long =
        walk_sum z (distance z) (depot_point z) walk (depot_point z) (depot_point_lem z p q) leads
        ∙ sum_same z (λ e. treads_from (depot_point z) walk e * distance z e) (λ e. multiplicity plan e * distance z e) (λ e i. rw (of_walk z plan walk w e i))
