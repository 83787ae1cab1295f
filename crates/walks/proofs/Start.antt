-- Where the walk starts: the treads of a plan that is lawful, if only for an empty list, can be walked from the depot, and the letters
-- to come are those of its first walk.
use Prim.Native.Nat.{ℕ, zero, suc, ◌+◌, ◌%◌, ◌≤◌, ◌<◌}
use native.Mathlib.Omega.{arith}
use mathlib.Core.Path.{◌≡◌, refl, sym, ap, ◌∙◌, subst}
use mathlib.Core.Logic.{◌⊎◌, inl, inr}
use mathlib.Core.List.{[]}
use mathlib.Core.Bool.{Bool, true, false, ◌&&◌}
use mathlib.Core.Option.{Option, get_or}
use lib.Dec.{ltb}
use lib.ListN.{length}
use borrow.Author.Tests.{le-ltb}
use Rattle.rules.specs.declared.Layout.{Layout}
use Rattle.rules.specs.declared.Direction.{Direction}
use Rattle.rules.specs.declared.Direction.TheVariants.{Back, Front, Left, Right}
use Rattle.rules.specs.Store.{Point, Edge, InStore, depot_point}
use Rattle.rules.specs.Plans.{multiplicity}
use Rattle.rules.specs.Walks.{Walk, can_step, step_to, step_edge}
use Rattle.rules.specs.FirstWalk.{without, first_way, step_then, first_from, first_walk, steps_of}
use Rattle.closedwalks.specs.Ways.{PointOf, same}
use Rattle.closedwalks.specs.Greedy.{greedy, Ready}
use Rattle.closedwalks.proofs.Splits.{none_or_some}
use Rattle.closedwalks.proofs.Steps.{stepped}
use Rattle.closedwalks.proofs.Parity.{degree_same}
use Rattle.closedwalks.proofs.Links.{joined_same}
use Rattle.closedwalks.proofs.Counts.{layout_bounds, same_steps, few_treads}
use Rattle.closedwalks.proofs.First.{tried, tried_free, tried_shut}
use Rattle.closedwalks.proofs.Greedily.{greedy_found, lawful_ready}
use Rattle.closedwalks.proofs.Statements.{first_walk_lem, few_steps}
use Rattle.flood.specs.Points.{depot_number}
use Rattle.values.specs.declared.PlanValue.{PlanValue}
use Rattle.values.specs.Values.{plan_of}
use Rattle.treads.specs.Treads.{spot, point_at, left_of}
use Rattle.walks.specs.Letters.{finds, Walkable, letters_left}
use Rattle.walks.specs.Lawfully.{LawfulPlan}
use Rattle.treads.proofs.Places.{spot_point}
use Rattle.walks.proofs.Choice.{finds_tells}
use Rattle.treads.proofs.Filled.{plan_list, plan_charted, plan_treads}

-- treads that agree on the store's edges
module _ (z : Layout) where
  -- what is left can be walked alike
  ready_same : (f g : Edge → ℕ) (x : Point) → ((e : Edge) → InStore z e → f e ≡ g e) → Ready z f x → Ready z g x
  ready_same f g x h r =
      record {
        point = r.point;
        balanced = λ p o. subst (λ (n : ℕ). (n + same p x + same p (depot_point z)) % 2 ≡ 0) (degree_same z f g p o h) (r.balanced p o);
        joined = joined_same z f g x (λ e i u. omega (arith, h e i)) (λ e i u. omega (arith, h e i)) r.joined;
      }

  -- the search tries a letter alike, where it agrees on what follows
  letter_same : (n : ℕ) (f g : Edge → ℕ) (x : Point) (d : Direction) → PointOf z x → ((e : Edge) → InStore z e → f e ≡ g e)
      → (can_step z x d ≡ true → first_from z n (without f (step_edge x d)) (step_to x d) ≡ first_from z n (without g (step_edge x d)) (step_to x d)) → tried z n f x d ≡ tried z n g x d
  letter_same n f g x d p h behind = go (can_step z x d) refl (none_or_some (f (step_edge x d)))
    where
      shut : (b : Bool) → can_step z x d ≡ b → (b && ltb 0 (f (step_edge x d))) ≡ false → (b && ltb 0 (g (step_edge x d))) ≡ false → tried z n f x d ≡ tried z n g x d
      shut b c s t =
          tried_shut z n f x d (ap (λ (u : Bool). u && ltb 0 (f (step_edge x d))) c ∙ s) ∙ sym (tried_shut z n g x d (ap (λ (u : Bool). u && ltb 0 (g (step_edge x d))) c ∙ t))

      go : (b : Bool) → can_step z x d ≡ b → ((f (step_edge x d) ≡ 0) ⊎ (0 < f (step_edge x d))) → tried z n f x d ≡ tried z n g x d
      go false c s = shut false c refl refl
      go true c (inl s) =
          let e = h (step_edge x d) (stepped z x p d c).edge in
          shut true c (le-ltb 0 (f (step_edge x d)) (omega arith)) (le-ltb 0 (g (step_edge x d)) (omega arith))
      go true c (inr s) =
          let e = h (step_edge x d) (stepped z x p d c).edge in
          tried_free z n f x d c s ∙ ap (step_then d) (behind c) ∙ sym (tried_free z n g x d c (omega arith))

  -- so the search finds the same
  first_same : (n : ℕ) (f g : Edge → ℕ) (x : Point) → PointOf z x → ((e : Edge) → InStore z e → f e ≡ g e) → first_from z n f x ≡ first_from z n g x
  unfolding without
  first_same zero f g x p h = refl
  first_same (suc n) f g x p h =
      let behind : (d : Direction) → can_step z x d ≡ true → first_from z n (without f (step_edge x d)) (step_to x d) ≡ first_from z n (without g (step_edge x d)) (step_to x d) =
      λ d c. first_same n (without f (step_edge x d)) (without g (step_edge x d)) (step_to x d) (stepped z x p d c).end (λ e i. omega (arith, h e i)) in
      let letter : (d : Direction) → tried z n f x d ≡ tried z n g x d = λ d. letter_same n f g x d p h (behind d) in
      λ i. first_way (letter Back i) (first_way (letter Front i) (first_way (letter Left i) (letter Right i)))

module _ (z : Layout) (plan : PlanValue) (w : LawfulPlan z plan) where
  -- the bounds of the store
  wide : z.aisles ≤ 16
  wide = (layout_bounds z w.bounds).0

  deep : z.cells ≤ 24
  deep = (layout_bounds z w.bounds).1

  low : 1 ≤ z.depot
  low = (layout_bounds z w.bounds).2

  high : z.depot ≤ z.aisles
  high = (layout_bounds z w.bounds).3

  -- the list has the plan's treads
  agrees : (e : Edge) → InStore z e → multiplicity (plan_of plan) e ≡ left_of z (plan_list z plan) e
  agrees e i = sym (plan_treads z wide deep plan w.aisles e i)

  -- such a plan can be walked
  planned : Ready z (multiplicity (plan_of plan)) (depot_point z)
  planned = lawful_ready z (plan_of plan) low high w.lawful

  -- the depot's number
  depot_at : point_at (depot_number z) ≡ depot_point z
  unfolding spot depot_number
  depot_at = spot_point z wide deep (depot_point z) planned.point

  -- the walk can start at the depot
  pub start_walkable : Walkable z (plan_list z plan) (depot_number z)
  start_walkable =
      record {
        bounds = w.bounds;
        charted = plan_charted z wide deep plan w.aisles;
        ready = subst (λ (x : Point). Ready z (left_of z (plan_list z plan)) x) (sym depot_at)
            (ready_same z (multiplicity (plan_of plan)) (left_of z (plan_list z plan)) (depot_point z) agrees planned);
      }

  -- there is room for its letters
  pub start_few : steps_of z (left_of z (plan_list z plan)) ≤ 860
  start_few = omega (arith, same_steps z (multiplicity (plan_of plan)) (left_of z (plan_list z plan)) agrees, few_treads z (plan_of plan) w.bounds)

  -- its letters are those of the first walk
  pub start_letters : letters_left z (plan_list z plan) (depot_number z) ≡ first_walk z (plan_of plan)
  unfolding letters_left first_walk
  start_letters =
      let f = multiplicity (plan_of plan) in
      let g = left_of z (plan_list z plan) in
      let steps = same_steps z f g agrees in
      let found = greedy_found z (finds z) (finds_tells z) (steps_of z g) g (depot_point z) (ready_same z f g (depot_point z) agrees planned) refl in
      let first = ap (λ (n : ℕ). first_from z n f (depot_point z)) steps ∙ first_same z (steps_of z g) f g (depot_point z) planned.point agrees ∙ found in
      ap (λ (x : Point). greedy z (finds z) (steps_of z g) g x) depot_at ∙ sym (ap (λ (o : Option Walk). get_or o []) first)

  -- which are at most 860
  pub walk_short : length (first_walk z (plan_of plan)) ≤ 860
  walk_short = few_steps z low high (plan_of plan) (first_walk z (plan_of plan)) (first_walk_lem z low high [] (plan_of plan) w.lawful).0 w.bounds
