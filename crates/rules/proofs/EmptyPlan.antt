-- The plan that treads nothing (request #101): every aisle is VOID and every passage 00. It is the one plan of the store that treads no
-- edge, and the only one of length 0; its walk has no step, and it follows every policy.
use Prim.Native.Nat.{ℕ, suc, ◌*◌, ◌-◌, ◌≤◌, ◌<◌}
use native.Mathlib.Omega.{arith}
use mathlib.Core.Path.{◌≡◌, refl, sym, ◌∙◌, ap, ap₂, subst}
use mathlib.Core.Logic.{◌↔◌}
use mathlib.Core.List.{[]}
use mathlib.Core.Bool.{true, cond, and-eq-true_iff, true≢false}
use mathlib.Core.Option.{none, some, get_or}
use borrow.Author.Tests.{lt-ltb, le-leb, eq-eqb}
use lib.ListN.{length, replicate, length-replicate}
use Rattle.rules.specs.declared.Layout.{Layout}
use Rattle.rules.specs.declared.Policy.{Policy}
use Rattle.rules.specs.declared.Policy.TheVariants.{Exact, Return, Traversal, Midpoint, Composite, Largest}
use Rattle.rules.specs.declared.Action.{Action}
use Rattle.rules.specs.declared.Action.TheVariants.{Void, Bottom, Top, Gap, Once, Twice}
use Rattle.rules.specs.declared.Passage.{Passage}
use Rattle.rules.specs.declared.Passage.TheVariants.{P00, P02, P11, P20, P22}
use Rattle.rules.specs.Turned.{seen_from, passage_from}
use Rattle.rules.specs.Lists.{all_of}
use Rattle.rules.specs.declared.Side.{Side}
use Rattle.rules.specs.declared.Side.TheVariants.{FrontSide, BackSide}
use Rattle.rules.specs.Store.{side_of, Point, Edge, along, front, back, InStore, LayoutWithin, distance, edges_of, depot_point, same_point, aisle_length}
use Rattle.rules.specs.Jobs.{Job}
use Rattle.rules.specs.Plans.{Plan, WellFormed, Fits, action_at, passage_at, aisle_treads, back_treads, front_treads, multiplicity, length_of, plan_length, entered}
use Rattle.rules.specs.Lawful.{TreadsNothing}
use Rattle.rules.specs.Lengths.{action_length, passage_length}
use Rattle.rules.specs.declared.End.{End}
use Rattle.rules.specs.declared.End.TheVariants.{Leftmost, Rightmost}
use Rattle.rules.specs.Policies.{action_named, passage_named, Entered, First, Last, EnteredAt, walk_back_end, TraversalRule, MidpointRule, OwnRule, PolicyRules, Follows}
use Rattle.rules.specs.Machine.{is_void, is00, treads_nothing}
use Rattle.rules.specs.FirstWalk.{first_from, steps_of, first_walk}
use Rattle.rules.specs.BestPlan.{empty_plan}
use Rattle.rules.proofs.Lengths.{position_cell, position_monotone, plan_length_lem, well_formed_fits}
use Rattle.rules.proofs.Lists.{sum_none, none_of_sum, all_true, all_places, all_alike, all_replicate, nth_replicate}

-- VOID, and passage 00, told by their tests
pub void_told : (a : Action) → is_void a ≡ true → a ≡ Void
void_told Void e = refl
void_told (Bottom i) e = absurd (true≢false (sym e))
void_told (Top i) e = absurd (true≢false (sym e))
void_told (Gap h i) e = absurd (true≢false (sym e))
void_told Once e = absurd (true≢false (sym e))
void_told Twice e = absurd (true≢false (sym e))

none_told : (p : Passage) → is00 p ≡ true → p ≡ P00
none_told P00 e = refl
none_told P02 e = absurd (true≢false (sym e))
none_told P11 e = absurd (true≢false (sym e))
none_told P20 e = absurd (true≢false (sym e))
none_told P22 e = absurd (true≢false (sym e))

module _ (z : Layout) where
  -- in every aisle VOID, behind it 00
  pub empty_action : (j : ℕ) → action_at (empty_plan z) j ≡ Void
  unfolding action_at empty_plan
  empty_action j = nth_replicate z.aisles j Void

  empty_passage : (j : ℕ) → passage_at (empty_plan z) j ≡ P00
  unfolding passage_at empty_plan
  empty_passage j = nth_replicate (z.aisles - 1) j P00

  -- it is a plan of a store with an aisle
  pub empty_well_formed : 1 ≤ z.aisles → WellFormed z (empty_plan z)
  unfolding empty_plan
  empty_well_formed some_aisle =
      record {
        aisles = length-replicate z.aisles Void;
        passages = let n = length-replicate (z.aisles - 1) P00 in omega arith;
        fits = λ j. subst (Fits z.cells) (sym (empty_action j)) tt;
      }

  -- it treads no edge
  pub empty_untrodden : (e : Edge) → multiplicity (empty_plan z) e ≡ 0
  unfolding multiplicity
  empty_untrodden (along j k) = ap (λ a. aisle_treads a k) (empty_action j)
  empty_untrodden (front j) = ap front_treads (empty_passage j)
  empty_untrodden (back j) = ap back_treads (empty_passage j)

  pub empty_treads_nothing : 1 ≤ z.aisles → TreadsNothing z (empty_plan z)
  empty_treads_nothing some_aisle = record { well_formed = empty_well_formed some_aisle; untrodden = λ e i. empty_untrodden e }

  -- the test holds of it
  pub empty_tested : treads_nothing (empty_plan z) ≡ true
  unfolding treads_nothing empty_plan
  empty_tested = rw (all_replicate is_void Void refl z.aisles, all_replicate is00 P00 refl (z.aisles - 1))

  -- and of no other plan of the store
  tested_empty : (plan : Plan) → WellFormed z plan → treads_nothing plan ≡ true → plan ≡ empty_plan z
  unfolding treads_nothing empty_plan
  tested_empty plan wf e =
      let both = (and-eq-true_iff (all_of is_void plan.actions) (all_of is00 plan.passages)).0 e in
      let gaps : length plan.passages ≡ z.aisles - 1 = omega (arith, wf.passages) in
      let actions = all_alike is_void Void void_told plan.actions both.0 ∙ ap (λ n. replicate n Void) wf.aisles in
      let passages = all_alike is00 P00 none_told plan.passages both.1 ∙ ap (λ n. replicate n P00) gaps in
      ap₂ (λ xs ps. record { actions = xs; passages = ps }) actions passages

  -- an action that treads no edge of its aisle is VOID
  pub untrodden_void : (a : Action) → Fits z.cells a → ((k : ℕ) → k ≤ z.cells → aisle_treads a k ≡ 0) → is_void a ≡ true
  untrodden_void Void f h = refl
  untrodden_void (Bottom i) f h = let two : aisle_treads (Bottom i) 0 ≡ 2 = rw (lt-ltb 0 i (omega arith)) in absurd (omega (arith, h 0 (omega arith)))
  untrodden_void (Top i) f h = let two : aisle_treads (Top i) z.cells ≡ 2 = rw (le-leb i z.cells f.1) in absurd (omega (arith, h z.cells (omega arith)))
  untrodden_void (Gap k i) f h = let two : aisle_treads (Gap k i) 0 ≡ 2 = rw (lt-ltb 0 k (omega arith)) in absurd (omega (arith, h 0 (omega arith)))
  untrodden_void Once f h = absurd (omega (arith, h 0 (omega arith)))
  untrodden_void Twice f h = absurd (omega (arith, h 0 (omega arith)))

  untrodden_none : (p : Passage) → front_treads p ≡ 0 → back_treads p ≡ 0 → is00 p ≡ true
  untrodden_none P00 f b = refl
  untrodden_none P02 f b = absurd (omega arith)
  untrodden_none P11 f b = absurd (omega arith)
  untrodden_none P20 f b = absurd (omega arith)
  untrodden_none P22 f b = absurd (omega arith)

  nothing_tested : (plan : Plan) → TreadsNothing z plan → treads_nothing plan ≡ true
  unfolding treads_nothing multiplicity action_at passage_at InStore
  nothing_tested plan t = rw (all_places is_void Void plan.actions in_aisle, all_places is00 P00 plan.passages in_passage)
    where
      in_aisle : (j : ℕ) → j < length plan.actions → is_void (action_at plan (suc j)) ≡ true
      in_aisle j l =
          let m = t.well_formed.aisles in
          untrodden_void (action_at plan (suc j)) (t.well_formed.fits (suc j)) (λ k h. t.untrodden (along (suc j) k) (omega arith, omega arith, h))

      in_passage : (j : ℕ) → j < length plan.passages → is00 (passage_at plan (suc j)) ≡ true
      in_passage j l =
          let m = t.well_formed.passages in
          let at_front = t.untrodden (front (suc j)) (omega arith, omega arith) in
          let at_back = t.untrodden (back (suc j)) (omega arith, omega arith) in
          untrodden_none (passage_at plan (suc j)) at_front at_back

  -- so the test tells it, and it is the one plan of the store that treads nothing
  pub treads_nothing_lem : (plan : Plan) → WellFormed z plan → (treads_nothing plan ≡ true) ↔ TreadsNothing z plan
  treads_nothing_lem plan wf = (
    λ e. record { well_formed = wf; untrodden = λ edge i. ap (λ p. multiplicity p edge) (tested_empty plan wf e) ∙ empty_untrodden edge },
    nothing_tested plan,
  )

  pub one_empty_plan : (plan : Plan) → TreadsNothing z plan → plan ≡ empty_plan z
  one_empty_plan plan t = tested_empty plan t.well_formed (nothing_tested plan t)

  -- its length is 0
  pub empty_length : plan_length z (empty_plan z) ≡ 0
  unfolding plan_length length_of
  empty_length = sum_none (λ e. multiplicity (empty_plan z) e * distance z e) (edges_of z) (λ e. rw (empty_untrodden e) (omega arith))

  -- and its walk has no step
  empty_steps : steps_of z (multiplicity (empty_plan z)) ≡ 0
  unfolding steps_of
  empty_steps = sum_none (multiplicity (empty_plan z)) (edges_of z) empty_untrodden

  point_self : (x : Point) → same_point x x ≡ true
  unfolding same_point
  point_self x = rw (eq-eqb x.aisle x.aisle refl, eq-eqb x.height x.height refl)

  pub empty_walk : first_walk z (empty_plan z) ≡ []
  unfolding first_walk
  empty_walk =
      let treads = multiplicity (empty_plan z) in
      ap (λ n. get_or (first_from z n treads (depot_point z)) []) empty_steps
      ∙ ap (λ b. get_or (cond b (some []) none) []) (point_self (depot_point z))

-- within the bounds every other action and passage adds to the length
module _ (z : Layout) (bounds : LayoutWithin z) where
  void_alone : (a : Action) → Fits z.cells a → action_length z a ≡ 0 → is_void a ≡ true
  unfolding action_length aisle_length
  void_alone Void f e = refl
  void_alone (Bottom i) f e = absurd (omega (arith, position_cell z i f.0 f.1, bounds.front))
  void_alone (Top i) f e =
      absurd (omega (arith, position_monotone z i z.cells f.1, position_cell z z.cells bounds.cells.0 (omega arith), bounds.back))
  void_alone (Gap h i) f e = absurd (omega (arith, position_cell z h f.0 (omega arith), bounds.front))
  void_alone Once f e = absurd (omega (arith, bounds.back))
  void_alone Twice f e = absurd (omega (arith, bounds.back))

  none_alone : (p : Passage) → passage_length z p ≡ 0 → is00 p ≡ true
  unfolding passage_length
  none_alone P00 e = refl
  none_alone P02 e = absurd (omega (arith, bounds.width))
  none_alone P11 e = absurd (omega (arith, bounds.width))
  none_alone P20 e = absurd (omega (arith, bounds.width))
  none_alone P22 e = absurd (omega (arith, bounds.width))

  -- so the plan that treads nothing is the only one of length 0
  pub empty_alone : (plan : Plan) → WellFormed z plan → plan_length z plan ≡ 0 → plan ≡ empty_plan z
  unfolding treads_nothing
  empty_alone plan wf e =
      let sums = plan_length_lem z plan wf in
      let actions = none_of_sum (action_length z) plan.actions (omega arith) in
      let passages = none_of_sum (passage_length z) plan.passages (omega arith) in
      let voids = (all_true is_void plan.actions).1 (λ a m. void_alone a (well_formed_fits z plan wf a m) (actions a m)) in
      let nones = (all_true is00 plan.passages).1 (λ p m. none_alone p (passages p m)) in
      tested_empty z plan wf (rw (voids, nones))

-- every policy names VOID and 00
pub named_void : (side : Side) (p : Policy) → (action_named side p Void ≡ true) × (passage_named side p P00 ≡ true)
named_void side Exact = (refl, refl)
named_void side Return = (refl, refl)
named_void side Traversal = (refl, refl)
named_void side Midpoint = (refl, refl)
named_void side Composite = (refl, refl)
named_void side Largest = (refl, refl)

-- VOID and 00 are the same from either side
pub seen_void : (side : Side) (cells : ℕ) → seen_from side cells Void ≡ Void
seen_void FrontSide cells = refl
seen_void BackSide cells = refl

pub seen_00 : (side : Side) → passage_from side P00 ≡ P00
seen_00 FrontSide = refl
seen_00 BackSide = refl

module _ (job : Job) where
  abbrev idle : Plan
  idle = empty_plan job.layout

  -- no aisle of it is entered
  empty_entered : (j : ℕ) → Entered idle j → ⊥
  unfolding Entered
  empty_entered j e = true≢false (sym e ∙ ap entered (empty_action job.layout j))

  -- none is at an end of those entered
  empty_end : (end : End) (j : ℕ) → EnteredAt end idle j → ⊥
  unfolding First Last
  empty_end Leftmost j f = empty_entered j f.0
  empty_end Rightmost j l = empty_entered j l.0

  empty_traversal : TraversalRule (side_of job.layout) job.layout idle
  empty_traversal =
      record {
        even = λ e j i. absurd (empty_entered j i);
        odd_walked_back = λ e j b. absurd (empty_end (walk_back_end job.layout) j b);
        odd_others = λ e j i l. absurd (empty_entered j i);
      }

  empty_midpoint : {Between : ℕ → Action → Type 0} → MidpointRule (side_of job.layout) Between idle
  unfolding First Last
  empty_midpoint =
      record {
        single = λ e j i. absurd (empty_entered j i);
        first = λ e j f. absurd (empty_entered j f.0);
        last = λ e j l. absurd (empty_entered j l.0);
        between = λ e i j k f l low high. absurd (empty_entered i f.0);
      }

  empty_own : (policy : Policy) → OwnRule policy job idle
  empty_own Exact = tt
  empty_own Return = tt
  empty_own Traversal = empty_traversal
  empty_own Midpoint = empty_midpoint
  empty_own Composite = tt
  empty_own Largest = empty_midpoint

  empty_rules : PolicyRules (OwnRule job.policy job idle) job idle
  empty_rules =
      let named = named_void (side_of job.layout) job.policy in
      record {
        actions = λ j. rw (empty_action job.layout j) named.0;
        passages = λ j. rw (empty_passage job.layout j) named.1;
        void = λ j h. empty_action job.layout j;
        own = empty_own job.policy;
      }

  -- it follows every policy
  pub empty_follows : (policy : Policy) → Follows policy job idle
  empty_follows Exact = tt
  empty_follows Return = empty_rules
  empty_follows Traversal = empty_rules
  empty_follows Midpoint = empty_rules
  empty_follows Composite = empty_rules
  empty_follows Largest = empty_rules
