-- What a job's policy allows is, turned front to back, allowed in the turned job: under every policy and with the depot at either side.
use Prim.Native.Nat.{ℕ, suc, ◌-◌}
use mathlib.Core.Path.{◌≡◌, sym, ◌∙◌, ap, subst}
use mathlib.Core.Logic.{inl, inr}
use mathlib.Core.List.{List, [], ◌∷◌}
use mathlib.Core.Bool.{true}
use native.Mathlib.Omega.{arith}
use Rattle.rules.specs.declared.Layout.{Layout}
use Rattle.rules.specs.declared.OrderLine.{OrderLine}
use Rattle.rules.specs.declared.Side.{Side}
use Rattle.rules.specs.declared.Side.TheVariants.{FrontSide, BackSide}
use Rattle.rules.specs.declared.Policy.{Policy}
use Rattle.rules.specs.declared.Policy.TheVariants.{Exact, Return, Traversal, Midpoint, Composite, Largest}
use Rattle.rules.specs.declared.Action.TheVariants.{Once}
use Rattle.rules.specs.Store.{Point, side_of, height_at, depot_point}
use Rattle.rules.specs.Jobs.{Job}
use Rattle.rules.specs.Plans.{Plan, WellFormed, action_at, passage_at}
use Rattle.rules.specs.Lawful.{LawfulAt, Lawful, TreadsNothing, LawfulFor}
use Rattle.rules.specs.Policies.{walk_back_end, WalkedFrom, halved, LargestGap, ShutVoid, OwnRule, PolicyRules, Follows, Allowed, action_named, passage_named}
use Rattle.rules.specs.Turned.{turned_action, turned_plan}
use Rattle.rules.proofs.EmptyList.{lawful_well_formed}
use Rattle.mirror.specs.Turned.{other_side, turned_point, turned_edge, turned_into, Opposite}
use Rattle.mirror.proofs.Plans.{turned_action_at, turned_passage_at, turned_well_formed}
use Rattle.mirror.proofs.Lawful.{point_is, turned_in, back_grid, back_multiplicity, turned_lawful}
use Rattle.mirror.proofs.Named.{turned_action_named, turned_passage_named}
use Rattle.mirror.proofs.Lengths.{turned_halved}
use Rattle.mirror.proofs.Serving.{InCells, turned_holds}
use Rattle.mirror.proofs.Gaps.{turned_largest}
use Rattle.mirror.proofs.Rules.{turned_alike, carry_midpoint, carry_traversal, turned_walked}

module _ (z y : Layout) (o : Opposite z y) (plan : Plan) where
  -- the depot's point, turned
  turned_depot : turned_point z.cells (depot_point z) ≡ depot_point y
  unfolding depot_point
  turned_depot = point_is (sym o.depot) (go (side_of z) ∙ sym (ap (λ (s : Side). height_at s y.cells) o.side))
    where
      go : (side : Side) → suc z.cells - height_at side z.cells ≡ height_at (other_side side) y.cells
      go FrontSide = omega (arith, o.grid.cells)
      go BackSide = omega arith

  -- a lawful plan turned is lawful
  lawful_there : Lawful z plan → Lawful y (turned_plan z.cells plan)
  lawful_there law = subst (λ (x : Point). LawfulAt x y (turned_plan z.cells plan)) turned_depot (turned_lawful z y o.grid (depot_point z) plan law)

  -- one that treads nothing treads nothing
  idle_there : TreadsNothing z plan → TreadsNothing y (turned_plan z.cells plan)
  idle_there idle =
      record {
        well_formed = turned_well_formed plan o.grid idle.well_formed;
        untrodden = λ e i.
            sym (back_multiplicity z y o.grid plan idle.well_formed e i)
            ∙ idle.untrodden (turned_edge y.cells e) (turned_in y z (back_grid z y o.grid) e i);
      }

  turned_lawful_for : (lines : List OrderLine) → LawfulFor z lines plan → LawfulFor y lines (turned_plan z.cells plan)
  turned_lawful_for [] (inl law) = inl (lawful_there law)
  turned_lawful_for [] (inr idle) = inr (idle_there idle)
  turned_lawful_for (l ∷ lines) law = lawful_there law

module _ (job : Job) (y : Layout) (within : InCells job) (o : Opposite job.layout y) (plan : Plan) (wf : WellFormed job.layout plan) where
  abbrev turned : Plan
  turned = turned_plan job.layout.cells plan

  -- an aisle walked from the depot's side and back is walked so there
  walked_there : (j : ℕ) → WalkedFrom (side_of job.layout) (action_at plan j) → WalkedFrom (side_of y) (action_at turned j)
  walked_there j w =
      let cells = job.layout.cells in
      let other = turned_walked (side_of job.layout) cells (action_at plan j) w in
      let there = subst (λ (s : Side). WalkedFrom s (turned_action cells (action_at plan j))) (sym o.side) other in
      subst (WalkedFrom (side_of y)) (sym (turned_action_at cells plan j)) there

  once_there : (j : ℕ) → action_at plan j ≡ Once → action_at turned j ≡ Once
  once_there j e = turned_action_at job.layout.cells plan j ∙ ap (turned_action job.layout.cells) e

  same_end : walk_back_end y ≡ walk_back_end job.layout
  same_end = rw (o.grid.aisles, o.depot)

  -- the rules for aisles between
  halved_there : (j : ℕ) → halved job.layout (action_at plan j) ≡ true → halved y (action_at turned j) ≡ true
  halved_there j h = ap (halved y) (turned_action_at job.layout.cells plan j) ∙ turned_halved job.layout y o (action_at plan j) (wf.fits j) ∙ h

  largest_there : (j : ℕ) → LargestGap job j (action_at plan j) → LargestGap (turned_into y job) j (action_at turned j)
  largest_there j rule =
      let there = turned_largest job y within o j (action_at plan j) (wf.fits j) rule in
      subst (LargestGap (turned_into y job) j) (sym (turned_action_at job.layout.cells plan j)) there

  -- the policies' own rules
  turned_own : (policy : Policy) → OwnRule policy job plan → OwnRule policy (turned_into y job) turned
  turned_own Exact own = tt
  turned_own Return own = tt
  turned_own Traversal own = carry_traversal (turned_alike job.layout.cells plan) same_end walked_there once_there own
  turned_own Midpoint own =
      carry_midpoint {B = λ j a. halved job.layout a ≡ true} {D = λ j a. halved y a ≡ true}
      (turned_alike job.layout.cells plan) walked_there once_there halved_there own
  turned_own Composite own = tt
  turned_own Largest own = carry_midpoint (turned_alike job.layout.cells plan) walked_there once_there largest_there own

  -- and with them all that a policy asks
  turned_rules : PolicyRules (OwnRule job.policy job plan) job plan → PolicyRules (OwnRule job.policy (turned_into y job) turned) (turned_into y job) turned
  turned_rules rules =
      let cells = job.layout.cells in
      let policy = job.policy in
      let side = side_of job.layout in
      record {
        actions = λ j.
            ap (λ (s : Side). action_named s policy (action_at turned j)) o.side
            ∙ ap (action_named (other_side side) policy) (turned_action_at cells plan j)
            ∙ turned_action_named side policy cells (action_at plan j) (wf.fits j)
            ∙ rules.actions j;
        passages = λ j.
            ap (λ (s : Side). passage_named s policy (passage_at turned j)) o.side
            ∙ ap (passage_named (other_side side) policy) (turned_passage_at cells plan j)
            ∙ turned_passage_named side policy (passage_at plan j)
            ∙ rules.passages j;
        void = λ j e. turned_action_at cells plan j ∙ ap (turned_action cells) (rules.void j (sym (turned_holds job y j) ∙ e));
        own = turned_own policy rules.own;
      }

  turned_follows : (policy : Policy) → Follows policy job plan → Follows policy (turned_into y job) turned
  turned_follows Exact f = tt
  turned_follows Return f = turned_rules f
  turned_follows Traversal f = turned_rules f
  turned_follows Midpoint f = turned_rules f
  turned_follows Composite f = turned_rules f
  turned_follows Largest f = turned_rules f

-- what the policy allows is a plan of the store
pub allowed_formed : (job : Job) (plan : Plan) → Allowed job plan → WellFormed job.layout plan
allowed_formed job plan a = lawful_well_formed job.layout job.lines plan a.lawful

-- and turned it is allowed in the turned job
pub turned_allowed : (job : Job) (y : Layout) → InCells job → Opposite job.layout y → (plan : Plan)
    → Allowed job plan → Allowed (turned_into y job) (turned_plan job.layout.cells plan)
unfolding ShutVoid
turned_allowed job y within o plan a =
    record {
      lawful = turned_lawful_for job.layout y o plan job.lines a.lawful;
      follows = turned_follows job y within o plan (allowed_formed job plan a) job.policy a.follows;
      shut = λ j e. turned_action_at job.layout.cells plan j ∙ ap (turned_action job.layout.cells) (a.shut j e);
    }
