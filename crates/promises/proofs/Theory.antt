-- The theory behind demands 2 and 3, statement by statement; each cites its proof.
use Prim.Native.Nat.{ℕ, ◌+◌, ◌*◌, ◌-◌, ◌≤◌}
use mathlib.Core.Path.{◌≡◌, sym, subst}
use mathlib.Core.Logic.{◌↔◌}
use mathlib.Core.List.{List, []}
use mathlib.Core.Bool.{true}
use lib.ListN.{length}
use Rattle.rules.specs.declared.Layout.{Layout}
use Rattle.rules.specs.declared.Action.{Action}
use Rattle.rules.specs.declared.OrderLine.{OrderLine}
use Rattle.rules.specs.Store.{Edge, InStore, aisle_length, layout_in_bounds}
use Rattle.rules.specs.Jobs.{Job}
use Rattle.rules.specs.Refusals.{Admitted}
use Rattle.rules.specs.Plans.{Plan, WellFormed, multiplicity, plan_length, plan_passes}
use Rattle.rules.specs.Lawful.{Lawful, LawfulFor}
use Rattle.rules.specs.Policies.{LargestGap, Allowed}
use Rattle.rules.specs.Machine.{keeps_largest_gap, accepts}
use Rattle.rules.specs.Serving.{PlanServes}
use Rattle.rules.specs.BestPlan.{best_plan, IsBest}
use Rattle.rules.specs.Walks.{Walk, ClosedWalk, walk_treads, walk_length, walk_passes, NotAfter}
use Rattle.rules.specs.FirstWalk.{WalkOf, first_walk}
use Rattle.rules.proofs.Lengths
use Rattle.rules.proofs.Stops
use Rattle.rules.proofs.Ceiling
use Rattle.tours.proofs.Machine
use Rattle.tours.proofs.Existence
use Rattle.optimum.proofs.Best.{best_plan_lem, best_plan_only}
use Rattle.closedwalks.proofs.Statements

-- the plans of the store that the executable test accepts are just those that the policy allows
pub machine_is_rules : (job : Job) (plan : Plan) → 1 ≤ job.layout.depot
    → (WellFormed job.layout plan × (accepts job plan ≡ true)) ↔ Allowed job plan
machine_is_rules = Machine.accepts_allowed

-- LARGEST's executable test for aisles between is its rule
pub largest_gap_is_tested : (job : Job) (j : ℕ) (a : Action) → (keeps_largest_gap job j a ≡ true) ↔ LargestGap job j a
largest_gap_is_tested = Stops.largest_gap

-- a plan that the policy allows and that serves the list exists wherever no line exceeds all the stock of its article
pub serving_plan : (job : Job) → Admitted job → (plan : Plan) × Allowed job plan × PlanServes job plan
serving_plan = Existence.allowed_exists

-- the best plan is the first of the shortest among them that enter the fewest aisles, and no other plan is
pub best_plan_is_best : (job : Job) → Admitted job → (plan : Plan) → IsBest job plan ↔ (plan ≡ best_plan job)
best_plan_is_best job a plan = (best_plan_only job a plan, λ e. subst (IsBest job) (sym e) (best_plan_lem job a))

module _ (z : Layout) (low : 1 ≤ z.depot) (high : z.depot ≤ z.aisles) where
  -- a closed walk that treads no edge more than twice reads as a plan, which is lawful; a plan is determined by its multiplicities
  pub walk_is_a_plan : (walk : Walk) → ¬ (walk ≡ []) → ClosedWalk z walk → ((e : Edge) → InStore z e → walk_treads z walk e ≤ 2)
      → (plan : Plan) × Lawful z plan × ((e : Edge) → InStore z e → multiplicity plan e ≡ walk_treads z walk e)
  walk_is_a_plan = Statements.walk_reads z low high

  -- no closed walk is shorter than its plan, however often it treads an edge; and the plan treads no edge that the walk does not
  pub walk_is_no_shorter : (walk : Walk) → ¬ (walk ≡ []) → ClosedWalk z walk
      → (plan : Plan) × Lawful z plan
      × ((j c : ℕ) → walk_passes z walk j c ≡ true → 1 ≤ c → c ≤ z.cells → plan_passes plan j c ≡ true)
      × (plan_length z plan ≤ walk_length z walk)
      × ((e : Edge) → InStore z e → walk_treads z walk e ≡ 0 → multiplicity plan e ≡ 0)
  walk_is_no_shorter = Statements.walk_plan z low high

  -- a plan that is lawful for a list can be walked
  pub plan_is_walked : (lines : List OrderLine) (plan : Plan) → LawfulFor z lines plan → (walk : Walk) × WalkOf z plan walk
  plan_is_walked = Statements.lawful_walked z low high

  -- the first walk is such a walk, and none comes before it in the alphabet
  pub walk_is_first : (lines : List OrderLine) (plan : Plan) → LawfulFor z lines plan
      → WalkOf z plan (first_walk z plan) × ((walk : Walk) → WalkOf z plan walk → NotAfter (first_walk z plan) walk)
  walk_is_first = Statements.first_walk_lem z low high

  -- a walk of a plan has at most 860 steps
  pub walk_is_bounded : (plan : Plan) (walk : Walk) → WalkOf z plan walk → layout_in_bounds z ≡ true → length walk ≤ 860
  walk_is_bounded = Statements.few_steps z low high

-- a plan is determined by its multiplicities
pub plan_is_determined : (z : Layout) (plan other : Plan) → WellFormed z plan → WellFormed z other → ((e : Edge) → InStore z e → multiplicity plan e ≡ multiplicity other e) → plan ≡ other
plan_is_determined = Statements.plan_determined

-- the bounds of a plan's length
pub length_is_bounded : (z : Layout) (plan : Plan) → WellFormed z plan → plan_length z plan ≤ z.aisles * (2 * aisle_length z) + (z.aisles - 1) * (4 * z.width)
length_is_bounded = Lengths.plan_length_bound

pub length_is_at_most_57280 : (z : Layout) (plan : Plan) → layout_in_bounds z ≡ true → WellFormed z plan → plan_length z plan ≤ 57280
length_is_at_most_57280 = Ceiling.plan_length_57280
