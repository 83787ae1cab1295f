-- The rules of a policy, as the tests see them.
use Prim.Native.Nat.{ℕ, ◌-◌, ◌≤◌}
use mathlib.Core.Path.{◌≡◌}
use mathlib.Core.List.{List}
use mathlib.Core.Bool.{Bool, true, false, ◌&&◌, ◌||◌}
use lib.ListN.{get_or}
use Rattle.rules.specs.declared.Layout.{Layout}
use Rattle.rules.specs.declared.Policy.{Policy}
use Rattle.rules.specs.declared.Policy.TheVariants.{Exact, Return, Traversal, Midpoint, Composite, Largest}
use Rattle.rules.specs.declared.Action.TheVariants.{Void}
use Rattle.rules.specs.Store.{side_of}
use Rattle.rules.specs.Hours.{is_open}
use Rattle.rules.specs.Jobs.{Job, holds_listed}
use Rattle.rules.specs.Plans.{Plan, action_at, passage_at}
use Rattle.rules.specs.Policies.{action_named, passage_named}
use Rattle.values.specs.declared.PlanValue.{PlanValue}

-- whether a policy lets an aisle be entered that holds no article of the list: EXACT alone does
abbrev pub enters_any : Policy → Bool
enters_any Exact = true
enters_any Return = false
enters_any Traversal = false
enters_any Midpoint = false
enters_any Composite = false
enters_any Largest = false

-- whether aisle j may be entered
abbrev pub may_be_entered : Job → ℕ → Bool
may_be_entered job j = is_open job.hours j && (enters_any job.policy || holds_listed job j)

-- what a policy asks beside its own rule, and that shut aisles are VOID
pub record Named (job : Job) (plan : Plan) : Type 0 where
  pub actions : (j : ℕ) → action_named (side_of job.layout) job.policy (action_at plan j) ≡ true
  pub passages : (j : ℕ) → passage_named (side_of job.layout) job.policy (passage_at plan j) ≡ true
  pub void : (j : ℕ) → may_be_entered job j ≡ false → action_at plan j ≡ Void

-- layout and policy are a job's, and the flags say which aisles of the plan may be entered
pub record RulesAsked (job : Job) (z : Layout) (may : List Bool) (policy : Policy) (plan : PlanValue) : Type 0 where
  pub layout : z ≡ job.layout
  pub same : policy ≡ job.policy
  pub may_at : (j : ℕ) → 1 ≤ j → j ≤ plan.aisles → get_or may (j - 1) false ≡ may_be_entered job j
