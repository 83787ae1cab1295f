-- The test for aisles between the first and the last entered.
use Prim.Native.Nat.{ℕ, ◌-◌, ◌≤◌}
use mathlib.Core.Path.{◌≡◌}
use mathlib.Core.List.{List}
use mathlib.Core.Bool.{Bool, true, false}
use lib.ListN.{get_or}
use Rattle.rules.specs.declared.Policy.{Policy}
use Rattle.rules.specs.declared.Policy.TheVariants.{Exact, Return, Traversal, Midpoint, Composite, Largest}
use Rattle.rules.specs.declared.Action.{Action}
use Rattle.rules.specs.declared.Side.{Side}
use Rattle.rules.specs.Jobs.{Job}
use Rattle.rules.specs.declared.Layout.{Layout}
use Rattle.rules.specs.Policies.{halved}
use Rattle.rules.specs.Machine.{keeps_largest_gap}
use Rattle.between.specs.declared.Between.{Between}
use Rattle.between.specs.Between.{between_of}
use Rattle.annex_policy.specs.Rows.{WalksAs}

-- what it says of an action: LARGEST's (`gaps`) or MIDPOINT's
abbrev pub between_said : Bool → Job → ℕ → Action → Bool
between_said true job j a = keeps_largest_gap job j a
between_said false job j a = halved job.layout a

-- the arrays are those of a job with this layout, aisle by aisle
pub record BetweenAsked (gaps : Bool) (job : Job) (z : Layout) (betweens : List Between) : Type 0 where
  pub layout : z ≡ job.layout
  pub at : (j : ℕ) (d : Between) → 1 ≤ j → j ≤ z.aisles → get_or betweens (j - 1) d ≡ between_of gaps job j

-- what is asked of an action: of a single entered aisle, of an end, of one between
abbrev pub MidAt : Side → Bool → Bool → Action → Bool → Type 0
MidAt side true end a keeps = WalksAs side a true
MidAt side false true a keeps = WalksAs side a false
MidAt side false false a keeps = keeps ≡ true

-- whether the test is LARGEST's
abbrev pub is_largest : Policy → Bool
is_largest Exact = false
is_largest Return = false
is_largest Traversal = false
is_largest Midpoint = false
is_largest Composite = false
is_largest Largest = true
