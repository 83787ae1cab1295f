-- The plans of the test, with TWICE and 22.
use Rattle.std.specs.Prelude.{ℕ, ◌-◌, ◌≤◌, List, [], ◌∷◌, ◌++◌, length, replicate}
use Rattle.std.proofs.Common.{lit≤}
use Rattle.rules.specs.declared.Layout.{Layout}
use Rattle.rules.specs.declared.Posts.{Posts}
use Rattle.rules.specs.declared.Posts.TheVariants.{Sided}
use Rattle.rules.specs.declared.Side.TheVariants.{BackSide}
use Rattle.rules.specs.declared.Action.{Action}
use Rattle.rules.specs.declared.Action.TheVariants.{Void, Top, Gap, Once, Twice}
use Rattle.rules.specs.declared.Passage.{Passage}
use Rattle.rules.specs.declared.Passage.TheVariants.{P00, P02, P11, P20, P22}
use Rattle.values.specs.declared.Stage.{Stage}
use Rattle.values.specs.declared.PlanValue.{PlanValue}

-- a store in which all distances are 1
abbrev pub store_of : ℕ → ℕ → ℕ → Posts → Layout
store_of aisles cells depot posts = record { aisles = aisles; cells = cells; front = 1; pitch = 1; back = 1; width = 1; depot = depot; posts = posts }

-- no posts, and the depot at the back
abbrev pub back_depot : Posts
back_depot = Sided 1 0 BackSide

-- an action and the passage behind it
abbrev pub stage : Action → Passage → Stage
stage action passage = record { action = action; passage = passage }

-- the stages of the aisles from the first on, and behind them those that do not count
abbrev pub padded : List Stage → List Stage
padded stages = stages ++ replicate (16 - length stages) (stage Void P00)

-- a plan of these aisles
abbrev pub plan_with : (stages : List Stage) → length stages ≤ 16 → PlanValue
plan_with stages fits = record { aisles = length stages; stages = padded stages; fits = fits }

-- ONCE and TWICE
abbrev pub mixed : PlanValue
mixed = plan_with (stage Void P22 ∷ stage Once P11 ∷ stage Once P22 ∷ stage Twice P00 ∷ []) (lit≤ tt)

-- six aisles, the depot at the last
abbrev pub six : PlanValue
six = plan_with (stage (Gap 1 3) P22 ∷ stage (Gap 3 4) P22 ∷ stage Twice P02 ∷ stage Twice P20 ∷ stage Twice P22 ∷ stage (Top 3) P00 ∷ []) (lit≤ tt)

-- two aisles, each trodden twice
abbrev pub two : PlanValue
two = plan_with (stage Twice P22 ∷ stage Twice P00 ∷ []) (lit≤ tt)
