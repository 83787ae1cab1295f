-- What the search is stated with: what it asks of a job, and what it keeps.
use Prim.Native.Nat.{ℕ, ◌-◌, ◌≤◌}
use mathlib.Core.Path.{◌≡◌}
use mathlib.Core.Logic.{◌↔◌}
use mathlib.Core.List.{List}
use mathlib.Core.Bool.{Bool, true, false, ◌&&◌, ◌||◌}
use mathlib.Core.Option.{Option, none, some}
use Rattle.std.specs.declared.option.Option.{Option as Maybe}
use Rattle.std.specs.declared.option.Option.TheVariants.{Some, None}
use lib.Count.{ones}
use lib.Dec.{eqb, ltb}
use lib.ListN.{get_or, take}
use Rattle.rules.specs.Store.{layout_in_bounds}
use Rattle.rules.specs.Jobs.{Job}
use Rattle.rules.specs.Lists.{select}
use Rattle.rules.specs.BestPlan.{is_better, first_best, plans_of}
use Rattle.rules.specs.Plans.{Plan, WellFormed, plan_length}
use Rattle.rules.specs.Policies.{entered_aisles, Allowed}
use Rattle.rules.specs.Serving.{PlanServes}
use Rattle.values.specs.declared.PlanValue.{PlanValue}
use Rattle.values.specs.Values.{plan_of}
use Rattle.annex_search.specs.declared.search.Asked.{Asked}
use Rattle.annex_search.specs.declared.search.Kept.{Kept}
use Rattle.annex_plans.specs.OfStore.{PlanFor}
use Rattle.annex_stock.specs.Stocked.{StockOf}
use Rattle.annex_policy.specs.Ruled.{may_be_entered}
use Rattle.annex_policy.specs.Middle.{BetweenAsked, is_largest}

-- what is asked is that of a job
pub record AskedOf (job : Job) (asked : Asked) : Type 0 where
  pub layout : asked.layout ≡ job.layout
  pub policy : asked.policy ≡ job.policy
  pub lines : asked.lines.now ≡ job.lines
  pub stock : StockOf job asked.stock
  pub may : (j : ℕ) → 1 ≤ j → j ≤ asked.layout.aisles → get_or asked.may (j - 1) false ≡ may_be_entered job j
  pub between : BetweenAsked (is_largest asked.policy) job asked.layout asked.between
  pub small : asked.layout.aisles ≤ 3

-- what the tests ask: what is asked is that of a job, and the plan is one of its store
pub record Asking (job : Job) (asked : Asked) (plan : PlanValue) : Type 0 where
  pub asked_of_lem : AskedOf job asked
  pub plan_for : PlanFor asked.layout plan

-- the search is of a job with a small store
pub record Searching (job : Job) (asked : Asked) : Type 0 where
  pub asked_of_lem : AskedOf job asked
  pub bounds : layout_in_bounds job.layout ≡ true
  pub small : (job.layout.aisles ≤ 3) × (job.layout.cells ≤ 4)

-- a test that tells the plans which the policy allows and which serve the list
abbrev pub Tells : Job → (Plan → Bool) → Type 0
Tells job test = (plan : Plan) → WellFormed job.layout plan → (test plan ≡ true) ↔ (Allowed job plan × PlanServes job plan)

-- the plan that is kept
abbrev pub kept_plan : Maybe Kept → Option Plan
kept_plan None = none
kept_plan (Some kept) = some (plan_of kept.plan)

-- whether a plan of that length and with so many entered aisles is better than what is kept: nothing is kept, or the plan is shorter, or it
-- is as long and enters fewer aisles than are in the set that is kept
abbrev pub improves_on : Maybe Kept → ℕ → ℕ → Bool
improves_on None size aisles = true
improves_on (Some kept) size aisles = ltb size kept.length || (eqb size kept.length && ltb aisles (ones kept.entered))

-- whether the first of two plans is the better one (#108)
abbrev pub better : Job → Plan → Plan → Bool
better job = is_better (plan_length job.layout) entered_aisles

-- a kept plan is one of the job's store, and its length and its set are its own
pub record KeptRight (job : Job) (kept : Kept) : Type 0 where
  pub aisles : kept.plan.aisles ≡ job.layout.aisles
  pub length : kept.length ≡ plan_length job.layout (plan_of kept.plan)
  pub counted : ones kept.entered ≡ entered_aisles (plan_of kept.plan)

-- what is kept of some plans: the first of the best that pass, by any test that tells them
pub record KeptOf (job : Job) (best : Maybe Kept) (plans : List Plan) : Type 0 where
  pub right : (kept : Kept) → best ≡ Some kept → KeptRight job kept
  pub first : (test : Plan → Bool) → Tells job test → kept_plan best ≡ first_best (better job) (select test plans)

-- of the first n plans of the store
abbrev pub KeptTo : Job → Maybe Kept → ℕ → Type 0
KeptTo job best n = KeptOf job best (take n (plans_of job.layout.cells job.layout.aisles))

-- and of all of them
abbrev pub KeptAll : Job → Maybe Kept → Type 0
KeptAll job best = KeptOf job best (plans_of job.layout.cells job.layout.aisles)
