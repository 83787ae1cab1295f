-- The plan that is read out of the table, aisle by aisle.
use Rattle.std.specs.Prelude.{ℕ, suc, ◌+◌, ◌*◌, ◌-◌, ◌^◌, ◌≤◌, ◌<◌, ◌≡◌, List, [], ◌++◌, map, length, take, set}
use Rattle.std.proofs.Math.Option.{Option, some}
use Rattle.std.specs.Int.Count.{ones}
use Rattle.rules.specs.Jobs.{Job}
use Rattle.rules.specs.Machine.{State}
use Rattle.rules.specs.Refusals.{weight}
use Rattle.rules.specs.BestPlan.{best_plan}
use Rattle.optimum.specs.Table.{Rest, value, choose}
use Rattle.optimum.specs.Demand.{radices, demand_of}
use Rattle.optimum.specs.Routing.{no_key, routing, all_actions, rest_of}
use Rattle.values.specs.declared.Stage.{Stage}
use Rattle.machine.specs.States.{state_of}
use Rattle.rows.specs.Pairs.{Holds}
use Rattle.table.specs.declared.filling.Order.{Order}
use Rattle.table.specs.TableHolds.{OrderOf, RowHolds, TableFrom}
use Rattle.router.specs.declared.choices.At.{At}
use Rattle.router.specs.declared.choices.Crossed.{Crossed}
use Rattle.router.specs.declared.trace.Trace.{Trace}

-- the work area and the ones beside it hold the table of a job whose list has a line, and the order is the job's
pub record TableOf (job : Job) (o : Order) (work spared : List ℕ) : Type 0 where
  pub order : OrderOf job o
  pub some_line : job.lines ≡ [] → ⊥
  pub table : TableFrom job 1 work spared

-- the first n stages as a rest
unfoldable pub stages_rest : List Stage → ℕ → Rest
stages_rest stages n = map (λ (s : Stage). (s.action, s.passage)) (take n stages)

-- a trace with the stage of the aisle behind the n that are seen
abbrev pub with_stage : Trace → ℕ → Crossed → Trace
with_stage t n p = record { stages = set t.stages n p.stage; at = p.at; entered = p.entered; fewest = t.fewest }

-- the state and the demand where a trace stands
abbrev pub state_at : At → State
state_at at = state_of at.state

abbrev pub demand_at : Job → At → List ℕ
demand_at job at = demand_of (radices job) at.demand

-- the table's value there with n aisles left from aisle j on, and the rest of a plan that the table leads to
abbrev pub value_from : Job → ℕ → ℕ → At → ℕ
value_from job n j at = value (routing job (all_actions job)) n j (state_at at) (demand_at job at)

abbrev pub rest_from : Job → ℕ → ℕ → At → Option Rest
rest_from job n j at = choose (routing job (all_actions job)) n j (state_at at) (demand_at job at)

-- the entered aisles of a set, and those of the rest, of which there are at most so many, are the fewest: what remains of the rest's key beside 17 times
-- its length
abbrev pub Counts : ℕ → ℕ → ℕ → ℕ → Type 0
Counts entered fewest most key = (len e : ℕ) → e ≤ most → key ≡ 17 * len + e → ones entered + e ≡ fewest

-- the first n aisles of the best plan are found; the table leads on to the others
pub record Traced (job : Job) (n : ℕ) (t : Trace) : Type 0 where
  pub sized : length t.stages ≡ 16
  pub seen : n ≤ job.layout.aisles
  pub state_below : t.at.state < 8
  pub demand_below : t.at.demand < weight job.lines
  pub rest : Rest
  pub leads : rest_from job (job.layout.aisles - n) (suc n) t.at ≡ some rest
  pub finite : value_from job (job.layout.aisles - n) (suc n) t.at < no_key
  pub whole : stages_rest t.stages n ++ rest ≡ rest_of (best_plan job)
  pub marked : t.entered < 2 ^ n
  pub counted : Counts t.entered t.fewest (job.layout.aisles - n) (value_from job (job.layout.aisles - n) (suc n) t.at)

-- what tracing one aisle more needs: the rows behind that aisle, and the table's length where the trace stands
pub record TraceAsked (job : Job) (n : ℕ) (t : Trace) (next next-spared : List ℕ) (here : ℕ) : Type 0 where
  pub traced : Traced job n t
  pub more : n < job.layout.aisles
  pub row : RowHolds job (job.layout.aisles - suc n) (suc (suc n)) next next-spared
  pub spared : ℕ
  pub held : Holds (job.layout.aisles - n) here spared (value_from job (job.layout.aisles - n) (suc n) t.at)
