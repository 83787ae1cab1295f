-- What the values stand for.
use Rattle.std.specs.Prelude.{◌-◌, ◌≤◌, ◌≡◌, map, take, Option, Some, None, IfSome}
use Rattle.rules.specs.declared.Window.{Window}
use Rattle.rules.specs.declared.OrderLine.{OrderLine}
use Rattle.rules.specs.Hours.{Hours, NoHours, At}
use Rattle.rules.specs.Jobs.{Job}
use Rattle.rules.specs.Plans.{Plan, plan_length}
use Rattle.rules.specs.BestPlan.{best_plan}
use Rattle.rules.specs.Refusals.{Admitted}
use Rattle.values.specs.declared.Clock.{Clock}
use Rattle.values.specs.declared.JobValue.{JobValue}
use Rattle.values.specs.declared.Stage.{Stage}
use Rattle.values.specs.declared.PlanValue.{PlanValue}
use Rattle.values.specs.declared.Routed.{Routed}

-- a line that is not there
abbrev pub no_line : OrderLine
no_line = record { article = 0; quantity = 0 }

-- a window that is not there
abbrev pub no_window : Window
no_window = record { aisle = 0; from = 0; to = 0 }

-- the hours of a job: those that its clock says, where it has one
abbrev pub hours_of : Option Clock → Hours
hours_of None = NoHours
hours_of (Some clock) = At clock.minute (take clock.count clock.windows)

-- the job of a value
unfoldable pub job_of : JobValue → Job
job_of v =
    record {
      layout = v.layout;
      policy = v.policy;
      stock = take v.records v.stock;
      hours = hours_of v.hours;
      lines = take v.orders v.lines;
    }

-- the plan of a value
unfoldable pub plan_of : PlanValue → Plan
plan_of v =
    record {
      actions = map (λ (s : Stage). s.action) (take v.aisles v.stages);
      passages = map (λ (s : Stage). s.passage) (take (v.aisles - 1) v.stages);
    }

-- a job whose counts are within its arrays, and to which no refusal applies
pub record Sound (v : JobValue) : Type 0 where
  pub record_count : v.records ≤ 384
  pub order_count : v.orders ≤ 8
  pub window_count : IfSome v.hours (λ clock. clock.count ≤ 64)
  pub admitted : Admitted (job_of v)

-- the routed plan of a job: the best plan, and its length
pub record RoutedOf (job : Job) (r : Routed) : Type 0 where
  pub aisles : r.plan.aisles ≡ job.layout.aisles
  pub plan : plan_of r.plan ≡ best_plan job
  pub length : r.length ≡ plan_length job.layout (best_plan job)
