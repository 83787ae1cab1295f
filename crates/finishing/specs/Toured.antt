-- The picks and the runs of a job.
use Rattle.std.specs.Prelude.{◌≡◌, List}
use Rattle.rules.specs.declared.Pick.{Pick}
use Rattle.rules.specs.declared.Run.{Run}
use Rattle.rules.specs.Jobs.{Job}
use Rattle.rules.specs.BestPlan.{best_plan}
use Rattle.rules.specs.FirstWalk.{first_walk}
use Rattle.rules.specs.Picks.{picks_of}
use Rattle.rules.specs.Sheet.{runs_of}

-- they are those of the job's best plan
pub record Toured (job : Job) (picks : List Pick) (runs : List Run) : Type 0 where
  pub its_picks : picks ≡ picks_of job (best_plan job)
  pub its_runs : runs ≡ runs_of (first_walk job.layout (best_plan job))
