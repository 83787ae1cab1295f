-- `sheets_test::top_job::lines` meets its contract: the first lines are the job's.
use mathlib.Core.Path.{refl}
use Rattle.rules.specs.Examples.{◌⨯◌}
use Rattle.sheets_test.specs.Jobs.{top_job}
use Rattle.sheets_test.proofs.top_job.lines.Goals as goal

pub returns : goal.returns
unfolding top_job ◌⨯◌
returns c = refl
