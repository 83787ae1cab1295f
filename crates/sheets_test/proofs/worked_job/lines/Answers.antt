-- `sheets_test::worked_job::lines` meets its contract: the first lines are the job's.
use mathlib.Core.Path.{refl}
use Rattle.rules.specs.Examples.{alpha, ◌⨯◌}
use Rattle.sheets_test.specs.Jobs.{worked_job}
use Rattle.sheets_test.proofs.worked_job.lines.Goals as goal

pub returns : goal.returns
unfolding worked_job alpha ◌⨯◌
returns c = refl
