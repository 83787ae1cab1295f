-- `sheets_test::worked_job::shelf` meets its contract: each cell is tried.
use mathlib.Core.Path.{refl}
use Rattle.rules.specs.Picks.{record_at}
use Rattle.rules.specs.Examples.{alpha, stocked, ◌⨯◌}
use Rattle.sheets_test.specs.Jobs.{worked_job}
use Rattle.sheets_test.proofs.Trials.{shelf_tried_lem}
use Rattle.sheets_test.proofs.worked_job.shelf.Goals as goal

pub returns : goal.returns
unfolding worked_job alpha stocked ◌⨯◌ record_at
returns c = shelf_tried_lem worked_job _ refl
