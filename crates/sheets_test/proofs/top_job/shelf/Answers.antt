-- `sheets_test::top_job::shelf` meets its contract: each cell is tried.
use mathlib.Core.Path.{refl}
use Rattle.rules.specs.Picks.{record_at}
use Rattle.rules.specs.Examples.{stocked, ◌⨯◌}
use Rattle.sheets_test.specs.Jobs.{top_job}
use Rattle.sheets_test.proofs.Trials.{shelf_tried_lem}
use Rattle.sheets_test.proofs.top_job.shelf.Goals as goal

pub returns : goal.returns
unfolding top_job stocked ◌⨯◌ record_at
returns c = shelf_tried_lem top_job _ refl
