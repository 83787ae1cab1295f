-- `sheets_test::print_worked` meets its contract: the lines, the shelf and the plan are those of the job.
use mathlib.Core.Path.{refl}
use Rattle.rules.specs.Examples.{alpha}
use Rattle.sheets_test.specs.Jobs.{worked_job}
use Rattle.sheets_test.proofs.Trials.{worked_admitted}
use Rattle.sheets_test.proofs.print_worked.Goals as goal

pub picks-picks-requires : goal.picks-picks-requires
unfolding worked_job alpha
picks-picks-requires c = (
  worked_job,
  record {
    admitted = worked_admitted;
    its_lines = (1, c.lines.ensures);
    its_cells = refl;
    its_shelf = c.shelf.ensures;
    its_aisles = cc;
  },
)
