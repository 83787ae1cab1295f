-- `sheets_test::print_top` meets its contract: the lines, the shelf and the plan are those of the job.
use mathlib.Core.Path.{refl}
use Rattle.sheets_test.specs.Jobs.{top_job}
use Rattle.sheets_test.proofs.Trials.{top_admitted}
use Rattle.sheets_test.proofs.print_top.Goals as goal

pub picks-picks-requires : goal.picks-picks-requires
unfolding top_job
picks-picks-requires c = (
  top_job,
  record {
    admitted = top_admitted;
    its_lines = (3, c.lines.ensures);
    its_cells = refl;
    its_shelf = c.shelf.ensures;
    its_aisles = cc;
  },
)
