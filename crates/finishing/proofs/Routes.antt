-- A routed job: its plan is lawful for the job's list, and with its picks and its runs it makes the job's sheet.
use mathlib.Core.Path.{◌≡◌, refl, sym, subst}
use mathlib.Core.List.{List, []}
use Rattle.rules.specs.declared.Pick.{Pick}
use Rattle.rules.specs.declared.Run.{Run}
use Rattle.rules.specs.Lawful.{LawfulFor}
use Rattle.rules.specs.BestPlan.{best_plan}
use Rattle.rules.specs.Sheet.{sheet_text}
use Rattle.rules.proofs.EmptyList.{lawful_for_empty}
use Rattle.values.specs.declared.JobValue.{JobValue}
use Rattle.values.specs.declared.Routed.{Routed}
use Rattle.values.specs.declared.Shelf.{Shelf}
use Rattle.values.specs.Shelves.{ShelfOf}
use Rattle.values.specs.Values.{job_of, plan_of, Sound, RoutedOf}
use Rattle.optimum.proofs.Best.{best_plan_lem}
use Rattle.picks.specs.Picking.{Asked}
use Rattle.sheets.specs.Parts.{sheet_of_parts}
use Rattle.sheets.proofs.SheetLaws.{sheet_of_parts_lem}
use Rattle.finishing.specs.Toured.{Toured}
use Rattle.walks.specs.Lawfully.{LawfulPlan}

module _ (job : JobValue) (routed : Routed) (s : Sound job) (r : RoutedOf (job_of job) routed) where
  -- the routed plan has an action for each aisle
  pub same_aisles : routed.plan.aisles ≡ job.layout.aisles
  unfolding job_of
  same_aisles = r.aisles

  -- the picks can be asked of the job's lines, cells and shelf
  pub picks_asked : (shelf : Shelf) → ShelfOf (job_of job) shelf → Asked (job_of job) job.lines job.layout.cells shelf routed.plan
  unfolding job_of
  picks_asked shelf h =
      record {
        admitted = s.admitted;
        its_lines = (job.orders, refl);
        its_cells = refl;
        its_shelf = h;
        its_aisles = sym same_aisles;
      }

  -- it is lawful for the job's list, so for an empty one
  pub routed_lawful : LawfulPlan job.layout routed.plan
  unfolding job_of
  routed_lawful =
      record {
        bounds = s.admitted.layout;
        aisles = same_aisles;
        lawful = subst (LawfulFor job.layout []) (sym r.plan) (lawful_for_empty job.layout (job_of job).lines (best_plan (job_of job)) (best_plan_lem (job_of job) s.admitted).allowed.lawful);
      }

  -- with its picks and its runs it makes the job's sheet
  pub routed_sheet : (picks : List Pick) (runs : List Run) → Toured (job_of job) picks runs
      → sheet_of_parts job.policy routed.length (plan_of routed.plan) picks runs ≡ sheet_text (job_of job)
  unfolding sheet_text job_of
  routed_sheet picks runs t = rw r.plan (sheet_of_parts_lem (job_of job) (best_plan (job_of job)) routed.length picks runs r.length t.its_picks t.its_runs)
