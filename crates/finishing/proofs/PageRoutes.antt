-- A routed job with its picks and its runs (#103): they can be put in the order of the walk, and the page of that order is the job's.
use Prim.Native.Nat.{◌*◌, ◌≤◌}
use mathlib.Core.Path.{◌≡◌, sym, ap, ap₂, ◌∙◌, subst}
use mathlib.Core.List.{List, Memᴰ}
use lib.ListN.{length}
use Rattle.rules.specs.declared.Pick.{Pick}
use Rattle.rules.specs.declared.Run.{Run}
use Rattle.rules.specs.Lists.{concat_of, Sorted}
use Rattle.rules.specs.Walks.{Walk, ClosedWalk}
use Rattle.rules.specs.FirstWalk.{first_walk}
use Rattle.rules.specs.BestPlan.{best_plan}
use Rattle.rules.specs.Page.{page_line, pick_cell, along_walk, page_of, page_text}
use Rattle.rules.proofs.Admission.{layout_within}
use Rattle.closedwalks.proofs.Statements.{few_steps}
use Rattle.values.specs.declared.JobValue.{JobValue}
use Rattle.values.specs.Values.{job_of, Sound}
use Rattle.visits.specs.Visited.{walk_of_runs, Apart, Walked}
use Rattle.visits.proofs.Runs.{walk_of_runs_lem}
use Rattle.finishing.specs.Toured.{Toured}
use Rattle.finishing.proofs.PageLaws.{page_walk, pick_within, picks_apart, page_length}

module _ (job : JobValue) (s : Sound job) where
  -- the walk of the best plan
  abbrev pub walk : Walk
  walk = first_walk (job_of job).layout (best_plan (job_of job))

  module _ (picks : List Pick) (runs : List Run) (t : Toured (job_of job) picks runs) where
    -- the runs are those of that walk
    its_walk : walk_of_runs runs ≡ walk
    unfolding job_of
    its_walk = ap walk_of_runs t.its_runs ∙ walk_of_runs_lem walk

    -- so the picks can be put in its order
    pub routed_walked : length picks ≤ 384 → Walked job.layout picks runs
    unfolding job_of Apart
    routed_walked few =
        let a = s.admitted in
        let depot = ((layout_within job.layout).0 a.layout).depot in
        record {
          bounds = a.layout;
          pick_count = few;
          cells = λ x m. pick_within (job_of job) a x (subst (Memᴰ x) t.its_picks m);
          apart = subst (Sorted (λ (x y : Pick). pick_cell x ≡ pick_cell y → ⊥)) (sym t.its_picks) (picks_apart (job_of job) a);
          closed = subst (ClosedWalk job.layout) (sym its_walk) (page_walk (job_of job) a).is_closed_lem;
          steps = subst (λ v. length v ≤ 860) (sym its_walk) (few_steps job.layout depot.0 depot.1 (best_plan (job_of job)) walk (page_walk (job_of job) a) a.layout);
        }

    -- and in that order they make the job's page
    pub routed_page : (order : List Pick) → order ≡ along_walk job.layout (walk_of_runs runs) picks → concat_of page_line order ≡ page_text (job_of job)
    unfolding page_text page_of job_of
    routed_page order e = ap (concat_of page_line) (e ∙ ap₂ (along_walk job.layout) its_walk t.its_picks)

    -- which has 25 bytes for each of them
    pub routed_size : length (page_text (job_of job)) ≡ 25 * length picks
    routed_size = page_length (job_of job) s.admitted ∙ ap (λ (ps : List Pick). 25 * length ps) (sym t.its_picks)
