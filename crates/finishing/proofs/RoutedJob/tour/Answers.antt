-- `finishing::RoutedJob::tour` meets its contract: the routed plan is the best one, so its picks and its runs are the job's.
use mathlib.Core.Path.{ap, ◌∙◌}
use Rattle.rules.specs.FirstWalk.{first_walk}
use Rattle.rules.specs.Picks.{picks_of}
use Rattle.rules.specs.Sheet.{runs_of}
use Rattle.values.specs.Values.{job_of}
use Rattle.finishing.proofs.Routes.{picks_asked, routed_lawful}
use Rattle.finishing.proofs.RoutedJob.tour.Goals as goal

pub picks-picks-requires : goal.picks-picks-requires
picks-picks-requires c =
    let j = c.args.self.now in (job_of j.job, picks_asked j.job j.routed j.known.0 j.known.2 j.shelf j.known.1)

pub walk_runs-runs-requires : goal.walk_runs-runs-requires
walk_runs-runs-requires c = let j = c.args.self.now in routed_lawful j.job j.routed j.known.0 j.known.2

pub returns : goal.returns
unfolding job_of
returns c =
    let j = c.args.self.now in
    record {
      its_picks = c.picks-picks.ensures (job_of j.job) (picks_asked j.job j.routed j.known.0 j.known.2 j.shelf j.known.1) ∙ ap (picks_of (job_of j.job)) j.known.2.plan;
      its_runs = c.walk_runs-runs.ensures ∙ ap (λ p. runs_of (first_walk j.job.layout p)) j.known.2.plan;
    }
