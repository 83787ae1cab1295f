use Rattle.rules.specs.declared.Direction.TheVariants.{Back}
use Rattle.rules.specs.declared.Run.{Run}
use Rattle.values.specs.FixedLists.{items}
use Rattle.visits.specs.Visited.{walk_of_runs}
use Rattle.visits.proofs.Steps.{followed_none, runs_next, runs_more}
use Rattle.visits.proofs.follow.Goals as goal

-- a run that is not there
abbrev none : Run
none = record { direction = Back; steps = 0 }

pub loop-run-init : goal.loop-run-init
unfolding walk_of_runs
loop-run-init c = let x = c.args in followed_none x.noted.now (items x.order.now) x.from

pub follow_run-at-requires : goal.follow_run-at-requires
follow_run-at-requires c = runs_next c.args.runs.now c.loop-run.run-index none c.loop-run-test.true c.loop-run.invariant c.requires

pub loop-run-preserved : goal.loop-run-preserved
loop-run-preserved c = runs_more c.args.runs.now c.loop-run.run-index none c.loop-run-test.true c.loop-run.invariant c.follow_run-at.ensures
