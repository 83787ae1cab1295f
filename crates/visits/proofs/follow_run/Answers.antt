use Rattle.std.proofs.Common.{◌≡◌, arith}
use Rattle.values.specs.FixedLists.{items}
use Rattle.visits.specs.Visited.{steps_of_run}
use Rattle.visits.proofs.Steps.{followed_none, run_next, run_more}
use Rattle.visits.proofs.follow_run.Goals as goal

pub loop-init : goal.loop-init
loop-init c = let x = c.args in followed_none x.noted.now (items x.order.now) x.from

pub step-at-requires : goal.step-at-requires
unfolding steps_of_run
step-at-requires c = let run = c.args.run in run_next run.direction run.steps c.loop.counter c.loop.invariant c.loop-test.true c.requires

pub loop-preserved : goal.loop-preserved
loop-preserved c = let run = c.args.run in run_more run.direction run.steps c.loop.counter c.loop.invariant c.step-at.ensures

pub returns : goal.returns
unfolding steps_of_run
returns c =
    let last : c.loop.counter ≡ c.args.run.steps = omega arith in
    rw last at c.loop.invariant
