use Rattle.std.proofs.Common.{arith, rules, ◌≡◌, ◌<◌, get_or, get_or-take, length, length-take, ap}
use Rattle.picks.proofs.Turns.{no_stage, in_front, asked_bounds, asked_first, line_below, walked_turn, walked_none, walked_some}
use Rattle.picks.proofs.Visits.{visited_all}
use Rattle.picks.proofs.picks.Goals as goal
use Rattle.picks.proofs.picks.Goals.{in-Some, in_default}

pub loop-j-init : goal.loop-j-init
loop-j-init c =
    rw c.new-picks.ensures
    (record { small = (asked_bounds c.requires.1).2; room = omega arith; visited = λ job asked. asked_first asked })

pub pick_at-requires-clause-line : goal.pick_at-requires-clause-line
pick_at-requires-clause-line c =
    let in_plan : c.loop-j.j < c.args.plan.aisles = in_front c.args.plan.stages c.args.plan.aisles c.as_slice-stage-items.ensures c.loop-j-test.true in
    line_below c.requires.1 c.loop-j.j c.loop-c.c in_plan c.loop-c-test.true

pub loop-c-preserved : goal.loop-c-preserved
loop-c-preserved c =
    let in_plan : c.loop-j.j < c.args.plan.aisles = in_front c.args.plan.stages c.args.plan.aisles c.as_slice-stage-items.ensures c.loop-j-test.true in
    let stage : get_or c.as_slice-stage-items.result.now c.loop-j.j no_stage ≡ get_or c.args.plan.stages c.loop-j.j no_stage =
    rw c.as_slice-stage-items.ensures (get_or-take c.args.plan.aisles c.args.plan.stages c.loop-j.j no_stage in_plan)
    in
    elim c.match-pick_at.branch [
      | in-Some w ↦ rw (w.picks-is, w.push.ensures) (walked_some c.loop-c.invariant in_plan c.loop-c-test.true (rw stage at w.in-Some.ensures))
      | in_default w ↦ rw w.picks-is (walked_none c.loop-c.invariant in_plan c.loop-c-test.true (rw (stage, w.in_default.is) at c.pick_at.ensures))
    ]

pub loop-j-preserved : goal.loop-j-preserved
loop-j-preserved c =
    let in_plan : c.loop-j.j < c.args.plan.aisles = in_front c.args.plan.stages c.args.plan.aisles c.as_slice-stage-items.ensures c.loop-j-test.true in
    walked_turn c.loop-c.invariant in_plan (omega (arith, c.loop-c-test.false, c.loop-c.auto.c-end))

pub returns : goal.returns
returns c =
    let sixteen : length c.args.plan.stages ≡ 16 = search rules in
    λ job asked.
    visited_all (c.loop-j.invariant.visited job asked)
    (omega (arith, c.loop-j-test.false, ap length c.as_slice-stage-items.ensures, length-take c.args.plan.aisles c.args.plan.stages, asked.its_aisles, c.args.plan.fits, sixteen))
