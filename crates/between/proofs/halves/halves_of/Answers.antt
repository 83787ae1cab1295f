use Rattle.std.proofs.Common.{arith, suc, ◌≤◌, false}
use Rattle.rules.specs.Policies.{in_front_half, in_back_half}
use Rattle.between.specs.Between.{halves_of}
use Rattle.between.proofs.Heights.{filled_all, same_between}
use Rattle.between.proofs.halves.halves_of.Goals as goal

pub returns : goal.returns
unfolding halves_of
returns c =
    let z = c.args.z in
    let o = c.loop-h in
    let all : 26 ≤ o.h = omega arith in
    same_between
    (filled_all (in_front_half z) false o.front o.h all o.invariant.0)
    (filled_all (in_back_half z) false o.back o.h all o.invariant.1)
    (filled_all suc 0 o.from o.h all o.invariant.2)
