use Prim.Native.Nat.{◌+◌, ◌-◌}
use native.Mathlib.Omega.{arith}
use mathlib.Core.Path.{◌≡◌, ap, ◌∙◌}
use Rattle.values.specs.Values.{plan_of}
use Rattle.rules.specs.Lengths.{action_length, passage_length}
use Rattle.annex_lawful.proofs.LengthLaws.{shares_to, shares_more, shares_all}
use Rattle.annex_plans.proofs.Ranges.{plan_range}
use Rattle.annex_lawful.proofs.lengths.plan_length.Goals as goal

pub overflow_add-j-end : goal.overflow_add-j-end
overflow_add-j-end c = omega (arith, (plan_range c.args.z c.args.plan c.requires).0)

pub overflow_add-sum-in-loop-j : goal.overflow_add-sum-in-loop-j
overflow_add-sum-in-loop-j c =
    let few = (plan_range c.args.z c.args.plan c.requires).0 in
    omega (arith, c.action_length.ensures.1, c.passage_length.ensures.1, c.loop-j.invariant.2, c.loop-j-test.true, few)

pub loop-j-preserved : goal.loop-j-preserved
loop-j-preserved c =
    let x = c.args in
    let j = c.loop-j.j in
    let before : j - 1 + 1 ≡ j = omega (arith, c.loop-j.invariant.0) in
    let a = c.action_length.ensures.0 ∙ ap (action_length x.z) c.action_of.ensures in
    let p = c.passage_length.ensures.0 ∙ ap (passage_length x.z) c.passage_of.ensures in
    let more = rw before at (shares_more x.z (plan_of x.plan) (j - 1)) in
    let same : j + 1 - 1 ≡ j = omega arith in (
      omega arith,
      rw same (omega (arith, a, p, c.loop-j.invariant.1, more)),
      omega (arith, c.action_length.ensures.1, c.passage_length.ensures.1, c.loop-j.invariant.2),
    )

pub returns : goal.returns
returns c =
    let i = c.loop-j.invariant in
    let e : c.loop-j.j - 1 ≡ c.args.z.aisles = omega (arith, i.0, c.loop-j.auto.j-end, c.loop-j-test.false) in
    i.1 ∙ ap (shares_to c.args.z (plan_of c.args.plan)) e ∙ shares_all c.args.z (plan_of c.args.plan) c.requires.well_formed
