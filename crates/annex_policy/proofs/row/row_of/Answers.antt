use native.Mathlib.Omega.{arith}
use mathlib.Core.Path.{◌≡◌, refl, subst}
use Rattle.values.specs.Values.{plan_of}
use Rattle.annex_policy.specs.Rows.{RowTo}
use Rattle.annex_policy.proofs.RowLaws.{row_none}
use Rattle.annex_policy.proofs.row.row_of.Goals as goal

pub loop-j-init : goal.loop-j-init
loop-j-init c = row_none (plan_of c.args.plan)

pub with_aisle-row-requires : goal.with_aisle-row-requires
with_aisle-row-requires c = omega (arith, c.loop-j.invariant.few, c.loop-j-test.true, c.requires)

pub loop-j-preserved : goal.loop-j-preserved
loop-j-preserved c =
    let x = c.args in
    c.with_aisle-row.ensures (plan_of x.plan) c.loop-j.j refl c.loop-j.invariant c.action_of.ensures

pub returns : goal.returns
returns c =
    let i = c.loop-j.invariant in
    let e : c.loop-j.j ≡ c.args.plan.aisles = omega (arith, c.loop-j.auto.j-end, c.loop-j-test.false) in
    subst (λ n. RowTo (plan_of c.args.plan) n c.loop-j.row) e i
