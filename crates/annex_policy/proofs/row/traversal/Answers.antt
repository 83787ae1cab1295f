use Prim.Native.Nat.{ℕ, ◌+◌, ◌%◌}
use native.Mathlib.Omega.{arith}
use mathlib.Core.Path.{refl, sym, subst, subst₂, ◌∙◌}
use mathlib.Core.Bool.{Bool, ◌&&◌, false≢true}
use lib.Dec.{eqb}
use Rattle.rules.specs.declared.Side.{Side}
use Rattle.rules.specs.Store.{side_of}
use Rattle.rules.specs.Plans.{action_at}
use Rattle.values.specs.Values.{plan_of}
use Rattle.annex_plans.proofs.Ranges.{plan_range}
use Rattle.annex_policy.specs.Rows.{WalksAs}
use Rattle.annex_policy.proofs.TraversalLaws.{rule_walks, walks_rule, WalkTo, walk_more}
use Rattle.annex_policy.proofs.row.traversal.Goals as goal
use Rattle.annex_policy.proofs.row.traversal.Goals.{After-walked_back-back, Start}

pub walked_back-back-requires : goal.walked_back-back-requires
walked_back-back-requires c = let r = plan_range c.args.z c.args.plan c.requires in (r.0, r.3)

pub loop-j-init : goal.loop-j-init
loop-j-init c = λ j l h. absurd (omega arith)

pub returns-then-not-walks_as : goal.returns-then-not-walks_as
returns-then-not-walks_as c =
    -- whether aisle j is the one walked back
    let asked : (ℕ → Bool) = λ j. eqb (c.row_of-row.result.entered % 2) 1 && eqb j c.walked_back-back.result in
    let x = c.args in
    let j = c.loop-j.j in (
      λ f. absurd (false≢true f),
      λ rule. absurd (false≢true (
          let all = rule_walks x.z x.plan c.requires c.row_of-row.result c.row_of-row.ensures (side_of x.z) rule (j + 1) (omega arith) (omega (arith, c.loop-j-test.true)) in
          let back = subst (λ k. WalksAs (side_of x.z) (action_at (plan_of x.plan) (j + 1)) (eqb (c.row_of-row.result.entered % 2) 1 && eqb (j + 1) k)) (sym c.walked_back-back.ensures) all in
          let here = subst₂ (λ (q : Side) a. WalksAs q a (asked (j + 1))) (sym c.side-side.ensures) (sym c.action_of.ensures) back in
          sym c.if-not-walks_as.true ∙ c.walks_as.ensures.1 (subst (WalksAs c.side-side.result c.action_of.result) (sym c.is_back.ensures) here)
          )),
    )

pub loop-j-preserved : goal.loop-j-preserved
loop-j-preserved c =
    let asked : (ℕ → Bool) = λ j. eqb (c.row_of-row.result.entered % 2) 1 && eqb j c.walked_back-back.result in
    let side = c.side-side.result in
    let x = c.args in
    let j = c.loop-j.j in
    let here = subst (WalksAs side c.action_of.result) c.is_back.ensures (c.walks_as.ensures.0 c.if-not-walks_as.false) in
    walk_more side (plan_of x.plan) (eqb (c.row_of-row.result.entered % 2) 1) c.walked_back-back.result j c.loop-j.invariant
    (subst (λ a. WalksAs side a (asked (j + 1))) c.action_of.ensures here)

pub returns : goal.returns
returns c =
    let x = c.args in
    let all = subst₂ (λ (q : Side) k. WalkTo q (plan_of x.plan) (eqb (c.row_of-row.result.entered % 2) 1) k c.loop-j.j) c.side-side.ensures c.walked_back-back.ensures c.loop-j.invariant in
    (λ e. walks_rule x.z x.plan c.requires c.row_of-row.result c.row_of-row.ensures (side_of x.z) (λ j l h. all j l (omega (arith, h, c.loop-j-test.false))), λ r. refl)
