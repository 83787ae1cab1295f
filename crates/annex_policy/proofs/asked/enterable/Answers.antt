use native.Mathlib.Omega.{arith}
use mathlib.Core.Path.{refl, ap, ◌∙◌}
use mathlib.Core.Bool.{false, ◌&&◌, ◌||◌}
use lib.ListN.{get_or, length-set}
use Rattle.rules.specs.declared.Layout.{Layout}
use Rattle.annex_policy.specs.Ruled.{may_be_entered}
use Rattle.annex_policy.proofs.NotedLaws.{by_aisle, may_by}
use Rattle.annex_policy.proofs.asked.enterable.Goals as goal

pub loop-j-init : goal.loop-j-init
loop-j-init c = (refl, λ job s i l h. absurd (omega arith))

pub holds_listed-requires : goal.holds_listed-requires
holds_listed-requires c = let p = c.requires in (p.0, omega arith, omega (arith, c.loop-j-test.true, p.1))

pub bounds-shelf-j : goal.bounds-shelf-j
bounds-shelf-j c = omega (arith, c.loop-j-test.true, c.requires.1)

pub bounds-may-j : goal.bounds-may-j
bounds-may-j c = omega (arith, c.loop-j-test.true, c.requires.1)

pub loop-j-preserved : goal.loop-j-preserved
loop-j-preserved c =
    let x = c.args in
    let o = c.loop-j in
    let any = c.enters_any-any.result in
    let v = get_or x.shelf.open o.j false && (any || c.holds_listed.result) in (
      length-set o.may o.j v ∙ o.invariant.0,
      λ job t. (
          let holds = c.holds_listed.ensures job t.admitted t.shelf_of (ap (λ (y : Layout). y.cells) t.layout_is) (omega (arith, c.loop-j-test.true, ap (λ (y : Layout). y.aisles) t.layout_is)) in
          by_aisle (may_be_entered job) false o.may o.j v (omega (arith, o.invariant.0, c.loop-j-test.true, c.requires.1)) (o.invariant.1 job t)
          (may_by job x.z x.policy x.shelf t o.j any c.holds_listed.result (omega (arith, c.loop-j-test.true, c.requires.1)) c.enters_any-any.ensures holds)
          ),
    )

pub returns : goal.returns
returns c =
    let o = c.loop-j in
    λ job t j l h. o.invariant.1 job t j l (omega (arith, h, c.loop-j-test.false))
