use native.Mathlib.Omega.{arith}
use mathlib.Core.Path.{ap}
use lib.ListN.{length}
use Rattle.rules.specs.declared.Layout.{Layout}
use Rattle.annex_search.proofs.SearchLaws.{plans_in, small_layout, kept_none, kept_all}
use Rattle.annex_search.proofs.search.Asked.search.Goals as goal

pub plan_count-n-end-requires : goal.plan_count-n-end-requires
plan_count-n-end-requires c = small_layout c.requires.1

pub loop-n-init : goal.loop-n-init
loop-n-init c = λ job a. kept_none job

pub returns : goal.returns
returns c =
    let loop = c.loop-n in
    λ job a. (
    let same = ap (λ (z : Layout). length (plans_in z)) a.asked_of_lem.layout in
    kept_all job loop.best loop.n (omega (arith, c.loop-n-test.false, c.plan_count-n-end.ensures.0, same)) (loop.invariant job a)
    )
