use Prim.Native.Nat.{◌+◌}
use native.Mathlib.Omega.{arith}
use mathlib.Core.Path.{refl, ap, subst, ◌∙◌}
use mathlib.Core.Bool.{Bool}
use lib.ListN.{length-set}
use Rattle.rules.specs.declared.Layout.{Layout}
use Rattle.rules.proofs.Admission.{layout_within}
use Rattle.between.specs.Between.{between_of, listed_flags}
use Rattle.between.specs.Stops.{between_by}
use Rattle.between.proofs.Laws.{between_by_lem}
use Rattle.annex_policy.specs.Middle.{BetweenAsked}
use Rattle.annex_policy.proofs.NotedLaws.{by_aisle}
use Rattle.annex_policy.proofs.asked.betweens.Goals as goal

pub listed_cells-requires : goal.listed_cells-requires
listed_cells-requires c = let p = c.requires in (((layout_within c.args.z).0 p.0).cells.1, omega arith, omega arith)

pub between_of-first-requires : goal.between_of-first-requires
between_of-first-requires c = c.requires.0

pub loop-j-init : goal.loop-j-init
loop-j-init c = (refl, λ job policy s d i l h. absurd (omega arith))

pub listed_cells-requires-in-loop-j : goal.listed_cells-requires-in-loop-j
listed_cells-requires-in-loop-j c =
    (((layout_within c.args.z).0 c.requires.0).cells.1, omega arith, omega (arith, c.loop-j-test.true, c.requires.1))

pub between_of-requires : goal.between_of-requires
between_of-requires c = c.requires.0

pub offset_bounds-betweens-j : goal.offset_bounds-betweens-j
offset_bounds-betweens-j c = omega (arith, c.loop-j-test.true, c.requires.1)

pub bounds-betweens-j : goal.bounds-betweens-j
bounds-betweens-j c = omega (arith, c.loop-j-test.true, c.requires.1)

pub loop-j-preserved : goal.loop-j-preserved
loop-j-preserved c =
    let x = c.args in
    let o = c.loop-j in
    let gaps = c.is_largest-gaps.result in
    let v = c.between_of.result in (
      length-set o.betweens o.j v ∙ o.invariant.0,
      λ job policy t d. (
          let cells = ap (λ (y : Layout). y.cells) t.layout_is in
          let few = ((layout_within x.z).0 c.requires.0).cells.1 in
          let flags = c.listed_cells-in-loop-j.ensures job t.admitted t.shelf_of cells in
          let own = ap (λ (y : Layout). between_by gaps y (listed_flags job (o.j + 1))) t.layout_is in
          let here = c.between_of.ensures ∙ ap (between_by gaps x.z) flags ∙ own ∙ between_by_lem gaps job (o.j + 1) (omega (arith, cells, few)) in
          by_aisle (between_of gaps job) d o.betweens o.j v (omega (arith, o.invariant.0, c.loop-j-test.true, c.requires.1)) (o.invariant.1 job policy t d) here
          ),
    )

pub returns : goal.returns
returns c =
    let x = c.args in
    let o = c.loop-j in
    λ job t.
    subst (λ (g : Bool). BetweenAsked g job x.z o.betweens) c.is_largest-gaps.ensures
    (record { layout = t.layout_is; at = λ j d l h. o.invariant.1 job x.policy t d j l (omega (arith, h, c.loop-j-test.false)) })
