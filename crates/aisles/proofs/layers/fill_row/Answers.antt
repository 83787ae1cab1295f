use native.Mathlib.Omega.{arith}
use Prim.Native.Nat.{◌*◌, ◌≤◌}
use mathlib.Core.Path.{◌≡◌, refl, sym, ◌∙◌, subst}
use mathlib.Core.Bool.{true, false, true≢false}
use lib.ListN.{get_or}
use Rattle.rules.specs.declared.Kind.TheVariants.{Void as VOID}
use Rattle.aisles.specs.declared.layers.TheConstants.{KINDS, TESTED}
use Rattle.aisles.proofs.PassLaws.{kind_at, tested_at}
use Rattle.aisles.proofs.RowsHeld.{RowsPassedTo, to_none, to_one, to_tested, to_all, maps_given}
use Rattle.aisles.proofs.layers.fill_row.Goals as goal

pub loop-kind-init : goal.loop-kind-init
loop-kind-init c =
    let p = c.args in
    let row = c.fill_none.new.row in
    let start = to_none p.aisle p.after.now p.theirs.now p.fronts.now p.backs.now row p.spared.now (c.fill_none.ensures.0, refl, λ k h. refl) in (
      subst (λ x. RowsPassedTo x row p.spared.now p.after.now p.theirs.now p.fronts.now p.backs.now 0 0) (sym c.lane_of-lane.ensures.0) start,
      refl,
      refl,
      λ k h. refl,
      λ k h. refl,
    )

pub loop-kind-preserved : goal.loop-kind-preserved
loop-kind-preserved c =
    let p = c.args in
    let o = c.loop-kind in
    let lane = c.lane_of-lane in
    let new = c.relax_kind.new in
    let done = c.relax_kind.ensures in
    let x = lane.result.aisle in
    let kind = get_or KINDS o.kind-index VOID in
    -- the lane's maps are those that are given
    let by_maps = maps_given x o.row new.row o.spared new.spared p.after.now p.theirs.now kind false lane.ensures.1 lane.ensures.2 done in (
      to_one x p.after.now p.theirs.now p.fronts.now p.backs.now o.row new.row o.spared new.spared o.kind-index 0
          o.invariant.0 kind (kind_at o.kind-index c.loop-kind-test.true) by_maps,
      done.kept ∙ o.invariant.1,
      done.spared_kept ∙ o.invariant.2,
      λ k h. done.rest k h ∙ o.invariant.3 k h,
      λ k h. done.spared_rest k h ∙ o.invariant.4 k h,
    )

pub returns-else-asks_between : goal.returns-else-asks_between
returns-else-asks_between c =
    let p = c.args in
    let o = c.loop-kind in
    let e : o.kind-index ≡ 6 = omega arith in
    let is = c.lane_of-lane.ensures.0 in
    let passed = subst (λ x. RowsPassedTo x o.row o.spared p.after.now p.theirs.now p.fronts.now p.backs.now o.kind-index 0) is o.invariant.0 in (
      to_all p.aisle p.after.now p.theirs.now p.fronts.now p.backs.now o.row o.spared 0
          (λ asks. absurd (true≢false (sym asks ∙ sym c.asks_between.ensures ∙ c.if-asks_between.false)))
          (subst (λ n. RowsPassedTo p.aisle o.row o.spared p.after.now p.theirs.now p.fronts.now p.backs.now n 0) e passed),
      o.invariant.1 ∙ c.fill_none.ensures.1,
      o.invariant.2,
      λ k h. o.invariant.3 k (subst (λ x. x.weight * 8 ≤ k) (sym is) h) ∙ c.fill_none.ensures.2 k h,
      λ k h. o.invariant.4 k (subst (λ x. x.weight * 8 ≤ k) (sym is) h),
    )

pub loop-kind-then-asks_between-init : goal.loop-kind-then-asks_between-init
loop-kind-then-asks_between-init c =
    let p = c.args in
    let o = c.loop-kind in (
      subst (λ n. RowsPassedTo c.lane_of-lane.result.aisle o.row o.spared p.after.now p.theirs.now p.fronts.now p.backs.now n 0) (omega arith) o.invariant.0,
      refl,
      refl,
      λ k h. refl,
      λ k h. refl,
    )

pub loop-kind-then-asks_between-preserved : goal.loop-kind-then-asks_between-preserved
loop-kind-then-asks_between-preserved c =
    let p = c.args in
    let o = c.loop-kind-then-asks_between in
    let lane = c.lane_of-lane in
    let new = c.relax_kind-in-loop-kind-then-asks_between.new in
    let done = c.relax_kind-in-loop-kind-then-asks_between.ensures in
    let x = lane.result.aisle in
    let kind = get_or TESTED o.kind-index VOID in
    let by_maps = maps_given x o.row new.row o.spared new.spared p.after.now p.theirs.now kind true lane.ensures.1 lane.ensures.2 done in (
      to_tested x p.after.now p.theirs.now p.fronts.now p.backs.now o.row new.row o.spared new.spared 6 o.kind-index
          o.invariant.0 kind (tested_at o.kind-index c.loop-kind-then-asks_between-test.true) by_maps,
      done.kept ∙ o.invariant.1,
      done.spared_kept ∙ o.invariant.2,
      λ k h. done.rest k h ∙ o.invariant.3 k h,
      λ k h. done.spared_rest k h ∙ o.invariant.4 k h,
    )

pub returns-after-loop-kind-then-asks_between : goal.returns-after-loop-kind-then-asks_between
returns-after-loop-kind-then-asks_between c =
    let p = c.args in
    let o = c.loop-kind-then-asks_between in
    let before = c.loop-kind in
    let is = c.lane_of-lane.ensures.0 in
    let passed = subst (λ x. RowsPassedTo x o.row o.spared p.after.now p.theirs.now p.fronts.now p.backs.now 6 o.kind-index) is o.invariant.0 in (
      to_all p.aisle p.after.now p.theirs.now p.fronts.now p.backs.now o.row o.spared o.kind-index (λ asks. omega arith) passed,
      o.invariant.1 ∙ before.invariant.1 ∙ c.fill_none.ensures.1,
      o.invariant.2 ∙ before.invariant.2,
      λ k h. let past = subst (λ x. x.weight * 8 ≤ k) (sym is) h in o.invariant.3 k past ∙ before.invariant.3 k past ∙ c.fill_none.ensures.2 k h,
      λ k h. let past = subst (λ x. x.weight * 8 ≤ k) (sym is) h in o.invariant.4 k past ∙ before.invariant.4 k past,
    )
