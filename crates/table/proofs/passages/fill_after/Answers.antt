-- One more passage is tried, and behind the last one the rows hold the least over all that are tried.
use Rattle.std.proofs.Common.{arith, ◌≡◌, ◌∙◌, refl, subst}
use Rattle.rules.specs.declared.Passage.{Passage}
use Rattle.rules.specs.BestPlan.{passages_in_order}
use Rattle.table.specs.Crossings.{PassageTried}
use Rattle.table.proofs.PassageLaws.{AfterTried, after_none, after_one, after_all, passage_tried, tried_length}
use Rattle.table.proofs.passages.fill_after.Goals as goal

pub loop-passage-init : goal.loop-passage-init
loop-passage-init c =
    let p = c.args in
    let none = c.fill_none in (
      refl,
      refl,
      after_none p.x p.next.now p.theirs.now none.new.row p.spared.now (none.ensures.0, refl, λ k h. refl),
      λ k h. refl,
      λ k h. refl,
    )

pub relax_passage-requires : goal.relax_passage-requires
relax_passage-requires c =
    let r = c.requires in
    let o = c.loop-passage in (
      record {
        aisle = r.aisle;
        after_long = omega (arith, r.after_long, o.invariant.0, c.fill_none.ensures.1);
        after_spared_long = omega (arith, r.after_spared_long, o.invariant.1);
        next_long = r.next_long;
        next_spared_long = r.next_spared_long;
      },
      c.plain_row.ensures.done,
    )

pub loop-passage-preserved : goal.loop-passage-preserved
unfolding passages_in_order
loop-passage-preserved c =
    let p = c.args in
    let o = c.loop-passage in
    let k = o.passage-index in
    let done = c.relax_passage in
    let few = tried_length p.x.tried c.requires.aisle.few in
    let tried = subst (λ (q : Passage). PassageTried p.x o.after done.new.after o.spared done.new.spared p.next.now p.theirs.now q)
    (passage_tried p.x.tried k (omega (arith, few)) c.requires.aisle.few) done.ensures in (
      tried.kept ∙ o.invariant.0,
      tried.spared_kept ∙ o.invariant.1,
      after_one p.x p.next.now p.theirs.now o.after done.new.after o.spared done.new.spared k
          (omega (arith, c.requires.aisle.few, few)) o.invariant.2 tried,
      λ i h. tried.rest i h ∙ o.invariant.3 i h,
      λ i h. tried.spared_rest i h ∙ o.invariant.4 i h,
    )

pub returns : goal.returns
unfolding passages_in_order
returns c =
    let p = c.args in
    let o = c.loop-passage in
    let few = tried_length p.x.tried c.requires.aisle.few in
    let all : o.passage-index ≡ p.x.tried = omega (arith, few) in (
      after_all p.x p.next.now p.theirs.now o.after o.spared
          (subst (λ n. AfterTried p.x o.after o.spared p.next.now p.theirs.now n) all o.invariant.2),
      o.invariant.0 ∙ c.fill_none.ensures.1,
      o.invariant.1,
      λ k h. o.invariant.3 k h ∙ c.fill_none.ensures.2 k h,
      o.invariant.4,
    )
