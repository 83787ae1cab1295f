use native.Mathlib.Omega.{arith}
use lib.ListN.{get_or}
use mathlib.Core.Path.{◌∙◌}
use Rattle.rules.specs.Plans.{plan_passes}
use Rattle.values.specs.Values.{plan_of}
use Rattle.annex_stock.proofs.Supplies.{no_record, at_member, gives_few, given_all, given_more}
use Rattle.annex_stock.proofs.Stock.supply.Goals as goal

pub given-sum-requires : goal.given-sum-requires
given-sum-requires c =
    let w = c.requires.within _ (at_member no_record _ c.loop-held.held-index c.loop-held-test.true) in
    (w.0, w.1)

pub overflow_add-sum : goal.overflow_add-sum
overflow_add-sum c =
    let w = c.requires.within _ (at_member no_record _ c.loop-held.held-index c.loop-held-test.true) in
    let few = gives_few c.args.self.now.open (plan_passes (plan_of c.args.plan)) c.args.article (get_or c.args.self.now.records.now c.loop-held.held-index no_record) w.2 in
    omega (arith, c.given-sum.ensures, few, c.loop-held.invariant.0, c.loop-held-test.true, c.requires.few)

pub loop-held-preserved : goal.loop-held-preserved
loop-held-preserved c =
    let w = c.requires.within _ (at_member no_record _ c.loop-held.held-index c.loop-held-test.true) in
    let few = gives_few c.args.self.now.open (plan_passes (plan_of c.args.plan)) c.args.article (get_or c.args.self.now.records.now c.loop-held.held-index no_record) w.2 in
    let more = given_more c.args.self.now (plan_passes (plan_of c.args.plan)) c.args.article c.loop-held.held-index no_record c.loop-held-test.true in
    (omega (arith, c.given-sum.ensures, few, c.loop-held.invariant.0), omega (arith, c.given-sum.ensures, c.loop-held.invariant.1, more))

pub returns : goal.returns
returns c = c.loop-held.invariant.1 ∙ given_all c.args.self.now (plan_passes (plan_of c.args.plan)) c.args.article c.loop-held.held-index c.loop-held-test.false
