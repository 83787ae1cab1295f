-- `router::choices::take_passage` meets its contract: some passage attains what is sought, so the first rank is that of a passage.
use native.Mathlib.Omega.{arith}
use mathlib.Core.Path.{refl}
use Rattle.router.proofs.ChoiceLaws.{passage_below, passage_taken}
use Rattle.router.proofs.choices.take_passage.Goals as goal

pub passage_at-passage-requires : goal.passage_at-passage-requires
passage_at-passage-requires c =
    let x = c.args in
    let five = c.requires.0.aisle.few in
    let low = passage_below x.aisle x.next.now.lengths x.next.now.ones x.taken c.choose_passage.result five c.choose_passage.ensures c.requires.1 in
    omega (arith, low, five)

pub returns : goal.returns
returns c =
    let x = c.args in
    passage_taken x.aisle x.next.now.lengths x.next.now.ones x.taken c.choose_passage.result c.requires.0.aisle.few c.choose_passage.ensures c.requires.1 _
    refl c.passage_at-passage.ensures c.cross_to-at.ensures refl
