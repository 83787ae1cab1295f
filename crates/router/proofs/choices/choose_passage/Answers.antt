-- `router::choices::choose_passage` meets its contract: the first rank that passes is that of the first passage that is tried.
use Rattle.std.proofs.Common.{of_calls, rules, ◌≡◌, sym, ◌∙◌, ap, get_or}
use Rattle.std.proofs.Math.Seq.{get_or-take}
use Rattle.rules.specs.declared.Passage.TheVariants.{P00}
use Rattle.rules.specs.BestPlan.{passages_in_order}
use Rattle.table.proofs.PassageLaws.{tried_length}
use Rattle.router.specs.Choosing.{on_attains}
use Rattle.router.proofs.FirstRanks.{rank_passed}
use Rattle.router.proofs.choices.choose_passage.Goals as goal

pub returns : goal.returns
returns c =
    let x = c.args in
    let attains = on_attains x.aisle x.next.now.lengths x.next.now.ones x.sought in
    rank_passed _ _ _ _ _ _ (sym (tried_length x.aisle.tried c.requires.aisle.few)) (λ k b l p. (
    let said : b ≡ attains (get_or passages_in_order k P00) = search (of_calls, rules) in
    said ∙ ap attains (sym (get_or-take x.aisle.tried passages_in_order k P00 l))
    )) c.first_of.ensures
