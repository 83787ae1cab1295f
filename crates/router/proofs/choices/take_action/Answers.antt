-- `router::choices::take_action` meets its contract: some action attains what is sought, so the first rank is within the actions.
use native.Mathlib.Omega.{arith}
use mathlib.Core.Path.{refl}
use Rattle.aisles.proofs.Geometry.{within}
use Rattle.router.proofs.FirstRanks.{rank_within}
use Rattle.router.proofs.ChoiceLaws.{ranked_asked, step_lands, action_taken}
use Rattle.router.proofs.choices.take_action.Goals as goal

pub action_at-action-requires : goal.action_at-action-requires
action_at-action-requires c =
    let rank = rank_within _ _ _ c.choose_action-rank.result c.choose_action-rank.ensures c.requires.1 in
    ((within c.args.aisle.layout c.requires.0.ready.aisle.bounds).cells.1, rank.0)

pub step_to-at-requires : goal.step_to-at-requires
step_to-at-requires c =
    let x = c.args in
    let rank = rank_within _ _ _ c.choose_action-rank.result c.choose_action-rank.ensures c.requires.1 in
    ranked_asked x.aisle x.maps.now.fronts x.maps.now.backs x.sought _ _ c.requires.0 rank.0 c.action_at-action.ensures

pub value_at-requires : goal.value_at-requires
value_at-requires c =
    let x = c.args in
    let rank = rank_within _ _ _ c.choose_action-rank.result c.choose_action-rank.ensures c.requires.1 in
    let asked = ranked_asked x.aisle x.maps.now.fronts x.maps.now.backs x.sought _ _ c.requires.0 rank.0 c.action_at-action.ensures in
    let to = step_lands x.aisle x.maps.now.fronts x.maps.now.backs x.sought.at _ c.step_to-at.result asked c.step_to-at.ensures in
    (omega (arith, to.1, asked.ready.aisle.small), omega (arith, to.1, asked.ready.aisle.small))

pub returns : goal.returns
returns c =
    let x = c.args in
    action_taken x.aisle x.after.now.lengths x.after.now.ones x.maps.now.fronts x.maps.now.backs x.sought c.choose_action-rank.result _
    c.choose_action-rank.ensures c.requires.1 c.action_at-action.ensures
    (rw (c.value_at.ensures.0, c.with_aisle.ensures, c.step_to-at.ensures) refl)
