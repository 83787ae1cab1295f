-- `router::choices::over` meets its contract: the action of the rank, where it leads, its length with what follows, and its set of entered aisles.
use native.Mathlib.Omega.{arith}
use Rattle.router.proofs.ChoiceLaws.{ranked_asked, step_lands}
use Rattle.router.proofs.choices.over.Goals as goal

pub step_to-to-requires : goal.step_to-to-requires
step_to-to-requires c =
    let x = c.args in
    ranked_asked x.aisle x.maps.now.fronts x.maps.now.backs x.sought x.rank c.action_at-action.result c.requires.0 c.requires.1 c.action_at-action.ensures

pub value_at-requires : goal.value_at-requires
value_at-requires c =
    let x = c.args in
    let asked = ranked_asked x.aisle x.maps.now.fronts x.maps.now.backs x.sought x.rank c.action_at-action.result c.requires.0 c.requires.1 c.action_at-action.ensures in
    let to = step_lands x.aisle x.maps.now.fronts x.maps.now.backs x.sought.at c.action_at-action.result c.step_to-to.result asked c.step_to-to.ensures in
    (omega (arith, to.1, asked.ready.aisle.small), omega (arith, to.1, asked.ready.aisle.small))

pub step_value-spared-requires : goal.step_value-spared-requires
step_value-spared-requires c =
    let x = c.args in
    let asked = ranked_asked x.aisle x.maps.now.fronts x.maps.now.backs x.sought x.rank c.action_at-action.result c.requires.0 c.requires.1 c.action_at-action.ensures in
    let to = step_lands x.aisle x.maps.now.fronts x.maps.now.backs x.sought.at c.action_at-action.result c.step_to-to.result asked c.step_to-to.ensures in
    (omega (arith, to.1, asked.ready.aisle.small), omega (arith, to.1, asked.ready.aisle.small))
