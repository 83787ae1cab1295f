-- `visits::in_order` meets its contract: the picks are noted, and the walk is followed from the depot.
use Rattle.std.proofs.Common.{refl, ◌∙◌}
use Rattle.visits.proofs.Asked.{spot_below, walk_meets, walk_ahead}
use Rattle.visits.proofs.in_order.Goals as goal

pub note-requires : goal.note-requires
note-requires c = let x = c.args in (refl, spot_below x.layout x.picks.now x.runs.now c.requires)

pub depot_number-requires : goal.depot_number-requires
depot_number-requires c = c.requires.bounds

-- the list is that of the picks
pub follow-requires : goal.follow-requires
follow-requires c = let x = c.args in rw (c.note.ensures, c.new-order.ensures, c.depot_number.ensures) (walk_ahead x.layout x.picks.now x.runs.now c.requires)

pub returns : goal.returns
returns c =
    let x = c.args in
    c.follow.ensures.met ∙ rw (c.note.ensures, c.new-order.ensures, c.depot_number.ensures) (walk_meets x.layout x.picks.now x.runs.now c.requires)
