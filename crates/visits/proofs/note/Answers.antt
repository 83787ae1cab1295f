use Rattle.std.proofs.Common.{◌<◌, ◌∙◌, sym, ap, Option, Some, List, get_or, set, add-one, arith}
use Rattle.rules.specs.declared.Pick.{Pick}
use Rattle.visits.specs.Numbered.{spot_of}
use Rattle.visits.proofs.Notes.{place_member, noted_more}
use Rattle.visits.proofs.note.Goals as goal
use Rattle.visits.proofs.note.Goals.{In-loop-pick}

-- a pick that is not there
abbrev none : Pick
none = record { aisle = 0; cell = 0; article = 0; quantity = 0 }

-- the pick's cell is one of the list
in_list : (c : In-loop-pick) → spot_of (get_or c.args.picks.now c.loop-pick.pick-index none) < 442
in_list c = let i = c.loop-pick.pick-index in c.requires.1 (get_or c.args.picks.now i none) (place_member c.args.picks.now i none (omega arith))

pub overflow_mul-pick : goal.overflow_mul-pick
overflow_mul-pick c = omega (arith, in_list (goal.at.overflow_mul-pick c).In-loop-pick)

pub overflow_add-pick : goal.overflow_add-pick
overflow_add-pick c = omega (arith, in_list (goal.at.overflow_add-pick c).In-loop-pick)

pub offset_bounds-noted-pick : goal.offset_bounds-noted-pick
offset_bounds-noted-pick c = omega (arith, in_list (goal.at.offset_bounds-noted-pick c).In-loop-pick)

pub bounds-noted-pick : goal.bounds-noted-pick
bounds-noted-pick c = omega (arith, in_list (goal.at.bounds-noted-pick c).In-loop-pick)

pub loop-pick-preserved : goal.loop-pick-preserved
loop-pick-preserved c =
    let xs = c.args.picks.now in
    let i = c.loop-pick.pick-index in
    let pick : Pick = get_or xs i none in
    ap (λ (l : List (Option Pick)). set l (spot_of pick) (Some pick)) c.loop-pick.invariant ∙ rw (add-one i) (sym (noted_more xs i none c.args.noted.now c.loop-pick-test.true))
