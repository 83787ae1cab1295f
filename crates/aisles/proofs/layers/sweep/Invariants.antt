-- `aisles::layers::sweep` meets its contract: the pairs whose front turn is at height h or past it are looked at.
use lib.ListN.{get_or}
use Rattle.aisles.specs.Turns.{BacksHeld, RowsSwept}
use Rattle.aisles.proofs.layers.sweep.Given as goal

abbrev pub invariant-loop-h : goal.invariant-loop-h
invariant-loop-h l =
    BacksHeld l.best.lengths l.best.ones l.way.lengths l.way.ones l.maps.backs.now l.turns l.weight (get_or l.turns.from l.h 0)
    × RowsSwept l.initial.row l.row l.initial.spared l.spared l.way.lengths l.way.ones l.maps.fronts.now l.maps.backs.now l.turns l.weight l.h
