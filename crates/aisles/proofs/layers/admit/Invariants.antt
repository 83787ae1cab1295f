-- `aisles::layers::admit` meets its contract: the back turns from height i on are let in.
use Prim.Native.Nat.{◌+◌, ◌≤◌}
use lib.ListN.{get_or}
use Rattle.aisles.specs.Turns.{BacksHeld}
use Rattle.aisles.proofs.layers.admit.Given as goal

abbrev pub invariant-loop-i : goal.invariant-loop-i
invariant-loop-i l =
    (l.turns.top ≤ 25)
    × (l.i ≤ l.turns.top + 1)
    × (get_or l.turns.from l.h 0 ≤ l.i)
    × BacksHeld l.best.lengths l.best.ones l.way.lengths l.way.ones l.backs l.turns l.weight l.i
