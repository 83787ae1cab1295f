-- `picks::picks` meets its contract. The loops' invariant: j aisles and c cells of the next are visited, and the picks listed,
-- with those from the cells left, are all.

use Rattle.values.specs.FixedLists.{items}
use Rattle.picks.proofs.Turns.{Walked}
use Rattle.picks.proofs.picks.Given as goal

abbrev pub invariant-loop-j : goal.invariant-loop-j
invariant-loop-j l = Walked l.fn.lines l.cells l.shelf l.fn.plan (items l.picks) l.lacking l.j 0

abbrev pub invariant-loop-c : goal.invariant-loop-c
invariant-loop-c l = Walked l.fn.lines l.cells l.shelf l.fn.plan (items l.picks) l.lacking l.j l.c
