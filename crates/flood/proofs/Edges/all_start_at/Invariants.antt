-- `flood::Edges::all_start_at` meets its contract. The loop's invariant: below `at` all that is left starts at seen points.
use Rattle.flood.specs.Flooded.{AllSeen}
use Rattle.flood.proofs.Edges.all_start_at.Given as goal

abbrev pub invariant-loop-at : goal.invariant-loop-at
invariant-loop-at l = AllSeen l.self.left.now l.seen l.at
