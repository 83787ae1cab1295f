-- `visits::follow` meets its contract. The loop's invariant: the steps of the runs passed have been followed.
use Rattle.std.proofs.Common.{take}
use Rattle.values.specs.FixedLists.{items}
use Rattle.visits.specs.Visited.{walk_of_runs}
use Rattle.visits.specs.Numbered.{Followed}
use Rattle.visits.proofs.follow.Given as goal

abbrev pub invariant-loop-run : goal.invariant-loop-run
invariant-loop-run l = Followed (walk_of_runs (take l.run-index l.runs)) l.initial.noted (items l.initial.order) l.initial.at l.noted (items l.order) l.at
