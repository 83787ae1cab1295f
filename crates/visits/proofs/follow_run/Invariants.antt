-- `visits::follow_run` meets its contract. The loop's invariant: the steps taken have been followed.
use Rattle.std.proofs.Common.{replicate}
use Rattle.values.specs.FixedLists.{items}
use Rattle.visits.specs.Numbered.{Followed}
use Rattle.visits.proofs.follow_run.Given as goal

abbrev pub invariant-loop : goal.invariant-loop
invariant-loop l = Followed (replicate l.counter l.run.direction) l.initial.noted (items l.initial.order) l.initial.at l.noted (items l.order) l.at
