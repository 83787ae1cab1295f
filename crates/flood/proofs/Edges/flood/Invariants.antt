-- `flood::Edges::flood` meets its contract. The loop's invariant: what is seen newly can be reached.
use Rattle.flood.specs.Flooded.{unseen, Grown}
use Rattle.flood.proofs.Edges.flood.Given as goal

abbrev pub invariant-loop : goal.invariant-loop
invariant-loop l = Grown l.self.left.now (λ s. Unit {0}) l.initial.seen l.seen

abbrev pub decreases-loop : goal.decreases-loop
decreases-loop l = unseen l.seen
