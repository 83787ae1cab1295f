-- `treads::fill_aisle` meets its contract. The loop's invariant: the first `k` edges are filled.
use Rattle.std.proofs.Common.{◌≡◌}
use Rattle.treads.specs.Filling.{with_aisle}
use Rattle.treads.proofs.fill_aisle.Given as goal

abbrev pub invariant-loop-k : goal.invariant-loop-k
invariant-loop-k l = l.left ≡ with_aisle l.action l.aisle l.k l.initial.left
