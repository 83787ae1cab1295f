-- `demand::maps::less_row` meets its contract: the demands below q are there.
use Rattle.demand.specs.Digits.{less_digit}
use Rattle.demand.specs.Maps.{entry, RowSet}
use Rattle.demand.proofs.maps.less_row.Given as goal

abbrev pub invariant-loop-q : goal.invariant-loop-q
invariant-loop-q l = RowSet l.initial.map l.map l.to l.q (λ k. less_digit l.x l.n (entry l.initial.map l.from k))
