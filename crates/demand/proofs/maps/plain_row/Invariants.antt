-- `demand::maps::plain_row` meets its contract: the demands below q are there.
use Rattle.demand.specs.Maps.{RowSet}
use Rattle.demand.proofs.maps.plain_row.Given as goal

abbrev pub invariant-loop-q : goal.invariant-loop-q
invariant-loop-q l = RowSet l.initial.map l.map l.to l.q (λ n. n)
