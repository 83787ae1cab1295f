-- `rows::relax_row` meets its contract: in both rows the demands before q are relaxed, the others as they were.
use Rattle.rows.specs.Rows.{RelaxedRow}
use Rattle.rows.specs.Pairs.{FewerRow}
use Rattle.rows.proofs.relax_row.Given as goal

abbrev pub invariant-loop-q : goal.invariant-loop-q
invariant-loop-q l =
    RelaxedRow l.initial.row l.row l.perm l.map l.base l.cost l.q
    × FewerRow l.initial.row l.initial.spared l.spared l.perm l.theirs l.map l.base l.cost l.q
