-- `annex_policy::row::row_of` meets its contract: the row is that of the aisles up to j.
use Rattle.values.specs.Values.{plan_of}
use Rattle.annex_policy.specs.Rows.{RowTo}
use Rattle.annex_policy.proofs.row.row_of.Given as goal

abbrev pub invariant-loop-j : goal.invariant-loop-j
invariant-loop-j l = RowTo (plan_of l.plan) l.j l.row
