-- `annex_plans::plan_at` meets its contract. The loop's invariant, `Going`: the stages before j are those of the plan, and the rest of it is the
-- plan of the number `rest` of the aisles that are left.
use Rattle.annex_plans.proofs.Finding.{Going}
use Rattle.annex_plans.proofs.plan_at.Given as goal

abbrev pub invariant-loop-j : goal.invariant-loop-j
invariant-loop-j l = Going l.cells l.aisles l.number l.stages l.size l.rest l.j
