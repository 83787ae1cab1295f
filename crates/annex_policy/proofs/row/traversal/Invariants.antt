-- `annex_policy::row::traversal` meets its contract: the aisles up to j walk as TRAVERSAL asks.
use Prim.Native.Nat.{◌%◌}
use lib.Dec.{eqb}
use Rattle.values.specs.Values.{plan_of}
use Rattle.annex_policy.proofs.TraversalLaws.{WalkTo}
use Rattle.annex_policy.proofs.row.traversal.Given as goal

abbrev pub invariant-loop-j : goal.invariant-loop-j
invariant-loop-j l = WalkTo l.side (plan_of l.plan) (eqb (l.row.entered % 2) 1) l.back l.j
