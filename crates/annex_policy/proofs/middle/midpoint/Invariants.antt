-- `annex_policy::middle::midpoint` meets its contract: the aisles up to j are what is asked of them.
use mathlib.Core.Bool.{Bool}
use Rattle.rules.specs.Jobs.{Job}
use Rattle.values.specs.Values.{plan_of}
use Rattle.annex_policy.specs.Middle.{BetweenAsked, between_said}
use Rattle.annex_policy.proofs.MiddleLaws.{MidTo}
use Rattle.annex_policy.proofs.middle.midpoint.Given as goal

abbrev pub invariant-loop-j : goal.invariant-loop-j
invariant-loop-j l = (gaps : Bool) (job : Job) → BetweenAsked gaps job l.z l.betweens → MidTo l.side (plan_of l.plan) l.single l.row.first l.row.last (between_said gaps job) l.j
