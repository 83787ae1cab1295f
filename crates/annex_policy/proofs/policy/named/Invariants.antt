-- `annex_policy::policy::named` meets its contract: the aisles up to j and the passages behind them are named, and VOID where they may not be entered.
use mathlib.Core.Path.{◌≡◌}
use Rattle.rules.specs.declared.Layout.{Layout}
use Rattle.rules.specs.Store.{side_of}
use Rattle.rules.specs.Jobs.{Job}
use Rattle.values.specs.Values.{plan_of}
use Rattle.annex_policy.specs.Ruled.{RulesAsked}
use Rattle.annex_policy.proofs.RuleLaws.{NamedTo}
use Rattle.annex_policy.proofs.policy.named.Given as goal

abbrev pub invariant-loop-j : goal.invariant-loop-j
invariant-loop-j l =
    ((job : Job) (z : Layout) → l.side ≡ side_of z → RulesAsked job z l.may l.policy l.plan → NamedTo job (plan_of l.plan) l.j)
