use native.Mathlib.Omega.{arith}
use Rattle.annex_plans.proofs.Ranges.{plan_range}
use Rattle.annex_lawful.proofs.lawful.all_even.Goals as goal

pub overflow_add-j-end : goal.overflow_add-j-end
overflow_add-j-end c = omega (arith, (plan_range c.args.z c.args.plan c.requires).0)
