-- `host::plan_sheet` meets its contract: the reply of the library call, on a work area that is all zero, as one number.
use native.Mathlib.Omega.{arith}
use Prim.Native.Nat.{◌+◌, ◌≤◌}
use mathlib.Core.Path.{ap, sym, ◌∙◌, subst}
use lib.ListN.{replicate}
use Rattle.rules.specs.Refusals.{work_limit}
use Rattle.rules.specs.Answers.{host_answer, host_number, reply_length, sheet_limit}
use Rattle.planner.proofs.Space.{served_length}
use Rattle.host.proofs.plan_sheet.Goals as goal

pub overflow_cast-result : goal.overflow_cast-result
overflow_cast-result c =
    omega (arith, subst (λ r. reply_length r ≤ sheet_limit) (sym c.plan.ensures.replied.reply ∙ c.in-Ok.is) (served_length c.args.job.now c.args.sheet.now (replicate work_limit 0)))

pub returns-in-Ok-clause-number : goal.returns-in-Ok-clause-number
unfolding host_answer
returns-in-Ok-clause-number c = ap host_number (sym c.in-Ok.is ∙ c.plan.ensures.replied.reply)

pub returns-in-Err-clause-number : goal.returns-in-Err-clause-number
unfolding host_answer
returns-in-Err-clause-number c = ap (λ n. 65536 + n) c.from.ensures ∙ ap host_number (sym c.in-Err.is ∙ c.plan.ensures.replied.reply)
