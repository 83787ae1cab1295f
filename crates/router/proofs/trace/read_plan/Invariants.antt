-- `router::trace::read_plan` meets its contract. The loop's invariant: for any job of the order the first n aisles are traced.
use Rattle.rules.specs.Jobs.{Job}
use Rattle.router.specs.Tracing.{TableOf, Traced}
use Rattle.router.proofs.trace.read_plan.Given as goal

abbrev pub invariant-loop-n : goal.invariant-loop-n
invariant-loop-n l = (job : Job) → TableOf job l.fn.order l.work l.spared → Traced job l.n l.trace
