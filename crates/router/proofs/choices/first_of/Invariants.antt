-- `router::choices::first_of` meets its contract. The loop's invariant: no number before k passes.
use Rattle.std.proofs.Common.{ℕ, ◌<◌, false}
use Rattle.router.proofs.choices.first_of.Given as goal

abbrev pub invariant-loop-k : goal.invariant-loop-k
invariant-loop-k g l = (i : ℕ) → i < l.k → goal.F-post g l.test i false
