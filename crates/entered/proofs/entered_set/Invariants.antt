-- `entered::entered_set` meets its contract. The loop's invariant: the set is that of the first k actions.
use mathlib.Core.Path.{◌≡◌}
use Rattle.entered.specs.Sets.{set_of}
use Rattle.entered.proofs.SetLaws.{first_actions}
use Rattle.entered.proofs.entered_set.Given as goal

abbrev pub invariant-loop-k : goal.invariant-loop-k
invariant-loop-k l = l.set ≡ set_of (first_actions l.stage-items l.k)
