-- `annex_policy::asked::betweens` meets its contract: the arrays of the first j aisles are noted.
use Prim.Native.Nat.{ℕ, ◌-◌, ◌≤◌}
use mathlib.Core.Path.{◌≡◌}
use lib.ListN.{length, get_or}
use Rattle.rules.specs.declared.Policy.{Policy}
use Rattle.rules.specs.Jobs.{Job}
use Rattle.between.specs.declared.Between.{Between}
use Rattle.between.specs.Between.{between_of}
use Rattle.annex_policy.specs.Noted.{ShelfFor}
use Rattle.annex_policy.proofs.asked.betweens.Given as goal

abbrev pub invariant-loop-j : goal.invariant-loop-j
invariant-loop-j l =
    (length l.betweens ≡ 3)
    × ((job : Job) (policy : Policy) → ShelfFor job l.z policy l.shelf → (d : Between) (i : ℕ) → 1 ≤ i → i ≤ l.j → get_or l.betweens (i - 1) d ≡ between_of l.gaps job i)
