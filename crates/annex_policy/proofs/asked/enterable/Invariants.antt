-- `annex_policy::asked::enterable` meets its contract: the first j aisles are noted.
use Prim.Native.Nat.{ℕ, ◌-◌, ◌≤◌}
use mathlib.Core.Path.{◌≡◌}
use mathlib.Core.Bool.{false}
use lib.ListN.{length, get_or}
use Rattle.rules.specs.Jobs.{Job}
use Rattle.annex_policy.specs.Ruled.{may_be_entered}
use Rattle.annex_policy.specs.Noted.{ShelfFor}
use Rattle.annex_policy.proofs.asked.enterable.Given as goal

abbrev pub invariant-loop-j : goal.invariant-loop-j
invariant-loop-j l =
    (length l.may ≡ 16)
    × ((job : Job) → ShelfFor job l.z l.fn.policy l.shelf → (i : ℕ) → 1 ≤ i → i ≤ l.j → get_or l.may (i - 1) false ≡ may_be_entered job i)
