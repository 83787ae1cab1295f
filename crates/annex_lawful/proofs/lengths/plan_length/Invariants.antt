-- `annex_lawful::lengths::plan_length` meets its contract: before aisle j the sum is what the aisles and passages before it add.
use Prim.Native.Nat.{◌*◌, ◌-◌, ◌≤◌}
use mathlib.Core.Path.{◌≡◌}
use Rattle.values.specs.Values.{plan_of}
use Rattle.annex_lawful.proofs.LengthLaws.{shares_to}
use Rattle.annex_lawful.proofs.lengths.plan_length.Given as goal

abbrev pub invariant-loop-j : goal.invariant-loop-j
invariant-loop-j l = (1 ≤ l.j) × (l.sum ≡ shares_to l.z (plan_of l.plan) (l.j - 1)) × (l.sum ≤ 5760 * l.j)
