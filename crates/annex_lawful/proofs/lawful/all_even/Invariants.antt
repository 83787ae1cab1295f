-- `annex_lawful::lawful::all_even` meets its contract: before aisle j the crossings of the aisles before it are even.
use Prim.Native.Nat.{◌-◌, ◌≤◌}
use Rattle.values.specs.Values.{plan_of}
use Rattle.annex_lawful.specs.Crossings.{EvenTo}
use Rattle.annex_lawful.proofs.lawful.all_even.Given as goal

abbrev pub invariant-loop-j : goal.invariant-loop-j
invariant-loop-j l = (1 ≤ l.j) × EvenTo l.z (plan_of l.plan) (l.j - 1)
