-- `treads::fill` meets its contract. The loop's invariant: the aisles before `aisle` are filled.
use Rattle.std.proofs.Common.{◌≡◌, ◌-◌, ◌≤◌, suc}
use Rattle.treads.specs.Filling.{with_aisles}
use Rattle.treads.proofs.fill.Given as goal

abbrev pub invariant-loop-aisle : goal.invariant-loop-aisle
invariant-loop-aisle l = (l.aisle ≤ suc l.layout.aisles) × (l.left ≡ with_aisles l.layout.aisles l.layout.cells l.stages (l.aisle - 1) l.initial.left)
