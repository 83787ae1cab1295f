-- The bounds of a layout that the code counts with.
use Prim.Native.Nat.{◌≤◌}
use mathlib.Core.Path.{◌≡◌}
use mathlib.Core.Bool.{true}
use Rattle.rules.specs.declared.Layout.{Layout}
use Rattle.rules.specs.Store.{layout_in_bounds}
use Rattle.rules.proofs.Admission.{layout_within}

-- an aisle has 24 cells at most
pub cells_few : (z : Layout) → layout_in_bounds z ≡ true → z.cells ≤ 24
cells_few z inside = ((layout_within z).0 inside).cells.1
