-- `between::positions::aisle_length` meets its contract: where the last cell lies, and the way behind it.
use native.Mathlib.Omega.{arith}
use Rattle.rules.specs.Store.{aisle_length}
use Rattle.rules.proofs.Admission.{layout_within}
use Rattle.between.proofs.positions.aisle_length.Goals as goal

pub cell_position-requires : goal.cell_position-requires
cell_position-requires c = let w = (layout_within c.args.z).0 c.requires in (c.requires, omega arith, omega arith)

pub overflow_add-result : goal.overflow_add-result
overflow_add-result c =
    let w = (layout_within c.args.z).0 c.requires in
    let last = c.cell_position.ensures in
    omega arith

pub returns : goal.returns
unfolding aisle_length
returns c =
    let w = (layout_within c.args.z).0 c.requires in
    let last = c.cell_position.ensures in
    (omega arith, omega arith)
