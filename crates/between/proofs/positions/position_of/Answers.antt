-- `between::positions::position_of` meets its contract: the front crossing, a cell, or the back crossing.
use Rattle.std.proofs.Common.{arith, sym, ◌∙◌, ap}
use Rattle.rules.specs.Store.{position}
use Rattle.rules.proofs.Lengths.{position_front, position_cell, position_back}
use Rattle.between.proofs.Few.{cells_few}
use Rattle.between.proofs.positions.position_of.Goals as goal

pub returns-then-k-eq0 : goal.returns-then-k-eq0
returns-then-k-eq0 c = let z = c.args.z in (sym (ap (position z) c.if-k-eq0.true ∙ position_front z), omega arith)

pub cell_position-requires : goal.cell_position-requires
cell_position-requires c = (c.requires, omega arith, omega (arith, cells_few c.args.z c.requires))

pub returns-then-k-z : goal.returns-then-k-z
returns-then-k-z c =
    let p = c.args in
    let cell = c.cell_position.ensures in
    (cell.0 ∙ sym (position_cell p.z p.k (omega arith) (omega arith)), omega arith)

pub returns-else-k-z : goal.returns-else-k-z
returns-else-k-z c =
    let p = c.args in
    let whole = c.aisle_length.ensures in
    (whole.0 ∙ sym (position_back p.z p.k (omega arith)), whole.1)
