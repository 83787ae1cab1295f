-- One more cell is flagged, and the flags of all cells are those of the listed ones.
use Rattle.std.proofs.Common.{arith}
use Rattle.shelves.proofs.Shelving.{none_flagged, flag_more, flags_are}
use Rattle.shelves.proofs.listed_cells.Goals as goal

pub loop-i-init : goal.loop-i-init
loop-i-init c = none_flagged c.args.shelf.now.line c.args.j

pub returns : goal.returns
returns c =
    let o = c.loop-i in
    λ job ok of e. flags_are ok of c.args.j c.requires.1 c.requires.2 (omega arith) o.listed o.i o.invariant (omega arith)

pub loop-i-preserved : goal.loop-i-preserved
loop-i-preserved c =
    let o = c.loop-i in
    let x = c.args in
    rw c.is_some.ensures (flag_more x.shelf.now.line x.j o.i c.cell_number.result o.listed (omega arith) c.cell_number.ensures.0 o.invariant)
