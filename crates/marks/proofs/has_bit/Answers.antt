-- The two tests say the bounds.
use Rattle.std.proofs.Common.{◌≡◌, ◌&&◌, true, ◌∙◌, ap}
use Rattle.rules.specs.Store.{within}
use Rattle.marks.specs.Marking.{has_bit}
use Rattle.marks.proofs.Cells.{on_bit}
use Rattle.marks.proofs.has_bit.Goals as goal

pub returns-then-is_within-clause-bounds : goal.returns-then-is_within-clause-bounds
unfolding has_bit
returns-then-is_within-clause-bounds c =
    let row = c.args.row in
    let aisle : true ≡ within 1 16 row.aisle = c.if-is_within.ensures in
    on_bit row c.is_within-then-is_within.result (c.is_within-then-is_within.ensures ∙ ap (λ b. b && within 1 24 row.cell) aisle)
