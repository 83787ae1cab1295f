-- `aisles::layers::step_rows` meets its contract: both rows have the numbers of the states that are led to, and VOID spares the aisle.
use mathlib.Core.Path.{sym, ◌∙◌}
use Rattle.aisles.proofs.RowsHeld.{stepped_entered, stepped_spared}
use Rattle.aisles.proofs.layers.step_rows.Goals as goal

pub returns-then-eq : goal.returns-then-eq
returns-then-eq c =
    let p = c.args in
    stepped_spared p.way.now.lengths c.permute.new.perm p.way.now.ones c.permute-2.new.perm p.after.now p.theirs.now p.steps p.kind p.weight
    c.permute.ensures c.permute-2.ensures c.spare_one.new.spared (sym c.eq.ensures ∙ c.if-eq.true) c.spare_one.ensures

pub returns-else-eq : goal.returns-else-eq
returns-else-eq c =
    let p = c.args in
    stepped_entered p.way.now.lengths c.permute.new.perm p.way.now.ones c.permute-2.new.perm p.after.now p.theirs.now p.steps p.kind p.weight
    c.permute.ensures c.permute-2.ensures (sym c.eq.ensures ∙ c.if-eq.false)
