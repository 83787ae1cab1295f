-- `aisles::layers::relax_turn` meets its contract: where there is no turn the rows stay.
use Prim.Native.Nat.{◌*◌}
use Rattle.rows.proofs.KeyRows.{keys_relaxed, keys_same}
use Rattle.aisles.proofs.layers.relax_turn.Goals as goal

pub returns-then-cost-lt-NONE : goal.returns-then-cost-lt-NONE
returns-then-cost-lt-NONE c =
    let done = c.relax_row in
    let p = c.args in
    keys_relaxed p.row.now done.new.row p.spared.now done.new.spared p.perm.now p.theirs.now p.map.now (p.h * 256) p.cost p.weight
    c.requires.1.below done.ensures

pub returns-else-cost-lt-NONE : goal.returns-else-cost-lt-NONE
returns-else-cost-lt-NONE c =
    let p = c.args in
    keys_same p.row.now p.spared.now p.perm.now p.theirs.now p.map.now (p.h * 256) p.cost p.weight c.if-cost-lt-NONE.false
