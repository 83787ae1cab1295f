-- The eight numbers that are written stand in the row, so one more demand is relaxed.
use Rattle.std.proofs.Common.{ap, ◌*◌}
use Rattle.rows.proofs.Relaxing.{row_one}
use Rattle.rows.proofs.Pairing.{fewer_one}
use Rattle.rows.proofs.relax_row.Goals as goal

pub loop-q-preserved : goal.loop-q-preserved
loop-q-preserved c =
    let p = c.args in
    let o = c.loop-q in
    let eight = c.shorter-eight in
    let from = ap (λ n. n * 8) c.from-from.ensures in (
      row_one p.row.now o.row _ eight.result.lengths p.perm.now p.map.now p.base p.cost o.q _
          o.invariant.0 eight.ensures.lengths c.put.ensures from,
      fewer_one p.row.now o.row p.spared.now o.spared _ eight.result.ones p.perm.now p.theirs.now p.map.now
          p.base p.cost o.q _ o.invariant.0 o.invariant.1 eight.ensures.ones c.put-in-loop-q.ensures from,
    )
