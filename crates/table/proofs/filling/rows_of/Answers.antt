-- `table::filling::rows_of` meets its contract: both rows are written whole.
use Rattle.std.proofs.Common.{arith, ◌≡◌, ◌+◌, ◌-◌, ◌*◌, ◌∙◌, take, drop, ap}
use Rattle.table.proofs.filling.rows_of.Goals as goal

pub returns : goal.returns
returns c =
    let p = c.args in
    let whole : (p.j - 1) * 2048 + 2048 - (p.j - 1) * 2048 ≡ 2048 = omega arith in (
      c.copy_from_slice.ensures.after ∙ ap (λ n. take n (drop ((p.j - 1) * 2048) p.work.now)) whole,
      c.copy_from_slice-2.ensures.after ∙ ap (λ n. take n (drop ((p.j - 1) * 2048) p.spared.now)) whole,
    )
