-- `table::filling::fill_behind` meets its contract: the next rows are parts of the work area and of the list of ones, or the end row
-- without ones behind the last aisle.
use Rattle.std.proofs.Common.{arith, ◌≡◌, ◌+◌, ◌*◌, ◌-◌, ◌≤◌, suc, length, take, drop, refl, subst}
use native.Mathlib.Nat.{le_refl}
use borrow.Rule.Slice.PartMut.{mid_len}
use Rattle.rules.specs.Refusals.{weight}
use Rattle.table.specs.TableHolds.{RowHolds}
use Rattle.table.proofs.TableFills.{end_holds, same_aisles, same_weight, behind_holds}
use Rattle.table.proofs.WorkRows.{part_is, row_read}
use Rattle.table.proofs.filling.fill_behind.Goals as goal

pub fill_after-requires : goal.fill_after-requires
fill_after-requires c =
    let p = c.args in
    let r = c.requires in
    let at = p.j * 2048 in
    let taken = c.if-j-x.true in
    let inside : at + 2048 ≤ length p.work.now = omega (arith, r.work_long, r.few, taken) in
    let inside' : at + 2048 ≤ length p.spared.now = omega (arith, r.spared_long, r.few, taken) in
    let light = r.aisle.small in
    record {
      aisle = r.aisle;
      after_long = omega arith;
      after_spared_long = omega arith;
      next_long = omega (arith, mid_len at (at + 2048) p.work.now inside);
      next_spared_long = omega (arith, mid_len at (at + 2048) p.spared.now inside');
    }

pub returns-then-j-x : goal.returns-then-j-x
returns-then-j-x c = λ job x-is table.
    let after = c.fill_after in
    let p = c.args in
    let r = c.requires in
    let at = p.j * 2048 in
    let next = take (at + 2048 - at) (drop at p.work.now) in
    let next-spared = take (at + 2048 - at) (drop at p.spared.now) in
    let aisles = same_aisles job p.j p.x x-is in
    let small : weight job.lines ≤ 256 = omega (arith, r.aisle.small, same_weight job p.j p.x x-is) in
    let inside : suc p.j ≤ job.layout.aisles = omega (arith, c.if-j-x.true, aisles) in
    let starts : at ≡ (suc p.j - 1) * 2048 = omega arith in
    let left : suc job.layout.aisles - suc p.j ≡ job.layout.aisles - p.j = omega arith in
    let held = row_read job small p.work.now p.spared.now (suc p.j) (suc p.j) table (le_refl (suc p.j)) inside in
    let here : RowHolds job (suc job.layout.aisles - suc p.j) (suc p.j) next next-spared =
    rw (part_is p.work.now (suc p.j) at (at + 2048) starts refl, part_is p.spared.now (suc p.j) at (at + 2048) starts refl) held in
    behind_holds job p.j p.x x-is (omega (arith, r.few, aisles)) after.new.after after.new.spared next next-spared
    (subst (λ n. RowHolds job n (suc p.j) next next-spared) left here) after.ensures.0

pub returns-else-j-x : goal.returns-else-j-x
returns-else-j-x c = λ job x-is table.
    let after = c.fill_after-else-j-x in
    let last = c.end_rows-last in
    let p = c.args in
    let r = c.requires in
    let aisles = same_aisles job p.j p.x x-is in
    let small : weight job.lines ≤ 256 = omega (arith, r.aisle.small, same_weight job p.j p.x x-is) in
    let none : 0 ≡ job.layout.aisles - p.j = omega (arith, c.if-j-x.false, aisles) in
    let held : RowHolds job 0 (suc p.j) last.result.lengths last.result.ones =
    rw (last.ensures.0, last.ensures.1) (end_holds job small (suc p.j)) in
    behind_holds job p.j p.x x-is (omega (arith, r.few, aisles)) after.new.after after.new.spared last.result.lengths last.result.ones
    (subst (λ n. RowHolds job n (suc p.j) last.result.lengths last.result.ones) none held) after.ensures.0
