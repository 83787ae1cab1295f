-- `table::filling::rows_behind` meets its contract: the next aisle's rows, or those of the end with no aisle left.
use Rattle.std.proofs.Common.{arith, ◌≡◌, ◌-◌, ◌≤◌, suc, add-one, subst}
use Rattle.std.proofs.Math.ListN.{replicate}
use native.Mathlib.Nat.{le_refl}
use Rattle.rows.specs.Rows.{numbers}
use Rattle.table.specs.TableHolds.{RowHolds, row_in, end_row}
use Rattle.table.proofs.TableFills.{end_holds}
use Rattle.table.proofs.WorkRows.{row_read}
use Rattle.table.proofs.filling.rows_behind.Goals as goal

pub returns-then-j-aisles : goal.returns-then-j-aisles
returns-then-j-aisles c = λ job aisles light table.
    let p = c.args in
    let rows = c.rows_of in
    let inside : suc p.j ≤ job.layout.aisles = omega (arith, c.if-j-aisles.true) in
    let left : suc job.layout.aisles - suc p.j ≡ p.aisles - p.j = omega arith in
    let held = row_read job light p.work.now p.spared.now (suc p.j) (suc p.j) table (le_refl (suc p.j)) inside in
    let next = subst (λ n. RowHolds job n (suc p.j) (row_in p.work.now (suc p.j)) (row_in p.spared.now (suc p.j))) left held in
    rw (rows.ensures.0, rows.ensures.1, add-one p.j) next

pub returns-else-j-aisles : goal.returns-else-j-aisles
returns-else-j-aisles c = λ job aisles light table.
    let p = c.args in
    let rows = c.end_rows in
    let none : 0 ≡ p.aisles - p.j = omega (arith, c.if-j-aisles.false) in
    rw (rows.ensures.0, rows.ensures.1) (subst (λ n. RowHolds job n (suc p.j) end_row (replicate numbers 0)) none (end_holds job light (suc p.j)))
