use Prim.Native.Nat.{◌<◌, ◌≤◌}
use mathlib.Core.Path.{refl, sym, ap, ◌∙◌}
use mathlib.Core.Bool.{Bool, ◌&&◌}
use native.Mathlib.Omega.{arith}
use lib.Dec.{eqb}
use lib.ListN.{length, get_or}
use Rattle.values.specs.Values.{no_line}
use Rattle.reading.specs.Kept.{no_record}
use Rattle.jobfile.proofs.Ranges.{Sized}
use Rattle.jobfile.proofs.Looking.{looking_start, looking_hit, looking_miss, line_reached, line_short}
use Rattle.jobfile.proofs.Looking.{row_small, row_aisle, asked_small, records_counted}
use Rattle.jobfile.proofs.Looking.{testing_start, testing_end, testing_more, testing_short}
use Rattle.jobfile.proofs.stock.stock_test.Goals as goal
use Rattle.jobfile.proofs.stock.stock_test.Goals.{then-same-is_open, else-same-is_open}

pub open_aisles-open-requires : goal.open_aisles-open-requires
open_aisles-open-requires c = c.requires.count_bound

pub lines-init : goal.lines-init
lines-init c = testing_start c.args.job

pub offset_bounds-job-i : goal.offset_bounds-job-i
offset_bounds-job-i c = omega (arith, c.requires.list_ready.count)

pub bounds-job-i : goal.bounds-job-i
bounds-job-i c = omega (arith, c.requires.list_ready.count)

pub overflow_add-i : goal.overflow_add-i
overflow_add-i c = omega (arith, c.requires.list_ready.count)

pub loop-sum-init : goal.loop-sum-init
loop-sum-init c =
    let v = c.args.job in
    let line = get_or v.lines c.lines.i no_line in
    record { short_kept = refl; counted = omega arith; to = looking_start v line.article line.quantity }

-- the sum has reached the quantity of the line
pub lines-preserved : goal.lines-preserved
lines-preserved c =
    -- the arrays' room
    let sized : Sized c.args.job = record { stock = c.well_formed.0.1.1.1.1.1.0.1.0.1; lines = c.well_formed.0.1.1.1.1.1.1.1.0.1.0.1 } in
    let v = c.args.job in
    let l = c.lines in
    let r = c.loop-sum in
    let line = get_or v.lines l.i no_line in
    let size = records_counted v sized c.requires.stock_ready in
    let enough : line.quantity ≤ r.sum = omega (arith, c.loop-sum-test.false) in
    let reached = line_reached v size line r.sum r.k r.invariant.to enough in
    let few : r.k ≤ 384 = omega (arith, r.invariant.to.within, c.requires.stock_ready.count) in
    let room : l.i < length v.lines = omega (arith, sized.lines, c.requires.list_ready.count) in
    let more = testing_more v l.short l.looked l.i r.k l.invariant c.lines-test.true room few reached in
    rw (r.invariant.short_kept, r.invariant.counted) more

pub offset_bounds-job-k : goal.offset_bounds-job-k
offset_bounds-job-k c = omega (arith, c.if-records-k.false, c.requires.stock_ready.count)

pub bounds-job-k : goal.bounds-job-k
bounds-job-k c = omega (arith, c.if-records-k.false, c.requires.stock_ready.count)

-- the record there: it is one of those that are counted, and its aisle one of at most 16
pub overflow_sub-is_open : goal.overflow_sub-is_open
overflow_sub-is_open c =
    let sized : Sized c.args.job = record { stock = c.well_formed.0.1.1.1.1.1.0.1.0.1; lines = c.well_formed.0.1.1.1.1.1.1.1.0.1.0.1 } in
    let more_left : c.loop-sum.k < c.args.job.records = omega (arith, c.if-records-k.false) in
    let there = row_aisle c.args.job sized c.loop-sum.k more_left c.requires.stock_ready in
    there.0

pub bounds-open-row : goal.bounds-open-row
bounds-open-row c =
    let sized : Sized c.args.job = record { stock = c.well_formed.0.1.1.1.1.1.0.1.0.1; lines = c.well_formed.0.1.1.1.1.1.1.1.0.1.0.1 } in
    let more_left : c.loop-sum.k < c.args.job.records = omega (arith, c.if-records-k.false) in
    let there = row_aisle c.args.job sized c.loop-sum.k more_left c.requires.stock_ready in
    omega (arith, there.0, there.1)

pub overflow_add-sum : goal.overflow_add-sum
overflow_add-sum c =
    let sized : Sized c.args.job = record { stock = c.well_formed.0.1.1.1.1.1.0.1.0.1; lines = c.well_formed.0.1.1.1.1.1.1.1.0.1.0.1 } in
    let more_left : c.loop-sum.k < c.args.job.records = omega (arith, c.if-records-k.false) in
    let row = row_small c.args.job sized c.loop-sum.k more_left c.requires.stock_ready in
    let asked = asked_small c.args.job sized c.lines.i c.lines-test.true c.requires.list_ready in
    omega (arith, row, asked, c.loop-sum-test.true)

pub overflow_add-k : goal.overflow_add-k
overflow_add-k c = omega (arith, c.loop-sum.invariant.to.within, c.requires.stock_ready.count)

pub overflow_add-looked : goal.overflow_add-looked
overflow_add-looked c =
    let r = c.loop-sum in
    omega (arith, r.invariant.counted, r.invariant.to.within, c.lines.invariant.small, c.lines-test.true, c.requires.stock_ready.count, c.requires.list_ready.count)

-- one record more has been looked at; it counts where its article is the line's and the flag of its aisle says that it is open
pub loop-sum-preserved : goal.loop-sum-preserved
loop-sum-preserved c =
    let sized : Sized c.args.job = record { stock = c.well_formed.0.1.1.1.1.1.0.1.0.1; lines = c.well_formed.0.1.1.1.1.1.1.1.0.1.0.1 } in
    let more_left : c.loop-sum.k < c.args.job.records = omega (arith, c.if-records-k.false) in
    let v = c.args.job in
    let l = c.lines in
    let r = c.loop-sum in
    let line = get_or v.lines l.i no_line in
    let row = get_or v.stock r.k no_record in
    let size = records_counted v sized c.requires.stock_ready in
    let lacking : r.sum < line.quantity = omega (arith, c.loop-sum-test.true) in
    let there = row_aisle c.args.job sized c.loop-sum.k more_left c.requires.stock_ready in
    let flag = c.open_aisles-open.ensures row.aisle there.0 there.1 in
    let counts = ap (λ (b : Bool). eqb row.article line.article && b) flag in
    let hit = looking_hit v line.article line.quantity r.sum r.k r.invariant.to more_left lacking size in
    let miss = looking_miss v line.article line.quantity r.sum r.k r.invariant.to more_left lacking size in
    record {
      short_kept = r.invariant.short_kept;
      counted = omega (arith, r.invariant.counted);
      to =
          elim c.if-same-is_open.branch [
            | then-same-is_open w ↦ rw w.sum-is (hit (sym counts ∙ w.if-same-is_open.true))
            | else-same-is_open w ↦ rw w.sum-is (miss (sym counts ∙ w.if-same-is_open.false))
          ];
    }

-- behind the last line
pub returns-after-lines : goal.returns-after-lines
returns-after-lines c =
    let l = c.lines in
    let end = testing_end c.args.job l.short l.looked l.i l.invariant c.lines-test.false in
    record { short_value = end.0; looked_value = end.1 }

-- no record is left for the line: it is the first short one
pub returns-then-records-k : goal.returns-then-records-k
returns-then-records-k c =
    let sized : Sized c.args.job = record { stock = c.well_formed.0.1.1.1.1.1.0.1.0.1; lines = c.well_formed.0.1.1.1.1.1.1.1.0.1.0.1 } in
    let v = c.args.job in
    let l = c.lines in
    let r = c.loop-sum in
    let line = get_or v.lines l.i no_line in
    let size = records_counted v sized c.requires.stock_ready in
    let lacking : r.sum < line.quantity = omega (arith, c.loop-sum-test.true) in
    let none_left : v.records ≤ r.k = omega (arith, c.if-records-k.true) in
    let short = line_short v size line r.sum r.k r.invariant.to lacking none_left in
    let room : l.i < length v.lines = omega (arith, sized.lines, c.requires.list_ready.count) in
    let (is, number) = testing_short v l.short l.looked l.i r.k l.invariant c.lines-test.true room short in
    record { short_value = is; looked_value = r.invariant.counted ∙ number }
