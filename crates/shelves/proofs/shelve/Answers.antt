-- A record of an open aisle is put on the shelf, one of a shut aisle changes nothing.
use Rattle.std.proofs.Common.{arith, sym, ◌∙◌}
use Rattle.values.specs.declared.Shelf.{Shelf}
use Rattle.values.specs.Values.{job_of}
use Rattle.shelves.proofs.Shelving.{record_small, record_flag, shelve_none, shelve_shut, shelve_next, shelve_all}
use Rattle.shelves.proofs.shelve.Goals as goal
use Rattle.shelves.proofs.shelve.Goals.{then-counts, else-counts}

pub loop-record-init : goal.loop-record-init
loop-record-init c = shelve_none (job_of c.args.job)

pub cell_number-at-requires : goal.cell_number-at-requires
cell_number-at-requires c =
    let r = record_small c.args.job c.requires c.loop-record.record-index c.loop-record-test.true in
    (r.aisle.0, r.aisle.1, r.cell.0, r.cell.1)

pub overflow_sub-counts : goal.overflow_sub-counts
overflow_sub-counts c = (record_small c.args.job c.requires c.loop-record.record-index c.loop-record-test.true).aisle.0

pub bounds-open-record : goal.bounds-open-record
bounds-open-record c = omega (arith, record_small c.args.job c.requires c.loop-record.record-index c.loop-record-test.true)

pub loop-record-preserved : goal.loop-record-preserved
loop-record-preserved c =
    let o = c.loop-record in
    let job = c.args.job in
    let n = o.record-index in
    let open_is = c.open_aisles-open in
    let number = c.cell_number-at in
    let flag = record_flag job c.requires n c.loop-record-test.true open_is.result open_is.ensures in
    elim c.if-counts.branch [
      | then-counts w ↦ rw (w.line-is, w.quantity-is)
          (shelve_next job c.requires n c.loop-record-test.true (sym flag ∙ w.if-counts.true) o.line o.quantity number.result w.line_of.result number.ensures.0 w.line_of.ensures o.invariant)
      | else-counts w ↦ rw (w.line-is, w.quantity-is)
          (shelve_shut job c.requires n c.loop-record-test.true o.line o.quantity (sym flag ∙ w.if-counts.false) o.invariant)
    ]

pub returns : goal.returns
unfolding job_of
returns c =
    let o = c.loop-record in
    let shelf : Shelf = record { line = o.line; quantity = o.quantity; «open» = c.open_aisles-open.result } in
    shelve_all (job_of c.args.job) shelf o.record-index (omega arith) c.open_aisles-open.ensures o.invariant
