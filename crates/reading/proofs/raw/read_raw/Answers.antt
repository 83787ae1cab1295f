-- Each step tells what the bytes are.
use Rattle.std.proofs.Common.{◌≡◌, ◌<◌, ◌∙◌, sym, arith, length, replicate}
use borrow.Author.Tests.{eqb-true, eqb-false}
use Rattle.rules.specs.JobFile.{letter_s, letter_d, read_record, read_line, read_section, read_hours}
use Rattle.values.specs.Values.{no_line}
use Rattle.rules.specs.declared.OrderLine.{OrderLine}
use Rattle.marks.specs.Marking.{mark_of}
use Rattle.reading.specs.Kept.{no_record}
use Rattle.reading.proofs.Whole.{Stand, Timed, job_kept, lines_missing, lines_there, hours_missing, hours_there, too_long, no_layout, no_stock, no_hours, no_list, trailing, kept_none}
use Rattle.reading.proofs.raw.read_raw.Goals as goal
use Rattle.reading.proofs.raw.read_raw.Goals.{In_ok-records, In_ok-hours, In_ok-orders}

pub returns-then-s-gt16384 : goal.returns-then-s-gt16384
returns-then-s-gt16384 c = kept_none c.args.s.now (too_long c.args.s.now c.if-s-gt16384.true)

pub returns-in_err-layout : goal.returns-in_err-layout
returns-in_err-layout c = c.from_residual.ensures ∙ kept_none c.args.s.now (no_layout c.args.s.now (sym c.in_err-layout.ensures))

pub returns-in_err-records : goal.returns-in_err-records
returns-in_err-records c =
    let s = c.args.s.now in
    let missing = lines_missing _ (replicate 384 c.default-stock.result) c.section.new.places (read_section letter_s read_record c.in_ok-layout.next.rest.now) c.section.result c.section.ensures.found c.in_err-records.was in
    c.from_residual-in_err-records.ensures ∙ kept_none s (no_stock s (sym c.in_ok-layout.ensures) missing)

-- the S section, where it was read
stock : (c : In_ok-records) → Stand mark_of c.no_marks.result (read_section letter_s read_record c.in_ok-layout.next.rest.now) 384 no_record c.section.new.places c.in_ok-records.records c.in_ok-records.marks c.in_ok-records.next.rest.now
stock c =
    let h = c.default-stock.ensures in
    let blank : c.default-stock.result ≡ no_record = λ i. record { aisle = h.0 i; cell = h.1.0 i; article = h.1.1.0 i; quantity = h.1.1.1 i } in
    lines_there mark_of c.no_marks.result 384 no_record c.section.new.places c.default-stock.result blank (read_section letter_s read_record c.in_ok-layout.next.rest.now)
    c.in_ok-records.records c.in_ok-records.marks c.in_ok-records.next c.in_ok-records.ensures.found

pub returns-in_err-hours : goal.returns-in_err-hours
returns-in_err-hours c =
    let s = c.args.s.now in
    let missing = hours_missing (read_hours c.in_ok-records.next.rest.now) c.in_err-hours.ensures in
    c.from_residual-in_err-hours.ensures ∙ kept_none s (no_hours s (sym c.in_ok-layout.ensures) (stock (goal.at.returns-in_err-hours c).In_ok-records).read missing)

-- the sections M and H
timed : (c : In_ok-hours) → Timed (read_hours c.in_ok-records.next.rest.now) c.in_ok-hours.hours c.in_ok-hours.next.rest.now
timed c = hours_there (read_hours c.in_ok-records.next.rest.now) c.in_ok-hours.hours c.in_ok-hours.next.rest.now c.in_ok-hours.ensures

pub returns-in_err-orders : goal.returns-in_err-orders
returns-in_err-orders c =
    let s = c.args.s.now in
    let at = goal.at.returns-in_err-orders c in
    let missing = lines_missing _ (replicate 8 c.default-lines.result) c.section-2.new.places (read_section letter_d read_line c.in_ok-hours.next.rest.now) c.section-2.result c.section-2.ensures.found c.in_err-orders.was in
    c.from_residual-in_err-orders.ensures ∙ kept_none s (no_list s (sym c.in_ok-layout.ensures) (stock at.In_ok-records).read (timed at.In_ok-hours).read missing)

-- the D section
list : (c : In_ok-orders) → Stand (λ (none : Unit {0}) (l : OrderLine). none) tt (read_section letter_d read_line c.in_ok-hours.next.rest.now) 8 no_line c.section-2.new.places c.in_ok-orders.orders tt c.in_ok-orders.last.rest.now
list c =
    let h = c.default-lines.ensures in
    let blank : c.default-lines.result ≡ no_line = λ i. record { article = h.0 i; quantity = h.1 i } in
    lines_there (λ (none : Unit {0}) (l : OrderLine). none) tt 8 no_line c.section-2.new.places c.default-lines.result blank (read_section letter_d read_line c.in_ok-hours.next.rest.now)
    c.in_ok-orders.orders tt c.in_ok-orders.last c.in_ok-orders.ensures.found

pub returns-then-not-is_empty : goal.returns-then-not-is_empty
returns-then-not-is_empty c =
    let s = c.args.s.now in
    let at = goal.at.returns-then-not-is_empty c in
    let other = eqb-false (length c.in_ok-orders.last.rest.now) 0 (sym c.if-not-is_empty.ensures) in
    let more : 0 < length c.in_ok-orders.last.rest.now = omega arith in
    kept_none s (trailing s (sym c.in_ok-layout.ensures) (stock at.In_ok-records).read (timed at.In_ok-hours).read (list at.In_ok-orders).read more)

pub returns : goal.returns
returns c =
    let s = c.args.s.now in
    let at = goal.at.returns c in
    let none = eqb-true (length c.in_ok-orders.last.rest.now) 0 (sym c.if-not-is_empty.ensures) in
    job_kept s (sym c.in_ok-layout.ensures) c.no_marks.ensures (stock at.In_ok-records) (timed at.In_ok-hours) (list at.In_ok-orders) c.if-s-gt16384.false none
