use Rattle.std.proofs.Common.{◌≡◌}
use Rattle.reading.proofs.Whole.{lines_there, clock_whole}
use Rattle.values.specs.Values.{no_window}
use Rattle.rules.specs.JobFile.{letter_h, read_window, read_section}
use Rattle.reading.proofs.cursor.Cursor.clock.Goals as goal

pub returns : goal.returns
returns c =
    let behind = c.in_ok-minute.next.rest.now in
    let blank : c.default-windows.result ≡ no_window = let h = c.default-windows.ensures in λ i. record { aisle = h.0 i; from = h.1.0 i; to = h.1.1 i } in
    let rows = lines_there (λ none w. none) tt 64 no_window c.section.new.places c.default-windows.result blank (read_section letter_h read_window behind) c.in_ok-count.count tt c.in_ok-count.next c.in_ok-count.ensures.found in
    clock_whole c.args.self.rest.now c.in_ok-minute.minute behind c.in_ok-count.count c.section.new.places c.in_ok-count.next.rest.now c.in_ok-minute.ensures rows
