-- `machine::passage_digit` meets its contract: PASSAGES is the table of the crossings.
use Rattle.machine.specs.Steps.{place_number}
use Rattle.machine.proofs.Tables.{passage_tag, place_tag, place_small, passage_entry}
use Rattle.machine.proofs.passage_digit.Goals as goal

pub returns : goal.returns
returns c =
    let place = c.args.place in
    rw (passage_tag c.args.passage, place_tag place) (passage_entry c.args.passage (place_number place) c.args.state (place_small place) c.requires)
