-- `table::filling::end_row` meets its contract: place 1 of a row of 'none' is set.
use Rattle.std.proofs.Common.{refl}
use Rattle.table.specs.TableHolds.{end_row}
use Rattle.table.proofs.filling.end_row.Goals as goal

pub returns : goal.returns
unfolding end_row
returns c = refl
