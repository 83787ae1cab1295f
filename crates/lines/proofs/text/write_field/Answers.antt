-- `lines::text::write_field` meets its contract: the digits, and the separator in the next byte.
use Rattle.std.proofs.Common.{[], ◌∷◌}
use Rattle.rules.specs.JobFile.{numeral, field}
use Rattle.lines.proofs.Writing.{first_room, going_first, last_room, going_last}
use Rattle.lines.proofs.text.write_field.Goals as goal

pub write_number-at-requires : goal.write_number-at-requires
unfolding field
write_number-at-requires c = first_room (numeral c.args.n) (c.args.separator ∷ []) c.requires

pub bounds-sheet-at : goal.bounds-sheet-at
unfolding field
bounds-sheet-at c = last_room (going_first (numeral c.args.n) (c.args.separator ∷ []) c.requires c.write_number-at.ensures)

pub returns : goal.returns
unfolding field
returns c = going_last (going_first (numeral c.args.n) (c.args.separator ∷ []) c.requires c.write_number-at.ensures)
