-- `lines::write_header` meets its contract: the letter and a space, and the count in the rest of the space.
use Rattle.std.proofs.Common.{[], ◌∷◌}
use Rattle.rules.specs.JobFile.{space, line_feed, field, header}
use Rattle.lines.proofs.Writing.{first_room, going_first, end_room, going_end}
use Rattle.lines.proofs.write_header.Goals as goal

pub write_word-at-requires : goal.write_word-at-requires
unfolding header
write_word-at-requires c = first_room (c.args.letter ∷ space ∷ []) (field line_feed c.args.n) c.requires

pub write_field-requires : goal.write_field-requires
unfolding header
write_field-requires c = end_room (going_first (c.args.letter ∷ space ∷ []) (field line_feed c.args.n) c.requires c.write_word-at.ensures)

pub returns : goal.returns
unfolding header
returns c = going_end (going_first (c.args.letter ∷ space ∷ []) (field line_feed c.args.n) c.requires c.write_word-at.ensures) c.write_field.ensures
