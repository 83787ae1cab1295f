-- `pages::columns::write_column` meets its contract: the number, right-aligned, and the bytes behind it in the rest of the space.
use Rattle.rules.specs.Page.{column}
use Rattle.lines.proofs.Writing.{first_room, going_first, end_room, going_end}
use Rattle.pages.proofs.columns.write_column.Goals as goal

pub write_aligned-at-requires : goal.write_aligned-at-requires
unfolding column
write_aligned-at-requires c = first_room _ _ c.requires

pub write_word-requires : goal.write_word-requires
unfolding column
write_word-requires c = end_room (going_first _ _ c.requires c.write_aligned-at.ensures)

pub returns : goal.returns
unfolding column
returns c = going_end (going_first _ _ c.requires c.write_aligned-at.ensures) c.write_word.ensures
