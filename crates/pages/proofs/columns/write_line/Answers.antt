-- `pages::columns::write_line` meets its contract: four columns, each in the space behind those before it.
use Rattle.rules.specs.Page.{page_line}
use Rattle.lines.proofs.Writing.{first_room, going_first, next_room, going_on, end_room, going_end}
use Rattle.pages.proofs.columns.write_line.Goals as goal

pub write_column-at-requires : goal.write_column-at-requires
unfolding page_line
write_column-at-requires c = first_room _ _ c.requires

pub write_column-at-requires-2 : goal.write_column-at-requires-2
unfolding page_line
write_column-at-requires-2 c = next_room _ _ (going_first _ _ c.requires c.write_column-at.ensures)

pub write_column-at-requires-3 : goal.write_column-at-requires-3
unfolding page_line
write_column-at-requires-3 c = next_room _ _ (going_on _ _ (going_first _ _ c.requires c.write_column-at.ensures) c.write_column-at-2.ensures)

pub write_column-requires : goal.write_column-requires
unfolding page_line
write_column-requires c =
    end_room (going_on _ _ (going_on _ _ (going_first _ _ c.requires c.write_column-at.ensures) c.write_column-at-2.ensures) c.write_column-at-3.ensures)

pub returns : goal.returns
unfolding page_line
returns c =
    going_end (going_on _ _ (going_on _ _ (going_first _ _ c.requires c.write_column-at.ensures) c.write_column-at-2.ensures) c.write_column-at-3.ensures)
    c.write_column.ensures
