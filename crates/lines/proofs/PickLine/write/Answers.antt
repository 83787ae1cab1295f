-- A pick's line is written field by field.
use Rattle.rules.specs.Sheet.{pick_text}
use Rattle.lines.proofs.Writing.{first_room, going_first, next_room, going_on, end_room, going_end}
use Rattle.lines.proofs.PickLine.write.Goals as goal

pub write_field-at-requires : goal.write_field-at-requires
unfolding pick_text
write_field-at-requires c = first_room _ _ c.requires

pub write_field-at-requires-2 : goal.write_field-at-requires-2
unfolding pick_text
write_field-at-requires-2 c = next_room _ _ (going_first _ _ c.requires c.write_field-at.ensures)

pub write_field-at-requires-3 : goal.write_field-at-requires-3
unfolding pick_text
write_field-at-requires-3 c = next_room _ _ (going_on _ _ (going_first _ _ c.requires c.write_field-at.ensures) c.write_field-at-2.ensures)

pub write_field-requires : goal.write_field-requires
unfolding pick_text
write_field-requires c =
    end_room (going_on _ _ (going_on _ _ (going_first _ _ c.requires c.write_field-at.ensures) c.write_field-at-2.ensures) c.write_field-at-3.ensures)

pub returns : goal.returns
unfolding pick_text
returns c =
    going_end (going_on _ _ (going_on _ _ (going_first _ _ c.requires c.write_field-at.ensures) c.write_field-at-2.ensures) c.write_field-at-3.ensures)
    c.write_field.ensures
