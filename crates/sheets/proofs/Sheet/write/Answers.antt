-- `sheets::Sheet::write` meets its contract: behind each section the next is written into the rest of the space.
use Rattle.sheets.specs.Parts.{sheet_of_parts}
use Rattle.lines.proofs.Writing.{first_room, going_first, next_room, going_on, end_room, going_end}
use Rattle.sheets.proofs.SheetLaws.{total_section}
use Rattle.sheets.proofs.Sheet.write.Goals as goal

pub write_section-at-requires : goal.write_section-at-requires
unfolding sheet_of_parts
write_section-at-requires c = rw (c.total.ensures, total_section) (first_room _ _ c.requires)

pub write_section-at-requires-2 : goal.write_section-at-requires-2
unfolding sheet_of_parts
write_section-at-requires-2 c =
    let to_t = going_first _ _ c.requires (rw (c.total.ensures, total_section) at c.write_section-at.ensures) in
    rw c.actions.ensures (next_room _ _ to_t)

pub write_section-at-requires-3 : goal.write_section-at-requires-3
unfolding sheet_of_parts
write_section-at-requires-3 c =
    let to_t = going_first _ _ c.requires (rw (c.total.ensures, total_section) at c.write_section-at.ensures) in
    let to_a = going_on _ _ to_t (rw c.actions.ensures at c.write_section-at-2.ensures) in
    rw (c.saturating_sub.ensures, c.passages.ensures) (next_room _ _ to_a)

pub write_section-at-requires-4 : goal.write_section-at-requires-4
unfolding sheet_of_parts
write_section-at-requires-4 c =
    let to_t = going_first _ _ c.requires (rw (c.total.ensures, total_section) at c.write_section-at.ensures) in
    let to_a = going_on _ _ to_t (rw c.actions.ensures at c.write_section-at-2.ensures) in
    let to_c = going_on _ _ to_a (rw (c.saturating_sub.ensures, c.passages.ensures) at c.write_section-at-3.ensures) in
    rw c.as_slice.ensures.value (next_room _ _ to_c)

pub write_section-requires : goal.write_section-requires
unfolding sheet_of_parts
write_section-requires c =
    let to_t = going_first _ _ c.requires (rw (c.total.ensures, total_section) at c.write_section-at.ensures) in
    let to_a = going_on _ _ to_t (rw c.actions.ensures at c.write_section-at-2.ensures) in
    let to_c = going_on _ _ to_a (rw (c.saturating_sub.ensures, c.passages.ensures) at c.write_section-at-3.ensures) in
    let to_p = going_on _ _ to_c (rw c.as_slice.ensures.value at c.write_section-at-4.ensures) in
    rw c.as_slice-2.ensures.value (end_room to_p)

pub returns : goal.returns
unfolding sheet_of_parts
returns c =
    let to_t = going_first _ _ c.requires (rw (c.total.ensures, total_section) at c.write_section-at.ensures) in
    let to_a = going_on _ _ to_t (rw c.actions.ensures at c.write_section-at-2.ensures) in
    let to_c = going_on _ _ to_a (rw (c.saturating_sub.ensures, c.passages.ensures) at c.write_section-at-3.ensures) in
    let to_p = going_on _ _ to_c (rw c.as_slice.ensures.value at c.write_section-at-4.ensures) in
    going_end to_p (rw c.as_slice-2.ensures.value at c.write_section.ensures)
