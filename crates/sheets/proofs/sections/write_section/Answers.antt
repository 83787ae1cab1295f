-- `sheets::sections::write_section` meets its contract: the first line, and the others in the rest of the space.
use Rattle.rules.specs.JobFile.{section_text}
use Rattle.lines.proofs.Writing.{first_room, going_first, end_room, going_end}
use Rattle.sheets.proofs.sections.write_section.Goals as goal

pub write_header-at-requires : goal.write_header-at-requires
unfolding section_text
write_header-at-requires g c = first_room _ _ c.requires

pub write_lines-requires : goal.write_lines-requires
unfolding section_text
write_lines-requires g c = end_room (going_first _ _ c.requires c.write_header-at.ensures)

pub returns : goal.returns
unfolding section_text
returns g c = going_end (going_first _ _ c.requires c.write_header-at.ensures) c.write_lines.ensures
