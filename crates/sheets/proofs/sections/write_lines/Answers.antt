-- The next line stands in the rest of the space.
use Rattle.lines.proofs.Writing.{turn_room, turn_written}
use Rattle.sheets.proofs.sections.write_lines.Goals as goal

pub write-at-requires : goal.write-at-requires
write-at-requires g c = turn_room c.loop-line.invariant _ c.line-item.is c.loop-line-test.true

pub loop-line-preserved : goal.loop-line-preserved
loop-line-preserved g c = turn_written c.loop-line.invariant _ c.line-item.is c.loop-line-test.true c.write-at.ensures
