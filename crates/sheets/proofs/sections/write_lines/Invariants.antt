-- `sheets::sections::write_lines` meets its contract. The loop's invariant: the first lines are written, and all have room.
use Rattle.lines.proofs.Writing.{SoFar}
use Rattle.sheets.proofs.sections.write_lines.Given as goal

abbrev pub invariant-loop-line : goal.invariant-loop-line
invariant-loop-line g l = SoFar g.T.Line.text l.lines l.initial.sheet l.sheet l.at l.line-index
