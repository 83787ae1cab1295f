-- `sheets::sections::section_size` meets its contract. The loop's invariant: the first lines are counted behind the section's first line.
use Rattle.std.proofs.Common.{◌≡◌, ◌+◌, ◌*◌, ◌≤◌, ◌++◌, length, take}
use Rattle.rules.specs.Lists.{concat_of}
use Rattle.rules.specs.JobFile.{header}
use Rattle.sheets.proofs.sections.section_size.Given as goal

abbrev pub invariant-loop-line : goal.invariant-loop-line
invariant-loop-line g l =
    (l.size ≡ length (header l.letter (length l.lines) ++ concat_of g.T.Line.text (take l.line-index l.lines)))
    × (l.size ≤ 23 + g.T.Line.most * l.line-index)
