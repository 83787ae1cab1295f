-- Of an action with two cells: the word and the first cell, and the second in the rest of the space. The others are found.
use Rattle.lines.proofs.Writing.{going_first, going_on, going_end}
use Rattle.lines.proofs.ActionLine.write.Goals as goal

pub returns-in-Gap : goal.returns-in-Gap
returns-in-Gap c =
    rw c.in-Gap.is
    (going_end (going_on _ _ (going_first _ _ (rw c.in-Gap.is at c.requires) c.write_word-at-in-Gap.ensures) c.write_field-at.ensures) c.write_field-in-Gap.ensures)
