-- The marks that are made of a record with a bit are those of the definition.
use mathlib.Core.Path.{sym, ◌∙◌}
use Rattle.marks.proofs.Cells.{mark_passed, marks_made_lem}
use Rattle.marks.proofs.mark.Goals as goal

pub returns-then-not-has_bit : goal.returns-then-not-has_bit
returns-then-not-has_bit c = sym (mark_passed c.args.marks c.args.row (sym c.has_bit.ensures.value ∙ c.if-not-has_bit.true))

pub returns : goal.returns
returns c = marks_made_lem c.args.marks c.args.row (sym c.has_bit.ensures.value ∙ c.if-not-has_bit.false)
