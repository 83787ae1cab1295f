-- `shelves::line_of` meets its contract: the line is the first one from l on.
use Rattle.std.proofs.Common.{◌≡◌, drop}
use Rattle.values.specs.Shelves.{line_from}
use Rattle.shelves.proofs.line_of.Given as goal

abbrev pub invariant-loop-l : goal.invariant-loop-l
invariant-loop-l l = line_from 0 l.lines l.article ≡ line_from l.l (drop l.l l.lines) l.article
