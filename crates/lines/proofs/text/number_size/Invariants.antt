-- `lines::text::number_size` meets its contract. The loop's invariant: the digits counted and those of the rest, one too many, are
-- those of the number.
use Prim.Native.Nat.{◌+◌, ◌≤◌}
use mathlib.Core.Path.{◌≡◌}
use lib.ListN.{length}
use Rattle.rules.specs.JobFile.{numeral}
use Rattle.lines.proofs.text.number_size.Given as goal

abbrev pub invariant-loop-rest : goal.invariant-loop-rest
invariant-loop-rest l = (l.size + length (numeral l.rest) ≡ length (numeral l.n) + 1) × (length (numeral l.n) ≤ 20)

abbrev pub decreases-loop-rest : goal.decreases-loop-rest
decreases-loop-rest l = l.rest
