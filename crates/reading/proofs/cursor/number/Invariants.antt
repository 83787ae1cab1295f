-- The value of the digits so far, with the others behind it, is that of all digits.
use Rattle.std.proofs.Common.{◌≡◌, ◌≤◌, drop}
use Rattle.rules.specs.JobFile.{value_of}
use Rattle.reading.proofs.cursor.number.Given as goal

abbrev pub invariant-loop-digit : goal.invariant-loop-digit
invariant-loop-digit l = (value_of l.value (drop l.digit-index l.digits) ≡ value_of 0 l.digits) × (l.value ≤ 65535)
