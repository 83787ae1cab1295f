-- The first i flags are those of aisles 1 to i.
use Rattle.std.proofs.Common.{◌≡◌, false, ℕ, ◌<◌, ◌+◌, get_or, Some}
use Rattle.rules.specs.Hours.{is_open}
use Rattle.values.specs.Values.{hours_of}
use Rattle.hours.proofs.open_aisles.Given as goal

abbrev pub invariant-loop-i : goal.invariant-loop-i
invariant-loop-i l = (k : ℕ) → k < l.i → get_or l.flag-items k false ≡ is_open (hours_of (Some l.clock)) (k + 1)
