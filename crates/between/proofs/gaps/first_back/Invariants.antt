-- `between::gaps::first_back` meets its contract: no height past h and before i is wide enough.
use Rattle.std.proofs.Common.{◌≡◌, ◌+◌, ◌-◌}
use Rattle.between.specs.Between.{first_from}
use Rattle.between.specs.Stops.{wide_at, first_wide}
use Rattle.between.proofs.gaps.first_back.Given as goal

abbrev pub invariant-loop-i : goal.invariant-loop-i
invariant-loop-i l = first_from (wide_at l.z l.front l.back l.h) l.i (l.top + 1 - l.i) ≡ first_wide l.z l.front l.back l.h
