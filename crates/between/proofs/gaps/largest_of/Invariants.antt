-- `between::gaps::largest_of` meets its contract: the heights below h are filled, with the largest distances by two arrays.
use Rattle.std.proofs.Common.{false, get_or}
use Rattle.between.specs.Stops.{first_wide, flagged_or}
use Rattle.between.proofs.Heights.{Filled}
use Rattle.between.proofs.gaps.largest_of.Given as goal

abbrev pub invariant-loop-h : goal.invariant-loop-h
invariant-loop-h l =
    Filled (flagged_or l.listed 0) false l.front l.h
    × Filled (flagged_or l.listed l.top) false l.back l.h
    × Filled (λ k. first_wide l.z (get_or l.fronts k 0) l.backs k) 0 l.from l.h
