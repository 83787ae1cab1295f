-- `between::gaps::front_widest` meets its contract: the heights below h are done, and the last stop and the largest distance are known.
use Rattle.std.proofs.Common.{◌≡◌, ℕ, ◌-◌, ◌<◌, length, get_or}
use Rattle.between.specs.Stops.{front_most}
use Rattle.between.proofs.Reaching.{FrontReached}
use Rattle.between.proofs.gaps.front_widest.Given as goal

abbrev pub invariant-loop-h : goal.invariant-loop-h
invariant-loop-h l =
    (length l.fronts ≡ 26)
    × FrontReached l.z l.listed (l.h - 1) l.last l.most
    × ((k : ℕ) → k < l.h → get_or l.fronts k 0 ≡ front_most l.z l.listed k)
