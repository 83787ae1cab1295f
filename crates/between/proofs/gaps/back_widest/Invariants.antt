-- `between::gaps::back_widest` meets its contract: the heights from i on are done, and the first stop and the largest distance are known.
use Rattle.std.proofs.Common.{◌≡◌, ℕ, ◌≤◌, length, get_or}
use Rattle.rules.specs.Store.{back_height}
use Rattle.between.specs.Stops.{back_most}
use Rattle.between.proofs.Reaching.{BackReached}
use Rattle.between.proofs.gaps.back_widest.Given as goal

abbrev pub invariant-loop-i : goal.invariant-loop-i
invariant-loop-i l =
    (length l.backs ≡ 26)
    × BackReached l.z l.listed (back_height l.z) l.i l.last l.most
    × ((k : ℕ) → l.i ≤ k → k ≤ back_height l.z → get_or l.backs k 0 ≡ back_most l.z l.listed k)
