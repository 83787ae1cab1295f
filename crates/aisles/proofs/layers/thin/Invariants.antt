-- `aisles::layers::thin` meets its contract: the front turns up to height h and the back turns below it are looked at.
use Prim.Native.Nat.{ℕ, ◌+◌, ◌<◌}
use mathlib.Core.Path.{◌≡◌}
use lib.ListN.{length, get_or}
use Rattle.aisles.specs.Turns.{front_kept, back_kept}
use Rattle.aisles.proofs.layers.thin.Given as goal

abbrev pub invariant-loop-h : goal.invariant-loop-h
invariant-loop-h l =
    (length l.front ≡ 26)
    × (length l.back ≡ 26)
    × (get_or l.front 0 0 ≡ get_or l.turns.front 0 0)
    × ((k : ℕ) → k < l.h → get_or l.front (k + 1) 0 ≡ front_kept l.turns l.same k)
    × ((k : ℕ) → k < l.h → get_or l.back k 0 ≡ back_kept l.turns l.same k)
    × (get_or l.back l.turns.top 0 ≡ get_or l.turns.back l.turns.top 0)
