-- `aisles::layers::turns_of` meets its contract: the turns below height h are there.
use Prim.Native.Nat.{ℕ, ◌≤◌, ◌<◌}
use mathlib.Core.Path.{◌≡◌}
use mathlib.Core.Bool.{false, not, ◌||◌}
use lib.ListN.{length, get_or}
use Rattle.aisles.specs.Turns.{front_turn, back_turn, least_back}
use Rattle.aisles.proofs.layers.turns_of.Given as goal

abbrev pub invariant-loop-h : goal.invariant-loop-h
invariant-loop-h l =
    (l.top ≤ 25)
    × (length l.front ≡ 26)
    × (length l.back ≡ 26)
    × (length l.from ≡ 26)
    × ((k : ℕ) → k < l.h → get_or l.front k 0 ≡ front_turn l.z l.kind k (not l.between || get_or l.test.front k false))
    × ((k : ℕ) → k < l.h → get_or l.back k 0 ≡ back_turn l.z l.kind k (not l.between || get_or l.test.back k false))
    × ((k : ℕ) → k < l.h → get_or l.from k 0 ≡ least_back l.between (get_or l.test.from k 0) k)
