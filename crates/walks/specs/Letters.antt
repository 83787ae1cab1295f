-- The letters by the numbers of points, and the test of a letter.
use Rattle.std.specs.Prelude.{ℕ, ◌+◌, ◌-◌, ◌≡◌, List, Bool, true, false, get_or}
use Rattle.std.proofs.Math.Option.{Option, none, some}
use Rattle.rules.specs.declared.Layout.{Layout}
use Rattle.rules.specs.declared.Direction.{Direction}
use Rattle.rules.specs.declared.Direction.TheVariants.{Back, Front, Left, Right}
use Rattle.rules.specs.Store.{layout_in_bounds}
use Rattle.rules.specs.Walks.{Walk, step_to, step_edge}
use Rattle.rules.specs.FirstWalk.{without, first_from, steps_of}
use Rattle.closedwalks.specs.Greedy.{LetterTest, first_letter, admits, greedy, Ready}
use Rattle.treads.specs.Treads.{point_at, left_of, Charted}

-- the place of the treads that way
abbrev pub slot_by : Direction → ℕ → ℕ
slot_by Back n = n
slot_by Front n = n - 1
slot_by Left n = n + 416
slot_by Right n = n + 442

-- the treads that are left at a point
abbrev pub treads_at : List ℕ → ℕ → ℕ
treads_at left n = get_or left (slot_by Back n) 0 + get_or left (slot_by Front n) 0 + get_or left (slot_by Left n) 0 + get_or left (slot_by Right n) 0

-- whether the search found a walk
abbrev pub is_some : Option Walk → Bool
is_some none = false
is_some (some walk) = true

-- the test of a letter: the search finds a walk behind it
unfoldable pub finds : Layout → LetterTest
finds z left x d = is_some (first_from z (steps_of z (without left (step_edge x d))) (without left (step_edge x d)) (step_to x d))

-- what is left can be walked from a point to the depot
pub record Walkable (z : Layout) (left : List ℕ) (at : ℕ) : Type 0 where
  pub bounds : layout_in_bounds z ≡ true
  pub charted : Charted z left
  pub ready : Ready z (left_of z left) (point_at at)

-- whether a letter can be next
unfoldable pub can_be : Layout → List ℕ → ℕ → Direction → Bool
can_be z left at = admits z (finds z) (left_of z left) (point_at at)

-- the next letter, where there is one
unfoldable pub next_letter : Layout → List ℕ → ℕ → Option Direction
next_letter z left at = first_letter (can_be z left at Back) (can_be z left at Front) (can_be z left at Left) (can_be z left at Right)

-- the letters that are still to come
unfoldable pub letters_left : Layout → List ℕ → ℕ → Walk
letters_left z left at = greedy z (finds z) (steps_of z (left_of z left)) (left_of z left) (point_at at)
