-- The greedy walk: at each point the first letter of the alphabet that a test admits.
use Rattle.std.specs.Prelude.{ℕ, zero, suc, ◌<◌, ◌≡◌, ◌↔◌, [], ◌∷◌, Bool, true, false, ◌&&◌, ltb}
use Rattle.std.proofs.Math.Option.{Option, none, some}
use Rattle.rules.specs.declared.Layout.{Layout}
use Rattle.rules.specs.declared.Direction.{Direction}
use Rattle.rules.specs.declared.Direction.TheVariants.{Back, Front, Left, Right}
use Rattle.rules.specs.Store.{Point, Edge, depot_point}
use Rattle.rules.specs.Walks.{Walk, can_step, step_to, step_edge}
use Rattle.rules.specs.FirstWalk.{without}
use Rattle.closedwalks.specs.Ways.{PointOf, Balanced, Joined}

-- the first letter that is admitted, in the order of the alphabet
abbrev pub first_letter : Bool → Bool → Bool → Bool → Option Direction
first_letter true f l r = some Back
first_letter false true l r = some Front
first_letter false false true r = some Left
first_letter false false false true = some Right
first_letter false false false false = none

-- a test of a letter: from the treads that are left, the point and the letter
abbrev pub LetterTest : Type 0
LetterTest = (Edge → ℕ) → Point → Direction → Bool

-- a letter is admitted when its edge is left and the test holds
abbrev pub admits : Layout → LetterTest → (Edge → ℕ) → Point → Direction → Bool
admits z test left x d = can_step z x d && ltb 0 (left (step_edge x d)) && test left x d

-- the greedy walk of n steps from x; it stops short where no letter is admitted
abbrev pub greedy : Layout → LetterTest → ℕ → (Edge → ℕ) → Point → Walk
greedy z test zero left x = []
greedy z test (suc n) left x =
    elim (first_letter (admits z test left x Back) (admits z test left x Front) (admits z test left x Left) (admits z test left x Right)) [
      | none ↦ []
      | some d ↦ d ∷ greedy z test n (without left (step_edge x d)) (step_to x d)
    ]

-- what is left can be walked from x to the depot, treading all of it
pub record Ready (z : Layout) (left : Edge → ℕ) (x : Point) : Type 0 where
  pub point : PointOf z x
  pub balanced : Balanced z left x (depot_point z)
  pub joined : Joined z left x

-- the test says of each letter whose edge is left whether all that remains can be reached from the new point, or nothing remains
unfoldable pub TellsJoined : Layout → LetterTest → Type 0
TellsJoined z test =
    (left : Edge → ℕ) (x : Point) (d : Direction) → Ready z left x → can_step z x d ≡ true → 0 < left (step_edge x d)
    → (test left x d ≡ true) ↔ Joined z (without left (step_edge x d)) (step_to x d)
