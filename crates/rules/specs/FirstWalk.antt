-- Document 01, "Policies", the walk: of all closed walks from the depot that tread each edge exactly as the plan says,
-- the one whose letters come first in the alphabet.
use Rattle.std.specs.Prelude.{ℕ, zero, suc, ◌-◌, ◌≡◌, [], ◌∷◌, true, false, cond, ◌&&◌, ltb}
use Rattle.std.proofs.Math.Option.{Option, none, some, get_or}
use Rattle.rules.specs.declared.Layout.{Layout}
use Rattle.rules.specs.declared.Direction.{Direction}
use Rattle.rules.specs.declared.Direction.TheVariants.{Back, Front, Left, Right}
use Rattle.rules.specs.Lists.{sum_of}
use Rattle.rules.specs.Store.{Point, Edge, InStore, edges_of, depot_point, same_point}
use Rattle.rules.specs.Plans.{Plan, multiplicity}
use Rattle.rules.specs.Walks.{Walk, ClosedWalk, walk_treads, can_step, step_to, step_edge, one}

-- a closed walk from the depot that treads each edge exactly as the plan says
pub record WalkOf (z : Layout) (plan : Plan) (walk : Walk) : Type 0 where
  pub is_closed_lem : ClosedWalk z walk
  pub treads : (e : Edge) → InStore z e → walk_treads z walk e ≡ multiplicity plan e

-- the treads that are left after one tread of an edge
unfoldable pub without : (Edge → ℕ) → Edge → Edge → ℕ
without left e f = left f - one e f

-- the first of the walks that there is
abbrev pub first_way : Option Walk → Option Walk → Option Walk
first_way none other = other
first_way (some walk) other = some walk

abbrev pub step_then : Direction → Option Walk → Option Walk
step_then d none = none
step_then d (some walk) = some (d ∷ walk)

-- the first walk of n steps from x to the depot that treads no edge more often than is left:
-- the letters are tried in the order of the alphabet
abbrev pub first_from : Layout → ℕ → (Edge → ℕ) → Point → Option Walk
first_from z zero left x = cond (same_point x (depot_point z)) (some []) none
first_from z (suc n) left x =
    let go : Direction → Option Walk = λ d. elim (can_step z x d && ltb 0 (left (step_edge x d))) [ true ↦ step_then d (first_from z n (without left (step_edge x d)) (step_to x d)) | false ↦ none ] in
    let b = go Back in
    let f = go Front in
    let l = go Left in
    let r = go Right in
    first_way b (first_way f (first_way l r))

-- the number of steps of a walk that treads each edge so often
unfoldable pub steps_of : Layout → (Edge → ℕ) → ℕ
steps_of z treads = sum_of treads (edges_of z)

-- the walk of the sheet: as many steps as the plan has treads, so that none is left over.
-- (There is one for every lawful plan, and for the plan that treads nothing the empty walk. Else that only stands in.)
unfoldable pub first_walk : Layout → Plan → Walk
first_walk z plan =
    get_or (first_from z (steps_of z (multiplicity plan)) (multiplicity plan) (depot_point z)) []
