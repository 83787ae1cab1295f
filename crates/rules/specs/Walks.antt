-- Document 01, "Plans" and "Policies": steps and closed walks; request #106: those that keep out of shut aisles.
use Rattle.std.specs.Prelude.{ℕ, suc, ◌-◌, ◌<◌, ◌≡◌, List, [], ◌∷◌, Bool, true, false, cond, ◌&&◌, ◌||◌, ltb, eqb}
use Rattle.std.proofs.Math.Option.{Option, none, some}
use Rattle.rules.specs.declared.Layout.{Layout}
use Rattle.rules.specs.declared.Direction.{Direction}
use Rattle.rules.specs.declared.Direction.TheVariants.{Back, Front, Left, Right}
use Rattle.rules.specs.Lists.{sum_of, any_of}
use Rattle.rules.specs.Store.{Point, Edge, along, front, back, distance, InStore, depot_point, back_height, same_edge, same_point}
use Rattle.rules.specs.Hours.{Hours, is_open}

-- a crossing: the front or the back one
unfoldable pub is_crossing : Layout → Point → Bool
is_crossing z x = eqb x.height 0 || eqb x.height (back_height z)

-- whether an edge of the store leads from a point that way: B towards the back, F front, L left, R right
unfoldable pub can_step : Layout → Point → Direction → Bool
can_step z x Back = ltb x.height (back_height z)
can_step z x Front = ltb 0 x.height
can_step z x Left = is_crossing z x && ltb 1 x.aisle
can_step z x Right = is_crossing z x && ltb x.aisle z.aisles

-- the point where a step ends
unfoldable pub step_to : Point → Direction → Point
step_to x Back = record { aisle = x.aisle; height = suc x.height }
step_to x Front = record { aisle = x.aisle; height = x.height - 1 }
step_to x Left = record { aisle = x.aisle - 1; height = x.height }
step_to x Right = record { aisle = suc x.aisle; height = x.height }

-- the cross-aisle edge between the aisles j and j + 1 at a crossing's height
abbrev pub cross_edge : Bool → ℕ → Edge
cross_edge true j = front j
cross_edge false j = back j

-- the edge that a step treads
unfoldable pub step_edge : Point → Direction → Edge
step_edge x Back = along x.aisle x.height
step_edge x Front = along x.aisle (x.height - 1)
step_edge x Left = cross_edge (eqb x.height 0) (x.aisle - 1)
step_edge x Right = cross_edge (eqb x.height 0) x.aisle

-- a walk is a list of steps
abbrev pub Walk : Type 0
Walk = List Direction

-- where a walk from x ends, each step taken from where the last one ended; none where a step leads nowhere
abbrev pub walk_end : Layout → Point → Walk → Option Point
walk_end z x [] = some x
walk_end z x (d ∷ ds) = elim (can_step z x d) [ true ↦ walk_end z (step_to x d) ds | false ↦ none ]

-- the edges that a walk from x treads, step by step
abbrev pub walk_edges : Point → Walk → List Edge
walk_edges x [] = []
walk_edges x (d ∷ ds) = step_edge x d ∷ walk_edges (step_to x d) ds

-- the points where its steps end
abbrev pub walk_points : Point → Walk → List Point
walk_points x [] = []
walk_points x (d ∷ ds) = step_to x d ∷ walk_points (step_to x d) ds

-- a closed walk, the empty one too: it starts and ends at the depot
unfoldable pub ClosedWalk : Layout → Walk → Type 0
ClosedWalk z walk = walk_end z (depot_point z) walk ≡ some (depot_point z)

-- one where the two edges are the same, else nothing
unfoldable pub one : Edge → Edge → ℕ
one e f = cond (same_edge e f) 1 0

-- how often a list of edges has an edge
unfoldable pub times_in : List Edge → Edge → ℕ
times_in edges e = sum_of (one e) edges

-- the multiplicity ("treads") of an edge in a walk from the depot
unfoldable pub walk_treads : Layout → Walk → Edge → ℕ
walk_treads z walk = times_in (walk_edges (depot_point z) walk)

-- a walk's length: the sum of its steps' distances
unfoldable pub walk_length : Layout → Walk → ℕ
walk_length z walk = sum_of (distance z) (walk_edges (depot_point z) walk)

-- a walk passes a cell when one of its steps ends there
unfoldable pub walk_passes : Layout → Walk → ℕ → ℕ → Bool
walk_passes z walk j c = any_of (same_point (record { aisle = j; height = c })) (walk_points (depot_point z) walk)

-- the order of the alphabet: B, F, L, R
abbrev pub letter_rank : Direction → ℕ
letter_rank Back = 0
letter_rank Front = 1
letter_rank Left = 2
letter_rank Right = 3

-- the letters of the first walk come before those of the second in the alphabet, or are the same
pub data NotAfter : Walk → Walk → Type 0 where
  same : {w : Walk} → NotAfter w w
  earlier : {d e : Direction} {v w : Walk} → letter_rank d < letter_rank e → NotAfter (d ∷ v) (e ∷ w)
  later : {d : Direction} {v w : Walk} → NotAfter v w → NotAfter (d ∷ v) (d ∷ w)

-- a walk that treads no edge of a shut aisle; it may pass the aisle's crossings
unfoldable pub KeepsToOpen : Layout → Hours → Walk → Type 0
KeepsToOpen z hours walk = (j k : ℕ) → is_open hours j ≡ false → InStore z (along j k) → walk_treads z walk (along j k) ≡ 0
