-- Points of the store, their degrees, and walks from one point to another: what the laws of closed walks are stated with.
use Rattle.std.specs.Prelude.{ℕ, suc, ◌+◌, ◌%◌, ◌≤◌, ◌≡◌, ◌⊎◌, [], ◌∷◌, true, cond}
use Rattle.rules.specs.declared.Layout.{Layout}
use Rattle.rules.specs.declared.Direction.{Direction}
use Rattle.rules.specs.declared.Direction.TheVariants.{Back, Front, Left, Right}
use Rattle.rules.specs.Lists.{sum_of}
use Rattle.rules.specs.Store.{Point, Edge, start_of, same_point}
use Rattle.rules.specs.Lawful.{Trodden, Linked}
use Rattle.rules.specs.Walks.{Walk, can_step, step_to, step_edge, one, walk_edges}

-- a point of the store
pub record PointOf (z : Layout) (x : Point) : Type 0 where
  pub first : 1 ≤ x.aisle
  pub last : x.aisle ≤ z.aisles
  pub high : x.height ≤ suc z.cells

-- the treads of the edge that leads from a point that way; none where no edge does
abbrev pub share : Layout → (Edge → ℕ) → Point → Direction → ℕ
share z treads x d = cond (can_step z x d) (treads (step_edge x d)) 0

-- how often the edges at a point are trodden
abbrev pub degree : Layout → (Edge → ℕ) → Point → ℕ
degree z treads x = share z treads x Back + share z treads x Front + share z treads x Left + share z treads x Right

-- one where the two points are the same, else nothing
unfoldable pub same : Point → Point → ℕ
same x y = cond (same_point x y) 1 0

-- the treads that a walk from x to y can have: odd at its two ends, even elsewhere (even everywhere where it is closed)
abbrev pub Balanced : Layout → (Edge → ℕ) → Point → Point → Type 0
Balanced z treads x y = (p : Point) → PointOf z p → (degree z treads p + same p x + same p y) % 2 ≡ 0

-- a walk from x that ends at y, each step along an edge of the store
abbrev pub Leads : Layout → Point → Walk → Point → Type 0
Leads z x [] y = x ≡ y
Leads z x (d ∷ walk) y = (can_step z x d ≡ true) × Leads z (step_to x d) walk y

-- how often a walk from x treads an edge
abbrev pub treads_from : Point → Walk → Edge → ℕ
treads_from x walk e = sum_of (one e) (walk_edges x walk)

-- a point of a walk from x: its start, or where one of its steps ends
abbrev pub On : Point → Walk → Point → Type 0
On x [] p = p ≡ x
On x (d ∷ walk) p = (p ≡ x) ⊎ On (step_to x d) walk p

-- every trodden edge can be reached from x along trodden edges (so also where nothing is trodden)
unfoldable pub Joined : Layout → (Edge → ℕ) → Point → Type 0
Joined z treads x = (e : Edge) → Trodden z treads e → Linked z treads (start_of z e) x
