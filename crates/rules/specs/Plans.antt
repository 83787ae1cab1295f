-- Document 01, "Plans": actions and passages, how often they tread each edge, which cells they pass, and their length.
use Rattle.std.specs.Prelude.{ℕ, suc, ◌*◌, ◌≤◌, ◌<◌, ◌≡◌, List, Bool, true, false, cond, ◌||◌, ltb, leb, length}
use Rattle.rules.specs.declared.Layout.{Layout}
use Rattle.rules.specs.declared.Action.{Action}
use Rattle.rules.specs.declared.Action.TheVariants.{Void, Bottom, Top, Gap, Once, Twice}
use Rattle.rules.specs.declared.Kind.{Kind}
use Rattle.rules.specs.declared.Kind.TheVariants.{Void as VOID, Bottom as BOTTOM, Top as TOP, Gap as GAP, Once as ONCE, Twice as TWICE}
use Rattle.rules.specs.declared.Passage.{Passage}
use Rattle.rules.specs.declared.Passage.TheVariants.{P00, P02, P11, P20, P22}
use Rattle.rules.specs.Lists.{sum_of, nth}
use Rattle.rules.specs.Store.{Edge, along, front, back, distance, edges_of}

-- the kind of an action
abbrev pub kind_of : Action → Kind
kind_of Void = VOID
kind_of (Bottom i) = BOTTOM
kind_of (Top i) = TOP
kind_of (Gap h i) = GAP
kind_of Once = ONCE
kind_of Twice = TWICE

-- the rank of a kind: VOID, BOTTOM, TOP, GAP, ONCE, TWICE
abbrev pub kind_rank : Kind → ℕ
kind_rank VOID = 0
kind_rank BOTTOM = 1
kind_rank TOP = 2
kind_rank GAP = 3
kind_rank ONCE = 4
kind_rank TWICE = 5

-- one action per aisle, and one passage per pair of neighbouring aisles
pub record Plan : Type 0 where
  pub actions : List Action
  pub passages : List Passage

-- the action of aisle j
unfoldable pub action_at : Plan → ℕ → Action
action_at plan j = nth plan.actions j Void

-- the passage between the aisles j and j + 1; none at either end of the store
unfoldable pub passage_at : Plan → ℕ → Passage
passage_at plan j = nth plan.passages j P00

-- an action of an aisle with that many cells
abbrev pub Fits : ℕ → Action → Type 0
Fits cells Void = Unit {0}
Fits cells (Bottom i) = (1 ≤ i) × (i ≤ cells)
Fits cells (Top i) = (1 ≤ i) × (i ≤ cells)
Fits cells (Gap h i) = (1 ≤ h) × (h < i) × (i ≤ cells)
Fits cells Once = Unit {0}
Fits cells Twice = Unit {0}

-- a plan of the store: m actions that fit its aisles, m − 1 passages
pub record WellFormed (z : Layout) (plan : Plan) : Type 0 where
  pub aisles : length plan.actions ≡ z.aisles
  pub passages : suc (length plan.passages) ≡ z.aisles
  pub fits : (j : ℕ) → Fits z.cells (action_at plan j)

-- how often ("treads") an action treads the edge of its aisle between the heights k and k + 1
abbrev pub aisle_treads : Action → ℕ → ℕ
aisle_treads Void k = 0
aisle_treads (Bottom i) k = cond (ltb k i) 2 0
aisle_treads (Top i) k = cond (leb i k) 2 0
aisle_treads (Gap h i) k = cond (ltb k h || leb i k) 2 0
aisle_treads Once k = 1
aisle_treads Twice k = 2

-- a passage's two digits: how often it treads the back cross-aisle
abbrev pub back_treads : Passage → ℕ
back_treads P00 = 0
back_treads P02 = 0
back_treads P11 = 1
back_treads P20 = 2
back_treads P22 = 2

-- and of the front cross-aisle
abbrev pub front_treads : Passage → ℕ
front_treads P00 = 0
front_treads P02 = 2
front_treads P11 = 1
front_treads P20 = 0
front_treads P22 = 2

-- the multiplicity ("treads") of an edge in a plan
unfoldable pub multiplicity : Plan → Edge → ℕ
multiplicity plan (along j k) = aisle_treads (action_at plan j) k
multiplicity plan (front j) = front_treads (passage_at plan j)
multiplicity plan (back j) = back_treads (passage_at plan j)

-- the length of treading each edge of the store so often: the sum of their distances, each times its treads
unfoldable pub length_of : Layout → (Edge → ℕ) → ℕ
length_of z treads = sum_of (λ e. treads e * distance z e) (edges_of z)

-- a plan's length
unfoldable pub plan_length : Layout → Plan → ℕ
plan_length z plan = length_of z (multiplicity plan)

-- the cells that an action passes in its aisle
abbrev pub passes_cell : Action → ℕ → Bool
passes_cell Void c = false
passes_cell (Bottom i) c = leb c i
passes_cell (Top i) c = leb i c
passes_cell (Gap h i) c = leb c h || leb i c
passes_cell Once c = true
passes_cell Twice c = true

-- whether a plan passes a cell
unfoldable pub plan_passes : Plan → ℕ → ℕ → Bool
plan_passes plan j c = passes_cell (action_at plan j) c

-- an aisle is entered when it is not VOID
abbrev pub entered : Action → Bool
entered Void = false
entered (Bottom i) = true
entered (Top i) = true
entered (Gap h i) = true
entered Once = true
entered Twice = true
