-- What is asked of the picks and of the runs of a walk.
use Rattle.std.specs.Prelude.{◌≤◌, ◌≡◌, true, length, replicate}
use mathlib.Core.List.{List, Memᴰ}
use Rattle.rules.specs.declared.Layout.{Layout}
use Rattle.rules.specs.declared.Pick.{Pick}
use Rattle.rules.specs.declared.Run.{Run}
use Rattle.rules.specs.Lists.{concat_of, Sorted}
use Rattle.rules.specs.Store.{layout_in_bounds}
use Rattle.rules.specs.Walks.{Walk, ClosedWalk}
use Rattle.rules.specs.Page.{pick_cell}

-- the steps of a run
unfoldable pub steps_of_run : Run → Walk
steps_of_run r = replicate r.steps r.direction

-- the walk that has these runs
unfoldable pub walk_of_runs : List Run → Walk
walk_of_runs rs = concat_of steps_of_run rs

-- a pick's cell is one of the store's
pub record CellWithin (z : Layout) (x : Pick) : Type 0 where
  pub aisle : (1 ≤ x.aisle) × (x.aisle ≤ z.aisles)
  pub cell : (1 ≤ x.cell) × (x.cell ≤ z.cells)

-- two picks are made in two cells
unfoldable pub Apart : Pick → Pick → Type 0
Apart x y = pick_cell x ≡ pick_cell y → ⊥

-- picks in cells of the store, no two of them in one, and the runs of a closed walk of at most 860 steps
pub record Walked (z : Layout) (picks : List Pick) (runs : List Run) : Type 0 where
  pub bounds : layout_in_bounds z ≡ true
  pub pick_count : length picks ≤ 384
  pub cells : (x : Pick) → Memᴰ x picks → CellWithin z x
  pub apart : Sorted Apart picks
  pub closed : ClosedWalk z (walk_of_runs runs)
  pub steps : length (walk_of_runs runs) ≤ 860
