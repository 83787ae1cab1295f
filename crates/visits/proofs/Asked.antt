-- What is asked of the picks and the runs, put together: the picks met along the walk are those in its order.
use Rattle.std.proofs.Common.{ℕ, ◌<◌, ◌≡◌, Option, None, List, [], length, replicate, refl, sym, ap, ◌∙◌, subst, arith}
use mathlib.Core.List.{Memᴰ}
use lib.ListN.{length-replicate}
use Rattle.rules.specs.declared.Layout.{Layout}
use Rattle.rules.specs.declared.Pick.{Pick}
use Rattle.rules.specs.declared.Run.{Run}
use Rattle.rules.specs.Store.{depot_point}
use Rattle.rules.specs.Walks.{Walk}
use Rattle.rules.specs.Page.{pick_cell, along_walk}
use Rattle.closedwalks.specs.Ways.{PointOf, Leads}
use Rattle.closedwalks.proofs.Degrees.{depot_point_lem}
use Rattle.closedwalks.proofs.Walked.{closed_leads}
use Rattle.closedwalks.proofs.Counts.{layout_bounds}
use Rattle.flood.specs.Points.{depot_number}
use Rattle.flood.proofs.Flooding.{none_at}
use Rattle.visits.specs.Visited.{walk_of_runs, Walked}
use Rattle.visits.specs.Numbered.{spot_of, noted_all, picks_along, StaysIn, Ahead}
use Rattle.visits.proofs.Counts.{along_count}
use Rattle.visits.proofs.Order.{spot_at, PointWithin, point_number, stays_in, met_in_order}
use Rattle.visits.proofs.Notes.{noted_length, noted_standing}

-- the picks noted where nothing stood
abbrev pub noted_of : List Pick → List (Option Pick)
noted_of picks = noted_all picks (replicate 442 None)

module _ (z : Layout) (picks : List Pick) (runs : List Run) (w : Walked z picks runs) where
  -- the walk of the runs
  abbrev walk : Walk
  walk = walk_of_runs runs

  -- a pick's cell is a point
  cell_within : (x : Pick) → Memᴰ x picks → PointWithin (pick_cell x)
  unfolding pick_cell
  cell_within x m =
      let b = layout_bounds z w.bounds in
      let c = w.cells x m in
      record { aisle = (c.aisle.0, omega (arith, b, c.aisle)); height = omega (arith, b, c.cell) }

  -- its number is one of the list
  pub spot_below : (x : Pick) → Memᴰ x picks → spot_of x < 442
  unfolding pick_cell
  spot_below x m = (point_number (pick_cell x) (cell_within x m)).1

  -- the walk starts at a point of the store
  depot_of : PointOf z (depot_point z)
  depot_of = let b = layout_bounds z w.bounds in depot_point_lem z b.2 b.3

  -- whose number this is
  depot_spot : spot_at (depot_point z) ≡ depot_number z
  unfolding depot_number
  depot_spot = refl

  -- and leads back to it
  leads : Leads z (depot_point z) walk (depot_point z)
  leads = closed_leads z walk w.closed

  -- the picks that it meets are in its order
  pub walk_meets : picks_along (depot_number z) walk (noted_of picks) ≡ along_walk z walk picks
  unfolding along_walk
  walk_meets =
      let b = layout_bounds z w.bounds in
      let standing = noted_standing picks (replicate 442 None) cell_within w.apart (length-replicate {A = Option Pick} 442 None) (none_at {A = Option Pick} None 442) in
      ap (λ (n : ℕ). picks_along n walk (noted_of picks)) (sym depot_spot) ∙ met_in_order z b.0 b.1 (depot_point z) (depot_point z) walk depot_of leads (noted_of picks) picks standing

  -- the walk can be followed, with room for them
  pub walk_ahead : Ahead walk (noted_of picks) [] (depot_number z)
  walk_ahead =
      let b = layout_bounds z w.bounds in
      record {
        size = noted_length picks (replicate 442 None) ∙ length-replicate {A = Option Pick} 442 None;
        within = subst (λ (n : ℕ). StaysIn n walk) depot_spot (stays_in z b.0 b.1 (depot_point z) (depot_point z) walk depot_of leads);
        room = omega (arith, ap length walk_meets, along_count z walk picks, w.pick_count);
      }
