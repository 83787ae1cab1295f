-- `demand::maps::fill_map` meets its contract: of every job that it is asked for, the row before the first cell and those of the
-- first n cells are there.
use Rattle.std.proofs.Common.{◌≡◌, ◌+◌, length}
use Rattle.rules.specs.Jobs.{Job}
use Rattle.demand.specs.Maps.{MapsAsked, RowsTo}
use Rattle.demand.proofs.maps.fill_map.Given as goal

abbrev pub invariant-loop-n : goal.invariant-loop-n
invariant-loop-n l =
    (length l.map ≡ length l.initial.map) × ((job : Job) → MapsAsked job l.shelf l.d l.cells l.j → RowsTo job l.cells l.j l.part (l.n + 1) l.map)
