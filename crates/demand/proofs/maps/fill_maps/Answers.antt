-- `demand::maps::fill_maps` meets its contract: the map by the front part of an action, and then that by its back part.
use Rattle.demand.proofs.DemandMaps.{maps_ready}
use Rattle.demand.proofs.maps.fill_maps.Goals as goal

pub returns : goal.returns
returns c =
    let backs = c.fill_map-2 in
    let fronts = c.fill_map in
    let x = c.args in (
      λ job asked. maps_ready job x.cells x.j fronts.new.map backs.new.map asked.cells_are (fronts.ensures.0 job asked) (backs.ensures.0 job asked),
      fronts.ensures.1,
      backs.ensures.1,
    )
