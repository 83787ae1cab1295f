-- `table::filling::fill_layer` meets its contract: with the maps and the rows behind the actions, the rows of the aisle are put in
-- their places.
use Rattle.std.proofs.Common.{arith, ◌+◌, ◌*◌, ◌-◌, ◌≤◌, ◌<◌, refl, length, ◌∙◌}
use borrow.Rule.Slice.PartMut.{mid_len, same_len_mid}
use Rattle.table.proofs.TableFills.{order_aisles, maps_asked, same_aisles, in_range, ready, layer_holds}
use Rattle.table.proofs.WorkRows.{row_written}
use Rattle.table.proofs.filling.fill_layer.Goals as goal

pub fill_maps-requires : goal.fill_maps-requires
fill_maps-requires c =
    let p = c.args in
    let r = c.requires in
    (omega arith, omega arith, (r.order.0, maps_asked r.order.0 p.o.now r.order.1 p.j r.here.0 r.here.1))

pub fill_behind-requires : goal.fill_behind-requires
fill_behind-requires c =
    let x = c.aisle_of-x in
    let p = c.args in
    let r = c.requires in
    let (job, of) = r.order in
    let x-is = x.ensures job of in
    record {
      aisle = in_range job p.j x.result x-is of.admitted;
      few = omega (arith, r.few, same_aisles job p.j x.result x-is, order_aisles job p.o.now of);
      work_long = r.work_long;
      spared_long = r.spared_long;
    }

pub fill_row-requires : goal.fill_row-requires
fill_row-requires c =
    let maps = c.fill_maps in
    let x = c.aisle_of-x in
    let p = c.args in
    let r = c.requires in
    let (job, of) = r.order in
    let at = (p.j - 1) * 2048 in
    -- the rows of the aisle are within the work area, and within the list of ones
    let inside : at + 2048 ≤ length p.work.now = omega (arith, r.here, r.few, r.work_long) in
    let inside' : at + 2048 ≤ length p.spared.now = omega (arith, r.here, r.few, r.spared_long) in
    let map_is = maps.ensures.0 job (maps_asked job p.o.now of p.j r.here.0 r.here.1) in (
      ready job p.j x.result (x.ensures job of) of.admitted maps.new.fronts maps.new.backs map_is (omega (arith, maps.ensures.1)) (omega (arith, maps.ensures.2)),
      omega (arith, mid_len at (at + 2048) p.work.now inside),
      omega (arith, mid_len at (at + 2048) p.spared.now inside'),
      omega arith,
      omega arith,
    )

pub returns : goal.returns
returns c =
    let maps = c.fill_maps in
    let x = c.aisle_of-x in
    let after = c.fill_behind.new.after in
    let row = c.fill_row in
    let p = c.args in
    let r = c.requires in
    let work = p.work.now in
    let spared = p.spared.now in
    let at = (p.j - 1) * 2048 in
    let inside : at + 2048 ≤ length work = omega (arith, r.here, r.few, r.work_long) in
    let inside' : at + 2048 ≤ length spared = omega (arith, r.here, r.few, r.spared_long) in
    record {
      kept = same_len_mid at (at + 2048 - at) work row.new.row row.ensures.1;
      spared_kept = same_len_mid at (at + 2048 - at) spared row.new.spared row.ensures.2;
      filled = λ job of table.
          let x-is = x.ensures job of in
          let map_is = maps.ensures.0 job (maps_asked job p.o.now of p.j r.here.0 r.here.1) in
          let after_is = c.fill_behind.ensures job x-is table in
          let in-job : p.j ≤ job.layout.aisles = omega (arith, r.here, order_aisles job p.o.now of) in
          let room : job.layout.aisles - p.j < 16 = omega (arith, r.here, r.few, order_aisles job p.o.now of) in
          let row_is =
          layer_holds job p.j x.result x-is of.admitted room after.lengths after.ones maps.new.fronts maps.new.backs row.new.row row.new.spared
          map_is after_is row.ensures.0 in
          row_written job of.admitted.light work spared row.new.row row.new.spared p.j at (at + 2048) r.here.0 in-job refl refl inside inside'
          (row.ensures.1 ∙ mid_len at (at + 2048) work inside) (row.ensures.2 ∙ mid_len at (at + 2048) spared inside') table row_is;
    }
