use Rattle.std.proofs.Common.{arith, suc, ◌+◌, ◌≤◌, ◌≡◌, refl, sym, ◌∙◌, subst}
use Rattle.demand.specs.Maps.{RowSet, RowOf, RowsTo, height_at, reach}
use Rattle.demand.proofs.DemandMaps.{height_below, height_in, heights_differ, aisle_small, line_digit, row_below, first_row_lem, next_row}
use Rattle.demand.proofs.maps.fill_map.Goals as goal

-- the numbers of the aisle
pub height-requires : goal.height-requires
height-requires c = let small = aisle_small c.requires.1.1 in (small.1, omega arith)

pub plain_row-requires : goal.plain_row-requires
plain_row-requires c =
    let x = c.args in
    let small = aisle_small c.requires.1.1 in
    let low = height_below x.part x.cells 0 (omega arith) in
    (omega (arith, c.requires.0, small, c.height.ensures, low, c.requires.1.1.digits_of.small.1), c.requires.1.1.digits_of.small.1)

pub loop-n-init : goal.loop-n-init
loop-n-init c =
    let x = c.args in
    let row = c.plain_row in
    let plain = subst (λ n. RowSet x.map.now row.new.map n x.d.weight (λ q. q)) c.height.ensures row.ensures in
    (refl, λ job asked. first_row_lem asked x.part x.map.now row.new.map plain)

pub height-from-requires : goal.height-from-requires
height-from-requires c = let small = aisle_small c.requires.1.1 in (small.1, omega arith)

pub height-to-requires : goal.height-to-requires
height-to-requires c = let small = aisle_small c.requires.1.1 in (small.1, omega arith)

-- the row to be filled is that of a cell
pub cell_number-at-requires : goal.cell_number-at-requires
cell_number-at-requires c =
    let x = c.args in
    let small = aisle_small c.requires.1.1 in
    let to_cell : (1 ≤ c.height-to.result) × (c.height-to.result ≤ x.cells) = rw c.height-to.ensures (height_in x.part x.cells c.loop-n.n (omega arith)) in
    (small.2, small.3, to_cell.0, omega (arith, small.1, to_cell.1))

pub map_row-requires : goal.map_row-requires
map_row-requires c =
    let x = c.args in
    let o = c.loop-n in
    let (job, asked) = c.requires.1 in
    let small = aisle_small asked in
    let from = c.height-from in
    let to = c.height-to in
    let to_cell : (1 ≤ to.result) × (to.result ≤ x.cells) = rw to.ensures (height_in x.part x.cells o.n (omega arith)) in
    let line = rw (← c.cell_number-at.ensures.0) at (line_digit asked to.result to_cell.0 to_cell.1) in
    let action = reach x.part (height_at x.part x.cells o.n) in
    let row = subst (RowOf job x.j action o.map) (sym from.ensures) (o.invariant.1 job asked o.n (omega arith)) in (
      record {
        long = omega (arith, c.requires.0, c.plain_row.ensures.kept, o.invariant.0);
        to_in = omega (arith, small, to_cell.1);
        from_in = omega (arith, small, from.ensures, height_below x.part x.cells o.n (omega arith));
        apart = λ e. heights_differ x.part x.cells o.n (o.n + 1) (omega arith) (omega arith) (sym from.ensures ∙ e ∙ to.ensures);
        light = asked.digits_of.small.1;
      },
      row_below asked action o.map from.result row,
      line,
    )

pub loop-n-preserved : goal.loop-n-preserved
loop-n-preserved c =
    let x = c.args in
    let o = c.loop-n in
    let row = c.map_row in
    let from = c.height-from in
    let to = c.height-to in
    let number = c.cell_number-at in (
      row.ensures.kept ∙ o.invariant.0,
      λ job asked. next_row asked x.part o.map row.new.map o.n from.result to.result number.result (omega arith)
          from.ensures to.ensures number.ensures.0 (o.invariant.1 job asked) row.ensures,
    )

pub returns : goal.returns
returns c =
    let x = c.args in
    let o = c.loop-n in
    let all : o.n + 1 ≡ suc x.cells = omega arith in (
      λ job asked. subst (λ n. RowsTo job x.cells x.j x.part n o.map) all (o.invariant.1 job asked),
      o.invariant.0 ∙ c.plain_row.ensures.kept,
    )
