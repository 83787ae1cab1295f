-- `table::filling::aisle_of` meets its contract: each field is that of the job, whichever job the order is of.
use Rattle.std.proofs.Common.{◌≡◌, sym, ◌∙◌, ap, ap₂, subst, true}
use Rattle.rules.specs.declared.Layout.{Layout}
use Rattle.rules.specs.Store.{layout_in_bounds}
use Rattle.machine.specs.Tables.{asks_gap}
use Rattle.between.specs.Stops.{between_by}
use Rattle.between.proofs.Laws.{between_by_lem}
use Rattle.aisles.proofs.Geometry.{within}
use Rattle.table.proofs.TableFills.{order_policy, order_small, aisle_is}
use Rattle.table.proofs.filling.aisle_of.Goals as goal

pub listed_cells-listed-requires : goal.listed_cells-listed-requires
listed_cells-listed-requires c = let r = c.requires in order_small r.0.0 c.args.o.now r.0.1 c.args.j r.1 r.2

pub between_of-between-requires : goal.between_of-between-requires
between_of-between-requires c =
    let r = c.requires in
    subst (λ (z : Layout). layout_in_bounds z ≡ true) (sym r.0.1.layout) r.0.1.admitted.layout

pub returns : goal.returns
returns c = λ job of.
    let p = c.args in
    let o = p.o.now in
    let cells = ap (λ (z : Layout). z.cells) of.layout in
    let flags = c.listed_cells-listed.ensures job of.admitted of.shelf cells in
    let gap = c.asks_gap.ensures ∙ ap asks_gap (order_policy job o of) in
    let gaps = asks_gap job.policy in
    let few = (within job.layout of.admitted.layout).cells.1 in
    let between = c.between_of-between.ensures
    ∙ ap (λ b. between_by b o.layout c.listed_cells-listed.result) gap ∙ ap₂ (between_by gaps) of.layout flags ∙ between_by_lem gaps job p.j few in
    aisle_is job o of p.j c.tried_of.result c.may_enter-may.result c.place_of.result c.between_of-between.result
    (c.may_enter-may.ensures job of) c.place_of.ensures c.tried_of.ensures between
