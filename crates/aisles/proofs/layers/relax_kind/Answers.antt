-- `aisles::layers::relax_kind` meets its contract: the sweep over the turns of its kind, or nothing for a kind that leads nowhere.
use mathlib.Core.Path.{subst, sym}
use Rattle.rows.specs.Rows.{LivesAs}
use Rattle.aisles.specs.Repeating.{RepeatsTo}
use Rattle.aisles.proofs.Thinning.{sweep_kept}
use Rattle.aisles.proofs.PassLaws.{sweep_ready}
use Rattle.aisles.proofs.RowsHeld.{rows_thin, rows_skipped, rows_passed}
use Rattle.aisles.proofs.layers.relax_kind.Goals as goal

pub sweep-requires : goal.sweep-requires
sweep-requires c =
    -- all turns of the kind can be swept, so those that are kept can
    let p = c.args in
    let r = c.requires in
    let fronts = p.lane.maps.fronts.now in
    let backs = p.lane.maps.backs.now in
    sweep_kept p.row.now p.spared.now fronts backs c.turns_of.result p.lane.same c.thin-turns.result p.lane.aisle.weight
    (sweep_ready p.lane.aisle p.row.now p.spared.now fronts backs p.kind p.between c.turns_of.result r.0.ready r.1 r.2 c.turns_of.ensures) c.thin-turns.ensures

pub returns-then-lives : goal.returns-then-lives
returns-then-lives c =
    let p = c.args in
    let r = c.requires in
    let x = p.lane.aisle in
    let new = c.sweep.new in
    let way = c.step_rows.new.way in
    let turns = c.turns_of in
    let fronts = p.lane.maps.fronts.now in
    let backs = p.lane.maps.backs.now in
    rows_passed x p.row.now new.row p.spared.now new.spared p.after.now p.theirs.now fronts backs c.steps_of-steps.result p.kind p.between
    c.steps_of-steps.ensures r.0.ready r.5 turns.result turns.ensures way.lengths way.ones c.step_rows.ensures
    (rows_thin p.row.now new.row p.spared.now new.spared way.lengths way.ones fronts backs x.weight turns.result p.lane.same c.thin-turns.result
    c.thin-turns.ensures (sweep_ready x p.row.now p.spared.now fronts backs p.kind p.between turns.result r.0.ready r.1 r.2 turns.ensures)
    (subst (RepeatsTo fronts x.weight p.lane.same.front) (sym turns.ensures.top) r.0.front)
    (subst (RepeatsTo backs x.weight p.lane.same.back) (sym turns.ensures.top) r.0.back)
    c.sweep.ensures)

pub returns-else-lives : goal.returns-else-lives
returns-else-lives c =
    let p = c.args in
    rows_skipped p.lane.aisle p.row.now p.row.now p.spared.now p.spared.now p.after.now p.theirs.now p.lane.maps.fronts.now p.lane.maps.backs.now c.steps_of-steps.result
    p.kind p.between c.steps_of-steps.ensures (subst (LivesAs c.steps_of-steps.result) c.if-lives.false c.lives.ensures)
