use native.Mathlib.Omega.{arith}
use Prim.Native.Nat.{◌+◌, ◌-◌}
use mathlib.Core.Path.{◌≡◌, refl, subst}
use lib.ListN.{get_or}
use Rattle.aisles.specs.Turns.{BacksHeld, RowsSwept}
use Rattle.aisles.proofs.RowsHeld.{held_none, rows_none, rows_one}
use Rattle.aisles.proofs.layers.sweep.Goals as goal

pub loop-h-init : goal.loop-h-init
loop-h-init c =
    let p = c.args in
    let t = p.turns in
    let b = c.requires.behind in
    let way = p.way.now in (
      held_none way.lengths way.ones p.maps.backs.now t p.weight c.fill_none.new.row p.best.now.ones (get_or t.from t.top 0) (omega (arith, b.graded.ends))
          (c.fill_none.ensures.0, refl, λ k l. refl),
      rows_none p.row.now p.spared.now way.lengths way.ones p.maps.fronts.now p.maps.backs.now t p.weight,
    )

pub admit-requires : goal.admit-requires
admit-requires c =
    let o = c.loop-h in
    let p = c.args in
    let way = p.way.now in
    let e : o.h ≡ o.h - 1 + 1 = omega arith in (
      c.requires.behind,
      omega arith,
      subst (λ n. BacksHeld o.best.lengths o.best.ones way.lengths way.ones p.maps.backs.now p.turns p.weight (get_or p.turns.from n 0)) e o.invariant.0,
    )

pub relax_turn-requires : goal.relax_turn-requires
relax_turn-requires c =
    let o = c.loop-h in
    let r = c.requires in
    let small = r.behind.small in
    let top = r.behind.top_fits in (
      omega (arith, top),
      record {
        small = small;
        row_long = omega (arith, r.row_long, o.invariant.1.kept);
        spared_long = omega (arith, r.spared_long, o.invariant.1.spared_kept);
        perm_long = omega (arith, small);
        perm_spared_long = omega (arith, small);
        map_long = omega (arith, small, top, r.fronts_long);
        below = λ q l. r.front_below (o.h - 1) q (omega arith) l;
      },
    )

pub loop-h-preserved : goal.loop-h-preserved
loop-h-preserved c =
    let o = c.loop-h in
    let p = c.args in
    let way = p.way.now in
    let best = c.admit.new.best in
    let new = c.relax_turn.new in
    let e : o.h ≡ o.h - 1 + 1 = omega arith in (
      c.admit.ensures,
      rows_one p.row.now p.spared.now way.lengths way.ones p.maps.fronts.now p.maps.backs.now p.turns p.weight o.row new.row o.spared new.spared
          best.lengths best.ones (o.h - 1) (omega arith) (λ q l. c.requires.front_below (o.h - 1) q (omega arith) l) c.admit.ensures
          (subst (λ n. RowsSwept p.row.now o.row p.spared.now o.spared way.lengths way.ones p.maps.fronts.now p.maps.backs.now p.turns p.weight n) e o.invariant.1)
          c.relax_turn.ensures,
    )
