use native.Mathlib.Omega.{arith}
use Prim.Native.Nat.{◌+◌, ◌-◌}
use mathlib.Core.Path.{◌≡◌, subst}
use lib.ListN.{get_or}
use Rattle.aisles.specs.Turns.{BacksHeld}
use Rattle.aisles.proofs.Sweeping.{least_within}
use Rattle.aisles.proofs.RowsHeld.{held_one}
use Rattle.aisles.proofs.layers.admit.Goals as goal

pub loop-i-init : goal.loop-i-init
loop-i-init c =
    let p = c.args in
    let r = c.requires in
    let t = p.turns in (
      r.0.top_fits,
      least_within t.from t.top r.0.graded (t.top - (p.h + 1)) (p.h + 1) (omega (arith, r.1)),
      r.0.graded.grows p.h r.1,
      r.2,
    )

pub relax_turn-requires : goal.relax_turn-requires
relax_turn-requires c =
    let o = c.loop-i in
    let b = c.requires.0 in
    -- a back turn that is let in lies past the front crossing
    let past = b.graded.past c.args.h (omega (arith, c.requires.1)) in (
      omega (arith, o.invariant.0, o.invariant.1),
      record {
        small = b.small;
        row_long = omega (arith, b.small);
        spared_long = omega (arith, b.small);
        perm_long = omega (arith, b.small);
        perm_spared_long = omega (arith, b.small);
        map_long = omega (arith, b.small, b.backs_long, o.invariant.0, o.invariant.1);
        below = λ q l. b.back_below (o.i - 1) q (omega arith) (omega (arith, o.invariant.1)) l;
      },
    )

pub loop-i-preserved : goal.loop-i-preserved
loop-i-preserved c =
    let o = c.loop-i in
    let p = c.args in
    let way = p.way.now in
    let new = c.relax_turn.new in
    let e : o.i ≡ o.i - 1 + 1 = omega arith in (
      o.invariant.0,
      omega (arith, o.invariant.1),
      omega arith,
      held_one way.lengths way.ones p.backs.now p.turns p.weight o.best.lengths new.row o.best.ones new.spared (o.i - 1) (omega (arith, o.invariant.1))
          (subst (BacksHeld o.best.lengths o.best.ones way.lengths way.ones p.backs.now p.turns p.weight) e o.invariant.3) c.relax_turn.ensures,
    )

pub returns : goal.returns
returns c =
    let o = c.loop-i in
    let p = c.args in
    let way = p.way.now in
    let e : o.i ≡ get_or p.turns.from p.h 0 = omega (arith, o.invariant.2) in
    subst (BacksHeld o.best.lengths o.best.ones way.lengths way.ones p.backs.now p.turns p.weight) e o.invariant.3
