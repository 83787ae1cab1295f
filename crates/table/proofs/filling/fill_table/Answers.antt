use Rattle.std.proofs.Common.{arith, suc, ◌-◌, ◌≡◌, refl, ◌∙◌, subst}
use Rattle.table.specs.TableHolds.{TableFrom}
use Rattle.table.proofs.TableFills.{order_aisles, order_few}
use Rattle.table.proofs.filling.fill_table.Goals as goal

pub overflow_step-j : goal.overflow_step-j
overflow_step-j c = let few = order_few c.requires.0.0 c.args.o.now c.requires.0.1 in omega arith

pub loop-j-init : goal.loop-j-init
loop-j-init c = (refl, refl, λ job of i s q l m t h. absurd (omega (arith, order_aisles job c.args.o.now of)))

pub fill_layer-requires : goal.fill_layer-requires
fill_layer-requires c =
    let p = c.args in
    let r = c.requires in
    record {
      order = r.0;
      here = (omega arith, omega arith);
      few = order_few r.0.0 p.o.now r.0.1;
      work_long = omega (arith, r.1, c.loop-j.invariant.0);
      spared_long = omega (arith, r.2, c.loop-j.invariant.1);
    }

pub loop-j-preserved : goal.loop-j-preserved
loop-j-preserved c =
    let layer = c.fill_layer in
    let o = c.loop-j in
    let up : o.j ≡ suc (o.j - 1) = omega arith in (
      layer.ensures.kept ∙ o.invariant.0,
      layer.ensures.spared_kept ∙ o.invariant.1,
      λ job of. layer.ensures.filled job of (subst (λ k. TableFrom job k o.work o.spared) up (o.invariant.2 job of)),
    )
