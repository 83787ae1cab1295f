use Rattle.std.proofs.Common.{arith, ◌≡◌, ◌+◌, ◌-◌, refl, length-set}
use Rattle.between.specs.Stops.{front_most}
use Rattle.between.proofs.Few.{cells_few}
use Rattle.between.proofs.Heights.{one_more_lem}
use Rattle.between.proofs.Reaching.{FrontReached, front_begins, front_before, front_stop, front_other}
use Rattle.between.proofs.gaps.front_widest.Goals as goal
use Rattle.between.proofs.gaps.front_widest.Goals.{then-listed-h, else-listed-h}

pub loop-h-init : goal.loop-h-init
loop-h-init c =
    let begins = front_begins c.args.z c.args.listed in
    (refl, begins, λ k l. let none : k ≡ 0 = omega arith in rw none begins.apart)

pub overflow_sub-at : goal.overflow_sub-at
overflow_sub-at c =
    let p = c.args in
    let o = c.loop-h in
    let here : o.h - 1 + 1 ≡ o.h = omega arith in
    let before = rw here at (front_before p.z p.listed (o.h - 1) o.last o.most o.invariant.1) in
    omega (arith, before, c.position_of-at.ensures)

pub loop-h-preserved : goal.loop-h-preserved
loop-h-preserved c =
    let few = cells_few c.args.z c.requires in
    let p = c.args in
    let o = c.loop-h in
    let most = c.if-listed-h.most in
    let here : o.h - 1 + 1 ≡ o.h = omega arith in
    let next : o.h + 1 - 1 ≡ o.h = omega arith in
    -- the invariant after this height, a stop or none
    let now : FrontReached p.z p.listed o.h c.if-listed-h.last most =
    elim c.if-listed-h.branch [
      | then-listed-h w ↦ rw (w.last-is, w.most-is)
          ((rw here at (front_stop p.z p.listed (o.h - 1) o.last o.most w.position_of-at.result w.max-most.result o.invariant.1))
          w.if-listed-h.true w.position_of-at.ensures.0 w.max-most.ensures)
      | else-listed-h w ↦ rw (w.last-is, w.most-is) ((rw here at (front_other p.z p.listed (o.h - 1) o.last o.most o.invariant.1)) w.if-listed-h.false)
    ] in (
      simp length-set o.invariant.0,
      rw next now,
      λ k l. one_more_lem (front_most p.z p.listed) 0 o.fronts o.h most (omega (arith, o.invariant.0, few)) now.apart k (λ other. o.invariant.2 k (omega (arith, other))),
    )
