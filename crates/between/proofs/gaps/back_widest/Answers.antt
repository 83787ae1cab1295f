use Rattle.std.proofs.Common.{arith, ◌≡◌, ◌+◌, ◌-◌, ◌<◌, ℕ, suc, add-one, refl, sym, ◌∙◌, length-set}
use lib.ListN.{get_or-replicate}
use Rattle.rules.specs.Store.{back_height}
use Rattle.between.specs.Stops.{back_most}
use Rattle.between.proofs.Few.{cells_few}
use Rattle.between.proofs.Heights.{one_more_lem}
use Rattle.between.proofs.Reaching.{BackReached, back_begins, back_behind, back_stop, back_other}
use Rattle.between.proofs.gaps.back_widest.Goals as goal
use Rattle.between.proofs.gaps.back_widest.Goals.{then-listed-i, else-listed-i}

pub loop-i-init : goal.loop-i-init
unfolding back_height
loop-i-init c =
    let few = cells_few c.args.z c.requires in
    let z = c.args.z in
    let listed = c.args.listed in
    let top = suc z.cells in
    let begins = back_begins z listed top (omega arith) in
    let apart : (k : ℕ) → k ≡ top → back_most z listed k ≡ 0 = λ k e. rw e (sym begins.apart) in (
      refl,
      rw (add-one z.cells, c.aisle_length-last.ensures.0) begins,
      λ k low high. get_or-replicate 26 k 0 0 (omega (arith, few)) ∙ sym (apart k (omega arith)),
    )

pub overflow_sub-last : goal.overflow_sub-last
unfolding back_height
overflow_sub-last c =
    let p = c.args in
    let o = c.loop-i in
    let here : o.i - 1 + 1 ≡ o.i = omega arith in
    let behind = rw here at (back_behind p.z p.listed (back_height p.z) (o.i - 1) o.last o.most (omega arith)) in
    omega (arith, behind o.invariant.1, c.position_of-at.ensures)

pub loop-i-preserved : goal.loop-i-preserved
unfolding back_height
loop-i-preserved c =
    let few = cells_few c.args.z c.requires in
    let p = c.args in
    let o = c.loop-i in
    let top = back_height p.z in
    let most = c.if-listed-i.most in
    let i = o.i - 1 in
    let here : o.i - 1 + 1 ≡ o.i = omega arith in
    let low : i < top = omega arith in
    -- the invariant after this height, a stop or none
    let now : BackReached p.z p.listed (back_height p.z) i c.if-listed-i.last most =
    elim c.if-listed-i.branch [
      | then-listed-i w ↦ rw (w.last-is, w.most-is)
          ((rw here at (back_stop p.z p.listed top i o.last o.most w.position_of-at.result w.max-most.result low)) o.invariant.1 w.if-listed-i.true w.position_of-at.ensures.0 w.max-most.ensures)
      | else-listed-i w ↦ rw (w.last-is, w.most-is) ((rw here at (back_other p.z p.listed top i o.last o.most low)) o.invariant.1 w.if-listed-i.false)
    ] in (
      simp length-set o.invariant.0,
      now,
      λ k low high. one_more_lem (back_most p.z p.listed) 0 o.backs i most (omega (arith, o.invariant.0, few)) now.apart k (λ other. o.invariant.2 k (omega (arith, other)) high),
    )

pub returns : goal.returns
returns c = λ i low high. c.loop-i.invariant.2 i (omega arith) high
