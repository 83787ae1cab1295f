use Rattle.std.proofs.Common.{arith, ◌≡◌, ◌+◌, ◌-◌, ◌≤◌, ◌&&◌, suc, add-one, leb, sym, ◌∙◌, ap₂, get_or, refl, true, false}
use borrow.Author.Tests.{le-leb, lt-leb}
use native.Mathlib.Decide.{dec_le}
use Rattle.rules.specs.Store.{back_height}
use Rattle.rules.proofs.Lengths.{position_monotone}
use Rattle.between.specs.Stops.{wide_at, first_wide}
use Rattle.between.proofs.First.{first_here, first_later, first_none}
use Rattle.between.proofs.gaps.first_back.Goals as goal
use Rattle.between.proofs.gaps.first_back.Goals.{After-position_of, else-front-gap-via-then-front-gap+else-back-i, else-front-gap-via-else-front-gap}

-- the code's test is that of the definition
tested : (c : After-position_of) → let gap = c.position_of.result - c.position_of-start.result in
    (leb c.args.front gap && leb (get_or c.args.back c.loop-i.i 0) gap) ≡ wide_at c.args.z c.args.front c.args.back c.args.h c.loop-i.i
tested c =
    ap₂ (λ m n. leb c.args.front (m - n) && leb (get_or c.args.back c.loop-i.i 0) (m - n)) c.position_of.ensures.0 c.position_of-start.ensures.0

pub loop-i-init : goal.loop-i-init
unfolding first_wide back_height
loop-i-init c =
    let p = c.args in
    let same : p.z.cells + 1 + 1 - (p.h + 1) ≡ suc p.z.cells - p.h = omega arith in
    rw (same, add-one p.h)

pub overflow_sub-gap : goal.overflow_sub-gap
overflow_sub-gap c =
    let p = c.args in
    let i = c.loop-i.i in
    omega (arith, position_monotone p.z p.h i (omega arith), c.position_of.ensures, c.position_of-start.ensures)

pub returns-then-back-i : goal.returns-then-back-i
returns-then-back-i c =
    let p = c.args in
    let o = c.loop-i in
    let t = wide_at p.z p.front p.back p.h in
    let gap = c.position_of.result - c.position_of-start.result in
    let wide : (leb p.front gap && leb (get_or p.back o.i 0) gap) ≡ true =
    rw (le-leb p.front gap c.if-front-gap.true, le-leb (get_or p.back o.i 0) gap c.if-back-i.true) refl in
    sym (first_here t o.i (p.z.cells + 1 + 1) (omega arith) (sym (tested (goal.at.returns-then-back-i c).After-position_of) ∙ wide)) ∙ o.invariant

pub loop-i-preserved : goal.loop-i-preserved
loop-i-preserved c =
    let p = c.args in
    let o = c.loop-i in
    let t = wide_at p.z p.front p.back p.h in
    let gap = c.position_of.result - c.position_of-start.result in
    let narrow : (leb p.front gap && leb (get_or p.back o.i 0) gap) ≡ false = elim c.else-front-gap.branch [
      | else-front-gap-via-then-front-gap+else-back-i w ↦ rw (le-leb p.front gap w.if-front-gap.true, lt-leb (get_or p.back o.i 0) gap w.if-back-i.false) refl
      | else-front-gap-via-else-front-gap w ↦ rw (lt-leb p.front gap w.if-front-gap.false) refl
    ] in
    sym (first_later t o.i (p.z.cells + 1 + 1) (omega arith) (sym (tested (goal.at.loop-i-preserved c).After-position_of) ∙ narrow)) ∙ o.invariant

pub returns : goal.returns
unfolding first_wide back_height
returns c = elim (dec_le (c.args.h + 1) (c.args.z.cells + 1 + 1)) [ yes l ↦ to_top l | no ne ↦ past_top (omega arith) ]
  where
    -- the loop has seen all heights up to the back crossing
    to_top : c.args.h + 1 ≤ c.args.z.cells + 1 + 1 → c.max.result + 1 ≡ first_wide c.args.z c.args.front c.args.back c.args.h
    to_top l =
        let p = c.args in
        let o = c.loop-i in
        let last : c.max.result + 1 ≡ o.i = omega (arith, c.max.ensures) in
        last ∙ sym (first_none (wide_at p.z p.front p.back p.h) o.i (p.z.cells + 1 + 1) (omega arith)) ∙ o.invariant

    -- there is none past h
    past_top : c.args.z.cells + 1 ≤ c.args.h → c.max.result + 1 ≡ first_wide c.args.z c.args.front c.args.back c.args.h
    past_top l =
        let p = c.args in
        let none_left : suc p.z.cells - p.h ≡ 0 = omega arith in
        let next : c.max.result + 1 ≡ suc p.h = omega (arith, c.max.ensures) in
        rw none_left next
