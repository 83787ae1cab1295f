use Rattle.std.proofs.Common.{arith, ◌∙◌, ◌-◌, ◌/◌, ◌%◌, refl, get_or, length-set}
use native.Mathlib.Nat.{mod-lt}
use Rattle.demand.proofs.Filling.{zero_at, filled_one}
use Rattle.demand.proofs.DigitLaws.{digit_first, digit_next}
use Rattle.demand.proofs.digits.digit_of.Goals as goal

pub loop-q-init : goal.loop-q-init
loop-q-init c = let x = c.args in (omega arith, refl, λ k h. zero_at 256 k ∙ digit_first x.radix x.stride k h)

-- the digit a stride before
pub next-requires : goal.next-requires
next-requires c =
    let x = c.args in
    let o = c.loop-q in
    let earlier = o.invariant.2 (o.q - x.stride) (omega (arith, c.requires.2, o.invariant.0)) in
    (rw earlier (mod-lt ((o.q - x.stride) / x.stride) c.requires.0), c.requires.1)

pub loop-q-preserved : goal.loop-q-preserved
loop-q-preserved c =
    let x = c.args in
    let o = c.loop-q in
    let v = c.next.result in
    let earlier = o.invariant.2 (o.q - x.stride) (omega (arith, c.requires.2, o.invariant.0)) in
    let counted = c.next.ensures ∙ digit_next x.radix x.stride o.q (get_or o.lacks (o.q - x.stride) 0) c.requires.2 o.invariant.0 earlier in
    (omega arith, length-set o.lacks o.q v ∙ o.invariant.1, filled_one (λ k. k / x.stride % x.radix) o.lacks o.q v (omega (arith, o.invariant.1)) o.invariant.2 counted)
