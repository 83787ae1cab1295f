use Rattle.std.proofs.Common.{arith}
use Rattle.demand.proofs.DigitLaws.{digits_fit, digits_one, digits_all}
use Rattle.demand.proofs.digits.digits_of.Goals as goal

pub overflow_add-radix : goal.overflow_add-radix
overflow_add-radix c =
    let o = c.loop-l in omega (arith, digits_fit c.args.job c.requires o.l c.loop-l-test.true o.digit o.weight o.invariant)

pub digit_of-requires : goal.digit_of-requires
digit_of-requires c =
    let o = c.loop-l in
    let fit = digits_fit c.args.job c.requires o.l c.loop-l-test.true o.digit o.weight o.invariant in
    (omega arith, fit.0, fit.1)

pub overflow_mul-weight : goal.overflow_mul-weight
overflow_mul-weight c =
    let o = c.loop-l in omega (arith, digits_fit c.args.job c.requires o.l c.loop-l-test.true o.digit o.weight o.invariant)

pub loop-l-preserved : goal.loop-l-preserved
loop-l-preserved c =
    let o = c.loop-l in
    let new = c.digit_of in
    digits_one c.args.job c.requires o.l c.loop-l-test.true o.digit o.weight o.invariant new.result new.ensures.0 new.ensures.1

pub returns : goal.returns
returns c =
    let o = c.loop-l in
    digits_all c.args.job c.requires (record { digit = o.digit; weight = o.weight }) o.l (omega arith) o.invariant
