-- Each test tells whether the digits are a number.
use Rattle.std.proofs.Common.{◌≡◌, ◌≤◌, ◌+◌, ◌*◌, Some, sym, arith, ap, ◌∙◌, drop}
use lib.ListN.{drop_of_length-le}
use Rattle.rules.specs.JobFile.{value_of}
use Rattle.reading.proofs.Digits.{number_bad, number_long, number_large, number_good, one_digit}
use Rattle.reading.proofs.cursor.number.Goals as goal
use Rattle.reading.proofs.cursor.number.Goals.{then-bad_start-via-then-bad_start, then-bad_start-via-else-bad_start+then-digits-gt5}

pub returns-then-bad_start : goal.returns-then-bad_start
returns-then-bad_start c = elim c.then-bad_start.branch [
  | then-bad_start-via-then-bad_start w ↦ sym (number_bad c.args.digits.now (sym c.bad_start.ensures ∙ w.if-bad_start.true))
  | then-bad_start-via-else-bad_start+then-digits-gt5 w ↦ sym (number_long c.args.digits.now w.if-digits-gt5.true)
]

pub returns-then-value-gt65535 : goal.returns-then-value-gt65535
returns-then-value-gt65535 c =
    let ds = c.args.digits.now in
    let l = c.loop-digit in
    let h = c.from.ensures in
    let more : value_of (l.value * 10 + c.from.result) (drop (l.digit-index + 1) ds) ≡ value_of 0 ds =
    rw h (sym (one_digit l.value l.digit-index ds c.loop-digit-test.true) ∙ l.invariant.0) in
    sym (number_large ds (l.value * 10 + c.from.result) (l.digit-index + 1) more c.if-value-gt65535.true)

pub returns : goal.returns
returns c =
    let ds = c.args.digits.now in
    let l = c.loop-digit in
    let start = sym c.bad_start.ensures ∙ c.if-bad_start.false in
    let all : l.value ≡ value_of 0 ds = let e = l.invariant.0 in rw (drop_of_length-le ds c.loop-digit-test.false) at e in
    let few : value_of 0 ds ≤ 65535 = omega arith in
    sym (number_good ds start c.if-digits-gt5.false few ∙ ap Some (sym all))
