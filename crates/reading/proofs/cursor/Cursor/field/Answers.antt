-- The digits say a number or none, and its separator follows or not.
use Rattle.std.proofs.Common.{ℕ, ◌≤◌, ◌<◌, List, length, get_or, subst, sym, ◌∙◌, ap}
use Rattle.reading.specs.Places.{seen}
use Rattle.reading.proofs.Digits.{digits_high, number_small, field_none, field_apart, field_whole}
use Rattle.reading.proofs.cursor.Cursor.field.Goals as goal

pub number-requires : goal.number-requires
number-requires c =
    let P : List ℕ → Type 0 = λ ds. (k : ℕ) → k < length ds → 48 ≤ get_or ds k 0 in
    subst P (sym c.digits.ensures.digits) (digits_high c.args.self.rest.now)

pub returns-in_err-value-clause-value : goal.returns-in_err-value-clause-value
returns-in_err-value-clause-value c =
    ap seen c.from_residual.ensures ∙ field_none c.args.separator c.args.self.rest.now c.digits.result.0.now c.digits.ensures.digits c.in_err-value.ensures

pub returns-in_err-next-clause-value : goal.returns-in_err-next-clause-value
returns-in_err-next-clause-value c =
    let d = c.digits.result in
    ap seen c.from_residual-in_err-next.ensures
    ∙ field_apart c.args.separator c.args.self.rest.now d.0.now c.digits.ensures.digits c.in_ok-value.value d.1.now c.digits.ensures.rest c.in_ok-value.ensures
    c.in_err-next.ensures

pub returns : goal.returns
returns c =
    let d = c.digits.result in
    record {
      value = field_whole c.args.separator c.args.self.rest.now d.0.now c.digits.ensures.digits c.in_ok-value.value d.1.now c.digits.ensures.rest c.in_ok-value.ensures
          c.in_ok-next.next.rest.now c.in_ok-next.ensures;
      small = let small = number_small d.0.now in rw (← c.in_ok-value.ensures) at small;
    }
