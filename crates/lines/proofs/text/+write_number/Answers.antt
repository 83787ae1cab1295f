use Prim.Native.Nat.{ℕ, ◌+◌, ◌/◌, ◌%◌, ◌≤◌, ◌<◌}
use native.Mathlib.Omega.{arith}
use mathlib.Core.Path.{◌≡◌, ap, ◌∙◌}
use mathlib.Core.List.{[], ◌∷◌}
use lib.ListN.{length, length-append}
use Rattle.rules.specs.JobFile.{numeral}
use Rattle.rules.proofs.Numbers.{numeral_small, numeral_large}
use Rattle.lines.proofs.Writing.{nothing_written, written_byte, byte_room}
use Rattle.lines.proofs.text.+write_number.Goals as goal

-- the digits of a number of several digits, by count
tenth : (n : ℕ) → 10 ≤ n → length (numeral n) ≡ length (numeral (n / 10)) + 1
tenth n h = ap length (numeral_large n h) ∙ length-append (numeral (n / 10)) ((48 + n % 10) ∷ [])

pub bounds-sheet-0 : goal.bounds-sheet-0
bounds-sheet-0 t c = rw (numeral_small c.args.n c.if-n-lt10.true) at c.requires

pub returns-then-n-lt10 : goal.returns-then-n-lt10
returns-then-n-lt10 t c =
    let one_digit : 0 < length c.args.sheet.now = rw (numeral_small c.args.n c.if-n-lt10.true) at c.requires in
    rw (numeral_small c.args.n c.if-n-lt10.true) (written_byte (nothing_written c.args.sheet.now) (48 + c.args.n) one_digit)

pub write_number-at-requires : goal.write_number-at-requires
write_number-at-requires t c =
    (omega arith, omega (arith, tenth c.args.n c.if-n-lt10.false, c.requires))

pub bounds-sheet-at : goal.bounds-sheet-at
bounds-sheet-at t c =
    byte_room c.write_number-at.ensures (omega (arith, tenth c.args.n c.if-n-lt10.false, c.requires))

pub returns : goal.returns
returns t c =
    -- there is room for the last digit behind the others
    let last_digit : length (numeral (c.args.n / 10)) < length c.args.sheet.now = omega (arith, tenth c.args.n c.if-n-lt10.false, c.requires) in
    rw (numeral_large c.args.n c.if-n-lt10.false) (written_byte c.write_number-at.ensures (48 + c.args.n % 10) last_digit)
