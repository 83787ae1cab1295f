-- `entered::with_aisle_if` meets its contract: one shifted is the aisle's bit.
use Prim.Native.Nat.{◌*◌, ◌%◌, ◌^◌}
use native.Mathlib.Omega.{arith}
use native.Mathlib.Nat.{one-mul}
use mathlib.Core.Path.{◌≡◌, ◌∙◌, ap}
use lib.Bits.{bit_or}
use lib.Pow.{shl_exact}
use Rattle.entered.proofs.with_aisle_if.Goals as goal

pub returns-then-entered : goal.returns-then-entered
returns-then-entered c =
    let x = c.args in
    let bit : (1 * 2 ^ x.aisle) % 65536 ≡ 2 ^ x.aisle = shl_exact 1 x.aisle 16 (omega arith) (omega (arith, c.requires)) ∙ one-mul (2 ^ x.aisle) in
    rw c.if-entered.true (ap (bit_or x.set) bit)
