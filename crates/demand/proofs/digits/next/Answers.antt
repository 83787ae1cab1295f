-- `demand::digits::next` meets its contract: below the radix one more is what is left of it, and of the radix nothing.
use Rattle.std.proofs.Common.{arith, ◌≡◌, ◌<◌, ◌%◌, suc, sym, ap, ◌∙◌}
use native.Mathlib.Nat.{mod-eq_of_lt, mod_self}
use Rattle.demand.proofs.digits.next.Goals as goal

pub returns-then-up-radix : goal.returns-then-up-radix
returns-then-up-radix c =
    let x = c.args in
    let low : suc x.x < x.radix = omega (arith, c.from-up.ensures, c.if-up-radix.true) in
    omega (arith, c.from-up.ensures, mod-eq_of_lt low)

pub returns-else-up-radix : goal.returns-else-up-radix
returns-else-up-radix c =
    let x = c.args in
    let round : suc x.x ≡ x.radix = omega (arith, c.from-up.ensures, c.if-up-radix.false, c.requires.0) in
    sym (ap (λ n. n % x.radix) round ∙ mod_self x.radix)
