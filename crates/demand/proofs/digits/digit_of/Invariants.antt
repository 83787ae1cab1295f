-- `demand::digits::digit_of` meets its contract: the digit in the numbers below q is there.
use Rattle.std.proofs.Common.{◌≡◌, ℕ, ◌/◌, ◌%◌, ◌≤◌, ◌<◌, length, get_or}
use Rattle.demand.proofs.digits.digit_of.Given as goal

abbrev pub invariant-loop-q : goal.invariant-loop-q
invariant-loop-q l = (l.stride ≤ l.q) × (length l.lacks ≡ 256) × ((k : ℕ) → k < l.q → get_or l.lacks k 0 ≡ k / l.stride % l.radix)
