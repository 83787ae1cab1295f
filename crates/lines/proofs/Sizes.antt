-- The byte counts of the sheet's texts.
use Prim.Native.Nat.{ℕ, zero, suc, ◌+◌, ◌^◌, ◌/◌, ◌≤◌, ◌<◌}
use native.Mathlib.Omega.{arith}
use native.Mathlib.Nat.{pow-suc}
use native.Mathlib.Decide.{dec_lt}
use mathlib.Core.Path.{◌≡◌}
use mathlib.Core.List.{◌++◌}
use lib.ListN.{length, length-append}
use Rattle.rules.specs.declared.Policy.{Policy}
use Rattle.rules.specs.declared.Pick.{Pick}
use Rattle.rules.specs.declared.Run.{Run}
use Rattle.rules.specs.JobFile.{line_feed, numeral, field, header, policy_word}
use Rattle.rules.specs.Sheet.{total_text, pick_text, run_text}
use Rattle.rules.specs.Answers.{letter_r}
use Rattle.rules.proofs.Numbers.{numeral_small, numeral_large}

-- a number of one digit, and one of several
pub small_size : (n : ℕ) → n < 10 → length (numeral n) ≡ 1
small_size n h = rw (numeral_small n h)

pub large_size : (n : ℕ) → 10 ≤ n → length (numeral n) ≡ length (numeral (n / 10)) + 1
large_size n h = rw (numeral_large n h, length-append)

-- a number below a power of ten has at most that many digits
pub digits_most : (k n : ℕ) → n < 10 ^ suc k → length (numeral n) ≤ suc k
digits_most zero n h = omega (arith, small_size n h)
digits_most (suc k) n h = go (dec_lt n 10) (digits_most k (n / 10) (omega (arith, pow-suc 10 (suc k))))
  where
    go : Dec (n < 10) → length (numeral (n / 10)) ≤ suc k → length (numeral n) ≤ suc (suc k)
    go (yes s) m = omega (arith, small_size n s)
    go (no s) m = omega (arith, large_size n (omega arith))

-- a number of 64 bits has at most 20 digits
pub digits_twenty : (n : ℕ) → n < 2 ^ 64 → length (numeral n) ≤ 20
digits_twenty n h = digits_most 19 n (omega (arith, h))

pub field_size : (sep n : ℕ) → length (field sep n) ≡ length (numeral n) + 1
unfolding field
field_size sep n = rw length-append

pub fields_size : (a b m n : ℕ) → length (field a m ++ field b n) ≡ length (numeral m) + length (numeral n) + 2
fields_size a b m n = omega (arith, length-append (field a m) (field b n), field_size a m, field_size b n)

pub header_size : (letter n : ℕ) → length (header letter n) ≡ 3 + length (numeral n)
unfolding header
header_size letter n = omega (arith, field_size line_feed n)

pub run_size : (x : Run) → length (run_text x) ≡ 3 + length (numeral x.steps)
unfolding run_text
run_size x = omega (arith, field_size line_feed x.steps)

pub total_size : (n : ℕ) (policy : Policy) → length (total_text n policy) ≡ 2 + length (numeral n) + length (policy_word policy)
unfolding total_text
total_size n policy = simp (length-append, field_size) (omega arith)

pub pick_size : (x : Pick) → length (pick_text x) ≡ 4 + length (numeral x.aisle) + length (numeral x.cell) + length (numeral x.article) + length (numeral x.quantity)
unfolding pick_text
pick_size x = simp (length-append, field_size) (omega arith)

-- what a program prints for a refusal has at most 15 bytes
pub refusal_short : (n : ℕ) → n < 10000000000 → length (header letter_r 1 ++ field line_feed n) ≤ 15
refusal_short n h = rw (length-append, header_size letter_r 1, field_size line_feed n) (omega (arith, digits_most 9 n h, digits_most 0 1 (omega arith)))
