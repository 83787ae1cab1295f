-- Numbers of a job file: the decimal digits of a number, reading them, and the numbers that can be read.
use Prim.Native.Nat.{ℕ, zero, suc, ◌+◌, ◌*◌, ◌-◌, ◌≤◌, ◌<◌, ◌/◌, ◌%◌}
use mathlib.Core.Path.{◌≡◌, refl, sym, ◌∙◌, ap}
use mathlib.Core.List.{List, [], ◌∷◌, ◌++◌, append_assoc, append-nil}
use mathlib.Core.Bool.{Bool, true, false, not, ◌&&◌}
use native.Mathlib.Omega.{arith}
use lib.Dec.{ltb, leb}
use lib.ListN.{length, drop, length-append}
use borrow.Author.Tests.{ltb-true, ltb-false, leb-true, lt-ltb, le-ltb, le-leb, eqb-false, ne_eqb, not-true}
use Rattle.rules.specs.JobFile.{numeral, numeral_by, is_digit, leading_digits, value_of, bad_start, is_number}

-- the last digit of a number
abbrev last_digit : ℕ → List ℕ
last_digit n = (48 + n % 10) ∷ []

-- what holds of the numerals below 10, and of n's when it holds of n / 10's, holds of every numeral
module _ (P : ℕ → List ℕ → Type 0) (small : (n : ℕ) → n < 10 → P n ((48 + n) ∷ [])) (large : (n : ℕ) (s : List ℕ) → 10 ≤ n → P (n / 10) s → P n (s ++ last_digit n)) where
  with_fuel : (k n : ℕ) → n ≤ k → P n (numeral_by k n)
  with_fuel zero n h = small n (omega arith)
  with_fuel (suc k) n h = go (ltb n 10) refl (with_fuel k (n / 10) (omega arith))
    where
      go : (b : Bool) → ltb n 10 ≡ b → P (n / 10) (numeral_by k (n / 10)) → P n (elim b [ true ↦ (48 + n) ∷ [] | false ↦ numeral_by k (n / 10) ++ last_digit n ])
      go true e p = small n (ltb-true n 10 e)
      go false e p = large n (numeral_by k (n / 10)) (ltb-false n 10 e) p

  pub numeral_induction : (n : ℕ) → P n (numeral n)
  unfolding numeral
  numeral_induction n = with_fuel n n (omega arith)

-- the two cases of a numeral, whatever the fuel
numeral_by_small : (k n : ℕ) → n < 10 → numeral_by k n ≡ (48 + n) ∷ []
numeral_by_small zero n h = refl
numeral_by_small (suc k) n h = rw (lt-ltb n 10 h, numeral_by)

numeral_by_large : (k n : ℕ) → 10 ≤ n → numeral_by (suc k) n ≡ numeral_by k (n / 10) ++ last_digit n
numeral_by_large k n h = rw (le-ltb n 10 h, numeral_by)

-- fuel beyond the number changes nothing
fuel_enough : (k n : ℕ) → n ≤ k → numeral_by k n ≡ numeral n
fuel_enough k n h = numeral_induction (λ (m : ℕ) (s : List ℕ). (j : ℕ) → m ≤ j → numeral_by j m ≡ s) (λ m l j g. numeral_by_small j m l) large n k h
  where
    large : (m : ℕ) (s : List ℕ) → 10 ≤ m → ((j : ℕ) → m / 10 ≤ j → numeral_by j (m / 10) ≡ s) → (j : ℕ) → m ≤ j → numeral_by j m ≡ s ++ last_digit m
    large m s l p zero g = absurd (omega arith)
    large m s l p (suc j) g = numeral_by_large j m l ∙ ap (λ (t : List ℕ). t ++ last_digit m) (p j (omega arith))

-- a number below 10 has one digit
pub numeral_small : (n : ℕ) → n < 10 → numeral n ≡ (48 + n) ∷ []
numeral_small n h = sym (fuel_enough n n (omega arith)) ∙ numeral_by_small n n h

-- the digits of a larger number are those of its tenth, and one more
pub numeral_large : (n : ℕ) → 10 ≤ n → numeral n ≡ numeral (n / 10) ++ last_digit n
numeral_large n h = sym (fuel_enough (suc n) n (omega arith)) ∙ numeral_by_large n n h ∙ ap (λ (t : List ℕ). t ++ last_digit n) (fuel_enough n (n / 10) (omega arith))

-- every byte is a decimal digit
abbrev pub Digits : List ℕ → Type 0
Digits [] = Unit {0}
Digits (c ∷ s) = (48 ≤ c) × (c ≤ 57) × Digits s

-- digits behind digits
digits_append : (s t : List ℕ) → Digits s → Digits t → Digits (s ++ t)
digits_append [] t p q = q
digits_append (c ∷ s) t p q = (p.0, p.1, digits_append s t p.2 q)

-- a numeral has only digits
pub numeral_digits : (n : ℕ) → Digits (numeral n)
numeral_digits = numeral_induction (λ (n : ℕ) (s : List ℕ). Digits s) (λ n h. omega arith) (λ n s h p. digits_append s (last_digit n) p (omega arith))

-- digits in two parts, read one part after the other
value_of_append : (v : ℕ) (s t : List ℕ) → value_of v (s ++ t) ≡ value_of (value_of v s) t
value_of_append v [] t = refl
value_of_append v (c ∷ s) t = value_of_append (v * 10 + (c - 48)) s t

-- the value of a numeral is its number
pub value_of_numeral : (n : ℕ) → value_of 0 (numeral n) ≡ n
value_of_numeral = numeral_induction (λ (n : ℕ) (s : List ℕ). value_of 0 s ≡ n) (λ n h. omega arith) (λ n s h p. rw (value_of_append 0 s (last_digit n), p) (omega arith))

-- bytes that start with a digit other than zero
abbrev PositiveStart : List ℕ → Type 0
PositiveStart t = (c : ℕ) × (s : List ℕ) × (t ≡ c ∷ s) × (48 < c)

-- the numeral of a positive number starts with a digit other than zero
numeral_positive : (n : ℕ) → 1 ≤ n → PositiveStart (numeral n)
numeral_positive = numeral_induction (λ (n : ℕ) (t : List ℕ). 1 ≤ n → PositiveStart t) (λ n h l. (48 + n, [], refl, omega arith)) large
  where
    large : (n : ℕ) (t : List ℕ) → 10 ≤ n → (1 ≤ n / 10 → PositiveStart t) → 1 ≤ n → PositiveStart (t ++ last_digit n)
    large n t h p l = let q = p (omega arith) in (q.0, q.1 ++ last_digit n, ap (λ (u : List ℕ). u ++ last_digit n) q.2, q.3)

-- such bytes start as a number must
no_zero_start : (c : ℕ) (s : List ℕ) → 48 < c → bad_start (c ∷ s) ≡ false
no_zero_start c [] h = refl
no_zero_start c (d ∷ s) h = ne_eqb c 48 (λ e. omega arith)

-- a numeral starts as a number must
pub numeral_start : (n : ℕ) → bad_start (numeral n) ≡ false
numeral_start zero = rw (numeral_small 0 (omega arith))
numeral_start (suc n) = let q = numeral_positive (suc n) (omega arith) in rw q.2 (no_zero_start q.0 q.1 q.3)

-- ten times the bound costs one digit more
one_digit_more : (b d : ℕ) → ((n : ℕ) → n < b → length (numeral n) ≤ suc d) → (n : ℕ) → n < 10 * b → length (numeral n) ≤ suc (suc d)
one_digit_more b d p n h = go (ltb n 10) refl
  where
    go : (t : Bool) → ltb n 10 ≡ t → length (numeral n) ≤ suc (suc d)
    go true e = rw (numeral_small n (ltb-true n 10 e)) (omega arith)
    go false e = rw (numeral_large n (ltb-false n 10 e)) (simp length-append (omega (arith, p (n / 10) (omega arith))))

-- a number below 100,000 has at most five digits
pub numeral_length : (n : ℕ) → n < 100000 → length (numeral n) ≤ 5
numeral_length = one_digit_more 10000 3 (one_digit_more 1000 2 (one_digit_more 100 1 (one_digit_more 10 0 (λ n h. rw (numeral_small n h) (omega arith)))))

-- a digit behind a positive number's numeral
numeral_snoc : (v c : ℕ) → 1 ≤ v → 48 ≤ c → c ≤ 57 → numeral (v * 10 + (c - 48)) ≡ numeral v ++ (c ∷ [])
numeral_snoc v c h l m =
    let n : ℕ = v * 10 + (c - 48) in
    let tenth : n / 10 ≡ v = omega arith in
    let digit : 48 + n % 10 ≡ c = omega arith in
    numeral_large n (omega arith) ∙ rw (tenth, digit)

-- digits behind a positive number's numeral
numeral_value_of_from : (v : ℕ) (s : List ℕ) → 1 ≤ v → Digits s → numeral (value_of v s) ≡ numeral v ++ s
numeral_value_of_from v [] h p = sym (append-nil (numeral v))
numeral_value_of_from v (c ∷ s) h p =
    numeral_value_of_from (v * 10 + (c - 48)) s (omega arith) p.2
    ∙ ap (λ (t : List ℕ). t ++ s) (numeral_snoc v c h p.0 p.1)
    ∙ append_assoc (numeral v) (c ∷ []) s

-- one digit is the numeral of its value
numeral_digit : (c : ℕ) → 48 ≤ c → c ≤ 57 → numeral (0 + (c - 48)) ≡ c ∷ []
numeral_digit c l m =
    let same : 48 + (0 + (c - 48)) ≡ c = omega arith in
    numeral_small (0 + (c - 48)) (omega arith) ∙ rw same

-- the digits of a number are the numeral of their value
pub numeral_value_of : (s : List ℕ) → Digits s → bad_start s ≡ false → numeral (value_of 0 s) ≡ s
numeral_value_of [] p h = cc
numeral_value_of (c ∷ []) p h = numeral_digit c p.0 p.1
numeral_value_of (c ∷ d ∷ s) p h =
    numeral_value_of_from (0 + (c - 48)) (d ∷ s) (omega (arith, eqb-false c 48 h)) p.2
    ∙ ap (λ (t : List ℕ). t ++ d ∷ s) (numeral_digit c p.0 p.1)

-- both tests of a conjunction hold
pub both_true : (a b : Bool) → a && b ≡ true → (a ≡ true) × (b ≡ true)
both_true true b h = (refl, h)
both_true false b h = (h, cc)

-- a byte from 48 to 57 is a digit
pub digit_true : (c : ℕ) → 48 ≤ c → c ≤ 57 → is_digit c ≡ true
unfolding is_digit
digit_true c l m = rw (le-leb 48 c l, le-leb c 57 m)

-- a digit is a byte from 48 to 57
pub digit_bounds : (c : ℕ) → is_digit c ≡ true → (48 ≤ c) × (c ≤ 57)
unfolding is_digit
digit_bounds c h = let t = both_true (leb 48 c) (leb c 57) h in (leb-true 48 c t.0, leb-true c 57 t.1)

-- the numeral of a number that a job file can hold is read as a number
pub is_number_numeral : (n : ℕ) → n ≤ 65535 → is_number (numeral n) ≡ true
unfolding is_number
is_number_numeral n h = rw (numeral_start n, value_of_numeral n, le-leb n 65535 h, le-leb (length (numeral n)) 5 (numeral_length n (omega arith)))

-- digits that are read as a number are the numeral of a number that a job file can hold
pub numeral_is_number : (s : List ℕ) → Digits s → is_number s ≡ true → (numeral (value_of 0 s) ≡ s) × (value_of 0 s ≤ 65535)
unfolding is_number
numeral_is_number s p h =
    let t = both_true (not (bad_start s)) (leb (length s) 5 && leb (value_of 0 s) 65535) h in
    let u = both_true (leb (length s) 5) (leb (value_of 0 s) 65535) t.1 in
    (numeral_value_of s p (not-true (bad_start s) t.0), leb-true (value_of 0 s) 65535 u.1)

-- digits are read up to the first byte that is none
pub leading_digits_append : (s : List ℕ) (c : ℕ) (rest : List ℕ) → Digits s → is_digit c ≡ false → leading_digits (s ++ c ∷ rest) ≡ s
leading_digits_append [] c rest p h = rw (h, leading_digits)
leading_digits_append (d ∷ s) c rest p h = rw (digit_true d p.0 p.1, leading_digits, leading_digits_append s c rest p.2 h)

-- what is read in front is digits
pub leading_digits_digits : (s : List ℕ) → Digits (leading_digits s)
leading_digits_digits [] = tt
leading_digits_digits (c ∷ s) = go (is_digit c) refl (leading_digits_digits s)
  where
    go : (b : Bool) → is_digit c ≡ b → Digits (leading_digits s) → Digits (elim b [ true ↦ c ∷ leading_digits s | false ↦ [] ])
    go true e p = ((digit_bounds c e).0, (digit_bounds c e).1, p)
    go false e p = tt

-- the bytes are the digits in front and what follows them
pub leading_digits_drop : (s : List ℕ) → s ≡ leading_digits s ++ drop (length (leading_digits s)) s
leading_digits_drop [] = refl
leading_digits_drop (c ∷ s) = go (is_digit c) (leading_digits_drop s)
  where
    front : Bool → List ℕ
    front b = elim b [ true ↦ c ∷ leading_digits s | false ↦ [] ]

    go : (b : Bool) → s ≡ leading_digits s ++ drop (length (leading_digits s)) s → c ∷ s ≡ front b ++ drop (length (front b)) (c ∷ s)
    go true e = ap (λ (t : List ℕ). c ∷ t) e
    go false e = refl
