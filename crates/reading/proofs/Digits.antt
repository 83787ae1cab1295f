-- The digits at the front of the bytes, and the number that they say.
use Rattle.std.proofs.Common.{ℕ, zero, suc, ◌+◌, ◌*◌, ◌-◌, ◌≤◌, ◌<◌, ◌≡◌, Bool, true, false, not, ◌&&◌, cond, List, [], ◌∷◌, length, get_or, take, drop, refl, sym, ◌∙◌, ap, arith, add-one, drop-cons, Some, None, IfSome}
use Rattle.std.specs.Prelude.{Option as Found}
use Rattle.std.proofs.Math.Option.{some, none}
use Rattle.std.proofs.Math.Dec.{leb}
use borrow.Author.Tests.{le-leb, lt-leb, leb-true}
use Rattle.std.specs.List.{prefix_len}
use Rattle.rules.specs.JobFile.{Reading, ◌>>=◌, is_digit, leading_digits, value_of, bad_start, is_number, read_byte, read_field}
use Rattle.rules.proofs.Numbers.{both_true}
use Rattle.reading.specs.Places.{number_in}

-- a digit in front of the digits behind it, or none
abbrev run_from : ℕ → List ℕ → Bool → List ℕ
run_from c s b = elim b [ true ↦ c ∷ leading_digits s | false ↦ [] ]

-- the digits are as many as the first bytes that are digits
pub digits_length : (s : List ℕ) → prefix_len is_digit s ≡ length (leading_digits s)
digits_length [] = refl
digits_length (c ∷ s) = go (is_digit c) (digits_length s)
  where
    go : (b : Bool) → prefix_len is_digit s ≡ length (leading_digits s) → cond b (1 + prefix_len is_digit s) 0 ≡ length (run_from c s b)
    go true e = omega arith
    go false e = refl

-- they are the first bytes
pub digits_front : (s : List ℕ) → take (length (leading_digits s)) s ≡ leading_digits s
digits_front [] = refl
digits_front (c ∷ s) = go (is_digit c) (digits_front s)
  where
    go : (b : Bool) → take (length (leading_digits s)) s ≡ leading_digits s → take (length (run_from c s b)) (c ∷ s) ≡ run_from c s b
    go true e = ap (λ ds. c ∷ ds) e
    go false e = refl

-- a digit is not below '0'
digit_high : (c : ℕ) → is_digit c ≡ true → 48 ≤ c
unfolding is_digit
digit_high c e = leb-true 48 c (both_true (leb 48 c) (leb c 57) e).0

-- none of the digits is
pub digits_high : (s : List ℕ) (k : ℕ) → k < length (leading_digits s) → 48 ≤ get_or (leading_digits s) k 0
digits_high [] k h = absurd (omega arith)
digits_high (c ∷ s) k h = go (is_digit c) refl (digits_high s) k h
  where
    go : (b : Bool) → is_digit c ≡ b → ((k : ℕ) → k < length (leading_digits s) → 48 ≤ get_or (leading_digits s) k 0)
        → (k : ℕ) → k < length (run_from c s b) → 48 ≤ get_or (run_from c s b) k 0
    go true e others zero h = digit_high c e
    go true e others (suc k) h = others k (omega arith)
    go false e others k h = absurd (omega arith)

-- the value only grows
pub value_grows : (v : ℕ) (ds : List ℕ) → v ≤ value_of v ds
value_grows v [] = omega arith
value_grows v (c ∷ ds) = omega (arith, value_grows (v * 10 + (c - 48)) ds)

-- one digit more
pub one_digit : (v i : ℕ) (ds : List ℕ) → i < length ds → value_of v (drop i ds) ≡ value_of (v * 10 + (get_or ds i 0 - 48)) (drop (i + 1) ds)
one_digit v i ds h = rw (add-one, drop-cons ds i 0 h) refl

-- a number that is said is small
pub number_small : (ds : List ℕ) → IfSome (number_in ds) (λ n. n ≤ 65535)
unfolding number_in is_number
number_small ds = go (is_number ds) refl
  where
    go : (b : Bool) → is_number ds ≡ b → IfSome (cond b (Some (value_of 0 ds)) None) (λ n. n ≤ 65535)
    go true e =
        let p = both_true (not (bad_start ds)) (leb (length ds) 5 && leb (value_of 0 ds) 65535) e in
        leb-true (value_of 0 ds) 65535 (both_true (leb (length ds) 5) (leb (value_of 0 ds) 65535) p.1).1
    go false e = tt

-- the number behind its separator, if digits say one
abbrev pub number_behind : ℕ → List ℕ → Found ℕ → Reading ℕ
number_behind sep s None = none
number_behind sep s (Some n) = read_byte sep (drop (length (leading_digits s)) s) >>= λ r. some (n, r.1)

-- a number is read as its digits say
pub field_read : (sep : ℕ) (s : List ℕ) → read_field sep s ≡ number_behind sep s (number_in (leading_digits s))
unfolding read_field number_in
field_read sep s = go (is_number (leading_digits s))
  where
    go : (b : Bool) → (elim b [ true ↦ read_byte sep (drop (length (leading_digits s)) s) >>= λ r. some (value_of 0 (leading_digits s), r.1) | false ↦ none ])
        ≡ number_behind sep s (cond b (Some (value_of 0 (leading_digits s))) None)
    go true = refl
    go false = refl

module _ (sep : ℕ) (s ds : List ℕ) (d : ds ≡ leading_digits s) where
  -- the digits say no number
  pub field_none : None ≡ number_in ds → none ≡ read_field sep s
  field_none e = sym (field_read sep s ∙ ap (number_behind sep s) (ap number_in (sym d) ∙ sym e))

  module _ (n : ℕ) (rest : List ℕ) (r : rest ≡ drop (length (leading_digits s)) s) (e : Some n ≡ number_in ds) where
    -- they say one, and this is read behind it
    behind_number : read_field sep s ≡ (read_byte sep rest >>= λ b. some (n, b.1))
    behind_number =
        field_read sep s ∙ ap (number_behind sep s) (ap number_in (sym d) ∙ sym e) ∙ ap (λ (t : List ℕ). read_byte sep t >>= λ b. some (n, b.1)) (sym r)

    -- its separator does not follow
    pub field_apart : none ≡ read_byte sep rest → none ≡ read_field sep s
    field_apart q = sym (behind_number ∙ rw (← q) refl)

    -- it does
    pub field_whole : (after : List ℕ) → some (sep, after) ≡ read_byte sep rest → some (n, after) ≡ read_field sep s
    field_whole after q = sym (behind_number ∙ rw (← q) refl)

-- a conjunction whose second part fails
and-false : (a : Bool) → a && false ≡ false
and-false true = refl
and-false false = refl

module _ (ds : List ℕ) where
  -- digits that are no number
  pub number_bad : bad_start ds ≡ true → number_in ds ≡ None
  unfolding number_in is_number
  number_bad e = rw (number_in, is_number, e) refl

  pub number_long : 5 < length ds → number_in ds ≡ None
  unfolding number_in is_number
  number_long h = rw (number_in, is_number, lt-leb (length ds) 5 h, and-false (not (bad_start ds))) refl

  pub number_large : (v i : ℕ) → value_of v (drop i ds) ≡ value_of 0 ds → 65535 < v → number_in ds ≡ None
  unfolding number_in is_number
  number_large v i e h =
      rw (number_in, is_number, lt-leb (value_of 0 ds) 65535 (omega (arith, value_grows v (drop i ds))), and-false (leb (length ds) 5), and-false (not (bad_start ds))) refl

  -- a number
  pub number_good : bad_start ds ≡ false → length ds ≤ 5 → value_of 0 ds ≤ 65535 → number_in ds ≡ Some (value_of 0 ds)
  unfolding number_in is_number
  number_good e l h = rw (number_in, is_number, e, le-leb (length ds) 5 l, le-leb (value_of 0 ds) 65535 h) refl
