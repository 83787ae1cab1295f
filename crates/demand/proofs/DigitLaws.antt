-- The digits of a job by its lines, and what n less in one digit leave of a demand number.
use Prim.Native.Nat.{ℕ, zero, suc, ◌+◌, ◌*◌, ◌-◌, ◌/◌, ◌%◌, ◌≤◌, ◌<◌, min}
use native.Mathlib.Omega.{arith}
use native.Mathlib.Nat.{mul_comm, mul_assoc, mul_left_comm, mul-le-mul, mul-le-mul_left, mul-le-mul_right, mul-sub}
use native.Mathlib.Nat.{mod-le, suc-mod, zero-mod, mod-add-div, div-one, div-eq_of_lt, div-eq-sub-div, mul-div-le, div-div-eq-div-mul, div-lt_iff_lt-mul}
use native.Mathlib.Numerals.{add-one}
use native.Mathlib.Decide.{ℕ_discrete}
use mathlib.Core.Path.{◌≡◌, refl, sym, ◌∙◌, ap, ap₂, subst}
use mathlib.Core.Logic.{⊎_elim}
use mathlib.Core.Bool.{Bool, true, false, cond}
use mathlib.Core.List.{List, [], ◌∷◌, map, Memᴰ}
use Rattle.std.specs.Prelude.{Option, Some, None, IfSome, option_map}
use lib.Dec.{eqb}
use lib.ListN.{length, get_or, take, set, replicate, length-set, length-map, length-take}
use lib.Seq.{get_or-set_same, get_or-set_other, take_all}
use borrow.Author.Tests.{eq-eqb, ne_eqb}
use Rattle.rules.specs.declared.OrderLine.{OrderLine}
use Rattle.rules.specs.Lists.{any_of, any_two}
use Rattle.rules.specs.Jobs.{Job}
use Rattle.rules.specs.Refusals.{weight, same_article}
use Rattle.rules.proofs.Lists.{any_false}
use Rattle.optimum.specs.Demand.{less, radices, code_of, demand_of, less_code}
use Rattle.optimum.proofs.Radix.{count, Positive, no_radix, radix as one-radix, code_of_demand, radices_positive, count_weight}
use Rattle.values.specs.declared.JobValue.{JobValue}
use Rattle.values.specs.Values.{no_line, job_of, Sound}
use Rattle.values.specs.Shelves.{line_from}
use Rattle.demand.specs.declared.digits.Digit.{Digit}
use Rattle.demand.specs.declared.digits.Digits.{Digits}
use Rattle.demand.specs.Digits.{no_digit, DigitOf, DigitsOf, Within, less_line}
use Rattle.demand.proofs.Filling.{below}
use Rattle.shelves.proofs.Records.{or-false}

-- the product of the first radices: at least 1, at most the product of all
count_positive : {rs : List ℕ} → Positive rs → 1 ≤ count rs
count_positive no_radix = omega arith
count_positive (one-radix {r = r} {rs = rs} h p) = mul-le-mul {n₁ = 1} {m₁ = 1} {n₂ = r} {m₂ = count rs} h (count_positive p)

take_positive : {rs : List ℕ} → Positive rs → (l : ℕ) → Positive (take l rs)
take_positive p zero = no_radix
take_positive no_radix (suc l) = no_radix
take_positive (one-radix h p) (suc l) = one-radix h (take_positive p l)

take_below : {rs : List ℕ} → Positive rs → (l : ℕ) → count (take l rs) ≤ count rs
take_below p zero = count_positive p
take_below no_radix (suc l) = omega arith
take_below (one-radix {r = r} h p) (suc l) = mul-le-mul_left r (take_below p l)

-- the radix of a line
abbrev pub radix_of : OrderLine → ℕ
radix_of l = l.quantity + 1

radix_positive : (ls : List OrderLine) → Positive (map radix_of ls)
radix_positive [] = no_radix
radix_positive (l ∷ ls) = one-radix {r = radix_of l} (omega arith) (radix_positive ls)

-- the radix at the place of a line, and the product with it
radix_at : (ls : List OrderLine) (l : ℕ) → l < length ls → get_or (map radix_of ls) l 0 ≡ radix_of (get_or ls l no_line)
radix_at [] l h = absurd (omega arith)
radix_at (k ∷ ls) zero h = refl
radix_at (k ∷ ls) (suc l) h = radix_at ls l (omega arith)

count_next : (rs : List ℕ) (l : ℕ) → l < length rs → count (take (suc l) rs) ≡ count (take l rs) * get_or rs l 0
count_next [] l h = absurd (omega arith)
count_next (r ∷ rs) zero h = omega arith
count_next (r ∷ rs) (suc l) h = ap (λ n. r * n) (count_next rs l (omega arith)) ∙ sym (mul_assoc r (count (take l rs)) (get_or rs l 0))

pub radices_length : (job : Job) → length (radices job) ≡ length job.lines
unfolding radices
radices_length job = length-map job.lines _

-- the digit of a line in a number, times the product of the radices before it, is within the number
digit_in : {rs : List ℕ} → Positive rs → (l q : ℕ) → get_or (demand_of rs q) l 0 * count (take l rs) ≤ q
digit_in no_radix l q = omega arith
digit_in (one-radix {r = r} {rs = rs} low p) zero q = omega (arith, mod-le q r)
digit_in (one-radix {r = r} {rs = rs} low p) (suc l) q =
    let s = count (take l rs) in
    let d = get_or (demand_of rs (q / r)) l 0 in
    omega (arith, mul_left_comm d r s, mul-le-mul_left r (digit_in p l (q / r)), mul-div-le q r)

-- the digit by division
digit_is : {rs : List ℕ} → Positive rs → (l q : ℕ) → l < length rs → get_or (demand_of rs q) l 0 ≡ q / count (take l rs) % get_or rs l 0
digit_is no_radix l q h = absurd (omega arith)
digit_is (one-radix {r = r} low p) zero q h = rw (div-one q) refl
digit_is (one-radix {r = r} {rs = rs} low p) (suc l) q h =
    digit_is p l (q / r) (omega arith) ∙ ap (λ n. n % get_or rs l 0) (div-div-eq-div-mul q r (count (take l rs)))

-- counted on: 0 in the first numbers, and then one more than in the number a stride before
pub digit_first : (radix stride q : ℕ) → q < stride → 0 ≡ q / stride % radix
digit_first radix stride q h = sym (ap (λ n. n % radix) (div-eq_of_lt h) ∙ zero-mod radix)

pub digit_next : (radix stride q x : ℕ) → 0 < stride → stride ≤ q → x ≡ (q - stride) / stride % radix → suc x % radix ≡ q / stride % radix
digit_next radix stride q x low high e =
    let k = (q - stride) / stride in
    ap (λ n. suc n % radix) e ∙ sym (suc-mod k radix) ∙ ap (λ n. n % radix) (sym (div-eq-sub-div low high ∙ add-one k))

-- the digits of the first l lines, and the product of their radices
pub record DigitsTo (job : Job) (digit : List Digit) (w l : ℕ) : Type 0 where
  pub digit_length : length digit ≡ 8
  pub digit_to : (k : ℕ) → k < l → DigitOf job k (get_or digit k no_digit)
  pub weight_to : w ≡ count (take l (radices job))

pub digits_none : (job : Job) (x : Digit) → DigitsTo job (replicate 8 x) 1 0
digits_none job x = record { digit_length = refl; digit_to = λ k h. absurd (omega arith); weight_to = refl }

-- the next line of a job's value
module _ (v : JobValue) (sound : Sound v) (l : ℕ) (h : l < length (take v.orders v.lines)) where
  abbrev job : Job
  job = job_of v

  -- one more than its quantity
  abbrev radix : ℕ
  radix = (get_or (take v.orders v.lines) l no_line).quantity + 1

  line_there : l < length job.lines
  unfolding job_of
  line_there = h

  radix_read : get_or (radices job) l 0 ≡ radix
  unfolding radices job_of
  radix_read = radix_at job.lines l h

  module _ (digit : List Digit) (w : ℕ) (t : DigitsTo job digit w l) where
    weight_next : w * radix ≡ count (take (l + 1) (radices job))
    weight_next =
        rw (t.weight_to, ← radix_read, add-one l) (sym (count_next (radices job) l (omega (arith, radices_length job, line_there))))

    -- the numbers stay within the weight
    pub digits_fit : (radix ≤ 256) × (1 ≤ w) × (w * radix ≤ 256)
    digits_fit =
        let low : 1 ≤ w = rw t.weight_to (count_positive (take_positive (radices_positive job) l)) in
        let next : w * radix ≤ 256 = omega (arith, weight_next, take_below (radices_positive job) (l + 1), count_weight job, sound.admitted.light) in
        (omega (arith, mul-le-mul_right radix low), low, next)

    pub digits_one : (x : Digit) → x.stride ≡ w → ((q : ℕ) → q < 256 → get_or x.lacks q 0 ≡ q / w % radix) → DigitsTo job (set digit l x) (w * radix) (l + 1)
    digits_one x stride lacks =
        record {
          digit_length = length-set digit l x ∙ t.digit_length;
          digit_to = λ k b. ⊎_elim (λ k<l. earlier k k<l) (λ same. subst (λ k. DigitOf job k (get_or (set digit l x) k no_digit)) (sym same) last) (below k l b);
          weight_to = weight_next;
        }
      where
        inside : l < length digit
        inside = omega (arith, t.digit_length, length-take v.orders v.lines, sound.order_count)

        here : DigitOf job l x
        here =
            record {
              stride_is = stride ∙ t.weight_to;
              lacks_at = λ q b. lacks q b ∙ rw (t.weight_to, ← radix_read) (sym (digit_is (radices_positive job) l q (omega (arith, radices_length job, line_there))));
            }

        last : DigitOf job l (get_or (set digit l x) l no_digit)
        last = subst (DigitOf job l) (sym (get_or-set_same digit l x no_digit inside)) here

        earlier : (k : ℕ) → k < l → DigitOf job k (get_or (set digit l x) k no_digit)
        earlier k b = rw (get_or-set_other digit l k x no_digit (λ e. omega arith)) (t.digit_to k b)

-- the digits of all lines
pub digits_all : (v : JobValue) → Sound v → (d : Digits) (l : ℕ) → length (take v.orders v.lines) ≤ l → DigitsTo (job_of v) d.digit d.weight l → DigitsOf (job_of v) d
unfolding job_of
digits_all v sound d l few t =
    let job = job_of v in
    let whole : d.weight ≡ weight job.lines = t.weight_to ∙ ap count (take_all l (radices job) (omega (arith, radices_length job, few))) ∙ count_weight job in
    record {
      counted = whole;
      small = (rw (whole, ← count_weight job) (count_positive (radices_positive job)), omega (arith, sound.admitted.light));
      digit_at = λ k h. t.digit_to k (omega (arith, few));
    }

-- gains of nothing leave a number as it is
demand_length : (rs : List ℕ) (q : ℕ) → length (demand_of rs q) ≡ length rs
demand_length [] q = refl
demand_length (r ∷ rs) q = ap suc (demand_length rs (q / r))

less_none : (q : List ℕ) → less q (replicate (length q) 0) ≡ q
less_none [] = refl
less_none (n ∷ q) = ap₂ (λ x xs. x ∷ xs) (omega arith) (less_none q)

pub less_code_none : {rs : List ℕ} → Positive rs → (q : ℕ) → q < count rs → less_code rs (replicate (length rs) 0) q ≡ q
unfolding less_code
less_code_none {rs} p q h =
    ap (code_of rs) (ap (λ n. less (demand_of rs q) (replicate n 0)) (sym (demand_length rs q)) ∙ less_none (demand_of rs q)) ∙ code_of_demand p q h

-- a number less n in the digit of a line, if there is one
abbrev pub less_at : List ℕ → Option ℕ → ℕ → ℕ → ℕ
less_at rs None n q = q
less_at rs (Some l) n q = q - min (get_or (demand_of rs q) l 0) n * count (take l rs)

-- the same number for lines that begin one earlier
abbrev onward : Option ℕ → Option ℕ
onward = option_map suc

line_onward : (lines : List OrderLine) (k a : ℕ) → line_from (suc k) lines a ≡ onward (line_from k lines a)
line_onward [] k a = refl
line_onward (l ∷ ls) k a = go (eqb l.article a) (line_onward ls (suc k) a)
  where
    go : (b : Bool) → line_from (suc (suc k)) ls a ≡ onward (line_from (suc k) ls a)
        → cond b (Some (suc k)) (line_from (suc (suc k)) ls a) ≡ onward (cond b (Some k) (line_from (suc k) ls a))
    go true e = refl
    go false e = e

-- in a higher digit: what is below stays
less_higher : (r : ℕ) {rs : List ℕ} → Positive rs → (x : Option ℕ) (n q : ℕ) → q % r - 0 + r * less_at rs x n (q / r) ≡ less_at (r ∷ rs) (onward x) n q
less_higher r {rs} p None n q = omega (arith, mod-add-div q r)
less_higher r {rs} p (Some l) n q =
    let s = count (take l rs) in
    let d = get_or (demand_of rs (q / r)) l 0 in
    let m = min d n in
    let within : m * s ≤ q / r = omega (arith, mul-le-mul_right s (least d n), digit_in p l (q / r)) in
    omega (arith, mod-add-div q r, mul-sub r (q / r) (m * s), mul-le-mul_left r within, mul_left_comm m r s)
  where
    least : (d n : ℕ) → min d n ≤ d
    least d n = omega arith

-- lines of which none has a part in the gains
pub none_gained : (f : OrderLine → ℕ) (ls : List OrderLine) → ((l : OrderLine) → Memᴰ l ls → f l ≡ 0) → map f ls ≡ replicate (length ls) 0
none_gained f [] none = refl
none_gained f (l ∷ ls) none =
    ap₂ (λ x xs. x ∷ xs) (none l (Memᴰ.head refl)) (none_gained f ls (λ k m. none k (Memᴰ.tail m)))

-- what n of an article leave of a number, where no two lines have one article: n less in the digit of the article's line
module _ (a n : ℕ) where
  abbrev pub gain : OrderLine → ℕ
  gain l = cond (eqb a l.article) n 0

  pub less_article : (ls : List OrderLine) → any_two same_article ls ≡ false → (q : ℕ) → q < count (map radix_of ls)
      → less_code (map radix_of ls) (map gain ls) q ≡ less_at (map radix_of ls) (line_from 0 ls a) n q
  unfolding less_code same_article
  less_article [] once q h = omega arith
  less_article (l ∷ ls) once q h = go (ℕ_discrete l.article a) (less_article ls parts.1 (q / r) lower)
    where
      r : ℕ
      r = radix_of l

      rs : List ℕ
      rs = map radix_of ls

      parts : (any_of (same_article l) ls ≡ false) × (any_two same_article ls ≡ false)
      parts = or-false (any_of (same_article l) ls) (any_two same_article ls) once

      lower : q / r < count rs
      lower = (div-lt_iff_lt-mul {k = r} (omega arith)).1 (rw (mul_comm (count rs) r) h)

      -- no other line has the article
      others : l.article ≡ a → map gain ls ≡ replicate (length rs) 0
      others e =
          none_gained gain ls (λ k m. rw (← e, (any_false (same_article l) ls).0 parts.0 k m) refl)
          ∙ ap (λ k. replicate k 0) (sym (length-map ls radix_of))

      go : Dec (l.article ≡ a) → less_code rs (map gain ls) (q / r) ≡ less_at rs (line_from 0 ls a) n (q / r)
          → q % r - gain l + r * less_code rs (map gain ls) (q / r) ≡ less_at (r ∷ rs) (cond (eqb l.article a) (Some 0) (line_from 1 ls a)) n q
      go (yes e) rest =
          rw (eq-eqb l.article a e, eq-eqb a l.article (sym e), others e, less_code_none (radix_positive ls) (q / r) lower)
          (omega (arith, mod-add-div q r))
      go (no ne) rest =
          rw (ne_eqb l.article a ne, ne_eqb a l.article (λ e. ne (sym e)), rest, line_onward ls 0 a)
          (less_higher r (radix_positive ls) (line_from 0 ls a) n q)

-- what a cell leaves of a number, and that it can be taken from it, as the digits of a job have it
module _ {job : Job} {d : Digits} (of : DigitsOf job d) where
  pub less_line_lem : (line : Option ℕ) (n q : ℕ) → IfSome line (λ l. l < length job.lines) → q < 256 → less_line d line n q ≡ less_at (radices job) line n q
  less_line_lem None n q h b = refl
  less_line_lem (Some l) n q h b = rw ((of.digit_at l h).stride_is, (of.digit_at l h).lacks_at q b) refl

  pub digit_within : (l : ℕ) → l < length job.lines → Within (get_or d.digit l no_digit) d.weight
  digit_within l h q b =
      let x = of.digit_at l h in
      rw (x.stride_is, x.lacks_at q (omega (arith, of.small.1))) (digit_in (radices_positive job) l q)
