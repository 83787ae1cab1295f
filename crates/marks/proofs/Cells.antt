-- Cells as bits: what the marks say of the records that were read, and what that is within the bounds.
use Prim.Native.Nat.{ℕ, zero, suc, ◌+◌, ◌*◌, ◌-◌, ◌≤◌, ◌<◌, ◌/◌, ◌%◌, ◌^◌, max}
use mathlib.Core.Path.{◌≡◌, refl, sym, ◌∙◌, ap, ap₂}
use mathlib.Core.List.{List, [], ◌∷◌, ◌++◌}
use mathlib.Core.Bool.{Bool, true, false, cond, ◌||◌, ◌&&◌}
use native.Mathlib.Omega.{arith}
use native.Mathlib.Nat.{div_self, div-eq_of_lt, zero-div, one-mul, mul-mod_right}
use lib.Dec.{eqb, ltb, leb}
use lib.Bits.{bit_and, bit_or, or_step, or_shr, and_mask}
use lib.Pow.{pow_pos, pow-lt, pow-add, shl_exact, shl-shr}
use lib.ListN.{length, get_or, set, replicate, length-set, length-replicate}
use lib.Seq.{get_or-set_same, get_or-set_other}
use borrow.Author.Tests.{leb-true, le-leb, ltb-true, ltb-false, eq-eqb, ne_eqb, eqb-true, eqb-false}
use Rattle.std.specs.Bool.{OnTrue}
use Rattle.rules.specs.declared.StockRecord.{StockRecord}
use Rattle.rules.specs.Lists.{all_of, any_of, any_two, select}
use Rattle.rules.specs.Store.{within, layout_in_bounds}
use Rattle.rules.specs.Jobs.{Job}
use Rattle.rules.specs.Refusals.{same_cell, record_in_bounds, stock_in_bounds}
use Rattle.rules.proofs.Admission.{layout_within, record_within}
use Rattle.rules.proofs.Lists.{all_true, member_select}
use Rattle.rules.proofs.Numbers.{both_true}
use Rattle.marks.specs.declared.Marks.{Marks}
use Rattle.marks.specs.Marking.{has_bit, cell_twice, no_marks, is_seen, set_seen, mark_of}

-- the bit k of a number
abbrev bit : ℕ → ℕ → ℕ
bit m k = (m / 2 ^ k) % 2

-- testing a bit by shift and mask
bit_tested : (m k : ℕ) → bit_and (m / 2 ^ k) 1 ≡ bit m k
bit_tested m k = and_mask (m / 2 ^ k) 1

-- one shifted to a bit of a u32
one_shifted : (k : ℕ) → k < 32 → (1 * 2 ^ k) % 4294967296 ≡ 2 ^ k
one_shifted k h = shl_exact 1 k 32 (omega arith) (omega arith) ∙ one-mul (2 ^ k)

-- the bits of a union
bit_or_lem : (m n k : ℕ) → bit (bit_or m n) k ≡ max (bit m k) (bit n k)
bit_or_lem m n k = rw (or_shr m n k) (omega (arith, or_step (m / 2 ^ k) (n / 2 ^ k)))

-- the bits of one bit
bit_own : (k : ℕ) → bit (2 ^ k) k ≡ 1
bit_own k = rw (div_self (pow_pos k))

bit_above : (c k : ℕ) → c < k → bit (2 ^ c) k ≡ 0
bit_above c k h = rw (div-eq_of_lt (pow-lt h))

bit_below : (c k : ℕ) → k < c → bit (2 ^ c) k ≡ 0
bit_below c k h =
    let j : ℕ = c - suc k in
    let e : c ≡ (1 + j) + k = omega arith in
    rw (e, pow-add 2 (1 + j) k, shl-shr (2 ^ (1 + j)) k, pow-add 2 1 j) (mul-mod_right 2 (2 ^ j))

bit_other : (c k : ℕ) → (c ≡ k → ⊥) → bit (2 ^ c) k ≡ 0
bit_other c k h = go (ltb c k) refl
  where
    go : (b : Bool) → ltb c k ≡ b → bit (2 ^ c) k ≡ 0
    go true e = bit_above c k (ltb-true c k e)
    go false e = bit_below c k (omega (arith, ltb-false c k e, h))

-- laws of 'or'
or-false : (a : Bool) → a || false ≡ a
or-false true = refl
or-false false = refl

or-true : (a : Bool) → a || true ≡ true
or-true true = refl
or-true false = refl

or_assoc : (a b c : Bool) → (a || b) || c ≡ a || (b || c)
or_assoc true b c = refl
or_assoc false b c = refl

module _ {A : Type 0} where
  -- no element passes a test that none passes
  any_none : (f : A → Bool) (xs : List A) → ((x : A) → f x ≡ false) → any_of f xs ≡ false
  any_none f [] h = refl
  any_none f (x ∷ xs) h = rw (any_of, h x, any_none f xs h)

  -- two tests at once, over elements that all pass a third
  any_or : (t f g h : A → Bool) (xs : List A) → all_of t xs ≡ true → ((x : A) → t x ≡ true → h x ≡ f x || g x) → any_of h xs ≡ any_of f xs || any_of g xs
  any_or t f g h [] b e = refl
  any_or t f g h (x ∷ xs) b e =
      let p = both_true (t x) (all_of t xs) b in
      ap₂ ◌||◌ (e x p.0) (any_or t f g h xs p.1 e) ∙ regroup (f x) (g x) (any_of f xs) (any_of g xs)
    where
      regroup : (a b c d : Bool) → (a || b) || (c || d) ≡ (a || c) || (b || d)
      regroup true b c d = refl
      regroup false true c d = sym (or-true c)
      regroup false false c d = refl

-- a bit after another was set
bit_marked : (v c k : ℕ) → eqb (bit (bit_or v (2 ^ c)) k) 1 ≡ eqb (bit v k) 1 || eqb c k
bit_marked v c k = rw (bit_or_lem v (2 ^ c) k) (go (eqb c k) refl)
  where
    go : (b : Bool) → eqb c k ≡ b → eqb (max (bit v k) (bit (2 ^ c) k)) 1 ≡ eqb (bit v k) 1 || b
    go true e =
        let own : bit (2 ^ c) k ≡ 1 = ap (λ (j : ℕ). bit (2 ^ c) j) (sym (eqb-true c k e)) ∙ bit_own c in
        eq-eqb (max (bit v k) (bit (2 ^ c) k)) 1 (omega arith) ∙ sym (or-true (eqb (bit v k) 1))
    go false e =
        let other : bit (2 ^ c) k ≡ 0 = bit_other c k (eqb-false c k e) in
        let same : max (bit v k) (bit (2 ^ c) k) ≡ bit v k = omega arith in
        ap (λ (b : ℕ). eqb b 1) same ∙ sym (or-false (eqb (bit v k) 1))

-- the same number, counted from 1 or from 0
eqb_from_one : (a b : ℕ) → 1 ≤ a → 1 ≤ b → eqb (a - 1) (b - 1) ≡ eqb a b
eqb_from_one a b h l = go (eqb a b) refl
  where
    go : (t : Bool) → eqb a b ≡ t → eqb (a - 1) (b - 1) ≡ t
    go true e = eq-eqb (a - 1) (b - 1) (ap (λ (n : ℕ). n - 1) (eqb-true a b e))
    go false e = ne_eqb (a - 1) (b - 1) (λ q. eqb-false a b e (omega arith))

-- a record's cell that has a bit
pub record InMarks (r : StockRecord) : Type 0 where
  pub aisle : (1 ≤ r.aisle) × (r.aisle ≤ 16)
  pub cell : (1 ≤ r.cell) × (r.cell ≤ 24)

-- what the test of a record's bit says
pub in_marks : (r : StockRecord) → has_bit r ≡ true → InMarks r
unfolding has_bit within
in_marks r e =
    let p = both_true (within 1 16 r.aisle) (within 1 24 r.cell) e in
    let a = both_true (leb 1 r.aisle) (leb r.aisle 16) p.0 in
    let c = both_true (leb 1 r.cell) (leb r.cell 24) p.1 in
    record {
      aisle = (leb-true 1 r.aisle a.0, leb-true r.aisle 16 a.1);
      cell = (leb-true 1 r.cell c.0, leb-true r.cell 24 c.1);
    }

-- the bounds of a record with a bit, where the test says so
pub on_bit : (r : StockRecord) (b : Bool) → b ≡ has_bit r → OnTrue b ((1 ≤ r.aisle) × (r.aisle ≤ 16) × (1 ≤ r.cell) × (r.cell ≤ 24))
on_bit r true e = let i = in_marks r (sym e) in (i.aisle.0, i.aisle.1, i.cell.0, i.cell.1)
on_bit r false e = tt

module _ (seen : List ℕ) (size : length seen ≡ 16) (x : StockRecord) (inside : InMarks x) where
  -- after a record's bit was set, its cell is seen and those before are
  seen_more : (r : StockRecord) → InMarks r → is_seen (set_seen seen x) r ≡ is_seen seen r || same_cell x r
  unfolding same_cell
  seen_more r inner = go (eqb x.aisle r.aisle) refl
    where
      go : (b : Bool) → eqb x.aisle r.aisle ≡ b → is_seen (set_seen seen x) r ≡ is_seen seen r || (b && eqb x.cell r.cell)
      go true e =
          let q : r.aisle ≡ x.aisle = sym (eqb-true x.aisle r.aisle e) in
          let v = get_or seen (x.aisle - 1) 0 in
          let low : x.aisle - 1 < length seen = omega (arith, size, inside.aisle.0, inside.aisle.1) in
          rw (q, get_or-set_same seen (x.aisle - 1) (bit_or v (2 ^ (x.cell - 1))) 0 low, ← eqb_from_one x.cell r.cell inside.cell.0 inner.cell.0)
          (bit_marked v (x.cell - 1) (r.cell - 1))
      go false e =
          let n : r.aisle - 1 ≡ x.aisle - 1 → ⊥ = λ q. eqb-false x.aisle r.aisle e (omega (arith, inside.aisle.0, inner.aisle.0)) in
          rw (get_or-set_other seen (x.aisle - 1) (r.aisle - 1) (bit_or (get_or seen (x.aisle - 1) 0) (2 ^ (x.cell - 1))) 0 n) (sym (or-false (is_seen seen r)))

  -- some of the records is seen then
  any_seen_more : (xs : List StockRecord)
      → any_of (is_seen (set_seen seen x)) (select has_bit xs) ≡ any_of (is_seen seen) (select has_bit xs) || any_of (same_cell x) (select has_bit xs)
  any_seen_more xs =
      any_or has_bit (is_seen seen) (same_cell x) (is_seen (set_seen seen x)) (select has_bit xs)
      ((all_true has_bit (select has_bit xs)).1 (λ r m. ((member_select has_bit xs).0 m).1))
      (λ r e. seen_more r (in_marks r e))

-- no cell is seen
none_seen : (r : StockRecord) → is_seen no_marks.seen r ≡ false
none_seen r = rw (zeros 16 (r.aisle - 1), zero-div (2 ^ (r.cell - 1)))
  where
    zeros : (n j : ℕ) → ◌≡◌ {A = ℕ} (get_or (replicate n 0) j 0) 0
    zeros zero j = refl
    zeros (suc n) zero = refl
    zeros (suc n) (suc j) = zeros n j

-- the marks behind all of the records
abbrev pub marks_behind : Marks → List StockRecord → Marks
marks_behind m [] = m
marks_behind m (x ∷ xs) = marks_behind (mark_of m x) xs

-- one record more
pub marks_more : (m : Marks) (xs : List StockRecord) (x : StockRecord) → marks_behind m (xs ++ (x ∷ [])) ≡ mark_of (marks_behind m xs) x
marks_more m [] x = refl
marks_more m (y ∷ xs) x = marks_more (mark_of m y) xs x

-- the marks after a record that has a bit, and after one that has none
mark_set : (m : Marks) (r : StockRecord) → has_bit r ≡ true → mark_of m r ≡ record { seen = set_seen m.seen r; twice = m.twice || is_seen m.seen r }
unfolding mark_of
mark_set m r e = rw (mark_of, e)

pub mark_passed : (m : Marks) (r : StockRecord) → has_bit r ≡ false → mark_of m r ≡ m
unfolding mark_of
mark_passed m r e = rw (mark_of, e)

-- the marks as the code makes them: the bit is tested by shift and mask, and set by 'or' with one shifted to it
abbrev marks_made : Marks → StockRecord → Marks
marks_made m r =
    let cells = get_or m.seen (r.aisle - 1) 0 in
    record {
      seen = set m.seen (r.aisle - 1) (bit_or cells ((1 * 2 ^ (r.cell - 1)) % 4294967296));
      twice = m.twice || eqb (bit_and (cells / 2 ^ (r.cell - 1)) 1) 1;
    }

pub marks_made_lem : (m : Marks) (r : StockRecord) → has_bit r ≡ true → marks_made m r ≡ mark_of m r
marks_made_lem m r e =
    let small : r.cell - 1 < 32 = omega (arith, (in_marks r e).cell.1) in
    rw (one_shifted (r.cell - 1) small, bit_tested (get_or m.seen (r.aisle - 1) 0) (r.cell - 1)) (sym (mark_set m r e))

-- a bit was found set: one was before, or a record's cell was seen before, or stands in two records
abbrev TwiceBehind : Marks → List StockRecord → List StockRecord → Type 0
TwiceBehind m xs bits = (marks_behind m xs).twice ≡ m.twice || (any_of (is_seen m.seen) bits || any_two same_cell bits)

twice_behind : (xs : List StockRecord) (m : Marks) → length m.seen ≡ 16 → TwiceBehind m xs (select has_bit xs)
twice_behind [] m size = sym (or-false m.twice)
twice_behind (x ∷ xs) m size = go (has_bit x) refl (twice_behind xs)
  where
    regroup : (t k s c w : Bool) → (t || k) || ((s || c) || w) ≡ t || ((k || s) || (c || w))
    regroup true k s c w = refl
    regroup false true s c w = refl
    regroup false false s c w = or_assoc s c w

    go : (b : Bool) → has_bit x ≡ b → ((n : Marks) → length n.seen ≡ 16 → TwiceBehind n xs (select has_bit xs))
        → TwiceBehind m (x ∷ xs) (cond b (x ∷ select has_bit xs) (select has_bit xs))
    go true e rest =
        let after : Marks = record { seen = set_seen m.seen x; twice = m.twice || is_seen m.seen x } in
        let bits = select has_bit xs in
        ap (λ (n : Marks). (marks_behind n xs).twice) (mark_set m x e)
        ∙ rest after (simp length-set size)
        ∙ rw (any_seen_more m.seen size x (in_marks x e) xs)
        (regroup m.twice (is_seen m.seen x) (any_of (is_seen m.seen) bits) (any_of (same_cell x) bits) (any_two same_cell bits))
    go false e rest = ap (λ (n : Marks). (marks_behind n xs).twice) (mark_passed m x e) ∙ rest m size

-- the marks of the records that were read tell whether a cell stands in two of them
pub cells_told : (xs : List StockRecord) → (marks_behind no_marks xs).twice ≡ cell_twice xs
unfolding cell_twice
cells_told xs = twice_behind xs no_marks (length-replicate {A = ℕ} 16 0) ∙ rw (any_none (is_seen no_marks.seen) (select has_bit xs) none_seen)

-- a stock within the bounds: a bit was found set if a cell stands in two records
pub cells_bounded : (job : Job) → layout_in_bounds job.layout ≡ true → stock_in_bounds job ≡ true → cell_twice job.stock ≡ any_two same_cell job.stock
unfolding cell_twice has_bit within stock_in_bounds
cells_bounded job layout stock =
    let each = (both_true (leb (length job.stock) 384) (all_of (record_in_bounds job) job.stock) stock).1 in
    ap (any_two same_cell) (whole job.stock each)
  where
    bit : (r : StockRecord) → record_in_bounds job r ≡ true → has_bit r ≡ true
    bit r e =
        let w = (record_within job r).0 e in
        let z = (layout_within job.layout).0 layout in
        let aisle : r.aisle ≤ 16 = omega (arith, w.aisle.1, z.aisles.1) in
        let cell : r.cell ≤ 24 = omega (arith, w.cell.1, z.cells.1) in
        rw (le-leb 1 r.aisle w.aisle.0, le-leb r.aisle 16 aisle, le-leb 1 r.cell w.cell.0, le-leb r.cell 24 cell)

    whole : (xs : List StockRecord) → all_of (record_in_bounds job) xs ≡ true → select has_bit xs ≡ xs
    whole [] h = refl
    whole (x ∷ xs) h =
        let p = both_true (record_in_bounds job x) (all_of (record_in_bounds job) xs) h in
        rw (bit x p.0) (ap (λ (l : List StockRecord). x ∷ l) (whole xs p.1))
