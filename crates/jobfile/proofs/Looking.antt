-- The two loops of the stock test: what is known behind the first k records of a line, and behind the first i lines.
use Prim.Native.Nat.{ℕ, ◌+◌, ◌*◌, ◌≤◌, ◌<◌}
use mathlib.Core.Path.{◌≡◌, refl, sym, ◌∙◌, ap}
use mathlib.Core.Bool.{Bool, true, false, cond, ◌&&◌}
use mathlib.Core.List.{List, ◌∷◌}
use native.Mathlib.Omega.{arith}
use native.Mathlib.Decide.{dec_lt}
use lib.Dec.{ltb, eqb}
use lib.ListN.{length, get_or, take}
use lib.Seq.{get_or-take}
use borrow.Author.Tests.{lt-ltb, le-ltb}
use Rattle.rules.specs.declared.StockRecord.{StockRecord}
use Rattle.rules.specs.declared.OrderLine.{OrderLine}
use Rattle.rules.specs.Lists.{any_of, sum_of}
use Rattle.rules.specs.Hours.{is_open}
use Rattle.rules.specs.Refusals.{record_in_bounds, line_in_bounds, all_stock, short_of_stock, RecordWithin}
use Rattle.rules.specs.Looked.{with_first, looked_for, tested_lines, looked}
use Rattle.rules.proofs.Admission.{layout_within, record_within, line_within}
use Rattle.rules.proofs.Lists.{all_at}
use Rattle.rules.proofs.Looked.{held, none_held, held_more, held_grows, all_held, looked_at, looked_short, tested_on, tested_end}
use Rattle.values.specs.declared.JobValue.{JobValue}
use Rattle.values.specs.Values.{no_line, hours_of, job_of}
use Rattle.reading.specs.Kept.{no_record}
use Rattle.jobfile.specs.Ready.{store_only, StockReady, ListReady}
use Rattle.jobfile.proofs.Left.{left, left_all, left_more, left_none, AnyFrom, any_fails, any_holds, any_more}
use Rattle.jobfile.proofs.Ranges.{Sized, stock_length, list_length, all_records, all_lines}

-- what a record holds: its quantity where its article is the one and its aisle is open
held_where : (is_open same : Bool) (q : ℕ) → cond is_open (cond same q 0) 0 ≡ cond (same && is_open) q 0
held_where true true q = refl
held_where true false q = refl
held_where false true q = refl
held_where false false q = refl

-- behind k records of a line: the sum is what they hold of its article, and no fewer hold its quantity
pub record LookedTo (v : JobValue) (article quantity sum k : ℕ) : Type 0 where
  pub within : k ≤ v.records
  pub same : sum ≡ all_stock (with_first k (job_of v)) article
  pub fewer : (n : ℕ) → n < k → all_stock (with_first n (job_of v)) article < quantity

module _ (v : JobValue) (article quantity : ℕ) where
  pub looking_start : LookedTo v article quantity 0 0
  looking_start = record { within = omega arith; same = sym (none_held (job_of v) article); fewer = λ n h. absurd (omega arith) }

  module _ (sum k : ℕ) (r : LookedTo v article quantity sum k) (h : k < v.records) (short : sum < quantity) (size : length (job_of v).stock ≡ v.records) where
    abbrev row : StockRecord
    row = get_or v.stock k no_record

    -- it counts: it is of the article, and of an open aisle
    abbrev counts : Bool
    counts = eqb row.article article && is_open (hours_of v.hours) row.aisle

    -- the record is looked at
    looking_more : LookedTo v article quantity (sum + cond counts row.quantity 0) (k + 1)
    unfolding job_of
    looking_more =
        let more = held_more (job_of v) article k no_record (omega (arith, size)) in
        let here = ap (held (hours_of v.hours) article) (get_or-take v.records v.stock k no_record h) in
        let where-open = held_where (is_open (hours_of v.hours) row.aisle) (eqb row.article article) row.quantity in
        record { within = omega arith; same = omega (arith, more, here, where-open, r.same); fewer = fewer }
      where
        fewer : (n : ℕ) → n < k + 1 → all_stock (with_first n (job_of v)) article < quantity
        fewer n l = go (dec_lt n k)
          where
            go : Dec (n < k) → all_stock (with_first n (job_of v)) article < quantity
            go (yes s) = r.fewer n s
            go (no s) = let same : n ≡ k = omega arith in rw same (omega (arith, r.same))

    -- one that counts, and one that does not
    pub looking_hit : counts ≡ true → LookedTo v article quantity (sum + row.quantity) (k + 1)
    looking_hit e = rw e at looking_more

    pub looking_miss : counts ≡ false → LookedTo v article quantity sum (k + 1)
    looking_miss e = let more = rw e at looking_more in let none : sum + 0 ≡ sum = omega arith in rw none at more

module _ (v : JobValue) (size : length (job_of v).stock ≡ v.records) (l : OrderLine) (sum k : ℕ) (r : LookedTo v l.article l.quantity sum k) where
  -- the sum is reached: the line is not short, and k records were looked at
  pub line_reached : l.quantity ≤ sum → (l.quantity ≤ all_stock (job_of v) l.article) × (looked_for (job_of v) l ≡ k)
  line_reached h =
      let job = job_of v in
      let all = length job.stock in (
        omega (arith, r.same, all_held job l.article, held_grows job l.article k all (omega (arith, r.within))),
        looked_at job l k (omega (arith, r.within)) (omega (arith, r.same)) r.fewer,
      )

  -- no record is left: the line is short, and all were looked at
  pub line_short : sum < l.quantity → v.records ≤ k → (all_stock (job_of v) l.article < l.quantity) × (looked_for (job_of v) l ≡ k)
  line_short h e =
      let job = job_of v in
      let all : k ≡ length job.stock = omega (arith, r.within) in
      let short : all_stock job l.article < l.quantity = omega (arith, r.same, all_held job l.article, ap (λ n. all_stock (with_first n job) l.article) all) in
      (short, looked_short job l short ∙ sym all)

-- a line exceeds all the stock of its article
abbrev pub short_line : JobValue → OrderLine → Bool
short_line v l = ltb (all_stock (job_of v) l.article) l.quantity

-- the records that are looked at for these lines
abbrev pub looked_for_all : JobValue → List OrderLine → ℕ
looked_for_all v lines = sum_of (looked_for (job_of v)) (tested_lines (job_of v) lines)

-- behind i lines: none of them is short, and the records looked at so far, with those for the lines from i on, are all
pub record TestedTo (v : JobValue) (short : Bool) (number i : ℕ) : Type 0 where
  pub none_short : short ≡ false
  pub small : number ≤ 384 * i
  pub rest : AnyFrom (short_line v) v.orders v.lines (short_of_stock (job_of v)) i
  pub same : number + looked_for_all v (left v.orders i v.lines) ≡ looked (job_of v)

module _ (v : JobValue) where
  pub testing_start : TestedTo v false 0 0
  unfolding short_of_stock looked job_of
  testing_start =
      let all = left_all v.orders v.lines in
      let number : looked_for_all v (left v.orders 0 v.lines) ≡ looked (job_of v) = ap (looked_for_all v) all in
      record { none_short = refl; small = omega arith; rest = ap (any_of (short_line v)) all; same = omega (arith, number) }

  -- no line is left
  pub testing_end : (short : Bool) (number i : ℕ) → TestedTo v short number i → v.orders ≤ i → (short ≡ short_of_stock (job_of v)) × (number ≡ looked (job_of v))
  testing_end short number i t h = (
    t.none_short ∙ sym (any_fails (short_line v) v.orders v.lines (short_of_stock (job_of v)) i t.rest h),
    omega (arith, t.same, ap (looked_for_all v) (left_none v.orders i v.lines h)),
  )

  module _ (short : Bool) (number i k : ℕ) (t : TestedTo v short number i) (h : i < v.orders) (room : i < length v.lines) where
    abbrev line : OrderLine
    line = get_or v.lines i no_line

    abbrev rest : List OrderLine
    rest = left v.orders (i + 1) v.lines

    -- the line there and the others
    apart : looked_for_all v (left v.orders i v.lines) ≡ looked_for_all v (line ∷ rest)
    apart = ap (looked_for_all v) (left_more v.orders i v.lines no_line h room)

    -- the line there is not short
    pub testing_more : k ≤ 384 → (line.quantity ≤ all_stock (job_of v) line.article) × (looked_for (job_of v) line ≡ k) → TestedTo v short (number + k) (i + 1)
    testing_more few (enough, count) =
        let job = job_of v in
        let fails = le-ltb (all_stock job line.article) line.quantity enough in
        record {
          none_short = t.none_short;
          small = omega (arith, t.small);
          rest = any_more (short_line v) v.orders v.lines (short_of_stock job) i no_line h room t.rest fails;
          same = omega (arith, t.same, apart, ap (sum_of (looked_for job)) (tested_on job line rest enough), count);
        }

    -- it is short: the test ends
    pub testing_short : (all_stock (job_of v) line.article < line.quantity) × (looked_for (job_of v) line ≡ k)
        → (true ≡ short_of_stock (job_of v)) × (number + k ≡ looked (job_of v))
    testing_short (less, count) =
        let job = job_of v in
        let holds = lt-ltb (all_stock job line.article) line.quantity less in (
          sym (any_holds (short_line v) v.orders v.lines (short_of_stock job) i no_line h room t.rest holds),
          omega (arith, t.same, apart, ap (sum_of (looked_for job)) (tested_end job line rest less), count),
        )

-- a record of a stock within the bounds holds at most 255, and so much may a line ask for
module _ (v : JobValue) (size : Sized v) where
  row_within : (k : ℕ) → k < v.records → StockReady v → RecordWithin v.layout (get_or v.stock k no_record)
  row_within k h ready =
      let at = all_at (record_in_bounds (store_only v.layout)) (take v.records v.stock) k no_record (omega (arith, stock_length v size ready.count)) (all_records v ready.stock) in
      let row = rw (get_or-take v.records v.stock k no_record h) at at in
      (record_within (store_only v.layout) (get_or v.stock k no_record)).0 row

  pub row_small : (k : ℕ) → k < v.records → StockReady v → (get_or v.stock k no_record).quantity ≤ 255
  row_small k h ready = (row_within k h ready).quantity.1

  -- and its aisle is one of at most 16
  pub row_aisle : (k : ℕ) → k < v.records → StockReady v → (1 ≤ (get_or v.stock k no_record).aisle) × ((get_or v.stock k no_record).aisle ≤ 16)
  row_aisle k h ready =
      let aisle = (row_within k h ready).aisle in
      let most = ((layout_within v.layout).0 ready.layout).aisles.1 in
      (aisle.0, omega (arith, aisle.1, most))

  pub asked_small : (i : ℕ) → i < v.orders → ListReady v → (get_or v.lines i no_line).quantity ≤ 255
  asked_small i h ready =
      let at = all_at line_in_bounds (take v.orders v.lines) i no_line (omega (arith, list_length v size ready.count)) (all_lines v ready.list) in
      let line = rw (get_or-take v.orders v.lines i no_line h) at at in
      ((line_within (get_or v.lines i no_line)).0 line).quantity.1

  -- the job's records are as many as are counted
  pub records_counted : StockReady v → length (job_of v).stock ≡ v.records
  unfolding job_of
  records_counted ready = stock_length v size ready.count
