-- Laws of the records that the stock test looks at (#105).
use Prim.Native.Nat.{ℕ, zero, suc, ◌+◌, ◌*◌, ◌≤◌, ◌<◌}
use native.Mathlib.Omega.{arith}
use native.Mathlib.Nat.{mul-le-mul_right, mul_comm, zero-mul}
use native.Mathlib.Numerals.{add-one}
use native.Mathlib.Decide.{dec_lt}
use mathlib.Core.Path.{◌≡◌, refl, sym, ap, ◌∙◌}
use mathlib.Core.Logic.{◌⊎◌, inl, inr, ◌↔◌}
use mathlib.Core.List.{List, [], ◌∷◌, ◌++◌, Memᴰ}
use mathlib.Core.Bool.{Bool, true, false, cond, true≢false, false≢true}
use mathlib.Core.Option.{Option, none, some}
use lib.Dec.{eqb}
use lib.ListN.{length, take, get_or}
use lib.Seq.{take_all, take-nil, take-suc}
use borrow.Author.Tests.{le-leb, lt-leb, leb-true, leb-false}
use Rattle.rules.specs.declared.StockRecord.{StockRecord}
use Rattle.rules.specs.declared.OrderLine.{OrderLine}
use Rattle.rules.specs.declared.Refusal.{Refusal}
use Rattle.rules.specs.declared.Refusal.TheVariants.{WorkArea, NotAJobFile, LayoutBounds, StockBounds, CellTwice, HoursBounds}
use Rattle.rules.specs.declared.Refusal.TheVariants.{ListBounds, ArticleTwice, TooHeavy, ShortOfStock, SheetSpace, PageSpace}
use Rattle.rules.specs.Lists.{from, sum_of, select, head_or}
use Rattle.rules.specs.Hours.{Hours, is_open}
use Rattle.rules.specs.Jobs.{Job, job_with_stock}
use Rattle.rules.specs.Refusals.{all_stock, short_of_stock, job_refusal}
use Rattle.rules.specs.Looked.{with_first, first_hold, looked_for, tested_lines, looked, stock_tested}
use Rattle.rules.proofs.Lists.{sum_append, sum_select, sum_below}
use Rattle.rules.proofs.Admission.{OtherwiseAdmitted, admitted_apart, admitted, refused_for_stock, line_out_of_stock}

-- h is the least of the numbers from a upwards that pass a test
record LeastFrom (t : ℕ → Bool) (a h : ℕ) : Type 0 where
  passes : t h ≡ true
  above : a ≤ h
  others : (i : ℕ) → a ≤ i → i < h → t i ≡ false

module _ (t : ℕ → Bool) (d : ℕ) where
  -- where some number passes, the first of those that are selected is the least, and no greater than that number
  least_from : (a n k : ℕ) → a ≤ k → k < a + n → t k ≡ true → LeastFrom t a (head_or d (select t (from a n))) × (head_or d (select t (from a n)) ≤ k)
  least_from a zero k l h e = absurd (omega arith)
  least_from a (suc n) k l h e = go (t a) refl (λ m. least_from (suc a) n k m (omega arith) e)
    where
      rest : List ℕ
      rest = select t (from (suc a) n)

      go : (b : Bool) → t a ≡ b → (suc a ≤ k → LeastFrom t (suc a) (head_or d rest) × (head_or d rest ≤ k))
          → LeastFrom t a (head_or d (cond b (a ∷ rest) rest)) × (head_or d (cond b (a ∷ rest) rest) ≤ k)
      go true p more = (record { passes = p; above = omega arith; others = λ i m s. absurd (omega arith) }, l)
      go false p more =
          let past : suc a ≤ k = below (dec_lt a k) in
          let (least, within) = more past in
          (record { passes = least.passes; above = omega (arith, least.above); others = others least }, within)
        where
          below : Dec (a < k) → suc a ≤ k
          below (yes h) = omega arith
          below (no h) = let same : a ≡ k = omega arith in absurd (true≢false (sym e ∙ sym (ap t same) ∙ p))

          others : LeastFrom t (suc a) (head_or d rest) → (i : ℕ) → a ≤ i → i < head_or d rest → t i ≡ false
          others least i m s = at (dec_lt a i)
            where
              at : Dec (a < i) → t i ≡ false
              at (yes h) = least.others i (omega arith) s
              at (no h) = let same : a ≡ i = omega arith in sym (ap t same) ∙ p

  -- where none passes, none is selected
  none_from : (a n : ℕ) → ((i : ℕ) → i < a + n → t i ≡ false) → head_or d (select t (from a n)) ≡ d
  none_from a zero fails = refl
  none_from a (suc n) fails = rw (fails a (omega arith)) (none_from (suc a) n (λ i h. fails i (omega arith)))

-- the sum over more of a list is no smaller
sum_take : {A : Type 0} (f : A → ℕ) (xs : List A) (m n : ℕ) → m ≤ n → sum_of f (take m xs) ≤ sum_of f (take n xs)
sum_take f [] m n h = rw (take-nil m, take-nil n) (omega arith)
sum_take f (x ∷ xs) zero n h = omega arith
sum_take f (x ∷ xs) (suc m) zero h = absurd (omega arith)
sum_take f (x ∷ xs) (suc m) (suc n) h = omega (arith, sum_take f xs m n (omega arith))

-- what a record holds of an article; that of a shut aisle nothing
abbrev pub held : Hours → ℕ → StockRecord → ℕ
held hours a r = cond (is_open hours r.aisle) (cond (eqb r.article a) r.quantity 0) 0

-- all the stock of an article, record by record
pub all_stock_lem : (job : Job) (a : ℕ) → all_stock job a ≡ sum_of (held job.hours a) job.stock
unfolding all_stock
all_stock_lem job a =
    sum_select (λ (r : StockRecord). cond (eqb r.article a) r.quantity 0) (λ (r : StockRecord). is_open job.hours r.aisle) job.stock

module _ (job : Job) where
  -- all the records
  pub with_all : (n : ℕ) → length job.stock ≤ n → with_first n job ≡ job
  unfolding with_first
  with_all n h = ap (λ stock. job_with_stock stock job) (take_all n job.stock h)

  module _ (a : ℕ) where
    -- what the first records hold, record by record
    pub first_held : (n : ℕ) → all_stock (with_first n job) a ≡ sum_of (held job.hours a) (take n job.stock)
    unfolding with_first
    first_held n = all_stock_lem (job_with_stock (take n job.stock) job) a

    -- no record holds nothing
    pub none_held : all_stock (with_first 0 job) a ≡ 0
    none_held = first_held 0

    -- one record more
    pub held_more : (n : ℕ) (d : StockRecord) → n < length job.stock
        → all_stock (with_first (n + 1) job) a ≡ all_stock (with_first n job) a + held job.hours a (get_or job.stock n d)
    held_more n d h =
        let counts = held job.hours a in
        let last = get_or job.stock n d in
        let more : sum_of counts (take (n + 1) job.stock) ≡ sum_of counts (take n job.stock) + counts last
        = rw (add-one n, take-suc job.stock n d h) (sum_append counts (take n job.stock) (last ∷ []) ∙ omega arith) in
        first_held (n + 1) ∙ more ∙ ap (λ sum. sum + counts last) (sym (first_held n))

    -- more records hold no less
    pub held_grows : (m n : ℕ) → m ≤ n → all_stock (with_first m job) a ≤ all_stock (with_first n job) a
    held_grows m n h = rw (first_held m, first_held n) (sum_take (held job.hours a) job.stock m n h)

    -- all the stock
    pub all_held : all_stock (with_first (length job.stock) job) a ≡ all_stock job a
    all_held = ap (λ (other : Job). all_stock other a) (with_all (length job.stock) (omega arith))

module _ (job : Job) (l : OrderLine) where
  -- the number of records
  abbrev all : ℕ
  all = length job.stock

  -- what the first n hold of the line's article
  abbrev first : ℕ → ℕ
  first n = all_stock (with_first n job) l.article

  -- the test of the first n records
  enough : (n : ℕ) → l.quantity ≤ first n → first_hold job l n ≡ true
  unfolding first_hold
  enough n h = le-leb l.quantity (first n) h

  lacking : (n : ℕ) → first n < l.quantity → first_hold job l n ≡ false
  unfolding first_hold
  lacking n h = lt-leb l.quantity (first n) h

  is_enough : (n : ℕ) → first_hold job l n ≡ true → l.quantity ≤ first n
  unfolding first_hold
  is_enough n e = leb-true l.quantity (first n) e

  is_lacking : (n : ℕ) → first_hold job l n ≡ false → first n < l.quantity
  unfolding first_hold
  is_lacking n e = leb-false l.quantity (first n) e

  -- so many records are looked at where they hold the quantity and no fewer do
  pub looked_at : (k : ℕ) → k ≤ all → l.quantity ≤ first k → ((n : ℕ) → n < k → first n < l.quantity) → looked_for job l ≡ k
  unfolding looked_for
  looked_at k h e fewer =
      let (least, within) = least_from (first_hold job l) all 0 (all + 1) k (omega arith) (omega arith) (enough k e) in
      go (dec_lt (looked_for job l) k) (is_enough (looked_for job l) least.passes) within
    where
      go : Dec (looked_for job l < k) → l.quantity ≤ first (looked_for job l) → looked_for job l ≤ k → looked_for job l ≡ k
      go (yes s) q w = absurd (omega (arith, fewer (looked_for job l) s))
      go (no s) q w = omega arith

  -- for a line that is not short: the number of records holds the quantity, no smaller number does, and there are so many
  pub looked_least : l.quantity ≤ all_stock job l.article
      → (l.quantity ≤ first (looked_for job l)) × ((n : ℕ) → n < looked_for job l → first n < l.quantity) × (looked_for job l ≤ all)
  unfolding looked_for
  looked_least h =
      let held : l.quantity ≤ first all = omega (arith, all_held job l.article) in
      let (least, within) = least_from (first_hold job l) all 0 (all + 1) all (omega arith) (omega arith) (enough all held) in
      (is_enough (looked_for job l) least.passes, λ n s. is_lacking n (least.others n (omega arith) s), within)

  -- for a short line all records are looked at
  pub looked_short : all_stock job l.article < l.quantity → looked_for job l ≡ all
  unfolding looked_for
  looked_short h =
      none_from (first_hold job l) all 0 (all + 1)
      (λ n s. lacking n (omega (arith, held_grows job l.article n all (omega arith), all_held job l.article)))

  -- never more than there are
  pub looked_within : looked_for job l ≤ all
  looked_within = go (dec_lt (all_stock job l.article) l.quantity)
    where
      go : Dec (all_stock job l.article < l.quantity) → looked_for job l ≤ all
      go (yes h) = omega (arith, looked_short h)
      go (no h) = (looked_least (omega arith)).2

  -- for a quantity some, where there are any
  looked_some : 1 ≤ l.quantity → 1 ≤ all → 1 ≤ looked_for job l
  looked_some q n = go (dec_lt (all_stock job l.article) l.quantity)
    where
      go : Dec (all_stock job l.article < l.quantity) → 1 ≤ looked_for job l
      go (yes h) = omega (arith, looked_short h)
      go (no h) = at (looked_for job l) (looked_least (omega arith)).0
        where
          at : (k : ℕ) → l.quantity ≤ first k → 1 ≤ k
          at zero e = absurd (omega (arith, none_held job l.article))
          at (suc k) e = omega arith

  -- a line that is not short is followed by the others, a short one by none
  pub tested_on : (lines : List OrderLine) → l.quantity ≤ all_stock job l.article → tested_lines job (l ∷ lines) ≡ l ∷ tested_lines job lines
  tested_on lines h = rw (enough all (omega (arith, all_held job l.article))) refl

  pub tested_end : (lines : List OrderLine) → all_stock job l.article < l.quantity → tested_lines job (l ∷ lines) ≡ l ∷ []
  tested_end lines h = rw (lacking all (omega (arith, all_held job l.article))) refl

module _ (job : Job) where
  -- where no line is short, all are tested
  pub tested_all : (lines : List OrderLine) → ((l : OrderLine) → Memᴰ l lines → l.quantity ≤ all_stock job l.article) → tested_lines job lines ≡ lines
  tested_all [] h = refl
  tested_all (l ∷ lines) h = tested_on job l lines (h l (Memᴰ.head refl)) ∙ ap (λ ls. l ∷ ls) (tested_all lines (λ k m. h k (Memᴰ.tail m)))

  -- the lines up to and including the first short one
  pub tested_first : (before : List OrderLine) (l : OrderLine) (after : List OrderLine) → ((k : OrderLine) → Memᴰ k before → k.quantity ≤ all_stock job k.article)
      → all_stock job l.article < l.quantity → tested_lines job (before ++ l ∷ after) ≡ before ++ l ∷ []
  tested_first [] l after h s = tested_end job l after s
  tested_first (k ∷ before) l after h s =
      tested_on job k (before ++ l ∷ after) (h k (Memᴰ.head refl)) ∙ ap (λ ls. k ∷ ls) (tested_first before l after (λ x m. h x (Memᴰ.tail m)) s)

  -- at most all lines are tested
  tested_within : (lines : List OrderLine) → length (tested_lines job lines) ≤ length lines
  tested_within [] = omega arith
  tested_within (l ∷ lines) = go (first_hold job l (length job.stock)) (tested_within lines)
    where
      go : (b : Bool) → length (tested_lines job lines) ≤ length lines → suc (length (cond b (tested_lines job lines) [])) ≤ suc (length lines)
      go true h = omega arith
      go false h = omega arith

  -- at most records times lines
  pub looked_most : looked job ≤ length job.stock * length job.lines
  unfolding looked
  looked_most =
      let all = length job.stock in
      let tested = tested_lines job job.lines in
      let sum = sum_below (looked_for job) all tested (λ l m. looked_within job l) in
      let fewer = mul-le-mul_right all (tested_within job.lines) in
      omega (arith, mul_comm all (length job.lines))

  -- 0 exactly when there is no line or no record
  pub looked_none : ((l : OrderLine) → Memᴰ l job.lines → 1 ≤ l.quantity) → (looked job ≡ 0) ↔ ((job.lines ≡ []) ⊎ (job.stock ≡ []))
  unfolding looked
  looked_none h = (λ e. to job.lines job.stock refl refl h e, from_none)
    where
      to : (lines : List OrderLine) (stock : List StockRecord) → job.lines ≡ lines → job.stock ≡ stock → ((l : OrderLine) → Memᴰ l lines → 1 ≤ l.quantity)
          → sum_of (looked_for job) (tested_lines job lines) ≡ 0 → (job.lines ≡ []) ⊎ (job.stock ≡ [])
      to [] stock e r q n = inl e
      to (l ∷ lines) [] e r q n = inr r
      to (l ∷ lines) (x ∷ stock) e r q n =
          let some : 1 ≤ length job.stock = rw r (omega arith) in
          absurd (omega (arith, looked_some job l (q l (Memᴰ.head refl)) some))

      from_none : (job.lines ≡ []) ⊎ (job.stock ≡ []) → sum_of (looked_for job) (tested_lines job job.lines) ≡ 0
      from_none (inl e) = ap (λ lines. sum_of (looked_for job) (tested_lines job lines)) e
      from_none (inr e) =
          let empty : length job.stock ≡ 0 = rw e refl in
          omega (arith, looked_most, ap (λ n. n * length job.lines) empty ∙ zero-mul (length job.lines))

-- the stock test is made on just those jobs to which no refusal before 8 applies
pub stock_tested_lem : (job : Job) → (stock_tested (job_refusal job) ≡ true) ↔ OtherwiseAdmitted job
stock_tested_lem job = (λ e. of (job_refusal job) refl e, λ o. to (short_of_stock job) refl o)
  where
    of : (r : Option Refusal) → job_refusal job ≡ r → stock_tested r ≡ true → OtherwiseAdmitted job
    of none e t = ((admitted_apart job).0 ((admitted job).0 e)).0
    of (some ShortOfStock) e t = ((refused_for_stock job).0 e).0
    of (some WorkArea) e t = absurd (false≢true t)
    of (some NotAJobFile) e t = absurd (false≢true t)
    of (some LayoutBounds) e t = absurd (false≢true t)
    of (some StockBounds) e t = absurd (false≢true t)
    of (some CellTwice) e t = absurd (false≢true t)
    of (some HoursBounds) e t = absurd (false≢true t)
    of (some ListBounds) e t = absurd (false≢true t)
    of (some ArticleTwice) e t = absurd (false≢true t)
    of (some TooHeavy) e t = absurd (false≢true t)
    of (some SheetSpace) e t = absurd (false≢true t)
    of (some PageSpace) e t = absurd (false≢true t)

    to : (b : Bool) → short_of_stock job ≡ b → OtherwiseAdmitted job → stock_tested (job_refusal job) ≡ true
    to true e o = ap stock_tested ((refused_for_stock job).1 (o, (line_out_of_stock job).0 e))
    to false e o = ap stock_tested ((admitted job).1 ((admitted_apart job).1 (o, e)))
