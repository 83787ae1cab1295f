-- What the tests of a job say: the bounds as numbers, cells and articles that stand once, and the refusals.
use Prim.Native.Nat.{ℕ, ◌≤◌, ◌<◌}
use mathlib.Core.Path.{◌≡◌, refl, sym, ◌∙◌, ap}
use mathlib.Core.Logic.Iff
use mathlib.Core.Logic.{◌↔◌}
use mathlib.Core.Bool.{Bool, true, false, not, and-eq-true_iff, true≢false, false≢true, ◌&&◌}
use mathlib.Core.List.{List, [], ◌∷◌, ◌++◌, Memᴰ}
use native.Mathlib.Omega.{arith}
use mathlib.Core.Option.{Option, none, some}
use borrow.Author.Tests.{leb-true, le-leb, ltb-true, lt-ltb, ltb-false, le-ltb, eqb-true, eq-eqb, not-false}
use lib.Dec.{leb, ltb, eqb}
use Rattle.rules.specs.declared.Posts.{Posts}
use Rattle.rules.specs.declared.Posts.TheVariants.{NoPosts, Every, Sided}
use Rattle.rules.specs.declared.Layout.{Layout}
use Rattle.rules.specs.declared.Policy.{Policy}
use Rattle.rules.specs.declared.StockRecord.{StockRecord}
use Rattle.rules.specs.declared.Window.{Window}
use Rattle.rules.specs.declared.OrderLine.{OrderLine}
use Rattle.rules.specs.declared.Refusal.{Refusal}
use Rattle.rules.specs.declared.Refusal.TheVariants.{LayoutBounds, StockBounds, CellTwice, HoursBounds, ListBounds, ArticleTwice, TooHeavy, ShortOfStock}
use Rattle.rules.specs.Lists.{any_two, Sorted}
use Rattle.rules.specs.Store.{within, posts_in_bounds, PostsWithin, layout_in_bounds, LayoutWithin}
use Rattle.rules.specs.Hours.{Hours, NoHours, At, is_open, window_in_bounds, hours_in_bounds, WindowWithin, HoursWithin}
use Rattle.rules.specs.Jobs.{Job, job_under, open_stock}
use Rattle.rules.specs.Refusals.{record_in_bounds, stock_in_bounds, same_cell, line_in_bounds, list_in_bounds, same_article, weight, weight_limit, all_stock, short_of_stock, number_of, first_row, job_rows, job_refusal, Admitted, RecordWithin, StockWithin, LineWithin, ListWithin}
use Rattle.rules.proofs.Lists.{all_true, any_false, any_true, member_select, sorted_imply, sorted_select, no_two_alike, alike_members}

-- what tests of numbers say
within_bounds : (a b n : ℕ) → (within a b n ≡ true) ↔ ((a ≤ n) × (n ≤ b))
unfolding within
within_bounds a b n =
    (λ h. (let p = (and-eq-true_iff (leb a n) (leb n b)).0 h in (leb-true a n p.0, leb-true n b p.1)), λ h. rw (le-leb a n h.0, le-leb n b h.1))

leb_bound : (a b : ℕ) → (leb a b ≡ true) ↔ (a ≤ b)
leb_bound a b = (leb-true a b, le-leb a b)

ltb_bound : (a b : ℕ) → (ltb a b ≡ false) ↔ (b ≤ a)
ltb_bound a b = (ltb-false a b, le-ltb a b)

eqb_equal : (a b : ℕ) → (eqb a b ≡ true) ↔ (a ≡ b)
eqb_equal a b = (eqb-true a b, eq-eqb a b)

-- no two elements that a test finds alike, in what the test says
once : {A : Type 0} (alike : A → A → Bool) (P : A → A → Type 0) → ((x y : A) → (alike x y ≡ true) ↔ P x y) → (xs : List A) → (any_two alike xs ≡ false) ↔ Sorted (λ x y. P x y → ⊥) xs
once {A} alike P says xs = (
  λ h. sorted_imply (λ x y. alike x y ≡ false) (λ x y. P x y → ⊥) (λ x y e p. true≢false (sym ((says x y).1 p) ∙ e)) xs ((no_two_alike alike xs).0 h),
  λ s. (no_two_alike alike xs).1 (sorted_imply (λ x y. P x y → ⊥) (λ x y. alike x y ≡ false) (λ x y h. go x y (alike x y) refl h) xs s),
)
  where
    go : (x y : A) (t : Bool) → alike x y ≡ t → (P x y → ⊥) → alike x y ≡ false
    go x y true e h = absurd (h ((says x y).0 e))
    go x y false e h = e

-- the bounds of k and u, as tests and as comparisons
post_numbers : (k u : ℕ) → (within 1 24 k && within 0 10 u ≡ true) ↔ ((1 ≤ k) × (k ≤ 24) × (u ≤ 10))
post_numbers k u = simp (and-eq-true_iff, within_bounds) (λ p. (p.0.0, p.0.1, p.1.1), λ b. ((b.0, b.1), (omega arith, b.2)))

-- the test of the posts' numbers says so
pub posts_within : (p : Posts) → (posts_in_bounds p ≡ true) ↔ PostsWithin p
posts_within NoPosts = (λ e. tt, λ b. refl)
posts_within (Every k u) = post_numbers k u
posts_within (Sided k u side) = post_numbers k u

-- the test of the layout's numbers says so
pub layout_within : (z : Layout) → (layout_in_bounds z ≡ true) ↔ LayoutWithin z
unfolding layout_in_bounds
layout_within z =
    simp (and-eq-true_iff, within_bounds, posts_within) (
      λ p.
          let q = p.0.0.0 in
          record { aisles = q.0.0.0.0; cells = q.0.0.0.1; front = q.0.0.1; pitch = q.0.1; back = q.1; width = p.0.0.1; depot = p.0.1; posts = p.1 },
      λ b. (((((((b.aisles, b.cells), b.front), b.pitch), b.back), b.width), b.depot), b.posts),
    )

pub record_within : (job : Job) (r : StockRecord) → (record_in_bounds job r ≡ true) ↔ RecordWithin job.layout r
unfolding record_in_bounds
record_within job r =
    simp (and-eq-true_iff, within_bounds) (
      λ p. record { aisle = p.0.0.0; cell = p.0.0.1; article = p.0.1; quantity = p.1 },
      λ b. (((b.aisle, b.cell), b.article), b.quantity),
    )

-- the test of the stock says so
pub stock_within : (job : Job) → (stock_in_bounds job ≡ true) ↔ StockWithin job
unfolding stock_in_bounds
stock_within job =
    simp (and-eq-true_iff, leb_bound, all_true, record_within) (λ p. record { count = p.0; records = p.1 }, λ b. (b.count, b.records))

-- the test of a window, and that of the hours, say so
window_within : (m : ℕ) (w : Window) → (window_in_bounds m w ≡ true) ↔ WindowWithin m w
unfolding window_in_bounds
window_within m w =
    simp (and-eq-true_iff, within_bounds, leb_bound) (
      λ p. record { aisle = p.0.0; some = p.0.1; last = p.1 },
      λ b. ((b.aisle, b.some), b.last),
    )

pub hours_within : (m : ℕ) (hours : Hours) → (hours_in_bounds m hours ≡ true) ↔ HoursWithin m hours
hours_within m NoHours = (λ e. tt, λ b. refl)
hours_within m (At t windows) =
    simp (and-eq-true_iff, leb_bound, all_true, window_within) (λ p. (p.0.0, p.0.1, p.1), λ b. ((b.0, b.1), b.2))

pub line_within : (l : OrderLine) → (line_in_bounds l ≡ true) ↔ LineWithin l
unfolding line_in_bounds
line_within l =
    simp (and-eq-true_iff, within_bounds) (λ p. record { article = p.0; quantity = p.1 }, λ b. (b.article, b.quantity))

-- the test of the list says so. (`within_bounds` is not used: with it an edit that lets 5 cover a count of 0 again is refused at its
-- case and not here)
pub list_within : (job : Job) → (list_in_bounds job ≡ true) ↔ ListWithin job
unfolding list_in_bounds
list_within job =
    simp (and-eq-true_iff, leb_bound, within_bounds, all_true, line_within) (λ p. record { count = p.0; lines = p.1 }, λ b. (b.count, b.lines))

-- no line exceeds all the stock of its article
pub lines_in_stock : (job : Job) → (short_of_stock job ≡ false) ↔ ((l : OrderLine) → Memᴰ l job.lines → l.quantity ≤ all_stock job l.article)
unfolding short_of_stock
lines_in_stock job = simp (any_false, ltb_bound) Iff.rfl

-- some line exceeds all the stock of its article
pub line_out_of_stock : (job : Job) → (short_of_stock job ≡ true) ↔ ((l : OrderLine) × Memᴰ l job.lines × (all_stock job l.article < l.quantity))
unfolding short_of_stock
line_out_of_stock job =
    let short : OrderLine → Bool = λ l. ltb (all_stock job l.article) l.quantity in
    let some_line = any_true short job.lines in (
      λ h. (let p = some_line.0 h in (p.0, p.1, ltb-true (all_stock job p.0.article) p.0.quantity p.2)),
      λ p. some_line.1 (p.0, p.1, lt-ltb (all_stock job p.0.article) p.0.quantity p.2),
    )

pub same_cell_lem : (r s : StockRecord) → (same_cell r s ≡ true) ↔ ((r.aisle ≡ s.aisle) × (r.cell ≡ s.cell))
unfolding same_cell
same_cell_lem r s = simp (and-eq-true_iff, eqb_equal) Iff.rfl

-- no two stock records of one cell: none has the cell of a record in front of it
pub cells_once : (job : Job) → (any_two same_cell job.stock ≡ false) ↔ Sorted (λ (r s : StockRecord). (r.aisle ≡ s.aisle) × (r.cell ≡ s.cell) → ⊥) job.stock
cells_once job = once same_cell (λ (r s : StockRecord). (r.aisle ≡ s.aisle) × (r.cell ≡ s.cell)) same_cell_lem job.stock

-- the stock that counts is of the stock
pub open_in_stock : (job : Job) (r : StockRecord) → Memᴰ r (open_stock job) → Memᴰ r job.stock
open_in_stock job r m = ((member_select (λ (s : StockRecord). is_open job.hours s.aisle) job.stock).0 m).0

-- and in open aisles
pub open_aisle : (job : Job) (r : StockRecord) → Memᴰ r (open_stock job) → is_open job.hours r.aisle ≡ true
open_aisle job r m = ((member_select (λ (s : StockRecord). is_open job.hours s.aisle) job.stock).0 m).1

-- no two of its records are of one cell
pub open_once : (job : Job) → any_two same_cell job.stock ≡ false
    → Sorted (λ (r s : StockRecord). (r.aisle ≡ s.aisle) × (r.cell ≡ s.cell) → ⊥) (open_stock job)
open_once job h = sorted_select _ (λ (r : StockRecord). is_open job.hours r.aisle) job.stock ((cells_once job).0 h)

-- two records of one cell are the same
pub one_record_per_cell : (job : Job) → any_two same_cell job.stock ≡ false → (r s : StockRecord) → Memᴰ r job.stock → Memᴰ s job.stock → r.aisle ≡ s.aisle → r.cell ≡ s.cell → r ≡ s
one_record_per_cell job h r s l m a c =
    alike_members same_cell job.stock h r s l m ((same_cell_lem r s).1 (a, c)) ((same_cell_lem s r).1 (sym a, sym c))

pub same_article_lem : (k l : OrderLine) → (same_article k l ≡ true) ↔ (k.article ≡ l.article)
unfolding same_article
same_article_lem k l = eqb_equal k.article l.article

-- no two lines of one article: none has the article of a line in front of it
pub articles_once : (job : Job) → (any_two same_article job.lines ≡ false) ↔ Sorted (λ (k l : OrderLine). k.article ≡ l.article → ⊥) job.lines
articles_once job = once same_article (λ (k l : OrderLine). k.article ≡ l.article) same_article_lem job.lines

-- two lines of one article are the same
pub one_line_per_article : (job : Job) → any_two same_article job.lines ≡ false → (k l : OrderLine) → Memᴰ k job.lines → Memᴰ l job.lines → k.article ≡ l.article → k ≡ l
one_line_per_article job h k l i j a =
    alike_members same_article job.lines h k l i j ((same_article_lem k l).1 a) ((same_article_lem l k).1 (sym a))

-- rows that all have another number than 8, and rows that do not apply
abbrev Early : List (Bool × Refusal) → Type 0
Early [] = Unit {0}
Early (row ∷ rows) = (number_of row.1 ≡ 8 → ⊥) × Early rows

abbrev Passed : List (Bool × Refusal) → Type 0
Passed [] = Unit {0}
Passed (row ∷ rows) = (row.0 ≡ false) × Passed rows

-- where the first row that applies has none of these numbers, the rows before it do not apply
passed_rows : (early rest : List (Bool × Refusal)) (o : Option Refusal) → Early early → ((r : Refusal) → (number_of r ≡ 8 → ⊥) → some r ≡ o → ⊥)
    → (first_row (early ++ rest) ≡ o) ↔ (Passed early × (first_row rest ≡ o))
passed_rows [] rest o low late = (λ e. (tt, e), λ p. p.1)
passed_rows ((true, r) ∷ rows) rest o low late = (λ e. absurd (late r low.0 e), λ p. absurd (true≢false p.0.0))
passed_rows ((false, r) ∷ rows) rest o low late =
    let q = passed_rows rows rest o low.1 late in
    (λ e. (let p = q.0 e in ((refl, p.0), p.1)), λ p. q.1 (p.0.1, p.1))

-- no refusal applies, save perhaps that a line exceeds all stock of its article
pub record OtherwiseAdmitted (job : Job) : Type 0 where
  pub layout : layout_in_bounds job.layout ≡ true
  pub stock : stock_in_bounds job ≡ true
  pub cells_once : any_two same_cell job.stock ≡ false
  pub hours : hours_in_bounds job.layout.aisles job.hours ≡ true
  pub list : list_in_bounds job ≡ true
  pub articles_once : any_two same_article job.lines ≡ false
  pub light : weight job.lines ≤ weight_limit

-- what is left is the row of the stock
stock_row : (job : Job) (o : Option Refusal) → ((r : Refusal) → (number_of r ≡ 8 → ⊥) → some r ≡ o → ⊥)
    → (job_refusal job ≡ o) ↔ (OtherwiseAdmitted job × (first_row ((short_of_stock job, ShortOfStock) ∷ []) ≡ o))
unfolding job_refusal job_rows
stock_row job o late =
    let fits : List (Bool × Refusal) = (not (layout_in_bounds job.layout), LayoutBounds) ∷ (not (stock_in_bounds job), StockBounds) ∷ [] in
    let told : List (Bool × Refusal) = (any_two same_cell job.stock, CellTwice) ∷ (not (hours_in_bounds job.layout.aisles job.hours), HoursBounds) ∷ [] in
    let asked : List (Bool × Refusal) = (not (list_in_bounds job), ListBounds) ∷ (any_two same_article job.lines, ArticleTwice) ∷ [] in
    let heavy : List (Bool × Refusal) = (ltb weight_limit (weight job.lines), TooHeavy) ∷ [] in
    let q = passed_rows (fits ++ (told ++ (asked ++ heavy))) ((short_of_stock job, ShortOfStock) ∷ []) o (omega arith) late in (
      λ e. (
          let p = (q.0 e).0 in
          let r = p.1.1.1 in (
            record {
              layout = not-false (layout_in_bounds job.layout) p.0;
              stock = not-false (stock_in_bounds job) p.1.0;
              cells_once = p.1.1.0;
              hours = not-false (hours_in_bounds job.layout.aisles job.hours) r.0;
              list = not-false (list_in_bounds job) r.1.0;
              articles_once = r.1.1.0;
              light = ltb-false weight_limit (weight job.lines) r.1.1.1.0;
            },
            (q.0 e).1,
          )
          ),
      λ p. (
          let a = p.0 in
          let light = le-ltb weight_limit (weight job.lines) a.light in
          q.1 ((ap not a.layout, (ap not a.stock, (a.cells_once, (ap not a.hours, (ap not a.list, (a.articles_once, (light, tt))))))), p.1)
          ),
    )

not_short : (b : Bool) → (first_row ((b, ShortOfStock) ∷ []) ≡ none) ↔ (b ≡ false)
not_short true = (λ e. (let z : ◌≡◌ {A = ℕ} 0 1 = cc in absurd (omega arith)), λ e. absurd (true≢false e))
not_short false = (λ e. refl, λ e. refl)

is_short : (b : Bool) → (first_row ((b, ShortOfStock) ∷ []) ≡ some ShortOfStock) ↔ (b ≡ true)
is_short true = (λ e. refl, λ e. refl)
is_short false = (λ e. (let z : ◌≡◌ {A = ℕ} 0 1 = cc in absurd (omega arith)), λ e. absurd (false≢true e))

-- a job is admitted exactly when no other refusal applies and no line exceeds all stock of its article
pub admitted_apart : (job : Job) → Admitted job ↔ (OtherwiseAdmitted job × (short_of_stock job ≡ false))
admitted_apart job = (
  λ a. (
    record { layout = a.layout; stock = a.stock; cells_once = a.cells_once; hours = a.hours; list = a.list; articles_once = a.articles_once; light = a.light },
    a.in_stock,
  ),
  λ p. (
      let o = p.0 in
      record { layout = o.layout; stock = o.stock; cells_once = o.cells_once; hours = o.hours; list = o.list; articles_once = o.articles_once; light = o.light; in_stock = p.1 }
      ),
)

-- a job that could be read has no refusal exactly when it is admitted
pub admitted : (job : Job) → (job_refusal job ≡ none) ↔ Admitted job
admitted job =
    let q = stock_row job none (λ r h e. let z : ◌≡◌ {A = ℕ} 0 1 = cc in omega arith) in
    let last = not_short (short_of_stock job) in
    let apart = admitted_apart job in
    (λ e. (let p = q.0 e in apart.1 (p.0, last.0 p.1)), λ a. (let p = apart.0 a in q.1 (p.0, last.1 p.1)))

-- a job is refused for its stock exactly when no other refusal applies and some line exceeds all the stock of its article
pub refused_for_stock : (job : Job) → (job_refusal job ≡ some ShortOfStock) ↔ (OtherwiseAdmitted job × ((l : OrderLine) × Memᴰ l job.lines × (all_stock job l.article < l.quantity)))
refused_for_stock job =
    let q = stock_row job (some ShortOfStock) (λ r h e. let same : r ≡ ShortOfStock = cc in omega (arith, ap number_of same)) in
    let last = is_short (short_of_stock job) in
    let line = line_out_of_stock job in
    (λ e. (let p = q.0 e in (p.0, line.0 (last.0 p.1))), λ p. q.1 (p.0, last.1 (line.1 p.1)))

-- the job under another policy is admitted as well
pub admitted_under : (policy : Policy) (job : Job) → Admitted job → Admitted (job_under policy job)
unfolding stock_in_bounds record_in_bounds list_in_bounds short_of_stock all_stock
admitted_under policy job a =
    record {
      layout = a.layout;
      stock = a.stock;
      cells_once = a.cells_once;
      hours = a.hours;
      list = a.list;
      articles_once = a.articles_once;
      light = a.light;
      in_stock = a.in_stock;
    }
