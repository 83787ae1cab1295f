-- The text of an admitted job is a job file: its numbers can be written, it is short enough, and it is read as the job.
use Prim.Native.Nat.{ℕ, ◌+◌, ◌*◌, ◌≤◌}
use mathlib.Core.Path.{◌≡◌, sym, subst}
use mathlib.Core.List.Memᴰ
use mathlib.Core.List.{List, [], ◌∷◌}
use mathlib.Core.Option.{some}
use native.Mathlib.Omega.{arith}
use lib.ListN.{length, length-append}
use Rattle.rules.specs.declared.Side.{Side}
use Rattle.rules.specs.declared.Side.TheVariants.{FrontSide, BackSide}
use Rattle.rules.specs.declared.Posts.{Posts}
use Rattle.rules.specs.declared.Posts.TheVariants.{NoPosts, Every, Sided}
use Rattle.rules.specs.declared.Layout.{Layout}
use Rattle.rules.specs.declared.Policy.{Policy}
use Rattle.rules.specs.declared.Policy.TheVariants.{Exact, Return, Traversal, Midpoint, Composite, Largest}
use Rattle.rules.specs.declared.StockRecord.{StockRecord}
use Rattle.rules.specs.declared.Window.{Window}
use Rattle.rules.specs.declared.OrderLine.{OrderLine}
use Rattle.rules.specs.Store.{PostsWithin, LayoutWithin}
use Rattle.rules.specs.Hours.{Hours, NoHours, At, HoursWithin}
use Rattle.rules.specs.Jobs.{Job}
use Rattle.rules.specs.JobFile.{space, line_feed, field, header, policy_word, layout_text, side_word, posts_text, layout_lines, record_text, window_text, line_text}
use Rattle.rules.specs.JobFile.{letter_l, letter_s, letter_m, letter_h, letter_d, layout_section_text, section_text, hours_text, job_text, read_job}
use Rattle.rules.specs.JobFile.{WritableLayout, WritablePosts, WritableRecord, WritableWindow, WritableLine, WritableSection, WritableHours, Writable}
use Rattle.rules.specs.Refusals.{Admitted}
use Rattle.rules.proofs.Lists.{sum_below, concat_length}
use Rattle.rules.proofs.Numbers.{numeral_length}
use Rattle.rules.proofs.Reading.{read_text}
use Rattle.rules.proofs.Admission.{layout_within, stock_within, hours_within, list_within}

-- a number and its separator take at most six bytes
field_most : (sep n : ℕ) → n ≤ 65535 → length (field sep n) ≤ 6
unfolding field
field_most sep n h = simp length-append (omega (arith, numeral_length n (omega arith)))

-- a section's first line at most eight
header_most : (letter n : ℕ) → n ≤ 65535 → length (header letter n) ≤ 8
unfolding header
header_most letter n h = omega (arith, field_most line_feed n h)

-- a section whose lines take at most b
section_most : {A : Type 0} {Line : A → Type 0} (letter : ℕ) (text : A → List ℕ) (xs : List A) (b : ℕ)
    → ((x : A) → Line x → length (text x) ≤ b) → WritableSection Line xs → length (section_text letter text xs) ≤ 8 + length xs * b
unfolding section_text
section_most letter text xs b h w =
    let first = header_most letter (length xs) w.count in
    let others = sum_below (λ x. length (text x)) b xs (λ x m. h x (w.each x m)) in
    simp length-append (omega (arith, first, concat_length text xs, others))

-- the lines of the sections S, H and D
record_most : (r : StockRecord) → WritableRecord r → length (record_text r) ≤ 24
unfolding record_text
record_most r w =
    let f = field_most space in
    simp length-append (omega (arith, f r.aisle w.aisle, f r.cell w.cell, f r.article w.article, field_most line_feed r.quantity w.quantity))

window_most : (v : Window) → WritableWindow v → length (window_text v) ≤ 18
unfolding window_text
window_most v w =
    simp length-append (omega (arith, field_most space v.aisle w.aisle, field_most space v.from w.from, field_most line_feed v.to w.to))

line_most : (l : OrderLine) → WritableLine l → length (line_text l) ≤ 12
unfolding line_text
line_most l w = simp length-append (omega (arith, field_most space l.article w.article, field_most line_feed l.quantity w.quantity))

-- the words for the policies and for the sides
word_most : (policy : Policy) → length (policy_word policy) ≤ 9
word_most Exact = omega arith
word_most Return = omega arith
word_most Traversal = omega arith
word_most Midpoint = omega arith
word_most Composite = omega arith
word_most Largest = omega arith

side_most : (side : Side) → length (side_word side) ≤ 5
side_most FrontSide = omega arith
side_most BackSide = omega arith

-- the first line of the L section
layout_most : (z : Layout) (policy : Policy) → WritableLayout z → length (layout_text z policy) ≤ 52
unfolding layout_text
layout_most z policy w =
    let f = field_most space in
    simp length-append (omega (
      arith,
      f z.aisles w.aisles,
      f z.cells w.cells,
      f z.front w.front,
      f z.pitch w.pitch,
      f z.back w.back,
      f z.width w.width,
      f z.depot w.depot,
      word_most policy,
    ))

-- its second and third
posts_most : (posts : Posts) → WritablePosts posts → length (posts_text posts) ≤ 18
posts_most NoPosts w = omega arith
posts_most (Every k u) w = simp length-append (omega (arith, field_most space k w.0, field_most line_feed u w.1))
posts_most (Sided k u side) w = simp length-append (omega (arith, field_most space k w.0, field_most line_feed u w.1, side_most side))

layout_lines_lem : (posts : Posts) → layout_lines posts ≤ 3
layout_lines_lem NoPosts = omega arith
layout_lines_lem (Every k u) = omega arith
layout_lines_lem (Sided k u side) = omega arith

-- the number of windows
abbrev count_of_windows : Hours → ℕ
count_of_windows NoHours = 0
count_of_windows (At t windows) = length windows

-- the sections M and H
hours_most : (hours : Hours) → WritableHours hours → length (hours_text hours) ≤ 22 + count_of_windows hours * 18
hours_most NoHours w = omega arith
hours_most (At t windows) w =
    let minute = section_most letter_m (field line_feed) (t ∷ []) 6 (λ n h. field_most line_feed n h) one_line in
    simp length-append (omega (arith, minute, section_most letter_h window_text windows 18 window_most w.1))
  where
    one_line : WritableSection (λ (n : ℕ). n ≤ 65535) (t ∷ [])
    one_line = record { count = omega arith; each = λ n m. subst (λ (k : ℕ). k ≤ 65535) (sym (Memᴰ.eq_of_singleton m)) w.0 }

-- the text of a job by the number of its records, windows and lines
text_most : (job : Job) → Writable job → length (job_text job) ≤ 116 + length job.stock * 24 + count_of_windows job.hours * 18 + length job.lines * 12
unfolding job_text layout_section_text
text_most job w =
    let z = job.layout in
    simp length-append (omega (
      arith,
      header_most letter_l (layout_lines z.posts) (omega (arith, layout_lines_lem z.posts)),
      layout_most z job.policy w.layout,
      posts_most z.posts w.posts,
      section_most letter_s record_text job.stock 24 record_most w.stock,
      hours_most job.hours w.hours,
      section_most letter_d line_text job.lines 12 line_most w.lines,
    ))

-- numbers within the bounds can be written
writable_layout : (z : Layout) → LayoutWithin z → WritableLayout z
writable_layout z w =
    record {
      aisles = omega (arith, w.aisles.1);
      cells = omega (arith, w.cells.1);
      front = omega (arith, w.front.1);
      pitch = omega (arith, w.pitch.1);
      back = omega (arith, w.back.1);
      width = omega (arith, w.width.1);
      depot = omega (arith, w.aisles.1, w.depot.1);
    }

writable_posts : (p : Posts) → PostsWithin p → WritablePosts p
writable_posts NoPosts w = tt
writable_posts (Every k u) w = (omega (arith, w.1), omega (arith, w.2))
writable_posts (Sided k u side) w = (omega (arith, w.1), omega (arith, w.2))

writable_hours : (m : ℕ) (hours : Hours) → m ≤ 16 → HoursWithin m hours → WritableHours hours
writable_hours m NoHours few w = tt
writable_hours m (At t windows) few w = (
  omega (arith, w.0),
  record {
    count = omega (arith, w.1);
    each = λ v i.
        let b = w.2 v i in
        record { aisle = omega (arith, b.aisle.1); from = omega (arith, b.some, b.last); to = omega (arith, b.last) };
  },
)

-- so those of an admitted job can
admitted_writable : (job : Job) → Admitted job → Writable job
admitted_writable job a =
    let z = (layout_within job.layout).0 a.layout in
    let stock = (stock_within job).0 a.stock in
    let list = (list_within job).0 a.list in
    record {
      layout = writable_layout job.layout z;
      posts = writable_posts job.layout.posts z.posts;
      stock = record {
        count = omega (arith, stock.count);
        each = λ r m.
            let w = stock.records r m in
            record {
              aisle = omega (arith, w.aisle.1, z.aisles.1);
              cell = omega (arith, w.cell.1, z.cells.1);
              article = w.article.1;
              quantity = omega (arith, w.quantity.1);
            };
      };
      hours = writable_hours job.layout.aisles job.hours z.aisles.1 ((hours_within job.layout.aisles job.hours).0 a.hours);
      lines = record {
        count = omega (arith, list.count);
        each = λ l m. (let w = list.lines l m in record { article = w.article.1; quantity = omega (arith, w.quantity.1) });
      };
    }

few_windows : (m : ℕ) (hours : Hours) → HoursWithin m hours → count_of_windows hours ≤ 64
few_windows m NoHours w = omega arith
few_windows m (At t windows) w = w.1

-- its text has at most 10,580 bytes
pub text_short : (job : Job) → Admitted job → length (job_text job) ≤ 10580
text_short job a =
    let windows = few_windows job.layout.aisles job.hours ((hours_within job.layout.aisles job.hours).0 a.hours) in
    omega (arith, text_most job (admitted_writable job a), ((stock_within job).0 a.stock).count, windows, ((list_within job).0 a.list).count)

-- and is read as the job
pub admitted_file : (job : Job) → Admitted job → read_job (job_text job) ≡ some job
admitted_file job a = read_text job (admitted_writable job a) (omega (arith, text_short job a))
