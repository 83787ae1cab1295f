-- Document 01, "Job file", with the lines of the L section of requests #102 and #109 and the sections of request #106: the text of a job, and
-- reading bytes as a job.
use Rattle.std.specs.Prelude.{ℕ, zero, suc, ◌+◌, ◌*◌, ◌-◌, ◌≤◌, ◌/◌, ◌%◌, Bool, true, false, ◌&&◌, not, ltb, leb, eqb, length, drop}
use mathlib.Core.List.{List, [], ◌∷◌, ◌++◌, Memᴰ}
use Rattle.std.proofs.Math.Option.{Option, none, some}
use Rattle.rules.specs.declared.Side.{Side}
use Rattle.rules.specs.declared.Side.TheVariants.{FrontSide, BackSide}
use Rattle.rules.specs.declared.Posts.{Posts}
use Rattle.rules.specs.declared.Posts.TheVariants.{NoPosts, Every, Sided}
use Rattle.rules.specs.declared.Layout.{Layout}
use Rattle.rules.specs.declared.Policy.{Policy}
use Rattle.rules.specs.declared.Policy.TheVariants.{Exact, Return, Traversal, Midpoint, Composite, Largest}
use Rattle.rules.specs.declared.StockRecord.{StockRecord}
use Rattle.rules.specs.declared.Window.{Window}
use Rattle.rules.specs.declared.OrderLine.{OrderLine}
use Rattle.rules.specs.Lists.{concat_of}
use Rattle.rules.specs.Store.{with_posts}
use Rattle.rules.specs.Hours.{Hours, NoHours, At}
use Rattle.rules.specs.Jobs.{Job}

-- one space separates fields
abbrev pub space : ℕ
space = 32

-- a line feed ends each line
abbrev pub line_feed : ℕ
line_feed = 10

-- the decimal digits of n, most significant first; the first argument bounds their number
abbrev pub numeral_by : ℕ → ℕ → List ℕ
numeral_by zero n = (48 + n) ∷ []
numeral_by (suc k) n = elim (ltb n 10) [ true ↦ (48 + n) ∷ [] | false ↦ numeral_by k (n / 10) ++ ((48 + n % 10) ∷ []) ]

-- the decimal digits of n with no leading zero
unfoldable pub numeral : ℕ → List ℕ
numeral n = numeral_by n n

-- the policy words, byte for byte in capitals
abbrev pub policy_word : Policy → List ℕ
policy_word Exact = 69 ∷ 88 ∷ 65 ∷ 67 ∷ 84 ∷ []  -- EXACT
policy_word Return = 82 ∷ 69 ∷ 84 ∷ 85 ∷ 82 ∷ 78 ∷ []  -- RETURN
policy_word Traversal = 84 ∷ 82 ∷ 65 ∷ 86 ∷ 69 ∷ 82 ∷ 83 ∷ 65 ∷ 76 ∷ []  -- TRAVERSAL
policy_word Midpoint = 77 ∷ 73 ∷ 68 ∷ 80 ∷ 79 ∷ 73 ∷ 78 ∷ 84 ∷ []  -- MIDPOINT
policy_word Composite = 67 ∷ 79 ∷ 77 ∷ 80 ∷ 79 ∷ 83 ∷ 73 ∷ 84 ∷ 69 ∷ []  -- COMPOSITE
policy_word Largest = 76 ∷ 65 ∷ 82 ∷ 71 ∷ 69 ∷ 83 ∷ 84 ∷ []  -- LARGEST

-- a number and the separator behind it
unfoldable pub field : ℕ → ℕ → List ℕ
field sep n = numeral n ++ (sep ∷ [])

-- a section's first line: its letter, a space, its count
unfoldable pub header : ℕ → ℕ → List ℕ
header letter n = letter ∷ space ∷ field line_feed n

-- the first line of the L section: m C f p b w d and the policy word
unfoldable pub layout_text : Layout → Policy → List ℕ
layout_text z policy =
    field space z.aisles
    ++ (field space z.cells
    ++ (field space z.front
    ++ (field space z.pitch
    ++ (field space z.back
    ++ (field space z.width
    ++ (field space z.depot
    ++ (policy_word policy ++ (line_feed ∷ []))))))))

-- the words for the depot's side, byte for byte
abbrev pub side_word : Side → List ℕ
side_word FrontSide = 70 ∷ 82 ∷ 79 ∷ 78 ∷ 84 ∷ []  -- FRONT
side_word BackSide = 66 ∷ 65 ∷ 67 ∷ 75 ∷ []  -- BACK

-- its second line, where the posts have one: k u; and its third, where the depot's side has one: FRONT or BACK
abbrev pub posts_text : Posts → List ℕ
posts_text NoPosts = []
posts_text (Every k u) = field space k ++ field line_feed u
posts_text (Sided k u side) = field space k ++ (field line_feed u ++ (side_word side ++ (line_feed ∷ [])))

-- the number of its lines
abbrev pub layout_lines : Posts → ℕ
layout_lines NoPosts = 1
layout_lines (Every k u) = 2
layout_lines (Sided k u side) = 3

-- a line of the S section: aisle cell article quantity
unfoldable pub record_text : StockRecord → List ℕ
record_text r = field space r.aisle ++ (field space r.cell ++ (field space r.article ++ field line_feed r.quantity))

-- a line of the H section: aisle from to
unfoldable pub window_text : Window → List ℕ
window_text w = field space w.aisle ++ (field space w.from ++ field line_feed w.to)

-- a line of the D section: article quantity
unfoldable pub line_text : OrderLine → List ℕ
line_text l = field space l.article ++ field line_feed l.quantity

-- the section letters L, S, M, H, D
abbrev pub letter_l : ℕ
letter_l = 76  -- L

abbrev pub letter_s : ℕ
letter_s = 83  -- S

abbrev pub letter_m : ℕ
letter_m = 77  -- M

abbrev pub letter_h : ℕ
letter_h = 72  -- H

abbrev pub letter_d : ℕ
letter_d = 68  -- D

-- the L section: its letter, its count and its one, two or three lines
unfoldable pub layout_section_text : Layout → Policy → List ℕ
layout_section_text z policy = header letter_l (layout_lines z.posts) ++ (layout_text z policy ++ posts_text z.posts)

-- another section: its letter, its count and its lines
unfoldable pub section_text : {A : Type 0} → ℕ → (A → List ℕ) → List A → List ℕ
section_text letter text xs = header letter (length xs) ++ concat_of text xs

-- the sections M and H, where they stand: the one line of M is the minute
abbrev pub hours_text : Hours → List ℕ
hours_text NoHours = []
hours_text (At t windows) = section_text letter_m (field line_feed) (t ∷ []) ++ section_text letter_h window_text windows

-- the text of a job: the sections L, S, D, and M and H before D
unfoldable pub job_text : Job → List ℕ
job_text job =
    layout_section_text job.layout job.policy
    ++ (section_text letter_s record_text job.stock
    ++ (hours_text job.hours ++ section_text letter_d line_text job.lines))

-- what reading gives: the value and the bytes behind it, or nothing
abbrev pub Reading : Type 0 → Type 0
Reading A = Option (A × List ℕ)

infixl 20 ◌>>=◌
-- reads on behind what was read
abbrev pub ◌>>=◌ : {A B : Type 0} → Reading A → (A × List ℕ → Reading B) → Reading B
◌>>=◌ none next = none
◌>>=◌ (some r) next = next r

-- a byte that is a decimal digit
unfoldable pub is_digit : ℕ → Bool
is_digit c = leb 48 c && leb c 57

-- the digits that the bytes start with
abbrev pub leading_digits : List ℕ → List ℕ
leading_digits [] = []
leading_digits (c ∷ s) = elim (is_digit c) [ true ↦ c ∷ leading_digits s | false ↦ [] ]

-- the value of digits, read from the left on top of v
abbrev pub value_of : ℕ → List ℕ → ℕ
value_of v [] = v
value_of v (c ∷ s) = value_of (v * 10 + (c - 48)) s

-- no digits, or a zero in front of other digits
abbrev pub bad_start : List ℕ → Bool
bad_start [] = true
bad_start (c ∷ []) = false
bad_start (c ∷ d ∷ s) = eqb c 48

-- the digits of a number: 1 to 5, no leading zero except in 0 itself, value at most 65,535
unfoldable pub is_number : List ℕ → Bool
is_number ds = not (bad_start ds) && (leb (length ds) 5 && leb (value_of 0 ds) 65535)

-- the byte that must come next
abbrev pub read_byte : ℕ → List ℕ → Reading ℕ
read_byte b [] = none
read_byte b (c ∷ s) = elim (eqb c b) [ true ↦ some (c, s) | false ↦ none ]

-- a number that starts here and ends at its separator
unfoldable pub read_field : ℕ → List ℕ → Reading ℕ
read_field sep s =
    elim (is_number (leading_digits s)) [
      | true ↦ do
        (c, rest) ← read_byte sep (drop (length (leading_digits s)) s)
        some (value_of 0 (leading_digits s), rest)
      | false ↦ none
    ]

-- a section's first line with its letter
unfoldable pub read_header : ℕ → List ℕ → Reading ℕ
read_header letter s = do
  (c, s) ← read_byte letter s
  (c, s) ← read_byte space s
  read_field line_feed s

-- the word, byte for byte
abbrev pub read_word : List ℕ → List ℕ → Reading (List ℕ)
read_word [] s = some ([], s)
read_word (c ∷ w) s = do
  (b, s) ← read_byte c s
  (word, s) ← read_word w s
  some (b ∷ word, s)

-- the policy, if its word and a line feed stand here
unfoldable pub read_policy_as : Policy → List ℕ → Reading Policy
read_policy_as policy s = do
  (word, s) ← read_word (policy_word policy ++ (line_feed ∷ [])) s
  some (policy, s)

-- the first reading, or else the second
abbrev pub or_else : {A : Type 0} → Option A → Option A → Option A
or_else none b = b
or_else (some a) b = some a

-- one of the six policy words and a line feed
unfoldable pub read_policy : List ℕ → Reading Policy
read_policy s =
    or_else (read_policy_as Exact s)
    (or_else (read_policy_as Return s)
    (or_else (read_policy_as Traversal s)
    (or_else (read_policy_as Midpoint s)
    (or_else (read_policy_as Composite s)
    (read_policy_as Largest s)))))

-- the side, if its word and a line feed stand here
unfoldable pub read_side_as : Side → List ℕ → Reading Side
read_side_as side s = do
  (word, s) ← read_word (side_word side ++ (line_feed ∷ [])) s
  some (side, s)

-- FRONT or BACK and a line feed
unfoldable pub read_side : List ℕ → Reading Side
read_side s = or_else (read_side_as FrontSide s) (read_side_as BackSide s)

-- the first line of the L section, which says no posts
unfoldable pub read_layout : List ℕ → Reading (Layout × Policy)
read_layout s = do
  (m, s) ← read_field space s
  (c, s) ← read_field space s
  (f, s) ← read_field space s
  (p, s) ← read_field space s
  (b, s) ← read_field space s
  (w, s) ← read_field space s
  (d, s) ← read_field space s
  (word, s) ← read_policy s
  some ((record { aisles = m; cells = c; front = f; pitch = p; back = b; width = w; depot = d; posts = NoPosts }, word), s)

-- its second line
unfoldable pub read_posts_line : List ℕ → Reading Posts
read_posts_line s = do
  (k, s) ← read_field space s
  (u, s) ← read_field line_feed s
  some (Every k u, s)

-- its second line and its third
unfoldable pub read_sided_lines : List ℕ → Reading Posts
read_sided_lines s = do
  (k, s) ← read_field space s
  (u, s) ← read_field line_feed s
  (side, s) ← read_side s
  some (Sided k u side, s)

-- what is behind the first line: nothing where the count is 1, the second line where it is 2, the second and the third where it is 3; other
-- counts are no job file
unfoldable pub read_posts : ℕ → List ℕ → Reading Posts
read_posts n s =
    elim (eqb n 1) [
      | true ↦ some (NoPosts, s)
      | false ↦ elim (eqb n 2) [ true ↦ read_posts_line s | false ↦ elim (eqb n 3) [ true ↦ read_sided_lines s | false ↦ none ] ]
    ]

-- a line of the S section
unfoldable pub read_record : List ℕ → Reading StockRecord
read_record s = do
  (j, s) ← read_field space s
  (c, s) ← read_field space s
  (a, s) ← read_field space s
  (q, s) ← read_field line_feed s
  some (record { aisle = j; cell = c; article = a; quantity = q }, s)

-- a line of the H section
unfoldable pub read_window : List ℕ → Reading Window
read_window s = do
  (j, s) ← read_field space s
  (a, s) ← read_field space s
  (b, s) ← read_field line_feed s
  some (record { aisle = j; from = a; to = b }, s)

-- a line of the D section
unfoldable pub read_line : List ℕ → Reading OrderLine
read_line s = do
  (a, s) ← read_field space s
  (q, s) ← read_field line_feed s
  some (record { article = a; quantity = q }, s)

-- n lines, each read by the same reader
abbrev pub read_lines : {A : Type 0} → (List ℕ → Reading A) → ℕ → List ℕ → Reading (List A)
read_lines read zero s = some ([], s)
read_lines read (suc n) s = do
  (x, s) ← read s
  (xs, s) ← read_lines read n s
  some (x ∷ xs, s)

-- a section: its letter, its count and that many lines
unfoldable pub read_section : {A : Type 0} → ℕ → (List ℕ → Reading A) → List ℕ → Reading (List A)
read_section letter read s = do
  (n, s) ← read_header letter s
  read_lines read n s

-- the L section, whose count is 1, 2 or 3
unfoldable pub read_layout_section : List ℕ → Reading (Layout × Policy)
read_layout_section s = do
  (n, s) ← read_header letter_l s
  (z, s) ← read_layout s
  (posts, s) ← read_posts n s
  some ((with_posts posts z.0, z.1), s)

-- the M section, whose count is 1; other counts are no job file
unfoldable pub read_minute : List ℕ → Reading ℕ
read_minute s = do
  (n, s) ← read_header letter_m s
  elim (eqb n 1) [ true ↦ read_field line_feed s | false ↦ none ]

-- the sections M and H
unfoldable pub read_clock : List ℕ → Reading Hours
read_clock s = do
  (t, s) ← read_minute s
  (windows, s) ← read_section letter_h read_window s
  some (At t windows, s)

-- both of them where an M stands here; else neither
abbrev pub read_hours : List ℕ → Reading Hours
read_hours [] = some (NoHours, [])
read_hours (c ∷ s) = elim (eqb c letter_m) [ true ↦ read_clock (c ∷ s) | false ↦ some (NoHours, c ∷ s) ]

-- the sections L, S and D, and M and H before D
unfoldable pub read_sections : List ℕ → Reading Job
read_sections s = do
  (z, s) ← read_layout_section s
  (records, s) ← read_section letter_s read_record s
  (hours, s) ← read_hours s
  (lines, s) ← read_section letter_d read_line s
  some (record { layout = z.0; policy = z.1; stock = records; hours = hours; lines = lines }, s)

-- nothing follows the last line
abbrev pub at_end : {A : Type 0} → Reading A → Option A
at_end none = none
at_end (some (a, [])) = some a
at_end (some (a, c ∷ s)) = none

-- the most bytes that a job file may have
abbrev pub job_file_limit : ℕ
job_file_limit = 16384

-- the bytes read as a job, or nothing where they are not a job file
unfoldable pub read_job : List ℕ → Option Job
read_job s = elim (leb (length s) job_file_limit) [ true ↦ at_end (read_sections s) | false ↦ none ]

-- a layout whose seven numbers can be written in a job file
pub record WritableLayout (z : Layout) : Type 0 where
  pub aisles : z.aisles ≤ 65535
  pub cells : z.cells ≤ 65535
  pub front : z.front ≤ 65535
  pub pitch : z.pitch ≤ 65535
  pub back : z.back ≤ 65535
  pub width : z.width ≤ 65535
  pub depot : z.depot ≤ 65535

-- posts whose numbers can
abbrev pub WritablePosts : Posts → Type 0
WritablePosts NoPosts = Unit {0}
WritablePosts (Every k u) = (k ≤ 65535) × (u ≤ 65535)
WritablePosts (Sided k u side) = (k ≤ 65535) × (u ≤ 65535)

-- a stock record whose numbers can be written in a job file
pub record WritableRecord (r : StockRecord) : Type 0 where
  pub aisle : r.aisle ≤ 65535
  pub cell : r.cell ≤ 65535
  pub article : r.article ≤ 65535
  pub quantity : r.quantity ≤ 65535

-- a window whose numbers can be written in a job file
pub record WritableWindow (w : Window) : Type 0 where
  pub aisle : w.aisle ≤ 65535
  pub from : w.from ≤ 65535
  pub to : w.to ≤ 65535

-- an order line whose numbers can be written in a job file
pub record WritableLine (l : OrderLine) : Type 0 where
  pub article : l.article ≤ 65535
  pub quantity : l.quantity ≤ 65535

-- a list that can be written as a section: its length and each of its lines can be written
pub record WritableSection {A : Type 0} (Line : A → Type 0) (xs : List A) : Type 0 where
  pub count : length xs ≤ 65535
  pub each : (x : A) → Memᴰ x xs → Line x

-- hours whose numbers can
abbrev pub WritableHours : Hours → Type 0
WritableHours NoHours = Unit {0}
WritableHours (At t windows) = (t ≤ 65535) × WritableSection WritableWindow windows

-- a job whose numbers can be written in a job file: each is at most 65,535
pub record Writable (job : Job) : Type 0 where
  pub layout : WritableLayout job.layout
  pub posts : WritablePosts job.layout.posts
  pub stock : WritableSection WritableRecord job.stock
  pub hours : WritableHours job.hours
  pub lines : WritableSection WritableLine job.lines
