-- Job files: text and reading are inverse.
use Prim.Native.Nat.{ℕ, zero, suc, ◌≤◌}
use mathlib.Core.Path.{◌≡◌, refl, sym, ◌∙◌, ap, subst, subst₂}
use mathlib.Core.List.Memᴰ
use mathlib.Core.List.{List, [], ◌∷◌, ◌++◌, append_assoc, append-nil, Memᴰ}
use mathlib.Core.Bool.{Bool, true, false}
use mathlib.Core.Option.{Option, none, some}
use mathlib.Core.Logic.{◌↔◌, ◌⊎◌, inl, inr}
use native.Mathlib.Omega.{arith}
use lib.Dec.{leb, eqb}
use lib.ListN.{length, drop}
use lib.Seq.{drop-append_seam}
use borrow.Author.Tests.{leb-true, le-leb, eqb-true, eq-eqb}
use Rattle.rules.specs.declared.Posts.{Posts}
use Rattle.rules.specs.declared.Side.{Side}
use Rattle.rules.specs.declared.Side.TheVariants.{FrontSide, BackSide}
use Rattle.rules.specs.declared.Posts.TheVariants.{NoPosts, Every, Sided}
use Rattle.rules.specs.declared.Layout.{Layout}
use Rattle.rules.specs.declared.Policy.{Policy}
use Rattle.rules.specs.declared.Policy.TheVariants.{Exact, Return, Traversal, Midpoint, Composite, Largest}
use Rattle.rules.specs.declared.StockRecord.{StockRecord}
use Rattle.rules.specs.declared.Window.{Window}
use Rattle.rules.specs.declared.OrderLine.{OrderLine}
use Rattle.rules.specs.Lists.{concat_of}
use Rattle.rules.specs.Store.{side_in, with_posts}
use Rattle.rules.specs.Hours.{Hours, NoHours, At}
use Rattle.rules.specs.Jobs.{Job}
use Rattle.rules.specs.JobFile.{Reading, ◌>>=◌, space, line_feed, numeral, field, header, is_digit, leading_digits, value_of, is_number, read_byte, read_field, read_header, read_word, policy_word, read_policy_as, or_else, read_policy, side_word, read_side_as, read_side, layout_text, read_layout, posts_text, layout_lines, layout_section_text, read_posts_line, read_sided_lines, read_posts, record_text, read_record, window_text, read_window, line_text, read_line, read_lines, section_text, read_section, letter_l, letter_s, letter_m, letter_h, letter_d, read_layout_section, read_minute, read_clock, hours_text, read_hours, job_text, read_sections, at_end, job_file_limit, read_job, WritablePosts, WritableLayout, WritableRecord, WritableWindow, WritableLine, WritableSection, WritableHours, Writable}
use Rattle.rules.proofs.Numbers.{numeral_digits, value_of_numeral, is_number_numeral, numeral_is_number, leading_digits_append, leading_digits_digits, leading_digits_drop}

-- a reader and a text are inverse: the text of each valid value is read as it, and whatever is read is such a text
pub record Inverse {A : Type 0} (read : List ℕ → Reading A) (text : A → List ℕ) (Valid : A → Type 0) : Type 0 where
  pub reads : (x : A) (rest : List ℕ) → Valid x → read (text x ++ rest) ≡ some (x, rest)
  pub written : (s : List ℕ) (x : A) (rest : List ℕ) → read s ≡ some (x, rest) → (s ≡ text x ++ rest) × Valid x

-- the same with the valid values said in another way
valid_as : {A : Type 0} {read : List ℕ → Reading A} {t : A → List ℕ} {P Q : A → Type 0} → ((x : A) → P x ↔ Q x) → Inverse read t P → Inverse read t Q
valid_as same i = record { reads = λ x rest q. i.reads x rest ((same x).1 q); written = λ s x rest e. let w = i.written s x rest e in (w.0, (same x).0 w.1) }

-- the same with another text that valid values have alike
text_as : {A : Type 0} {read : List ℕ → Reading A} {t u : A → List ℕ} {P : A → Type 0} → ((x : A) → P x → t x ≡ u x) → Inverse read t P → Inverse read u P
text_as {read = read} {t} {u} {P} same i = record {
  reads = λ x rest v. subst (λ (w : List ℕ). read (w ++ rest) ≡ some (x, rest)) (same x v) (i.reads x rest v);
  written = λ s x rest e. let w = i.written s x rest e in (subst (λ (z : List ℕ). s ≡ z ++ rest) (same x w.1) w.0, w.1);
}

-- anything follows from nothing having been read as something
nothing_read : {A : Type 0} {C : Type 0} {x : A} → none ≡ some x → C
nothing_read e = let z : ◌≡◌ {A = ℕ} 0 1 = cc in absurd (omega arith)

-- equal readings have equal values and equal bytes behind them
same_reading : {A : Type 0} {x y : A} {s rest : List ℕ} → ◌≡◌ {A = Reading A} (some (x, s)) (some (y, rest)) → (x ≡ y) × (s ≡ rest)
same_reading {A} {x} {y} {s} {rest} e =
    let p : ◌≡◌ {A = A × List ℕ} (x, s) (y, rest) = cc in
    (ap (λ (q : A × List ℕ). q.0) p, ap (λ (q : A × List ℕ). q.1) p)

-- reading on gives something only if there was something to read on from
read_some : {A B : Type 0} (r : Reading A) (next : A × List ℕ → Reading B) {z : B × List ℕ} → r >>= next ≡ some z → (p : A × List ℕ) × (r ≡ some p) × (next p ≡ some z)
read_some none next e = nothing_read e
read_some (some p) next e = (p, refl, e)

module _ {A B : Type 0} (read : List ℕ → Reading A) (t : A → List ℕ) (P : A → Type 0) where
  -- one reader behind another, where what is read first is a part of what is read in all, and is read in front of the other's text
  bind_before : {next : A → List ℕ → Reading B} {u : B → List ℕ} {Q : A → B → Type 0} (part : B → A)
      → ((y : B) (rest : List ℕ) → P (part y) → read (t (part y) ++ (u y ++ rest)) ≡ some (part y, u y ++ rest))
      → ((s : List ℕ) (a : A) (rest : List ℕ) → read s ≡ some (a, rest) → (s ≡ t a ++ rest) × P a)
      → ((a : A) → Inverse (next a) u (Q a)) → ((a : A) (y : B) → P a → Q a y → part y ≡ a)
      → Inverse (λ (s : List ℕ). read s >>= λ r. next r.0 r.1) (λ (y : B). t (part y) ++ u y) (λ (y : B). P (part y) × Q (part y) y)
  bind_before {next} {u} {Q} part reads written j told = record {
    reads = λ y rest v. rw (append_assoc, reads y rest v.0) ((j (part y)).reads y rest v.1);
    written = λ s y rest e. let w = read_some (read s) (λ r. next r.0 r.1) e in go s y rest w.0.0 w.0.1 w.1 w.2;
  }
    where
      go : (s : List ℕ) (y : B) (rest : List ℕ) (a : A) (behind : List ℕ) → read s ≡ some (a, behind) → next a behind ≡ some (y, rest) → (s ≡ t (part y) ++ u y ++ rest) × (P (part y) × Q (part y) y)
      go s y rest a behind p q =
          let f = written s a behind p in
          let g = (j a).written behind y rest q in
          let same = told a y f.1 g.1 in
          (rw (append_assoc, same) (f.0 ∙ ap (λ (z : List ℕ). t a ++ z) g.0), rw same (f.1, g.1))

module _ {A B : Type 0} {read : List ℕ → Reading A} {t : A → List ℕ} {P : A → Type 0} where
  -- the same where what is read first is read in front of any bytes
  bind : {next : A → List ℕ → Reading B} {u : B → List ℕ} {Q : A → B → Type 0} (part : B → A)
      → Inverse read t P → ((a : A) → Inverse (next a) u (Q a)) → ((a : A) (y : B) → P a → Q a y → part y ≡ a)
      → Inverse (λ (s : List ℕ). read s >>= λ r. next r.0 r.1) (λ (y : B). t (part y) ++ u y) (λ (y : B). P (part y) × Q (part y) y)
  bind {next} {u} {Q} part i j told = bind_before read t P part (λ y rest p. i.reads (part y) (u y ++ rest) p) i.written j told

  -- the same where the value in all is made of the part and of what is read behind it
  bind_part : {next : A → List ℕ → Reading B} {u : B → List ℕ} {Q : B → Type 0} {whole : A → B → B} (part : B → A)
      → ((a : A) (y : B) → part (whole a y) ≡ a) → Inverse read t P → ((a : A) → Inverse (next a) u (λ (y : B). (y ≡ whole a y) × Q y))
      → Inverse (λ (s : List ℕ). read s >>= λ r. next r.0 r.1) (λ (y : B). t (part y) ++ u y) (λ (y : B). (y ≡ whole (part y) y) × (P (part y) × Q y))
  bind_part part told i j =
      valid_as (λ y. (λ v. (v.1.0, (v.0, v.1.1)), λ v. (v.1.0, (v.0, v.1.1)))) (bind part i j (λ a y p q. ap part q.0 ∙ told a y))

  -- the last part, which makes the value
  made : (whole : A → B) (part : B → A) → ((a : A) → P a → part (whole a) ≡ a) → Inverse read t P
      → Inverse (λ (s : List ℕ). read s >>= λ r. some (whole r.0, r.1)) (λ (y : B). t (part y)) (λ (y : B). (y ≡ whole (part y)) × P (part y))
  made whole part told i = record {
    reads = λ y rest v. let e = v.0 in rw (i.reads (part y) rest v.1) (cc);
    written = λ s y rest e. let w = read_some (read s) (λ r. some (whole r.0, r.1)) e in go s y rest w.0.0 w.0.1 w.1 w.2;
  }
    where
      go : (s : List ℕ) (y : B) (rest : List ℕ) (a : A) (behind : List ℕ) → read s ≡ some (a, behind) → ◌≡◌ {A = Reading B} (some (whole a, behind)) (some (y, rest)) → (s ≡ t (part y) ++ rest) × ((y ≡ whole (part y)) × P (part y))
      go s y rest a behind p q =
          let f = i.written s a behind p in
          let g = same_reading q in
          let same : part y ≡ a = ap part (sym g.0) ∙ told a f.1 in
          rw same (f.0 ∙ ap (λ (z : List ℕ). t a ++ z) g.1, (sym g.0, f.1))

-- the byte that must come next
pub byte_inverse : (b : ℕ) → Inverse (read_byte b) (λ (c : ℕ). c ∷ []) (λ (c : ℕ). c ≡ b)
byte_inverse b = record { reads = λ c rest e. rw (read_byte, eq-eqb c b e); written = written }
  where
    written : (s : List ℕ) (c : ℕ) (rest : List ℕ) → read_byte b s ≡ some (c, rest) → (s ≡ c ∷ rest) × (c ≡ b)
    written [] c rest e = nothing_read e
    written (d ∷ s) c rest e = go (eqb d b) refl e
      where
        go : (t : Bool) → eqb d b ≡ t → ◌≡◌ {A = Reading ℕ} (elim t [ true ↦ some (d, s) | false ↦ none ]) (some (c, rest)) → (d ∷ s ≡ c ∷ rest) × (c ≡ b)
        go true h e = let same = same_reading e in (cc (same.0, same.1), sym same.0 ∙ eqb-true d b h)
        go false h e = nothing_read e

-- reading a number, once its digits are known and tested
abbrev read_as : ℕ → List ℕ → List ℕ → Bool → Reading ℕ
read_as sep ds s b = elim b [ true ↦ read_byte sep (drop (length ds) s) >>= (λ r. some (value_of 0 ds, r.1)) | false ↦ none ]

-- a number and the separator behind it
pub field_inverse : (sep : ℕ) → is_digit sep ≡ false → Inverse (read_field sep) (field sep) (λ (n : ℕ). n ≤ 65535)
unfolding read_field field
field_inverse sep h = record { reads = reads; written = written }
  where
    reads : (n : ℕ) (rest : List ℕ) → n ≤ 65535 → read_field sep (field sep n ++ rest) ≡ some (n, rest)
    reads n rest l =
        let s = numeral n ++ sep ∷ rest in
        let digits = leading_digits_append (numeral n) sep rest (numeral_digits n) h in
        rw append_assoc (ap (λ (ds : List ℕ). read_as sep ds s (is_number ds)) digits ∙ rw (is_number_numeral n l, drop-append_seam (numeral n) (sep ∷ rest), read_byte, eq-eqb sep sep refl, value_of_numeral n))

    written : (s : List ℕ) (n : ℕ) (rest : List ℕ) → read_field sep s ≡ some (n, rest) → (s ≡ field sep n ++ rest) × (n ≤ 65535)
    written s n rest e = go (is_number (leading_digits s)) refl e
      where
        go : (b : Bool) → is_number (leading_digits s) ≡ b → read_as sep (leading_digits s) s b ≡ some (n, rest) → (s ≡ numeral n ++ (sep ∷ []) ++ rest) × (n ≤ 65535)
        go true h e =
            let ds = leading_digits s in
            let w = read_some (read_byte sep (drop (length ds) s)) (λ r. some (value_of 0 ds, r.1)) e in
            let ended = (byte_inverse sep).written (drop (length ds) s) w.0.0 w.0.1 w.1 in
            let same = same_reading w.2 in
            let number = numeral_is_number ds (leading_digits_digits s) h in
            (cc (leading_digits_drop s, append_assoc (numeral n) (sep ∷ []) rest), rw same.0 at number.1)
        go false h e = nothing_read e

-- a number and a space
pub space_field : Inverse (read_field space) (field space) (λ (n : ℕ). n ≤ 65535)
unfolding is_digit
space_field = field_inverse space refl

-- a number and a line feed
pub line_field : Inverse (read_field line_feed) (field line_feed) (λ (n : ℕ). n ≤ 65535)
unfolding is_digit
line_field = field_inverse line_feed refl

-- a section's first line
pub header_inverse : (letter : ℕ) → Inverse (read_header letter) (header letter) (λ (n : ℕ). n ≤ 65535)
unfolding read_header header
header_inverse letter =
    valid_as
    (λ n. (λ v. v.1.1, λ v. (refl, (refl, v))))
    (bind (λ n. letter) (byte_inverse letter) (λ c. bind (λ n. space) (byte_inverse space) (λ d. line_field) (λ d n p q. sym p)) (λ c n p q. sym p))

-- a word, byte for byte
word_inverse : (w : List ℕ) → Inverse (read_word w) (λ (x : List ℕ). w) (λ (x : List ℕ). x ≡ w)
word_inverse [] = record { reads = λ x rest e. cc; written = λ s x rest e. ((same_reading e).1, sym (same_reading e).0) }
word_inverse (c ∷ w) =
    valid_as
    (λ x. (λ v. v.1.0, λ v. (refl, (v, refl))))
    (bind (λ x. c) (byte_inverse c) (λ b. made (λ word. b ∷ word) (λ x. w) (λ word e. sym e) (word_inverse w)) (λ b x p q. sym p))

-- the word of a policy and the line feed behind it
unfoldable pub policy_text : Policy → List ℕ
policy_text policy = policy_word policy ++ (line_feed ∷ [])

-- fixed bytes that stand for a given value
stands_inverse : {A : Type 0} (a : A) (text : List ℕ) → Inverse (λ (s : List ℕ). read_word text s >>= λ r. some (a, r.1)) (λ (x : A). text) (λ (x : A). x ≡ a)
stands_inverse a text = valid_as (λ x. (λ v. v.0, λ v. (v, refl))) (made (λ word. a) (λ x. text) (λ word e. sym e) (word_inverse text))

-- the word of a given policy and the line feed behind it
policy_as_inverse : (policy : Policy) → Inverse (read_policy_as policy) (λ (p : Policy). policy_text policy) (λ (p : Policy). p ≡ policy)
unfolding read_policy_as policy_text
policy_as_inverse policy = stands_inverse policy (policy_text policy)

-- one of two readings gave what either of them gives
or_else_lem : {A C : Type 0} {a b : Option A} {x : A} → (a ≡ some x → C) → (b ≡ some x → C) → or_else a b ≡ some x → C
or_else_lem {a = none} f g e = g e
or_else_lem {a = some y} f g e = f e

-- the word of any policy and the line feed behind it
pub policy_inverse : Inverse read_policy policy_text (λ (p : Policy). Unit {0})
unfolding read_policy read_policy_as policy_text
policy_inverse = record { reads = reads; written = written }
  where
    reads : (p : Policy) (rest : List ℕ) → Unit {0} → read_policy (policy_text p ++ rest) ≡ some (p, rest)
    reads Exact rest v = refl
    reads Return rest v = refl
    reads Traversal rest v = refl
    reads Midpoint rest v = refl
    reads Composite rest v = refl
    reads Largest rest v = refl

    written : (s : List ℕ) (p : Policy) (rest : List ℕ) → read_policy s ≡ some (p, rest) → (s ≡ policy_text p ++ rest) × Unit {0}
    written s p rest = or_else_lem (one Exact) (or_else_lem (one Return) (or_else_lem (one Traversal) (or_else_lem (one Midpoint) (or_else_lem (one Composite) (one Largest)))))
      where
        one : (q : Policy) → read_policy_as q s ≡ some (p, rest) → (s ≡ policy_text p ++ rest) × Unit {0}
        one q e = let w = (policy_as_inverse q).written s p rest e in (rw w.1 w.0, tt)

-- the word of a side and the line feed behind it
unfoldable side_text : Side → List ℕ
side_text side = side_word side ++ (line_feed ∷ [])

-- the word of a given side and the line feed behind it
side_as_inverse : (side : Side) → Inverse (read_side_as side) (λ (x : Side). side_text side) (λ (x : Side). x ≡ side)
unfolding read_side_as side_text
side_as_inverse side = stands_inverse side (side_text side)

-- the word of either side and the line feed behind it
side_inverse : Inverse read_side side_text (λ (side : Side). Unit {0})
unfolding read_side read_side_as side_text
side_inverse = record { reads = reads; written = written }
  where
    reads : (side : Side) (rest : List ℕ) → Unit {0} → read_side (side_text side ++ rest) ≡ some (side, rest)
    reads FrontSide rest v = refl
    reads BackSide rest v = refl

    written : (s : List ℕ) (side : Side) (rest : List ℕ) → read_side s ≡ some (side, rest) → (s ≡ side_text side ++ rest) × Unit {0}
    written s side rest = or_else_lem (one FrontSide) (one BackSide)
      where
        one : (x : Side) → read_side_as x s ≡ some (side, rest) → (s ≡ side_text side ++ rest) × Unit {0}
        one x e = let w = (side_as_inverse x).written s side rest e in (rw w.1 w.0, tt)

-- a layout that says no posts, and whose numbers can be written
abbrev Plain : Layout × Policy → Type 0
Plain z = (z.0.posts ≡ NoPosts) × WritableLayout z.0

-- the first line of the L section
pub layout_inverse : Inverse read_layout (λ (z : Layout × Policy). layout_text z.0 z.1) Plain
unfolding read_layout layout_text policy_text
layout_inverse =
    valid_as
    (λ z. (λ v. (ap (λ (y : Layout × Policy). y.0.posts) v.0, omega arith), λ v. (ap (λ p. (with_posts p z.0, z.1)) v.0, omega arith)))
    (bind_part (λ z. z.0.aisles) (λ a z. refl) space_field (λ m.
    bind_part (λ z. z.0.cells) (λ a z. refl) space_field (λ c.
    bind_part (λ z. z.0.front) (λ a z. refl) space_field (λ f.
    bind_part (λ z. z.0.pitch) (λ a z. refl) space_field (λ p.
    bind_part (λ z. z.0.back) (λ a z. refl) space_field (λ b.
    bind_part (λ z. z.0.width) (λ a z. refl) space_field (λ w.
    bind_part (λ z. z.0.depot) (λ a z. refl) space_field (λ d.
    made (λ word. (record { aisles = m; cells = c; front = f; pitch = p; back = b; width = w; depot = d; posts = NoPosts }, word)) (λ z. z.1) (λ a v. refl) policy_inverse))))))))

-- its second line
posts_line_inverse : Inverse read_posts_line posts_text (λ (p : Posts). (layout_lines p ≡ 2) × WritablePosts p)
unfolding read_posts_line
posts_line_inverse = record { reads = reads; written = written }
  where
    reads : (p : Posts) (rest : List ℕ) → (layout_lines p ≡ 2) × WritablePosts p → read_posts_line (posts_text p ++ rest) ≡ some (p, rest)
    reads NoPosts rest v = absurd (omega arith)
    reads (Every k u) rest v = rw (append_assoc, space_field.reads k (field line_feed u ++ rest) v.1.0, line_field.reads u rest v.1.1)
    reads (Sided k u side) rest v = absurd (omega arith)

    written : (s : List ℕ) (p : Posts) (rest : List ℕ) → read_posts_line s ≡ some (p, rest) → (s ≡ posts_text p ++ rest) × ((layout_lines p ≡ 2) × WritablePosts p)
    written s p rest e =
        let w = read_some (read_field space s) (λ q. read_field line_feed q.1 >>= λ r. some (Every q.0 r.0, r.1)) e in
        let (k, behind) = w.0 in
        let v = read_some (read_field line_feed behind) (λ r. some (Every k r.0, r.1)) w.2 in
        let (u, last) = v.0 in
        let same = same_reading v.2 in
        let first = space_field.written s k behind w.1 in
        let second = line_field.written behind u last v.1 in
        subst₂ (λ (q : Posts) (end : List ℕ). (s ≡ posts_text q ++ end) × ((layout_lines q ≡ 2) × WritablePosts q)) same.0 same.1
        (rw append_assoc (first.0 ∙ ap (λ (t : List ℕ). field space k ++ t) second.0), (refl, (first.1, second.1)))

-- its second line and its third
sided_lines_inverse : Inverse read_sided_lines posts_text (λ (p : Posts). (layout_lines p ≡ 3) × WritablePosts p)
unfolding read_sided_lines side_text
sided_lines_inverse = record { reads = reads; written = written }
  where
    reads : (p : Posts) (rest : List ℕ) → (layout_lines p ≡ 3) × WritablePosts p → read_sided_lines (posts_text p ++ rest) ≡ some (p, rest)
    reads NoPosts rest v = absurd (omega arith)
    reads (Every k u) rest v = absurd (omega arith)
    reads (Sided k u side) rest v =
        rw (append_assoc, append_assoc, space_field.reads k (field line_feed u ++ (side_text side ++ rest)) v.1.0, line_field.reads u (side_text side ++ rest) v.1.1, side_inverse.reads side rest tt)

    -- the third line, behind the numbers of the second
    word : (k u : ℕ) (s : List ℕ) (p : Posts) (rest : List ℕ) → read_side s >>= (λ t. some (Sided k u t.0, t.1)) ≡ some (p, rest)
        → (side : Side) × (p ≡ Sided k u side) × (s ≡ side_text side ++ rest)
    word k u s p rest e =
        let w = (made (Sided k u) side_in (λ side v. refl) side_inverse).written s p rest e in
        (side_in p, w.1.0, w.0)

    written : (s : List ℕ) (p : Posts) (rest : List ℕ) → read_sided_lines s ≡ some (p, rest) → (s ≡ posts_text p ++ rest) × ((layout_lines p ≡ 3) × WritablePosts p)
    written s p rest e =
        let w = read_some (read_field space s) (λ q. read_field line_feed q.1 >>= λ r. read_side r.1 >>= λ t. some (Sided q.0 r.0 t.0, t.1)) e in
        second w.0.0 w.0.1 w.1 w.2
      where
        third : (k u : ℕ) (behind last : List ℕ) → read_field space s ≡ some (k, behind) → read_field line_feed behind ≡ some (u, last)
            → read_side last >>= (λ t. some (Sided k u t.0, t.1)) ≡ some (p, rest) → (s ≡ posts_text p ++ rest) × ((layout_lines p ≡ 3) × WritablePosts p)
        third k u behind last first next e =
            let (side, same, text) = word k u last p rest e in
            let number = space_field.written s k behind first in
            let width = line_field.written behind u last next in
            let all = number.0 ∙ ap (λ (t : List ℕ). field space k ++ t) (width.0 ∙ ap (λ (t : List ℕ). field line_feed u ++ t) text) in
            rw same (rw (append_assoc, append_assoc) all, (refl, (number.1, width.1)))

        second : (k : ℕ) (behind : List ℕ) → read_field space s ≡ some (k, behind)
            → read_field line_feed behind >>= (λ r. read_side r.1 >>= λ t. some (Sided k r.0 t.0, t.1)) ≡ some (p, rest)
            → (s ≡ posts_text p ++ rest) × ((layout_lines p ≡ 3) × WritablePosts p)
        second k behind first e =
            let v = read_some (read_field line_feed behind) (λ r. read_side r.1 >>= λ t. some (Sided k r.0 t.0, t.1)) e in
            third k v.0.0 behind v.0.1 first v.1 v.2

-- what is behind the first line, by the section's count
posts_inverse : (n : ℕ) → Inverse (read_posts n) posts_text (λ (p : Posts). (layout_lines p ≡ n) × WritablePosts p)
unfolding read_posts
posts_inverse n = record { reads = reads; written = λ s p rest e. written s p rest (eqb n 1) (eqb n 2) (eqb n 3) refl refl refl e }
  where
    reads : (p : Posts) (rest : List ℕ) → (layout_lines p ≡ n) × WritablePosts p → read_posts n (posts_text p ++ rest) ≡ some (p, rest)
    reads NoPosts rest v = rw (← v.0) refl
    reads (Every k u) rest v = rw (← v.0) (posts_line_inverse.reads (Every k u) rest (refl, v.1))
    reads (Sided k u side) rest v = rw (← v.0) (sided_lines_inverse.reads (Sided k u side) rest (refl, v.1))

    written : (s : List ℕ) (p : Posts) (rest : List ℕ) (b c d : Bool) → eqb n 1 ≡ b → eqb n 2 ≡ c → eqb n 3 ≡ d
        → ◌≡◌ {A = Reading Posts}
        (elim b [ true ↦ some (NoPosts, s) | false ↦ elim c [ true ↦ read_posts_line s | false ↦ elim d [ true ↦ read_sided_lines s | false ↦ none ] ] ])
        (some (p, rest))
        → (s ≡ posts_text p ++ rest) × ((layout_lines p ≡ n) × WritablePosts p)
    written s p rest true c d one two three e = let same = same_reading e in rw (← same.0) (same.1, (sym (eqb-true n 1 one), tt))
    written s p rest false true d one two three e = rw (eqb-true n 2 two) (posts_line_inverse.written s p rest e)
    written s p rest false false true one two three e = rw (eqb-true n 3 three) (sided_lines_inverse.written s p rest e)
    written s p rest false false false one two three e = nothing_read e

-- a line of the S section
pub record_inverse : Inverse read_record record_text WritableRecord
unfolding read_record record_text
record_inverse =
    valid_as
    (λ r. (λ v. omega arith, λ v. (refl, omega arith)))
    (bind_part (λ r. r.aisle) (λ a r. refl) space_field (λ j.
    bind_part (λ r. r.cell) (λ a r. refl) space_field (λ c.
    bind_part (λ r. r.article) (λ a r. refl) space_field (λ a.
    made (λ q. record { aisle = j; cell = c; article = a; quantity = q }) (λ r. r.quantity) (λ q v. refl) line_field))))

-- a line of the H section
pub window_inverse : Inverse read_window window_text WritableWindow
unfolding read_window window_text
window_inverse =
    valid_as
    (λ w. (λ v. omega arith, λ v. (refl, omega arith)))
    (bind_part (λ w. w.aisle) (λ a w. refl) space_field (λ j.
    bind_part (λ w. w.from) (λ a w. refl) space_field (λ a.
    made (λ b. record { aisle = j; from = a; to = b }) (λ w. w.to) (λ b v. refl) line_field)))

-- a line of the D section
pub line_inverse : Inverse read_line line_text WritableLine
unfolding read_line line_text
line_inverse =
    valid_as
    (λ l. (λ v. omega arith, λ v. (refl, omega arith)))
    (bind_part (λ l. l.article) (λ a l. refl) space_field (λ a.
    made (λ q. record { article = a; quantity = q }) (λ l. l.quantity) (λ q v. refl) line_field))

-- n lines, each valid
abbrev ValidLines : {A : Type 0} → (A → Type 0) → ℕ → List A → Type 0
ValidLines {A} P n xs = (length xs ≡ n) × ((x : A) → Memᴰ x xs → P x)

module _ {A : Type 0} {read : List ℕ → Reading A} {text : A → List ℕ} {P : A → Type 0} (i : Inverse read text P) where
  -- the text of n valid lines is read as them
  lines_reads : (n : ℕ) (xs : List A) (rest : List ℕ) → ValidLines P n xs → read_lines read n (concat_of text xs ++ rest) ≡ some (xs, rest)
  lines_reads zero [] rest v = refl
  lines_reads zero (x ∷ xs) rest v = absurd (omega arith)
  lines_reads (suc n) [] rest v = absurd (omega arith)
  lines_reads (suc n) (x ∷ xs) rest v =
      let first = i.reads x (concat_of text xs ++ rest) (v.1 x (Memᴰ.head refl)) in
      rw (append_assoc, first, lines_reads n xs rest (omega arith, λ y m. v.1 y (Memᴰ.tail m)))

  -- one line more that stood there as text
  cons_written : (n : ℕ) (s behind rest : List ℕ) (x : A) (xs : List A) → (s ≡ text x ++ behind) × P x → (behind ≡ concat_of text xs ++ rest) × ValidLines P n xs → (s ≡ concat_of text (x ∷ xs) ++ rest) × ValidLines P (suc n) (x ∷ xs)
  cons_written n s behind rest x xs p q = (rw append_assoc (p.0 ∙ ap (λ (z : List ℕ). text x ++ z) q.0), (omega arith, λ y m. go y (Memᴰ.cases_cons m)))
    where
      go : (y : A) → (y ≡ x) ⊎ Memᴰ y xs → P y
      go y (inl e) = rw e p.1
      go y (inr m) = q.1.1 y m

  -- lines that are read stood there as text
  lines_written : (n : ℕ) (s : List ℕ) (xs : List A) (rest : List ℕ) → read_lines read n s ≡ some (xs, rest) → (s ≡ concat_of text xs ++ rest) × ValidLines P n xs
  lines_written zero s xs rest e = let same = same_reading e in rw (← same.0) (same.1, (refl, λ x m. absurd (Memᴰ.not-nil m)))
  lines_written (suc n) s ys rest e =
      let w = read_some (read s) (λ r. read_lines read n r.1 >>= λ q. some (r.0 ∷ q.0, q.1)) e in
      let (x, behind) = w.0 in
      let v = read_some (read_lines read n behind) (λ q. some (x ∷ q.0, q.1)) w.2 in
      let (xs, last) = v.0 in
      let same = same_reading v.2 in
      subst₂ (λ (zs : List A) (end : List ℕ). (s ≡ concat_of text zs ++ end) × ValidLines P (suc n) zs) same.0 same.1
      (cons_written n s behind last x xs (i.written s x behind w.1) (lines_written n behind xs last v.1))

  -- a number of lines
  pub lines_inverse : (n : ℕ) → Inverse (read_lines read n) (concat_of text) (ValidLines P n)
  lines_inverse n = record { reads = lines_reads n; written = lines_written n }

-- a section of lines
pub section_inverse : {A : Type 0} {read : List ℕ → Reading A} {text : A → List ℕ} {P : A → Type 0} (letter : ℕ) → Inverse read text P → Inverse (read_section letter read) (section_text letter text) (WritableSection P)
unfolding read_section section_text
section_inverse letter i =
    valid_as
    (λ xs. (λ v. record { count = v.0; each = v.1.1 }, λ v. (v.count, (refl, v.each))))
    (bind (λ xs. length xs) (header_inverse letter) (λ n. lines_inverse i n) (λ n xs p q. q.0))

-- one line, two or three
few_lines : (p : Posts) → layout_lines p ≤ 65535
few_lines NoPosts = omega arith
few_lines (Every k u) = omega arith
few_lines (Sided k u side) = omega arith

-- what the first line says of a layout
abbrev first_line : Layout × Policy → Layout × Policy
first_line z = (with_posts NoPosts z.0, z.1)

-- the L section: its numbers and those of its posts can be written
abbrev WritableBoth : Layout × Policy → Type 0
WritableBoth z = WritableLayout z.0 × WritablePosts z.0.posts

pub layout_section_inverse : Inverse read_layout_section (λ (z : Layout × Policy). layout_section_text z.0 z.1) WritableBoth
unfolding read_layout_section layout_section_text layout_text
layout_section_inverse =
    valid_as
    (λ z. (λ v. (omega arith, v.1.1.1.1), λ v. (few_lines z.0.posts, ((refl, omega arith), (refl, (refl, v.1))))))
    (bind (λ z. layout_lines z.0.posts) (header_inverse letter_l) (λ n.
    bind first_line layout_inverse (λ z.
    made (λ posts. (with_posts posts z.0, z.1)) (λ y. y.0.posts) (λ a v. refl) (posts_inverse n))
    (λ a y p q. ap first_line q.0 ∙ ap (λ t. (with_posts t a.0, a.1)) (sym p.0)))
    (λ n z p q. q.1.1.0))

-- the one line of the M section, by the section's count
minute_line_inverse : (n : ℕ)
    → Inverse (λ (s : List ℕ). elim (eqb n 1) [ true ↦ read_field line_feed s | false ↦ none ]) (λ (t : ℕ). concat_of (field line_feed) (t ∷ [])) (λ (t : ℕ). (n ≡ 1) × (t ≤ 65535))
minute_line_inverse n = record { reads = reads; written = λ s t rest e. written s t rest (eqb n 1) refl e }
  where
    reads : (t : ℕ) (rest : List ℕ) → (n ≡ 1) × (t ≤ 65535)
        → ◌≡◌ {A = Reading ℕ} (elim (eqb n 1) [ true ↦ read_field line_feed (concat_of (field line_feed) (t ∷ []) ++ rest) | false ↦ none ]) (some (t, rest))
    reads t rest v = rw (eq-eqb n 1 v.0, append-nil) (line_field.reads t rest v.1)

    written : (s : List ℕ) (t : ℕ) (rest : List ℕ) (b : Bool) → eqb n 1 ≡ b → ◌≡◌ {A = Reading ℕ} (elim b [ true ↦ read_field line_feed s | false ↦ none ]) (some (t, rest))
        → (s ≡ concat_of (field line_feed) (t ∷ []) ++ rest) × ((n ≡ 1) × (t ≤ 65535))
    written s t rest true one e = let w = line_field.written s t rest e in (rw append-nil w.0, (eqb-true n 1 one, w.1))
    written s t rest false one e = nothing_read e

-- the M section
pub minute_inverse : Inverse read_minute (λ (t : ℕ). section_text letter_m (field line_feed) (t ∷ [])) (λ (t : ℕ). t ≤ 65535)
unfolding read_minute section_text
minute_inverse =
    valid_as
    (λ t. (λ v. v.1.1, λ v. (omega arith, (refl, v))))
    (bind (λ t. 1) (header_inverse letter_m) minute_line_inverse (λ n t p q. sym q.0))

-- hours that have the sections M and H, and whose numbers can be written
abbrev pub WritableClock : Hours → Type 0
WritableClock NoHours = ⊥
WritableClock (At t windows) = WritableHours (At t windows)

-- the minute that the hours say, 0 where they say none
abbrev minute_of : Hours → ℕ
minute_of NoHours = 0
minute_of (At t windows) = t

-- the windows that the hours say
abbrev windows_of : Hours → List Window
windows_of NoHours = []
windows_of (At t windows) = windows

-- the sections M and H
pub clock_inverse : Inverse read_clock hours_text WritableClock
unfolding read_clock
clock_inverse =
    text_as text
    (valid_as valid
    (bind_part (λ h. minute_of h) (λ a h. refl) minute_inverse (λ t.
    made (λ windows. At t windows) windows_of (λ a v. refl) (section_inverse letter_h window_inverse))))
  where
    valid : (h : Hours) → ((h ≡ At (minute_of h) (windows_of h)) × ((minute_of h ≤ 65535) × WritableSection WritableWindow (windows_of h))) ↔ WritableClock h
    valid NoHours = (λ v. let z : ◌≡◌ {A = ℕ} 0 1 = cc v.0 in absurd (omega arith), λ v. absurd v)
    valid (At t windows) = (λ v. v.1, λ v. (refl, v))

    text : (h : Hours) → WritableClock h → section_text letter_m (field line_feed) (minute_of h ∷ []) ++ section_text letter_h window_text (windows_of h) ≡ hours_text h
    text NoHours v = absurd v
    text (At t windows) v = refl

-- the text of the hours in front of the D section is read as them
hours_reads : (h : Hours) (lines : List OrderLine) (rest : List ℕ) → WritableHours h
    → read_hours (hours_text h ++ (section_text letter_d line_text lines ++ rest)) ≡ some (h, section_text letter_d line_text lines ++ rest)
unfolding section_text header
hours_reads NoHours lines rest v = refl
hours_reads (At t windows) lines rest v = clock_inverse.reads (At t windows) (section_text letter_d line_text lines ++ rest) v

-- hours that are read stood there as text
hours_written : (s : List ℕ) (h : Hours) (rest : List ℕ) → read_hours s ≡ some (h, rest) → (s ≡ hours_text h ++ rest) × WritableHours h
hours_written [] h rest e = let same = same_reading e in rw (← same.0) (same.1, tt)
hours_written (c ∷ s) h rest e = go (eqb c letter_m) e
  where
    known : (g : Hours) → WritableClock g → WritableHours g
    known NoHours v = absurd v
    known (At t windows) v = v

    go : (b : Bool) → ◌≡◌ {A = Reading Hours} (elim b [ true ↦ read_clock (c ∷ s) | false ↦ some (NoHours, c ∷ s) ]) (some (h, rest))
        → (c ∷ s ≡ hours_text h ++ rest) × WritableHours h
    go true e = let w = clock_inverse.written (c ∷ s) h rest e in (w.0, known h w.1)
    go false e = let same = same_reading e in rw (← same.0) (same.1, tt)

-- the sections behind S: M and H where they stand, and D
hours_lines_inverse : (z : Layout × Policy) (records : List StockRecord)
    → Inverse
    (λ (s : List ℕ). read_hours s >>= λ h. read_section letter_d read_line h.1 >>= λ l.
    some (record { layout = z.0; policy = z.1; stock = records; hours = h.0; lines = l.0 }, l.1))
    (λ (job : Job). hours_text job.hours ++ section_text letter_d line_text job.lines)
    (λ (job : Job). (job ≡ record { layout = z.0; policy = z.1; stock = records; hours = job.hours; lines = job.lines })
    × (WritableHours job.hours × WritableSection WritableLine job.lines))
hours_lines_inverse z records =
    valid_as
    (λ job. (λ v. (v.1.0, (v.0, v.1.1)), λ v. (v.1.0, (v.0, v.1.1))))
    (bind_before read_hours hours_text WritableHours (λ job. job.hours) (λ job rest v. hours_reads job.hours job.lines rest v) hours_written (λ h.
    made (λ lines. record { layout = z.0; policy = z.1; stock = records; hours = h; lines = lines }) (λ job. job.lines) (λ a v. refl) (section_inverse letter_d line_inverse))
    (λ h job p q. ap (λ (j : Job). j.hours) q.0))

-- all sections
pub sections_inverse : Inverse read_sections job_text Writable
unfolding read_sections job_text
sections_inverse =
    valid_as
    (λ job. (
      λ v. record { layout = v.1.0.0; posts = v.1.0.1; stock = v.1.1.0; hours = v.1.1.1.0; lines = v.1.1.1.1 },
      λ v. (refl, ((v.layout, v.posts), (v.stock, (v.hours, v.lines)))),
    ))
    (bind_part (λ job. (job.layout, job.policy)) (λ a job. refl) layout_section_inverse (λ z.
    bind_part (λ job. job.stock) (λ a job. refl) (section_inverse letter_s record_inverse) (λ records. hours_lines_inverse z records)))

-- what is read to the end leaves no bytes behind it
at_end_lem : {A : Type 0} {r : Reading A} {x : A} → at_end r ≡ some x → r ≡ some (x, [])
at_end_lem {r = none} e = nothing_read e
at_end_lem {r = some (a, [])} e = cc
at_end_lem {r = some (a, c ∷ s)} e = nothing_read e

-- the text of a writable job, if it is at most 16,384 bytes, is read as the job
pub read_text : (job : Job) → Writable job → length (job_text job) ≤ job_file_limit → read_job (job_text job) ≡ some job
unfolding read_job
read_text job v l =
    let read = ap read_sections (sym (append-nil (job_text job))) ∙ sections_inverse.reads job [] v in
    rw (read_job, le-leb (length (job_text job)) job_file_limit l, read)

-- bytes are read as a job exactly if they are at most 16,384 and the text of the job, whose numbers can be written
pub job_file : (s : List ℕ) (job : Job) → (read_job s ≡ some job) ↔ (Writable job × (length s ≤ job_file_limit) × (job_text job ≡ s))
unfolding read_job
job_file s job = (go (leb (length s) job_file_limit) refl, λ v. subst (λ (t : List ℕ). read_job t ≡ some job) v.2 (read_text job v.0 (rw v.2 v.1)))
  where
    go : (b : Bool) → leb (length s) job_file_limit ≡ b → ◌≡◌ {A = Option Job} (elim b [ true ↦ at_end (read_sections s) | false ↦ none ]) (some job) → Writable job × (length s ≤ job_file_limit) × (job_text job ≡ s)
    go true h e = let w = sections_inverse.written s job [] (at_end_lem e) in (w.1, leb-true (length s) job_file_limit h, sym (w.0 ∙ append-nil (job_text job)))
    go false h e = nothing_read e

-- bytes that are read as a job are its text
pub text_of_read : (s : List ℕ) (job : Job) → read_job s ≡ some job → job_text job ≡ s
text_of_read s job e = ((job_file s job).0 e).2

-- a job that is read can be written, and was read from at most 16,384 bytes
pub readable : (s : List ℕ) (job : Job) → read_job s ≡ some job → Writable job × (length s ≤ job_file_limit)
readable s job e = let v = (job_file s job).0 e in (v.0, v.1)
