-- A sheet can be read back: its text determines the length, the policy, the plan, the picks and the walk.
use Prim.Native.Nat.{ℕ, zero, suc}
use mathlib.Core.Path.{◌≡◌, refl, sym, ◌∙◌, ap, ap₂}
use mathlib.Core.List.{List, [], ◌∷◌, ◌++◌, append_assoc, append-nil}
use mathlib.Core.Bool.{false, cond}
use lib.Dec.{eqb}
use lib.ListN.{length, drop}
use Rattle.rules.specs.declared.Policy.{Policy}
use Rattle.rules.specs.declared.Policy.TheVariants.{Exact, Return, Traversal, Midpoint, Composite, Largest}
use Rattle.rules.specs.declared.Action.{Action}
use Rattle.rules.specs.declared.Action.TheVariants.{Void, Bottom, Top, Gap, Once, Twice}
use Rattle.rules.specs.declared.Passage.{Passage}
use Rattle.rules.specs.declared.Passage.TheVariants.{P00, P02, P11, P20, P22}
use Rattle.rules.specs.declared.Direction.{Direction}
use Rattle.rules.specs.declared.Direction.TheVariants.{Back, Front, Left, Right}
use Rattle.rules.specs.declared.Pick.{Pick}
use Rattle.rules.specs.declared.Run.{Run}
use Rattle.rules.specs.Lists.{concat_of, head_or}
use Rattle.rules.specs.JobFile.{space, line_feed, numeral, field, header, policy_word, section_text, is_digit, leading_digits, value_of}
use Rattle.rules.specs.Sheet.{letter_a, letter_c, letter_p, letter_w, total_text, action_text, passage_text, pick_text, letter_of, runs_of, run_text}
use Rattle.rules.proofs.Numbers.{numeral_digits, value_of_numeral, leading_digits_append}
use Rattle.visits.specs.Visited.{walk_of_runs}
use Rattle.visits.proofs.Runs.{walk_of_runs_lem}
use Rattle.promises.specs.Contents.{Content, content_text}

-- a reader takes a value from the front of the bytes, and reads a text when it gives its value and the bytes behind it
abbrev Reader : Type 0 → Type 0
Reader A = List ℕ → A × List ℕ

abbrev Reads : {A : Type 0} → Reader A → (A → List ℕ) → Type 0
Reads {A} read text = (x : A) (rest : List ℕ) → read (text x ++ rest) ≡ (x, rest)

-- the digits in front, and what stands behind the separator
abbrev number_by : List ℕ → Reader ℕ
number_by digits s = (value_of 0 digits, drop (suc (length digits)) s)

read_number : Reader ℕ
read_number s = number_by (leading_digits s) s

drop_past : (s : List ℕ) (c : ℕ) (rest : List ℕ) → drop (suc (length s)) (s ++ (c ∷ rest)) ≡ rest
drop_past [] c rest = refl
drop_past (d ∷ s) c rest = drop_past s c rest

reads_field : (sep : ℕ) → is_digit sep ≡ false → Reads read_number (field sep)
unfolding field read_number
reads_field sep h n rest =
    ap read_number (append_assoc (numeral n) (sep ∷ []) rest)
    ∙ ap (λ digits. number_by digits (numeral n ++ (sep ∷ rest))) (leading_digits_append (numeral n) sep rest (numeral_digits n) h)
    ∙ ap₂ (λ (v : ℕ) (s : List ℕ). (v, s)) (value_of_numeral n) (drop_past (numeral n) sep rest)

reads_space : Reads read_number (field space)
unfolding is_digit
reads_space = reads_field space refl

reads_line : Reads read_number (field line_feed)
unfolding is_digit
reads_line = reads_field line_feed refl

-- the first byte
abbrev first : List ℕ → ℕ
first = head_or 0

-- lines, each read by the same reader
abbrev read_lines : {A : Type 0} → Reader A → ℕ → Reader (List A)
read_lines read zero s = ([], s)
read_lines read (suc n) s =
    let x = read s in
    let xs = read_lines read n x.1 in
    (x.0 ∷ xs.0, xs.1)

read_section : {A : Type 0} → Reader A → Reader (List A)
read_section read s = let n = read_number (drop 2 s) in read_lines read n.0 n.1

module _ {A : Type 0} (read : Reader A) (text : A → List ℕ) (reads : Reads read text) where
  reads_lines : (xs : List A) (rest : List ℕ) → read_lines read (length xs) (concat_of text xs ++ rest) ≡ (xs, rest)
  reads_lines [] rest = refl
  reads_lines (x ∷ xs) rest = rw (append_assoc (text x) (concat_of text xs) rest, reads x (concat_of text xs ++ rest), reads_lines xs rest)

  reads_section : (letter : ℕ) → Reads (read_section read) (section_text letter text)
  unfolding read_section section_text header
  reads_section letter xs rest =
      rw (append_assoc (field line_feed (length xs)) (concat_of text xs) rest, reads_line (length xs) (concat_of text xs ++ rest)) (reads_lines xs rest)

-- by the first letter
read_policy : Reader Policy
read_policy s =
    cond (eqb (first s) 69) (Exact, drop 6 s)
    (cond (eqb (first s) 82) (Return, drop 7 s)
    (cond (eqb (first s) 84) (Traversal, drop 10 s)
    (cond (eqb (first s) 77) (Midpoint, drop 9 s)
    (cond (eqb (first s) 67) (Composite, drop 10 s)
    (Largest, drop 8 s)))))

reads_policy : Reads read_policy (λ p. policy_word p ++ (line_feed ∷ []))
unfolding read_policy
reads_policy Exact rest = refl
reads_policy Return rest = refl
reads_policy Traversal rest = refl
reads_policy Midpoint rest = refl
reads_policy Composite rest = refl
reads_policy Largest rest = refl

-- by the first letter, or the second: TOP and TWICE
read_action : Reader Action
read_action s =
    let low = read_number (drop 7 s) in
    let high = read_number (drop 4 s) in
    let higher = read_number high.1 in
    cond (eqb (first s) 86) (Void, drop 5 s)
    (cond (eqb (first s) 66) (Bottom low.0, low.1)
    (cond (eqb (first s) 71) (Gap high.0 higher.0, higher.1)
    (cond (eqb (first s) 79) (Once, drop 5 s)
    (cond (eqb (first (drop 1 s)) 79) (Top high.0, high.1)
    (Twice, drop 6 s)))))

reads_action : Reads read_action action_text
unfolding read_action
reads_action Void rest = refl
reads_action (Bottom i) rest = rw (reads_line i rest)
reads_action (Top i) rest = rw (reads_line i rest)
reads_action (Gap h i) rest = rw (append_assoc (field space h) (field line_feed i) rest, reads_space h (field line_feed i ++ rest), reads_line i rest)
reads_action Once rest = refl
reads_action Twice rest = refl

-- by the two digits
read_passage : Reader Passage
read_passage s =
    let back = first s in
    let front = first (drop 1 s) in (
      cond (eqb back 49) P11 (cond (eqb back 48) (cond (eqb front 48) P00 P02) (cond (eqb front 48) P20 P22)),
      drop 3 s,
    )

reads_passage : Reads read_passage passage_text
unfolding read_passage passage_text
reads_passage P00 rest = refl
reads_passage P02 rest = refl
reads_passage P11 rest = refl
reads_passage P20 rest = refl
reads_passage P22 rest = refl

read_pick : Reader Pick
read_pick s =
    let j = read_number s in
    let c = read_number j.1 in
    let a = read_number c.1 in
    let q = read_number a.1 in
    (record { aisle = j.0; cell = c.0; article = a.0; quantity = q.0 }, q.1)

reads_pick : Reads read_pick pick_text
unfolding read_pick pick_text
reads_pick x rest = simp (append_assoc, reads_space, reads_line)

read_run : Reader Run
read_run s =
    let n = read_number (drop 2 s) in
    let letter = first s in (
      record { direction = cond (eqb letter 66) Back (cond (eqb letter 70) Front (cond (eqb letter 76) Left Right)); steps = n.0 },
      n.1,
    )

reads_run : Reads read_run run_text
unfolding read_run run_text
reads_run r rest = rw (reads_line r.steps rest) (go r.direction)
  where
    go : (d : Direction) → ◌≡◌ {A = Run × List ℕ} (record { direction = cond (eqb (letter_of d) 66) Back (cond (eqb (letter_of d) 70) Front (cond (eqb (letter_of d) 76) Left Right)); steps = r.steps }, rest) (record { direction = d; steps = r.steps }, rest)
    go Back = refl
    go Front = refl
    go Left = refl
    go Right = refl

read_content : List ℕ → Content
read_content s =
    let count = read_number (drop 2 s) in
    let n = read_number count.1 in
    let policy = read_policy n.1 in
    let actions = read_section read_action policy.1 in
    let passages = read_section read_passage actions.1 in
    let picks = read_section read_pick passages.1 in
    let runs = read_section read_run picks.1 in
    record {
      length = n.0;
      policy = policy.0;
      plan = record { actions = actions.0; passages = passages.0 };
      picks = picks.0;
      walk = walk_of_runs runs.0;
    }

-- what a sheet says is read back
content_read : (c : Content) → read_content (content_text c) ≡ c
unfolding read_content content_text total_text header
content_read c =
    let runs = section_text letter_w run_text (runs_of c.walk) in
    let picks = section_text letter_p pick_text c.picks ++ runs in
    let passages = section_text letter_c passage_text c.plan.passages ++ picks in
    let actions = section_text letter_a action_text c.plan.actions ++ passages in
    let word = policy_word c.policy ++ (line_feed ∷ []) in
    let last = ap (read_section read_run) (sym (append-nil runs)) ∙ reads_section read_run run_text reads_run letter_w (runs_of c.walk) [] in
    rw (
      append_assoc (field line_feed 1) (field space c.length ++ word) actions,
      reads_line 1 ((field space c.length ++ word) ++ actions),
      append_assoc (field space c.length) word actions,
      reads_space c.length (word ++ actions),
      reads_policy c.policy actions,
      reads_section read_action action_text reads_action letter_a c.plan.actions passages,
      reads_section read_passage passage_text reads_passage letter_c c.plan.passages picks,
      reads_section read_pick pick_text reads_pick letter_p c.picks runs,
      last,
      walk_of_runs_lem c.walk,
    )

-- so no two contents have the same text
pub content_determined : (c d : Content) → content_text c ≡ content_text d → c ≡ d
content_determined c d e = sym (content_read c) ∙ ap read_content e ∙ content_read d
