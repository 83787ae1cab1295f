-- A whole job file: its sections, its length and its end.
use Rattle.std.proofs.Common.{ℕ, ◌≤◌, ◌<◌, ◌≡◌, refl, sym, ◌∙◌, ap, Bool, true, false, List, [], ◌∷◌, length, replicate, arith, Some, None}
use Rattle.std.specs.Prelude.{Option as Found}
use Rattle.std.proofs.Math.Dec.{leb}
use Rattle.std.proofs.Math.Option.{Option, none, some}
use borrow.Author.Tests.{le-leb, lt-leb}
use Rattle.rules.specs.declared.Layout.{Layout}
use Rattle.rules.specs.declared.Policy.{Policy}
use Rattle.rules.specs.declared.StockRecord.{StockRecord}
use Rattle.rules.specs.declared.Window.{Window}
use Rattle.marks.specs.declared.Marks.{Marks}
use Rattle.marks.specs.Marking.{mark_of, no_marks}
use Rattle.marks.proofs.Cells.{marks_behind, cells_told}
use Rattle.reading.specs.declared.cursor.Cursor.{Cursor}
use Rattle.rules.specs.declared.OrderLine.{OrderLine}
use Rattle.rules.specs.Hours.{Hours}
use Rattle.rules.specs.Jobs.{Job}
use Rattle.rules.specs.JobFile.{Reading, letter_s, letter_h, letter_d, job_file_limit, read_record, read_window, read_line, read_section, read_minute, read_clock, read_hours, read_layout_section, read_sections, read_job, at_end}
use Rattle.values.specs.declared.Clock.{Clock}
use Rattle.values.specs.Values.{no_window, no_line}
use Rattle.reading.specs.Kept.{no_record, padded, Fills, noted, hours_value, hours_kept, job_value, raw_value, raw_of}
use Rattle.reading.proofs.Storing.{filled_blanks}

-- the same thing was found
of_some : {A : Type 0} {x y : A} → some x ≡ some y → x ≡ y
of_some e = cc

-- lines that were read, and that stand in their places
pub record Stand {A N : Type 0} (noting : N → A → N) (first : N) (reading : Reading (List A)) (room : ℕ) (blank : A) (after : List A) (count : ℕ) (notes : N) (rest : List ℕ) : Type 0 where
  pub found : List A
  pub many : count ≡ length found
  pub told : notes ≡ noted noting first found
  pub kept : after ≡ padded room blank found
  pub read : reading ≡ some (found, rest)

-- lines could not be read
pub lines_missing : {A T : Type 0} (told : List A → T) (before after : List A) (reading : Reading (List A)) (found : Found (T × Cursor)) → Fills told reading before after found → found ≡ None → reading ≡ none
lines_missing told before after none found h e = refl
lines_missing told before after (some r) found h e = let f = h.0 in cc

module _ {A N : Type 0} (noting : N → A → N) (start : N) (room : ℕ) (blank : A) (after : List A) where
  -- they were read
  pub lines_there : (first : A) → first ≡ blank → (reading : Reading (List A)) (count : ℕ) (notes : N) (next : Cursor)
      → Fills {T = ℕ × N} (λ xs. (length xs, noted noting start xs)) reading (replicate room first) after (Some ((count, notes), next))
      → Stand noting start reading room blank after count notes next.rest.now
  lines_there first same none count notes next h = cc
  lines_there first same (some r) count notes next h =
      let e = of_some h.0 in
      record {
        found = r.0;
        many = ap (λ p. p.0.0) e;
        told = ap (λ p. p.0.1) e;
        kept = h.1 ∙ filled_blanks room first r.0 ∙ ap (λ x. padded room x r.0) same;
        read = ap (λ t. some (r.0, t)) (sym (ap (λ p. p.1) e));
      }

-- the sections M and H, where both were read
pub clock_whole : {N : Type 0} {noting : N → Window → N} {first notes : N} (s : List ℕ) (minute : ℕ) (behind : List ℕ) (count : ℕ) (windows : List Window) (rest : List ℕ) → some (minute, behind) ≡ read_minute s
    → Stand noting first (read_section letter_h read_window behind) 64 no_window windows count notes rest
    → some (Some (record { minute = minute; count = count; windows = windows }), rest) ≡ hours_kept (read_clock s)
unfolding read_clock
clock_whole s minute behind count windows rest e h = rw (read_clock, ← e, h.read, h.many, h.kept) refl

-- hours that were read, by value
pub record Timed (reading : Reading Hours) (kept : Found Clock) (rest : List ℕ) : Type 0 where
  pub found : Hours
  pub value : kept ≡ hours_value found
  pub read : reading ≡ some (found, rest)

pub hours_missing : (reading : Reading Hours) → none ≡ hours_kept reading → reading ≡ none
hours_missing none e = refl
hours_missing (some r) e = cc

pub hours_there : (reading : Reading Hours) (kept : Found Clock) (rest : List ℕ) → some (kept, rest) ≡ hours_kept reading → Timed reading kept rest
hours_there none kept rest e = cc
hours_there (some r) kept rest e =
    let q = of_some e in record { found = r.0; value = ap (λ p. p.0) q; read = ap (λ t. some (r.0, t)) (sym (ap (λ p. p.1) q)) }

-- too many bytes
pub too_long : (s : List ℕ) → 16384 < length s → read_job s ≡ none
unfolding read_job
too_long s h = rw (read_job, lt-leb (length s) 16384 h) refl

-- sections that cannot be read
sections_fail : (s : List ℕ) → read_sections s ≡ none → read_job s ≡ none
unfolding read_job
sections_fail s e = go (leb (length s) job_file_limit)
  where
    go : (b : Bool) → ◌≡◌ {A = Option Job} (elim b [ true ↦ at_end (read_sections s) | false ↦ none ]) none
    go true = ap at_end e
    go false = refl

-- no L section
pub no_layout : (s : List ℕ) → read_layout_section s ≡ none → read_job s ≡ none
unfolding read_sections
no_layout s e = sections_fail s (rw (read_sections, e) refl)

module _ (s : List ℕ) {behind : List ℕ} {z : Layout} {policy : Policy} (e : read_layout_section s ≡ some ((z, policy), behind)) where
  -- no S section
  pub no_stock : read_section letter_s read_record behind ≡ none → read_job s ≡ none
  unfolding read_sections
  no_stock f = sections_fail s (rw (read_sections, e, f) refl)

  module _ {records : List StockRecord} {behind-stock : List ℕ} (f : read_section letter_s read_record behind ≡ some (records, behind-stock)) where
    -- no sections M and H that can be read
    pub no_hours : read_hours behind-stock ≡ none → read_job s ≡ none
    unfolding read_sections
    no_hours g = sections_fail s (rw (read_sections, e, f, g) refl)

    module _ {hours : Hours} {last : List ℕ} (g : read_hours behind-stock ≡ some (hours, last)) where
      -- no D section
      pub no_list : read_section letter_d read_line last ≡ none → read_job s ≡ none
      unfolding read_sections
      no_list h = sections_fail s (rw (read_sections, e, f, g, h) refl)

      module _ {lines : List OrderLine} {rest : List ℕ} (h : read_section letter_d read_line last ≡ some (lines, rest)) where
        -- the job that the sections say
        abbrev job : Job
        job = record { layout = z; policy = policy; stock = records; hours = hours; lines = lines }

        -- all sections
        sections_read : read_sections s ≡ some (job, rest)
        unfolding read_sections
        sections_read = rw (read_sections, e, f, g, h) refl

        -- bytes follow the last line
        pub trailing : 0 < length rest → read_job s ≡ none
        unfolding read_job
        trailing l = go (leb (length s) job_file_limit)
          where
            more : (t : List ℕ) → 0 < length t → at_end (some (job, t)) ≡ none
            more [] l = absurd (omega arith)
            more (c ∷ t) l = refl

            go : (b : Bool) → ◌≡◌ {A = Option Job} (elim b [ true ↦ at_end (read_sections s) | false ↦ none ]) none
            go true = ap at_end sections_read ∙ more rest l
            go false = refl

        -- nothing follows it
        pub job_read : length s ≤ 16384 → length rest ≡ 0 → read_job s ≡ some job
        unfolding read_job
        job_read l m = rw (read_job, le-leb (length s) 16384 l) (ap at_end sections_read ∙ over rest m)
          where
            over : (t : List ℕ) → length t ≡ 0 → at_end (some (job, t)) ≡ some job
            over [] m = refl
            over (c ∷ t) m = absurd (omega arith)

-- what is kept where there is no job file
pub kept_none : (s : List ℕ) → read_job s ≡ none → None ≡ raw_of (read_job s)
kept_none s e = rw e refl

-- the marks of the records, in either words
marked : (m : Marks) (xs : List StockRecord) → noted mark_of m xs ≡ marks_behind m xs
marked m [] = refl
marked m (x ∷ xs) = marked (mark_of m x) xs

-- what is kept of a job file
pub job_kept : (s : List ℕ) {behind : List ℕ} {z : Layout} {policy : Policy} → read_layout_section s ≡ some ((z, policy), behind)
    → {stock : List StockRecord} {records : ℕ} {start marks : Marks} {first : List ℕ} → start ≡ no_marks → Stand mark_of start (read_section letter_s read_record behind) 384 no_record stock records marks first
    → {hours : Found Clock} {last : List ℕ} → Timed (read_hours first) hours last
    → {N : Type 0} {noting : N → OrderLine → N} {start notes : N} {lines : List OrderLine} {orders : ℕ} {rest : List ℕ}
    → Stand noting start (read_section letter_d read_line last) 8 no_line lines orders notes rest
    → length s ≤ 16384 → length rest ≡ 0
    → Some (record { job = record { layout = z; policy = policy; records = records; stock = stock; orders = orders; lines = lines; hours = hours }; twice = marks.twice })
    ≡ raw_of (read_job s)
unfolding raw_value job_value
job_kept s e start f g h l m = rw (job_read s e f.read g.read h.read l m, f.many, f.kept, h.many, h.kept, g.value, f.told, start, marked no_marks f.found, cells_told f.found) refl
