-- Sections: lines that are read one by one, the first of them into places.
use Rattle.std.proofs.Common.{ap, ℕ, suc, ◌+◌, ◌-◌, ◌≤◌, ◌<◌, ◌≡◌, List, [], ◌∷◌, ◌++◌, length, get_or, take, drop, set, replicate, refl, sym, ◌∙◌, arith, length-append, append_assoc, append-nil, drop-cons}
use lib.ListN.{drop_of_length-le}
use lib.Seq.{take-nil, take_all, take-append-le, take-append_seam, set-append_seam}
use Rattle.std.proofs.lemmas.List.{drop-replicate, length-replicate}
use Rattle.std.proofs.Math.Option.{none, some}
use Rattle.rules.specs.JobFile.{Reading, ◌>>=◌, read_lines}
use Rattle.reading.specs.Kept.{filled, padded, readable_lines, noted}

module _ {A : Type 0} where
  -- what is read behind xs, with xs in front
  abbrev pub behind : List A → Reading (List A) → Reading (List A)
  behind xs reading = reading >>= λ r. some (xs ++ r.0, r.1)

  -- nothing in front
  behind_nothing : (reading : Reading (List A)) → behind [] reading ≡ reading
  behind_nothing none = refl
  behind_nothing (some r) = refl

  -- one element more in front
  behind_one : (xs : List A) (x : A) (reading : Reading (List A)) → behind xs (reading >>= λ r. some (x ∷ r.0, r.1)) ≡ behind (xs ++ (x ∷ [])) reading
  behind_one xs x none = refl
  behind_one xs x (some r) = rw append_assoc refl

  -- no line stands in the places
  pub filled_none : (places : List A) → filled places [] ≡ places
  unfolding filled
  filled_none places = rw (filled, take-nil {A = A} (length places)) refl

  module _ (places xs : List A) (x : A) where
    -- one line more goes into its place
    filled_more : length xs < length places → set (filled places xs) (length xs) x ≡ filled places (xs ++ (x ∷ []))
    unfolding filled
    filled_more h =
        let f : length (xs ++ (x ∷ [])) ≡ suc (length xs) = simp length-append (omega arith) in
        rw (take_all (length places) xs (omega arith), drop-cons places (length xs) x h, set-append_seam xs (get_or places (length xs) x) (drop (suc (length xs)) places) x)
        (rw (take_all (length places) (xs ++ (x ∷ [])) (simp length-append (omega arith)), f, append_assoc) refl)

    -- there is no place for one more
    filled_past : length places ≤ length xs → filled places xs ≡ filled places (xs ++ (x ∷ []))
    unfolding filled
    filled_past h =
        let longer : length places ≤ length (xs ++ (x ∷ [])) = simp length-append (omega arith) in
        rw (drop_of_length-le places h, take-append-le (length places) xs (x ∷ []) h, drop_of_length-le places longer) refl

-- what is noted of one element more
noted_more : {A N : Type 0} (noting : N → A → N) (notes : N) (xs : List A) (x : A) → noted noting notes (xs ++ (x ∷ [])) ≡ noting (noted noting notes xs) x
noted_more noting notes [] x = refl
noted_more noting notes (y ∷ xs) x = noted_more noting (noting notes y) xs x

-- while lines are left, they are a line and the others
one_left : (n i : ℕ) → i < n → n - i ≡ suc (n - (i + 1))
one_left n i h = omega arith

-- of n lines these i have been read and noted, and the first of them stand in the places
pub record LinesTo {A N : Type 0} (read : List ℕ → Reading A) (noting : N → A → N) (n : ℕ) (s : List ℕ) (before : List A) (first : N) (i : ℕ) (rest : List ℕ) (places : List A) (notes : N) (lines : List A) : Type 0 where
  pub many : length lines ≡ i
  pub told : notes ≡ noted noting first lines
  pub stored : places ≡ filled before lines
  pub so_far : read_lines read n s ≡ behind lines (read_lines read (n - i) rest)

module _ {A N : Type 0} (read : List ℕ → Reading A) (noting : N → A → N) (n : ℕ) (s : List ℕ) (before : List A) (first : N) where
  -- no line has been read
  pub lines_none : LinesTo read noting n s before first 0 s before first []
  lines_none = record {
    many = refl;
    told = refl;
    stored = sym (filled_none before);
    so_far = let z : n - 0 ≡ n = omega arith in rw z (sym (behind_nothing (read_lines read n s)));
  }

  module _ (i : ℕ) (rest : List ℕ) (places : List A) (notes : N) (lines : List A) (r : LinesTo read noting n s before first i rest places notes lines) where
    -- all lines have been read
    pub lines_read : n ≤ i → read_lines read n s ≡ some (lines, rest)
    lines_read h = let e : n - i ≡ 0 = omega arith in rw (r.so_far, e, read_lines, append-nil lines) refl

    module _ (h : i < n) where
      -- the line cannot be read
      pub lines_fail : read rest ≡ none → read_lines read n s ≡ none
      lines_fail e = rw (r.so_far, one_left n i h, read_lines, e) refl

      -- one line more has been read, and stands in its place if it has one
      module _ (x : A) (next : List ℕ) (e : read rest ≡ some (x, next)) where
        one_more : (after : List A) → after ≡ filled before (lines ++ (x ∷ [])) → LinesTo read noting n s before first (i + 1) next after (noting notes x) (lines ++ (x ∷ []))
        one_more after kept = record {
          many = simp length-append (omega (arith, r.many));
          told = ap (λ t. noting t x) r.told ∙ sym (noted_more noting first lines x);
          stored = kept;
          so_far = r.so_far ∙ rw (one_left n i h, read_lines, e) (behind_one lines x (read_lines read (n - (i + 1)) next));
        }

        pub lines_stored : i < length before → LinesTo read noting n s before first (i + 1) next (set places i x) (noting notes x) (lines ++ (x ∷ []))
        lines_stored l = one_more (set places i x) (rw (r.stored, ← r.many) (filled_more before lines x (omega (arith, r.many))))

        pub lines_passed : length before ≤ i → LinesTo read noting n s before first (i + 1) next places (noting notes x) (lines ++ (x ∷ []))
        lines_passed l = one_more places (r.stored ∙ filled_past before lines x (omega (arith, r.many)))

-- these i lines, which are those in front of what can be read of the rest
pub record LinesKept {A N : Type 0} (read : List ℕ → Reading A) (noting : N → A → N) (n : ℕ) (s : List ℕ) (before : List A) (first : N)
    (i : ℕ) (rest : List ℕ) (places : List A) (notes : N) (lines : List A) : Type 0 where
  pub to : LinesTo read noting n s before first i rest places notes lines
  pub ahead : readable_lines read n s ≡ lines ++ readable_lines read (n - i) rest

module _ {A N : Type 0} (read : List ℕ → Reading A) (noting : N → A → N) (n : ℕ) (s : List ℕ) (before : List A) (first : N) where
  -- no line has been read
  pub kept_none : LinesKept read noting n s before first 0 s before first []
  kept_none = record {
    to = lines_none read noting n s before first;
    ahead = let z : n - 0 ≡ n = omega arith in rw z refl;
  }

  module _ (i : ℕ) (rest : List ℕ) (places : List A) (notes : N) (lines : List A) (r : LinesKept read noting n s before first i rest places notes lines) where
    -- all lines have been read, and stand in the places
    pub all_kept : n ≤ i → places ≡ filled before (readable_lines read n s)
    all_kept h = let e : n - i ≡ 0 = omega arith in r.to.stored ∙ ap (filled before) (sym (rw (r.ahead, e, readable_lines, append-nil lines) refl))

    module _ (h : i < n) where
      -- the line cannot be read: those in front of it stand in the places
      pub front_kept : read rest ≡ none → places ≡ filled before (readable_lines read n s)
      front_kept e = r.to.stored ∙ ap (filled before) (sym (rw (r.ahead, one_left n i h, readable_lines, e, append-nil lines) refl))

      -- one line more has been read, and stands in its place if it has one
      module _ (x : A) (next : List ℕ) (e : read rest ≡ some (x, next)) where
        one_ahead : readable_lines read n s ≡ (lines ++ (x ∷ [])) ++ readable_lines read (n - (i + 1)) next
        one_ahead = r.ahead ∙ rw (one_left n i h, readable_lines, e) (sym (append_assoc lines (x ∷ []) (readable_lines read (n - (i + 1)) next)))

        pub kept_stored : i < length before → LinesKept read noting n s before first (i + 1) next (set places i x) (noting notes x) (lines ++ (x ∷ []))
        kept_stored l = record { to = lines_stored read noting n s before first i rest places notes lines r.to h x next e l; ahead = one_ahead }

        pub kept_passed : length before ≤ i → LinesKept read noting n s before first (i + 1) next places (noting notes x) (lines ++ (x ∷ []))
        kept_passed l = record { to = lines_passed read noting n s before first i rest places notes lines r.to h x next e l; ahead = one_ahead }

-- blanks in all places are padded lines, once these are filled in
pub filled_blanks : {A : Type 0} (room : ℕ) (blank : A) (xs : List A) → filled (replicate room blank) xs ≡ padded room blank xs
unfolding filled padded
filled_blanks room blank xs = rw (length-replicate room blank, drop-replicate (length xs) room blank) refl

module _ {A : Type 0} (room : ℕ) (blank : A) where
  -- an array of blanks holds nothing
  pub padded_none : replicate room blank ≡ padded room blank []
  unfolding padded
  padded_none = let e : room - 0 ≡ room = omega arith in rw (padded, take-nil {A = A} room, e) refl

  -- all elements stand in an array with room for them
  pub padded_all : (xs : List A) → length xs ≤ room → take (length xs) (padded room blank xs) ≡ xs
  unfolding padded
  padded_all xs h = rw (padded, take_all room xs h) (take-append_seam xs (replicate (room - length xs) blank))
