-- Writers one behind the other: what each hands to the next, and what they have written together.
use Prim.Native.Nat.{ℕ, suc, ◌+◌, ◌-◌, ◌≤◌, ◌<◌}
use native.Mathlib.Omega.{arith}
use native.Mathlib.Numerals.{add-one}
use mathlib.Core.Path.{◌≡◌, refl, sym, ap, subst, ◌∙◌}
use mathlib.Core.List.{List, [], ◌∷◌, ◌++◌, append_assoc, append-nil}
use lib.ListN.{length, take, drop, get_or, set, length-append, length-drop, drop_of_length-le, take-append-drop}
use lib.Seq.{take_all, take-suc, drop-cons, drop-drop, take-append_seam, drop-append_seam, set-append_seam}
use borrow.Rule.Slice.PartMut.{put_mid, mid_of}
use Rattle.rules.specs.Lists.{concat_of}
use Rattle.lines.specs.Written.{Written}

-- what is lent on behind a text
mid_append : (t d : List ℕ) → mid_of (length t) (length (t ++ d) - length t) (t ++ d) ≡ d
mid_append t d = rw (drop-append_seam t d) (take_all (length (t ++ d) - length t) d (rw length-append (omega arith)))

-- the whole when that comes back
put_append : (t d l : List ℕ) → put_mid (length t) (length (t ++ d) - length t) (t ++ d) l ≡ t ++ l
put_append t d l =
    rw (drop-append_seam t d, take-append_seam t d, drop_of_length-le d {i = length (t ++ d) - length t} (rw length-append (omega arith))) (ap (λ (k : List ℕ). t ++ k) (append-nil l))

-- there is room for a text where there is room for more
pub first_room : (t u : List ℕ) {n : ℕ} → length (t ++ u) ≤ n → length t ≤ n
first_room t u h = omega (arith, length-append t u)

-- the same text
pub written_as : {t u b m : List ℕ} {r : ℕ} → t ≡ u → Written t b m r → Written u b m r
written_as {b = b} {m = m} {r = r} e w = subst (λ (l : List ℕ). Written l b m r) e w

-- what was written is the front
pub written_front : {t b m : List ℕ} {r : ℕ} → Written t b m r → take r m ≡ t
written_front {t} {b} w = rw (w.bytes, w.count) (take-append_seam t (drop (length t) b))

-- nothing is written yet
pub nothing_written : (b : List ℕ) → Written [] b b 0
nothing_written b = record { count = refl; bytes = refl }

module _ {t b m : List ℕ} {r : ℕ} (w : Written t b m r) where
  -- the space keeps its length
  pub written_length : length t ≤ length b → length m ≡ length b
  written_length h = rw (w.bytes, length-append, length-drop) (omega arith)

  -- the text ends within the space
  pub written_within : length t ≤ length b → r ≤ length m
  written_within h = rw (written_length h, w.count) h

  -- the rest of the space
  pub rest_of : length t ≤ length b → mid_of r (length m - r) m ≡ drop (length t) b
  rest_of h = rw (w.count, w.bytes) (mid_append t (drop (length t) b))

  -- there is room for another text in the rest of the space
  pub rest_room : (u : List ℕ) → length (t ++ u) ≤ length b → length u ≤ length (mid_of r (length m - r) m)
  rest_room u h =
      let k : length t + length u ≤ length b = rw length-append at h in
      rw (rest_of (omega arith), length-drop) (omega arith)

  -- another text, written into the rest of the space
  pub written_rest : (u : List ℕ) {l : List ℕ} {s : ℕ} → length (t ++ u) ≤ length b → Written u (mid_of r (length m - r) m) l s
      → Written (t ++ u) b (put_mid r (length m - r) m l) (r + s)
  written_rest u {l} {s} h v =
      let k : length t + length u ≤ length b = rw length-append at h in
      let e : l ≡ u ++ drop (length t + length u) b = v.bytes ∙ rw (rest_of (omega arith), drop-drop) in
      record {
        count = rw (length-append, w.count, v.count);
        bytes = rw (w.count, w.bytes, put_append t (drop (length t) b) l, e, length-append, append_assoc);
      }

  -- there is room for another byte
  pub byte_room : length t < length b → r < length m
  byte_room h = rw (written_length (omega arith), w.count) h

  -- another byte behind the text
  pub written_byte : (e : ℕ) → length t < length b → Written (t ++ (e ∷ [])) b (set m r e) (r + 1)
  written_byte e h =
      record {
        count = rw (length-append, w.count);
        bytes = rw (w.count, w.bytes, drop-cons b (length t) 0 h, set-append_seam, length-append, add-one, append_assoc);
      }

-- a text is written part by part: what is written, what is to come behind it, and the whole has room
pub record Going (text rest b m : List ℕ) (at : ℕ) : Type 0 where
  pub done : List ℕ
  pub written : Written done b m at
  pub whole : done ++ rest ≡ text
  pub room : length text ≤ length b

-- its first part is written
pub going_first : (u rest : List ℕ) {b m : List ℕ} {at : ℕ} → length (u ++ rest) ≤ length b → Written u b m at → Going (u ++ rest) rest b m at
going_first u rest room w = record { done = u; written = w; whole = refl; room = room }

module _ {text rest b m : List ℕ} {at : ℕ} (g : Going text rest b m at) where
  -- the last part has room
  pub end_room : length rest ≤ length (mid_of at (length m - at) m)
  end_room = rest_room g.written rest (rw g.whole g.room)

  -- with it all is written
  pub going_end : {l : List ℕ} {s : ℕ} → Written rest (mid_of at (length m - at) m) l s → Written text b (put_mid at (length m - at) m l) (at + s)
  going_end w = written_as g.whole (written_rest g.written rest (rw g.whole g.room) w)

module _ (u rest : List ℕ) {text b m : List ℕ} {at : ℕ} (g : Going text (u ++ rest) b m at) where
  parts : (g.done ++ u) ++ rest ≡ text
  parts = append_assoc g.done u rest ∙ g.whole

  pub parts_room : length (g.done ++ u) ≤ length b
  parts_room = omega (arith, ap length parts, length-append (g.done ++ u) rest, g.room)

  -- the next part has room
  pub next_room : length u ≤ length (mid_of at (length m - at) m)
  next_room = rest_room g.written u parts_room

  -- the next part is written
  pub going_on : {l : List ℕ} {s : ℕ} → Written u (mid_of at (length m - at) m) l s → Going text rest b (put_mid at (length m - at) m l) (at + s)
  going_on w = record { done = g.done ++ u; written = written_rest g.written u parts_room w; whole = parts; room = g.room }

module _ {text b m : List ℕ} {at e : ℕ} (g : Going text (e ∷ []) b m at) where
  -- a last byte has room
  pub last_room : at < length m
  last_room = byte_room g.written (omega (arith, ap length g.whole, length-append g.done (e ∷ []), g.room))

  -- with it all is written
  pub going_last : Written text b (set m at e) (at + 1)
  going_last = written_as g.whole (written_byte g.written e (omega (arith, ap length g.whole, length-append g.done (e ∷ []), g.room)))

-- lists of two parts, one behind the other
concat_append : {A B : Type 0} (f : A → List B) (xs ys : List A) → concat_of f (xs ++ ys) ≡ concat_of f xs ++ concat_of f ys
concat_append f [] ys = refl
concat_append f (x ∷ xs) ys = rw (concat_append f xs ys, append_assoc)

-- the texts of a list's elements are written one behind the other: the first i of them, and all have room
pub record SoFar {A : Type 0} (f : A → List ℕ) (xs : List A) (b m : List ℕ) (at i : ℕ) : Type 0 where
  pub written : Written (concat_of f (take i xs)) b m at
  pub room : length (concat_of f xs) ≤ length b

module _ {A : Type 0} {f : A → List ℕ} {xs : List A} {b m : List ℕ} {at i : ℕ} (s : SoFar f xs b m at i) where
  -- the texts of the first i and of the others
  pub texts_split : concat_of f (take i xs) ++ concat_of f (drop i xs) ≡ concat_of f xs
  texts_split = sym (concat_append f (take i xs) (drop i xs)) ∙ ap (concat_of f) (take-append-drop i xs)

  -- the texts are parts of one text
  pub so_far_going : Going (concat_of f xs) (concat_of f (drop i xs)) b m at
  so_far_going = record { done = concat_of f (take i xs); written = s.written; whole = texts_split; room = s.room }

-- the next of the elements
module _ {A : Type 0} {f : A → List ℕ} {xs : List A} {b m : List ℕ} {at i : ℕ} (s : SoFar f xs b m at i) (x : A) (is : x ≡ get_or xs i x) (l : i < length xs) where
  -- its text stands in front of the others
  others : concat_of f (drop i xs) ≡ f x ++ concat_of f (drop (suc i) xs)
  others = ap (concat_of f) (drop-cons xs i x l) ∙ ap (λ (y : A). f y ++ concat_of f (drop (suc i) xs)) (sym is)

  turn_going : Going (concat_of f xs) (f x ++ concat_of f (drop (suc i) xs)) b m at
  turn_going = subst (λ (r : List ℕ). Going (concat_of f xs) r b m at) others (so_far_going s)

  -- it has room
  pub turn_room : length (f x) ≤ length (mid_of at (length m - at) m)
  turn_room = next_room _ _ turn_going

  one_more : concat_of f (take i xs) ++ f x ≡ concat_of f (take (i + 1) xs)
  one_more = ap (λ (y : A). concat_of f (take i xs) ++ f y) is ∙ sym (rw (add-one i, take-suc xs i x l, concat_append f, append-nil) refl)

  -- and then one more is written
  pub turn_written : {k : List ℕ} {r : ℕ} → Written (f x) (mid_of at (length m - at) m) k r → SoFar f xs b (put_mid at (length m - at) m k) (at + r) (i + 1)
  turn_written {k = k} {r = r} v =
      let before = concat_of f (take i xs) in
      let behind = concat_of f (drop (suc i) xs) in
      let whole : length before + length (f x ++ behind) ≤ length b =
      omega (arith, ap length (texts_split s), ap length others, length-append before (concat_of f (drop i xs)), s.room)
      in
      let next : length (before ++ f x) ≤ length b = omega (arith, whole, length-append (f x) behind, length-append before (f x)) in
      record { written = written_as one_more (written_rest s.written (f x) next v); room = s.room }
