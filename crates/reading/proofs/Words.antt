-- A word that is read byte for byte is what the bytes start with.
use Rattle.std.proofs.Common.{ℕ, ◌≡◌, Bool, true, false, ◌&&◌, List, [], ◌∷◌, length, take, drop, refl, eqb}
use lib.Pointwise.{pointwise}
use Rattle.std.proofs.Math.Option.{none, some}
use borrow.Author.Tests.{eqb-true}
use Rattle.rules.specs.JobFile.{Reading, ◌>>=◌, read_word}

-- the rest of the word, read behind its first byte if that stands there
abbrev word_behind : ℕ → List ℕ → List ℕ → Bool → Reading (List ℕ)
word_behind b w s t = (elim t [ true ↦ some (b, s) | false ↦ none ]) >>= λ r. read_word w r.1 >>= λ q. some (r.0 ∷ q.0, q.1)

-- the bytes start with the word
pub word_there : (w s : List ℕ) → pointwise eqb (take (length w) s) w ≡ true → read_word w s ≡ some (w, drop (length w) s)
word_there [] s h = refl
word_there (c ∷ w) [] h = cc
word_there (c ∷ w) (b ∷ s) h = go (eqb b c) refl (word_there w s) h
  where
    go : (t : Bool) → eqb b c ≡ t → (pointwise eqb (take (length w) s) w ≡ true → read_word w s ≡ some (w, drop (length w) s))
        → t && pointwise eqb (take (length w) s) w ≡ true → word_behind b w s t ≡ some (c ∷ w, drop (length w) s)
    go true e others h = rw (others h, eqb-true b c e) refl
    go false e others h = cc

-- they do not
pub word_other : (w s : List ℕ) → pointwise eqb (take (length w) s) w ≡ false → read_word w s ≡ none
word_other [] s h = cc
word_other (c ∷ w) [] h = refl
word_other (c ∷ w) (b ∷ s) h = go (eqb b c) (word_other w s) h
  where
    go : (t : Bool) → (pointwise eqb (take (length w) s) w ≡ false → read_word w s ≡ none)
        → t && pointwise eqb (take (length w) s) w ≡ false → word_behind b w s t ≡ none
    go true others h = rw (others h) refl
    go false others h = refl
