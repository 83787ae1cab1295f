-- An element of equally long lists one behind the other.
use Prim.Native.Nat.{ℕ, zero, suc, ◌+◌, ◌*◌, ◌/◌, ◌%◌, ◌<◌}
use native.Mathlib.Omega.{arith}
use native.Mathlib.Nat.{div-add-mod', div-lt_iff_lt-mul, mod-lt, suc-mul}
use mathlib.Core.Path.{◌≡◌, sym, ◌∙◌, ap}
use mathlib.Core.List.{List, [], ◌∷◌}
use lib.ListN.{length, get_or, length-append, get_or-append}
use lib.Seq.{get_or-append-add}
use Rattle.rules.specs.Lists.{concat_of}

module _ {A B : Type 0} (f : A → List B) (n : ℕ) (even : (x : A) → length (f x) ≡ n) where
  -- how many there are
  pub blocks_length : (xs : List A) → length (concat_of f xs) ≡ length xs * n
  blocks_length [] = omega arith
  blocks_length (x ∷ xs) = length-append (f x) (concat_of f xs) ∙ omega (arith, even x, blocks_length xs, suc-mul (length xs) n)

  -- the one in block k with the number r there
  block_at : (xs : List A) (k r : ℕ) (d : A) (e : B) → k < length xs → r < n → get_or (concat_of f xs) (k * n + r) e ≡ get_or (f (get_or xs k d)) r e
  block_at [] k r d e h l = absurd (omega arith)
  block_at (x ∷ xs) zero r d e h l =
      let z : 0 * n + r ≡ r = omega arith in
      rw z (get_or-append (f x) (concat_of f xs) e r (omega (arith, even x)))
  block_at (x ∷ xs) (suc k) r d e h l =
      let z : suc k * n + r ≡ length (f x) + (k * n + r) = omega (arith, even x, suc-mul k n) in
      rw z (get_or-append-add (f x) (concat_of f xs) (k * n + r) e ∙ block_at xs k r d e (omega arith) l)

  -- the one with the number i
  pub blocks_at : (xs : List A) (i : ℕ) (d : A) (e : B) → 0 < n → i < length xs * n
      → (i / n < length xs) × (i % n < n) × (get_or (concat_of f xs) i e ≡ get_or (f (get_or xs (i / n) d)) (i % n) e)
  blocks_at xs i d e p h =
      let k = (div-lt_iff_lt-mul p).1 h in
      let r = mod-lt i p in
      (k, r, ap (λ j. get_or (concat_of f xs) j e) (sym (div-add-mod' i n)) ∙ block_at xs (i / n) (i % n) d e k r)
