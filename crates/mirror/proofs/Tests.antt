-- Tests of numbers that say the same have the same answer.
use Prim.Native.Nat.{ℕ, ◌≤◌, ◌<◌}
use mathlib.Core.Path.{◌≡◌, refl, sym}
use mathlib.Core.Bool.{Bool, true, false}
use lib.Dec.{ltb, leb, eqb}
use borrow.Author.Tests.{lt-ltb, le-leb, eq-eqb, ltb-true, leb-true, eqb-true}

same_answer : (s t : Bool) → (s ≡ true → t ≡ true) → (t ≡ true → s ≡ true) → s ≡ t
same_answer true t to fro = sym (to refl)
same_answer false true to fro = fro refl
same_answer false false to fro = refl

pub eqb_agree : (a b c d : ℕ) → (a ≡ b → c ≡ d) → (c ≡ d → a ≡ b) → eqb a b ≡ eqb c d
eqb_agree a b c d to fro = same_answer (eqb a b) (eqb c d) (λ e. eq-eqb c d (to (eqb-true a b e))) (λ e. eq-eqb a b (fro (eqb-true c d e)))

pub leb_agree : (a b c d : ℕ) → (a ≤ b → c ≤ d) → (c ≤ d → a ≤ b) → leb a b ≡ leb c d
leb_agree a b c d to fro = same_answer (leb a b) (leb c d) (λ e. le-leb c d (to (leb-true a b e))) (λ e. le-leb a b (fro (leb-true c d e)))

pub leb_ltb_agree : (a b c d : ℕ) → (a ≤ b → c < d) → (c < d → a ≤ b) → leb a b ≡ ltb c d
leb_ltb_agree a b c d to fro = same_answer (leb a b) (ltb c d) (λ e. lt-ltb c d (to (leb-true a b e))) (λ e. le-leb a b (fro (ltb-true c d e)))
