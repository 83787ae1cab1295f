-- The definitions' tests of a list in std's words, for chains of iterators.
use Rattle.std.specs.Prelude.{Bool, List, [], ◌∷◌, ◌&&◌, ◌||◌, ◌≡◌, refl}
use Rattle.std.proofs.Common.{ap}
use Rattle.std.specs.List.{list_any, list_all}
use Rattle.rules.specs.Lists.{any_of, all_of}

-- some element passes the test
pub any_same : {A : Type 0} (t : A → Bool) (xs : List A) → list_any t xs ≡ any_of t xs
any_same t [] = refl
any_same t (x ∷ xs) = ap (λ b. t x || b) (any_same t xs)

-- every element passes the test
pub all_same : {A : Type 0} (t : A → Bool) (xs : List A) → list_all t xs ≡ all_of t xs
all_same t [] = refl
all_same t (x ∷ xs) = ap (λ b. t x && b) (all_same t xs)
