-- Least costs. A cost is a natural number that adds up and is compared; one number above every cost stands for 'none'.
use Rattle.std.specs.Prelude.{ℕ, ◌+◌, min, List, [], ◌∷◌, eqb}
use Rattle.std.proofs.Math.Option.{Option}
use Rattle.rules.specs.Lists.{first_of}

-- a sum that stays at 'none'
unfoldable pub sum_up_to : ℕ → ℕ → ℕ → ℕ
sum_up_to no_way a b = min (a + b) no_way

module _ {A : Type 0} where
  -- the least value of f over the list, 'none' for the empty one
  abbrev pub least_or : ℕ → (A → ℕ) → List A → ℕ
  least_or no_way f [] = no_way
  least_or no_way f (x ∷ xs) = min (f x) (least_or no_way f xs)

  -- the first element at which f has the value v
  unfoldable pub first_at : (A → ℕ) → ℕ → List A → Option A
  first_at f v xs = first_of (λ x. eqb (f x) v) xs
