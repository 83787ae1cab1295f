-- A row of a map, filled from the front.
use Prim.Native.Nat.{ℕ, ◌+◌, ◌*◌, ◌≤◌, ◌<◌}
use native.Mathlib.Omega.{arith}
use native.Mathlib.Decide.{dec_lt}
use mathlib.Core.Path.{◌≡◌, ◌∙◌}
use mathlib.Core.Logic.{◌⊎◌, inl, inr}
use mathlib.Core.List.{List}
use Rattle.demand.specs.Maps.{entry, RowSet}

-- of two different numbers one is less
pub less_or_more : (i k : ℕ) → (i ≡ k → ⊥) → (i < k) ⊎ (k < i)
less_or_more i k ne = go (dec_lt i k)
  where
    go : Dec (i < k) → (i < k) ⊎ (k < i)
    go (yes l) = inl l
    go (no n) = inr (omega arith)

-- the first q numbers of a row are there
module _ {map map' : List ℕ} {to q : ℕ} {f : ℕ → ℕ} (r : RowSet map map' to q f) where
  -- the same numbers by another function
  pub row_same : (g : ℕ → ℕ) → ((k : ℕ) → k < q → f k ≡ g k) → RowSet map map' to q g
  row_same g same = record { kept = r.kept; done = λ k h. r.done k h ∙ same k h; rest = r.rest }

  -- another row is not touched
  pub row_other : (from k : ℕ) → (from ≡ to → ⊥) → q ≤ 256 → k < 256 → entry map' from k ≡ entry map from k
  row_other from k ne small low = r.rest (from * 256 + k) (go (less_or_more from to ne))
    where
      go : (from < to) ⊎ (to < from) → (from * 256 + k < to * 256) ⊎ (to * 256 + q ≤ from * 256 + k)
      go (inl l) = inl (omega arith)
      go (inr l) = inr (omega arith)
