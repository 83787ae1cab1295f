-- The rows of the work area, of lengths or of ones: a demand's eight states side by side.
use Rattle.std.specs.Prelude.{ℕ, ◌+◌, ◌*◌, ◌≤◌, ◌<◌, min, ◌≡◌, List, ◌⊎◌, Bool, true, false, cond, ltb, length, get_or}
use Rattle.optimum.specs.Routing.{no_tour, sat}
use Rattle.demand.specs.Digits.{demands}

-- the states that a row has places for; the dead state, 8, has none
abbrev pub states : ℕ
states = 8

-- the numbers of a row: its states for each demand
abbrev pub numbers : ℕ
numbers = demands * states

-- the numbers of the work area: a row for each of sixteen aisles
abbrev pub work_area : ℕ
work_area = 16 * numbers

-- what a row of the table holds for a state and a demand
abbrev pub tab : List ℕ → ℕ → ℕ → ℕ
tab row s q = get_or row (q * states + s) 0

-- the first n of eight lengths: the shorter of a state's length and the way of that cost
abbrev pub Shorter : List ℕ → ℕ → List ℕ → ℕ → ℕ → List ℕ → ℕ → Type 0
Shorter row at perm from cost out n =
    (s : ℕ) → s < n → get_or out s 0 ≡ min (get_or row (at + s) 0) (sat cost (get_or perm (from + s) 0))

-- the first n of some numbers stand in a row from a place on; nothing else changes
pub record StoredTo (row row' some : List ℕ) (at n : ℕ) : Type 0 where
  pub kept : length row' ≡ length row
  pub done : (k : ℕ) → k < n → get_or row' (at + k) 0 ≡ get_or some k 0
  pub rest : (k : ℕ) → (k < at) ⊎ (at + n ≤ k) → get_or row' k 0 ≡ get_or row k 0

-- the first n demands of a row of lengths have the shorter of their lengths and the way of that cost; nothing else changes
pub record RelaxedRow (row row' perm map : List ℕ) (base cost n : ℕ) : Type 0 where
  pub kept : length row' ≡ length row
  pub done : (s q : ℕ) → s < states → q < n → tab row' s q ≡ min (tab row s q) (sat cost (tab perm s (get_or map (base + q) 0)))
  pub rest : (k : ℕ) → n * states ≤ k → get_or row' k 0 ≡ get_or row k 0

-- the number of a state in a row; that of 'none' for the dead one
unfoldable pub next_at : List ℕ → ℕ → ℕ → ℕ
next_at next s q = cond (ltb s states) (tab next s q) no_tour

-- for the first n demands a row has at state s the number of state `to` in another; all else is as it was
pub record StateSet (perm perm' after : List ℕ) (s to n : ℕ) : Type 0 where
  pub kept : length perm' ≡ length perm
  pub done : (q : ℕ) → q < n → tab perm' s q ≡ next_at after to q
  pub rest : (q t : ℕ) → t < states → (t ≡ s → ⊥) → tab perm' t q ≡ tab perm t q
  pub past : (k : ℕ) → n * states ≤ k → get_or perm' k 0 ≡ get_or perm k 0

-- for the first n states a row has the number of the state that a step leads to; past the last demand it is as it was
pub record Permuted (perm perm' after steps : List ℕ) (weight n : ℕ) : Type 0 where
  pub kept : length perm' ≡ length perm
  pub done : (s q : ℕ) → s < n → q < weight → tab perm' s q ≡ next_at after (get_or steps s 0) q
  pub past : (k : ℕ) → weight * states ≤ k → get_or perm' k 0 ≡ get_or perm k 0

-- whether a step leads on from one of the eight states
abbrev pub LivesAs : List ℕ → Bool → Type 0
LivesAs steps true = (s : ℕ) × (s < states) × (get_or steps s 0 < states)
LivesAs steps false = (s : ℕ) → s < states → states ≤ get_or steps s 0

-- the first n numbers of a row are 'none'; its length and all other numbers are as they were
abbrev pub NoneTo : List ℕ → List ℕ → ℕ → Type 0
NoneTo row row' n =
    ((k : ℕ) → k < n → get_or row' k 0 ≡ no_tour) × (length row' ≡ length row) × ((k : ℕ) → n ≤ k → get_or row' k 0 ≡ get_or row k 0)

-- past the last demand a row is as it was
abbrev pub PastKept : ℕ → List ℕ → List ℕ → Type 0
PastKept weight row row' = (k : ℕ) → weight * states ≤ k → get_or row' k 0 ≡ get_or row k 0
