-- Beside each length a number with a one for each aisle that the rest spares, packed from bit 0 up; and both as one key.
use Rattle.std.specs.Prelude.{ℕ, ◌+◌, ◌*◌, ◌-◌, ◌%◌, ◌^◌, ◌≤◌, ◌<◌, min, ◌≡◌, List, cond, eqb, length, get_or}
use Rattle.std.specs.Int.Bits.{bit_or}
use Rattle.std.specs.Int.Count.{ones}
use Rattle.optimum.specs.Least.{sum_up_to}
use Rattle.optimum.specs.Routing.{no_tour, sat, no_key}
use Rattle.demand.specs.Digits.{demands}
use Rattle.rows.specs.declared.Pair.{Pair}
use Rattle.rows.specs.Rows.{states, tab, next_at, Shorter, RelaxedRow}

-- the ones that go with the lesser of two lengths: its own; of two equal lengths 'or' of both, the larger if they are packed
unfoldable pub ones_of : ℕ → ℕ → ℕ → ℕ → ℕ
ones_of here mine way theirs = bit_or (cond (eqb here (min here way)) mine 0) (cond (eqb way (min here way)) theirs 0)

-- the first n of eight numbers: the ones that go with the shorter of a state's length and the way of that cost
abbrev pub Fewer : List ℕ → List ℕ → ℕ → List ℕ → List ℕ → ℕ → ℕ → List ℕ → ℕ → Type 0
Fewer row spared at perm perm-spared from cost out n =
    (s : ℕ) → s < n
    → get_or out s 0 ≡ ones_of (get_or row (at + s) 0) (get_or spared (at + s) 0) (sat cost (get_or perm (from + s) 0)) (get_or perm-spared (from + s) 0)

-- of eight states the shorter lengths, and the ones that go with them
pub record PairShorter (row spared : List ℕ) (at : ℕ) (perm perm-spared : List ℕ) (from cost : ℕ) (r : Pair) : Type 0 where
  pub lengths : Shorter row at perm from cost r.lengths states
  pub ones : Fewer row spared at perm perm-spared from cost r.ones states

-- what relaxing two rows needs: lists that are long enough, demands that stay below the weight
pub record RelaxReady (row spared perm perm-spared map : List ℕ) (base weight : ℕ) : Type 0 where
  pub small : weight ≤ demands
  pub row_long : weight * states ≤ length row
  pub spared_long : weight * states ≤ length spared
  pub perm_long : weight * states ≤ length perm
  pub perm_spared_long : weight * states ≤ length perm-spared
  pub map_long : base + weight ≤ length map
  pub below : (q : ℕ) → q < weight → get_or map (base + q) 0 < weight

-- the first n demands of a row of ones have those that go with the shorter of their lengths and the way; nothing else changes
pub record FewerRow (row spared spared' perm perm-spared map : List ℕ) (base cost n : ℕ) : Type 0 where
  pub kept : length spared' ≡ length spared
  pub done : (s q : ℕ) → s < states → q < n
      → tab spared' s q ≡ ones_of (tab row s q) (tab spared s q) (sat cost (tab perm s (get_or map (base + q) 0))) (tab perm-spared s (get_or map (base + q) 0))
  pub rest : (k : ℕ) → n * states ≤ k → get_or spared' k 0 ≡ get_or spared k 0

-- a row of lengths and the row of ones beside it, both relaxed
pub record RelaxedPair (row row' spared spared' perm perm-spared map : List ℕ) (base cost n : ℕ) : Type 0 where
  pub lengths : RelaxedRow row row' perm map base cost n
  pub ones : FewerRow row spared spared' perm perm-spared map base cost n

-- a one more at the low end; of sixteen ones, which a u16 has no more room for, sixteen
abbrev pub one_more : ℕ → ℕ
one_more v = v % 32768 * 2 + 1

-- the first n numbers of a row of ones have a one more each; nothing else changes
pub record SparedTo (spared spared' : List ℕ) (n : ℕ) : Type 0 where
  pub kept : length spared' ≡ length spared
  pub done : (k : ℕ) → k < n → get_or spared' k 0 ≡ one_more (get_or spared k 0)
  pub rest : (k : ℕ) → n ≤ k → get_or spared' k 0 ≡ get_or spared k 0

-- at most r ones, packed from bit 0 up
pub record Packed (r v : ℕ) : Type 0 where
  pub few : ones v ≤ r
  pub low : v ≡ 2 ^ ones v - 1

-- length and entered aisles as one number, at most that of 'none': of r aisles those that have no one are entered
unfoldable pub key_of : ℕ → ℕ → ℕ → ℕ
key_of r len v = min (17 * len + (r - ones v)) no_key

-- a length that is one of a tour has packed ones beside it; beside 'none' nothing is asked
abbrev pub Sound : ℕ → ℕ → ℕ → Type 0
Sound r len v = len < no_tour → Packed r v

-- the key of a state and a demand in two rows
abbrev pub key_at : ℕ → List ℕ → List ℕ → ℕ → ℕ → ℕ
key_at r row spared s q = key_of r (tab row s q) (tab spared s q)

-- the same of a state that may be the dead one, whose key is that of 'none'
abbrev pub next_key : ℕ → List ℕ → List ℕ → ℕ → ℕ → ℕ
next_key r row spared s q = key_of r (next_at row s q) (next_at spared s q)

-- in two rows the lengths of the first n demands have packed ones beside them
abbrev pub SoundRow : ℕ → List ℕ → List ℕ → ℕ → Type 0
SoundRow r row spared n = (s q : ℕ) → s < states → q < n → Sound r (tab row s q) (tab spared s q)

-- what a place holds with r aisles left: a key, by a length and packed ones
pub record Holds (r len v key : ℕ) : Type 0 where
  pub sound : Sound r len v
  pub same : key_of r len v ≡ key

-- a length in front of a key
abbrev pub walk : ℕ → ℕ → ℕ
walk cost key = sum_up_to no_key (17 * cost) key

-- keys relaxed by a way of that length: each is the lesser of what it was and the way
pub record RelaxedKeys (old new way : ℕ → ℕ → ℕ) (map : List ℕ) (base cost n : ℕ) : Type 0 where
  pub done : (s q : ℕ) → s < states → q < n → new s q ≡ min (old s q) (walk cost (way s (get_or map (base + q) 0)))

-- two rows relaxed by their keys, whatever number of aisles is left; past the last demand nothing changes
pub record KeysRelaxed (row row' spared spared' perm perm-spared map : List ℕ) (base cost n : ℕ) : Type 0 where
  pub kept : length row' ≡ length row
  pub spared_kept : length spared' ≡ length spared
  pub rest : (k : ℕ) → n * states ≤ k → get_or row' k 0 ≡ get_or row k 0
  pub spared_rest : (k : ℕ) → n * states ≤ k → get_or spared' k 0 ≡ get_or spared k 0
  pub keyed : (r : ℕ) → r ≤ 16 → SoundRow r row spared n → SoundRow r perm perm-spared n
      → SoundRow r row' spared' n × RelaxedKeys (key_at r row spared) (key_at r row' spared') (key_at r perm perm-spared) map base cost n
