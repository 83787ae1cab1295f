-- The passages behind an aisle: the ways on over them, by the keys of the next rows.
use Rattle.std.specs.Prelude.{ℕ, ◌+◌, ◌*◌, ◌≤◌, ◌<◌, min, ◌≡◌, List, length, get_or, take}
use Rattle.rules.specs.declared.Passage.{Passage}
use Rattle.rules.specs.Plans.{back_treads, front_treads}
use Rattle.rules.specs.Turned.{seen_passage}
use Rattle.rules.specs.BestPlan.{passages_in_order}
use Rattle.optimum.specs.Least.{least_or}
use Rattle.optimum.specs.Routing.{no_key}
use Rattle.machine.specs.States.{state_code, state_of}
use Rattle.machine.specs.Steps.{cross_of}
use Rattle.aisles.specs.declared.layers.Aisle.{Aisle}
use Rattle.aisles.specs.Layers.{InRange}
use Rattle.demand.specs.Maps.{entry}
use Rattle.rows.specs.Rows.{states, next_at}
use Rattle.rows.specs.Pairs.{walk, key_at, next_key, SoundRow, Holds}

-- the number of the state after a passage behind the aisle
unfoldable pub cross_code : Aisle → Passage → ℕ → ℕ
cross_code x p s = state_code (cross_of x.method.policy (seen_passage x.layout p) x.place (state_of s))

-- the way on over a passage: its length in front of the key that the next rows hold
unfoldable pub through_passage : Aisle → (ℕ → ℕ → ℕ) → ℕ → ℕ → Passage → ℕ
through_passage x next s q p =
    walk ((back_treads p + front_treads p) * x.layout.width) (next (state_code (cross_of x.method.policy (seen_passage x.layout p) x.place (state_of s))) q)

-- the least over the first n passages
abbrev pub least_over : Aisle → (ℕ → ℕ → ℕ) → ℕ → ℕ → ℕ → ℕ
least_over x next s q n = least_or no_key (through_passage x next s q) (take n passages_in_order)

-- the least over the passages that are tried, from a state and a demand behind the actions
unfoldable pub least_after : Aisle → (ℕ → ℕ → ℕ) → ℕ → ℕ → ℕ
least_after x next s q = least_over x next s q x.tried

-- what the rows behind the actions need: rows that are long enough, numbers in range
pub record CrossingReady (x : Aisle) (after after-spared next next-spared : List ℕ) : Type 0 where
  pub aisle : InRange x
  pub after_long : x.weight * states ≤ length after
  pub after_spared_long : x.weight * states ≤ length after-spared
  pub next_long : x.weight * states ≤ length next
  pub next_spared_long : x.weight * states ≤ length next-spared

-- a map that leaves each demand below n as it is
abbrev pub Plain : List ℕ → ℕ → Type 0
Plain plain n = (q : ℕ) → q < n → entry plain 0 q ≡ q

-- each key of two rows is the lesser of what it was and the way on over a passage; nothing else changes
pub record PassageTried (x : Aisle) (after after' after-spared after-spared' next next-spared : List ℕ) (passage : Passage) : Type 0 where
  pub kept : length after' ≡ length after
  pub spared_kept : length after-spared' ≡ length after-spared
  pub rest : (k : ℕ) → x.weight * states ≤ k → get_or after' k 0 ≡ get_or after k 0
  pub spared_rest : (k : ℕ) → x.weight * states ≤ k → get_or after-spared' k 0 ≡ get_or after-spared k 0
  pub keyed : (r : ℕ) → r ≤ 16 → SoundRow r after after-spared x.weight → SoundRow r next next-spared x.weight
      → SoundRow r after' after-spared' x.weight
      × ((s q : ℕ) → s < states → q < x.weight
      → key_at r after' after-spared' s q ≡ min (key_at r after after-spared s q) (through_passage x (next_key r next next-spared) s q passage))

-- the rows behind the actions hold the least over the passages that are tried, with r aisles behind, whatever r is
abbrev pub AfterFilled : Aisle → List ℕ → List ℕ → List ℕ → List ℕ → Type 0
AfterFilled x after after-spared next next-spared =
    (r : ℕ) → r ≤ 16 → SoundRow r next next-spared x.weight → (s q : ℕ) → s < 9 → q < x.weight
    → Holds r (next_at after s q) (next_at after-spared s q) (least_after x (next_key r next next-spared) s q)
