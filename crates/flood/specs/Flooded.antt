-- What the flood fill finds, by the numbers of points and edges: the edges of point p are at p (towards the back) and at 442 + p (to the right).
use Rattle.std.specs.Prelude.{ℕ, zero, suc, ◌+◌, ◌≤◌, ◌<◌, ◌≡◌, ◌⊎◌, ◌↔◌, Bool, true, false, cond, eqb, List, [], ◌∷◌, length, get_or, set}

-- a point is seen
abbrev pub Seen : List Bool → ℕ → Type 0
Seen seen p = get_or seen p false ≡ true

-- how many points are not seen yet
abbrev pub unseen : List Bool → ℕ
unseen [] = 0
unseen (false ∷ seen) = suc (unseen seen)
unseen (true ∷ seen) = unseen seen

-- a point can be reached from a along edges that are left
pub data Reach (left : List ℕ) (a : ℕ) : ℕ → Type 0 where
  here : Reach left a a
  backward : {p : ℕ} → 0 < get_or left p 0 → Reach left a p → Reach left a (p + 1)
  forward : {p : ℕ} → 0 < get_or left p 0 → Reach left a (p + 1) → Reach left a p
  rightward : {p : ℕ} → 0 < get_or left (442 + p) 0 → Reach left a p → Reach left a (p + 26)
  leftward : {p : ℕ} → 0 < get_or left (442 + p) 0 → Reach left a (p + 26) → Reach left a p

-- some edge of the point is left
abbrev pub Starts : List ℕ → ℕ → Type 0
Starts left p = (0 < get_or left p 0) ⊎ (0 < get_or left (442 + p) 0)

-- all that is left can be reached from a
unfoldable pub AllReached : List ℕ → ℕ → Type 0
AllReached left a = (p : ℕ) → p < 442 → Starts left p → Reach left a p

-- the edges that are left lie between the points 26 and end
pub record Ranged (left : List ℕ) (end : ℕ) : Type 0 where
  pub size : length left ≡ 884
  pub top : end ≤ 442
  pub along : (p : ℕ) → p < 442 → 0 < get_or left p 0 → (26 ≤ p) × (p + 1 < end)
  pub across : (p : ℕ) → 0 < get_or left (442 + p) 0 → (26 ≤ p) × (p + 26 < end)

-- an edge with n treads left joins two points: where one is seen, the other is too
unfoldable pub spread_edge : ℕ → ℕ → ℕ → List Bool → List Bool
spread_edge n a b seen =
    cond (eqb n 0) seen
    (cond (get_or seen a false) (set seen b true) (cond (get_or seen b false) (set seen a true) seen))

-- the edges towards the back and to the right of a point
unfoldable pub spread_at : List ℕ → ℕ → List Bool → List Bool
spread_at left p seen = spread_edge (get_or left (442 + p) 0) p (p + 26) (spread_edge (get_or left p 0) p (p + 1) seen)

-- n points from 26 on, upwards
abbrev pub swept_up : List ℕ → ℕ → List Bool → List Bool
swept_up left zero seen = seen
swept_up left (suc n) seen = spread_at left (26 + n) (swept_up left n seen)

-- the same points downwards
abbrev pub swept_down : List ℕ → ℕ → List Bool → List Bool
swept_down left zero seen = seen
swept_down left (suc n) seen = swept_down left n (spread_at left (26 + n) seen)

-- both points are seen, or neither is
abbrev pub Alike : List Bool → ℕ → ℕ → Type 0
Alike seen a b = Seen seen a ↔ Seen seen b

-- no edge of the point that is left leads from a seen point to one that is not
abbrev pub Calm : List ℕ → List Bool → ℕ → Type 0
Calm left seen p = (0 < get_or left p 0 → Alike seen p (p + 1)) × (0 < get_or left (442 + p) 0 → Alike seen p (p + 26))

-- the same of the points from 26 up to end
abbrev pub CalmTo : List ℕ → ℕ → List Bool → Type 0
CalmTo left end seen = (p : ℕ) → 26 ≤ p → p < end → Calm left seen p

-- a point can be reached from one that is seen
abbrev pub FromSeen : List ℕ → List Bool → ℕ → Type 0
FromSeen left seen p = (a : ℕ) × Seen seen a × Reach left a p

-- points are seen newly that can be reached from seen ones; where none is, `Still` holds
pub record Grown (left : List ℕ) (Still : List Bool → Type 0) (before after : List Bool) : Type 0 where
  pub size : length after ≡ length before
  pub fewer : unseen after ≤ unseen before
  pub still : unseen after ≡ unseen before → (after ≡ before) × Still before
  pub kept : (p : ℕ) → Seen before p → Seen after p
  pub from : (p : ℕ) → Seen after p → FromSeen left before p

-- a sweep over all points below end, and whether it saw a point newly
pub record Swept (left : List ℕ) (end : ℕ) (before after : List Bool) (saw : Bool) : Type 0 where
  pub grown : Grown left (CalmTo left end) before after
  pub news : (saw ≡ true) ↔ (unseen after < unseen before)

-- the whole flood: seen is now what can be reached from where it was
pub record Flooded (left : List ℕ) (before after : List Bool) : Type 0 where
  pub size : length after ≡ length before
  pub reached : (p : ℕ) → Seen after p ↔ FromSeen left before p

-- the points from 26 up to high at which something is left are seen
unfoldable pub AllSeen : List ℕ → List Bool → ℕ → Type 0
AllSeen left seen high = (p : ℕ) → 26 ≤ p → p < high → Starts left p → Seen seen p
