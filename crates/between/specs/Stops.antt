-- The test by the layout and the flags of an aisle's cells alone, LARGEST's with the largest distances between neighbouring stops.
use Rattle.std.specs.Prelude.{ℕ, ◌-◌, max, List, [], ◌∷◌, ◌++◌, Bool, true, false, ◌&&◌, ◌||◌, leb, eqb, get_or}
use Rattle.rules.specs.declared.Layout.{Layout}
use Rattle.rules.specs.Lists.{from, select}
use Rattle.rules.specs.Store.{position, back_height}
use Rattle.between.specs.declared.Between.{Between}
use Rattle.between.specs.Between.{by_height, halves_of, gap_length, first_past}

-- the n heights from a upwards that are flagged
abbrev pub flagged : List Bool → ℕ → ℕ → List ℕ
flagged flags a n = select (λ c. get_or flags c false) (from a n)

-- the stops on a front part that turns at height h
unfoldable pub front_stops : List Bool → ℕ → List ℕ
front_stops flags h = 0 ∷ flagged flags 1 h

-- the stops on a back part that turns at height i; `top` is the back crossing
unfoldable pub back_stops : List Bool → ℕ → ℕ → List ℕ
back_stops flags top i = flagged flags i (top - i) ++ (top ∷ [])

-- the largest distance between neighbouring stops, by the positions of heights
abbrev pub widest : (ℕ → ℕ) → List ℕ → ℕ
widest at [] = 0
widest at (x ∷ []) = 0
widest at (x ∷ y ∷ stops) = max (at y - at x) (widest at (y ∷ stops))

-- that on a front part that turns at height h
abbrev pub front_most : Layout → List Bool → ℕ → ℕ
front_most z flags h = widest (position z) (front_stops flags h)

-- and that on a back part that turns at height i
abbrev pub back_most : Layout → List Bool → ℕ → ℕ
back_most z flags i = widest (position z) (back_stops flags (back_height z) i)

-- whether the distance from height h to height i is at least m and at least n
abbrev pub reaches : Layout → ℕ → ℕ → ℕ → ℕ → Bool
reaches z h i m n = leb m (gap_length z h i) && leb n (gap_length z h i)

-- at least `front`, and at least the number of `back` for i
abbrev pub wide_at : Layout → ℕ → List ℕ → ℕ → ℕ → Bool
wide_at z front back h i = reaches z h i front (get_or back i 0)

-- the first height past h of which that holds
unfoldable pub first_wide : Layout → ℕ → List ℕ → ℕ → ℕ
first_wide z front back h = first_past z (wide_at z front back h) h

-- at least the largest distances on the front part to h and on the back part to i
abbrev pub wide_by : Layout → List Bool → ℕ → ℕ → Bool
wide_by z flags h i = reaches z h i (front_most z flags h) (back_most z flags i)

-- the first height past h of which that holds
abbrev pub first_by : Layout → List Bool → ℕ → ℕ
first_by z flags h = first_past z (wide_by z flags h) h

-- whether a height is flagged, or is e
abbrev pub flagged_or : List Bool → ℕ → ℕ → Bool
flagged_or flags e h = eqb h e || get_or flags h false

-- LARGEST's arrays: flagged heights, 0 or the back crossing for no turn, and the first wide gaps
unfoldable pub largest_by : Layout → List Bool → Between
largest_by z flags =
    record { front = by_height (flagged_or flags 0); back = by_height (flagged_or flags (back_height z)); from = by_height (first_by z flags) }

-- LARGEST's arrays or MIDPOINT's
unfoldable pub between_by : Bool → Layout → List Bool → Between
between_by true z flags = largest_by z flags
between_by false z flags = halves_of z
