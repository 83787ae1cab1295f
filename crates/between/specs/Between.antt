-- The test for aisles between the first and the last entered, by height: MIDPOINT's and LARGEST's.
use Rattle.std.specs.Prelude.{ℕ, zero, suc, ◌+◌, ◌-◌, ◌≤◌, ◌<◌, ◌≡◌, List, map, Bool, true, false, cond, ◌&&◌, ◌||◌, leb, eqb, get_or}
use Rattle.rules.specs.declared.Layout.{Layout}
use Rattle.rules.specs.Lists.{from}
use Rattle.rules.specs.Store.{position, back_height}
use Rattle.rules.specs.Jobs.{Job, cell_holds_listed}
use Rattle.rules.specs.Policies.{in_front_half, in_back_half, from_front, from_back, stops_on}
use Rattle.rules.specs.Machine.{stops_within}
use Rattle.between.specs.declared.Between.{Between}

-- a value for each of 26 heights: the front crossing 0, the cells, the back crossing, and the rest, which is not used
unfoldable pub by_height : {A : Type 0} → (ℕ → A) → List A
by_height f = map f (from 0 26)

-- whether c is a cell of aisle j that holds a listed article
abbrev pub listed_at : Job → ℕ → ℕ → Bool
listed_at job j c = leb 1 c && (leb c job.layout.cells && cell_holds_listed job j c)

-- which cells of aisle j hold a listed article, by height
unfoldable pub listed_flags : Job → ℕ → List Bool
listed_flags job j = by_height (listed_at job j)

-- MIDPOINT's: a front turn in the front half, a back turn in the back half; any back turn past the front turn goes with it
unfoldable pub halves_of : Layout → Between
halves_of z = record { front = by_height (in_front_half z); back = by_height (in_back_half z); from = by_height suc }

-- where a front part may turn under LARGEST: at a cell with a listed article, or at 0, which stands for no front part
abbrev pub front_allowed : Job → ℕ → ℕ → Bool
front_allowed job j h = eqb h 0 || listed_at job j h

-- where a back part may turn: at a cell with a listed article, or at the back crossing, which stands for no back part
abbrev pub back_allowed : Job → ℕ → ℕ → Bool
back_allowed job j i = eqb i (back_height job.layout) || listed_at job j i

-- the distance from height h up to height i
abbrev pub gap_length : Layout → ℕ → ℕ → ℕ
gap_length z h i = position z i - position z h

-- whether the aisle untrodden from height h to height i is at least as long as every distance between neighbouring stops before it
-- and behind it
unfoldable pub wide : Job → ℕ → ℕ → ℕ → Bool
wide job j h i =
    stops_within (position job.layout) (gap_length job.layout h i) (stops_on job j (from_front h))
    && stops_within (position job.layout) (gap_length job.layout h i) (stops_on job j (from_back i))

-- the first of the n numbers from a upwards that passes the test; the one behind them where none does
abbrev pub first_from : (ℕ → Bool) → ℕ → ℕ → ℕ
first_from t a zero = a
first_from t a (suc n) = cond (t a) a (first_from t (suc a) n)

-- the first height past h, up to the back crossing, that passes the test; the one behind them where none does
abbrev pub first_past : Layout → (ℕ → Bool) → ℕ → ℕ
first_past z t h = first_from t (suc h) (back_height z - h)

-- the least height past h that is wide with h
unfoldable pub first_back : Job → ℕ → ℕ → ℕ
first_back job j h = first_past job.layout (wide job j h) h

-- LARGEST's: turns at cells with listed articles, and the untrodden part between them wide
unfoldable pub largest_of : Job → ℕ → Between
largest_of job j =
    record { front = by_height (front_allowed job j); back = by_height (back_allowed job j); from = by_height (first_back job j) }

-- LARGEST's test or MIDPOINT's
unfoldable pub between_of : Bool → Job → ℕ → Between
between_of true job j = largest_of job j
between_of false job j = halves_of job.layout

-- whether an action whose front part turns at height h and whose back part turns at height i passes the test
unfoldable pub allows_turns : Between → ℕ → ℕ → Bool
allows_turns b h i = get_or b.front h false && (get_or b.back i false && leb (get_or b.from h 0) i)

-- the back turns that go with a front turn lie past it, and are fewer the further back the front turn lies; `top` is the back crossing
pub record Graded (from : List ℕ) (top : ℕ) : Type 0 where
  pub past : (h : ℕ) → h ≤ top → h < get_or from h 0
  pub grows : (h : ℕ) → h < top → get_or from h 0 ≤ get_or from (h + 1) 0
  pub ends : get_or from top 0 ≡ top + 1
