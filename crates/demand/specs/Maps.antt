-- The maps of an aisle: what is lacking of a demand after the cells that the front or the back part of an action reaches.
use Rattle.std.specs.Prelude.{ℕ, suc, ◌+◌, ◌*◌, ◌-◌, ◌≤◌, ◌<◌, ◌≡◌, ◌⊎◌, List, length, get_or}
use Rattle.rules.specs.declared.Action.{Action}
use Rattle.rules.specs.declared.Action.TheVariants.{Bottom, Top}
use Rattle.rules.specs.Jobs.{Job}
use Rattle.rules.specs.Refusals.{weight, Admitted}
use Rattle.optimum.specs.Demand.{gains, radices, less_code}
use Rattle.values.specs.declared.Shelf.{Shelf}
use Rattle.values.specs.Shelves.{ShelfOf}
use Rattle.demand.specs.declared.digits.Digits.{Digits}
use Rattle.demand.specs.declared.maps.Part.{Part}
use Rattle.demand.specs.declared.maps.Part.TheVariants.{Front, Back}
use Rattle.demand.specs.Digits.{demands, DigitsOf}

-- the heights of an aisle: its two ends, and 24 cells at most
abbrev pub heights : ℕ
heights = 26

-- the numbers of a map: a row of all demands for each height
abbrev pub map_size : ℕ
map_size = heights * demands

-- what a map has for a demand in a row
abbrev pub entry : List ℕ → ℕ → ℕ → ℕ
entry map row q = get_or map (row * demands + q) 0

-- n numbers of a row are those of a function; nothing else changes
pub record RowSet (map map' : List ℕ) (to n : ℕ) (f : ℕ → ℕ) : Type 0 where
  pub kept : length map' ≡ length map
  pub done : (q : ℕ) → q < n → entry map' to q ≡ f q
  pub rest : (k : ℕ) → (k < to * demands) ⊎ (to * demands + n ≤ k) → get_or map' k 0 ≡ get_or map k 0

-- a row to be filled out of another one
pub record RowAsked (map : List ℕ) (to from n : ℕ) : Type 0 where
  pub long : map_size ≤ length map
  pub to_in : to < heights
  pub from_in : from < heights
  pub apart : from ≡ to → ⊥
  pub light : n ≤ demands

-- the demands of a row are below n
abbrev pub RowBelow : List ℕ → ℕ → ℕ → Type 0
RowBelow map row n = (q : ℕ) → q < n → entry map row q < n

-- what the maps of aisle j are made from: the shelf and the digits of a job, and the number of its cells
pub record MapsAsked (job : Job) (shelf : Shelf) (d : Digits) (cells j : ℕ) : Type 0 where
  pub admitted : Admitted job
  pub shelf_of : ShelfOf job shelf
  pub digits_of : DigitsOf job d
  pub cells_are : cells ≡ job.layout.cells
  pub aisle : (1 ≤ j) × (j ≤ job.layout.aisles)

-- a row of a map: what is lacking of each demand after an action of aisle j
abbrev pub RowOf : Job → ℕ → Action → List ℕ → ℕ → Type 0
RowOf job j x map row = (q : ℕ) → q < weight job.lines → entry map row q ≡ less_code (radices job) (gains job j x) q

-- the action that reaches a cell from the front, or from the back
abbrev pub reach : Part → ℕ → Action
reach Front c = Bottom c
reach Back c = Top c

-- the height at which n cells are reached from the front, or from the back
abbrev pub height_at : Part → ℕ → ℕ → ℕ
height_at Front cells n = n
height_at Back cells n = suc cells - n

-- the first n rows of the map by the front part of an action, or by its back part
abbrev pub RowsTo : Job → ℕ → ℕ → Part → ℕ → List ℕ → Type 0
RowsTo job cells j part n map = (k : ℕ) → k < n → RowOf job j (reach part (height_at part cells k)) map (height_at part cells k)

-- the maps of aisle j: for each cell and each demand, by its number, what is lacking after BOTTOM h and after TOP i
pub record MapsReady (job : Job) (j : ℕ) (fronts backs : List ℕ) : Type 0 where
  pub front : (h q : ℕ) → h ≤ job.layout.cells → q < weight job.lines
      → entry fronts h q ≡ less_code (radices job) (gains job j (Bottom h)) q
  pub back : (i q : ℕ) → 1 ≤ i → i ≤ suc job.layout.cells → q < weight job.lines
      → entry backs i q ≡ less_code (radices job) (gains job j (Top i)) q
