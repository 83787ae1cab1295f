-- How far the parts of an action reach, what they cost, and the test for aisles between.
use Rattle.std.specs.Prelude.{ℕ, suc, ◌+◌, ◌*◌, ◌-◌, List, [], ◌∷◌, ◌++◌, map, Bool, false, not, ◌&&◌}
use Rattle.rules.specs.declared.Layout.{Layout}
use Rattle.rules.specs.declared.Action.{Action}
use Rattle.rules.specs.declared.Action.TheVariants.{Void, Bottom, Top, Gap, Once, Twice}
use Rattle.rules.specs.declared.Kind.{Kind}
use Rattle.rules.specs.declared.Kind.TheVariants.{Void as VOID, Bottom as BOTTOM, Top as TOP, Gap as GAP, Once as ONCE, Twice as TWICE}
use Rattle.rules.specs.Store.{position, aisle_length}
use Rattle.rules.specs.Lists.{from, concat_of}
use Rattle.rules.specs.Policies.{through}
use Rattle.between.specs.declared.Between.{Between}
use Rattle.between.specs.Between.{allows_turns}

-- the height that the front part of an action reaches, in an aisle with so many cells: 0 for none, all cells where it goes through
abbrev pub front_of : ℕ → Action → ℕ
front_of cells Void = 0
front_of cells (Bottom i) = i
front_of cells (Top i) = 0
front_of cells (Gap h i) = h
front_of cells Once = cells
front_of cells Twice = cells

-- the height that its back part reaches; the back crossing for none
abbrev pub back_of : ℕ → Action → ℕ
back_of cells Void = suc cells
back_of cells (Bottom i) = suc cells
back_of cells (Top i) = i
back_of cells (Gap h i) = i
back_of cells Once = suc cells
back_of cells Twice = suc cells

-- what the front part of a kind of action costs: there and back, or the whole aisle once or twice
abbrev pub front_cost : Layout → Kind → ℕ → ℕ
front_cost z VOID h = 2 * position z h
front_cost z BOTTOM h = 2 * position z h
front_cost z TOP h = 2 * position z h
front_cost z GAP h = 2 * position z h
front_cost z ONCE h = aisle_length z
front_cost z TWICE h = 2 * aisle_length z

-- what the back part costs: there and back, from the back crossing
abbrev pub back_cost : Layout → ℕ → ℕ
back_cost z i = 2 * (aisle_length z - position z i)

-- what the parts of a kind of action cost that reach so far
abbrev pub parts_length : Layout → Kind → ℕ → ℕ → ℕ
parts_length z kind front back = front_cost z kind front + back_cost z back

-- whether an action of a kind whose parts reach so far passes the test for aisles between: it is walked there and back, and its two turns pass
abbrev pub parts_between : Between → Kind → ℕ → ℕ → Bool
parts_between b VOID front back = allows_turns b front back
parts_between b BOTTOM front back = allows_turns b front back
parts_between b TOP front back = allows_turns b front back
parts_between b GAP front back = allows_turns b front back
parts_between b ONCE front back = false
parts_between b TWICE front back = false

-- whether an action passes the test for aisles between: it is walked there and back, and its two turns pass
unfoldable pub passes_between : Between → ℕ → Action → Bool
passes_between b cells a = not (through a) && allows_turns b (front_of cells a) (back_of cells a)

-- the GAPs of an aisle whose front part reaches cell h
unfoldable pub gaps_at : ℕ → ℕ → List Action
gaps_at cells h = map (Gap h) (from (suc h) (cells - h))

-- the actions that rank behind TOP, from the GAPs at cell h on
unfoldable pub gaps_from : ℕ → ℕ → ℕ → List Action
gaps_from cells h n = concat_of (gaps_at cells) (from h n) ++ (Once ∷ Twice ∷ [])
