-- The actions that rank behind TOP: the GAPs by the cell that their front part reaches, then ONCE and TWICE.
use Prim.Native.Nat.{ℕ, suc, ◌-◌}
use mathlib.Core.List.{List, [], ◌∷◌, ◌++◌, map}
use Rattle.rules.specs.declared.Action.{Action}
use Rattle.rules.specs.declared.Action.TheVariants.{Gap, Once, Twice}
use Rattle.rules.specs.Lists.{from, concat_of}

-- the GAPs of an aisle whose front part reaches cell h
unfoldable pub gaps_at : ℕ → ℕ → List Action
gaps_at cells h = map (Gap h) (from (suc h) (cells - h))

-- the actions that rank behind TOP, from the GAPs at cell h on
unfoldable pub gaps_from : ℕ → ℕ → ℕ → List Action
gaps_from cells h n = concat_of (gaps_at cells) (from h n) ++ (Once ∷ Twice ∷ [])
