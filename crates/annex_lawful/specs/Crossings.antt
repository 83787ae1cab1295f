-- The treads at the crossings of a store: even at each, and those at the depot's.
use Prim.Native.Nat.{ℕ, ◌%◌, ◌≤◌}
use mathlib.Core.Path.{◌≡◌}
use Rattle.rules.specs.declared.Layout.{Layout}
use Rattle.rules.specs.declared.Side.{Side}
use Rattle.rules.specs.declared.Side.TheVariants.{FrontSide, BackSide}
use Rattle.rules.specs.Store.{Edge, side_of}
use Rattle.rules.specs.Plans.{Plan, multiplicity}
use Rattle.rules.specs.Lawful.{front_degree, back_degree}

-- each crossing of the first n aisles has an even number of treads
pub record EvenTo (z : Layout) (plan : Plan) (n : ℕ) : Type 0 where
  pub front : (j : ℕ) → 1 ≤ j → j ≤ n → front_degree (multiplicity plan) j % 2 ≡ 0
  pub back : (j : ℕ) → 1 ≤ j → j ≤ n → back_degree z (multiplicity plan) j % 2 ≡ 0

-- the treads at the crossing of aisle j at a side
abbrev pub side_degree : Side → Layout → (Edge → ℕ) → ℕ → ℕ
side_degree FrontSide z treads j = front_degree treads j
side_degree BackSide z treads j = back_degree z treads j

-- the treads at the depot's crossing
abbrev pub depot_degree : Layout → (Edge → ℕ) → ℕ
depot_degree z treads = side_degree (side_of z) z treads z.depot
