-- Document 01, "Plans": when a plan is lawful; and request #101: for an empty list.
use Rattle.std.specs.Prelude.{ℕ, ◌+◌, ◌-◌, ◌%◌, ◌≤◌, ◌<◌, ◌≡◌, ◌⊎◌, List, [], ◌∷◌}
use Rattle.rules.specs.declared.Layout.{Layout}
use Rattle.rules.specs.declared.OrderLine.{OrderLine}
use Rattle.rules.specs.Store.{Point, Edge, along, front, back, start_of, end_of, Joins, InStore, depot_point}
use Rattle.rules.specs.Plans.{Plan, WellFormed, multiplicity}

-- how often the edges at the front crossing of aisle j are trodden; no edge leads beyond the first and the last aisle
unfoldable pub front_degree : (Edge → ℕ) → ℕ → ℕ
front_degree treads j = treads (along j 0) + treads (front (j - 1)) + treads (front j)

-- the same at the back crossing
unfoldable pub back_degree : Layout → (Edge → ℕ) → ℕ → ℕ
back_degree z treads j = treads (along j z.cells) + treads (back (j - 1)) + treads (back j)

-- an edge of the store that is trodden
unfoldable pub Trodden : Layout → (Edge → ℕ) → Edge → Type 0
Trodden z treads e = InStore z e × (0 < treads e)

-- a point that is an end of a trodden edge
unfoldable pub Touched : Layout → (Edge → ℕ) → Point → Type 0
Touched z treads x = (e : Edge) × Trodden z treads e × ((x ≡ start_of z e) ⊎ (x ≡ end_of z e))

-- a chain of trodden edges from one point to another
pub data Linked (z : Layout) (treads : Edge → ℕ) (y : Point) : Point → Type 0 where
  here : Linked z treads y y
  step : {x w : Point} (e : Edge) → Trodden z treads e → Joins z e x w → Linked z treads y w → Linked z treads y x

-- "lawful", with the depot at a given crossing: a plan of the store in which each crossing has an even number of treads, all trodden edges
-- hang together, and the depot's crossing touches one of them
pub record LawfulAt (depot : Point) (z : Layout) (plan : Plan) : Type 0 where
  pub well_formed : WellFormed z plan
  pub front_even : (j : ℕ) → 1 ≤ j → j ≤ z.aisles → front_degree (multiplicity plan) j % 2 ≡ 0
  pub back_even : (j : ℕ) → 1 ≤ j → j ≤ z.aisles → back_degree z (multiplicity plan) j % 2 ≡ 0
  pub together : (x y : Point) → Touched z (multiplicity plan) x → Touched z (multiplicity plan) y → Linked z (multiplicity plan) y x
  pub depot_touched : Touched z (multiplicity plan) depot

-- "lawful", with the depot where the store has it
abbrev pub Lawful : Layout → Plan → Type 0
Lawful z plan = LawfulAt (depot_point z) z plan

-- the plan that treads nothing: a plan of the store in which every edge has no tread
pub record TreadsNothing (z : Layout) (idle : Plan) : Type 0 where
  pub well_formed : WellFormed z idle
  pub untrodden : (e : Edge) → InStore z e → multiplicity idle e ≡ 0

-- lawful for a list: for an empty list the plan that treads nothing is lawful too
abbrev pub LawfulFor : Layout → List OrderLine → Plan → Type 0
LawfulFor z [] plan = Lawful z plan ⊎ TreadsNothing z plan
LawfulFor z (l ∷ lines) plan = Lawful z plan
