-- The order by numbers: points are numbered, and at the number of a point stands the pick that is made there.
use Rattle.std.specs.Prelude.{ℕ, ◌+◌, ◌*◌, ◌≤◌, ◌<◌, ◌≡◌, List, [], ◌∷◌, ◌++◌, length, get_or, set, Option, Some, None, option_to_list}
use Rattle.rules.specs.declared.Pick.{Pick}
use Rattle.rules.specs.Walks.{Walk}
use Rattle.flood.specs.Points.{next_by}

-- the number of a pick's cell: 26 for each aisle
abbrev pub spot_of : Pick → ℕ
spot_of x = 26 * x.aisle + x.cell

-- the number of the point where these steps from n end
abbrev pub spot_after : ℕ → Walk → ℕ
spot_after n [] = n
spot_after n (d ∷ ds) = spot_after (next_by d n) ds

-- the number of a point of the largest store
abbrev pub PointNumber : ℕ → Type 0
PointNumber n = (26 ≤ n) × (n < 442)

-- these steps from n stay in it
abbrev pub StaysIn : ℕ → Walk → Type 0
StaysIn n [] = PointNumber n
StaysIn n (d ∷ ds) = PointNumber n × StaysIn (next_by d n) ds

-- the picks noted at their cells, in a list
abbrev pub noted_all : List Pick → List (Option Pick) → List (Option Pick)
noted_all [] noted = noted
noted_all (x ∷ xs) noted = noted_all xs (set noted (spot_of x) (Some x))

-- the pick that stands there, as a list
abbrev pub noted_at : List (Option Pick) → ℕ → List Pick
noted_at noted n = option_to_list (get_or noted n None)

-- the picks in the order of these steps from n: each is taken out where it is first met
abbrev pub picks_along : ℕ → Walk → List (Option Pick) → List Pick
picks_along n [] noted = []
picks_along n (d ∷ ds) noted = noted_at noted (next_by d n) ++ picks_along (next_by d n) ds (set noted (next_by d n) None)

-- what is left of the list then
abbrev pub taken_along : ℕ → Walk → List (Option Pick) → List (Option Pick)
taken_along n [] noted = noted
taken_along n (d ∷ ds) noted = taken_along (next_by d n) ds (set noted (next_by d n) None)

-- steps can be followed from a point: they stay in the store, and there is room for the picks that they meet
pub record Ahead (ds : Walk) (noted : List (Option Pick)) (order : List Pick) (at : ℕ) : Type 0 where
  pub size : length noted ≡ 442
  pub within : StaysIn at ds
  pub room : length order + length (picks_along at ds noted) ≤ 384

-- steps have been followed: the picks that they meet stand behind those that stood there
pub record Followed (ds : Walk) (noted₀ : List (Option Pick)) (order₀ : List Pick) (at₀ : ℕ) (noted : List (Option Pick)) (order : List Pick) (at : ℕ) : Type 0 where
  pub end : at ≡ spot_after at₀ ds
  pub left : noted ≡ taken_along at₀ ds noted₀
  pub met : order ≡ order₀ ++ picks_along at₀ ds noted₀
