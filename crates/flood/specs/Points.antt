-- How points are numbered: 26 numbers for each aisle.
use Rattle.std.specs.Prelude.{ℕ, ◌+◌, ◌-◌, ◌*◌}
use Rattle.rules.specs.declared.Layout.{Layout}
use Rattle.rules.specs.declared.Direction.{Direction}
use Rattle.rules.specs.declared.Direction.TheVariants.{Back, Front, Left, Right}
use Rattle.rules.specs.Store.{depot_point}

-- the number of the depot's point
unfoldable pub depot_number : Layout → ℕ
depot_number z = 26 * (depot_point z).aisle + (depot_point z).height

-- the number of the point that way
abbrev pub next_by : Direction → ℕ → ℕ
next_by Back n = n + 1
next_by Front n = n - 1
next_by Left n = n - 26
next_by Right n = n + 26
