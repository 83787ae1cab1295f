-- A set of entered aisles as a number: a bit for each aisle.
use Prim.Native.Nat.{ℕ, ◌+◌, ◌*◌, ◌^◌}
use mathlib.Core.List.{List, [], ◌∷◌}
use mathlib.Core.Bool.{Bool, cond}
use lib.Bits.{bit_or}
use Rattle.rules.specs.declared.Action.{Action}
use Rattle.rules.specs.Plans.{Plan, entered}

-- a set with the aisle whose bit has that number, if it is entered
abbrev pub with_aisle_if : ℕ → ℕ → Bool → ℕ
with_aisle_if set aisle entered = cond entered (bit_or set (2 ^ aisle)) set

-- the same, if the action enters it
unfoldable pub with_aisle : ℕ → ℕ → Action → ℕ
with_aisle set aisle action = with_aisle_if set aisle (entered action)

-- the set of the aisles that a list of actions enters, the first one's bit the lowest
abbrev pub set_of : List Action → ℕ
set_of [] = 0
set_of (a ∷ actions) = cond (entered a) 1 0 + 2 * set_of actions

-- the set of the entered aisles of a plan, aisle j at bit j - 1
unfoldable pub entered_set : Plan → ℕ
entered_set plan = set_of plan.actions
