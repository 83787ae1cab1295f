-- The plan of a number, where there is none.
use mathlib.Core.List.{[]}
use Rattle.rules.specs.Plans.{Plan}

-- a plan of no aisle, where there is none
abbrev pub no_plan : Plan
no_plan = record { actions = []; passages = [] }
