-- `aisles::repeats::repeats_of` meets its contract: the rows of the heights below h are compared with the next.
use mathlib.Core.Path.{◌≡◌}
use lib.ListN.{length}
use Rattle.aisles.specs.Repeating.{RepeatsTo}
use Rattle.aisles.proofs.repeats.repeats_of.Given as goal

abbrev pub invariant-loop-h : goal.invariant-loop-h
invariant-loop-h l = (length l.out ≡ 26) × RepeatsTo l.map l.weight l.out l.h
