-- `aisles::layers::back_turn` meets its contract by its test.
use native.Mathlib.Omega.{arith}
use Rattle.aisles.proofs.Geometry.{within}
use Rattle.aisles.proofs.layers.back_turn.Goals as goal

pub overflow_add-z : goal.overflow_add-z
overflow_add-z c = let w = within c.args.z c.requires in omega arith
