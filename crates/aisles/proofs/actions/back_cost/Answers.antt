-- `aisles::actions::back_cost` meets its contract: no height lies past the back crossing.
use native.Mathlib.Omega.{arith}
use Rattle.rules.proofs.Lengths.{position_within}
use Rattle.aisles.proofs.actions.back_cost.Goals as goal

pub overflow_sub-result : goal.overflow_sub-result
overflow_sub-result c = let p = c.args in omega (arith, position_within p.z p.i)
