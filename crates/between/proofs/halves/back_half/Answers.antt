-- `between::halves::back_half` meets its contract: both sides of the test are those of the definition.
use Prim.Native.Nat.{◌*◌}
use Rattle.rules.specs.Policies.{in_back_half}
use lib.Dec.{leb}
use mathlib.Core.Path.{ap₂}
use Rattle.between.proofs.halves.back_half.Goals as goal

pub returns : goal.returns
unfolding in_back_half
returns c = ap₂ (λ n m. leb n (2 * m)) c.aisle_length.ensures.0 c.position_of.ensures.0
