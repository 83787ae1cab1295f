-- `between::halves::front_half` meets its contract: both sides of the test are those of the definition.
use Prim.Native.Nat.{◌*◌}
use Rattle.rules.specs.Policies.{in_front_half}
use lib.Dec.{leb}
use mathlib.Core.Path.{ap₂}
use Rattle.between.proofs.halves.front_half.Goals as goal

pub returns : goal.returns
unfolding in_front_half
returns c = ap₂ (λ n m. leb (2 * n) m) c.position_of.ensures.0 c.aisle_length.ensures.0
