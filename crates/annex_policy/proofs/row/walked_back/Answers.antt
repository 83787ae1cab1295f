-- `annex_policy::row::walked_back` meets its contract: the test is the definition's.
use Prim.Native.Nat.{◌+◌, ◌*◌}
use mathlib.Core.Path.{refl}
use borrow.Author.Tests.{lt-ltb, le-ltb}
use Rattle.annex_policy.proofs.row.walked_back.Goals as goal

pub returns-then-z : goal.returns-then-z
returns-then-z c = let x = c.args in rw (lt-ltb (x.z.aisles + 1) (2 * x.z.depot) c.if-z.true) refl

pub returns : goal.returns
returns c = let x = c.args in rw (le-ltb (x.z.aisles + 1) (2 * x.z.depot) c.if-z.false) refl
