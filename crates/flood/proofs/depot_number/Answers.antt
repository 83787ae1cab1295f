-- `flood::depot_number` meets its contract: the height of the depot's point goes by the depot's side.
use Prim.Native.Nat.{◌+◌, ◌*◌, ◌≤◌}
use native.Mathlib.Omega.{arith}
use mathlib.Core.Path.{◌≡◌, sym, ap, ◌∙◌}
use mathlib.Core.Bool.{true}
use Rattle.rules.specs.declared.Layout.{Layout}
use Rattle.rules.specs.declared.Side.{Side}
use Rattle.rules.specs.declared.Side.TheVariants.{FrontSide, BackSide}
use Rattle.rules.specs.Store.{layout_in_bounds, side_of, height_at, depot_point}
use Rattle.closedwalks.proofs.Counts.{layout_bounds}
use Rattle.flood.specs.Points.{depot_number}
use Rattle.flood.proofs.depot_number.Goals as goal

-- the depot's number, where its side is known
number_at : (z : Layout) (side : Side) → side_of z ≡ side → 26 * z.depot + height_at side z.cells ≡ depot_number z
unfolding depot_number depot_point
number_at z side e = ap (λ s. 26 * z.depot + height_at s z.cells) (sym e)

-- the bounds of the numbers
small : (z : Layout) → layout_in_bounds z ≡ true → (z.depot ≤ 16) × (z.cells ≤ 24)
small z h = let b = layout_bounds z h in (omega (arith, b.0, b.3), b.1)

pub overflow_mul-front : goal.overflow_mul-front
overflow_mul-front c = omega (arith, small c.args.z c.requires)

pub overflow_add-back : goal.overflow_add-back
overflow_add-back c = omega (arith, small c.args.z c.requires)

pub overflow_add-back-2 : goal.overflow_add-back-2
overflow_add-back-2 c = omega (arith, small c.args.z c.requires)

pub returns-in-FrontSide : goal.returns-in-FrontSide
returns-in-FrontSide c =
    omega (arith, number_at c.args.z FrontSide (sym c.side-side.ensures ∙ c.in-FrontSide.is))

pub returns-in-BackSide : goal.returns-in-BackSide
returns-in-BackSide c =
    omega (arith, number_at c.args.z BackSide (sym c.side-side.ensures ∙ c.in-BackSide.is))
