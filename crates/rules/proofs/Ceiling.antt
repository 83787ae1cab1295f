-- The ceilings of distances and lengths in a store within the bounds.
use Prim.Native.Nat.{ℕ, ◌*◌, ◌-◌, ◌≤◌}
use mathlib.Core.Path.{◌≡◌}
use mathlib.Core.Bool.{true}
use native.Mathlib.Nat.{mul-le-mul, div-le_self}
use native.Mathlib.Omega.{arith}
use Rattle.rules.specs.declared.Posts.{Posts}
use Rattle.rules.specs.declared.Posts.TheVariants.{NoPosts, Every, Sided}
use Rattle.rules.specs.declared.Layout.{Layout}
use Rattle.rules.specs.Store.{posts_before, cell_position, aisle_length, layout_in_bounds, PostsWithin}
use Rattle.rules.specs.Plans.{Plan, WellFormed, plan_length}
use Rattle.rules.proofs.Admission.{layout_within}
use Rattle.rules.proofs.Lengths.{plan_length_bound}

-- within the bounds at most 23 posts of 10 dm are before a cell
pub posts_bound : (p : Posts) → PostsWithin p → (i : ℕ) → i ≤ 24 → posts_before p i ≤ 230
posts_bound NoPosts b i le = omega arith
posts_bound (Every q u) b i le = mul-le-mul {n₂ = 10} {m₂ = 23} b.2 (omega (arith, div-le_self (i - 1) q))
posts_bound (Sided q u side) b i le = mul-le-mul {n₂ = 10} {m₂ = 23} b.2 (omega (arith, div-le_self (i - 1) q))

-- so no cell lies further than 980 from the front, and no aisle is longer than 1,040
pub cell_position_980 : (z : Layout) → layout_in_bounds z ≡ true → (i : ℕ) → i ≤ 24 → cell_position z i ≤ 980
cell_position_980 z bounds i le =
    let b = (layout_within z).0 bounds in
    let pitches : (i - 1) * z.pitch ≤ 23 * 30 = mul-le-mul {n₂ = 23} {m₂ = 30} (omega arith) (omega arith) in
    omega (arith, posts_bound z.posts b.posts i le)

aisle_length_1040 : (z : Layout) → layout_in_bounds z ≡ true → aisle_length z ≤ 1040
unfolding aisle_length
aisle_length_1040 z bounds =
    let b = (layout_within z).0 bounds in omega (arith, cell_position_980 z bounds z.cells (omega arith))

-- so no tour exceeds 57,280
pub plan_length_57280 : (z : Layout) (plan : Plan) → layout_in_bounds z ≡ true → WellFormed z plan → plan_length z plan ≤ 57280
plan_length_57280 z plan bounds wf =
    let b = (layout_within z).0 bounds in
    let aisle = aisle_length_1040 z bounds in
    let actions : z.aisles * (2 * aisle_length z) ≤ 16 * 2080 = mul-le-mul {n₂ = 16} {m₂ = 2080} (omega arith) (omega arith) in
    let passages : (z.aisles - 1) * (4 * z.width) ≤ 15 * 1600 = mul-le-mul {n₂ = 15} {m₂ = 1600} (omega arith) (omega arith) in
    omega (arith, plan_length_bound z plan wf)
