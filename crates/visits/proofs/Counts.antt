-- Putting picks in order makes no more of them.
use Prim.Native.Nat.{◌≤◌}
use native.Mathlib.Omega.{arith}
use mathlib.Core.List.{List, [], ◌∷◌}
use mathlib.Core.Bool.{not}
use lib.ListN.{length, length-append}
use Rattle.rules.specs.declared.Layout.{Layout}
use Rattle.rules.specs.declared.Pick.{Pick}
use Rattle.rules.specs.Lists.{select}
use Rattle.rules.specs.Store.{Point, depot_point}
use Rattle.rules.specs.Walks.{Walk, walk_points}
use Rattle.rules.specs.Page.{picked_at, in_order_of, along_walk}
use Rattle.rules.proofs.WalkOrder.{select_parts, perm_length}

-- picks in the order of points are at most all
order_count : (ps : List Point) (picks : List Pick) → length (in_order_of ps picks) ≤ length picks
order_count [] picks = omega arith
order_count (p ∷ ps) picks =
    let here = select (picked_at p) picks in
    let others = select (λ x. not (picked_at p x)) picks in
    let all = perm_length (select_parts (picked_at p) picks) in
    omega (arith, length-append here (in_order_of ps others), order_count ps others, length-append here others)

-- so are they along a walk
pub along_count : (z : Layout) (walk : Walk) (picks : List Pick) → length (along_walk z walk picks) ≤ length picks
unfolding along_walk
along_count z walk picks = order_count (walk_points (depot_point z) walk) picks
