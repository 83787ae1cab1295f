-- `between::positions::cell_position` meets its contract: the sum of the definition, and no part of it exceeds the sum's bound.
use native.Mathlib.Omega.{arith}
use Prim.Native.Nat.{◌≤◌}
use Rattle.rules.specs.Store.{cell_position}
use Rattle.rules.proofs.Ceiling.{cell_position_980}
use Rattle.rules.proofs.Admission.{layout_within}
use Rattle.between.proofs.positions.cell_position.Goals as goal
use Rattle.between.proofs.positions.cell_position.Goals.{Start}

pub overflow_mul-result : goal.overflow_mul-result
overflow_mul-result c =
    -- the whole sum's bound
    let whole : cell_position c.args.z c.args.i ≤ 980 = cell_position_980 c.args.z c.requires.0 c.args.i c.requires.2 in
    omega (arith, whole)

pub overflow_add-result : goal.overflow_add-result
overflow_add-result c =
    let whole : cell_position c.args.z c.args.i ≤ 980 = cell_position_980 c.args.z c.requires.0 c.args.i c.requires.2 in
    omega (arith, whole)

pub posts_before-requires : goal.posts_before-requires
posts_before-requires c =
    (((layout_within c.args.z).0 c.requires.0).posts, c.requires.1, c.requires.2)

pub overflow_add-result-2 : goal.overflow_add-result-2
overflow_add-result-2 c =
    let whole : cell_position c.args.z c.args.i ≤ 980 = cell_position_980 c.args.z c.requires.0 c.args.i c.requires.2 in
    let posts = c.posts_before.ensures in omega (arith, whole)

pub returns : goal.returns
returns c =
    let whole : cell_position c.args.z c.args.i ≤ 980 = cell_position_980 c.args.z c.requires.0 c.args.i c.requires.2 in
    let posts = c.posts_before.ensures in (omega arith, omega (arith, whole))
