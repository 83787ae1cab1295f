-- `aisles::actions::action_length` meets its contract: the sum of its two parts.
use native.Mathlib.Omega.{arith}
use mathlib.Core.Path.{◌∙◌}
use Rattle.rules.specs.Plans.{kind_of}
use Rattle.aisles.proofs.Geometry.{within, length_of_parts}
use Rattle.aisles.proofs.actions.action_length.Goals as goal

pub reach_of-requires : goal.reach_of-requires
reach_of-requires c = let w = within c.args.z c.requires in omega (arith, w.cells.1)

pub returns : goal.returns
returns c =
    let z = c.args.z in
    let a = c.args.action in
    (rw (c.kind.ensures, c.reach_of.ensures.0, c.reach_of.ensures.1) at c.length.ensures.0 ∙ length_of_parts z a, c.length.ensures.1)
