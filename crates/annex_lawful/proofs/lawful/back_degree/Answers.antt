-- `annex_lawful::lawful::back_degree` meets its contract: the treads of the aisle's edge there and of the passages on both sides.
use native.Mathlib.Omega.{arith}
use mathlib.Core.Path.{ap, ◌∙◌}
use Rattle.rules.specs.Plans.{multiplicity, aisle_treads, back_treads}
use Rattle.rules.specs.Lawful.{back_degree}
use Rattle.annex_lawful.proofs.lawful.back_degree.Goals as goal
use Rattle.annex_lawful.proofs.lawful.back_degree.Goals.{Start}

pub returns : goal.returns
unfolding back_degree multiplicity
returns c =
    let inner = c.aisle_treads.ensures ∙ ap (λ x. aisle_treads x c.args.z.cells) c.action_of.ensures in
    let before = c.back_treads.ensures ∙ ap back_treads c.passage_of.ensures in
    let behind = c.back_treads-2.ensures ∙ ap back_treads c.passage_of-2.ensures in
    omega (arith, inner, before, behind)
