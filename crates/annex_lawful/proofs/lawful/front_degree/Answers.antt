-- `annex_lawful::lawful::front_degree` meets its contract: the treads of the aisle's edge there and of the passages on both sides.
use native.Mathlib.Omega.{arith}
use mathlib.Core.Path.{ap, ◌∙◌}
use Rattle.rules.specs.Plans.{multiplicity, aisle_treads, front_treads}
use Rattle.rules.specs.Lawful.{front_degree}
use Rattle.annex_lawful.proofs.lawful.front_degree.Goals as goal
use Rattle.annex_lawful.proofs.lawful.front_degree.Goals.{Start}

pub returns : goal.returns
unfolding front_degree multiplicity
returns c =
    let inner = c.aisle_treads.ensures ∙ ap (λ x. aisle_treads x 0) c.action_of.ensures in
    let before = c.front_treads.ensures ∙ ap front_treads c.passage_of.ensures in
    let behind = c.front_treads-2.ensures ∙ ap front_treads c.passage_of-2.ensures in
    omega (arith, inner, before, behind)
