-- `annex_lawful::lengths::passage_length` meets its contract: w for each tread of its two edges.
use Prim.Native.Nat.{◌+◌, ◌*◌}
use native.Mathlib.Omega.{arith}
use mathlib.Core.Path.{◌≡◌, ap, ◌∙◌}
use Rattle.rules.specs.Lengths.{passage_length}
use Rattle.rules.specs.Plans.{back_treads}
use Rattle.annex_lawful.proofs.LengthLaws.{passage_few}
use Rattle.annex_lawful.proofs.lengths.passage_length.Goals as goal
use Rattle.annex_lawful.proofs.lengths.passage_length.Goals.{After-front_treads}

pub overflow_mul-result : goal.overflow_mul-result
unfolding passage_length
overflow_mul-result c =
    -- the treads of both edges, times w
    let counted : (let x = c.args in (c.from.result + c.from-2.result) * x.z.width ≡ passage_length x.z x.passage) = let x = c.args in
    ap (λ n. (n + c.from-2.result) * x.z.width) (c.from.ensures ∙ c.back_treads.ensures)
    ∙ ap (λ n. (back_treads x.passage + n) * x.z.width) (c.from-2.ensures ∙ c.front_treads.ensures) in
    omega (arith, counted, passage_few c.args.z c.args.passage c.requires)

pub returns : goal.returns
unfolding passage_length
returns c =
    let counted : (let x = c.args in (c.from.result + c.from-2.result) * x.z.width ≡ passage_length x.z x.passage) = let x = c.args in
    ap (λ n. (n + c.from-2.result) * x.z.width) (c.from.ensures ∙ c.back_treads.ensures)
    ∙ ap (λ n. (back_treads x.passage + n) * x.z.width) (c.from-2.ensures ∙ c.front_treads.ensures) in
    (counted, omega (arith, counted, passage_few c.args.z c.args.passage c.requires))
