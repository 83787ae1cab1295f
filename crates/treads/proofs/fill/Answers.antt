use Rattle.std.proofs.Common.{ℕ, ◌-◌, ◌≡◌, ap, ◌∙◌, arith}
use Rattle.treads.specs.Filling.{with_aisles}
use Rattle.treads.proofs.fill.Goals as goal

pub returns : goal.returns
returns c =
    let x = c.args in
    let all : c.loop-aisle.aisle - 1 ≡ x.layout.aisles = omega arith in
    c.loop-aisle.invariant.1 ∙ ap (λ (n : ℕ). with_aisles x.layout.aisles x.layout.cells x.stages.now n x.left.now) all
