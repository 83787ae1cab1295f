-- One more state is filled into both lists.
use Rattle.std.proofs.Common.{arith, ◌∙◌, ap, length-set, get_or, ℕ, ◌+◌, min}
use Rattle.optimum.specs.Routing.{sat}
use Rattle.optimum.specs.Least.{sum_up_to}
use Rattle.rows.specs.Pairs.{ones_of}
use Rattle.demand.proofs.Filling.{filled_one}
use Rattle.rows.proofs.shorter.Goals as goal

pub loop-s-preserved : goal.loop-s-preserved
unfolding sum_up_to
loop-s-preserved c =
    let p = c.args in
    let o = c.loop-s in
    let way = c.saturating_add-way.ensures in
    let here : ℕ → ℕ = λ s. get_or p.row.now (p.at + s) 0 in
    let mine : ℕ → ℕ = λ s. get_or p.spared.now (p.at + s) 0 in
    let there : ℕ → ℕ = λ s. sat p.cost (get_or p.perm.now (p.from + s) 0) in
    let theirs : ℕ → ℕ = λ s. get_or p.theirs.now (p.from + s) 0 in (
      length-set o.lengths o.s c.min.result ∙ o.invariant.0,
      length-set o.ones o.s c.ones_of.result ∙ o.invariant.1,
      filled_one (λ s. min (here s) (there s)) o.lengths o.s c.min.result (omega (arith, o.invariant.0)) o.invariant.2 (c.min.ensures ∙ ap (min (here o.s)) way),
      filled_one (λ s. ones_of (here s) (mine s) (there s) (theirs s)) o.ones o.s c.ones_of.result (omega (arith, o.invariant.1)) o.invariant.3
          (c.ones_of.ensures ∙ ap (λ n. ones_of (here o.s) (mine o.s) n (theirs o.s)) way),
    )
