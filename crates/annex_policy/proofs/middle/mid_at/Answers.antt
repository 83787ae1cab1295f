-- `annex_policy::middle::mid_at` meets its contract: the three tests are the three cases of what is asked.
use mathlib.Core.Path.{◌≡◌, sym, subst, subst₂, ◌∙◌}
use mathlib.Core.Logic.{◌↔◌}
use mathlib.Core.Bool.{Bool, true}
use Rattle.annex_policy.specs.Middle.{between_said, MidAt}
use Rattle.annex_policy.proofs.middle.mid_at.Goals as goal

pub returns-then-single : goal.returns-then-single
returns-then-single c =
    let x = c.args in
    λ gaps job j e f.
    subst (λ (q : Bool). (c.walks_as.result ≡ true) ↔ MidAt x.side q x.end x.action (between_said gaps job j x.action))
    (sym c.if-single.true)
    c.walks_as.ensures

pub returns-then-end : goal.returns-then-end
returns-then-end c =
    let x = c.args in
    λ gaps job j e f.
    subst₂ (λ (q p : Bool). (c.walks_as-then-end.result ≡ true) ↔ MidAt x.side q p x.action (between_said gaps job j x.action))
    (sym c.if-single.false)
    (sym c.if-end.true)
    c.walks_as-then-end.ensures

pub returns : goal.returns
returns c =
    let x = c.args in
    λ gaps job j e f. (
    let said = c.keeps_between.ensures gaps job j e f in
    subst₂ (λ (q p : Bool). (c.keeps_between.result ≡ true) ↔ MidAt x.side q p x.action (between_said gaps job j x.action))
    (sym c.if-single.false)
    (sym c.if-end.false)
    (λ r. sym said ∙ r, λ r. said ∙ r)
    )
