-- `annex_lawful::lawful::lawful_for` meets its contract: for no line and length 0 it is the plan that treads nothing.
use mathlib.Core.Path.{refl, sym, ◌∙◌}
use Rattle.annex_lawful.proofs.LawfulLaws.{idle_lawful, lawful_other}
use Rattle.annex_lawful.proofs.lawful.lawful_for.Goals as goal
use Rattle.annex_lawful.proofs.lawful.lawful_for.Goals.{else-orders-eq0-via-then-orders-eq0+else-size-eq0, else-orders-eq0-via-else-orders-eq0}

pub returns-then-size-eq0 : goal.returns-then-size-eq0
returns-then-size-eq0 c =
    let x = c.args in
    λ lines e. (λ r. idle_lawful x.z x.plan c.requires.0 lines (e ∙ c.if-orders-eq0.true) (sym c.requires.1 ∙ c.if-size-eq0.true), λ l. refl)

pub returns : goal.returns
returns c =
    let x = c.args in
    let r = c.lawful.ensures in
    λ lines e. (
    let t = lawful_other x.z x.plan c.requires.0 lines (λ n. elim c.else-orders-eq0.branch [
      | else-orders-eq0-via-then-orders-eq0+else-size-eq0 w ↦ w.if-size-eq0.false (c.requires.1 ∙ n.1)
      | else-orders-eq0-via-else-orders-eq0 w ↦ w.if-orders-eq0.false (sym e ∙ n.0)
    ]) in
    (λ q. t.0 (r.0 q), λ l. r.1 (t.1 l))
    )
