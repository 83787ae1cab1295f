-- `annex_search::search::Asked::passes` meets its contract: each test says one part of it, and what fails one is refused.
use mathlib.Core.Path.{sym, ap, ◌∙◌}
use mathlib.Core.Bool.{true≢false}
use lib.ListN.{length}
use Rattle.values.specs.Values.{plan_of}
use Rattle.annex_policy.proofs.AllowedLaws.{allowed_by, allowed_named, allowed_own}
use Rattle.annex_search.proofs.PassLaws.{refused, rules_asked, lawful_asked, stock_tells}
use Rattle.annex_search.proofs.search.Asked.passes.Goals as goal
use Rattle.annex_search.proofs.search.Asked.passes.Goals.{then-named, else-named, then-serves, else-serves}

pub returns-then-own_rule : goal.returns-then-own_rule
returns-then-own_rule c =
    let plan = plan_of c.args.plan in
    elim c.if-serves.branch [
      | then-serves w ↦ elim c.if-named.branch [
        | then-named v ↦ λ job a. (
            let n = (c.named.ensures job (rules_asked a)).0 v.if-named.true in
            let s = (stock_tells a v.serves.result v.serves.ensures).0 (sym v.value-is ∙ w.if-serves.true) in
            let o = (w.own_rule.ensures job a.asked_of_lem.policy a.asked_of_lem.between).0 (sym w.value-is ∙ c.if-own_rule.true) in
            let l = c.lawful_for.ensures job.lines (sym (ap length a.asked_of_lem.lines)) in
            let q = lawful_asked a in
            (λ e. (allowed_by job plan o n (q.0 (l.0 e)), s), λ p. l.1 (q.1 p.0.lawful))
            )
        | else-named v ↦ absurd (true≢false (sym w.if-serves.true ∙ v.value-is ∙ v.if-named.false))
      ]
      | else-serves w ↦ absurd (true≢false (sym c.if-own_rule.true ∙ w.value-is ∙ w.if-serves.false))
    ]

pub returns-else-own_rule : goal.returns-else-own_rule
returns-else-own_rule c =
    let plan = plan_of c.args.plan in
    elim c.if-serves.branch [
      | then-serves w ↦ λ job a. refused w.own_rule.result c.if-serves.value (w.own_rule.ensures job a.asked_of_lem.policy a.asked_of_lem.between)
          (sym w.value-is ∙ c.if-own_rule.false) c.if-own_rule.false (λ p. allowed_own job plan p.0)
      | else-serves w ↦ elim c.if-named.branch [
        | then-named v ↦ λ job a. refused v.serves.result c.if-serves.value (stock_tells a v.serves.result v.serves.ensures)
            (sym v.value-is ∙ w.if-serves.false) c.if-own_rule.false (λ p. p.1)
        | else-named v ↦ λ job a. refused c.named.result c.if-serves.value (c.named.ensures job (rules_asked a))
            v.if-named.false c.if-own_rule.false (λ p. allowed_named job plan p.0)
      ]
    ]
