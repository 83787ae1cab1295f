-- `annex_search::search::Asked::tried` meets its contract: plan n is no better than what is kept, or it does not pass, or it is kept instead.
use mathlib.Core.Path.{◌≡◌, refl, sym, ap, ◌∙◌}
use lib.Count.{ones}
use Rattle.rules.specs.declared.Layout.{Layout}
use Rattle.rules.specs.Plans.{plan_length}
use Rattle.rules.specs.Policies.{entered_aisles}
use Rattle.values.specs.Values.{plan_of}
use Rattle.entered.proofs.SetLaws.{ones_entered}
use Rattle.annex_search.specs.Searched.{improves_on}
use Rattle.annex_search.proofs.SearchLaws.{tried_asking, tried_at_lem, kept_skip, kept_take, kept_fail}
use Rattle.annex_search.proofs.search.Asked.tried.Goals as goal
use Rattle.annex_search.proofs.search.Asked.tried.Goals.{else-improves-via-then-improves+else-passes, else-improves-via-else-improves}

-- the tests may be made of it
pub plan_length-length-requires : goal.plan_length-length-requires
plan_length-length-requires c =
    let p = c.plan_at-plan in
    (tried_asking c.requires.0.1 p.result c.args.n p.ensures.0 p.ensures.1 c.requires.1).plan_for

pub passes-requires : goal.passes-requires
passes-requires c =
    let p = c.plan_at-plan in
    let a = c.requires.0 in
    ((a.0, tried_asking a.1 p.result c.args.n p.ensures.0 p.ensures.1 c.requires.1), c.plan_length-length.ensures)

pub returns-then-passes : goal.returns-then-passes
returns-then-passes c job a k =
    let x = c.args in
    let p = c.plan_at-plan in
    let plan = plan_of p.result in
    -- it is plan n of the job's own layout
    let t = tried_at_lem a p.result x.n p.ensures.0 p.ensures.1 c.requires.1 in
    -- its length in the job's own layout
    let size_known : c.plan_length-length.result ≡ plan_length job.layout plan =
    c.plan_length-length.ensures ∙ ap (λ (z : Layout). plan_length z plan) a.asked_of_lem.layout in
    -- whether it is better than what is kept, by that length
    let better_known : improves_on x.best (plan_length job.layout plan) (entered_aisles plan) ≡ c.improves.result =
    ap (λ n. improves_on x.best n (entered_aisles plan)) (sym size_known) ∙ sym c.improves.ensures in
    let asking = tried_asking a p.result x.n p.ensures.0 p.ensures.1 c.requires.1 in
    kept_take job x.best x.n plan k t.0 t.1 t.2 c.passes.result (c.passes.ensures job asking)
    c.if-passes.true
    (better_known ∙ c.if-improves.true)
    (record { length = c.plan_length-length.result; entered = c.entered_set-entered.result; plan = p.result })
    refl
    (record {
      aisles = p.ensures.0 ∙ ap (λ (z : Layout). z.aisles) a.asked_of_lem.layout;
      length = size_known;
      counted = ap ones c.entered_set-entered.ensures ∙ ones_entered plan;
    })

pub returns : goal.returns
returns c job a k =
    let x = c.args in
    let p = c.plan_at-plan in
    let plan = plan_of p.result in
    let t = tried_at_lem a p.result x.n p.ensures.0 p.ensures.1 c.requires.1 in
    elim c.else-improves.branch [
      | else-improves-via-then-improves+else-passes w ↦
          let asking = tried_asking a p.result x.n p.ensures.0 p.ensures.1 c.requires.1 in
          kept_fail job x.best x.n plan k t.0 t.1 t.2 w.passes.result (w.passes.ensures job asking) w.if-passes.false
      | else-improves-via-else-improves w ↦
          let size_known : c.plan_length-length.result ≡ plan_length job.layout plan =
          c.plan_length-length.ensures ∙ ap (λ (z : Layout). plan_length z plan) a.asked_of_lem.layout in
          let better_known : improves_on x.best (plan_length job.layout plan) (entered_aisles plan) ≡ c.improves.result =
          ap (λ n. improves_on x.best n (entered_aisles plan)) (sym size_known) ∙ sym c.improves.ensures in
          kept_skip job x.best x.n plan k t.0 t.1 t.2 (better_known ∙ w.if-improves.false)
    ]
