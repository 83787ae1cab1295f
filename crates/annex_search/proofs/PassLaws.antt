-- What the tests of one plan need, out of what is asked of a job.
use native.Mathlib.Omega.{arith}
use mathlib.Core.Path.{◌≡◌, sym, ap, subst, ◌∙◌}
use mathlib.Core.Logic.{◌↔◌}
use mathlib.Core.Bool.{Bool, true, false, false≢true}
use Rattle.rules.specs.declared.Layout.{Layout}
use Rattle.rules.specs.Jobs.{Job}
use Rattle.rules.specs.Lawful.{LawfulFor}
use Rattle.rules.specs.Serving.{PlanServes}
use Rattle.values.specs.declared.PlanValue.{PlanValue}
use Rattle.values.specs.Values.{plan_of}
use Rattle.annex_policy.specs.Ruled.{RulesAsked}
use Rattle.annex_search.specs.declared.search.Asked.{Asked}
use Rattle.annex_stock.specs.Stocked.{Held, all_supplied}
use Rattle.annex_stock.proofs.OfJob.{held_for, tells}
use Rattle.annex_search.specs.Searched.{Asking}

-- where a test fails that a claim needs, the claim is refused
pub refused : {Tested Claim : Type 0} (b r : Bool) → (b ≡ true) ↔ Tested → b ≡ false → r ≡ false → (Claim → Tested) → (r ≡ true) ↔ Claim
refused b r test failed refuse need = (λ e. absurd (false≢true (sym refuse ∙ e)), λ p. absurd (false≢true (sym failed ∙ test.1 (need p))))

module _ {job : Job} {asked : Asked} {plan : PlanValue} (a : Asking job asked plan) where
  -- what `named` asks
  pub rules_asked : RulesAsked job asked.layout asked.may asked.policy plan
  rules_asked =
      record {
        layout = a.asked_of_lem.layout;
        same = a.asked_of_lem.policy;
        may_at = λ j l h. a.asked_of_lem.may j l (omega (arith, h, a.plan_for.aisles));
      }

  -- lawfulness in the layout that is asked is lawfulness in the job's
  pub lawful_asked : LawfulFor asked.layout job.lines (plan_of plan) ↔ LawfulFor job.layout job.lines (plan_of plan)
  lawful_asked = (
    λ l. subst (λ (z : Layout). LawfulFor z job.lines (plan_of plan)) a.asked_of_lem.layout l,
    λ l. subst (λ (z : Layout). LawfulFor z job.lines (plan_of plan)) (sym a.asked_of_lem.layout) l,
  )

  -- the stock may be asked of the plan
  pub stock_held : Held asked.stock plan
  stock_held = held_for job asked.stock a.asked_of_lem.stock plan (a.plan_for.aisles ∙ ap (λ (z : Layout). z.aisles) a.asked_of_lem.layout)

  -- and tells whether it serves the list
  pub stock_tells : (r : Bool) → r ≡ all_supplied asked.stock asked.lines.now plan → (r ≡ true) ↔ PlanServes job (plan_of plan)
  stock_tells r e = tells job asked.stock a.asked_of_lem.stock asked.lines.now plan r e a.asked_of_lem.lines
