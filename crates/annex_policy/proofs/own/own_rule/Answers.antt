-- `annex_policy::own::own_rule` meets its contract: policy by policy, the layout and the policy being the job's.
use mathlib.Core.Path.{◌≡◌, refl, sym, subst, ◌∙◌}
use mathlib.Core.Logic.{◌↔◌, inl, inr}
use mathlib.Core.Bool.{Bool, true}
use Rattle.rules.specs.declared.Layout.{Layout}
use Rattle.rules.specs.declared.Policy.{Policy}
use Rattle.rules.specs.declared.Policy.TheVariants.{Exact, Return, Traversal, Midpoint, Composite, Largest}
use Rattle.rules.specs.Store.{side_of}
use Rattle.rules.specs.Jobs.{Job}
use Rattle.rules.specs.Policies.{OwnRule, TraversalRule, MidpointRule}
use Rattle.values.specs.Values.{plan_of}
use Rattle.annex_policy.specs.Middle.{BetweenAsked, is_largest, between_said}
use Rattle.annex_policy.proofs.MiddleLaws.{largest_rule}
use Rattle.annex_policy.proofs.own.own_rule.Goals as goal
use Rattle.annex_policy.proofs.own.own_rule.Goals.{Start}

pub returns-in-Exact : goal.returns-in-Exact
returns-in-Exact c =
    -- what holds of a policy's own rule holds of the job's
    let of_job_lem : ((p : Policy) (r : Bool) (job : Job) → c.args.policy ≡ p → c.args.policy ≡ job.policy → (r ≡ true) ↔ OwnRule p job (plan_of c.args.plan) → (r ≡ true) ↔ OwnRule job.policy job (plan_of c.args.plan)) = λ p r job told e. subst (λ (q : Policy). (r ≡ true) ↔ OwnRule q job (plan_of c.args.plan)) (sym told ∙ e) in
    elim c.in-Exact.is [
      | inl told ↦ λ job e a. of_job_lem Exact true job told e (λ r. tt, λ u. refl)
      | inr rest ↦ elim rest [
        | inl told ↦ λ job e a. of_job_lem Return true job told e (λ r. tt, λ u. refl)
        | inr told ↦ λ job e a. of_job_lem Composite true job told e (λ r. tt, λ u. refl)
      ]
    ]

pub returns-in-Traversal : goal.returns-in-Traversal
returns-in-Traversal c =
    let of_job_lem : ((p : Policy) (r : Bool) (job : Job) → c.args.policy ≡ p → c.args.policy ≡ job.policy → (r ≡ true) ↔ OwnRule p job (plan_of c.args.plan) → (r ≡ true) ↔ OwnRule job.policy job (plan_of c.args.plan)) = λ p r job told e. subst (λ (q : Policy). (r ≡ true) ↔ OwnRule q job (plan_of c.args.plan)) (sym told ∙ e) in
    λ job e a.
    of_job_lem Traversal c.traversal.result job c.in-Traversal.is e
    (subst (λ (z : Layout). (c.traversal.result ≡ true) ↔ TraversalRule (side_of z) z (plan_of c.args.plan)) a.layout c.traversal.ensures)

pub returns-in-Midpoint : goal.returns-in-Midpoint
returns-in-Midpoint c =
    let of_job_lem : ((p : Policy) (r : Bool) (job : Job) → c.args.policy ≡ p → c.args.policy ≡ job.policy → (r ≡ true) ↔ OwnRule p job (plan_of c.args.plan) → (r ≡ true) ↔ OwnRule job.policy job (plan_of c.args.plan)) = λ p r job told e. subst (λ (q : Policy). (r ≡ true) ↔ OwnRule q job (plan_of c.args.plan)) (sym told ∙ e) in
    -- and what holds of MIDPOINT's rule on the layout holds of it on the job's
    let midpoint_of : ((p : Policy) (r : Bool) (job : Job) → c.args.policy ≡ p → BetweenAsked (is_largest c.args.policy) job c.args.z c.args.betweens → ((gaps : Bool) (job : Job) → BetweenAsked gaps job c.args.z c.args.betweens → (r ≡ true) ↔ MidpointRule (side_of c.args.z) (λ j a. between_said gaps job j a ≡ true) (plan_of c.args.plan)) → (r ≡ true) ↔ MidpointRule (side_of job.layout) (λ j a. between_said (is_largest p) job j a ≡ true) (plan_of c.args.plan)) = λ p r job told a f. let x = c.args in
    subst (λ (z : Layout). (r ≡ true) ↔ MidpointRule (side_of z) (λ j b. between_said (is_largest p) job j b ≡ true) (plan_of x.plan)) a.layout
    (f (is_largest p) job (subst (λ (q : Policy). BetweenAsked (is_largest q) job x.z x.betweens) told a)) in
    elim c.in-Midpoint.is [
      | inl told ↦ λ job e a. of_job_lem Midpoint c.midpoint.result job told e (midpoint_of Midpoint c.midpoint.result job told a c.midpoint.ensures)
      | inr told ↦ λ job e a. (
          let m = midpoint_of Largest c.midpoint.result job told a c.midpoint.ensures in
          let l = largest_rule (side_of job.layout) job (plan_of c.args.plan) in
          of_job_lem Largest c.midpoint.result job told e (λ r. l.0 (m.0 r), λ r. m.1 (l.1 r))
          )
    ]
