-- The executable test is the rules: under each policy it accepts just the plans that the policy allows.
use Prim.Native.Nat.{◌≤◌}
use mathlib.Core.Path.{◌≡◌, refl, sym, subst}
use mathlib.Core.Logic.{◌⊎◌, inl, inr, ◌↔◌}
use mathlib.Core.List.{List, [], ◌∷◌}
use mathlib.Core.Bool.{true}
use Rattle.rules.specs.declared.OrderLine.{OrderLine}
use Rattle.rules.specs.declared.Policy.TheVariants.{Exact}
use Rattle.rules.specs.Jobs.{Job}
use Rattle.rules.specs.Plans.{Plan, WellFormed}
use Rattle.rules.specs.Lawful.{Lawful, TreadsNothing, LawfulFor}
use Rattle.rules.specs.Policies.{Follows, ShutVoid, Allowed}
use Rattle.rules.specs.Machine.{closes_off, accepts}
use Rattle.rules.proofs.EmptyPlan.{one_empty_plan, empty_action, empty_follows}
use Rattle.rules.proofs.EmptyList.{lawful_for, lawful_well_formed, accepted_by}
use Rattle.tours.proofs.Runs.{closes_by_table}
use Rattle.tours.proofs.Rules.{policy_table_lem, follows_rules}

module _ (job : Job) (plan : Plan) (depot_low : 1 ≤ job.layout.depot) where
  -- the machine closes off just the lawful plans that follow the policy and keep out of shut aisles
  closes_lawful : WellFormed job.layout plan
      → (closes_off job plan ≡ true) ↔ (Lawful job.layout plan × Follows job.policy job plan × ShutVoid job.hours plan)
  closes_lawful wf = (forth, back)
    where
      forth : closes_off job plan ≡ true → Lawful job.layout plan × Follows job.policy job plan × ShutVoid job.hours plan
      forth h =
          let t = (closes_by_table job wf).0 h in
          let r = (policy_table_lem job wf depot_low job.policy (λ j. (t.0 j).passage)).0 t.1 in
          let f = (follows_rules job plan job.policy refl).0 (t.0, r.1) in
          (r.0, f.0, f.1)

      back : Lawful job.layout plan × Follows job.policy job plan × ShutVoid job.hours plan → closes_off job plan ≡ true
      back (law, follows, shut) =
          let f = (follows_rules job plan job.policy refl).1 (follows, shut) in
          (closes_by_table job wf).1
          (f.0, (policy_table_lem job wf depot_low job.policy (λ j. (f.0 j).passage)).1 (law, f.1))

  -- a plan is lawful for the list: lawful, or it treads nothing and the list is empty
  by_list : (lines : List OrderLine) → job.lines ≡ lines → LawfulFor job.layout lines plan → Lawful job.layout plan ⊎ ((job.lines ≡ []) × TreadsNothing job.layout plan)
  by_list [] e (inl law) = inl law
  by_list [] e (inr idle) = inr (e, idle)
  by_list (l ∷ lines) e law = inl law

  -- the job's policy allows just the plans of the store that are accepted
  pub accepts_allowed : (WellFormed job.layout plan × (accepts job plan ≡ true)) ↔ Allowed job plan
  unfolding ShutVoid
  accepts_allowed = (λ p. forth p.0 ((accepted_by job plan p.0).0 p.1), λ a. (formed a, (accepted_by job plan (formed a)).1 (back a)))
    where
      formed : Allowed job plan → WellFormed job.layout plan
      formed a = lawful_well_formed job.layout job.lines plan a.lawful

      forth : WellFormed job.layout plan → (closes_off job plan ≡ true) ⊎ ((job.lines ≡ []) × TreadsNothing job.layout plan) → Allowed job plan
      forth wf (inl h) =
          let t = (closes_lawful wf).0 h in
          record { lawful = lawful_for job.layout job.lines plan t.0; follows = t.1; shut = t.2 }
      forth wf (inr (none, idle)) =
          record {
            lawful = subst (λ lines. LawfulFor job.layout lines plan) (sym none) (inr idle);
            follows = subst (Follows job.policy job) (sym (one_empty_plan job.layout plan idle)) (empty_follows job job.policy);
            shut = subst (ShutVoid job.hours) (sym (one_empty_plan job.layout plan idle)) (λ j e. empty_action job.layout j);
          }

      back : Allowed job plan → (closes_off job plan ≡ true) ⊎ ((job.lines ≡ []) × TreadsNothing job.layout plan)
      back a = elim (by_list job.lines refl a.lawful) [
        | inl law ↦ inl ((closes_lawful (formed a)).1 (law, a.follows, a.shut))
        | inr idle ↦ inr idle
      ]

-- under EXACT: just the plans that are lawful for the list and keep out of shut aisles
pub accepts_lawful : (job : Job) (plan : Plan) → job.policy ≡ Exact → 1 ≤ job.layout.depot
    → (WellFormed job.layout plan × (accepts job plan ≡ true)) ↔ (LawfulFor job.layout job.lines plan × ShutVoid job.hours plan)
accepts_lawful job plan e depot_low =
    let a = accepts_allowed job plan depot_low in
    ((λ h. let b = a.0 h in (b.lawful, b.shut)), (λ p. a.1 (record { lawful = p.0; follows = rw e tt; shut = p.1 })))
