-- What is named, a policy's own rule and lawfulness together are what the policy allows.
use Prim.Native.Nat.{ℕ}
use mathlib.Core.Path.{◌≡◌, refl, sym, ap, ap₂, ◌∙◌, subst}
use mathlib.Core.Bool.{Bool, true, false, ◌&&◌, ◌||◌, and-false, true≢false}
use Rattle.rules.specs.declared.Policy.{Policy}
use Rattle.rules.specs.declared.Policy.TheVariants.{Exact, Return, Traversal, Midpoint, Composite, Largest}
use Rattle.rules.specs.declared.Action.TheVariants.{Void}
use Rattle.rules.specs.Store.{side_of}
use Rattle.rules.specs.Hours.{is_open}
use Rattle.rules.specs.Jobs.{Job, holds_listed}
use Rattle.rules.specs.Plans.{Plan, action_at, passage_at}
use Rattle.rules.specs.Lawful.{LawfulFor}
use Rattle.rules.specs.Policies.{action_named, passage_named, OwnRule, PolicyRules, Follows, ShutVoid, Allowed}
use Rattle.annex_policy.specs.Ruled.{enters_any, may_be_entered, Named}
use Rattle.annex_policy.proofs.KindLaws.{exact_action, exact_passage}

module _ (job : Job) (plan : Plan) where
  -- the rules of the job's policy
  abbrev Rules : Type 0
  Rules = PolicyRules (OwnRule job.policy job plan) job plan

  -- shut aisles are VOID where those are that may not be entered
  named_shut : Named job plan → ShutVoid job.hours plan
  unfolding ShutVoid
  named_shut n j e = n.void j (ap (λ b. b && (enters_any job.policy || holds_listed job j)) e)

  -- under another policy than EXACT so are those that hold nothing of the list
  named_rules : (p : Policy) → job.policy ≡ p → enters_any p ≡ false → OwnRule p job plan → Named job plan → Rules
  named_rules p e any own n =
      record {
        actions = n.actions;
        passages = n.passages;
        void = λ j h. n.void j (ap₂ (λ b c. is_open job.hours j && (b || c)) (ap enters_any e ∙ any) h ∙ and-false (is_open job.hours j));
        own = subst (λ (q : Policy). OwnRule q job plan) (sym e) own;
      }

  -- and the other way round: an aisle that may not be entered is shut or holds nothing of the list
  rules_named : (p : Policy) → job.policy ≡ p → enters_any p ≡ false → Rules → ShutVoid job.hours plan → Named job plan
  unfolding ShutVoid
  rules_named p e any r shut = record { actions = r.actions; passages = r.passages; void = λ j h. go j (is_open job.hours j) refl (holds_listed job j) refl (closed j ∙ h) }
    where
      closed : (j : ℕ) → is_open job.hours j && holds_listed job j ≡ may_be_entered job j
      closed j = ap (λ b. is_open job.hours j && (b || holds_listed job j)) (sym (ap enters_any e ∙ any))

      go : (j : ℕ) (a : Bool) → is_open job.hours j ≡ a → (b : Bool) → holds_listed job j ≡ b → a && b ≡ false → action_at plan j ≡ Void
      go j false p b q h = shut j p
      go j true p true q h = absurd (true≢false h)
      go j true p false q h = r.void j q

  -- under EXACT all is named, and an aisle that may not be entered is shut
  exact_named : job.policy ≡ Exact → ShutVoid job.hours plan → Named job plan
  unfolding ShutVoid
  exact_named e shut =
      let side = side_of job.layout in
      record {
        actions = λ j. ap (λ p. action_named side p (action_at plan j)) e ∙ sym (exact_action side (action_at plan j));
        passages = λ j. ap (λ p. passage_named side p (passage_at plan j)) e ∙ sym (exact_passage side (passage_at plan j));
        void = λ j h. go j (is_open job.hours j) refl (ap (λ p. is_open job.hours j && (enters_any p || holds_listed job j)) (sym e) ∙ h);
      }
    where
      go : (j : ℕ) (a : Bool) → is_open job.hours j ≡ a → a && true ≡ false → action_at plan j ≡ Void
      go j false p h = shut j p
      go j true p h = absurd (true≢false h)

  -- what is named and a policy's own rule are its rules
  named_follows : (p : Policy) → job.policy ≡ p → OwnRule p job plan → Named job plan → Follows p job plan
  named_follows Exact e own n = tt
  named_follows Return e own n = named_rules Return e refl own n
  named_follows Traversal e own n = named_rules Traversal e refl own n
  named_follows Midpoint e own n = named_rules Midpoint e refl own n
  named_follows Composite e own n = named_rules Composite e refl own n
  named_follows Largest e own n = named_rules Largest e refl own n

  -- a plan that follows a policy and keeps out of shut aisles is of named actions and passages, VOID where it may not enter
  follows_named : (p : Policy) → job.policy ≡ p → Follows p job plan → ShutVoid job.hours plan → Named job plan
  follows_named Exact e r s = exact_named e s
  follows_named Return e r s = rules_named Return e refl r s
  follows_named Traversal e r s = rules_named Traversal e refl r s
  follows_named Midpoint e r s = rules_named Midpoint e refl r s
  follows_named Composite e r s = rules_named Composite e refl r s
  follows_named Largest e r s = rules_named Largest e refl r s

  -- and keeps to the policy's own rule
  follows_own : (p : Policy) → job.policy ≡ p → Follows p job plan → OwnRule job.policy job plan
  follows_own Exact e r = subst (λ (q : Policy). OwnRule q job plan) (sym e) tt
  follows_own Return e r = r.own
  follows_own Traversal e r = r.own
  follows_own Midpoint e r = r.own
  follows_own Composite e r = r.own
  follows_own Largest e r = r.own

  -- a lawful plan that is named and keeps to the policy's own rule is allowed
  pub allowed_by : OwnRule job.policy job plan → Named job plan → LawfulFor job.layout job.lines plan → Allowed job plan
  allowed_by own n l = record { lawful = l; follows = named_follows job.policy refl own n; shut = named_shut n }

  -- an allowed plan is named
  pub allowed_named : Allowed job plan → Named job plan
  allowed_named a = follows_named job.policy refl a.follows a.shut

  -- and keeps to the policy's own rule
  pub allowed_own : Allowed job plan → OwnRule job.policy job plan
  allowed_own a = follows_own job.policy refl a.follows
