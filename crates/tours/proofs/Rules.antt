-- The rules of a policy: its table closes off the plans that keep its own rule, and the machine's tests ask the rest.
use Prim.Native.Nat.{ℕ, zero, suc, ◌≤◌}
use mathlib.Core.Path.{◌≡◌, refl, sym, ◌∙◌, ap}
use mathlib.Core.Logic.{◌↔◌}
use mathlib.Core.Bool.{Bool, true, false, ◌&&◌, ◌||◌, and-false, or-false}
use Rattle.rules.specs.declared.Side.{Side}
use Rattle.rules.specs.declared.Side.TheVariants.{FrontSide, BackSide}
use Rattle.rules.specs.declared.Layout.{Layout}
use Rattle.rules.specs.declared.Policy.{Policy}
use Rattle.rules.specs.declared.Policy.TheVariants.{Exact, Return, Traversal, Midpoint, Composite, Largest}
use Rattle.rules.specs.declared.Action.{Action}
use Rattle.rules.specs.declared.Action.TheVariants.{Void, Bottom, Top, Gap, Once, Twice}
use Rattle.rules.specs.declared.Passage.{Passage}
use Rattle.rules.specs.declared.Passage.TheVariants.{P00, P02, P11, P20, P22}
use Rattle.rules.specs.Store.{side_of}
use Rattle.rules.specs.Hours.{is_open}
use Rattle.rules.specs.Jobs.{Job, holds_listed}
use Rattle.rules.specs.Plans.{Plan, WellFormed, action_at, passage_at}
use Rattle.rules.specs.Lawful.{Lawful}
use Rattle.rules.specs.Turned.{seen_from, seen, seen_passage, seen_plan}
use Rattle.rules.specs.declared.End.{End}
use Rattle.rules.specs.Policies.{action_named, passage_named, walk_back_end, halved, TraversalRule, OwnRule, PolicyRules, Follows, ShutVoid}
use Rattle.rules.specs.Machine.{State, closed, lawful_step, policy_step, keeps_largest_gap, is_void, may_enter, enterable, action_possible}
use Rattle.rules.proofs.EmptyPlan.{void_told}
use Rattle.rules.proofs.Stops.{largest_gap}
use Rattle.mirror.proofs.Lawful.{lawful_seen}
use Rattle.rules.proofs.Named.{action_named_lem, passage_named_lem}
use Rattle.mirror.proofs.Rules.{seen_formed, seen_passage_at, traversal_seen, midpoint_seen}
use Rattle.tours.specs.Prefixes.{lawful_state, policy_state}
use Rattle.tours.proofs.Basics.{or-true, true_not_false, false_not_true}
use Rattle.tours.proofs.Exact.{closed_iff_lawful}
use Rattle.tours.proofs.Runs.{Possible, seen_test}
use Rattle.tours.proofs.Traversal.{traversal_table}
use Rattle.tours.proofs.Midpoint.{BetweenLaws, TestRule, midpoint_table, largest_run, weaker_rule}

-- EXACT, RETURN and COMPOSITE share one table
same_run : (policy : Policy) (between : ℕ → Action → Bool) (z : Layout) (plan : Plan)
    → ((end : End) (test : Action → Bool) (a : Action) (s : State) → policy_step policy end test a s ≡ lawful_step a s)
    → (n : ℕ) → policy_state policy between z plan n ≡ lawful_state z.depot plan n
same_run policy between z plan same zero = refl
same_run policy between z plan same (suc i) =
    rw (same_run policy between z plan same i, same (walk_back_end z) (between (suc i)) (action_at plan (suc i)) (lawful_state z.depot plan i))

-- MIDPOINT's test, the halves, keeps the laws of a test for aisles between
halves_laws : (z : Layout) → BetweenLaws (λ j a. halved z a)
halves_laws z = record { void = λ j. refl; once = λ j. refl; twice = λ j. refl }

-- and so does LARGEST's, the largest gap
pub largest_laws : (job : Job) → BetweenLaws (keeps_largest_gap job)
unfolding keeps_largest_gap
largest_laws job = record { void = λ j. refl; once = λ j. refl; twice = λ j. refl }

-- a test keeps its laws when it is asked of the action as it is seen
seen_laws : (side : Side) (cells : ℕ) (test : ℕ → Action → Bool) → BetweenLaws test → BetweenLaws (λ j a. test j (seen_from side cells a))
seen_laws FrontSide cells test laws = laws
seen_laws BackSide cells test laws = record { void = laws.void; once = laws.once; twice = laws.twice }

module _ (job : Job) {plan : Plan} (wf : WellFormed job.layout plan) (depot_low : 1 ≤ job.layout.depot) where
  -- the depot's side
  abbrev side : Side
  side = side_of job.layout

  -- the plan as it is seen from there
  abbrev facing : Plan
  facing = seen_plan job.layout plan

  facing_formed : WellFormed job.layout facing
  facing_formed = seen_formed side job.layout plan wf

  -- the policy's table, with its test for aisles between, closes off the plan as it is seen from the depot's side
  abbrev Closed : Policy → Type 0
  Closed policy = policy_state policy (seen_test policy job) job.layout facing job.layout.aisles ≡ closed

  -- EXACT's table closes off, as they are seen, just the lawful plans
  exact_table : (lawful_state job.layout.depot facing job.layout.aisles ≡ closed) ↔ Lawful job.layout plan
  exact_table =
      let e = closed_iff_lawful facing_formed depot_low in
      let l = lawful_seen job.layout plan wf in
      ((λ c. l.0 (e.0 c)), (λ h. e.1 (l.1 h)))

  -- a policy with EXACT's table has no rule of its own
  shared_table : (policy : Policy) → ((end : End) (test : Action → Bool) (a : Action) (s : State) → policy_step policy end test a s ≡ lawful_step a s)
      → Closed policy ↔ (Lawful job.layout plan × Unit {0})
  shared_table policy same =
      let r = same_run policy (seen_test policy job) job.layout facing same job.layout.aisles in
      ((λ c. (exact_table.0 (sym r ∙ c), tt)), (λ h. r ∙ exact_table.1 h.0))

  -- a rule of the plan as it is seen, beside EXACT's table, is a rule of the plan beside the lawful plans
  own_table : (policy : Policy) (Seen Rule : Type 0)
      → Closed policy ↔ ((lawful_state job.layout.depot facing job.layout.aisles ≡ closed) × Seen)
      → Seen ↔ Rule → Closed policy ↔ (Lawful job.layout plan × Rule)
  own_table policy Seen Rule t s =
      ((λ c. let h = t.0 c in (exact_table.0 h.0, s.0 h.1)), (λ h. t.1 (exact_table.1 h.0, s.1 h.1)))

  -- LARGEST's rule is the rule with its test
  largest_rule : TestRule (seen_test Largest job) facing ↔ OwnRule Largest job plan
  largest_rule =
      let m = midpoint_seen side job.layout plan wf (λ j a. keeps_largest_gap job j a ≡ true) in
      ((λ r. weaker_rule (λ j a. (largest_gap job j a).0) (m.0 r)), (λ r. m.1 (weaker_rule (λ j a. (largest_gap job j a).1) r)))

  -- LARGEST's table is MIDPOINT's with the largest gap as the test
  largest_table : ((j : ℕ) → passage_named FrontSide Largest (passage_at facing j) ≡ true) → Closed Largest ↔ (Lawful job.layout plan × OwnRule Largest job plan)
  largest_table named =
      let r = largest_run (seen_test Largest job) job.layout facing job.layout.aisles in
      let t = midpoint_table facing_formed (seen_laws side job.layout.cells (keeps_largest_gap job) (largest_laws job)) named in
      own_table Largest (TestRule (seen_test Largest job) facing) (OwnRule Largest job plan) ((λ c. t.0 (sym r ∙ c)), (λ h. r ∙ t.1 h)) largest_rule

  -- a policy's table closes off just the lawful plans that keep the policy's own rule
  pub policy_table_lem : (policy : Policy) → ((j : ℕ) → passage_named FrontSide policy (seen_passage job.layout (passage_at plan j)) ≡ true)
      → Closed policy ↔ (Lawful job.layout plan × OwnRule policy job plan)
  policy_table_lem policy each = go policy (λ j. ap (passage_named FrontSide policy) (seen_passage_at side job.layout.cells plan j) ∙ each j)
    where
      go : (policy : Policy) → ((j : ℕ) → passage_named FrontSide policy (passage_at facing j) ≡ true)
          → Closed policy ↔ (Lawful job.layout plan × OwnRule policy job plan)
      go Exact named = shared_table Exact (λ end test a s. refl)
      go Return named = shared_table Return (λ end test a s. refl)
      go Traversal named =
          own_table Traversal (TraversalRule FrontSide job.layout facing) (OwnRule Traversal job plan)
          (traversal_table facing_formed (seen_test Traversal job) named) (traversal_seen side job.layout plan wf)
      go Midpoint named =
          own_table Midpoint (TestRule (seen_test Midpoint job) facing) (OwnRule Midpoint job plan)
          (midpoint_table facing_formed (seen_laws side job.layout.cells (λ j a. halved job.layout a) (halves_laws job.layout)) named)
          (midpoint_seen side job.layout plan wf (λ j a. halved job.layout a ≡ true))
      go Composite named = shared_table Composite (λ end test a s. refl)
      go Largest named = largest_table named

-- both parts of a true conjunction
both_true : (a b : Bool) → a && b ≡ true → (a ≡ true) × (b ≡ true)
both_true true b e = (refl, e)
both_true false b e = absurd (false_not_true e)

-- an action that is possible in an aisle that may not be entered is VOID
void_if : (a : Action) (b : Bool) → b ≡ false → is_void a || b ≡ true → a ≡ Void
void_if a true f e = absurd (true_not_false f)
void_if a false f e = void_told a (sym (or-false (is_void a)) ∙ e)

-- EXACT names every action
all_actions_lem : (a : Action) → action_named FrontSide Exact a ≡ true
all_actions_lem Void = refl
all_actions_lem (Bottom i) = refl
all_actions_lem (Top i) = refl
all_actions_lem (Gap h i) = refl
all_actions_lem Once = refl
all_actions_lem Twice = refl

-- EXACT names every passage
all_passages : (p : Passage) → passage_named FrontSide Exact p ≡ true
all_passages P00 = refl
all_passages P02 = refl
all_passages P11 = refl
all_passages P20 = refl
all_passages P22 = refl

module _ (job : Job) (plan : Plan) where
  -- the action and the passage of aisle j as they are seen from the depot's side
  abbrev faced : ℕ → Action
  faced j = seen job.layout (action_at plan j)

  abbrev faced_passage : ℕ → Passage
  faced_passage j = seen_passage job.layout (passage_at plan j)

  -- what an action that is possible says: the policy names it as it is seen, and it is VOID or the aisle may be entered
  parts : (j : ℕ) → Possible job plan j → (action_named FrontSide job.policy (faced j) ≡ true) × (is_void (action_at plan j) || enterable job j ≡ true)
  unfolding action_possible
  parts j possible = both_true (action_named FrontSide job.policy (faced j)) (is_void (action_at plan j) || enterable job j) possible.action

  -- with the depot at its side the policy names what it names at the front as it is seen
  named_action : (j : ℕ) → action_named FrontSide job.policy (faced j) ≡ action_named (side_of job.layout) job.policy (action_at plan j)
  named_action j = action_named_lem (side_of job.layout) job.policy job.layout.cells (action_at plan j)

  named_passage : (j : ℕ) → passage_named FrontSide job.policy (faced_passage j) ≡ passage_named (side_of job.layout) job.policy (passage_at plan j)
  named_passage j = passage_named_lem (side_of job.layout) job.policy (passage_at plan j)

  -- where the tests are passed, shut aisles are VOID
  possible_shut : ((j : ℕ) → Possible job plan j) → ShutVoid job.hours plan
  unfolding ShutVoid
  possible_shut possible j shut = void_if (action_at plan j) (enterable job j) (rw shut) (parts j (possible j)).1

  -- where shut aisles are VOID, the test of an aisle asks only what the policy lets be entered
  enters : ShutVoid job.hours plan → (j : ℕ) → is_void (action_at plan j) || may_enter job.policy (holds_listed job j) ≡ true → is_void (action_at plan j) || enterable job j ≡ true
  unfolding ShutVoid
  enters void j h = go (is_open job.hours j) refl
    where
      go : (b : Bool) → is_open job.hours j ≡ b → is_void (action_at plan j) || enterable job j ≡ true
      go true e = rw e h
      go false e = rw (void j e)

  -- a policy that lets only aisles with a listed article be entered
  module _ (listed-only : (b : Bool) → may_enter job.policy b ≡ b) where
    -- what the tests ask and its own rule are the rules of the policy
    listed_rules : ((j : ℕ) → Possible job plan j) × OwnRule job.policy job plan → PolicyRules (OwnRule job.policy job plan) job plan
    listed_rules (possible, own) =
        record {
          actions = λ j. sym (named_action j) ∙ (parts j (possible j)).0;
          passages = λ j. sym (named_passage j) ∙ (possible j).passage;
          void = λ j e. void_if (action_at plan j) (enterable job j) (rw (listed-only (holds_listed job j), e) (and-false (is_open job.hours j))) (parts j (possible j)).1;
          own = own;
        }

    -- the rules of the policy, and VOID in shut aisles, answer the tests
    rules_listed : PolicyRules (OwnRule job.policy job plan) job plan → ShutVoid job.hours plan → ((j : ℕ) → Possible job plan j) × OwnRule job.policy job plan
    unfolding action_possible
    rules_listed rules shut = (
      (λ j. record {
        action = rw (named_action j, rules.actions j) (enters shut j (rw (listed-only (holds_listed job j)) (enter j (holds_listed job j) refl)));
        passage = named_passage j ∙ rules.passages j;
      }),
      rules.own,
    )
      where
        enter : (j : ℕ) (b : Bool) → holds_listed job j ≡ b → is_void (action_at plan j) || holds_listed job j ≡ true
        enter j true e = rw e (or-true (is_void (action_at plan j)))
        enter j false e = rw (rules.void j e)

    -- the two together
    listed_follows : (((j : ℕ) → Possible job plan j) × OwnRule job.policy job plan) ↔ (PolicyRules (OwnRule job.policy job plan) job plan × ShutVoid job.hours plan)
    listed_follows = ((λ h. (listed_rules h, possible_shut h.0)), (λ h. rules_listed h.0 h.1))

  -- what the machine's tests ask, with the policy's own rule, is what the policy asks, and that shut aisles are VOID
  pub follows_rules : (policy : Policy) → job.policy ≡ policy
      → (((j : ℕ) → Possible job plan j) × OwnRule job.policy job plan) ↔ (Follows policy job plan × ShutVoid job.hours plan)
  unfolding action_possible
  follows_rules Exact e = (
    (λ h. (tt, possible_shut h.0)),
    (λ h. (
      (λ j. record {
        action = rw (e, all_actions_lem (faced j)) (rw e at (enters h.1 j (rw e (or-true (is_void (action_at plan j))))));
        passage = rw e (all_passages (faced_passage j));
      }),
      rw e tt,
    )),
  )
  follows_rules Return e = listed_follows (λ b. rw e)
  follows_rules Traversal e = listed_follows (λ b. rw e)
  follows_rules Midpoint e = listed_follows (λ b. rw e)
  follows_rules Composite e = listed_follows (λ b. rw e)
  follows_rules Largest e = listed_follows (λ b. rw e)
