-- The machine's run over the lists of a plan is the run by prefixes; where the policy's actions and passages are kept to,
-- its tests fall away.
use Prim.Native.Nat.{ℕ, zero, suc, ◌+◌, ◌≤◌}
use native.Mathlib.Omega.{arith}
use mathlib.Core.Path.{◌≡◌, refl, sym, subst, ap, ◌∙◌}
use mathlib.Core.Logic.{inl, inr, ◌↔◌}
use mathlib.Core.List.{List, [], ◌∷◌, tail}
use mathlib.Core.Bool.{Bool, true, false, cond}
use lib.ListN.{length}
use Rattle.rules.specs.declared.Side.TheVariants.{FrontSide}
use Rattle.rules.specs.declared.Policy.{Policy}
use Rattle.rules.specs.declared.Policy.TheVariants.{Exact, Return, Traversal, Midpoint, Composite, Largest}
use Rattle.rules.specs.declared.Action.{Action}
use Rattle.rules.specs.declared.Action.TheVariants.{Void, Bottom, Top, Gap, Once, Twice}
use Rattle.rules.specs.declared.Passage.{Passage}
use Rattle.rules.specs.declared.Passage.TheVariants.{P00}
use Rattle.rules.specs.Lists.{nth, head_or}
use Rattle.rules.specs.Jobs.{Job}
use Rattle.rules.specs.Store.{side_of}
use Rattle.rules.specs.Plans.{Plan, WellFormed, action_at, passage_at}
use Rattle.rules.specs.declared.End.{End}
use Rattle.rules.specs.declared.End.TheVariants.{Leftmost, Rightmost}
use Rattle.rules.specs.Policies.{passage_named, walk_back_end}
use Rattle.rules.specs.Turned.{seen, seen_passage, seen_plan}
use Rattle.rules.specs.Machine.{State, nothing, closed, at_front, at_back, odd, joined, split, ending, dead}
use Rattle.rules.specs.Machine.{midpoint_step, policy_step, between_test, cross_step, action_possible, action_step, passage_step, run_from, is_closed, closes_off}
use Rattle.rules.proofs.EmptyPlan.{named_void, seen_void, seen_00}
use Rattle.mirror.proofs.Rules.{seen_action_at, seen_passage_at, seen_twice}
use Rattle.tours.specs.Prefixes.{state_at, policy_state}
use Rattle.tours.proofs.Basics.{below, split_at}
use Rattle.tours.proofs.Aisles.{action_past, passage_past}
use Rattle.tours.proofs.Parity.{Live, live_before_action, live_before_passage}

-- the first element has the number 1
first_of : {A : Type 0} (xs : List A) (d : A) → nth xs 1 d ≡ head_or d xs
first_of [] d = refl
first_of (x ∷ xs) d = refl

-- behind the first element the numbers are one less
rest_of : {A : Type 0} (xs : List A) (k : ℕ) (d : A) → nth (tail xs) (suc k) d ≡ nth xs (suc (suc k)) d
rest_of [] k d = refl
rest_of (x ∷ xs) k d = refl

-- from aisle j + 1 on the lists are the plan's
run_from_lem : (job : Job) (plan : Plan) (actions : List Action) (passages : List Passage) (j n : ℕ)
    → ((k i : ℕ) → j + k ≡ i → action_at plan (suc i) ≡ nth actions (suc k) Void)
    → ((k i : ℕ) → j + k ≡ i → passage_at plan (suc i) ≡ nth passages (suc k) P00)
    → j + length actions ≡ n
    → run_from job (suc j) (state_at job plan j) actions passages ≡ state_at job plan n
run_from_lem job plan [] passages j n f g e = let p : j ≡ n = omega arith in rw p
run_from_lem job plan (a ∷ actions) passages j n f g e =
    let p = f 0 j (omega arith) in
    let q = g 0 j (omega arith) ∙ first_of passages P00 in
    rw (← p, ← q) (
    run_from_lem job plan actions (tail passages) (suc j) n
    (λ k i h. f (suc k) i (omega arith))
    (λ k i h. g (suc k) i (omega arith) ∙ sym (rest_of passages k P00))
    (omega arith))

-- a state that is closed is `closed`
pub is_closed_lem : (s : State) → is_closed s ≡ true → s ≡ closed
is_closed_lem nothing e = cc
is_closed_lem closed e = refl
is_closed_lem at_front e = cc
is_closed_lem at_back e = cc
is_closed_lem odd e = cc
is_closed_lem joined e = cc
is_closed_lem split e = cc
is_closed_lem ending e = cc
is_closed_lem dead e = cc

-- the machine closes a plan off when the state behind its last aisle is `closed`
closes_off_lem : (job : Job) {plan : Plan} → WellFormed job.layout plan
    → (closes_off job plan ≡ true) ↔ (state_at job plan job.layout.aisles ≡ closed)
unfolding action_at passage_at
closes_off_lem job {plan} wf =
    let e = wf.aisles in
    let r = run_from_lem job plan plan.actions plan.passages 0 job.layout.aisles
    (λ k i p. let q : i ≡ k = omega arith in rw q)
    (λ k i p. let q : i ≡ k = omega arith in rw q)
    (omega arith) in
    ((λ a. sym r ∙ is_closed_lem (run_from job 1 nothing plan.actions plan.passages) a), (λ c. ap is_closed (r ∙ c)))

-- MIDPOINT's step from `dead` leads to `dead`, whatever the test for aisles between
live_before_midpoint : (between : Action → Bool) (a : Action) → Live (midpoint_step between a dead) → ⊥
live_before_midpoint between Void l = l
live_before_midpoint between (Bottom i) l = l
live_before_midpoint between (Top i) l = l
live_before_midpoint between (Gap h i) l = l
live_before_midpoint between Once l = l
live_before_midpoint between Twice l = l

-- the policy's step from `dead` leads to `dead`
pub live_before_step : (policy : Policy) (end : End) (between : Action → Bool) (a : Action) (s : State) → Live (policy_step policy end between a s) → Live s
live_before_step policy end between a nothing l = tt
live_before_step policy end between a closed l = tt
live_before_step policy end between a at_front l = tt
live_before_step policy end between a at_back l = tt
live_before_step policy end between a odd l = tt
live_before_step policy end between a joined l = tt
live_before_step policy end between a split l = tt
live_before_step policy end between a ending l = tt
live_before_step Exact end between a dead l = live_before_action a dead l
live_before_step Return end between a dead l = live_before_action a dead l
live_before_step Composite end between a dead l = live_before_action a dead l
live_before_step Traversal end between Void dead l = l
live_before_step Traversal end between (Bottom i) dead l = l
live_before_step Traversal end between (Top i) dead l = l
live_before_step Traversal end between (Gap h i) dead l = l
live_before_step Traversal Leftmost between Once dead l = l
live_before_step Traversal Rightmost between Once dead l = l
live_before_step Traversal end between Twice dead l = l
live_before_step Midpoint end between a dead l = live_before_midpoint between a l
live_before_step Largest end between a dead l = live_before_midpoint between a l

-- a test that does not lead to `dead` has passed
pub live_test : (b : Bool) (s : State) → Live (cond b s dead) → (b ≡ true) × Live s
live_test true s l = (refl, l)
live_test false s l = absurd l

-- the action and the passage of aisle j are the policy's
pub record Possible (job : Job) (plan : Plan) (j : ℕ) : Type 0 where
  pub action : action_possible job j (action_at plan j) ≡ true
  pub passage : passage_named FrontSide job.policy (seen_passage job.layout (passage_at plan j)) ≡ true

module _ (job : Job) (j : ℕ) where
  -- an action that does not lead to `dead` is the policy's, and so is its step
  pub live_action : (a : Action) (s : State) → Live (action_step job j a s)
      → (action_possible job j a ≡ true) × Live (policy_step job.policy (walk_back_end job.layout) (λ b. between_test job.policy job j a) (seen job.layout a) s)
  unfolding action_step
  live_action a s l = live_test (action_possible job j a) _ l

  -- a passage that does not lead to `dead` is the policy's and begins at a live state
  pub live_passage : (p : Passage) (s : State) → Live (passage_step job j p s) → (passage_named FrontSide job.policy (seen_passage job.layout p) ≡ true) × Live s
  unfolding passage_step
  live_passage p s l =
      let d = job.layout.depot in
      let u = live_test (passage_named FrontSide job.policy (seen_passage job.layout p)) (cross_step d j (seen_passage job.layout p) s) l in
      (u.0, live_before_passage d j (seen_passage job.layout p) s u.1)

  -- an aisle and the passage behind it that do not lead to `dead` begin at a live state
  live_before_both : (a : Action) (p : Passage) (s : State) → Live (passage_step job j p (action_step job j a s)) → Live s
  live_before_both a p s l =
      live_before_step job.policy (walk_back_end job.layout) (λ b. between_test job.policy job j a) (seen job.layout a) s
      (live_action a s (live_passage p (action_step job j a s) l).1).1

-- a run that does not lead to `dead` begins at a live state
pub run_live : (job : Job) (j : ℕ) (s : State) (actions : List Action) (passages : List Passage) → Live (run_from job j s actions passages) → Live s
run_live job j s [] passages l = l
run_live job j s (a ∷ actions) passages l =
    let p = head_or P00 passages in
    live_before_both job j a p s (run_live job (suc j) (passage_step job j p (action_step job j a s)) actions (tail passages) l)

-- the test for aisles between, asked of an action as it is seen
abbrev pub seen_test : Policy → Job → ℕ → Action → Bool
seen_test policy job j a = between_test policy job j (seen job.layout a)

module _ (job : Job) (plan : Plan) where
  -- a step that does not lead to `dead` is the policy's and begins at a live state
  possible_step : (i : ℕ) → Live (state_at job plan (suc i)) → Possible job plan (suc i) × Live (state_at job plan i)
  possible_step i l =
      let s = state_at job plan i in
      let a = action_at plan (suc i) in
      let p = passage_at plan (suc i) in
      let u = live_passage job (suc i) p (action_step job (suc i) a s) l in
      (record { action = (live_action job (suc i) a s u.1).0; passage = u.0 }, live_before_both job (suc i) a p s l)

  -- all aisles before a live state are the policy's
  possible_until : (n j : ℕ) → suc j ≤ n → Live (state_at job plan n) → Possible job plan (suc j)
  possible_until zero j l live = absurd (omega arith)
  possible_until (suc n) j l live =
      let b = possible_step n live in
      elim (below (suc j) n l) [
        | inl h ↦ possible_until n j h b.1
        | inr p ↦ rw p b.0
      ]

  -- where all is the policy's, the tests fall away
  tests_pass : WellFormed job.layout plan → ((j : ℕ) → Possible job plan j) → (n : ℕ)
      → state_at job plan n ≡ policy_state job.policy (seen_test job.policy job) job.layout (seen_plan job.layout plan) n
  unfolding action_step passage_step
  tests_pass wf f zero = refl
  tests_pass wf f (suc i) =
      let side = side_of job.layout in
      let c = job.layout.cells in
      let action = seen_action_at side c plan (suc i) in
      let passage = seen_passage_at side c plan (suc i) in
      let again = seen_twice side c (action_at plan (suc i)) (wf.fits (suc i)) in
      rw ((f (suc i)).action, (f (suc i)).passage, tests_pass wf f i, action, passage, again)

module _ (job : Job) {plan : Plan} (wf : WellFormed job.layout plan) where
  -- outside the store every policy has what the plan holds
  outside : (j : ℕ) → action_at plan j ≡ Void → passage_at plan j ≡ P00 → Possible job plan j
  unfolding action_possible
  outside j e f =
      let v = named_void FrontSide job.policy in
      record { action = rw (e, seen_void (side_of job.layout) job.layout.cells, v.0); passage = rw (f, seen_00 (side_of job.layout)) v.1 }

  -- in a plan that is closed off all is the policy's
  all_possible : state_at job plan job.layout.aisles ≡ closed → (j : ℕ) → Possible job plan j
  unfolding action_at passage_at
  all_possible c zero = outside zero refl refl
  all_possible c (suc j) = elim (split_at j job.layout.aisles) [
    | inl l ↦ possible_until job plan job.layout.aisles j l (subst Live (sym c) tt)
    | inr l ↦ outside (suc j) (action_past wf (suc j) (omega arith)) (passage_past wf (suc j) (omega arith))
  ]

  -- the machine closes off a plan whose actions and passages are the policy's and which the policy's table closes off
  pub closes_by_table : (closes_off job plan ≡ true)
      ↔ (((j : ℕ) → Possible job plan j) × (policy_state job.policy (seen_test job.policy job) job.layout (seen_plan job.layout plan) job.layout.aisles ≡ closed))
  closes_by_table = (
    (λ h.
        let c = (closes_off_lem job wf).0 h in
        let p = all_possible c in
        (p, sym (tests_pass job plan wf p job.layout.aisles) ∙ c)),
    (λ h. (closes_off_lem job wf).1 (tests_pass job plan wf h.0 job.layout.aisles ∙ h.1)),
  )
