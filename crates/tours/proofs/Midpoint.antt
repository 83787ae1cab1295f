-- MIDPOINT and LARGEST: their table closes off just the lawful plans that keep their rule, with a test for aisles between.
use Prim.Native.Nat.{ℕ, zero, suc, ◌≤◌, ◌<◌}
use native.Mathlib.Omega.{arith}
use mathlib.Core.Path.{◌≡◌, refl, sym, subst, ◌∙◌}
use mathlib.Core.Logic.{◌⊎◌, inl, inr, ◌↔◌}
use mathlib.Core.Bool.{Bool, true, false, cond}
use Rattle.rules.specs.declared.Layout.{Layout}
use Rattle.rules.specs.declared.Policy.TheVariants.{Midpoint, Largest}
use Rattle.rules.specs.declared.Action.{Action}
use Rattle.rules.specs.declared.Action.TheVariants.{Void, Bottom, Top, Gap, Once, Twice}
use Rattle.rules.specs.declared.Passage.{Passage}
use Rattle.rules.specs.declared.Side.{Side}
use Rattle.rules.specs.declared.Side.TheVariants.{FrontSide}
use Rattle.rules.specs.Plans.{Plan, WellFormed, action_at, passage_at}
use Rattle.rules.specs.Policies.{Entered, First, Last, IsBottom, walk_back_end, MidpointRule, entered_aisles}
use Rattle.rules.specs.Machine.{State, nothing, closed, at_front, at_back, odd, joined, split, ending, dead, lawful_step, midpoint_step, cross_step}
use Rattle.tours.specs.Prefixes.{lawful_state, policy_state}
use Rattle.tours.proofs.Basics.{below, split_at, same_number, true_not_false}
use Rattle.tours.proofs.Parity.{Live, oddness, passage_parity, live_before_passage}
use Rattle.tours.proofs.Runs.{live_before_step, live_test}
use Rattle.tours.proofs.Counting.{void_not_entered, bottom_entered, once_entered, entered_inside, first_entered, last_entered, count_one, count_two}
use Rattle.tours.proofs.Simulation.{Plain, Fitting, Tracks, Between, Ends, Over, over_cross, between_cross, NoneEntered, even_run, tracks_run, ends_run, midpoint_fits}

-- the laws of a test for aisles between, by aisle and action: VOID passes it, ONCE and TWICE do not
pub record BetweenLaws (between : ℕ → Action → Bool) : Type 0 where
  pub void : (j : ℕ) → between j Void ≡ true
  pub once : (j : ℕ) → between j Once ≡ false
  pub twice : (j : ℕ) → between j Twice ≡ false

-- the rule of MIDPOINT and LARGEST, with a test for aisles between
abbrev pub TestRule : (ℕ → Action → Bool) → Plan → Type 0
TestRule between plan = MidpointRule FrontSide (λ j a. between j a ≡ true) plan

-- the first entered of the first n aisles is ONCE, those behind it pass the test
record Opened (between : ℕ → Action → Bool) (plan : Plan) (n : ℕ) : Type 0 where
  first : ℕ
  inside : first ≤ n
  once : action_at plan first ≡ Once
  before : (j : ℕ) → j < first → Entered plan j → ⊥
  pass : (j : ℕ) → first < j → j ≤ n → between j (action_at plan j) ≡ true

-- a single one of the first n aisles is entered, by BOTTOM
record Single (plan : Plan) (n : ℕ) : Type 0 where
  place : ℕ
  inside : place ≤ n
  bottom : IsBottom (action_at plan place)
  before : (j : ℕ) → j < place → Entered plan j → ⊥
  behind : (j : ℕ) → place < j → j ≤ n → Entered plan j → ⊥

-- the first and the last entered of the first n aisles are ONCE, those between pass the test
record Double (between : ℕ → Action → Bool) (plan : Plan) (n : ℕ) : Type 0 where
  first : ℕ
  last : ℕ
  order : first < last
  inside : last ≤ n
  first_once : action_at plan first ≡ Once
  last_once : action_at plan last ≡ Once
  before : (j : ℕ) → j < first → Entered plan j → ⊥
  pass : (j : ℕ) → first < j → j < last → between j (action_at plan j) ≡ true
  behind : (j : ℕ) → last < j → j ≤ n → Entered plan j → ⊥

-- what MIDPOINT's run has gone through when it is in a state
abbrev GoneThrough : (ℕ → Action → Bool) → Plan → ℕ → State → Type 0
GoneThrough between plan n o =
    (NoneEntered plan n × (oddness o ≡ 0))
    ⊎ ((Opened between plan n × (oddness o ≡ 1)) ⊎ ((Single plan n ⊎ Double between plan n) × Over o))

-- the first entered aisle is ONCE: both runs go to `odd`
first_once : (between : Action → Bool) (o x : State) → Tracks o x → (Live x → oddness x ≡ 0) → Between (midpoint_step between Once o) (lawful_step Once x)
first_once between o nothing e even = rw e
first_once between o closed e even = tt
first_once between o at_front e even = rw e
first_once between o at_back e even = absurd e
first_once between o odd e even = absurd (let h = even tt in omega arith)
first_once between o joined e even = absurd e
first_once between o split e even = absurd e
first_once between o ending e even = absurd e
first_once between o dead e even = tt

-- the first entered aisle is BOTTOM: the policy's run begins to end
first_bottom : (between : Action → Bool) (k : ℕ) (o x : State) → Tracks o x → Ends (midpoint_step between (Bottom k) o) (lawful_step (Bottom k) x)
first_bottom between k o nothing e = rw e
first_bottom between k o closed e = tt
first_bottom between k o at_front e = rw e
first_bottom between k o at_back e = absurd e
first_bottom between k o odd e = tt
first_bottom between k o joined e = absurd e
first_bottom between k o split e = absurd e
first_bottom between k o ending e = absurd e
first_bottom between k o dead e = tt

module _ {between : ℕ → Action → Bool} (laws : BetweenLaws between) (j : ℕ) where
  -- an action that passes the test keeps both runs in `odd`
  pass_step : (a : Action) → between j a ≡ true → (o x : State) → Between o x → Between (midpoint_step (between j) a o) (lawful_step a x)
  pass_step a h o nothing e = absurd e
  pass_step a h o closed e = absurd e
  pass_step a h o at_front e = absurd e
  pass_step a h o at_back e = absurd e
  pass_step Void h o odd e = e
  pass_step (Bottom k) h o odd e = rw (e, h) refl
  pass_step (Top k) h o odd e = rw (e, h) refl
  pass_step (Gap g k) h o odd e = rw (e, h) refl
  pass_step Once h o odd e = absurd (true_not_false (sym h ∙ laws.once j))
  pass_step Twice h o odd e = absurd (true_not_false (sym h ∙ laws.twice j))
  pass_step a h o joined e = absurd e
  pass_step a h o split e = absurd e
  pass_step a h o ending e = absurd e
  pass_step Void h o dead e = tt
  pass_step (Bottom k) h o dead e = tt
  pass_step (Top k) h o dead e = tt
  pass_step (Gap g k) h o dead e = tt
  pass_step Once h o dead e = tt
  pass_step Twice h o dead e = tt

-- the last entered aisle is ONCE: the policy's run begins to end
last_once_ends : (between : Action → Bool) (o x : State) → Between o x → Ends (midpoint_step between Once o) (lawful_step Once x)
last_once_ends between o nothing e = absurd e
last_once_ends between o closed e = absurd e
last_once_ends between o at_front e = absurd e
last_once_ends between o at_back e = absurd e
last_once_ends between o odd e = rw e
last_once_ends between o joined e = absurd e
last_once_ends between o split e = absurd e
last_once_ends between o ending e = absurd e
last_once_ends between o dead e = tt

module _ {z : Layout} {plan : Plan} (wf : WellFormed z plan) {between : ℕ → Action → Bool} (laws : BetweenLaws between) where
  module _ (i : ℕ) where
    -- one more VOID
    none_on : (k : ℕ) → action_at plan (suc i) ≡ Void → ((j : ℕ) → k < j → j ≤ i → Entered plan j → ⊥)
        → (j : ℕ) → k < j → j ≤ suc i → Entered plan j → ⊥
    none_on k e none j l h g = elim (below j i h) [
      | inl b ↦ none j l b g
      | inr p ↦ void_not_entered plan (suc i) e (rw p at g)
    ]

    -- one more VOID, none entered yet
    still_none : NoneEntered plan i → action_at plan (suc i) ≡ Void → NoneEntered plan (suc i)
    still_none none e j l g = elim (below j i l) [
      | inl b ↦ none j b g
      | inr p ↦ void_not_entered plan (suc i) e (rw p at g)
    ]

    -- one more aisle that passes the test
    still_opened : Opened between plan i → between (suc i) (action_at plan (suc i)) ≡ true → Opened between plan (suc i)
    still_opened o e =
        record {
          first = o.first;
          inside = let l = o.inside in omega arith;
          once = o.once;
          before = o.before;
          pass = λ j l h. elim (below j i h) [ inl b ↦ o.pass j l b | inr p ↦ rw p e ];
        }

    -- one more VOID behind the last entered aisle
    still_done : Single plan i ⊎ Double between plan i → action_at plan (suc i) ≡ Void → Single plan (suc i) ⊎ Double between plan (suc i)
    still_done (inl s) e =
        inl (record {
          place = s.place;
          inside = let l = s.inside in omega arith;
          bottom = s.bottom;
          before = s.before;
          behind = none_on s.place e s.behind;
        })
    still_done (inr d) e =
        inr (record {
          first = d.first;
          last = d.last;
          order = d.order;
          inside = let l = d.inside in omega arith;
          first_once = d.first_once;
          last_once = d.last_once;
          before = d.before;
          pass = d.pass;
          behind = none_on d.last e d.behind;
        })

    -- the first entered aisle is ONCE
    now_opened : NoneEntered plan i → action_at plan (suc i) ≡ Once → Opened between plan (suc i)
    now_opened none e =
        record {
          first = suc i;
          inside = omega arith;
          once = e;
          before = λ j l. none j (omega arith);
          pass = λ j l h. absurd (omega arith);
        }

    -- the first entered aisle is BOTTOM
    now_single : NoneEntered plan i → IsBottom (action_at plan (suc i)) → Single plan (suc i)
    now_single none b =
        record {
          place = suc i;
          inside = omega arith;
          bottom = b;
          before = λ j l. none j (omega arith);
          behind = λ j l h e. omega arith;
        }

    -- the last entered aisle is ONCE
    now_double : Opened between plan i → action_at plan (suc i) ≡ Once → Double between plan (suc i)
    now_double o e =
        let l = o.inside in
        record {
          first = o.first;
          last = suc i;
          order = omega arith;
          inside = omega arith;
          first_once = o.once;
          last_once = e;
          before = o.before;
          pass = λ j h g. o.pass j h (omega arith);
          behind = λ j h g c. omega arith;
        }

    -- an action that passes the test keeps the state `odd`
    gone_pass : (a : Action) → action_at plan (suc i) ≡ a → Live (cond (between (suc i) a) odd dead)
        → GoneThrough between plan i odd → GoneThrough between plan (suc i) (cond (between (suc i) a) odd dead)
    gone_pass a e l (inl (none, c)) = absurd (omega arith)
    gone_pass a e l (inr (inl (o, c))) =
        let h = (live_test (between (suc i) a) odd l).0 in
        inr (inl (still_opened o (rw e h), rw h))
    gone_pass a e l (inr (inr (d, over))) = absurd over

    -- what has been gone through with one more action
    gone_action : (a : Action) → action_at plan (suc i) ≡ a → (o : State) → Live (midpoint_step (between (suc i)) a o)
        → GoneThrough between plan i o → GoneThrough between plan (suc i) (midpoint_step (between (suc i)) a o)
    unfolding IsBottom
    gone_action Void e o l (inl (none, c)) = inl (still_none none e, c)
    gone_action Void e o l (inr (inl (b, c))) = inr (inl (still_opened b (rw e (laws.void (suc i))), c))
    gone_action Void e o l (inr (inr (d, over))) = inr (inr (still_done d e, over))
    gone_action (Bottom k) e nothing l (inl (none, c)) = inr (inr (inl (now_single none (k, e)), tt))
    gone_action (Bottom k) e nothing l (inr (inl (b, c))) = absurd (omega arith)
    gone_action (Bottom k) e nothing l (inr (inr (d, over))) = absurd over
    gone_action (Bottom k) e closed l g = absurd l
    gone_action (Bottom k) e at_front l (inl (none, c)) = inr (inr (inl (now_single none (k, e)), tt))
    gone_action (Bottom k) e at_front l (inr (inl (b, c))) = absurd (omega arith)
    gone_action (Bottom k) e at_front l (inr (inr (d, over))) = absurd over
    gone_action (Bottom k) e at_back l g = absurd l
    gone_action (Bottom k) e odd l g = gone_pass (Bottom k) e l g
    gone_action (Bottom k) e joined l g = absurd l
    gone_action (Bottom k) e split l g = absurd l
    gone_action (Bottom k) e ending l g = absurd l
    gone_action (Bottom k) e dead l g = absurd l
    gone_action (Top k) e nothing l g = absurd l
    gone_action (Top k) e closed l g = absurd l
    gone_action (Top k) e at_front l g = absurd l
    gone_action (Top k) e at_back l g = absurd l
    gone_action (Top k) e odd l g = gone_pass (Top k) e l g
    gone_action (Top k) e joined l g = absurd l
    gone_action (Top k) e split l g = absurd l
    gone_action (Top k) e ending l g = absurd l
    gone_action (Top k) e dead l g = absurd l
    gone_action (Gap h k) e nothing l g = absurd l
    gone_action (Gap h k) e closed l g = absurd l
    gone_action (Gap h k) e at_front l g = absurd l
    gone_action (Gap h k) e at_back l g = absurd l
    gone_action (Gap h k) e odd l g = gone_pass (Gap h k) e l g
    gone_action (Gap h k) e joined l g = absurd l
    gone_action (Gap h k) e split l g = absurd l
    gone_action (Gap h k) e ending l g = absurd l
    gone_action (Gap h k) e dead l g = absurd l
    gone_action Once e nothing l (inl (none, c)) = inr (inl (now_opened none e, refl))
    gone_action Once e nothing l (inr (inl (b, c))) = absurd (omega arith)
    gone_action Once e nothing l (inr (inr (d, over))) = absurd over
    gone_action Once e closed l g = absurd l
    gone_action Once e at_front l (inl (none, c)) = inr (inl (now_opened none e, refl))
    gone_action Once e at_front l (inr (inl (b, c))) = absurd (omega arith)
    gone_action Once e at_front l (inr (inr (d, over))) = absurd over
    gone_action Once e at_back l g = absurd l
    gone_action Once e odd l (inl (none, c)) = absurd (omega arith)
    gone_action Once e odd l (inr (inl (b, c))) = inr (inr (inr (now_double b e), tt))
    gone_action Once e odd l (inr (inr (d, over))) = absurd over
    gone_action Once e joined l g = absurd l
    gone_action Once e split l g = absurd l
    gone_action Once e ending l g = absurd l
    gone_action Once e dead l g = absurd l
    gone_action Twice e o l g = absurd l

    -- a passage adds nothing to it
    gone_passage : (d : ℕ) (p : Passage) (o : State) → Live (cross_step d (suc i) p o)
        → GoneThrough between plan (suc i) o → GoneThrough between plan (suc i) (cross_step d (suc i) p o)
    gone_passage d p o l (inl (none, c)) = inl (none, (passage_parity d (suc i) p o l).1 ∙ c)
    gone_passage d p o l (inr (inl (b, c))) = inr (inl (b, (passage_parity d (suc i) p o l).1 ∙ c))
    gone_passage d p o l (inr (inr (b, over))) = inr (inr (b, over_cross d (suc i) p o over))

  -- what the run has gone through up to aisle n
  gone_run : (n : ℕ) → Live (policy_state Midpoint between z plan n) → GoneThrough between plan n (policy_state Midpoint between z plan n)
  gone_run zero l = inl ((λ j h e. let k = entered_inside wf j e in omega arith), refl)
  gone_run (suc i) l =
      let a = action_at plan (suc i) in
      let p = passage_at plan (suc i) in
      let o = policy_state Midpoint between z plan i in
      let behind = live_before_passage z.depot (suc i) p (midpoint_step (between (suc i)) a o) l in
      gone_passage i z.depot p (midpoint_step (between (suc i)) a o) l
      (gone_action i a refl o behind (gone_run i (live_before_step Midpoint (walk_back_end z) (between (suc i)) a o behind)))

  module _ (plain : (j : ℕ) → Plain (passage_at plan j)) where
    -- between the first and the last entered aisle both runs are in the state `odd`
    between_run : {m : ℕ} (d : Double between plan m) (n : ℕ) → d.first ≤ n → n < d.last
        → Between (policy_state Midpoint between z plan n) (lawful_state z.depot plan n)
    between_run d zero l h = absurd (let e = entered_inside wf d.first (once_entered plan d.first d.first_once) in omega arith)
    between_run d (suc i) l h =
        between_cross z.depot (suc i) (passage_at plan (suc i)) (plain (suc i)) _ _ (elim (below d.first i l) [
          | inl g ↦ pass_step laws (suc i) (action_at plan (suc i)) (d.pass (suc i) (omega arith) h) (policy_state Midpoint between z plan i) (lawful_state z.depot plan i)
              (between_run d i g (omega arith))
          | inr p ↦
              let none : NoneEntered plan i = λ j k. d.before j (omega arith) in
              rw (subst (λ (j : ℕ). action_at plan j ≡ Once) p d.first_once)
              (first_once (between (suc i)) (policy_state Midpoint between z plan i) (lawful_state z.depot plan i)
              (tracks_run Midpoint between z plan plain i none) (even_run z.depot plan i none))
        ])

    -- behind a single BOTTOM both runs go to their ends
    single_ends : {m : ℕ} → Single plan m → Ends (policy_state Midpoint between z plan m) (lawful_state z.depot plan m)
    unfolding IsBottom
    single_ends {m} s = go s.place refl
      where
        go : (j : ℕ) → s.place ≡ j → Ends (policy_state Midpoint between z plan m) (lawful_state z.depot plan m)
        go zero p = absurd (let e = entered_inside wf s.place (bottom_entered plan s.place s.bottom) in omega arith)
        go (suc i) p =
            let l = s.inside in
            ends_run Midpoint between z plan plain i m
            (rw (subst (λ (j : ℕ). action_at plan j ≡ Bottom s.bottom.0) p s.bottom.1)
            (first_bottom (between (suc i)) s.bottom.0 (policy_state Midpoint between z plan i) (lawful_state z.depot plan i)
            (tracks_run Midpoint between z plan plain i (λ j k. s.before j (omega arith)))))
            (λ j h. s.behind j (omega arith)) m (omega arith) (omega arith)

    -- behind the last ONCE both runs go to their ends
    double_ends : {m : ℕ} → Double between plan m → Ends (policy_state Midpoint between z plan m) (lawful_state z.depot plan m)
    double_ends {m} d = go d.last refl
      where
        go : (j : ℕ) → d.last ≡ j → Ends (policy_state Midpoint between z plan m) (lawful_state z.depot plan m)
        go zero p = absurd (let l = d.order in omega arith)
        go (suc i) p =
            let l = d.inside in
            let h = d.order in
            ends_run Midpoint between z plan plain i m
            (rw (subst (λ (j : ℕ). action_at plan j ≡ Once) p d.last_once)
            (last_once_ends (between (suc i)) (policy_state Midpoint between z plan i) (lawful_state z.depot plan i) (between_run d i (omega arith) (omega arith))))
            (λ j g. d.behind j (omega arith)) m (omega arith) (omega arith)

  -- the rule says how the entered aisles are gone through
  rule_gone : TestRule between plan → NoneEntered plan z.aisles ⊎ (Single plan z.aisles ⊎ Double between plan z.aisles)
  unfolding First Last
  rule_gone rule = go (first_entered wf) (last_entered wf)
    where
      go : ((j : ℕ) → Entered plan j → ⊥) ⊎ ((f : ℕ) × First plan f) → ((j : ℕ) → Entered plan j → ⊥) ⊎ ((k : ℕ) × Last plan k)
          → NoneEntered plan z.aisles ⊎ (Single plan z.aisles ⊎ Double between plan z.aisles)
      go (inl none) last = inl (λ j l. none j)
      go (inr first) (inl none) = inl (λ j l. none j)
      go (inr (f, first)) (inr (k, last)) = elim (split_at f k) [
        | inl l ↦
            let more : entered_aisles plan ≡ 1 → ⊥ = λ e. let c = count_two wf f k l first.0 last.0 in omega arith in
            inr (inr (record {
              first = f;
              last = k;
              order = l;
              inside = (entered_inside wf k last.0).1;
              first_once = rule.first more f first;
              last_once = rule.last more k last;
              before = first.1;
              pass = λ j h g. rule.between more f j k first last h g;
              behind = λ j h g. last.1 j h;
            }))
        | inr l ↦
            let p : f ≡ k = elim (split_at k f) [ inl h ↦ absurd (first.1 k h last.0) | inr h ↦ omega arith ] in
            let both = subst (First plan) p first in
            inr (inl (record {
              place = k;
              inside = (entered_inside wf k last.0).1;
              bottom = rule.single (count_one wf k both last) k last.0;
              before = both.1;
              behind = λ j h g. last.1 j h;
            }))
      ]

  -- a plan that enters no aisle keeps the rule
  none_rule : ((j : ℕ) → Entered plan j → ⊥) → TestRule between plan
  unfolding First Last
  none_rule none =
      record {
        single = λ one j e. absurd (none j e);
        first = λ more j f. absurd (none j f.0);
        last = λ more j l. absurd (none j l.0);
        between = λ more i j k f l. absurd (none i f.0);
      }

  -- a single BOTTOM keeps it
  single_rule : Single plan z.aisles → TestRule between plan
  unfolding First Last
  single_rule s =
      let e = bottom_entered plan s.place s.bottom in
      let behind : (j : ℕ) → s.place < j → Entered plan j → ⊥ = λ j l g. s.behind j l (entered_inside wf j g).1 g in
      let one = count_one wf s.place (e, s.before) (e, behind) in
      record {
        single = λ c j g. rw (same_number j s.place (λ l. s.before j l g) (λ l. behind j l g)) s.bottom;
        first = λ more j f. absurd (more one);
        last = λ more j l. absurd (more one);
        between = λ more i j k f l. absurd (more one);
      }

  -- two ONCE and aisles between that pass the test keep it
  double_rule : Double between plan z.aisles → TestRule between plan
  unfolding First Last
  double_rule d =
      record {
        single = λ one j e. absurd (let c = count_two wf d.first d.last d.order first_in last_in in omega arith);
        first = λ more j f. rw (at_first j f) d.first_once;
        last = λ more j l. rw (at_last j l) d.last_once;
        between = λ more i j k f l h g.
            let p = at_first i f in
            let q = at_last k l in
            d.pass j (omega arith) (omega arith);
      }
    where
      first_in : Entered plan d.first
      first_in = once_entered plan d.first d.first_once

      last_in : Entered plan d.last
      last_in = once_entered plan d.last d.last_once

      at_first : (j : ℕ) → First plan j → j ≡ d.first
      at_first j f = same_number j d.first (λ l. d.before j l f.0) (λ l. f.1 d.first l first_in)

      at_last : (j : ℕ) → Last plan j → j ≡ d.last
      at_last j l = same_number j d.last (λ h. l.1 d.last h last_in) (λ h. d.behind j h (entered_inside wf j l.0).1 l.0)

  -- what has been gone through keeps the rule
  gone_rule : GoneThrough between plan z.aisles closed → TestRule between plan
  gone_rule (inl (none, c)) = none_rule (λ j e. none j (entered_inside wf j e).1 e)
  gone_rule (inr (inl (o, c))) = absurd (omega arith)
  gone_rule (inr (inr (inl s, over))) = single_rule s
  gone_rule (inr (inr (inr d, over))) = double_rule d

  -- MIDPOINT's table closes off a plan just when EXACT's does and the rule is kept
  pub midpoint_table : ((j : ℕ) → Plain (passage_at plan j))
      → (policy_state Midpoint between z plan z.aisles ≡ closed) ↔ ((lawful_state z.depot plan z.aisles ≡ closed) × TestRule between plan)
  midpoint_table plain = (
    (λ c. (
      subst (λ (o : State). Fitting o (lawful_state z.depot plan z.aisles)) c (midpoint_fits between z plan z.aisles),
      gone_rule (subst (GoneThrough between plan z.aisles) c (gone_run z.aisles (subst Live (sym c) tt))),
    )),
    (λ h. elim (rule_gone h.1) [
      | inl none ↦ subst (λ (x : State). Tracks (policy_state Midpoint between z plan z.aisles) x) h.0 (tracks_run Midpoint between z plan plain z.aisles none)
      | inr (inl s) ↦ subst (λ (x : State). Ends (policy_state Midpoint between z plan z.aisles) x) h.0 (single_ends plain s)
      | inr (inr d) ↦ subst (λ (x : State). Ends (policy_state Midpoint between z plan z.aisles) x) h.0 (double_ends plain d)
    ]),
  )

-- with the same test LARGEST's run is MIDPOINT's
pub largest_run : (between : ℕ → Action → Bool) (z : Layout) (plan : Plan) (n : ℕ) → policy_state Largest between z plan n ≡ policy_state Midpoint between z plan n
largest_run between z plan zero = refl
largest_run between z plan (suc i) = rw (largest_run between z plan i)

-- what keeps the rule keeps it with every weaker demand on the aisles between
pub weaker_rule : {side : Side} {Between Weaker : ℕ → Action → Type 0} {plan : Plan} → ((j : ℕ) (a : Action) → Between j a → Weaker j a)
    → MidpointRule side Between plan → MidpointRule side Weaker plan
weaker_rule {plan = plan} weaker rule =
    record {
      single = rule.single;
      first = rule.first;
      last = rule.last;
      between = λ more i j k f l low high. weaker j (action_at plan j) (rule.between more i j k f l low high);
    }
