-- TRAVERSAL: its table closes off just the lawful plans that keep its rule, whichever end it walks back at.
use Prim.Native.Nat.{ℕ, zero, suc, ◌%◌, ◌≤◌, ◌<◌}
use native.Mathlib.Omega.{arith}
use mathlib.Core.Path.{◌≡◌, refl, sym, subst, ◌∙◌}
use mathlib.Core.Logic.{◌⊎◌, inl, inr, ◌↔◌}
use mathlib.Core.Bool.{Bool, true, false}
use borrow.Author.Tests.{eqb-true, eqb-false}
use lib.Dec.{eqb}
use Rattle.rules.specs.declared.Layout.{Layout}
use Rattle.rules.specs.declared.Policy.TheVariants.{Traversal}
use Rattle.rules.specs.declared.Action.{Action}
use Rattle.rules.specs.declared.Action.TheVariants.{Void, Bottom, Top, Gap, Once, Twice}
use Rattle.rules.specs.declared.Passage.{Passage}
use Rattle.rules.specs.declared.Side.TheVariants.{FrontSide}
use Rattle.rules.specs.Plans.{Plan, WellFormed, action_at, passage_at}
use Rattle.rules.specs.declared.End.{End}
use Rattle.rules.specs.declared.End.TheVariants.{Leftmost, Rightmost}
use Rattle.rules.specs.Policies.{Entered, First, Last, IsBottom, EnteredAt, walk_back_end, WalkedBack, TraversalRule, entered_aisles}
use Rattle.rules.specs.Machine.{State, nothing, closed, at_front, at_back, odd, joined, split, ending, dead, lawful_step, traversal_once, traversal_step, cross_step}
use Rattle.tours.specs.Prefixes.{lawful_state, policy_state, entered_up_to}
use Rattle.tours.proofs.Basics.{below, split_at, same_number}
use Rattle.tours.proofs.Parity.{Live, oddness, passage_parity, live_before_passage}
use Rattle.tours.proofs.Runs.{live_before_step}
use Rattle.tours.proofs.Counting.{bottom_entered, once_entered, entered?, not_entered_void, void_not_entered, count_rises, count_stays, count_all}
use Rattle.tours.proofs.Counting.{entered_inside, first_entered, last_entered}
use Rattle.tours.proofs.Simulation.{Plain, Fitting, Ends, EndsBehind, Past, past_cross, NoneEntered, even_run, tracks_run, ends_run, traversal_fits}
use Rattle.tours.proofs.WalkBackEnds.{left_bottom, tracks_bottom, AfterOnce, once_turns}
use Rattle.tours.proofs.WalkBackEnds.{Alike, AlikeBehind, alike_begin, alike_closed, alike_void, alike_once, alike_cross}

-- the entered aisles of the first n are all ONCE
abbrev AllOnce : Plan → ℕ → Type 0
AllOnce plan n = (j : ℕ) → j ≤ n → Entered plan j → action_at plan j ≡ Once

-- aisle j lies beyond aisle k at an end
abbrev Beyond : End → ℕ → ℕ → Type 0
Beyond Leftmost k j = j < k
Beyond Rightmost k j = k < j

-- of the first n aisles one is BOTTOM, the other entered ones are ONCE, and none entered lies beyond it at the end
record OneBottom (end : End) (plan : Plan) (n : ℕ) : Type 0 where
  place : ℕ
  inside : place ≤ n
  bottom : IsBottom (action_at plan place)
  others : (j : ℕ) → j ≤ n → Entered plan j → (j ≡ place → ⊥) → action_at plan j ≡ Once
  beyond : (j : ℕ) → Beyond end place j → j ≤ n → Entered plan j → ⊥

-- aisle n + 1, if entered, is at the end: of the first n + 1 the rightmost anyhow, and the leftmost if none of the first n is entered
abbrev Free : End → Plan → ℕ → Type 0
Free Leftmost plan n = NoneEntered plan n
Free Rightmost plan n = Unit {0}

-- what TRAVERSAL's run has gone through when it is in a state: ONCE only, or a BOTTOM too
abbrev GoneThrough : End → Plan → ℕ → State → Type 0
GoneThrough end plan n o =
    (AllOnce plan n × (entered_up_to plan n % 2 ≡ oddness o) × (Free end plan n ⊎ Past end o))
    ⊎ (OneBottom end plan n × (suc (entered_up_to plan n) % 2 ≡ oddness o) × Past end o)

-- aisles of which neither lies beyond the other are one
one_aisle_lem : (end : End) (j k : ℕ) → (Beyond end k j → ⊥) → (Beyond end j k → ⊥) → j ≡ k
one_aisle_lem Leftmost j k a b = same_number j k a b
one_aisle_lem Rightmost j k a b = same_number j k b a

-- the entered aisle at an end is the one beyond which none is entered
at_end_lem : (end : End) (plan : Plan) (k : ℕ) → EnteredAt end plan k ↔ (Entered plan k × ((j : ℕ) → Beyond end k j → Entered plan j → ⊥))
unfolding First Last
at_end_lem Leftmost plan k = ((λ f. f), (λ f. f))
at_end_lem Rightmost plan k = ((λ l. l), (λ l. l))

-- there is one entered aisle at an end
one_back : (end : End) (plan : Plan) (j k : ℕ) → EnteredAt end plan j → EnteredAt end plan k → j ≡ k
one_back end plan j k e f =
    let g = (at_end_lem end plan j).0 e in
    let h = (at_end_lem end plan k).0 f in
    one_aisle_lem end j k (λ l. h.1 j l g.0) (λ l. g.1 k l h.0)

module _ (plan : Plan) (i : ℕ) where
  -- one more ONCE, or VOID
  still_once : AllOnce plan i → (Entered plan (suc i) → action_at plan (suc i) ≡ Once) → AllOnce plan (suc i)
  still_once all new j l e = elim (below j i l) [
    | inl h ↦ all j h e
    | inr p ↦ rw p (new (rw p at e))
  ]

  -- one more VOID leaves the next aisle at the end
  still_free : (end : End) → Free end plan i → (Entered plan (suc i) → ⊥) → Free end plan (suc i)
  still_free Leftmost free void = λ j l e. elim (below j i l) [ inl h ↦ free j h e | inr p ↦ void (rw p at e) ]
  still_free Rightmost free void = tt

  -- the next aisle is at the end: none entered lies beyond it
  none_beyond : (end : End) → Free end plan i → (j : ℕ) → Beyond end (suc i) j → j ≤ suc i → Entered plan j → ⊥
  none_beyond Leftmost free j l h e = free j (omega arith) e
  none_beyond Rightmost free j l h e = omega arith

  -- behind a ONCE: at the left end none is walked back any more, at the right end the next aisle may be
  free_after : (end : End) (o : State) → AfterOnce end o → Free end plan (suc i) ⊎ Past end (traversal_once end o)
  free_after Leftmost o past = inr past
  free_after Rightmost o not-past = inl tt

  -- a ONCE that comes behind the aisle walked back: at the left end it does not lie beyond it, at the right end there is none
  behind_bottom : (end : End) (o : State) → AfterOnce end o → Past end o → (b : OneBottom end plan i)
      → (Beyond end b.place (suc i) → ⊥) × Past end (traversal_once end o)
  behind_bottom Leftmost o past before b = ((λ l. let h = b.inside in omega arith), past)
  behind_bottom Rightmost o not-past before b = absurd (not-past before)

  module _ {end : End} where
    -- with a BOTTOM: one more VOID, or a ONCE that does not lie beyond it
    still_bottom : (b : OneBottom end plan i) → (Entered plan (suc i) → (action_at plan (suc i) ≡ Once) × (Beyond end b.place (suc i) → ⊥))
        → OneBottom end plan (suc i)
    still_bottom b new =
        record {
          place = b.place;
          inside = let l = b.inside in omega arith;
          bottom = b.bottom;
          others = λ j l e other. elim (below j i l) [ inl h ↦ b.others j h e other | inr p ↦ rw p (new (rw p at e)).0 ];
          beyond = λ j l h e. elim (below j i h) [ inl k ↦ b.beyond j l k e | inr p ↦ (new (rw p at e)).1 (rw p at l) ];
        }

    -- a BOTTOM at the end beside ONCE
    now_bottom : AllOnce plan i → Free end plan i → IsBottom (action_at plan (suc i)) → OneBottom end plan (suc i)
    now_bottom all free b =
        record {
          place = suc i;
          inside = omega arith;
          bottom = b;
          others = λ j l e other. elim (below j i l) [ inl h ↦ all j h e | inr p ↦ absurd (other p) ];
          beyond = none_beyond end free;
        }

    -- what has been gone through with one more VOID
    gone_void : (Entered plan (suc i) → ⊥) → (o : State) → GoneThrough end plan i o → GoneThrough end plan (suc i) o
    gone_void void o (inl (all, c, r)) =
        inl (
          still_once all (λ e. absurd (void e)),
          rw (count_stays plan i void) c,
          elim r [ inl free ↦ inl (still_free end free void) | inr past ↦ inr past ],
        )
    gone_void void o (inr (b, c, past)) = inr (still_bottom b (λ e. absurd (void e)), rw (count_stays plan i void) c, past)

    -- with a BOTTOM behind an even number of ONCE
    gone_bottom : IsBottom (action_at plan (suc i)) → (o : State) → oddness o ≡ 0 → (Past end o → ⊥)
        → GoneThrough end plan i o → GoneThrough end plan (suc i) ending
    gone_bottom b o even not-past (inl (all, c, inl free)) =
        inr (now_bottom all free b, (let n = count_rises plan i (bottom_entered plan (suc i) b) in omega arith), tt)
    gone_bottom b o even not-past (inl (all, c, inr past)) = absurd (not-past past)
    gone_bottom b o even not-past (inr (one, c, past)) = absurd (not-past past)

    -- with one more ONCE
    gone_once : action_at plan (suc i) ≡ Once → (o : State) → Live (traversal_once end o)
        → GoneThrough end plan i o → GoneThrough end plan (suc i) (traversal_once end o)
    gone_once e o l (inl (all, c, r)) =
        let n = count_rises plan i (once_entered plan (suc i) e) in
        let t = once_turns end o l in
        inl (still_once all (λ g. e), omega arith, free_after end o t.1)
    gone_once e o l (inr (b, c, past)) =
        let n = count_rises plan i (once_entered plan (suc i) e) in
        let t = once_turns end o l in
        let behind = behind_bottom end o t.1 past b in
        inr (still_bottom b (λ g. (e, behind.0)), omega arith, behind.1)

    -- with one more action
    gone_action : (a : Action) → action_at plan (suc i) ≡ a → (o : State) → Live (traversal_step end a o)
        → GoneThrough end plan i o → GoneThrough end plan (suc i) (traversal_step end a o)
    unfolding IsBottom
    gone_action Void e o l g = gone_void (void_not_entered plan (suc i) e) o g
    gone_action (Bottom k) e nothing l g = gone_bottom (k, e) nothing refl (λ past. past) g
    gone_action (Bottom k) e closed l g = absurd l
    gone_action (Bottom k) e at_front l g = gone_bottom (k, e) at_front refl (λ past. past) g
    gone_action (Bottom k) e at_back l g = absurd l
    gone_action (Bottom k) e odd l g = absurd l
    gone_action (Bottom k) e joined l g = absurd l
    gone_action (Bottom k) e split l g = absurd l
    gone_action (Bottom k) e ending l g = absurd l
    gone_action (Bottom k) e dead l g = absurd l
    gone_action (Top k) e o l g = absurd l
    gone_action (Gap h k) e o l g = absurd l
    gone_action Once e o l g = gone_once e o l g
    gone_action Twice e o l g = absurd l

    -- a passage adds nothing to it
    gone_passage : (d : ℕ) (p : Passage) (o : State) → Live (cross_step d (suc i) p o)
        → GoneThrough end plan (suc i) o → GoneThrough end plan (suc i) (cross_step d (suc i) p o)
    gone_passage d p o l (inl (all, c, r)) =
        inl (
          all,
          c ∙ sym (passage_parity d (suc i) p o l).1,
          elim r [ inl free ↦ inl free | inr past ↦ inr (past_cross end d (suc i) p o past) ],
        )
    gone_passage d p o l (inr (b, c, past)) = inr (b, c ∙ sym (passage_parity d (suc i) p o l).1, past_cross end d (suc i) p o past)

module _ {z : Layout} {plan : Plan} (wf : WellFormed z plan) (between : ℕ → Action → Bool) where
  -- the state of TRAVERSAL's run before aisle n + 1
  abbrev own : ℕ → State
  own n = policy_state Traversal between z plan n

  -- and of EXACT's
  abbrev exact : ℕ → State
  exact n = lawful_state z.depot plan n

  -- the entered aisle at an end, or none is entered
  entered_at : (end : End) → ((j : ℕ) → Entered plan j → ⊥) ⊎ ((k : ℕ) × EnteredAt end plan k)
  entered_at Leftmost = first_entered wf
  entered_at Rightmost = last_entered wf

  -- what the run has gone through up to aisle n
  gone_run : (n : ℕ) → Live (own n) → GoneThrough (walk_back_end z) plan n (own n)
  gone_run zero l = inl ((λ j h e. absurd (none j h e)), refl, inl (free (walk_back_end z)))
    where
      none : (j : ℕ) → j ≤ 0 → Entered plan j → ⊥
      none j h e = let k = entered_inside wf j e in omega arith

      free : (end : End) → Free end plan 0
      free Leftmost = none
      free Rightmost = tt
  gone_run (suc i) l =
      let a = action_at plan (suc i) in
      let p = passage_at plan (suc i) in
      let behind = live_before_passage z.depot (suc i) p (traversal_step (walk_back_end z) a (own i)) l in
      gone_passage plan i z.depot p (traversal_step (walk_back_end z) a (own i)) l
      (gone_action plan i a refl (own i) behind (gone_run i (live_before_step Traversal (walk_back_end z) (between (suc i)) a (own i) behind)))

  module _ (plain : (j : ℕ) → Plain (passage_at plan j)) where
    -- the action of aisle i + 1 keeps the two runs alike
    abbrev Kept : ℕ → Type 0
    Kept i =
        let a = action_at plan (suc i) in
        Alike (walk_back_end z) (own i) (exact i) → AlikeBehind (walk_back_end z) (traversal_step (walk_back_end z) a (own i)) (lawful_step a (exact i))

    -- VOID and ONCE do so
    once_kept : (i : ℕ) → (Entered plan (suc i) → action_at plan (suc i) ≡ Once) → Kept i
    once_kept i once s = elim (entered? plan (suc i)) [
      | inl e ↦ rw (once e) (alike_once (walk_back_end z) (own i) (exact i) s)
      | inr n ↦ rw (not_entered_void plan (suc i) n) (alike_void (walk_back_end z) (own i) (exact i) s)
    ]

    -- the runs are alike as long as every action keeps them so
    alike_run : (n : ℕ) → ((i : ℕ) → i < n → Kept i) → Alike (walk_back_end z) (own n) (exact n)
    alike_run zero kept = alike_begin (walk_back_end z)
    alike_run (suc i) kept =
        alike_cross (walk_back_end z) z.depot (suc i) (passage_at plan (suc i)) (plain (suc i)) _ _
        (kept i (omega arith) (alike_run i (λ j l. kept j (omega arith))))

    -- as where all entered aisles are ONCE
    once_run : (n : ℕ) → AllOnce plan n → Alike (walk_back_end z) (own n) (exact n)
    once_run n all = alike_run n (λ i l. once_kept i (all (suc i) l))

    -- at the left end BOTTOM in the first entered aisle keeps the runs alike
    first_kept : walk_back_end z ≡ Leftmost → (i : ℕ) → IsBottom (action_at plan (suc i)) → Free Leftmost plan i → Kept i
    unfolding IsBottom
    first_kept left i (k, e) none s =
        rw e (subst (λ (end : End). AlikeBehind end (traversal_step end (Bottom k) (own i)) (lawful_step (Bottom k) (exact i)))
        (sym left) (left_bottom k (own i) (exact i) (tracks_run Traversal between z plan plain i none) (even_run z.depot plan i none)))

    -- so that they are alike up to the last aisle
    left_run : walk_back_end z ≡ Leftmost → (n : ℕ) → OneBottom Leftmost plan n → Alike (walk_back_end z) (own n) (exact n)
    left_run left n b = alike_run n (λ i l. kept i l (eqb (suc i) b.place) refl)
      where
        kept : (i : ℕ) → i < n → (same : Bool) → eqb (suc i) b.place ≡ same → Kept i
        kept i l true e =
            let p = eqb-true (suc i) b.place e in
            first_kept left i (rw (sym p) at b.bottom) (λ j h. b.beyond j (omega arith) (omega arith))
        kept i l false e = once_kept i (λ entered. b.others (suc i) l entered (eqb-false (suc i) b.place e))

    -- at the right end the policy's run begins to end at a BOTTOM behind ONCE
    last_ends : walk_back_end z ≡ Rightmost → (i : ℕ) → IsBottom (action_at plan (suc i)) → AllOnce plan i → EndsBehind Traversal between z plan i
    unfolding IsBottom
    last_ends right i (k, e) all =
        rw e (tracks_bottom (walk_back_end z) k (own i) (exact i) (subst (λ (end : End). Alike end (own i) (exact i)) right (once_run i all)))

    -- so that it ends behind the last entered aisle
    right_run : walk_back_end z ≡ Rightmost → (n : ℕ) → OneBottom Rightmost plan n → Ends (own n) (exact n)
    right_run right n b = go b.place refl
      where
        go : (j : ℕ) → b.place ≡ j → Ends (own n) (exact n)
        go zero p = absurd (let e = entered_inside wf b.place (bottom_entered plan b.place b.bottom) in omega arith)
        go (suc i) p =
            let l = b.inside in
            ends_run Traversal between z plan plain i n
            (last_ends right i (rw p at b.bottom) (λ j h e. b.others j (omega arith) e (λ q. omega arith)))
            (λ j h. b.beyond j (omega arith)) n (omega arith) (omega arith)

    -- a plan gone through in one of these ways is closed off if EXACT's table closes it off
    gone_closes : (n : ℕ) → exact n ≡ closed → AllOnce plan n ⊎ OneBottom (walk_back_end z) plan n → own n ≡ closed
    gone_closes n c (inl all) = alike_closed (walk_back_end z) (own n) (exact n) c (once_run n all)
    gone_closes n c (inr b) = go (walk_back_end z) refl b
      where
        go : (end : End) → walk_back_end z ≡ end → OneBottom end plan n → own n ≡ closed
        go Leftmost left one = alike_closed (walk_back_end z) (own n) (exact n) c (left_run left n one)
        go Rightmost right one = subst (Ends (own n)) c (right_run right n one)

  -- the rule says how the entered aisles are gone through
  rule_gone : TraversalRule FrontSide z plan → AllOnce plan z.aisles ⊎ OneBottom (walk_back_end z) plan z.aisles
  rule_gone rule = go (parity (entered_up_to plan z.aisles)) (entered_at (walk_back_end z))
    where
      parity : (n : ℕ) → (n % 2 ≡ 0) ⊎ (n % 2 ≡ 1)
      parity n = elim (split_at 0 (n % 2)) [ inl h ↦ inr (omega arith) | inr h ↦ inl (omega arith) ]

      go : (entered_up_to plan z.aisles % 2 ≡ 0) ⊎ (entered_up_to plan z.aisles % 2 ≡ 1)
          → ((j : ℕ) → Entered plan j → ⊥) ⊎ ((k : ℕ) × WalkedBack z plan k)
          → AllOnce plan z.aisles ⊎ OneBottom (walk_back_end z) plan z.aisles
      go (inl even) back = inl (λ j l e. rule.even (rw (count_all wf) even) j e)
      go (inr odd-one) (inl none) = inl (λ j l e. absurd (none j e))
      go (inr odd-one) (inr (k, back)) =
          let odd-all : entered_aisles plan % 2 ≡ 1 = rw (count_all wf) odd-one in
          let only = (at_end_lem (walk_back_end z) plan k).0 back in
          inr (record {
            place = k;
            inside = (entered_inside wf k only.0).1;
            bottom = rule.odd_walked_back odd-all k back;
            others = λ j l e other. rule.odd_others odd-all j e (λ too. other (one_back (walk_back_end z) plan j k too back));
            beyond = λ j l h e. only.1 j l e;
          })

  -- what has been gone through keeps the rule
  gone_rule : GoneThrough (walk_back_end z) plan z.aisles closed → TraversalRule FrontSide z plan
  gone_rule (inl (all, c, r)) =
      record {
        even = λ n j e. all j (entered_inside wf j e).1 e;
        odd_walked_back = λ n. absurd (let q = rw (count_all wf) at n in omega arith);
        odd_others = λ n j e other. all j (entered_inside wf j e).1 e;
      }
  gone_rule (inr (b, c, past)) =
      record {
        even = λ n. absurd (let q = rw (count_all wf) at n in omega arith);
        odd_walked_back = λ n j back. rw (one_back (walk_back_end z) plan j b.place back walked) b.bottom;
        odd_others = λ n j e other. b.others j (entered_inside wf j e).1 e (λ p. other (rw p walked));
      }
    where
      walked : WalkedBack z plan b.place
      walked =
          (at_end_lem (walk_back_end z) plan b.place).1
          (bottom_entered plan b.place b.bottom, λ j l e. b.beyond j l (entered_inside wf j e).1 e)

  -- TRAVERSAL's table closes off a plan just when EXACT's does and the rule is kept
  pub traversal_table : ((j : ℕ) → Plain (passage_at plan j))
      → (policy_state Traversal between z plan z.aisles ≡ closed) ↔ ((lawful_state z.depot plan z.aisles ≡ closed) × TraversalRule FrontSide z plan)
  traversal_table plain = (
    (λ c. (
      subst (λ (o : State). Fitting o (exact z.aisles)) c (traversal_fits between z plan z.aisles),
      gone_rule (subst (GoneThrough (walk_back_end z) plan z.aisles) c (gone_run z.aisles (subst Live (sym c) tt))),
    )),
    (λ h. gone_closes plain z.aisles h.0 (rule_gone h.1)),
  )
