-- The tables of TRAVERSAL and MIDPOINT beside the table of EXACT: how the states of the two runs of a plan belong together.
-- LARGEST has MIDPOINT's table. The test for aisles between may be any.
use Prim.Native.Nat.{ℕ, zero, suc, ◌≤◌, ◌<◌}
use native.Mathlib.Omega.{arith}
use mathlib.Core.Path.{◌≡◌, refl, ◌∙◌, subst}
use mathlib.Core.Logic.{◌⊎◌, inl, inr}
use mathlib.Core.Bool.{Bool, true, false, cond}
use lib.Dec.{ltb, leb, eqb}
use Rattle.rules.specs.declared.Side.TheVariants.{FrontSide}
use Rattle.rules.specs.declared.Layout.{Layout}
use Rattle.rules.specs.declared.Policy.{Policy}
use Rattle.rules.specs.declared.Policy.TheVariants.{Exact, Return, Traversal, Midpoint, Composite, Largest}
use Rattle.rules.specs.declared.Action.{Action}
use Rattle.rules.specs.declared.Action.TheVariants.{Void, Bottom, Top, Gap, Once, Twice}
use Rattle.rules.specs.declared.Passage.{Passage}
use Rattle.rules.specs.declared.Passage.TheVariants.{P00, P02, P11, P20, P22}
use Rattle.rules.specs.Plans.{Plan, action_at, passage_at}
use Rattle.rules.specs.declared.End.{End}
use Rattle.rules.specs.declared.End.TheVariants.{Leftmost, Rightmost}
use Rattle.rules.specs.Policies.{passage_named, Entered, walk_back_end}
use Rattle.rules.specs.Machine.{State, nothing, closed, at_front, at_back, odd, joined, split, ending, dead, lawful_step, traversal_step, midpoint_step, policy_step, cross_step}
use Rattle.tours.specs.Prefixes.{lawful_state, policy_state}
use Rattle.tours.proofs.Basics.{below, false_not_true, either_outcome}
use Rattle.tours.proofs.Parity.{Live, oddness, passage_parity, live_before_passage}
use Rattle.tours.proofs.Counting.{not_entered_void}

-- the state x of EXACT's run fits the state o of the policy's own run: the same, but `ending` stands for two others
abbrev pub Fitting : State → State → Type 0
Fitting nothing x = x ≡ nothing
Fitting closed x = x ≡ closed
Fitting at_front x = x ≡ at_front
Fitting at_back x = x ≡ at_back
Fitting odd x = x ≡ odd
Fitting joined x = x ≡ joined
Fitting split x = x ≡ split
Fitting ending x = (x ≡ at_front) ⊎ (x ≡ joined)
Fitting dead x = Unit {0}

-- two steps fit if they do state by state; the policy's from `ending` beside EXACT's from both that it stands for
fitting_steps : (own exact : State → State)
    → Fitting (own nothing) (exact nothing) → Fitting (own closed) (exact closed) → Fitting (own at_front) (exact at_front)
    → Fitting (own at_back) (exact at_back) → Fitting (own odd) (exact odd) → Fitting (own joined) (exact joined)
    → Fitting (own split) (exact split) → Fitting (own ending) (exact at_front) → Fitting (own ending) (exact joined) → own dead ≡ dead
    → (o x : State) → Fitting o x → Fitting (own o) (exact x)
fitting_steps own exact n c f k t j s ef ej d nothing x e = rw e n
fitting_steps own exact n c f k t j s ef ej d closed x e = rw e c
fitting_steps own exact n c f k t j s ef ej d at_front x e = rw e f
fitting_steps own exact n c f k t j s ef ej d at_back x e = rw e k
fitting_steps own exact n c f k t j s ef ej d odd x e = rw e t
fitting_steps own exact n c f k t j s ef ej d joined x e = rw e j
fitting_steps own exact n c f k t j s ef ej d split x e = rw e s
fitting_steps own exact n c f k t j s ef ej d ending x (inl e) = rw e ef
fitting_steps own exact n c f k t j s ef ej d ending x (inr e) = rw e ej
fitting_steps own exact n c f k t j s ef ej d dead x e = rw d tt

-- TRAVERSAL's table fits EXACT's, whichever end it walks back at
fitting_traversal : (end : End) (a : Action) (o x : State) → Fitting o x → Fitting (traversal_step end a o) (lawful_step a x)
fitting_traversal end Void = λ o x e. e
fitting_traversal end (Bottom i) =
    fitting_steps (traversal_step end (Bottom i)) (lawful_step (Bottom i)) (inl refl) tt (inl refl) tt tt tt tt tt tt refl
fitting_traversal end (Top i) = λ o x e. tt
fitting_traversal end (Gap h i) = λ o x e. tt
fitting_traversal Leftmost Once = fitting_steps (traversal_step Leftmost Once) (lawful_step Once) refl tt refl tt (inr refl) tt tt refl refl refl
fitting_traversal Rightmost Once = fitting_steps (traversal_step Rightmost Once) (lawful_step Once) refl tt refl tt refl tt tt tt tt refl
fitting_traversal end Twice = λ o x e. tt

-- what the test refuses is `dead`, and fits all
odd_if : (b : Bool) → Fitting (cond b odd dead) odd
odd_if true = refl
odd_if false = tt

-- MIDPOINT's table fits EXACT's, whatever the test
fitting_midpoint : (between : Action → Bool) (a : Action) (o x : State) → Fitting o x → Fitting (midpoint_step between a o) (lawful_step a x)
fitting_midpoint between Void = λ o x e. e
fitting_midpoint between (Bottom i) =
    fitting_steps (midpoint_step between (Bottom i)) (lawful_step (Bottom i))
    (inl refl) tt (inl refl) tt (odd_if (between (Bottom i))) tt tt tt tt refl
fitting_midpoint between (Top i) =
    fitting_steps (midpoint_step between (Top i)) (lawful_step (Top i)) tt tt tt tt (odd_if (between (Top i))) tt tt tt tt refl
fitting_midpoint between (Gap h i) =
    fitting_steps (midpoint_step between (Gap h i)) (lawful_step (Gap h i)) tt tt tt tt (odd_if (between (Gap h i))) tt tt tt tt refl
fitting_midpoint between Once = fitting_steps (midpoint_step between Once) (lawful_step Once) refl tt refl tt (inr refl) tt tt tt tt refl
fitting_midpoint between Twice = λ o x e. tt

-- over a passage the states go on to fit
fitting_cross : (d j : ℕ) (p : Passage) (o x : State) → Fitting o x → Fitting (cross_step d j p o) (cross_step d j p x)
fitting_cross d j P00 =
    let reached = either_outcome (λ (s : State). Fitting s s) (leb d j) closed dead refl tt in
    let passed = either_outcome (λ (s : State). Fitting s s) (ltb d j) closed dead refl tt in
    fitting_steps (cross_step d j P00) (cross_step d j P00)
    (either_outcome (λ (s : State). Fitting s s) (eqb j d) dead nothing tt refl) refl reached passed tt reached tt reached reached refl
fitting_cross d j P02 = fitting_steps (cross_step d j P02) (cross_step d j P02) refl tt refl tt tt refl tt (inl refl) (inl refl) refl
fitting_cross d j P11 = fitting_steps (cross_step d j P11) (cross_step d j P11) tt tt tt tt refl tt tt tt tt refl
fitting_cross d j P20 =
    let there = either_outcome (λ (s : State). Fitting s s) (eqb j d) dead at_back tt refl in
    fitting_steps (cross_step d j P20) (cross_step d j P20) there tt tt there tt refl tt tt tt refl
fitting_cross d j P22 = fitting_steps (cross_step d j P22) (cross_step d j P22) refl tt refl refl tt refl refl tt tt refl

module _ (between : ℕ → Action → Bool) (z : Layout) (plan : Plan) where
  -- what TRAVERSAL's table closes off, EXACT's does
  pub traversal_fits : (n : ℕ) → Fitting (policy_state Traversal between z plan n) (lawful_state z.depot plan n)
  traversal_fits zero = refl
  traversal_fits (suc i) =
      fitting_cross z.depot (suc i) (passage_at plan (suc i)) _ _
      (fitting_traversal (walk_back_end z) (action_at plan (suc i)) (policy_state Traversal between z plan i) (lawful_state z.depot plan i) (traversal_fits i))

  -- the same for MIDPOINT
  pub midpoint_fits : (n : ℕ) → Fitting (policy_state Midpoint between z plan n) (lawful_state z.depot plan n)
  midpoint_fits zero = refl
  midpoint_fits (suc i) =
      fitting_cross z.depot (suc i) (passage_at plan (suc i)) _ _
      (fitting_midpoint (between (suc i)) (action_at plan (suc i)) (policy_state Midpoint between z plan i) (lawful_state z.depot plan i) (midpoint_fits i))

-- before the end: the policy's run is in the same state; x is one of those that 00, 02 and 11 lead to
abbrev pub Tracks : State → State → Type 0
Tracks o nothing = o ≡ nothing
Tracks o closed = o ≡ closed
Tracks o at_front = o ≡ at_front
Tracks o at_back = ⊥
Tracks o odd = o ≡ odd
Tracks o joined = ⊥
Tracks o split = ⊥
Tracks o ending = ⊥
Tracks o dead = Unit {0}

-- the same behind an aisle, where ONCE may have joined the crossings
abbrev pub TracksBehind : State → State → Type 0
TracksBehind o nothing = o ≡ nothing
TracksBehind o closed = o ≡ closed
TracksBehind o at_front = o ≡ at_front
TracksBehind o at_back = ⊥
TracksBehind o odd = o ≡ odd
TracksBehind o joined = o ≡ joined
TracksBehind o split = ⊥
TracksBehind o ending = ⊥
TracksBehind o dead = Unit {0}

-- between two ONCE: both runs are in the state `odd`
abbrev pub Between : State → State → Type 0
Between o nothing = ⊥
Between o closed = ⊥
Between o at_front = ⊥
Between o at_back = ⊥
Between o odd = o ≡ odd
Between o joined = ⊥
Between o split = ⊥
Between o ending = ⊥
Between o dead = Unit {0}

-- behind the last entered aisle; from `odd` nothing is closed off any more
abbrev pub Ends : State → State → Type 0
Ends o nothing = ⊥
Ends o closed = o ≡ closed
Ends o at_front = o ≡ ending
Ends o at_back = ⊥
Ends o odd = Unit {0}
Ends o joined = o ≡ ending
Ends o split = ⊥
Ends o ending = ⊥
Ends o dead = Unit {0}

-- TRAVERSAL, MIDPOINT and LARGEST have the passages 00, 02 and 11
abbrev pub Plain : Passage → Type 0
Plain p = passage_named FrontSide Traversal p ≡ true

-- closed off on one side, closed off on the other
tracks_when : (b : Bool) → Tracks (cond b closed dead) (cond b closed dead)
tracks_when true = refl
tracks_when false = tt

-- nothing trodden on one side, nothing on the other
tracks_unless : (b : Bool) → Tracks (cond b dead nothing) (cond b dead nothing)
tracks_unless true = tt
tracks_unless false = refl

-- closed off on one side, closed off on the other
ends_when : (b : Bool) → Ends (cond b closed dead) (cond b closed dead)
ends_when true = refl
ends_when false = tt

-- each of these relations is kept over a passage
pub tracks_cross : (d j : ℕ) (p : Passage) → Plain p → (o x : State) → TracksBehind o x → Tracks (cross_step d j p o) (cross_step d j p x)
tracks_cross d j P00 n o nothing e = rw e (tracks_unless (eqb j d))
tracks_cross d j P00 n o closed e = rw e
tracks_cross d j P00 n o at_front e = rw e (tracks_when (leb d j))
tracks_cross d j P00 n o at_back e = absurd e
tracks_cross d j P00 n o odd e = tt
tracks_cross d j P00 n o joined e = rw e (tracks_when (leb d j))
tracks_cross d j P00 n o split e = absurd e
tracks_cross d j P00 n o ending e = absurd e
tracks_cross d j P00 n o dead e = tt
tracks_cross d j P02 n o nothing e = rw e
tracks_cross d j P02 n o closed e = tt
tracks_cross d j P02 n o at_front e = rw e
tracks_cross d j P02 n o at_back e = absurd e
tracks_cross d j P02 n o odd e = tt
tracks_cross d j P02 n o joined e = rw e
tracks_cross d j P02 n o split e = absurd e
tracks_cross d j P02 n o ending e = absurd e
tracks_cross d j P02 n o dead e = tt
tracks_cross d j P11 n o nothing e = tt
tracks_cross d j P11 n o closed e = tt
tracks_cross d j P11 n o at_front e = tt
tracks_cross d j P11 n o at_back e = absurd e
tracks_cross d j P11 n o odd e = rw e
tracks_cross d j P11 n o joined e = tt
tracks_cross d j P11 n o split e = absurd e
tracks_cross d j P11 n o ending e = absurd e
tracks_cross d j P11 n o dead e = tt
tracks_cross d j P20 n o x e = absurd (false_not_true n)
tracks_cross d j P22 n o x e = absurd (false_not_true n)

-- between two ONCE
pub between_cross : (d j : ℕ) (p : Passage) → Plain p → (o x : State) → Between o x → Between (cross_step d j p o) (cross_step d j p x)
between_cross d j P00 n o nothing e = absurd e
between_cross d j P00 n o closed e = absurd e
between_cross d j P00 n o at_front e = absurd e
between_cross d j P00 n o at_back e = absurd e
between_cross d j P00 n o odd e = tt
between_cross d j P00 n o joined e = absurd e
between_cross d j P00 n o split e = absurd e
between_cross d j P00 n o ending e = absurd e
between_cross d j P00 n o dead e = tt
between_cross d j P02 n o nothing e = absurd e
between_cross d j P02 n o closed e = absurd e
between_cross d j P02 n o at_front e = absurd e
between_cross d j P02 n o at_back e = absurd e
between_cross d j P02 n o odd e = tt
between_cross d j P02 n o joined e = absurd e
between_cross d j P02 n o split e = absurd e
between_cross d j P02 n o ending e = absurd e
between_cross d j P02 n o dead e = tt
between_cross d j P11 n o nothing e = absurd e
between_cross d j P11 n o closed e = absurd e
between_cross d j P11 n o at_front e = absurd e
between_cross d j P11 n o at_back e = absurd e
between_cross d j P11 n o odd e = rw e
between_cross d j P11 n o joined e = absurd e
between_cross d j P11 n o split e = absurd e
between_cross d j P11 n o ending e = absurd e
between_cross d j P11 n o dead e = tt
between_cross d j P20 n o x e = absurd (false_not_true n)
between_cross d j P22 n o x e = absurd (false_not_true n)

-- behind the last entered aisle
ends_cross : (d j : ℕ) (p : Passage) → Plain p → (o x : State) → Ends o x → Ends (cross_step d j p o) (cross_step d j p x)
ends_cross d j P00 n o nothing e = absurd e
ends_cross d j P00 n o closed e = rw e
ends_cross d j P00 n o at_front e = rw e (ends_when (leb d j))
ends_cross d j P00 n o at_back e = absurd e
ends_cross d j P00 n o odd e = tt
ends_cross d j P00 n o joined e = rw e (ends_when (leb d j))
ends_cross d j P00 n o split e = absurd e
ends_cross d j P00 n o ending e = absurd e
ends_cross d j P00 n o dead e = tt
ends_cross d j P02 n o nothing e = absurd e
ends_cross d j P02 n o closed e = tt
ends_cross d j P02 n o at_front e = rw e
ends_cross d j P02 n o at_back e = absurd e
ends_cross d j P02 n o odd e = tt
ends_cross d j P02 n o joined e = rw e
ends_cross d j P02 n o split e = absurd e
ends_cross d j P02 n o ending e = absurd e
ends_cross d j P02 n o dead e = tt
ends_cross d j P11 n o nothing e = absurd e
ends_cross d j P11 n o closed e = tt
ends_cross d j P11 n o at_front e = tt
ends_cross d j P11 n o at_back e = absurd e
ends_cross d j P11 n o odd e = tt
ends_cross d j P11 n o joined e = tt
ends_cross d j P11 n o split e = absurd e
ends_cross d j P11 n o ending e = absurd e
ends_cross d j P11 n o dead e = tt
ends_cross d j P20 n o x e = absurd (false_not_true n)
ends_cross d j P22 n o x e = absurd (false_not_true n)

-- no passage leads out of `dead`
dead_stays : (d j : ℕ) (p : Passage) → cross_step d j p dead ≡ dead
dead_stays d j P00 = refl
dead_stays d j P02 = refl
dead_stays d j P11 = refl
dead_stays d j P20 = refl
dead_stays d j P22 = refl

-- no aisle may be walked back any more, and at the right end none may be entered
abbrev pub Past : End → State → Type 0
Past end nothing = ⊥
Past end closed = Unit {0}
Past end at_front = ⊥
Past end at_back = ⊥
Past Leftmost odd = Unit {0}
Past Rightmost odd = ⊥
Past end joined = ⊥
Past end split = ⊥
Past end ending = Unit {0}
Past end dead = Unit {0}

-- and stays so over a passage
pub past_cross : (end : End) (d j : ℕ) (p : Passage) (s : State) → Past end s → Past end (cross_step d j p s)
past_cross end d j p nothing e = absurd e
past_cross end d j P00 closed e = tt
past_cross end d j P02 closed e = tt
past_cross end d j P11 closed e = tt
past_cross end d j P20 closed e = tt
past_cross end d j P22 closed e = tt
past_cross end d j p at_front e = absurd e
past_cross end d j p at_back e = absurd e
past_cross Leftmost d j P00 odd e = tt
past_cross Leftmost d j P02 odd e = tt
past_cross Leftmost d j P11 odd e = tt
past_cross Leftmost d j P20 odd e = tt
past_cross Leftmost d j P22 odd e = tt
past_cross Rightmost d j p odd e = absurd e
past_cross end d j p joined e = absurd e
past_cross end d j p split e = absurd e
past_cross end d j P00 ending e = either_outcome (Past end) (leb d j) closed dead tt tt
past_cross end d j P02 ending e = tt
past_cross end d j P11 ending e = tt
past_cross end d j P20 ending e = tt
past_cross end d j P22 ending e = tt
past_cross end d j p dead e = rw (dead_stays d j p) tt

-- no aisle may be entered any more
abbrev pub Over : State → Type 0
Over s = Past Rightmost s

-- and stays so over a passage
pub over_cross : (d j : ℕ) (p : Passage) (s : State) → Over s → Over (cross_step d j p s)
over_cross = past_cross Rightmost

-- VOID changes nothing
pub tracks_void : (o x : State) → Tracks o x → TracksBehind o x
tracks_void o nothing e = e
tracks_void o closed e = e
tracks_void o at_front e = e
tracks_void o at_back e = e
tracks_void o odd e = e
tracks_void o joined e = absurd e
tracks_void o split e = e
tracks_void o ending e = e
tracks_void o dead e = e

-- one less on both sides
suc_injective : {i n : ℕ} → suc i ≡ suc n → i ≡ n
suc_injective p = omega arith

-- VOID changes no state
void_step : (policy : Policy) (end : End) (between : Action → Bool) (s : State) → policy_step policy end between Void s ≡ s
void_step Exact end between s = refl
void_step Return end between s = refl
void_step Traversal end between s = refl
void_step Midpoint end between s = refl
void_step Composite end between s = refl
void_step Largest end between s = refl

-- none of the first n aisles is entered
abbrev pub NoneEntered : Plan → ℕ → Type 0
NoneEntered plan n = (j : ℕ) → j ≤ n → Entered plan j → ⊥

-- before the first entered aisle EXACT's run is not in the state `odd`
pub even_run : (d : ℕ) (plan : Plan) (n : ℕ) → NoneEntered plan n → Live (lawful_state d plan n) → oddness (lawful_state d plan n) ≡ 0
even_run d plan zero none l = refl
even_run d plan (suc i) none l =
    let p = passage_at plan (suc i) in
    let x = lawful_state d plan i in
    let e = not_entered_void plan (suc i) (none (suc i) (omega arith)) in
    let k = subst (λ (a : Action). Live (cross_step d (suc i) p (lawful_step a x))) e l in
    rw e ((passage_parity d (suc i) p x k).1
    ∙ even_run d plan i (λ j h. none j (omega arith)) (live_before_passage d (suc i) p x k))

module _ (policy : Policy) (between : ℕ → Action → Bool) (z : Layout) (plan : Plan) where
  -- before the first entered aisle the two runs are the same
  pub tracks_run : ((j : ℕ) → Plain (passage_at plan j)) → (n : ℕ) → NoneEntered plan n → Tracks (policy_state policy between z plan n) (lawful_state z.depot plan n)
  tracks_run plain zero none = refl
  tracks_run plain (suc i) none =
      tracks_cross z.depot (suc i) (passage_at plan (suc i)) (plain (suc i)) _ _
      (rw (not_entered_void plan (suc i) (none (suc i) (omega arith)), void_step policy (walk_back_end z) (between (suc i)) (policy_state policy between z plan i))
      (tracks_void (policy_state policy between z plan i) (lawful_state z.depot plan i) (tracks_run plain i (λ j l. none j (omega arith)))))

  -- behind the action of aisle i + 1 both runs begin to end
  abbrev pub EndsBehind : ℕ → Type 0
  EndsBehind i =
      Ends (policy_step policy (walk_back_end z) (between (suc i)) (action_at plan (suc i)) (policy_state policy between z plan i))
      (lawful_step (action_at plan (suc i)) (lawful_state z.depot plan i))

  -- behind the last entered aisle, i + 1, both runs go on to their ends
  pub ends_run : ((j : ℕ) → Plain (passage_at plan j)) → (i m : ℕ) → EndsBehind i
      → ((j : ℕ) → suc i < j → j ≤ m → Entered plan j → ⊥)
      → (n : ℕ) → n ≤ m → suc i ≤ n
      → Ends (policy_state policy between z plan n) (lawful_state z.depot plan n)
  ends_run plain i m last none zero l h = absurd (omega arith)
  ends_run plain i m last none (suc n) l h =
      ends_cross z.depot (suc n) (passage_at plan (suc n)) (plain (suc n)) _ _ (elim (below (suc i) n h) [
        | inl g ↦ rw (not_entered_void plan (suc n) (none (suc n) (omega arith) l), void_step policy (walk_back_end z) (between (suc n)) (policy_state policy between z plan n))
            (ends_run plain i m last none n (omega arith) g)
        | inr p ↦ subst EndsBehind (suc_injective p) last
      ])
