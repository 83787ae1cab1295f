-- A serving plan exists: where no line exceeds all the stock of its article, some plan that the policy allows serves the list.
-- It enters every aisle that holds a listed article and passes all its cells. From aisle to aisle it goes on at the front, or at
-- both ends while a round is open, and is closed off behind the last aisle; whether a round is opened goes by the number of aisles
-- still to be entered. LARGEST's is MIDPOINT's with its gaps moved.
use Prim.Native.Nat.{ℕ, zero, suc, ◌+◌, ◌*◌, ◌≤◌, ◌<◌}
use native.Mathlib.Omega.{arith}
use mathlib.Core.Path.{◌≡◌, refl, sym, ◌∙◌, ap, subst}
use mathlib.Core.Logic.{◌⊎◌, inl, inr}
use mathlib.Core.List.{List, [], ◌∷◌, Memᴰ}
use mathlib.Core.Bool.{Bool, true, false, cond, not, ◌&&◌, ◌||◌}
use borrow.Author.Tests.{le-leb, leb-false, eqb-true, eq-eqb, not-true, not-false}
use lib.Dec.{leb, eqb}
use lib.ListN.{length}
use Rattle.rules.specs.declared.Side.{Side}
use Rattle.rules.specs.declared.Side.TheVariants.{FrontSide, BackSide}
use Rattle.rules.specs.declared.Layout.{Layout}
use Rattle.rules.specs.declared.Policy.{Policy}
use Rattle.rules.specs.declared.Policy.TheVariants.{Exact, Return, Traversal, Midpoint, Composite, Largest}
use Rattle.rules.specs.declared.Action.{Action}
use Rattle.rules.specs.declared.Action.TheVariants.{Void, Bottom, Top, Gap, Once}
use Rattle.rules.specs.declared.Passage.{Passage}
use Rattle.rules.specs.declared.Passage.TheVariants.{P00, P02, P11}
use Rattle.rules.specs.declared.StockRecord.{StockRecord}
use Rattle.rules.specs.declared.OrderLine.{OrderLine}
use Rattle.rules.specs.Store.{side_of, position, aisle_length, LayoutWithin}
use Rattle.rules.specs.Lists.{from, nth, sum_of, select}
use Rattle.rules.specs.Jobs.{Job, job_under, open_stock, listed, holds_listed}
use Rattle.rules.specs.Plans.{Plan, WellFormed, Fits, action_at, passes_cell, plan_passes}
use Rattle.rules.specs.declared.End.{End}
use Rattle.rules.specs.declared.End.TheVariants.{Leftmost, Rightmost}
use Rattle.rules.specs.Policies.{Allowed, action_named, passage_named, walk_back_end, in_front_half, in_back_half, halved, through}
use Rattle.rules.specs.Turned.{turned_height, seen_from, seen, passage_from, seen_passage}
use Rattle.rules.specs.Serving.{supply, Serves, PlanServes}
use Rattle.rules.specs.Refusals.{Admitted, all_stock, RecordWithin}
use Rattle.rules.specs.Machine.{State, nothing, closed, at_front, odd, joined, ending, dead, lawful_step, midpoint_by, policy_by, policy_step, between_test, cross_step}
use Rattle.rules.specs.Machine.{is_void, may_enter, action_possible, action_step, passage_step, run_from, is_closed, closes_off, accepts}
use Rattle.rules.proofs.Lists.{any_true, from_member, member_select, sum_agree}
use Rattle.rules.specs.BestPlan.{empty_plan}
use Rattle.rules.proofs.Admission.{layout_within, stock_within, list_within, lines_in_stock, admitted_under, open_in_stock}
use Rattle.rules.proofs.Jobs.{holding_open}
use Rattle.rules.proofs.EmptyPlan.{empty_well_formed, seen_void, seen_00}
use Rattle.rules.proofs.EmptyList.{closed_accepted, empty_accepted, empty_serves}
use Rattle.mirror.proofs.Plans.{passage_twice}
use Rattle.tours.proofs.Basics.{split_at, true_not_false}
use Rattle.tours.proofs.Sides.{seen_through, seen_named, seen_asked}
use Rattle.tours.proofs.Machine.{accepts_allowed}
use Rattle.tours.proofs.GapsMoved.{line_listed, gaps_moved}

-- an action that passes all cells of its aisle
record Whole (cells : ℕ) (a : Action) : Type 0 where
  fits : Fits cells a
  passes : (c : ℕ) → 1 ≤ c → c ≤ cells → passes_cell a c ≡ true

-- BOTTOM up to the last cell passes all cells
bottom_whole : (cells : ℕ) → 1 ≤ cells → Whole cells (Bottom cells)
bottom_whole cells some = record { fits = omega arith; passes = λ c low high. le-leb c cells high }

-- and so does TOP down to the first
top_whole : (cells : ℕ) → 1 ≤ cells → Whole cells (Top 1)
top_whole cells some = record { fits = omega arith; passes = λ c low high. le-leb 1 c low }

-- ONCE passes all cells
once_whole : (cells : ℕ) → Whole cells Once
once_whole cells = record { fits = tt; passes = λ c low high. refl }

-- a cell up to which an aisle is walked from the front, and behind which it is walked from the back
record Half (z : Layout) (n h : ℕ) : Type 0 where
  within : h ≤ n
  front : 0 < h → in_front_half z h ≡ true
  back : h < n → in_back_half z (suc h) ≡ true

-- every cell is in one of the halves
in_back_half_lem : (z : Layout) (c : ℕ) → in_front_half z c ≡ false → in_back_half z c ≡ true
unfolding in_front_half in_back_half
in_back_half_lem z c f =
    let p = 2 * position z c in
    let l = leb-false p (aisle_length z) f in
    le-leb (aisle_length z) p (omega arith)

-- among the first n cells there is such a cell
half_of : (z : Layout) (n : ℕ) → (h : ℕ) × Half z n h
half_of z zero = (0, record { within = omega arith; front = λ l. absurd (omega arith); back = λ l. absurd (omega arith) })
half_of z (suc n) = let t = half_of z n in go t.0 t.1 (split_at t.0 n) (in_front_half z (suc n)) refl
  where
    go : (h : ℕ) → Half z n h → (h < n) ⊎ (n ≤ h) → (b : Bool) → in_front_half z (suc n) ≡ b → (k : ℕ) × Half z (suc n) k
    go h t (inl l) b f = (h, record { within = omega arith; front = t.front; back = λ k. t.back l })
    go h t (inr l) true f = (suc n, record { within = omega arith; front = λ k. f; back = λ k. absurd (omega arith) })
    go h t (inr l) false f =
        let w = t.within in
        let e : h ≡ n = omega arith in
        (h, record { within = omega arith; front = t.front; back = λ k. rw e (in_back_half_lem z (suc n) f) })

-- an action between the first and the last entered aisle of MIDPOINT that passes all cells
record Between (z : Layout) (a : Action) : Type 0 where
  whole : Whole z.cells a
  named : action_named FrontSide Midpoint (seen z a) ≡ true
  step : midpoint_by (halved z a) (seen z a) odd ≡ odd
  is_entered : is_void a ≡ false

-- there is such an action
between : (z : Layout) → 1 ≤ z.cells → (a : Action) × Between z a
between z some = let t = half_of z z.cells in go t.0 t.1 (split_at t.0 z.cells)
  where
    gap : (h c : ℕ) (b : Bool) → leb c h ≡ b → b || leb (suc h) c ≡ true
    gap h c true e = refl
    gap h c false e = le-leb (suc h) c (leb-false c h e)

    -- one that turns back and keeps to the halves
    kept : (a : Action) → Whole z.cells a → through a ≡ false → is_void a ≡ false → halved z a ≡ true → Between z a
    kept a w t v h = record { whole = w; named = seen_named z a t; step = rw h (seen_asked z a t v true); is_entered = v }

    go : (h : ℕ) → Half z z.cells h → (h < z.cells) ⊎ (z.cells ≤ h) → (a : Action) × Between z a
    go zero t l =
        let b = t.back some in
        (Top 1, kept (Top 1) (top_whole z.cells some) refl refl b)
    go (suc h) t (inl l) =
        let f = t.front (omega arith) in
        let b = t.back l in
        let a = Gap (suc h) (suc (suc h)) in
        let w : Whole z.cells a = record { fits = omega arith; passes = λ c low high. gap (suc h) c (leb c (suc h)) refl } in
        (a, kept a w refl refl (rw (f, b)))
    go (suc h) t (inr l) =
        let w = t.within in
        let e : suc h ≡ z.cells = omega arith in
        let f : in_front_half z z.cells ≡ true = rw e at (t.front (omega arith)) in
        (Bottom z.cells, kept (Bottom z.cells) (bottom_whole z.cells some) refl refl f)

-- whether a round may be open with n aisles still to be entered: with any, if an aisle is walked back at the right end, with an odd number, if at the left
abbrev still_open : ℕ → End → Bool
still_open zero end = false
still_open (suc n) Leftmost = not (still_open n Leftmost)
still_open (suc n) Rightmost = true

-- an open round has an aisle that closes it
one_closes : (n : ℕ) (end : End) → still_open n end ≡ true → 1 ≤ n
one_closes zero end e = absurd (true_not_false (sym e))
one_closes (suc n) end e = omega arith

-- whether a round may be open, by the policy: under those that walk aisles through; MIDPOINT and LARGEST walk back a single aisle, as at the right end
abbrev Round : Policy → End → ℕ → Bool → Type 0
Round Exact end n b = ⊥
Round Return end n b = ⊥
Round Traversal end n b = still_open n end ≡ b
Round Midpoint end n b = still_open n Rightmost ≡ b
Round Composite end n b = ⊥
Round Largest end n b = still_open n Rightmost ≡ b

-- the policies whose plan is built aisle by aisle
abbrev Direct : Policy → Type 0
Direct Exact = Unit {0}
Direct Return = Unit {0}
Direct Traversal = Unit {0}
Direct Midpoint = Unit {0}
Direct Composite = Unit {0}
Direct Largest = ⊥

-- all but LARGEST
direct? : (policy : Policy) → Direct policy ⊎ (policy ≡ Largest)
direct? Exact = inl tt
direct? Return = inl tt
direct? Traversal = inl tt
direct? Midpoint = inl tt
direct? Composite = inl tt
direct? Largest = inr refl

-- a passage seen twice is as it was
seen_passage_twice : (side : Side) (p : Passage) → passage_from side (passage_from side p) ≡ p
seen_passage_twice FrontSide p = refl
seen_passage_twice BackSide p = passage_twice p

-- the states before an aisle from which the plan can go on, with n aisles to enter from this one on
data Ready (policy : Policy) (end : End) (n : ℕ) : State → Type 0 where
  none_yet : 1 ≤ n → Ready policy end n nothing
  on_front : Ready policy end n at_front
  on_both : Round policy end n true → Ready policy end n odd
  none_open : Round policy end n false → Ready policy end n ending

-- the states behind an aisle, with n aisles to enter behind it
data Behind (policy : Policy) (end : End) (n : ℕ) : State → Type 0 where
  as_before : {s : State} → Ready policy end n s → Behind policy end n s
  met_again : Behind policy end n joined

-- the state behind an aisle that may be entered, by the action as it is seen
abbrev enter_as : Policy → End → Bool → Action → State → State
enter_as policy end between a s = cond (action_named FrontSide policy a && may_enter policy true) (policy_by policy end between a s) dead

-- the same by the action itself
abbrev enter_step : Job → ℕ → Policy → End → Action → State → State
enter_step job j policy end a s = enter_as policy end (between_test policy job j a) (seen job.layout a) s

module _ (job : Job) (some : 1 ≤ job.layout.cells) (j : ℕ) where
  -- an aisle is entered so that all its cells are passed
  abbrev Entering : Policy → End → ℕ → State → Type 0
  Entering policy end n s = (a : Action) × Whole job.layout.cells a × (is_void a ≡ false) × Behind policy end n (enter_step job j policy end a s)

  -- by ONCE
  by_once : (policy : Policy) (end : End) (n : ℕ) (s : State) → ((b : Bool) → Behind policy end n (enter_as policy end b Once s)) → Entering policy end n s
  by_once policy end n s behind = (Once, once_whole job.layout.cells, refl, rw (seen_through job.layout Once refl) (behind (between_test policy job j Once)))

  -- by what is seen as BOTTOM and passes all cells
  by_bottom : (policy : Policy) (end : End) (n : ℕ) (s : State) → ((b : Bool) (i : ℕ) → Behind policy end n (enter_as policy end b (Bottom i) s)) → Entering policy end n s
  by_bottom policy end n s behind = go (side_of job.layout)
    where
      go : (side : Side)
          → (a : Action) × Whole job.layout.cells a × (is_void a ≡ false)
          × Behind policy end n (enter_as policy end (between_test policy job j a) (seen_from side job.layout.cells a) s)
      go FrontSide = (Bottom job.layout.cells, bottom_whole job.layout.cells some, refl, behind (between_test policy job j (Bottom job.layout.cells)) job.layout.cells)
      go BackSide = (Top 1, top_whole job.layout.cells some, refl, behind (between_test policy job j (Top 1)) (turned_height job.layout.cells 1))

  -- every aisle by BOTTOM, where no round is opened
  all_bottom : (policy : Policy) (end : End) (n : ℕ) {s : State} → ((b : Bool) → Round policy end (suc n) b → ⊥)
      → ((b : Bool) (i : ℕ) (r : State) → enter_as policy end b (Bottom i) r ≡ lawful_step (Bottom i) r)
      → Ready policy end (suc n) s → Entering policy end n s
  all_bottom policy end n never e (none_yet l) = by_bottom policy end n nothing (λ b i. rw (e b i nothing) (as_before on_front))
  all_bottom policy end n never e on_front = by_bottom policy end n at_front (λ b i. rw (e b i at_front) (as_before on_front))
  all_bottom policy end n never e (on_both r) = absurd (never true r)
  all_bottom policy end n never e (none_open r) = absurd (never false r)

  -- where a round may be opened: by ONCE if it is to be open behind the aisle, otherwise by BOTTOM none is
  opening : (policy : Policy) (end : End) (n : ℕ) (s : State) (b : Bool) → Round policy end n b
      → ((c : Bool) → enter_as policy end c Once s ≡ odd) → ((c : Bool) (i : ℕ) → enter_as policy end c (Bottom i) s ≡ ending) → Entering policy end n s
  opening policy end n s true r once bottom = by_once policy end n s (λ c. rw (once c) (as_before (on_both r)))
  opening policy end n s false r once bottom = by_bottom policy end n s (λ c i. rw (bottom c i) (as_before (none_open r)))

  -- from each state in which the plan is ready
  enter : (policy : Policy) (end : End) (n : ℕ) {s : State} → Direct policy → Ready policy end (suc n) s → Entering policy end n s
  enter Exact end n direct r = all_bottom Exact end n (λ b p. p) (λ b i s. refl) r
  enter Return end n direct r = all_bottom Return end n (λ b p. p) (λ b i s. refl) r
  enter Composite end n direct r = all_bottom Composite end n (λ b p. p) (λ b i s. refl) r
  enter Traversal Leftmost n direct (none_yet l) = opening Traversal Leftmost n nothing (still_open n Leftmost) refl (λ c. refl) (λ c i. refl)
  enter Traversal Leftmost n direct on_front = opening Traversal Leftmost n at_front (still_open n Leftmost) refl (λ c. refl) (λ c i. refl)
  enter Traversal Leftmost n direct (on_both r) = by_once Traversal Leftmost n odd (λ c. as_before (none_open (not-true (still_open n Leftmost) r)))
  enter Traversal Leftmost n direct (none_open r) = by_once Traversal Leftmost n ending (λ c. as_before (on_both (not-false (still_open n Leftmost) r)))
  enter Traversal Rightmost n direct (none_yet l) = opening Traversal Rightmost n nothing (still_open n Rightmost) refl (λ c. refl) (λ c i. refl)
  enter Traversal Rightmost n direct on_front = opening Traversal Rightmost n at_front (still_open n Rightmost) refl (λ c. refl) (λ c i. refl)
  enter Traversal Rightmost n direct (on_both r) = by_once Traversal Rightmost n odd (λ c. met_again)
  enter Traversal Rightmost n direct (none_open r) = absurd (true_not_false r)
  enter Midpoint end n direct (none_yet l) = opening Midpoint end n nothing (still_open n Rightmost) refl (λ c. refl) (λ c i. refl)
  enter Midpoint end n direct on_front = opening Midpoint end n at_front (still_open n Rightmost) refl (λ c. refl) (λ c i. refl)
  enter Midpoint end zero direct (on_both r) = by_once Midpoint end zero odd (λ c. as_before (none_open refl))
  enter Midpoint end (suc n) direct (on_both r) =
      let t = between job.layout some in
      (t.0, t.1.whole, t.1.is_entered, rw (t.1.named, t.1.step) (as_before (on_both refl)))
  enter Midpoint end n direct (none_open r) = absurd (true_not_false r)
  enter Largest end n direct r = absurd direct

-- every policy names 00 and 02
front_named : (policy : Policy) → (passage_named FrontSide policy P00 ≡ true) × (passage_named FrontSide policy P02 ≡ true)
front_named Exact = (refl, refl)
front_named Return = (refl, refl)
front_named Traversal = (refl, refl)
front_named Midpoint = (refl, refl)
front_named Composite = (refl, refl)
front_named Largest = (refl, refl)

-- where a round is open, 11 is named and an aisle is to be entered
round_open : (policy : Policy) (end : End) (n : ℕ) → Round policy end n true → (passage_named FrontSide policy P11 ≡ true) × (1 ≤ n)
round_open Exact end n r = absurd r
round_open Return end n r = absurd r
round_open Traversal end n r = (refl, one_closes n end r)
round_open Midpoint end n r = (refl, one_closes n Rightmost r)
round_open Composite end n r = absurd r
round_open Largest end n r = (refl, one_closes n Rightmost r)

module _ (policy : Policy) (end : End) (d j : ℕ) where
  -- the state behind a passage
  abbrev crossed : Passage → State → State
  crossed p s = cond (passage_named FrontSide policy p) (cross_step d j p s) dead

  -- the plan goes on to the next aisle
  cross : (n : ℕ) {s : State} → Behind policy end n s → (p : Passage) × Ready policy end n (crossed p s)
  cross n (as_before (none_yet l)) = (P02, rw (front_named policy).1 on_front)
  cross n (as_before on_front) = (P02, rw (front_named policy).1 on_front)
  cross n (as_before (on_both r)) = (P11, rw (round_open policy end n r).0 (on_both r))
  cross n (as_before (none_open r)) = (P02, rw (front_named policy).1 (none_open r))
  cross n met_again = (P02, rw (front_named policy).1 on_front)

  -- or is closed off behind the last
  close : {s : State} → d ≤ j → Behind policy end 0 s → crossed P00 s ≡ closed
  close h (as_before (none_yet l)) = absurd (omega arith)
  close h (as_before on_front) = rw ((front_named policy).0, le-leb d j h)
  close h (as_before (on_both r)) = absurd (omega (arith, (round_open policy end 0 r).1))
  close h (as_before (none_open r)) = rw ((front_named policy).0, le-leb d j h)
  close h met_again = rw ((front_named policy).0, le-leb d j h)

-- all cells of the aisles from j on that hold a listed article are passed
abbrev PassedFrom : Job → ℕ → List Action → Type 0
PassedFrom job j actions =
    (k i : ℕ) → j + k ≡ i → i ≤ job.layout.aisles → holds_listed job i ≡ true → Whole job.layout.cells (nth actions (suc k) Void)

-- the rest of a plan from aisle j on, n aisles before the last: what the machine accepts from the state s,
-- and in which all cells of the aisles that hold a listed article are passed
record Rest (job : Job) (n j : ℕ) (s : State) : Type 0 where
  actions : List Action
  passages : List Passage
  aisles : length actions ≡ suc n
  gaps : length passages ≡ n
  fits : (k : ℕ) → Fits job.layout.cells (nth actions k Void)
  passes : PassedFrom job j actions
  closes : run_from job j s actions passages ≡ closed

-- the aisles to enter: those of the n from j on that hold a listed article
abbrev to_enter : Job → ℕ → ℕ → List ℕ
to_enter job j n = select (holds_listed job) (from j n)

-- the states before an aisle of the job from which the plan can go on, with the aisles js to enter from this one on
abbrev ReadyFor : Job → List ℕ → State → Type 0
ReadyFor job js s = Ready job.policy (walk_back_end job.layout) (length js) s

module _ (job : Job) (direct : Direct job.policy) (within : LayoutWithin job.layout) where
  -- what is done in aisle j, with the aisles js to enter behind it
  record Done (j : ℕ) (js : List ℕ) (s : State) : Type 0 where
    action : Action
    fits : Fits job.layout.cells action
    passes : holds_listed job j ≡ true → Whole job.layout.cells action
    behind : Behind job.policy (walk_back_end job.layout) (length js) (action_step job j action s)

  -- what is done depends on whether the aisle holds a listed article
  done : (j : ℕ) (js : List ℕ) (s : State) → ReadyFor job (cond (holds_listed job j) (j ∷ js) js) s → Done j js s
  unfolding action_step action_possible
  done j js s r = go (holds_listed job j) refl r
    where
      by_void : (policy : Policy) → cond (action_named FrontSide policy Void && true) (policy_step policy (walk_back_end job.layout) (between_test policy job j) Void s) dead ≡ s
      by_void Exact = refl
      by_void Return = refl
      by_void Traversal = refl
      by_void Midpoint = refl
      by_void Composite = refl
      by_void Largest = refl

      go : (b : Bool) → holds_listed job j ≡ b → ReadyFor job (cond b (j ∷ js) js) s → Done j js s
      go true e r =
          let t = enter job within.cells.0 j job.policy (walk_back_end job.layout) (length js) direct r in
          record { action = t.0; fits = t.1.fits; passes = λ h. t.1; behind = rw (holding_open job j e, e, t.2) t.3 }
      go false e r =
          let v = seen_void (side_of job.layout) job.layout.cells in
          record { action = Void; fits = tt; passes = λ h. absurd (true_not_false (sym h ∙ e)); behind = rw (v, by_void job.policy) (as_before r) }

  -- one more action that fits
  fits_first : (a : Action) (actions : List Action) → Fits job.layout.cells a → ((k : ℕ) → Fits job.layout.cells (nth actions k Void))
      → (k : ℕ) → Fits job.layout.cells (nth (a ∷ actions) k Void)
  fits_first a actions f g zero = tt
  fits_first a actions f g (suc zero) = f
  fits_first a actions f g (suc (suc k)) = g (suc k)

  -- one more aisle whose cells are passed
  passes_first : (j : ℕ) (a : Action) (actions : List Action) → (holds_listed job j ≡ true → Whole job.layout.cells a) → PassedFrom job (suc j) actions → PassedFrom job j (a ∷ actions)
  passes_first j a actions f g zero i e l h = let same : i ≡ j = omega arith in f (rw same at h)
  passes_first j a actions f g (suc k) i e l h = g k i (omega arith) l h

  -- there is nothing to fit in an empty list
  void_fits : (k : ℕ) → Fits job.layout.cells (nth [] k Void)
  void_fits zero = tt
  void_fits (suc k) = tt

  -- from a state that is ready the plan goes on to the last aisle
  rest : (n j : ℕ) (s : State) → j + n ≡ job.layout.aisles → ReadyFor job (to_enter job j (suc n)) s → Rest job n j s
  unfolding passage_step
  rest zero j s e r =
      let t = done j [] s r in
      let d = within.depot.1 in
      record {
        actions = t.action ∷ [];
        passages = [];
        aisles = refl;
        gaps = refl;
        fits = fits_first t.action [] t.fits void_fits;
        passes = passes_first j t.action [] t.passes (λ k i p l h. absurd (omega arith));
        closes = rw (seen_00 (side_of job.layout)) (close job.policy (walk_back_end job.layout) job.layout.depot j (omega arith) t.behind);
      }
  rest (suc n) j s e r =
      let t = done j (to_enter job (suc j) (suc n)) s r in
      let c = cross job.policy (walk_back_end job.layout) job.layout.depot j (length (to_enter job (suc j) (suc n))) t.behind in
      let p = seen_passage job.layout c.0 in
      let u = rest n (suc j) (passage_step job j p (action_step job j t.action s)) (omega arith) (rw (seen_passage_twice (side_of job.layout) c.0) c.1) in
      record {
        actions = t.action ∷ u.actions;
        passages = p ∷ u.passages;
        aisles = ap suc u.aisles;
        gaps = ap suc u.gaps;
        fits = fits_first t.action u.actions t.fits u.fits;
        passes = passes_first j t.action u.actions t.passes u.passes;
        closes = u.closes;
      }

-- a sum above zero has a term above zero
some_term : {A : Type 0} (f : A → ℕ) (xs : List A) → 1 ≤ sum_of f xs → (x : A) × Memᴰ x xs × (1 ≤ f x)
some_term f [] h = absurd (omega arith)
some_term f (x ∷ xs) h = elim (split_at 0 (f x)) [
  | inl l ↦ (x, Memᴰ.head refl, l)
  | inr l ↦ let t = some_term f xs (omega arith) in (t.0, Memᴰ.tail t.1, t.2)
]

-- two true parts
both : (a b : Bool) → a ≡ true → b ≡ true → a && b ≡ true
both a b e f = rw (e, f)

-- a plan that the machine closes off and that serves the list
abbrev ClosedServing : Job → Type 0
ClosedServing job = (plan : Plan) × WellFormed job.layout plan × (closes_off job plan ≡ true) × PlanServes job plan

module _ (job : Job) (a : Admitted job) where
  -- the layout is within its bounds
  within : LayoutWithin job.layout
  within = (layout_within job.layout).0 a.layout

  -- each record that counts is within its bounds
  record_in : (r : StockRecord) → Memᴰ r (open_stock job) → RecordWithin job.layout r
  record_in r n = ((stock_within job).0 a.stock).records r (open_in_stock job r n)

  -- the aisle of a record of a line's article holds a listed article
  holds : (l : OrderLine) (r : StockRecord) → Memᴰ l job.lines → Memᴰ r (open_stock job) → r.article ≡ l.article → holds_listed job r.aisle ≡ true
  unfolding holds_listed
  holds l r m n e = (any_true (λ (s : StockRecord). eqb s.aisle r.aisle && listed job s.article) (open_stock job)).1 (
    r,
    n,
    both (eqb r.aisle r.aisle) (listed job r.article) (eq-eqb r.aisle r.aisle refl)
        (line_listed job l r.article m e),
  )

  -- no line exceeds the stock of its article
  in_stock : (l : OrderLine) → Memᴰ l job.lines → l.quantity ≤ all_stock job l.article
  in_stock = (lines_in_stock job).0 a.in_stock

  -- where the list has a line some aisle is to be entered
  some_aisle : 1 ≤ length job.lines → 1 ≤ length (to_enter job 1 job.layout.aisles)
  unfolding all_stock
  some_aisle some_line =
      let list = (list_within job).0 a.list in
      let (l, m) = first job.lines some_line in
      let (r, n, t) = some_term (λ (r : StockRecord). cond (eqb r.article l.article) r.quantity 0) (open_stock job) (omega (arith, in_stock l m, (list.lines l m).quantity.0)) in
      let e = eqb-true r.article l.article (told (eqb r.article l.article) r.quantity t) in
      let w = (record_in r n).aisle in
      counted ((member_select (holds_listed job) (from 1 job.layout.aisles)).1 (from_member r.aisle 1 job.layout.aisles w.0 (omega arith), holds l r m n e))
    where
      counted : {A : Type 0} {x : A} {xs : List A} → Memᴰ x xs → 1 ≤ length xs
      counted (Memᴰ.head e) = omega arith
      counted (Memᴰ.tail m) = omega arith

      first : {A : Type 0} (xs : List A) → 1 ≤ length xs → (x : A) × Memᴰ x xs
      first [] h = absurd (omega arith)
      first (x ∷ xs) h = (x, Memᴰ.head refl)

      told : (b : Bool) (n : ℕ) → 1 ≤ cond b n 0 → b ≡ true
      told true n h = refl
      told false n h = absurd (omega arith)

  -- where all cells of the aisles with a listed article are passed, the supply is all the stock
  whole_stock : (plan : Plan) → ((j : ℕ) → 1 ≤ j → j ≤ job.layout.aisles → holds_listed job j ≡ true → Whole job.layout.cells (action_at plan j)) → PlanServes job plan
  unfolding PlanServes Serves supply all_stock plan_passes
  whole_stock plan h l m = omega (arith, in_stock l m, sum_agree _ _ (open_stock job) (λ r n. go r n (eqb r.article l.article) refl))
    where
      go : (r : StockRecord) → Memᴰ r (open_stock job) → (b : Bool) → eqb r.article l.article ≡ b
          → cond (eqb r.article l.article) r.quantity 0 ≡ cond (eqb r.article l.article && passes_cell (action_at plan r.aisle) r.cell) r.quantity 0
      go r n true e =
          let w = record_in r n in
          rw (e, (h r.aisle w.aisle.0 w.aisle.1 (holds l r m n (eqb-true r.article l.article e))).passes r.cell w.cell.0 w.cell.1)
      go r n false e = rw e

  -- built aisle by aisle, some plan that the machine closes off serves a list with lines
  direct_exists : Direct job.policy → 1 ≤ length job.lines → ClosedServing job
  unfolding action_at
  direct_exists direct some_line = go job.layout.aisles refl within.aisles.0
    where
      go : (m : ℕ) → job.layout.aisles ≡ m → 1 ≤ m → ClosedServing job
      go zero e some = absurd (omega arith)
      go (suc n) e some =
          let t = rest job direct within n 1 nothing (omega arith) (none_yet (subst (λ (k : ℕ). 1 ≤ length (to_enter job 1 k)) e (some_aisle some_line))) in
          let plan : Plan = record { actions = t.actions; passages = t.passages } in
          (plan, record { aisles = t.aisles ∙ sym e; passages = ap suc t.gaps ∙ sym e; fits = t.fits }, ap is_closed t.closes, whole_stock plan (at_aisle t.actions t.passes))
        where
          at_aisle : (actions : List Action) → PassedFrom job 1 actions → (j : ℕ) → 1 ≤ j → j ≤ job.layout.aisles → holds_listed job j ≡ true → Whole job.layout.cells (nth actions j Void)
          at_aisle actions p zero low high h = absurd (omega arith)
          at_aisle actions p (suc k) low high h = p k (suc k) (omega arith) high h

module _ (job : Job) (a : Admitted job) where
  -- under LARGEST it is MIDPOINT's with its gaps moved
  largest_exists : 1 ≤ length job.lines → ClosedServing (job_under Largest job)
  unfolding PlanServes Serves
  largest_exists some_line =
      let (plan, wf, c, s) = direct_exists (job_under Midpoint job) (admitted_under Midpoint job a) tt some_line in
      let (moved, formed, closes, serves, shorter) = gaps_moved job a plan wf c in
      (moved, formed, closes, serves s)

  -- for each policy some plan that the machine closes off serves a list with lines
  closed_exists : 1 ≤ length job.lines → ClosedServing job
  closed_exists some_line = elim (direct? job.policy) [
    | inl d ↦ direct_exists job a d some_line
    | inr e ↦ subst (λ (policy : Policy). ClosedServing (job_under policy job)) (sym e) (largest_exists some_line)
  ]

  -- for each policy some plan that is accepted serves the list: for an empty one the plan that treads nothing
  pub serving_exists : (plan : Plan) × WellFormed job.layout plan × (accepts job plan ≡ true) × PlanServes job plan
  serving_exists = go job.lines refl
    where
      go : (lines : List OrderLine) → job.lines ≡ lines → (plan : Plan) × WellFormed job.layout plan × (accepts job plan ≡ true) × PlanServes job plan
      go [] e =
          let idle = empty_plan job.layout in
          (idle, empty_well_formed job.layout (within job a).aisles.0, empty_accepted job e, empty_serves job e idle)
      go (l ∷ lines) e =
          let t = closed_exists (rw e (omega arith)) in
          (t.0, t.1, closed_accepted job t.0 t.2, t.3)

-- for each policy some allowed plan serves the list
pub allowed_exists : (job : Job) → Admitted job → (plan : Plan) × Allowed job plan × PlanServes job plan
allowed_exists job a =
    let t = serving_exists job a in
    (t.0, (accepts_allowed job t.0 ((layout_within job.layout).0 a.layout).depot.0).0 (t.1, t.2), t.3)
