-- LARGEST is never longer than MIDPOINT: in a plan that MIDPOINT's machine closes off, the gaps of the aisles between are moved to where
-- LARGEST wants them. All else stays, and the plan serves what it served and is no longer.
use Prim.Native.Nat.{ℕ, zero, suc, ◌+◌, ◌≤◌}
use native.Mathlib.Omega.{arith}
use mathlib.Core.Path.{◌≡◌, refl, sym, ◌∙◌, ap, subst}
use mathlib.Core.Logic.{◌⊎◌, inl, inr}
use mathlib.Core.List.{List, [], ◌∷◌, tail, Memᴰ}
use mathlib.Core.Bool.{Bool, true, false, cond, ◌&&◌, ◌||◌, and-eq-true_iff}
use borrow.Author.Tests.{eqb-true, eq-eqb}
use lib.Dec.{eqb}
use lib.ListN.{length}
use Rattle.rules.specs.declared.Side.TheVariants.{FrontSide}
use Rattle.rules.specs.declared.Policy.TheVariants.{Midpoint, Largest}
use Rattle.rules.specs.declared.Action.{Action}
use Rattle.rules.specs.declared.Action.TheVariants.{Void, Bottom, Top, Gap, Once, Twice}
use Rattle.rules.specs.declared.Passage.{Passage}
use Rattle.rules.specs.declared.Passage.TheVariants.{P00}
use Rattle.rules.specs.declared.StockRecord.{StockRecord}
use Rattle.rules.specs.declared.OrderLine.{OrderLine}
use Rattle.rules.specs.Store.{side_of, LayoutWithin}
use Rattle.rules.specs.Lists.{nth, head_or, sum_of}
use Rattle.rules.specs.Hours.{is_open}
use Rattle.rules.specs.Jobs.{Job, job_under, open_stock, listed, holds_listed, cell_holds_listed}
use Rattle.rules.specs.Plans.{Plan, WellFormed, Fits, action_at, passes_cell, plan_passes, plan_length}
use Rattle.rules.specs.Policies.{action_named, halved, through}
use Rattle.rules.specs.Turned.{seen}
use Rattle.rules.specs.Lengths.{action_length}
use Rattle.rules.specs.Serving.{supply, Serves, PlanServes}
use Rattle.rules.specs.Refusals.{Admitted}
use Rattle.rules.specs.Machine.{State, nothing, closed, at_front, at_back, odd, joined, split, ending, dead}
use Rattle.rules.specs.Machine.{is_void, row, midpoint_by, keeps_largest_gap, enterable, action_possible, action_step, passage_step, run_from, is_closed, closes_off}
use Rattle.rules.proofs.Lists.{any_true}
use Rattle.rules.proofs.Lengths.{plan_length_lem, well_formed_fits}
use Rattle.rules.proofs.Admission.{layout_within, stock_within, open_in_stock}
use Rattle.rules.proofs.Jobs.{holding_open}
use Rattle.rules.proofs.EmptyPlan.{seen_void}
use Rattle.tours.proofs.Basics.{true_not_false}
use Rattle.tours.proofs.Parity.{Live}
use Rattle.tours.proofs.Sides.{seen_through, seen_named, seen_asked}
use Rattle.tours.proofs.Runs.{is_closed_lem, live_test, live_action, live_passage, run_live}
use Rattle.tours.proofs.Rules.{largest_laws}
use Rattle.tours.proofs.OneAisle.{move_gap}

-- the test for aisles between is asked in the state `odd` alone
asked? : (o : State) → (o ≡ odd) ⊎ ((n f k t u j s : State) → row n f k t j s o ≡ row n f k u j s o)
asked? nothing = inr (λ n f k t u j s. refl)
asked? closed = inr (λ n f k t u j s. refl)
asked? at_front = inr (λ n f k t u j s. refl)
asked? at_back = inr (λ n f k t u j s. refl)
asked? odd = inl refl
asked? joined = inr (λ n f k t u j s. refl)
asked? split = inr (λ n f k t u j s. refl)
asked? ending = inr (λ n f k t u j s. refl)
asked? dead = inr (λ n f k t u j s. refl)

-- where the test is not asked, its answer is all one
unasked : (x y : Bool) (a : Action) (o : State) → ((n f k t u j s : State) → row n f k t j s o ≡ row n f k u j s o) → midpoint_by x a o ≡ midpoint_by y a o
unasked x y Void o same = refl
unasked x y (Bottom i) o same = same ending ending dead (cond x odd dead) (cond y odd dead) dead dead
unasked x y (Top i) o same = same dead dead dead (cond x odd dead) (cond y odd dead) dead dead
unasked x y (Gap h i) o same = same dead dead dead (cond x odd dead) (cond y odd dead) dead dead
unasked x y Once o same = refl
unasked x y Twice o same = refl

module _ (job : Job) where
  -- the job under MIDPOINT
  abbrev under_midpoint : Job
  under_midpoint = job_under Midpoint job

  -- the job under LARGEST
  abbrev under_largest : Job
  under_largest = job_under Largest job

  -- aisle j with the action b instead of a: b fits, passes every listed cell that a passes, and is no longer
  record Instead (j : ℕ) (a b : Action) : Type 0 where
    fits : Fits job.layout.cells b
    passes : (c : ℕ) → 1 ≤ c → c ≤ job.layout.cells → cell_holds_listed job j c ≡ true → passes_cell a c ≡ true → passes_cell b c ≡ true
    shorter : action_length job.layout b ≤ action_length job.layout a

  -- an action instead of itself
  stays : (j : ℕ) (a : Action) → Fits job.layout.cells a → Instead j a a
  stays j a f = record { fits = f; passes = λ c low high h p. p; shorter = omega arith }

  -- from aisle j on, each action of the second list instead of the one in its place in the first
  data InsteadFrom : ℕ → List Action → List Action → Type 0 where
    none : {j : ℕ} → InsteadFrom j [] []
    next : {j : ℕ} {a b : Action} {xs ys : List Action} → Instead j a b → InsteadFrom (suc j) xs ys → InsteadFrom j (a ∷ xs) (b ∷ ys)

  -- there are as many of them
  same_count : {j : ℕ} {xs ys : List Action} → InsteadFrom j xs ys → length ys ≡ length xs
  same_count none = refl
  same_count (next i rest) = ap suc (same_count rest)

  -- all together they are no longer
  sum_shorter : {j : ℕ} {xs ys : List Action} → InsteadFrom j xs ys → sum_of (action_length job.layout) ys ≤ sum_of (action_length job.layout) xs
  sum_shorter none = omega arith
  sum_shorter (next i rest) = omega (arith, i.shorter, sum_shorter rest)

  -- so it is in each place, also beyond the lists
  in_place : {j : ℕ} {xs ys : List Action} → InsteadFrom j xs ys → (k i : ℕ) → j + k ≡ i → Instead i (nth xs (suc k) Void) (nth ys (suc k) Void)
  in_place none k i e = stays i Void tt
  in_place {j} (next s rest) zero i e = let p : i ≡ j = omega arith in rw p s
  in_place (next s rest) (suc k) i e = in_place rest k i (omega arith)

  -- the action as it is seen from the depot's side
  abbrev facing : Action → Action
  facing a = seen job.layout a

  -- an action that keeps the largest gap keeps the state `odd` in an aisle that holds a listed article
  turn_keeps : (j : ℕ) (b : Action) → through b ≡ false → is_void b ≡ false
      → holds_listed job j ≡ true → keeps_largest_gap under_largest j b ≡ true → action_step under_largest j b odd ≡ odd
  unfolding action_step action_possible holds_listed listed
  turn_keeps j b t v h k = rw (holding_open job j h, h, k, v, seen_named job.layout b t, seen_asked job.layout b t v true) refl

  keeps_odd : (j : ℕ) (b : Action) → holds_listed job j ≡ true → keeps_largest_gap under_largest j b ≡ true → action_step under_largest j b odd ≡ odd
  unfolding action_step action_possible
  keeps_odd j Void h k = rw (seen_void (side_of job.layout) job.layout.cells) refl
  keeps_odd j (Bottom i) h k = turn_keeps j (Bottom i) refl refl h k
  keeps_odd j (Top i) h k = turn_keeps j (Top i) refl refl h k
  keeps_odd j (Gap g i) h k = turn_keeps j (Gap g i) refl refl h k
  keeps_odd j Once h k = absurd (true_not_false (sym k ∙ (largest_laws under_largest).once j))
  keeps_odd j Twice h k = absurd (true_not_false (sym k ∙ (largest_laws under_largest).twice j))

  -- an aisle that MIDPOINT lets be entered holds a listed article
  enterable_holds : (j : ℕ) → enterable under_midpoint j ≡ true → holds_listed job j ≡ true
  unfolding holds_listed listed
  enterable_holds j e = ((and-eq-true_iff (is_open job.hours j) (holds_listed job j)).0 e).1

  -- an aisle in which MIDPOINT has an action other than VOID holds one
  possible_holds : (j : ℕ) (a : Action) → is_void a ≡ false → action_possible under_midpoint j a ≡ true → holds_listed job j ≡ true
  unfolding action_possible
  possible_holds j a v p =
      let e = ((and-eq-true_iff (action_named FrontSide Midpoint (facing a)) (is_void a || enterable under_midpoint j)).0 p).1 in
      enterable_holds j (rw v at e)

  -- an action instead of a, after which LARGEST's state is MIDPOINT's after a
  abbrev Step : ℕ → State → Action → Type 0
  Step j s a = (b : Action) × Instead j a b × (action_step under_largest j b s ≡ action_step under_midpoint j a s)

  -- where the test is not asked, the action stays
  unasked_step : (j : ℕ) (s : State) (a : Action) → Fits job.layout.cells a → ((x y : Bool) → midpoint_by x (facing a) s ≡ midpoint_by y (facing a) s) → Step j s a
  unfolding action_step action_possible holds_listed listed
  unasked_step j s a f same = (
    a,
    stays j a f,
    ap (λ (o : State). cond (action_possible under_midpoint j a) o dead) (same (keeps_largest_gap under_largest j a) (halved job.layout a)),
  )

  module _ (within : LayoutWithin job.layout) where
    -- where it is asked, the action is moved
    asked_step : (j : ℕ) (a : Action) → Fits job.layout.cells a → through a ≡ false → is_void a ≡ false → Live (action_step under_midpoint j a odd) → Step j odd a
    unfolding action_step cell_holds_listed listed
    asked_step j a f t v live =
        let asks = seen_asked job.layout a t v in
        let (possible, l) = live_action under_midpoint j a odd live in
        let h = (live_test (halved job.layout a) odd (subst Live (asks (halved job.layout a)) l)).0 in
        let (b, m) = move_gap under_largest within j a f t in
        let stay : action_step under_midpoint j a odd ≡ odd = rw (possible, asks (halved job.layout a), h) refl in
        (b, record { fits = m.fits; passes = m.passes; shorter = m.shorter }, keeps_odd j b (possible_holds j a v possible) m.keeps ∙ sym stay)

    -- what goes through its aisle stays
    through_step : (j : ℕ) (a : Action) → Fits job.layout.cells a → through a ≡ true → ((x y : Bool) → midpoint_by x a odd ≡ midpoint_by y a odd) → Step j odd a
    through_step j a f t same = unasked_step j odd a f (λ x y. rw (seen_through job.layout a t) (same x y))

    -- in the state `odd` BOTTOM, TOP and GAP are moved, the others stay
    odd_step : (j : ℕ) (a : Action) → Fits job.layout.cells a → Live (action_step under_midpoint j a odd) → Step j odd a
    odd_step j Void f live = unasked_step j odd Void f (λ x y. rw (seen_void (side_of job.layout) job.layout.cells) refl)
    odd_step j (Bottom i) f live = asked_step j (Bottom i) f refl refl live
    odd_step j (Top i) f live = asked_step j (Top i) f refl refl live
    odd_step j (Gap h i) f live = asked_step j (Gap h i) f refl refl live
    odd_step j Once f live = through_step j Once f refl (λ x y. refl)
    odd_step j Twice f live = through_step j Twice f refl (λ x y. refl)

    -- a step of MIDPOINT's machine that does not lead to `dead` is one of LARGEST's
    step : (j : ℕ) (s : State) (a : Action) → Fits job.layout.cells a → Live (action_step under_midpoint j a s) → Step j s a
    step j s a f live = elim (asked? s) [
      | inl e ↦ subst (λ (o : State). Step j o a) (sym e) (odd_step j a f (subst (λ (o : State). Live (action_step under_midpoint j a o)) e live))
      | inr same ↦ unasked_step j s a f (λ x y. unasked x y (facing a) s same)
    ]

    -- a run of MIDPOINT's machine to `closed` is one of LARGEST's
    run : (j : ℕ) (s : State) (actions : List Action) (passages : List Passage) → ((a : Action) → Memᴰ a actions → Fits job.layout.cells a)
        → run_from under_midpoint j s actions passages ≡ closed
        → (moved : List Action) × InsteadFrom j actions moved × (run_from under_largest j s moved passages ≡ closed)
    unfolding passage_step
    run j s [] passages f e = ([], none, e)
    run j s (a ∷ actions) passages f e =
        let p = head_or P00 passages in
        let behind = action_step under_midpoint j a s in
        let on = passage_step under_midpoint j p behind in
        let live = (live_passage under_midpoint j p behind (run_live under_midpoint (suc j) on actions (tail passages) (subst Live (sym e) tt))).1 in
        let (b, i, same) = step j s a (f a (Memᴰ.head refl)) live in
        let (moved, rest, c) = run (suc j) on actions (tail passages) (λ x m. f x (Memᴰ.tail m)) e in
        (b ∷ moved, next i rest, rw same c)

-- a sum of no smaller terms is no smaller
sum_monotone : {A : Type 0} (f g : A → ℕ) (xs : List A) → ((x : A) → Memᴰ x xs → f x ≤ g x) → sum_of f xs ≤ sum_of g xs
sum_monotone f g [] h = omega arith
sum_monotone f g (x ∷ xs) h = omega (arith, h x (Memᴰ.head refl), sum_monotone f g xs (λ y m. h y (Memᴰ.tail m)))

-- the article of a line is listed
pub line_listed : (job : Job) (l : OrderLine) (a : ℕ) → Memᴰ l job.lines → a ≡ l.article → listed job a ≡ true
unfolding listed
line_listed job l a m e = (any_true (λ (k : OrderLine). eqb k.article a) job.lines).1 (l, m, eq-eqb l.article a (sym e))

-- the cell of a record of a line's article holds a listed article
cell_holds : (job : Job) (l : OrderLine) (r : StockRecord) → Memᴰ l job.lines → Memᴰ r (open_stock job) → r.article ≡ l.article
    → cell_holds_listed job r.aisle r.cell ≡ true
unfolding cell_holds_listed
cell_holds job l r m n e =
    (any_true (λ (s : StockRecord). eqb s.aisle r.aisle && eqb s.cell r.cell && listed job s.article) (open_stock job)).1
    (r, n, rw (eq-eqb r.aisle r.aisle refl, eq-eqb r.cell r.cell refl, line_listed job l r.article m e))

module _ (job : Job) (admitted : Admitted job) where
  -- where of the cells with listed articles no fewer are passed, the list is served as before
  serves_on : (p q : ℕ → ℕ → Bool)
      → ((j c : ℕ) → 1 ≤ c → c ≤ job.layout.cells → cell_holds_listed job j c ≡ true → p j c ≡ true → q j c ≡ true)
      → Serves job p → Serves job q
  unfolding Serves supply
  serves_on p q more served l m = omega (arith, served l m, sum_monotone _ _ (open_stock job) (λ r n. go r n (eqb r.article l.article) refl (p r.aisle r.cell) refl))
    where
      go : (r : StockRecord) → Memᴰ r (open_stock job) → (b : Bool) → eqb r.article l.article ≡ b → (c : Bool) → p r.aisle r.cell ≡ c
          → cond (eqb r.article l.article && p r.aisle r.cell) r.quantity 0 ≤ cond (eqb r.article l.article && q r.aisle r.cell) r.quantity 0
      go r n true e true h =
          let w = (((stock_within job).0 admitted.stock).records r (open_in_stock job r n)).cell in
          rw (e, h, more r.aisle r.cell w.0 w.1 (cell_holds job l r m n (eqb-true r.article l.article e)) h) (omega arith)
      go r n true e false h = rw (e, h) (omega arith)
      go r n false e c h = rw e (omega arith)

  -- from a plan that MIDPOINT's machine closes off, one that LARGEST's does: it serves the list if that one does, and is no longer
  pub gaps_moved : (plan : Plan) → WellFormed job.layout plan → closes_off (job_under Midpoint job) plan ≡ true
      → (moved : Plan) × WellFormed job.layout moved × (closes_off (job_under Largest job) moved ≡ true)
      × (PlanServes job plan → PlanServes job moved) × (plan_length job.layout moved ≤ plan_length job.layout plan)
  unfolding PlanServes plan_passes action_at
  gaps_moved plan wf h =
      let z = job.layout in
      let within = (layout_within z).0 admitted.layout in
      let end = is_closed_lem (run_from (job_under Midpoint job) 1 nothing plan.actions plan.passages) h in
      let (actions, instead, c) = run job within 1 nothing plan.actions plan.passages (well_formed_fits z plan wf) end in
      let moved : Plan = record { actions = actions; passages = plan.passages } in
      let formed : WellFormed z moved = record { aisles = same_count job instead ∙ wf.aisles; passages = wf.passages; fits = fits instead } in (
        moved,
        formed,
        ap is_closed c,
        serves_on (plan_passes plan) (plan_passes moved) (passes instead),
        omega (arith, plan_length_lem z plan wf, plan_length_lem z moved formed, sum_shorter job instead),
      )
    where
      fits : {xs ys : List Action} → InsteadFrom job 1 xs ys → (j : ℕ) → Fits job.layout.cells (nth ys j Void)
      fits instead zero = tt
      fits instead (suc k) = (in_place job instead k (suc k) (omega arith)).fits

      passes : {xs ys : List Action} → InsteadFrom job 1 xs ys → (j c : ℕ) → 1 ≤ c → c ≤ job.layout.cells → cell_holds_listed job j c ≡ true
          → passes_cell (nth xs j Void) c ≡ true → passes_cell (nth ys j Void) c ≡ true
      passes instead zero c low high h p = p
      passes instead (suc k) c low high h p = (in_place job instead k (suc k) (omega arith)).passes c low high h p
