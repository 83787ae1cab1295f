-- A faster way to the best plan of a job, so that the worked examples can be computed: the accepted rests of a plan from an aisle on
-- are listed once for each state, each beside its length; a dead state has none, and those longer than a bound are left out.
-- A plan that is found so, no longer than the bound, is the best plan.
use Prim.Native.Nat.{ℕ, zero, suc, ◌+◌, ◌≤◌, ◌<◌}
use mathlib.Core.Path.{◌≡◌, refl, sym, ◌∙◌, ap, subst}
use mathlib.Core.Logic.{◌⊎◌, inl, inr}
use mathlib.Core.List.{List, [], ◌∷◌, map, tail, Memᴰ}
use mathlib.Core.Bool.{Bool, true, false, cond, ◌&&◌, ◌||◌, and-eq-true_iff}
use mathlib.Core.Option.{Option, none, some, get_or}
use lib.Dec.{leb}
use native.Mathlib.Omega.{arith}
use borrow.Author.Tests.{leb-true, leb-false, le-leb}
use Rattle.rules.specs.declared.Side.TheVariants.{FrontSide}
use Rattle.rules.specs.declared.Policy.{Policy}
use Rattle.rules.specs.declared.Policy.TheVariants.{Exact, Return, Traversal, Midpoint, Composite, Largest}
use Rattle.rules.specs.declared.Layout.{Layout}
use Rattle.rules.specs.declared.Action.{Action}
use Rattle.rules.specs.declared.Action.TheVariants.{Void, Bottom, Top, Gap, Once, Twice}
use Rattle.rules.specs.declared.Passage.{Passage}
use Rattle.rules.specs.declared.Passage.TheVariants.{P00, P02, P11, P20, P22}
use Rattle.rules.specs.Turned.{seen, seen_passage}
use Rattle.rules.specs.Lists.{head_or, select, concat_of, sum_of, all_of}
use Rattle.rules.specs.Lengths.{action_length, passage_length}
use Rattle.rules.specs.Jobs.{Job, empty_list}
use Rattle.rules.specs.Plans.{Plan, Fits, WellFormed, plan_length, plan_passes}
use Rattle.rules.specs.declared.End.{End}
use Rattle.rules.specs.declared.End.TheVariants.{Leftmost, Rightmost}
use Rattle.rules.specs.Policies.{passage_named, walk_back_end, entered_aisles}
use Rattle.rules.specs.Machine.{State, nothing, closed, at_front, at_back, odd, joined, split, ending, dead, run_from, is_closed, treads_nothing, accepts}
use Rattle.rules.specs.Machine.{lawful_step, traversal_once, traversal_step, midpoint_step, policy_step, between_test, action_possible, action_step, cross_step, passage_step}
use Rattle.rules.specs.Serving.{serves}
use Rattle.rules.proofs.Lengths.{plan_length_lem}
use Rattle.rules.proofs.Listing.{listed_sound}
use Rattle.rules.proofs.Lists.{all_true, member_select, select_none, select_both, select_swap, select_implied, select_concat, select_map, concat_cong, concat_none, map_map, map_concat}
use Rattle.rules.specs.BestPlan.{actions_of, passages_in_order, single, prepend, plans_of, is_better, better_of, first_best, serving_plans, empty_plan, best_plan}
use Rattle.rules.proofs.FirstBest.{LengthFirst, shorter_better, second_better, first_better, better_length, first_best_agrees}

-- the machine stays dead
lawful_dead : (a : Action) → lawful_step a dead ≡ dead
lawful_dead Void = refl
lawful_dead (Bottom i) = refl
lawful_dead (Top i) = refl
lawful_dead (Gap h i) = refl
lawful_dead Once = refl
lawful_dead Twice = refl

through_dead : (end : End) → traversal_once end dead ≡ dead
through_dead Leftmost = refl
through_dead Rightmost = refl

traversal_dead : (end : End) (a : Action) → traversal_step end a dead ≡ dead
traversal_dead end Void = refl
traversal_dead end (Bottom i) = refl
traversal_dead end (Top i) = refl
traversal_dead end (Gap h i) = refl
traversal_dead end Once = through_dead end
traversal_dead end Twice = refl

midpoint_dead : (between : Action → Bool) (a : Action) → midpoint_step between a dead ≡ dead
midpoint_dead between Void = refl
midpoint_dead between (Bottom i) = refl
midpoint_dead between (Top i) = refl
midpoint_dead between (Gap h i) = refl
midpoint_dead between Once = refl
midpoint_dead between Twice = refl

policy_dead : (policy : Policy) (end : End) (between : Action → Bool) (a : Action) → policy_step policy end between a dead ≡ dead
policy_dead Exact end between a = lawful_dead a
policy_dead Return end between a = lawful_dead a
policy_dead Traversal end between a = traversal_dead end a
policy_dead Midpoint end between a = midpoint_dead between a
policy_dead Composite end between a = lawful_dead a
policy_dead Largest end between a = midpoint_dead between a

cross_dead : (d j : ℕ) (p : Passage) → cross_step d j p dead ≡ dead
cross_dead d j P00 = refl
cross_dead d j P02 = refl
cross_dead d j P11 = refl
cross_dead d j P20 = refl
cross_dead d j P22 = refl

cond_dead : (b : Bool) (s : State) → s ≡ dead → cond b s dead ≡ dead
cond_dead true s e = e
cond_dead false s e = refl

pub action_dead : (job : Job) (j : ℕ) (a : Action) → action_step job j a dead ≡ dead
unfolding action_step
action_dead job j a = cond_dead (action_possible job j a) _ (policy_dead job.policy (walk_back_end job.layout) (λ b. between_test job.policy job j a) (seen job.layout a))

pub passage_dead : (job : Job) (j : ℕ) (p : Passage) → passage_step job j p dead ≡ dead
unfolding passage_step
passage_dead job j p = cond_dead (passage_named FrontSide job.policy (seen_passage job.layout p)) _ (cross_dead job.layout.depot j (seen_passage job.layout p))

pub run_dead : (job : Job) (actions : List Action) (j : ℕ) (passages : List Passage) → run_from job j dead actions passages ≡ dead
run_dead job [] j passages = refl
run_dead job (a ∷ actions) j passages = rw (action_dead job j a, passage_dead job j (head_or P00 passages)) (run_dead job actions (suc j) (tail passages))

abbrev alive : State → Bool
alive nothing = true
alive closed = true
alive at_front = true
alive at_back = true
alive odd = true
alive joined = true
alive split = true
alive ending = true
alive dead = false

-- the machine accepts the rest of a plan from aisle j on
accepts_from : Job → ℕ → State → Plan → Bool
accepts_from job j s plan = is_closed (run_from job j s plan.actions plan.passages)

-- what follows a state, unless it is dead
abbrev branches : {A : Type 0} → State → (State → List A) → List A
branches s rest = elim (alive s) [ true ↦ rest s | false ↦ [] ]

branches_all : {A : Type 0} (s : State) (rest : State → List A) → rest dead ≡ [] → rest s ≡ branches s rest
branches_all nothing rest e = refl
branches_all closed rest e = refl
branches_all at_front rest e = refl
branches_all at_back rest e = refl
branches_all odd rest e = refl
branches_all joined rest e = refl
branches_all split rest e = refl
branches_all ending rest e = refl
branches_all dead rest e = e

-- the length of a rest from its parts: an aisle and the passage behind it at a time
abbrev cost_of : Layout → List Action → List Passage → ℕ
cost_of z [] ps = sum_of (passage_length z) ps
cost_of z (a ∷ rest) [] = action_length z a + sum_of (action_length z) rest
cost_of z (a ∷ rest) (p ∷ ps) = action_length z a + (passage_length z p + cost_of z rest ps)

cost_sums : (z : Layout) (rest : List Action) (ps : List Passage) → sum_of (action_length z) rest + sum_of (passage_length z) ps ≡ cost_of z rest ps
cost_sums z [] ps = omega arith
cost_sums z (a ∷ rest) [] = omega arith
cost_sums z (a ∷ rest) (p ∷ ps) = omega (arith, cost_sums z rest ps)

abbrev cost : Layout → Plan → ℕ
cost z plan = cost_of z plan.actions plan.passages

-- a rest beside its length
abbrev Rest : Type 0
Rest = ℕ × Plan

-- the better of two, as plans are compared by what is counted in those that are equally long
abbrev better_rest : (Plan → ℕ) → Rest → Rest → Bool
better_rest count = is_better (λ (r : Rest). r.0) (λ (r : Rest). count r.1)

abbrev weighed : Layout → Plan → Rest
weighed z plan = (cost z plan, plan)

-- the rests from an aisle on, for each state in front of it: each is computed once
record Layer : Type 0 where
  if_nothing : List Rest
  if_closed : List Rest
  if_front : List Rest
  if_back : List Rest
  if_odd : List Rest
  if_joined : List Rest
  if_split : List Rest
  if_ending : List Rest

abbrev tabulate : (State → List Rest) → Layer
tabulate f =
    record {
      if_nothing = f nothing;
      if_closed = f closed;
      if_front = f at_front;
      if_back = f at_back;
      if_odd = f odd;
      if_joined = f joined;
      if_split = f split;
      if_ending = f ending;
    }

abbrev rests_at : Layer → State → List Rest
rests_at l nothing = l.if_nothing
rests_at l closed = l.if_closed
rests_at l at_front = l.if_front
rests_at l at_back = l.if_back
rests_at l odd = l.if_odd
rests_at l joined = l.if_joined
rests_at l split = l.if_split
rests_at l ending = l.if_ending
rests_at l dead = []

at_tabulate : (f : State → List Rest) → f dead ≡ [] → (s : State) → f s ≡ rests_at (tabulate f) s
at_tabulate f e nothing = refl
at_tabulate f e closed = refl
at_tabulate f e at_front = refl
at_tabulate f e at_back = refl
at_tabulate f e odd = refl
at_tabulate f e joined = refl
at_tabulate f e split = refl
at_tabulate f e ending = refl
at_tabulate f e dead = e

-- with one more aisle and passage in front, the machine has made one more step
accepts_prepend : (job : Job) (j : ℕ) (s : State) (a : Action) (p : Passage) (plans : List Plan)
    → select (accepts_from job j s) (map (prepend a p) plans)
    ≡ map (prepend a p) (select (accepts_from job (suc j) (passage_step job j p (action_step job j a s))) plans)
unfolding accepts_from prepend
accepts_prepend job j s a p plans = select_map (accepts_from job j s) (prepend a p) plans

module _ (job : Job) (bound : ℕ) where
  abbrev z : Layout
  z = job.layout

  abbrev actions : List Action
  actions = actions_of z.cells

  -- no longer than the bound
  abbrev short : Plan → Bool
  short plan = leb (cost z plan) bound

  abbrev within : Rest → Bool
  within r = leb r.0 bound

  -- of some plans the accepted ones that are no longer than the bound
  abbrev kept : ℕ → State → List Plan → List Rest
  kept j s plans = map (weighed z) (select short (select (accepts_from job j s) plans))

  -- one more aisle and passage in front of a rest
  abbrev grow : Action → Passage → Rest → Rest
  grow a p r = (action_length z a + (passage_length z p + r.0), prepend a p r.1)

  abbrev grown : Action → Passage → List Rest → List Rest
  grown a p rests = select within (map (grow a p) rests)

  -- what follows an action, for each passage
  abbrev passed : ℕ → Layer → Action → State → List Rest
  passed j next a s = concat_of (λ p. grown a p (rests_at next (passage_step job j p s))) passages_in_order

  -- what follows a state, for each action
  abbrev entered : ℕ → Layer → State → List Rest
  entered j next s = concat_of (λ a. branches (action_step job j a s) (passed j next a)) actions

  -- the rests of n aisles from aisle j on
  abbrev layer_from : ℕ → ℕ → Layer
  layer_from zero j = tabulate (λ s. [])
  layer_from (suc zero) j = tabulate (λ s. kept j s (map single actions))
  layer_from (suc (suc n)) j = let next = layer_from (suc n) (suc j) in tabulate (entered j next)

  kept_dead : (j : ℕ) (plans : List Plan) → kept j dead plans ≡ []
  unfolding accepts_from
  kept_dead j plans =
      ap (λ xs. map (weighed z) (select short xs))
      (select_none _ (λ plan. ap is_closed (run_dead job plan.actions j plan.passages)) plans)

  kept_concat : {A : Type 0} (j : ℕ) (s : State) (f : A → List Plan) (xs : List A) → kept j s (concat_of f xs) ≡ concat_of (λ x. kept j s (f x)) xs
  kept_concat j s f xs =
      ap (λ ys. map (weighed z) (select short ys)) (select_concat (accepts_from job j s) f xs)
      ∙ ap (map (weighed z)) (select_concat short (λ x. select (accepts_from job j s) (f x)) xs)
      ∙ map_concat (weighed z) (λ x. select short (select (accepts_from job j s) (f x))) xs

  -- a rest that is too long stays too long
  grown_short : (a : Action) (p : Passage) (plan : Plan) → short (prepend a p plan) ≡ true → short plan ≡ true
  unfolding prepend
  grown_short a p plan h = le-leb (cost z plan) bound (omega (arith, leb-true (cost z (prepend a p plan)) bound h))

  kept_prepend : (j : ℕ) (s : State) (a : Action) (p : Passage) (plans : List Plan)
      → kept j s (map (prepend a p) plans) ≡ grown a p (kept (suc j) (passage_step job j p (action_step job j a s)) plans)
  unfolding prepend
  kept_prepend j s a p plans =
      let rests = select (accepts_from job (suc j) (passage_step job j p (action_step job j a s))) plans in
      let longer : Plan → Bool = λ plan. short (prepend a p plan) in
      ap (λ xs. map (weighed z) (select short xs)) (accepts_prepend job j s a p plans)
      ∙ ap (map (weighed z)) (select_map short (prepend a p) rests)
      ∙ map_map (weighed z) (prepend a p) (select longer rests)
      ∙ ap (map (λ plan. weighed z (prepend a p plan))) (sym (select_implied longer short (grown_short a p) rests))
      ∙ sym (select_map within (λ plan. grow a p (weighed z plan)) (select short rests))
      ∙ ap (select within) (sym (map_map (grow a p) (weighed z) (select short rests)))

  abbrev Same : ℕ → ℕ → Type 0
  Same n j = (s : State) → kept j s (plans_of z.cells n) ≡ rests_at (layer_from n j) s

  module _ (j n : ℕ) (rest : Same (suc n) (suc j)) where
    abbrev next : Layer
    next = layer_from (suc n) (suc j)

    abbrev plans : List Plan
    plans = plans_of z.cells (suc n)

    passed_dead : (a : Action) → passed j next a dead ≡ []
    passed_dead a = concat_none _ (λ p. ap (λ s. grown a p (rests_at next s)) (passage_dead job j p)) passages_in_order

    after_action_lem : (s : State) (a : Action)
        → kept j s (concat_of (λ p. map (prepend a p) plans) passages_in_order) ≡ branches (action_step job j a s) (passed j next a)
    after_action_lem s a =
        kept_concat j s (λ p. map (prepend a p) plans) passages_in_order
        ∙ concat_cong _ _ (λ p. kept_prepend j s a p plans ∙ ap (grown a p) (rest (passage_step job j p (action_step job j a s)))) passages_in_order
        ∙ branches_all (action_step job j a s) (passed j next a) (passed_dead a)

    one_more_lem : (s : State) → kept j s (plans_of z.cells (suc (suc n))) ≡ entered j next s
    one_more_lem s =
        kept_concat j s (λ a. concat_of (λ p. map (prepend a p) plans) passages_in_order) actions ∙ concat_cong _ _ (after_action_lem s) actions

    -- from a dead state no action leads on
    entered_dead : entered j next dead ≡ []
    entered_dead = concat_none _ (λ a. ap (λ s. branches s (passed j next a)) (action_dead job j a)) actions

  kept_from : (n j : ℕ) → Same n j
  kept_from zero j s = at_tabulate (λ s. []) refl s
  kept_from (suc zero) j s = at_tabulate (λ s. kept j s (map single actions)) (kept_dead j (map single actions)) s
  kept_from (suc (suc n)) j s =
      let rest = kept_from (suc n) (suc j) in
      one_more_lem j n rest s ∙ at_tabulate (entered j (layer_from (suc n) (suc j))) (entered_dead j n rest) s

  abbrev serves_list : Plan → Bool
  serves_list plan = serves job (plan_passes plan)

  -- the plans that serve the list and are no longer than the bound, one by one
  abbrev one_by_one : List Rest
  one_by_one = map (weighed z) (select short (serving_plans job))

  -- the same by the layers; for an empty list, which the machine alone does not decide, one by one
  abbrev by_layers : Bool → List Rest
  by_layers true = one_by_one
  by_layers false = select (λ (r : Rest). serves_list r.1) (rests_at (layer_from z.aisles 1) nothing)

  -- the first of the best that serve the list, among the plans no longer than the bound, beside its length
  unfoldable pub bounded_best : (Plan → ℕ) → Option Rest
  unfolding accepts_from
  bounded_best count = first_best (better_rest count) (by_layers (empty_list job.lines))

  -- it is the first of the best of all that serve the list, as far as these are no longer than the bound
  bounded_serving : (count : Plan → ℕ) → bounded_best count ≡ first_best (better_rest count) one_by_one
  unfolding bounded_best serving_plans accepts accepts_from
  bounded_serving count = ap (first_best (better_rest count)) (go (empty_list job.lines) refl)
    where
      plans : List Plan
      plans = plans_of z.cells z.aisles

      accepted : List Plan
      accepted = select (accepts_from job 1 nothing) plans

      -- those that are accepted, where the list is empty or is not
      listed : Bool → List Rest
      listed b = map (weighed z) (select short (select (λ plan. ((b && treads_nothing plan) || accepts_from job 1 nothing plan) && serves_list plan) plans))

      go : (b : Bool) → empty_list job.lines ≡ b → by_layers b ≡ one_by_one
      go true e = refl
      go false e =
          ap (select (λ (r : Rest). serves_list r.1)) (sym (kept_from z.aisles 1 nothing))
          ∙ select_map (λ (r : Rest). serves_list r.1) (weighed z) (select short accepted)
          ∙ ap (map (weighed z)) (select_swap short serves_list accepted ∙ ap (select short) (sym (select_both (accepts_from job 1 nothing) serves_list plans)))
          ∙ ap listed (sym e)

module _ {A : Type 0} (better : A → A → Bool) (len : A → ℕ) (by_length : LengthFirst len better) (bound : ℕ) where
  abbrev Below : Option A → Type 0
  Below none = Unit {0}
  Below (some x) = len x ≤ bound

  abbrev Beyond : Option A → Type 0
  Beyond none = Unit {0}
  Beyond (some x) = bound < len x

  abbrev kept_only : List A → List A
  kept_only xs = select (λ x. leb (len x) bound) xs

  -- without what is longer than the bound the same is first, or nothing is left and all is longer
  abbrev Bounded : Option A → Option A → Type 0
  Bounded all kept = ((all ≡ kept) × Below kept) ⊎ ((kept ≡ none) × Beyond all)

  below_one : (x : A) → len x ≤ bound → (o : Option A) → Below o → Below (some (better_of better x o))
  unfolding better_of
  below_one x h none b = h
  below_one x h (some y) b = omega (arith, better_length better len by_length x y, h, b)

  beyond_one : (x : A) → bound < len x → (o : Option A) → Beyond o → Beyond (some (better_of better x o))
  unfolding better_of
  beyond_one x h none b = h
  beyond_one x h (some y) b = omega (arith, better_length better len by_length x y, h, b)

  -- a short one before what is longer stays
  first_stays : (x : A) → len x ≤ bound → (o : Option A) → Beyond o → better_of better x o ≡ x
  unfolding better_of
  first_stays x h none b = refl
  first_stays x h (some y) b = first_better better len by_length x y (omega (arith, h, b))

  one_short : (x : A) → len x ≤ bound → (all kept : Option A) → Bounded all kept → Bounded (some (better_of better x all)) (some (better_of better x kept))
  one_short x h all kept (inl (same, b)) = inl (ap (λ o. some (better_of better x o)) same, below_one x h kept b)
  one_short x h all kept (inr (empty, b)) =
      let nothing-kept = subst Below (sym empty) tt in
      let beyond-kept = subst Beyond (sym empty) tt in
      inl (ap some (first_stays x h all b ∙ sym (first_stays x h kept beyond-kept)), below_one x h kept nothing-kept)

  one_long : (x : A) → bound < len x → (all kept : Option A) → Bounded all kept → Bounded (some (better_of better x all)) kept
  one_long x h all none (inl (same, b)) = inr (refl, beyond_one x h all (subst Beyond (sym same) tt))
  one_long x h all (some y) (inl (same, b)) =
      inl (ap some (ap (better_of better x) same ∙ second_better better len by_length x y (omega (arith, h, b))), b)
  one_long x h all kept (inr (empty, b)) = inr (empty, beyond_one x h all b)

  bounded_first : (xs : List A) → Bounded (first_best better xs) (first_best better (kept_only xs))
  bounded_first [] = inl (refl, tt)
  bounded_first (x ∷ xs) = go (leb (len x) bound) refl (bounded_first xs)
    where
      go : (b : Bool) → leb (len x) bound ≡ b → Bounded (first_best better xs) (first_best better (kept_only xs))
          → Bounded (first_best better (x ∷ xs)) (first_best better (cond b (x ∷ kept_only xs) (kept_only xs)))
      go true p rest = one_short x (leb-true (len x) bound p) _ _ rest
      go false p rest = one_long x (leb-false (len x) bound p) _ _ rest

  -- so what is found among those within the bound is first among all
  found_first : (xs : List A) (x : A) → first_best better (kept_only xs) ≡ some x → first_best better xs ≡ some x
  found_first xs x e = go (bounded_first xs)
    where
      go : Bounded (first_best better xs) (first_best better (kept_only xs)) → first_best better xs ≡ some x
      go (inl (same, b)) = same ∙ e
      go (inr (empty, b)) = let none_some : ◌≡◌ {A = ℕ} 0 1 = cc in absurd (omega arith)

module _ (len : Plan → ℕ) where
  -- plans beside their lengths
  abbrev beside : Plan → Rest
  beside x = (len x, x)

  abbrev besides : Option Plan → Option Rest
  besides none = none
  besides (some x) = some (beside x)

  either_beside : (b : Bool) (x y : Plan) → cond b (beside x) (beside y) ≡ beside (cond b x y)
  either_beside true x y = refl
  either_beside false x y = refl

  module _ (count : Plan → ℕ) where
    better_beside : (x : Plan) (o : Option Plan) → better_of (better_rest count) (beside x) (besides o) ≡ beside (better_of (is_better len count) x o)
    unfolding better_of is_better
    better_beside x none = refl
    better_beside x (some y) = simp (either_beside) refl

    first_beside : (xs : List Plan) → first_best (better_rest count) (map beside xs) ≡ besides (first_best (is_better len count) xs)
    first_beside [] = refl
    first_beside (x ∷ xs) =
        ap (λ o. some (better_of (better_rest count) (beside x) o)) (first_beside xs) ∙ ap some (better_beside x (first_best (is_better len count) xs))

  abbrev seconds : Option Rest → Option Plan
  seconds none = none
  seconds (some p) = some p.1

  from_beside : (o : Option Plan) → o ≡ seconds (besides o)
  from_beside none = refl
  from_beside (some y) = refl

-- whether an action fits an aisle with so many cells
abbrev pub fits : ℕ → Action → Bool
fits cells Void = true
fits cells (Bottom i) = leb 1 i && leb i cells
fits cells (Top i) = leb 1 i && leb i cells
fits cells (Gap h i) = leb 1 h && (leb (suc h) i && leb i cells)
fits cells Once = true
fits cells Twice = true

two_tests : (a b c d : ℕ) → (leb a b && leb c d) ≡ true → (a ≤ b) × (c ≤ d)
two_tests a b c d h = let both = (and-eq-true_iff (leb a b) (leb c d)).0 h in (leb-true a b both.0, leb-true c d both.1)

fits_test : (cells : ℕ) (a : Action) → fits cells a ≡ true → Fits cells a
fits_test cells Void h = tt
fits_test cells (Bottom i) h = two_tests 1 i i cells h
fits_test cells (Top i) h = two_tests 1 i i cells h
fits_test cells (Gap k i) h =
    let both = (and-eq-true_iff (leb 1 k) (leb (suc k) i && leb i cells)).0 h in
    let rest = two_tests (suc k) i i cells both.1 in
    (leb-true 1 k both.0, omega (arith, rest.0), rest.1)
fits_test cells Once h = tt
fits_test cells Twice h = tt

-- a plan that is found within the bound of its own length is the first of the best; that the listed actions fit is computed
module _ (job : Job) (n : ℕ) (plan : Plan) (fit : all_of (fits job.layout.cells) (actions_of job.layout.cells) ≡ true) where
  well_formed : (other : Plan) → Memᴰ other (serving_plans job) → WellFormed job.layout other
  unfolding serving_plans
  well_formed other m =
      listed_sound job.layout (λ a l. fits_test job.layout.cells a ((all_true (fits job.layout.cells) _).0 fit a l)) other
      ((member_select _ _).0 m).0

  same_length : (other : Plan) → Memᴰ other (serving_plans job) → plan_length job.layout other ≡ cost job.layout other
  same_length other m =
      plan_length_lem job.layout other (well_formed other m) ∙ cost_sums job.layout other.actions other.passages

  -- so plans are compared alike by the one and by the other
  same_better : (count : Plan → ℕ) (x y : Plan) → Memᴰ x (serving_plans job) → Memᴰ y (serving_plans job)
      → is_better (plan_length job.layout) count x y ≡ is_better (cost job.layout) count x y
  unfolding is_better
  same_better count x y m l = simp (same_length x m, same_length y l) refl

  -- whatever is counted in those that are equally long
  pub found_first_best : (count : Plan → ℕ) → bounded_best job n count ≡ some (n, plan)
      → first_best (is_better (plan_length job.layout) count) (serving_plans job) ≡ some plan
  found_first_best count found =
      let len = cost job.layout in
      let better = is_better len count in
      let serving = serving_plans job in
      let kept = select (λ p. leb (len p) n) serving in
      let beside-it = sym (first_beside len count kept) ∙ sym (bounded_serving job n count) ∙ found in
      let among = from_beside len (first_best better kept) ∙ ap (seconds len) beside-it in
      let agree = first_best_agrees (is_better (plan_length job.layout) count) better serving (same_better count) in
      agree ∙ found_first better len (shorter_better len count) n serving plan among

  -- with the entered aisles it is the best plan of the job
  pub found_best : bounded_best job n entered_aisles ≡ some (n, plan) → best_plan job ≡ plan
  unfolding best_plan
  found_best found = ap (λ o. get_or o (empty_plan job.layout)) (found_first_best entered_aisles found)
