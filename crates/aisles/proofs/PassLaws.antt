-- The passes over an aisle, and that they look at every action. `row`, `after` and `perm` are the keys of rows, by state and demand.
use Prim.Native.Nat.{ℕ, zero, suc, ◌+◌, ◌*◌, ◌≤◌, ◌<◌}
use native.Mathlib.Omega.{arith}
use native.Mathlib.Nat.{le_refl}
use mathlib.Core.Path.{◌≡◌, refl, sym, ◌∙◌, ap, ap₂, subst}
use mathlib.Core.Logic.{◌⊎◌, inl, inr, ⊎_elim}
use mathlib.Core.List.{List, Memᴰ}
use mathlib.Core.Bool.{Bool, true, false, cond, not, ◌&&◌, ◌||◌, and-eq-true_iff, true≢false}
use lib.ListN.{length, get_or}
use Rattle.rules.specs.declared.Action.{Action}
use Rattle.rules.specs.declared.Kind.{Kind}
use Rattle.rules.specs.declared.Kind.TheVariants.{Void as VOID, Bottom as BOTTOM, Top as TOP, Gap as GAP, Once as ONCE, Twice as TWICE}
use Rattle.rules.specs.Plans.{Fits, kind_of, kind_rank}
use Rattle.rules.specs.declared.Side.TheVariants.{FrontSide}
use Rattle.rules.specs.declared.Policy.TheVariants.{Exact}
use Rattle.rules.specs.Policies.{kinds_named, through}
use Rattle.rules.specs.Lengths.{action_length}
use Rattle.rules.specs.BestPlan.{actions_of}
use Rattle.rules.proofs.Enumeration.{actions_sound, actions_complete}
use Rattle.optimum.specs.Least.{sum_up_to, least_or}
use Rattle.optimum.specs.Routing.{no_key}
use Rattle.rows.specs.Pairs.{walk}
use Rattle.rows.proofs.Keys.{walk_entered}
use Rattle.machine.specs.Tables.{asks_between, is_tested}
use Rattle.aisles.specs.declared.layers.TheConstants.{KINDS, TESTED}
use Rattle.aisles.specs.declared.layers.Aisle.{Aisle}
use Rattle.aisles.specs.declared.layers.Turns.{Turns}
use Rattle.aisles.specs.Actions.{front_of, back_of, front_cost, back_cost, passes_between}
use Rattle.between.specs.Between.{Graded}
use Rattle.aisles.specs.Turns.{front_at, back_at, front_turn, back_turn, least_back, turn_way, Pair, SweepReady, SweptTo}
use Rattle.aisles.specs.Layers.{InRange, step_with, left_code, through_action, way_with, entered_by, AisleReady, TurnsOf, OfPass, PassDone}
use Rattle.aisles.proofs.Geometry.{within, length_of_parts, Turning, between_turns, turns_between}
use Rattle.demand.proofs.Filling.{below}
use Rattle.aisles.proofs.Bridge.{least_is}
use Rattle.aisles.proofs.TurnLaws.{PairOf, PairAt, action_by, pair_action, action_pair}
use Rattle.aisles.proofs.ActionRows.{action_parts, DeadNone, way_is, way_dead, way_true, way_any}

-- the least back turn of a front turn, up to the back crossing
from_at : (x : Aisle) (kind : Kind) (between : Bool) (t : Turns) → TurnsOf x kind between t → (h : ℕ) → h ≤ t.top
    → get_or t.from h 0 ≡ least_back between (get_or x.between.from h 0) h
from_at x kind between t turns h l = turns.from h (omega (arith, turns.top))

-- it lies past the front turn and grows with it: as the next height, or by the test
turns_graded : (x : Aisle) (kind : Kind) (between : Bool) (t : Turns) → InRange x → TurnsOf x kind between t → Graded t.from t.top
turns_graded x kind false t range turns =
    let at = from_at x kind false t turns in
    record {
      past = λ h l. omega (arith, at h l);
      grows = λ h l. omega (arith, at h (omega arith), at (h + 1) (omega arith));
      ends = omega (arith, at t.top (le_refl t.top));
    }
turns_graded x kind true t range turns =
    let at = from_at x kind true t turns in
    let g = subst (Graded x.between.from) (sym turns.top) range.graded in
    record {
      past = λ h l. omega (arith, at h l, g.past h l);
      grows = λ h l. omega (arith, at h (omega arith), at (h + 1) (omega arith), g.grows h l);
      ends = at t.top (le_refl t.top) ∙ g.ends;
    }

-- an aisle that is ready lets the turns of a kind be swept
pub sweep_ready : (x : Aisle) (row spared fronts backs : List ℕ) (kind : Kind) (between : Bool) (t : Turns) → AisleReady x fronts backs
    → 2048 ≤ length row → 2048 ≤ length spared → TurnsOf x kind between t → SweepReady row spared fronts backs t x.weight
sweep_ready x row spared fronts backs kind between t ready row_long spared_long turns =
    let w = within x.layout ready.aisle.bounds in
    let light = ready.aisle.small in
    let top-is = turns.top in
    record {
      behind = record {
        small = light;
        top_fits = omega (arith, w.cells.1);
        graded = turns_graded x kind between t ready.aisle turns;
        backs_long = ready.backs_long;
        back_below = λ i q l m n. ready.back_below i q l (omega arith) n;
      };
      row_long = omega arith;
      spared_long = omega arith;
      fronts_long = ready.fronts_long;
      front_below = λ h q l m. ready.front_below h q (omega arith) m;
    }

-- a test that is passed, asked or not
or-true : (b c : Bool) → c ≡ true → (b || c) ≡ true
or-true true c e = refl
or-true false c e = e

-- an action whose kind is asked the test is walked there and back
tested_turns : (kind : Kind) (h i : ℕ) → is_tested kind ≡ true → through (action_by kind h i) ≡ false
tested_turns VOID h i e = refl
tested_turns BOTTOM h i e = refl
tested_turns TOP h i e = refl
tested_turns GAP h i e = refl
tested_turns ONCE h i e = absurd (true≢false (sym e))
tested_turns TWICE h i e = absurd (true≢false (sym e))

module _ (x : Aisle) (row after : ℕ → ℕ → ℕ) (fronts backs steps : List ℕ) (kind : Kind) (between : Bool)
    (steps-are : (s : ℕ) → s < 8 → get_or steps s 0 ≡ step_with x kind between s) (fits : (s q : ℕ) → row s q ≤ no_key)
    (dead-none : DeadNone after) where
  -- the aisle's cells
  abbrev cells : ℕ
  cells = x.layout.cells

  -- a kind that leads on from no state is passed over
  pub pass_skipped : ((s : ℕ) → s < 8 → 8 ≤ get_or steps s 0) → PassDone x row row after fronts backs kind between
  pass_skipped none =
      record {
        low = λ s q a l h o. omega (arith, fits s q, way_dead x after fronts backs s q dead-none between a (dead_step s a l o));
        less = λ s q l h. le_refl (row s q);
        one = λ s q l h. inl refl;
      }
    where
      dead_step : (s : ℕ) (a : Action) → s < 8 → OfPass x kind between a → 8 ≤ step_with x (kind_of a) between s
      dead_step s a l o = subst (λ k. 8 ≤ step_with x k between s) (sym o.same) (subst (λ n. 8 ≤ n) (steps-are s l) (none s l))

  module _ (ready : AisleReady x fronts backs) (tested : between ≡ true → is_tested kind ≡ true) (t : Turns)
      (turns : TurnsOf x kind between t) (perm : ℕ → ℕ → ℕ)
      (stepped : (s q : ℕ) → s < 8 → q < x.weight → perm s q ≡ sum_up_to no_key (entered_by kind) (after (get_or steps s 0) q)) where
    -- whether a part of an action of the pass may turn at a height
    abbrev may : List Bool → ℕ → Bool
    may able h = not between || get_or able h false

    -- whether its turns are there, what they cost, and where the back turns of a front turn begin
    abbrev front_test : ℕ → Bool
    front_test h = front_at cells kind h && may x.between.front h

    abbrev back_test : ℕ → Bool
    back_test i = back_at (cells + 1) kind i && may x.between.back i

    front_is : (h : ℕ) (b : Bool) → h ≤ cells + 1 → front_test h ≡ b → get_or t.front h 0 ≡ cond b (front_cost x.layout kind h) 65535
    unfolding front_turn
    front_is h b l e = turns.front h l ∙ ap (λ b. cond b (front_cost x.layout kind h) 65535) e

    back_is : (i : ℕ) (b : Bool) → i ≤ cells + 1 → back_test i ≡ b → get_or t.back i 0 ≡ cond b (back_cost x.layout i) 65535
    unfolding back_turn
    back_is i b l e = turns.back i l ∙ ap (λ b. cond b (back_cost x.layout i) 65535) e

    from_is : (h : ℕ) (b : Bool) → h ≤ cells + 1 → between ≡ b → get_or t.from h 0 ≡ least_back b (get_or x.between.from h 0) h
    from_is h b l e = turns.from h l ∙ ap (λ b. least_back b (get_or x.between.from h 0) h) e

    -- the way over the turns of an action is the way over the action
    pair_way : (s q : ℕ) (a : Action) → s < 8 → q < x.weight → Fits cells a → kind_of a ≡ kind
        → front_test (front_of cells a) ≡ true → back_test (back_of cells a) ≡ true
        → turn_way perm fronts backs t.front t.back s q (front_of cells a) (back_of cells a) ≡ way_with x after fronts backs between s q a
    unfolding way_with left_code
    pair_way s q a l h f same u v =
        ap₂ walk cost value ∙ walk_entered (action_length x.layout a) (entered_by (kind_of a)) (after (step_with x (kind_of a) between s) left)
      where
        front : ℕ
        front = front_of cells a

        back : ℕ
        back = back_of cells a

        left : ℕ
        left = get_or backs (back * 256 + get_or fronts (front * 256 + q) 0) 0

        cost : get_or t.front front 0 + get_or t.back back 0 ≡ action_length x.layout a
        cost =
            let p = action_pair cells a f in
            ap₂ ◌+◌ (front_is front true (omega (arith, p.order, p.high)) u ∙ ap (λ k. front_cost x.layout k front) (sym same)) (back_is back true p.high v)
            ∙ length_of_parts x.layout a

        below_weight : left < x.weight
        below_weight =
            let p = action_parts cells a f in
            ready.back_below back (get_or fronts (front * 256 + q) 0) p.back_low p.back_high (ready.front_below front q p.front_within h)

        value : perm s left ≡ sum_up_to no_key (entered_by (kind_of a)) (after (step_with x (kind_of a) between s) left)
        value =
            stepped s left l below_weight
            ∙ ap₂ (λ k n. sum_up_to no_key (entered_by k) (after n left)) (sym same) (steps-are s l ∙ ap (λ k. step_with x k between s) (sym same))

    -- the turns of an action of the pass are there, and go together
    tests : (a : Action) → OfPass x kind between a
        → (front_test (front_of cells a) ≡ true) × (back_test (back_of cells a) ≡ true) × Pair t (front_of cells a) (back_of cells a)
    tests a o = (
      ap₂ ◌&&◌ (subst (λ k. front_at cells k h ≡ true) o.same p.at_front) able.0,
      ap₂ ◌&&◌ (subst (λ k. back_at (cells + 1) k i ≡ true) o.same p.at_back) able.1,
      record { front = omega (arith, p.order, p.high, turns.top); goes = able.2; back = omega (arith, p.high, turns.top) },
    )
      where
        h : ℕ
        h = front_of cells a

        i : ℕ
        i = back_of cells a

        p : PairAt cells (kind_of a) h i
        p = action_pair cells a o.fits

        low : h ≤ cells + 1
        low = omega (arith, p.order, p.high)

        -- a back turn that goes by the test is past the front turn too
        goes : (b : Bool) → between ≡ b → get_or x.between.from h 0 ≤ i → get_or t.from h 0 ≤ i
        goes false e l = omega (arith, p.order, from_is h false low e)
        goes true e l = omega (arith, from_is h true low e)

        able : (may x.between.front h ≡ true) × (may x.between.back i ≡ true) × (get_or t.from h 0 ≤ i)
        able =
            ⊎_elim
            (λ e. (
              ap (λ b. not b || get_or x.between.front h false) e,
              ap (λ b. not b || get_or x.between.back i false) e,
              omega (arith, p.order, from_is h false low e),
            ))
            (λ e. let u = between_turns x.between cells a e in (
              or-true (not between) (get_or x.between.front h false) u.front,
              or-true (not between) (get_or x.between.back i false) u.back,
              goes between refl u.goes,
            ))
            o.passes

    module _ (row' : ℕ → ℕ → ℕ) (swept : SweptTo row row' perm fronts backs t x.weight 0) where
      -- unchanged, or the way over an action
      abbrev One : ℕ → ℕ → Type 0
      One s q = (row' s q ≡ row s q) ⊎ ((a : Action) × Fits cells a × (row' s q ≡ through_action x after fronts backs s q a))

      -- 'none' is no less than what was there
      still : (s q : ℕ) → s < 8 → q < x.weight → row' s q ≡ no_key → One s q
      still s q l h e = inl (omega (arith, swept.less s q l h, fits s q))

      -- a way with the answer of the pass is that of the action, or none
      settle : (s q : ℕ) (a : Action) → s < 8 → q < x.weight → Fits cells a → (between ≡ true → passes_between x.between cells a ≡ true)
          → row' s q ≡ way_with x after fronts backs between s q a → One s q
      settle s q a l h f passes e = go between refl
        where
          go : (b : Bool) → between ≡ b → One s q
          go false n =
              let way = e ∙ ap (λ b. way_with x after fronts backs b s q a) n in
              ⊎_elim (λ p. inr (a, f, way ∙ p)) (λ p. still s q l h (way ∙ p)) (way_true x after fronts backs s q dead-none a)
          go true n =
              inr (a, f, e ∙ ap (λ b. way_with x after fronts backs b s q a) (n ∙ sym (passes n)) ∙ sym (way_is x after fronts backs s q a))

      -- a pair of turns that are there
      found : (s q h i : ℕ) → s < 8 → q < x.weight → Pair t h i → front_test h ≡ true → back_test i ≡ true
          → row' s q ≡ turn_way perm fronts backs t.front t.back s q h i → One s q
      found s q h i l m o u v e =
          settle s q a l m p.fits passes
          (e
          ∙ ap₂ (turn_way perm fronts backs t.front t.back s q) (sym p.front_is) (sym p.back_is)
          ∙ pair_way s q a l m p.fits p.kind_is (subst (λ n. front_test n ≡ true) (sym p.front_is) u) (subst (λ n. back_test n ≡ true) (sym p.back_is) v))
        where
          a : Action
          a = action_by kind h i

          fs : (front_at cells kind h ≡ true) × (may x.between.front h ≡ true)
          fs = (and-eq-true_iff (front_at cells kind h) (may x.between.front h)).0 u

          bs : (back_at (cells + 1) kind i ≡ true) × (may x.between.back i ≡ true)
          bs = (and-eq-true_iff (back_at (cells + 1) kind i) (may x.between.back i)).0 v

          order : h < i
          order = omega (arith, o.front, o.goes, (turns_graded x kind between t ready.aisle turns).past h (omega (arith, o.front)))

          p : PairOf cells kind h i (action_by kind h i)
          p = pair_action cells kind h i order fs.0 bs.0

          turning : between ≡ true → Turning x.between h i
          turning n =
              record {
                front = sym (ap (λ b. not b || get_or x.between.front h false) n) ∙ fs.1;
                back = sym (ap (λ b. not b || get_or x.between.back i false) n) ∙ bs.1;
                goes = omega (arith, o.goes, from_is h true (omega (arith, o.front, turns.top)) n);
              }

          passes : between ≡ true → passes_between x.between cells a ≡ true
          passes n =
              turns_between x.between cells a (tested_turns kind h i (tested n))
              (subst (λ k. Turning x.between k (back_of cells a)) (sym p.front_is) (subst (Turning x.between h) (sym p.back_is) (turning n)))

      one : (s q : ℕ) → s < 8 → q < x.weight → One s q
      unfolding sum_up_to
      one s q l m = go (swept.one s q l m)
        where
          pick : (h i : ℕ) → Pair t h i → row' s q ≡ turn_way perm fronts backs t.front t.back s q h i → (u v : Bool) → front_test h ≡ u → back_test i ≡ v → One s q
          pick h i o e true true eu ev = found s q h i l m o eu ev e
          pick h i o e false v eu ev = still s q l m (omega (arith, e, front_is h false (omega (arith, o.front, turns.top)) eu))
          pick h i o e true false eu ev = still s q l m (omega (arith, e, back_is i false (omega (arith, o.back, turns.top)) ev))

          go : (row' s q ≡ row s q) ⊎ ((h : ℕ) × (i : ℕ) × (0 ≤ h) × Pair t h i × (row' s q ≡ turn_way perm fronts backs t.front t.back s q h i)) → One s q
          go (inl e) = inl e
          go (inr (h, i, z, o, e)) = pick h i o e (front_test h) (back_test i) refl refl

      -- the sweep does what the pass is to do
      pub pass_swept : PassDone x row row' after fronts backs kind between
      pass_swept =
          record {
            low = low;
            less = swept.less;
            one = one;
          }
        where
          low : (s q : ℕ) (a : Action) → s < 8 → q < x.weight → OfPass x kind between a → row' s q ≤ way_with x after fronts backs between s q a
          low s q a l h o =
              let u = tests a o in
              subst (λ n. row' s q ≤ n) (pair_way s q a l h o.fits o.same u.0 u.1)
              (swept.low s q (front_of cells a) (back_of cells a) l h (omega arith) u.2)

-- a kind has its rank alone: it is found by it
rank_alone : (k l : Kind) → kind_rank k ≡ kind_rank l → k ≡ l
rank_alone k l e = sym (by_rank k) ∙ ap at e ∙ by_rank l
  where
    at : ℕ → Kind
    at n = get_or (kinds_named FrontSide Exact) n VOID

    by_rank : (k : Kind) → at (kind_rank k) ≡ k
    by_rank VOID = refl
    by_rank BOTTOM = refl
    by_rank TOP = refl
    by_rank GAP = refl
    by_rank ONCE = refl
    by_rank TWICE = refl

-- the kinds stand in the order of their ranks, and of those that are asked the test the first is BOTTOM
pub kind_at : (i : ℕ) → i < 6 → kind_rank (get_or KINDS i VOID) ≡ i
kind_at zero l = refl
kind_at (suc zero) l = refl
kind_at (suc (suc zero)) l = refl
kind_at (suc (suc (suc zero))) l = refl
kind_at (suc (suc (suc (suc zero)))) l = refl
kind_at (suc (suc (suc (suc (suc zero))))) l = refl
kind_at (suc (suc (suc (suc (suc (suc i)))))) l = absurd (omega arith)

pub tested_at : (i : ℕ) → i < 3 → kind_rank (get_or TESTED i VOID) ≡ i + 1
tested_at zero l = refl
tested_at (suc zero) l = refl
tested_at (suc (suc zero)) l = refl
tested_at (suc (suc (suc i))) l = absurd (omega arith)

-- keys after the first n kinds, and after the first m kinds that are asked the test for aisles between, as far as they pass it: no way over an
-- action of theirs is less, and each key is 'none' or the way over an action
pub record RowPassed (x : Aisle) (row after : ℕ → ℕ → ℕ) (fronts backs : List ℕ) (n m : ℕ) : Type 0 where
  pub low : (k : Kind) (s q : ℕ) (a : Action) → kind_rank k < n → s < 8 → q < x.weight → OfPass x k false a → row s q ≤ way_with x after fronts backs false s q a
  pub tested : (k : Kind) (s q : ℕ) (a : Action) → is_tested k ≡ true → kind_rank k ≤ m → s < 8 → q < x.weight → OfPass x k true a
      → row s q ≤ way_with x after fronts backs true s q a
  pub one : (s q : ℕ) → s < 8 → q < x.weight → (row s q ≡ no_key) ⊎ ((a : Action) × Fits x.layout.cells a × (row s q ≡ through_action x after fronts backs s q a))

module _ (x : Aisle) (after : ℕ → ℕ → ℕ) (fronts backs : List ℕ) where
  -- the way over an action
  abbrev through_by : ℕ → ℕ → Action → ℕ
  through_by s q a = through_action x after fronts backs s q a

  -- at first there is no way
  pub passed_none : (row : ℕ → ℕ → ℕ) → ((s q : ℕ) → s < 8 → q < x.weight → row s q ≡ no_key) → RowPassed x row after fronts backs 0 0
  passed_none row none =
      record {
        low = λ k s q a n l h o. absurd (omega arith);
        tested = λ k s q a t n l h o. absurd (true≢false (sym t ∙ untested k n));
        one = λ s q l h. inl (none s q l h);
      }
    where
      untested : (k : Kind) → kind_rank k ≤ 0 → is_tested k ≡ false
      untested VOID n = refl
      untested BOTTOM n = absurd (omega arith)
      untested TOP n = absurd (omega arith)
      untested GAP n = absurd (omega arith)
      untested ONCE n = refl
      untested TWICE n = refl

  module _ (row row' : ℕ → ℕ → ℕ) (n m : ℕ) (r : RowPassed x row after fronts backs n m) where
    -- unchanged, or the way over an action
    one_more : (s q : ℕ) → (row' s q ≡ row s q) ⊎ ((a : Action) × Fits x.layout.cells a × (row' s q ≡ through_by s q a))
        → (row s q ≡ no_key) ⊎ ((a : Action) × Fits x.layout.cells a × (row s q ≡ through_by s q a))
        → (row' s q ≡ no_key) ⊎ ((a : Action) × Fits x.layout.cells a × (row' s q ≡ through_by s q a))
    one_more s q (inr w) v = inr w
    one_more s q (inl e) (inl f) = inl (e ∙ f)
    one_more s q (inl e) (inr (a, f, g)) = inr (a, f, e ∙ g)

    -- one more kind
    pub passed_one : (kind : Kind) → kind_rank kind ≡ n → PassDone x row row' after fronts backs kind false → RowPassed x row' after fronts backs (n + 1) m
    passed_one kind here d =
        record {
          low = λ k s q a b l h o. ⊎_elim (λ p. omega (arith, d.less s q l h, r.low k s q a p l h o))
              (λ e. d.low s q a l h (subst (λ k. OfPass x k false a) (rank_alone k kind (e ∙ sym here)) o)) (below (kind_rank k) n b);
          tested = λ k s q a t b l h o. omega (arith, d.less s q l h, r.tested k s q a t b l h o);
          one = λ s q l h. one_more s q (d.one s q l h) (r.one s q l h);
        }

    -- one more kind with the test
    pub passed_tested : (kind : Kind) → kind_rank kind ≡ m + 1 → PassDone x row row' after fronts backs kind true → RowPassed x row' after fronts backs n (m + 1)
    passed_tested kind here d =
        record {
          low = λ k s q a b l h o. omega (arith, d.less s q l h, r.low k s q a b l h o);
          tested = λ k s q a t b l h o. ⊎_elim (λ p. omega (arith, d.less s q l h, r.tested k s q a t (omega arith) l h o))
              (λ e. d.low s q a l h (subst (λ k. OfPass x k true a) (rank_alone k kind (e ∙ sym here)) o)) (below (kind_rank k) (m + 1) (omega arith));
          one = λ s q l h. one_more s q (d.one s q l h) (r.one s q l h);
        }

  module _ (row : ℕ → ℕ → ℕ) (m : ℕ) (passed : RowPassed x row after fronts backs 6 m) (all : asks_between x.method.policy ≡ true → 3 ≤ m)
      (s q : ℕ) (l : s < 8) (h : q < x.weight) where
    -- the way over an action with the answer of the test for aisles between given
    abbrev way : Bool → Action → ℕ
    way b a = way_with x after fronts backs b s q a

    -- the pass of its kind looks at an action with the answer 'no'
    low_no : (a : Action) → Fits x.layout.cells a → row s q ≤ way false a
    low_no a f = passed.low (kind_of a) s q a (rank_below (kind_of a)) l h (record { fits = f; same = refl; passes = inl refl })
      where
        rank_below : (k : Kind) → kind_rank k < 6
        rank_below VOID = omega arith
        rank_below BOTTOM = omega arith
        rank_below TOP = omega arith
        rank_below GAP = omega arith
        rank_below ONCE = omega arith
        rank_below TWICE = omega arith

    -- and the last passes, where the policy asks the test, with the answer 'yes'
    low_yes : (a : Action) → Fits x.layout.cells a → asks_between x.method.policy ≡ true → is_tested (kind_of a) ≡ true
        → passes_between x.between x.layout.cells a ≡ true → row s q ≤ way true a
    low_yes a f is tested passes =
        passed.tested (kind_of a) s q a tested (within_all (kind_of a) tested) l h (record { fits = f; same = refl; passes = inr passes })
      where
        within_all : (k : Kind) → is_tested k ≡ true → kind_rank k ≤ m
        within_all VOID t = absurd (true≢false (sym t))
        within_all BOTTOM t = omega (arith, all is)
        within_all TOP t = omega (arith, all is)
        within_all GAP t = all is
        within_all ONCE t = absurd (true≢false (sym t))
        within_all TWICE t = absurd (true≢false (sym t))

    -- no way is less
    low : (a : Action) → Fits x.layout.cells a → row s q ≤ through_by s q a
    low a f = by_policy (asks_between x.method.policy) refl
      where
        any : (asks_between x.method.policy ≡ false) ⊎ (is_tested (kind_of a) ≡ false) → row s q ≤ through_by s q a
        any free = subst (λ n. row s q ≤ n) (way_any x after fronts backs s q a free) (low_no a f)

        by_answer : asks_between x.method.policy ≡ true → is_tested (kind_of a) ≡ true → (b : Bool) → passes_between x.between x.layout.cells a ≡ b → row s q ≤ through_by s q a
        by_answer is tested true e = subst (λ n. row s q ≤ n) (sym (way_is x after fronts backs s q a ∙ ap (λ b. way b a) e)) (low_yes a f is tested e)
        by_answer is tested false e = subst (λ n. row s q ≤ n) (sym (way_is x after fronts backs s q a ∙ ap (λ b. way b a) e)) (low_no a f)

        by_kind : asks_between x.method.policy ≡ true → (b : Bool) → is_tested (kind_of a) ≡ b → row s q ≤ through_by s q a
        by_kind is false e = any (inr e)
        by_kind is true e = by_answer is e (passes_between x.between x.layout.cells a) refl

        by_policy : (b : Bool) → asks_between x.method.policy ≡ b → row s q ≤ through_by s q a
        by_policy false e = any (inl e)
        by_policy true e = by_kind e (is_tested (kind_of a)) refl

    -- so the key is the least
    pub least_passed : row s q ≡ least_or no_key (through_by s q) (actions_of x.layout.cells)
    unfolding through_action sum_up_to
    least_passed =
        least_is no_key (through_by s q) (row s q) (actions_of x.layout.cells) (top (passed.one s q l h))
        (λ a m. low a (actions_sound x.layout.cells a m))
        (listed (passed.one s q l h))
      where
        top : (row s q ≡ no_key) ⊎ ((a : Action) × Fits x.layout.cells a × (row s q ≡ through_by s q a)) → row s q ≤ no_key
        top (inl e) = omega arith
        top (inr (a, f, e)) = omega arith

        listed : (row s q ≡ no_key) ⊎ ((a : Action) × Fits x.layout.cells a × (row s q ≡ through_by s q a))
            → (row s q ≡ no_key) ⊎ ((a : Action) × Memᴰ a (actions_of x.layout.cells) × (row s q ≡ through_by s q a))
        listed (inl e) = inl e
        listed (inr (a, f, e)) = inr (a, actions_complete x.layout.cells a f, e)
