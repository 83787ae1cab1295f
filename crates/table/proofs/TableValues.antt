-- The rows that the code fills, with their ones, hold the table's values.
use Prim.Native.Nat.{ℕ, zero, suc, ◌+◌, ◌*◌, ◌-◌, ◌≤◌, ◌<◌}
use native.Mathlib.Omega.{arith}
use mathlib.Core.Path.{◌≡◌, refl, sym, ◌∙◌, ap, ap₂}
use mathlib.Core.List.{List}
use mathlib.Core.Bool.{true}
use lib.ListN.{get_or, take}
use borrow.Author.Tests.{lt-ltb}
use Rattle.rules.specs.declared.Action.{Action}
use Rattle.rules.specs.declared.Action.TheVariants.{Void, Bottom, Top, Gap, Once, Twice}
use Rattle.rules.specs.declared.Passage.{Passage}
use Rattle.rules.specs.Jobs.{Job}
use Rattle.rules.specs.Plans.{Fits, kind_of}
use Rattle.rules.specs.Lengths.{action_length, passage_length}
use Rattle.rules.specs.Refusals.{weight, stock_in_bounds}
use Rattle.rules.specs.BestPlan.{actions_of, passages_in_order}
use Rattle.rules.specs.Machine.{State, nothing, closed, at_front, at_back, odd, joined, split, ending, dead, action_step, passage_step}
use Rattle.rules.proofs.Pruning.{action_dead, passage_dead}
use Rattle.rules.proofs.Enumeration.{actions_sound}
use Rattle.optimum.specs.Table.{passages_behind, after_action}
use Rattle.optimum.specs.Demand.{gains, less, radices, demand_of, less_code}
use Rattle.optimum.specs.Least.{sum_up_to, least_or}
use Rattle.optimum.specs.Routing.{all_actions, no_key, entering}
use Rattle.optimum.proofs.Choice.{least_cong, least_agree}
use Rattle.optimum.proofs.Radix.{radices_positive, gains_length, count_weight, less_code_lem, less_code_below}
use Rattle.machine.specs.States.{state_code, state_of}
use Rattle.aisles.specs.Actions.{front_of, back_of}
use Rattle.rows.specs.Rows.{next_at}
use Rattle.rows.specs.Pairs.{walk, next_key, SoundRow, Holds}
use Rattle.rows.proofs.KeyRows.{sound_next, dead_key}
use Rattle.table.specs.Crossings.{through_passage, least_after, AfterFilled}
use Rattle.aisles.specs.Layers.{left_code, entered_by, through_action, RowFilled}
use Rattle.demand.specs.Maps.{MapsReady}
use Rattle.table.specs.TableHolds.{aisle_of, tried_at, values, behind, RowHolds, AfterHolds}
use Rattle.machine.proofs.StepLaws.{state_of_code, state_small}
use Rattle.table.proofs.PassageLaws.{least_none}
use Rattle.table.proofs.StepLaws.{cross_of_lem, step_code_lem}
use Rattle.aisles.proofs.ActionRows.{action_parts}
use Rattle.table.proofs.Parting.{less_by_parts}

-- in front of 'none' there is none
sum_none : (c : ℕ) → sum_up_to no_key c no_key ≡ no_key
unfolding sum_up_to
sum_none c = omega arith

-- an action enters its aisle if its kind does
pub entering_kind : (a : Action) → entered_by (kind_of a) ≡ entering a
entering_kind Void = refl
entering_kind (Bottom i) = refl
entering_kind (Top i) = refl
entering_kind (Gap h i) = refl
entering_kind Once = refl
entering_kind Twice = refl

-- the passages that are tried are those of the table
pub tried_passages : (n : ℕ) → take (tried_at n) passages_in_order ≡ passages_behind passages_in_order n
unfolding passages_in_order
tried_passages zero = refl
tried_passages (suc n) = refl

module _ (job : Job) where
  -- the number of a demand after an action is below the weight
  pub below_weight : (j : ℕ) (a : Action) (q : ℕ) → less_code (radices job) (gains job j a) q < weight job.lines
  below_weight j a q = omega (arith, less_code_below (gains job j a) (radices_positive job) (gains_length job j a) q, count_weight job)

  -- from the dead state there is no way on over a passage
  behind_dead : (n j : ℕ) → ((q : List ℕ) → values job n (suc j) dead q ≡ no_key) → (q : List ℕ) → behind job n j dead q ≡ no_key
  unfolding after_action
  behind_dead n j none q = least_none _ over (passages_behind passages_in_order n)
    where
      over : (p : Passage) → walk (passage_length job.layout p) (values job n (suc j) (passage_step job j p dead) q) ≡ no_key
      over p =
          let long = walk (passage_length job.layout p) in
          ap (λ s. long (values job n (suc j) s q)) (passage_dead job j p) ∙ ap long (none q) ∙ sum_none (17 * passage_length job.layout p)

  -- nor over any action
  action_none : (n j : ℕ) → ((q : List ℕ) → behind job n j dead q ≡ no_key) → (q : List ℕ) (a : Action)
      → sum_up_to no_key (17 * action_length job.layout a + entering a) (behind job n j (action_step job j a dead) (less q (gains job j a))) ≡ no_key
  action_none n j none q a =
      let long = sum_up_to no_key (17 * action_length job.layout a + entering a) in
      let left = less q (gains job j a) in
      ap (λ s. long (behind job n j s left)) (action_dead job j a) ∙ ap long (none left) ∙ sum_none (17 * action_length job.layout a + entering a)

  -- so its value is 'none'
  pub value_dead : (n j : ℕ) (q : List ℕ) → values job n j dead q ≡ no_key
  value_dead zero j q = refl
  value_dead (suc n) j q = least_none _ (action_none n j (behind_dead n j (value_dead n (suc j))) q) (all_actions job j)

  -- the next rows hold the key of each state, the dead one's too
  next_value : (n j : ℕ) (next next-spared : List ℕ) → RowHolds job n j next next-spared → (t : State) (q : ℕ) → q < weight job.lines
      → next_key n next next-spared (state_code t) q ≡ values job n j t (demand_of (radices job) q)
  unfolding next_at
  next_value n j next next-spared holds nothing q h = (holds 0 q (omega arith) h).same
  next_value n j next next-spared holds closed q h = (holds 1 q (omega arith) h).same
  next_value n j next next-spared holds at_front q h = (holds 2 q (omega arith) h).same
  next_value n j next next-spared holds at_back q h = (holds 3 q (omega arith) h).same
  next_value n j next next-spared holds odd q h = (holds 4 q (omega arith) h).same
  next_value n j next next-spared holds joined q h = (holds 5 q (omega arith) h).same
  next_value n j next next-spared holds split q h = (holds 6 q (omega arith) h).same
  next_value n j next next-spared holds ending q h = (holds 7 q (omega arith) h).same
  next_value n j next next-spared holds dead q h = dead_key n next next-spared 8 q (omega arith) ∙ sym (value_dead n j (demand_of (radices job) q))

  -- so they hold it, the dead state's too
  pub next_holds : (n j : ℕ) (next next-spared : List ℕ) → RowHolds job n j next next-spared → (t : State) (q : ℕ) → q < weight job.lines
      → Holds n (next_at next (state_code t) q) (next_at next-spared (state_code t) q) (values job n j t (demand_of (radices job) q))
  next_holds n j next next-spared holds t q h =
      record {
        sound = sound_next n next next-spared (weight job.lines) (λ s y l m. (holds s y l m).sound) (state_code t) q h;
        same = next_value n j next next-spared holds t q h;
      }

  module _ (n j : ℕ) (next next-spared : List ℕ) (holds : RowHolds job n (suc j) next next-spared) where
    -- the way on over a passage
    pub passage_value : (s q : ℕ) → q < weight job.lines → (p : Passage)
        → through_passage (aisle_of job j) (next_key n next next-spared) s q p
        ≡ walk (passage_length job.layout p) (values job n (suc j) (passage_step job j p (state_of s)) (demand_of (radices job) q))
    unfolding through_passage passage_length aisle_of
    passage_value s q h p =
        ap (walk (passage_length job.layout p))
        (ap (λ t. next_key n next next-spared (state_code t) q) (cross_of_lem job j p (state_of s)) ∙ next_value n (suc j) next next-spared holds (passage_step job j p (state_of s)) q h)

    -- the least over the passages
    pub least_after_value : n ≡ job.layout.aisles - j → (s q : ℕ) → q < weight job.lines
        → least_after (aisle_of job j) (next_key n next next-spared) s q ≡ behind job n j (state_of s) (demand_of (radices job) q)
    unfolding after_action least_after aisle_of
    least_after_value left s q h =
        ap (least_or no_key _) (ap (λ k. take (tried_at k) passages_in_order) (sym left) ∙ tried_passages n)
        ∙ least_cong no_key _ _ (passage_value s q h) (passages_behind passages_in_order n)

    -- the rows behind the actions
    pub after_value : n ≡ job.layout.aisles - j → n ≤ 16 → (after after-spared : List ℕ) → AfterFilled (aisle_of job j) after after-spared next next-spared
        → AfterHolds job n j after after-spared
    unfolding aisle_of
    after_value left small after after-spared filled s q l h =
        let f = filled n small (λ t y m k. (holds t y m k).sound) s q l h in
        record { sound = f.sound; same = f.same ∙ least_after_value left s q h }

  module _ (few : job.layout.cells ≤ 24) (stocked : stock_in_bounds job ≡ true) (n j : ℕ) (after : ℕ → ℕ → ℕ) (fronts backs : List ℕ) (maps : MapsReady job j fronts backs)
      (holds : (s q : ℕ) → s < 9 → q < weight job.lines → after s q ≡ behind job n j (state_of s) (demand_of (radices job) q)) where
    -- the demand after an action
    pub left_code_lem : (a : Action) → Fits job.layout.cells a → (q : ℕ) → q < weight job.lines
        → left_code job.layout.cells fronts backs a q ≡ less_code (radices job) (gains job j a) q
    unfolding left_code
    left_code_lem a fits q h =
        let p = action_parts job.layout.cells a fits in
        let h₁ = front_of job.layout.cells a in
        let i₁ = back_of job.layout.cells a in
        let first = maps.front h₁ q p.front_within h in
        ap (λ k. get_or backs (i₁ * 256 + k) 0) first
        ∙ maps.back i₁ (less_code (radices job) (gains job j (Bottom h₁)) q) p.back_low p.back_high (below_weight j (Bottom h₁) q)
        ∙ sym (less_by_parts job stocked j a fits q)

    -- the way over an action
    pub through_value : (s q : ℕ) → s < 8 → q < weight job.lines → (a : Action) → Fits job.layout.cells a
        → through_action (aisle_of job j) after fronts backs s q a
        ≡ sum_up_to no_key (17 * action_length job.layout a + entering a) (behind job n j (action_step job j a (state_of s)) (less (demand_of (radices job) q) (gains job j a)))
    unfolding through_action aisle_of
    through_value s q l h a fits =
        let to = action_step job j a (state_of s) in
        ap₂ (sum_up_to no_key) (ap (λ e. 17 * action_length job.layout a + e) (entering_kind a))
        (ap₂ after (step_code_lem job j few a fits s) (left_code_lem a fits q h)
        ∙ holds (state_code to) (less_code (radices job) (gains job j a) q) (omega (arith, state_small to)) (below_weight j a q)
        ∙ ap₂ (behind job n j) (state_of_code to) (less_code_lem (gains job j a) (radices_positive job) (gains_length job j a) q))

  -- the rows behind the actions have packed ones where there is a tour
  sound_after : (n j : ℕ) (after after-spared : List ℕ) → AfterHolds job n j after after-spared → SoundRow n after after-spared (weight job.lines)
  unfolding next_at
  sound_after n j after after-spared holds s q l h = rw (lt-ltb s 8 l) at (holds s q (omega arith) h).sound

  -- the rows of an aisle
  pub row_value : job.layout.cells ≤ 24 → stock_in_bounds job ≡ true → (n j : ℕ) → n < 16 → (after after-spared fronts backs row row-spared : List ℕ)
      → MapsReady job j fronts backs → AfterHolds job n j after after-spared → RowFilled (aisle_of job j) row row-spared after after-spared fronts backs → RowHolds job (suc n) j row row-spared
  unfolding aisle_of all_actions
  row_value short stocked n j room after after-spared fronts backs row row-spared maps holds filled s q l h =
      let f = filled n room (sound_after n j after after-spared holds) s q l h in
      record {
        sound = f.sound;
        same = f.same
            ∙ least_agree no_key _ _ (actions_of job.layout.cells)
            (λ a m. through_value short stocked n j (next_key n after after-spared) fronts backs maps (λ t y u v. (holds t y u v).same) s q l h a (actions_sound job.layout.cells a m));
      }
