-- The ways over the actions of an aisle. `after` is the keys of the rows behind them, by state and demand.
use Prim.Native.Nat.{ℕ, zero, suc, ◌≤◌, ◌<◌}
use native.Mathlib.Omega.{arith}
use mathlib.Core.Path.{◌≡◌, refl, sym, ◌∙◌, ap}
use mathlib.Core.Logic.{◌⊎◌, inl, inr}
use mathlib.Core.List.{List, [], ◌∷◌, Memᴰ}
use mathlib.Core.Bool.{Bool, true, false}
use lib.ListN.{length, get_or}
use Rattle.rules.specs.declared.Layout.{Layout}
use Rattle.rules.specs.declared.Action.{Action}
use Rattle.rules.specs.declared.Action.TheVariants.{Void, Bottom, Top, Gap, Once, Twice}
use Rattle.rules.specs.declared.Kind.{Kind}
use Rattle.rules.specs.Store.{side_of}
use Rattle.rules.specs.Plans.{Fits, kind_of}
use Rattle.rules.specs.BestPlan.{actions_of}
use Rattle.rules.specs.Machine.{State, dead}
use Rattle.rules.proofs.Enumeration.{actions_sound}
use Rattle.optimum.specs.Least.{sum_up_to}
use Rattle.optimum.specs.Routing.{no_key}
use Rattle.aisles.specs.declared.layers.Aisle.{Aisle}
use Rattle.aisles.specs.Actions.{front_of, back_of, passes_between}
use Rattle.machine.specs.States.{state_code, state_of}
use Rattle.machine.specs.Steps.{sample_action, seen_kind, step_of}
use Rattle.machine.specs.Tables.{asks_between, is_tested}
use Rattle.aisles.specs.Layers.{step_with, step_code, left_code, action_key, through_action, way_with}
use Rattle.machine.proofs.StepLaws.{state_small}
use Rattle.machine.proofs.Seen.{untested_seen}
use Rattle.aisles.proofs.HalfSteps.{step_no, step_same}

member_at : {A : Type 0} (d : A) (xs : List A) (k : ℕ) → k < length xs → Memᴰ (get_or xs k d) xs
member_at d [] k h = absurd (omega arith)
member_at d (x ∷ xs) zero h = Memᴰ.head refl
member_at d (x ∷ xs) (suc k) h = Memᴰ.tail (member_at d xs k (omega arith))

-- an action of a rank fits the aisle
pub ranked_fits : (cells k : ℕ) → k < length (actions_of cells) → Fits cells (get_or (actions_of cells) k Void)
ranked_fits cells k h = actions_sound cells (get_or (actions_of cells) k Void) (member_at Void (actions_of cells) k h)

-- the parts of an action are within the aisle
pub record Parts (cells front back : ℕ) : Type 0 where
  pub front_within : front ≤ cells
  pub back_low : 1 ≤ back
  pub back_high : back ≤ suc cells

pub action_parts : (cells : ℕ) (a : Action) → Fits cells a → Parts cells (front_of cells a) (back_of cells a)
action_parts cells Void f = record { front_within = omega arith; back_low = omega arith; back_high = omega arith }
action_parts cells (Bottom i) f = record { front_within = omega (arith, f.1); back_low = omega arith; back_high = omega arith }
action_parts cells (Top i) f = record { front_within = omega arith; back_low = f.0; back_high = omega (arith, f.1) }
action_parts cells (Gap h i) f = record { front_within = omega (arith, f.1, f.2); back_low = omega (arith, f.1); back_high = omega (arith, f.2) }
action_parts cells Once f = record { front_within = omega arith; back_low = omega arith; back_high = omega arith }
action_parts cells Twice f = record { front_within = omega arith; back_low = omega arith; back_high = omega arith }

-- where the test for aisles between does not matter, it does not for the kind as it is seen
seen_free : {A : Type 0} (z : Layout) (k : Kind) → A ⊎ (is_tested k ≡ false) → A ⊎ (is_tested (seen_kind z k) ≡ false)
seen_free z k (inl a) = inl a
seen_free z k (inr free) = inr (untested_seen (side_of z) k ∙ free)

-- the way over an action is that with its own answer to the test for aisles between
pub way_is : (x : Aisle) (after : ℕ → ℕ → ℕ) (fronts backs : List ℕ) (s q : ℕ) (a : Action)
    → through_action x after fronts backs s q a ≡ way_with x after fronts backs (passes_between x.between x.layout.cells a) s q a
unfolding through_action step_code way_with
way_is x after fronts backs s q a = refl

-- the key of the dead state is 'none'
abbrev pub DeadNone : (ℕ → ℕ → ℕ) → Type 0
DeadNone after = (t y : ℕ) → 8 ≤ t → after t y ≡ no_key

module _ (x : Aisle) (after : ℕ → ℕ → ℕ) (fronts backs : List ℕ) (s q : ℕ) where
  -- the way over an action
  abbrev through : Action → ℕ
  through a = through_action x after fronts backs s q a

  -- the same with the answer of the test for aisles between given
  abbrev way : Bool → Action → ℕ
  way b a = way_with x after fronts backs b s q a

  -- the way over an action that leads to a state
  abbrev way_to : Action → State → ℕ
  way_to a t = sum_up_to no_key (action_key x a) (after (state_code t) (left_code x.layout.cells fronts backs a q))

  -- where an action leads, with such an answer
  abbrev to : Action → Bool → State
  to a b = step_of x.method.policy x.method.end (sample_action (seen_kind x.layout (kind_of a))) x.may b (state_of s)

  -- no way leads on from the dead state
  pub way_dead : DeadNone after → (b : Bool) (a : Action) → 8 ≤ step_with x (kind_of a) b s → way b a ≡ no_key
  unfolding way_with sum_up_to
  way_dead dead-none b a h = omega (arith, dead-none (step_with x (kind_of a) b s) (left_code x.layout.cells fronts backs a q) h)

  -- the answer 'no' leads where the answer 'yes' does, or nowhere
  way_no : DeadNone after → (a : Action) → (way false a ≡ way true a) ⊎ (way false a ≡ no_key)
  unfolding way_with step_with
  way_no dead-none a = go (step_no x.method.policy x.method.end (sample_action (seen_kind x.layout (kind_of a))) x.may (state_of s))
    where
      go : (to a false ≡ to a true) ⊎ (to a false ≡ dead) → (way false a ≡ way true a) ⊎ (way false a ≡ no_key)
      go (inl e) = inl (ap (way_to a) e)
      go (inr e) = inr (way_dead dead-none false a (omega (arith, ap state_code e)))

  -- so a way with the answer 'no' is the way over the action, or none
  pub way_true : DeadNone after → (a : Action) → (way false a ≡ through a) ⊎ (way false a ≡ no_key)
  way_true dead-none a = go (passes_between x.between x.layout.cells a) refl (way_no dead-none a)
    where
      go : (b : Bool) → passes_between x.between x.layout.cells a ≡ b → (way false a ≡ way true a) ⊎ (way false a ≡ no_key)
          → (way false a ≡ through a) ⊎ (way false a ≡ no_key)
      go true e (inl f) = inl (f ∙ sym (way_is x after fronts backs s q a ∙ ap (λ b. way b a) e))
      go true e (inr f) = inr f
      go false e f = inl (sym (way_is x after fronts backs s q a ∙ ap (λ b. way b a) e))

  -- where the answer does not matter
  pub way_any : (a : Action) → (asks_between x.method.policy ≡ false) ⊎ (is_tested (kind_of a) ≡ false) → way false a ≡ through a
  unfolding way_with step_with
  way_any a free = go (passes_between x.between x.layout.cells a) refl
    where
      same : way false a ≡ way true a
      same =
          let kind = kind_of a in
          ap (way_to a)
          (step_same x.method.policy x.method.end (seen_kind x.layout kind) (seen_free x.layout kind free) x.may (state_of s))

      go : (b : Bool) → passes_between x.between x.layout.cells a ≡ b → way false a ≡ through a
      go true e = same ∙ sym (way_is x after fronts backs s q a ∙ ap (λ b. way b a) e)
      go false e = sym (way_is x after fronts backs s q a ∙ ap (λ b. way b a) e)

-- the numbers of states after an action are at most 8
pub step_small : (x : Aisle) (a : Action) (s : ℕ) → step_code x a s ≤ 8
unfolding step_code step_with
step_small x a s =
    state_small (step_of x.method.policy x.method.end (sample_action (seen_kind x.layout (kind_of a))) x.may (passes_between x.between x.layout.cells a) (state_of s))
