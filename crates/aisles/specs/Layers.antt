-- One aisle of the table as the code computes it, from the rows behind the actions and the maps of the aisle.
use Rattle.std.specs.Prelude.{ℕ, suc, ◌+◌, ◌*◌, ◌≤◌, ◌<◌, ◌≡◌, ◌⊎◌, List, Bool, true, false, not, ◌||◌, length, get_or}
use Rattle.rules.specs.declared.Action.{Action}
use Rattle.rules.specs.declared.Kind.{Kind}
use Rattle.rules.specs.declared.Kind.TheVariants.{Void as VOID, Bottom as BOTTOM, Top as TOP, Gap as GAP, Once as ONCE, Twice as TWICE}
use Rattle.rules.specs.Store.{layout_in_bounds}
use Rattle.rules.specs.Plans.{Fits, kind_of}
use Rattle.rules.specs.Lengths.{action_length}
use Rattle.rules.specs.BestPlan.{actions_of}
use Rattle.optimum.specs.Least.{sum_up_to, least_or}
use Rattle.optimum.specs.Routing.{no_key}
use Rattle.aisles.specs.declared.layers.Aisle.{Aisle}
use Rattle.aisles.specs.declared.layers.Lane.{Lane}
use Rattle.aisles.specs.declared.layers.Turns.{Turns}
use Rattle.between.specs.Between.{Graded}
use Rattle.machine.specs.States.{state_code, state_of}
use Rattle.machine.specs.Steps.{sample_action, seen_kind, step_of}
use Rattle.aisles.specs.Actions.{front_of, back_of, passes_between}
use Rattle.demand.specs.Digits.{demands}
use Rattle.demand.specs.Maps.{entry, map_size}
use Rattle.rows.specs.Rows.{states, tab}
use Rattle.rows.specs.Pairs.{key_at, next_key, SoundRow, Holds}
use Rattle.aisles.specs.Repeating.{RepeatsTo}
use Rattle.aisles.specs.Turns.{front_turn, back_turn, least_back}

-- an aisle's numbers are in range
pub record InRange (x : Aisle) : Type 0 where
  pub bounds : layout_in_bounds x.layout ≡ true
  pub small : x.weight ≤ demands
  pub few : x.tried ≤ 5
  pub graded : Graded x.between.from (x.layout.cells + 1)

-- the number of the state after a kind of action, with the answer of the test for aisles between given
unfoldable pub step_with : Aisle → Kind → Bool → ℕ → ℕ
step_with x kind between s =
    state_code (step_of x.method.policy x.method.end (sample_action (seen_kind x.layout kind)) x.may between (state_of s))

-- the number of the state after an action
unfoldable pub step_code : Aisle → Action → ℕ → ℕ
step_code x a s = step_with x (kind_of a) (passes_between x.between x.layout.cells a) s

-- the number of the demand after an action, in an aisle with so many cells
unfoldable pub left_code : ℕ → List ℕ → List ℕ → Action → ℕ → ℕ
left_code cells fronts backs a q = entry backs (back_of cells a) (entry fronts (front_of cells a) q)

-- one for an aisle that a kind of action enters: all but VOID do
abbrev pub entered_by : Kind → ℕ
entered_by VOID = 0
entered_by BOTTOM = 1
entered_by TOP = 1
entered_by GAP = 1
entered_by ONCE = 1
entered_by TWICE = 1

-- what an action adds to a key: its length, and one for the aisle if it is entered
abbrev pub action_key : Aisle → Action → ℕ
action_key x a = 17 * action_length x.layout a + entered_by (kind_of a)

-- the way over an action: what it adds, and the key behind the actions
unfoldable pub through_action : Aisle → (ℕ → ℕ → ℕ) → List ℕ → List ℕ → ℕ → ℕ → Action → ℕ
through_action x after fronts backs s q a = sum_up_to no_key (action_key x a) (after (step_code x a s) (left_code x.layout.cells fronts backs a q))

-- an aisle's numbers are in range, and its maps lead to demands below the weight
pub record AisleReady (x : Aisle) (fronts backs : List ℕ) : Type 0 where
  pub aisle : InRange x
  pub fronts_long : map_size ≤ length fronts
  pub backs_long : map_size ≤ length backs
  pub front_below : (h q : ℕ) → h ≤ x.layout.cells → q < x.weight → entry fronts h q < x.weight
  pub back_below : (i q : ℕ) → 1 ≤ i → i ≤ suc x.layout.cells → q < x.weight → entry backs i q < x.weight

-- an aisle that is ready, with the rows of its maps that repeat the row before
pub record LaneReady (lane : Lane) : Type 0 where
  pub ready : AisleReady lane.aisle lane.maps.fronts.now lane.maps.backs.now
  pub front : RepeatsTo lane.maps.fronts.now lane.aisle.weight lane.same.front (lane.aisle.layout.cells + 1)
  pub back : RepeatsTo lane.maps.backs.now lane.aisle.weight lane.same.back (lane.aisle.layout.cells + 1)

-- the way over an action, with the answer of the test for aisles between given
unfoldable pub way_with : Aisle → (ℕ → ℕ → ℕ) → List ℕ → List ℕ → Bool → ℕ → ℕ → Action → ℕ
way_with x after fronts backs between s q a =
    sum_up_to no_key (action_key x a) (after (step_with x (kind_of a) between s) (left_code x.layout.cells fronts backs a q))

-- the turns of a kind up to the back crossing: all, or with the test those that the test for aisles between allows
pub record TurnsOf (x : Aisle) (kind : Kind) (between : Bool) (t : Turns) : Type 0 where
  pub top : t.top ≡ x.layout.cells + 1
  pub front : (h : ℕ) → h ≤ x.layout.cells + 1 → get_or t.front h 0 ≡ front_turn x.layout kind h (not between || get_or x.between.front h false)
  pub back : (i : ℕ) → i ≤ x.layout.cells + 1 → get_or t.back i 0 ≡ back_turn x.layout kind i (not between || get_or x.between.back i false)
  pub from : (h : ℕ) → h ≤ x.layout.cells + 1 → get_or t.from h 0 ≡ least_back between (get_or x.between.from h 0) h

-- an action of a kind, that passes the test for aisles between if it is asked
pub record OfPass (x : Aisle) (kind : Kind) (between : Bool) (a : Action) : Type 0 where
  pub fits : Fits x.layout.cells a
  pub same : kind_of a ≡ kind
  pub passes : (between ≡ false) ⊎ (passes_between x.between x.layout.cells a ≡ true)

-- two rows as a kind of action sees them: the keys of the states that it leads to, and one more where the aisle is entered; with r
-- aisles behind this one, whatever r is
pub record RowsStepped (way way-spared after after-spared steps : List ℕ) (kind : Kind) (weight : ℕ) : Type 0 where
  pub keyed : (r : ℕ) → r < 16 → SoundRow r after after-spared weight
      → SoundRow (suc r) way way-spared weight
      × ((s q : ℕ) → s < states → q < weight
      → key_at (suc r) way way-spared s q ≡ sum_up_to no_key (entered_by kind) (next_key r after after-spared (get_or steps s 0) q))

-- keys after the actions of a kind: no way over one of them is less, nothing grew, and each key is as it was or the way over an action
pub record PassDone (x : Aisle) (old new after : ℕ → ℕ → ℕ) (fronts backs : List ℕ) (kind : Kind) (between : Bool) : Type 0 where
  pub low : (s q : ℕ) (a : Action) → s < states → q < x.weight → OfPass x kind between a → new s q ≤ way_with x after fronts backs between s q a
  pub less : (s q : ℕ) → s < states → q < x.weight → new s q ≤ old s q
  pub one : (s q : ℕ) → s < states → q < x.weight → (new s q ≡ old s q) ⊎ ((a : Action) × Fits x.layout.cells a × (new s q ≡ through_action x after fronts backs s q a))

-- the same of rows, with r aisles behind this one, whatever r is; past the last demand nothing changes
pub record RowsPassed (x : Aisle) (row row' spared spared' after after-spared fronts backs : List ℕ) (kind : Kind) (between : Bool) : Type 0 where
  pub kept : length row' ≡ length row
  pub spared_kept : length spared' ≡ length spared
  pub rest : (k : ℕ) → x.weight * states ≤ k → get_or row' k 0 ≡ get_or row k 0
  pub spared_rest : (k : ℕ) → x.weight * states ≤ k → get_or spared' k 0 ≡ get_or spared k 0
  pub keyed : (r : ℕ) → r < 16 → SoundRow (suc r) row spared x.weight → SoundRow r after after-spared x.weight
      → SoundRow (suc r) row' spared' x.weight
      × PassDone x (key_at (suc r) row spared) (key_at (suc r) row' spared') (next_key r after after-spared) fronts backs kind between

-- two rows hold the least over the actions, with r aisles behind this one, whatever r is
abbrev pub RowFilled : Aisle → List ℕ → List ℕ → List ℕ → List ℕ → List ℕ → List ℕ → Type 0
RowFilled x row spared after after-spared fronts backs =
    (r : ℕ) → r < 16 → SoundRow r after after-spared x.weight → (s q : ℕ) → s < states → q < x.weight
    → Holds (suc r) (tab row s q) (tab spared s q) (least_or no_key (through_action x (next_key r after after-spared) fronts backs s q) (actions_of x.layout.cells))
