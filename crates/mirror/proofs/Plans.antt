-- Plans turned front to back: turning twice changes nothing, and a turned plan treads the turned edges and passes the turned cells.
use Prim.Native.Nat.{ℕ, suc, ◌-◌, ◌≤◌}
use mathlib.Core.Path.{◌≡◌, refl, sym, ◌∙◌, ap, ap₂}
use mathlib.Core.List.{List}
use mathlib.Core.Bool.{cond, ◌||◌, or_comm}
use native.Mathlib.Omega.{arith}
use lib.Dec.{ltb, leb}
use lib.ListN.{length-map}
use Rattle.rules.specs.declared.Layout.{Layout}
use Rattle.rules.specs.declared.Action.{Action}
use Rattle.rules.specs.declared.Action.TheVariants.{Void, Bottom, Top, Gap, Once, Twice}
use Rattle.rules.specs.declared.Passage.{Passage}
use Rattle.rules.specs.declared.Passage.TheVariants.{P00, P02, P11, P20, P22}
use Rattle.rules.specs.Store.{along, front, back}
use Rattle.rules.specs.Plans.{Plan, Fits, WellFormed, action_at, passage_at, aisle_treads, back_treads, front_treads, multiplicity, passes_cell, plan_passes}
use Rattle.rules.proofs.Lists.{nth_map, map_twice}
use Rattle.rules.proofs.Lengths.{well_formed_fits}
use Rattle.rules.specs.Turned.{turned_height, turned_action, turned_passage, turned_plan}
use Rattle.mirror.specs.Turned.{SameGrid}
use Rattle.mirror.proofs.Tests.{leb_agree, leb_ltb_agree}

-- turning twice
pub action_twice : (cells : ℕ) (a : Action) → Fits cells a → turned_action cells (turned_action cells a) ≡ a
action_twice cells Void fits = refl
action_twice cells (Bottom i) fits = ap Bottom (omega arith)
action_twice cells (Top i) fits = ap Top (omega arith)
action_twice cells (Gap h i) fits = ap₂ Gap (omega arith) (omega arith)
action_twice cells Once fits = refl
action_twice cells Twice fits = refl

pub passage_twice : (p : Passage) → turned_passage (turned_passage p) ≡ p
passage_twice P00 = refl
passage_twice P02 = refl
passage_twice P11 = refl
passage_twice P20 = refl
passage_twice P22 = refl

-- the tests of heights, from the other side
turned_lt : (cells k i : ℕ) → k ≤ cells → i ≤ suc cells → leb (turned_height cells i) (cells - k) ≡ ltb k i
turned_lt cells k i low high = leb_ltb_agree (suc cells - i) (cells - k) k i (λ h. omega arith) (λ h. omega arith)

turned_le : (cells i k : ℕ) → k ≤ cells → i ≤ suc cells → ltb (cells - k) (turned_height cells i) ≡ leb i k
turned_le cells i k low high = sym (leb_ltb_agree i k (cells - k) (suc cells - i) (λ h. omega arith) (λ h. omega arith))

pub turned_cells : (cells c i : ℕ) → c ≤ suc cells → i ≤ suc cells → leb (turned_height cells i) (turned_height cells c) ≡ leb c i
turned_cells cells c i low high = leb_agree (suc cells - i) (suc cells - c) c i (λ h. omega arith) (λ h. omega arith)

-- a turned action fits, treads the turned edges and passes the turned cells
pub turned_fits : (cells : ℕ) (a : Action) → Fits cells a → Fits cells (turned_action cells a)
turned_fits cells Void fits = tt
turned_fits cells (Bottom i) fits = (omega arith, omega arith)
turned_fits cells (Top i) fits = (omega arith, omega arith)
turned_fits cells (Gap h i) fits = (omega arith, omega arith, omega arith)
turned_fits cells Once fits = tt
turned_fits cells Twice fits = tt

turned_aisle : (cells : ℕ) (a : Action) (k : ℕ) → Fits cells a → k ≤ cells → aisle_treads (turned_action cells a) (cells - k) ≡ aisle_treads a k
turned_aisle cells Void k fits low = refl
turned_aisle cells (Bottom i) k fits low = ap (λ t. cond t 2 0) (turned_lt cells k i low (omega arith))
turned_aisle cells (Top i) k fits low = ap (λ t. cond t 2 0) (turned_le cells i k low (omega arith))
turned_aisle cells (Gap h i) k fits low =
    ap (λ t. cond t 2 0) (ap₂ ◌||◌ (turned_le cells i k low (omega arith)) (turned_lt cells k h low (omega arith)) ∙ or_comm (leb i k) (ltb k h))
turned_aisle cells Once k fits low = refl
turned_aisle cells Twice k fits low = refl

turned_passes : (cells : ℕ) (a : Action) (c : ℕ) → Fits cells a → c ≤ cells → passes_cell (turned_action cells a) (turned_height cells c) ≡ passes_cell a c
turned_passes cells Void c fits low = refl
turned_passes cells (Bottom i) c fits low = turned_cells cells c i (omega arith) (omega arith)
turned_passes cells (Top i) c fits low = turned_cells cells i c (omega arith) (omega arith)
turned_passes cells (Gap h i) c fits low =
    ap₂ ◌||◌ (turned_cells cells i c (omega arith) (omega arith)) (turned_cells cells c h (omega arith) (omega arith)) ∙ or_comm (leb i c) (leb c h)
turned_passes cells Once c fits low = refl
turned_passes cells Twice c fits low = refl

pub turned_back : (p : Passage) → back_treads (turned_passage p) ≡ front_treads p
turned_back P00 = refl
turned_back P02 = refl
turned_back P11 = refl
turned_back P20 = refl
turned_back P22 = refl

pub turned_front : (p : Passage) → front_treads (turned_passage p) ≡ back_treads p
turned_front P00 = refl
turned_front P02 = refl
turned_front P11 = refl
turned_front P20 = refl
turned_front P22 = refl

module _ (cells : ℕ) (plan : Plan) where
  pub turned_action_at : (j : ℕ) → action_at (turned_plan cells plan) j ≡ turned_action cells (action_at plan j)
  unfolding action_at
  turned_action_at j = nth_map (turned_action cells) plan.actions j Void

  pub turned_passage_at : (j : ℕ) → passage_at (turned_plan cells plan) j ≡ turned_passage (passage_at plan j)
  unfolding passage_at
  turned_passage_at j = nth_map turned_passage plan.passages j P00

  module _ (fits : (j : ℕ) → Fits cells (action_at plan j)) where
    -- each edge of the store is trodden as often as before it was turned
    pub turned_treads : (j k : ℕ) → k ≤ cells → multiplicity (turned_plan cells plan) (along j (cells - k)) ≡ multiplicity plan (along j k)
    unfolding multiplicity
    turned_treads j k low = rw (turned_action_at j) (turned_aisle cells (action_at plan j) k (fits j) low)

    -- a turned cell is passed where the cell was
    pub turned_plan_passes : (j c : ℕ) → c ≤ cells → plan_passes (turned_plan cells plan) j (turned_height cells c) ≡ plan_passes plan j c
    unfolding plan_passes
    turned_plan_passes j c low = rw (turned_action_at j) (turned_passes cells (action_at plan j) c (fits j) low)

  pub turned_front_edge : (j : ℕ) → multiplicity (turned_plan cells plan) (front j) ≡ multiplicity plan (back j)
  unfolding multiplicity
  turned_front_edge j = rw (turned_passage_at j) (turned_front (passage_at plan j))

  pub turned_back_edge : (j : ℕ) → multiplicity (turned_plan cells plan) (back j) ≡ multiplicity plan (front j)
  unfolding multiplicity
  turned_back_edge j = rw (turned_passage_at j) (turned_back (passage_at plan j))

-- a turned plan is a plan of every store with the same points and edges
pub turned_well_formed : {z y : Layout} (plan : Plan) → SameGrid z y → WellFormed z plan → WellFormed y (turned_plan z.cells plan)
turned_well_formed {z} {y} plan grid wf =
    record {
      aisles = length-map plan.actions (turned_action z.cells) ∙ wf.aisles ∙ sym grid.aisles;
      passages = ap suc (length-map plan.passages turned_passage) ∙ wf.passages ∙ sym grid.aisles;
      fits = λ j. rw (turned_action_at z.cells plan j, grid.cells) (turned_fits z.cells (action_at plan j) (wf.fits j));
    }

-- turned twice, it is as it was
pub plan_twice : (z : Layout) (plan : Plan) → WellFormed z plan → turned_plan z.cells (turned_plan z.cells plan) ≡ plan
plan_twice z plan wf =
    ap₂ (λ (actions : List Action) (passages : List Passage). record { actions = actions; passages = passages })
    (map_twice (turned_action z.cells) plan.actions (λ a m. action_twice z.cells a (well_formed_fits z plan wf a m)))
    (map_twice turned_passage plan.passages (λ p m. passage_twice p))
