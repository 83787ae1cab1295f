-- Distances and lengths of a store turned front to back: without posts every height lies as far from the front as the turned one from the
-- back, and a turned plan is as long.
use Prim.Native.Nat.{ℕ, suc, ◌+◌, ◌*◌, ◌-◌, ◌≤◌}
use mathlib.Core.Path.{◌≡◌, refl, sym, ◌∙◌, ap, ap₂}
use mathlib.Core.Bool.{◌&&◌, and_comm}
use native.Mathlib.Nat.{add-mul}
use native.Mathlib.Omega.{arith}
use Rattle.rules.specs.declared.Layout.{Layout}
use Rattle.rules.specs.declared.Action.{Action}
use Rattle.rules.specs.declared.Action.TheVariants.{Void, Bottom, Top, Gap, Once, Twice}
use Rattle.rules.specs.declared.Passage.{Passage}
use Rattle.rules.specs.Lists.{sum_of}
use Rattle.rules.specs.Store.{cell_position, aisle_length, position}
use Rattle.rules.specs.Plans.{Plan, Fits, WellFormed, plan_length, back_treads, front_treads}
use Rattle.rules.specs.Lengths.{action_length, passage_length}
use Rattle.rules.specs.Policies.{in_front_half, in_back_half, halved}
use Rattle.rules.specs.Turned.{turned_height, turned_action, turned_passage, turned_plan}
use Rattle.rules.proofs.Lists.{sum_map, sum_agree}
use Rattle.rules.proofs.Lengths.{cell_without_posts, position_front, position_cell, position_back, Height, at_front, at_cell, at_back, height, plan_length_lem, well_formed_fits}
use Rattle.mirror.specs.Turned.{TurnedStore, Opposite}
use Rattle.mirror.proofs.Tests.{leb_agree}
use Rattle.mirror.proofs.Plans.{turned_back, turned_front, turned_well_formed}

-- a turned store has the distances of the other, counted from the back
pub turned_store : (z y : Layout) → TurnedStore z y → Opposite z y
unfolding aisle_length
turned_store z y t =
    record {
      grid = record { cells = t.cells; aisles = t.aisles };
      width = t.width;
      depot = t.depot;
      side = t.side;
      long = long;
      heights = λ k h. go k h (height z k);
    }
  where
    here : (i : ℕ) → cell_position z i ≡ z.front + (i - 1) * z.pitch
    here i = cell_without_posts z t.no_posts i

    there : (i : ℕ) → cell_position y i ≡ z.back + (i - 1) * z.pitch
    there i = rw (← t.front, ← t.pitch) (cell_without_posts y t.no_posts_there i)

    long : aisle_length y ≡ aisle_length z
    long = omega (arith, here z.cells, there z.cells, ap (cell_position y) t.cells, t.back)

    go : (k : ℕ) → k ≤ suc z.cells → Height z k → position y (suc z.cells - k) + position z k ≡ aisle_length z
    go k h (at_front e) =
        let end = position_back y (suc z.cells - k) (omega (arith, t.cells)) in
        rw (end, e, position_front z) (omega (arith, long))
    go k h (at_back e) =
        let start : suc z.cells - k ≡ 0 = omega arith in
        rw (start, position_front y, position_back z k e) (omega arith)
    go k h (at_cell low high) =
        let sum = add-mul (suc z.cells - k - 1) (k - 1) z.pitch in
        let all : (suc z.cells - k - 1) + (k - 1) ≡ z.cells - 1 = omega arith in
        rw (position_cell y (suc z.cells - k) (omega arith) (omega (arith, t.cells)), position_cell z k low high)
        (omega (arith, rw all at sum, there (suc z.cells - k), here k, here z.cells))

module _ (z y : Layout) (o : Opposite z y) where
  -- the halves exchange
  turned_front_half : (i : ℕ) → i ≤ suc z.cells → in_front_half y (turned_height z.cells i) ≡ in_back_half z i
  unfolding in_front_half in_back_half
  turned_front_half i h =
      let s = o.heights i h in
      let l = o.long in
      leb_agree (2 * position y (suc z.cells - i)) (aisle_length y) (aisle_length z) (2 * position z i) (λ g. omega arith) (λ g. omega arith)

  turned_back_half : (i : ℕ) → i ≤ suc z.cells → in_back_half y (turned_height z.cells i) ≡ in_front_half z i
  unfolding in_front_half in_back_half
  turned_back_half i h =
      let s = o.heights i h in
      let l = o.long in
      leb_agree (aisle_length y) (2 * position y (suc z.cells - i)) (2 * position z i) (aisle_length z) (λ g. omega arith) (λ g. omega arith)

  -- MIDPOINT's rule for aisles between is kept
  pub turned_halved : (a : Action) → Fits z.cells a → halved y (turned_action z.cells a) ≡ halved z a
  turned_halved Void fits = refl
  turned_halved (Bottom i) fits = turned_back_half i (omega arith)
  turned_halved (Top i) fits = turned_front_half i (omega arith)
  turned_halved (Gap h i) fits =
      ap₂ ◌&&◌ (turned_front_half i (omega arith)) (turned_back_half h (omega arith)) ∙ and_comm (in_back_half z i) (in_front_half z h)
  turned_halved Once fits = refl
  turned_halved Twice fits = refl

  -- a turned action is as long
  turned_action_length : (a : Action) → Fits z.cells a → action_length y (turned_action z.cells a) ≡ action_length z a
  unfolding action_length
  turned_action_length Void fits = refl
  turned_action_length (Bottom i) fits = omega (arith, o.heights i (omega arith), o.long)
  turned_action_length (Top i) fits = omega (arith, o.heights i (omega arith), o.long)
  turned_action_length (Gap h i) fits = omega (arith, o.heights i (omega arith), o.heights h (omega arith), o.long)
  turned_action_length Once fits = o.long
  turned_action_length Twice fits = omega (arith, o.long)

  -- and so is a turned passage
  turned_passage_length : (p : Passage) → passage_length y (turned_passage p) ≡ passage_length z p
  unfolding passage_length
  turned_passage_length p =
      let n : back_treads (turned_passage p) + front_treads (turned_passage p) ≡ back_treads p + front_treads p = omega (arith, turned_back p, turned_front p) in
      rw (n, o.width)

  -- and a turned plan
  pub turned_length : (plan : Plan) → WellFormed z plan → plan_length y (turned_plan z.cells plan) ≡ plan_length z plan
  turned_length plan wf =
      plan_length_lem y (turned_plan z.cells plan) (turned_well_formed plan o.grid wf) ∙ ap₂ ◌+◌ actions passages ∙ sym (plan_length_lem z plan wf)
    where
      actions : sum_of (action_length y) (turned_plan z.cells plan).actions ≡ sum_of (action_length z) plan.actions
      actions =
          sum_map (action_length y) (turned_action z.cells) plan.actions
          ∙ sum_agree (λ a. action_length y (turned_action z.cells a)) (action_length z) plan.actions
          (λ a m. turned_action_length a (well_formed_fits z plan wf a m))

      passages : sum_of (passage_length y) (turned_plan z.cells plan).passages ≡ sum_of (passage_length z) plan.passages
      passages =
          sum_map (passage_length y) turned_passage plan.passages
          ∙ sum_agree (λ p. passage_length y (turned_passage p)) (passage_length z) plan.passages (λ p m. turned_passage_length p)
