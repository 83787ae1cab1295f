-- The treads of a plan, written place by place, are the plan's multiplicities.
use Prim.Native.Nat.{ℕ, zero, suc, ◌+◌, ◌*◌, ◌-◌, ◌≤◌, ◌<◌}
use native.Mathlib.Omega.{arith}
use mathlib.Core.Path.{◌≡◌, refl, sym, ap, ap₂, ◌∙◌, subst}
use mathlib.Core.Logic.{inl, inr}
use mathlib.Core.List.{List, [], ◌∷◌, map}
use mathlib.Core.Bool.{Bool, true, false}
use lib.Dec.{ltb}
use lib.ListN.{length, get_or, set, take, replicate, length-set, length-replicate}
use lib.Seq.{get_or-set_same, get_or-set_other}
use borrow.Author.Tests.{ltb-true, ltb-false}
use Rattle.rules.specs.declared.Layout.{Layout}
use Rattle.rules.specs.declared.Action.{Action}
use Rattle.rules.specs.declared.Action.TheVariants.{Void}
use Rattle.rules.specs.declared.Passage.{Passage}
use Rattle.rules.specs.declared.Passage.TheVariants.{P00}
use Rattle.rules.specs.Lists.{nth}
use Rattle.rules.specs.Store.{Edge, along, front, back, InStore}
use Rattle.rules.specs.Plans.{action_at, passage_at, aisle_treads, front_treads, back_treads, multiplicity}
use Rattle.values.specs.declared.Stage.{Stage}
use Rattle.values.specs.declared.PlanValue.{PlanValue}
use Rattle.values.specs.Values.{plan_of}
use Rattle.closedwalks.proofs.Splits.{equal_or_below}
use Rattle.treads.specs.Treads.{slot_of, left_of, Charted}
use Rattle.treads.specs.Filling.{with_aisle, with_passage, with_behind, stage_at, with_aisles}
use Rattle.flood.proofs.Flooding.{same_or_not, none_at}
use Rattle.treads.proofs.Places.{slot_same, slot_range, left_in}

-- the list keeps its length
pub aisle_length_lem : (action : Action) (aisle n : ℕ) (left : List ℕ) → length (with_aisle action aisle n left) ≡ length left
aisle_length_lem action aisle zero left = refl
aisle_length_lem action aisle (suc k) left = length-set (with_aisle action aisle k left) (26 * aisle + k) (aisle_treads action k) ∙ aisle_length_lem action aisle k left

-- so behind an aisle
behind_length : (b : Bool) (cells : ℕ) (passage : Passage) (aisle : ℕ) (left : List ℕ) → length (with_behind b cells passage aisle left) ≡ length left
unfolding with_passage
behind_length true cells passage aisle left =
    length-set (set left (442 + 26 * aisle) (front_treads passage)) (442 + 26 * aisle + cells + 1) (back_treads passage) ∙ length-set left (442 + 26 * aisle) (front_treads passage)
behind_length false cells passage aisle left = refl

module _ (aisles cells : ℕ) (stages : List Stage) where
  -- so over the first n aisles
  pub aisles_length : (n : ℕ) (left : List ℕ) → length (with_aisles aisles cells stages n left) ≡ length left
  aisles_length zero left = refl
  aisles_length (suc j) left =
      let before = with_aisles aisles cells stages j left in
      let row = with_aisle (stage_at stages j).action (suc j) (suc cells) before in
      behind_length (ltb (suc j) aisles) cells (stage_at stages j).passage (suc j) row ∙ aisle_length_lem (stage_at stages j).action (suc j) (suc cells) before ∙ aisles_length j left

  -- one aisle more
  pub aisles_more : (aisle : ℕ) (first : List ℕ) {left mid after : List ℕ} {b : Bool} → 1 ≤ aisle → left ≡ with_aisles aisles cells stages (aisle - 1) first
      → mid ≡ with_aisle (stage_at stages (aisle - 1)).action aisle (suc cells) left → after ≡ with_behind b cells (stage_at stages (aisle - 1)).passage aisle mid → ltb aisle aisles ≡ b
      → after ≡ with_aisles aisles cells stages aisle first
  aisles_more (suc j) first {left} {mid} {after} {b} h p q r s =
      let e : suc j - 1 ≡ j = omega arith in
      r ∙ ap₂ (λ (t : Bool) (l : List ℕ). with_behind t cells (stage_at stages (suc j - 1)).passage (suc j) l) (sym s) (q ∙ ap (with_aisle (stage_at stages (suc j - 1)).action (suc j) (suc cells)) p)
      ∙ ap (λ (n : ℕ). with_behind (ltb (suc j) aisles) cells (stage_at stages n).passage (suc j)
      (with_aisle (stage_at stages n).action (suc j) (suc cells) (with_aisles aisles cells stages n first))) e
  aisles_more zero first h p q r s = absurd (omega arith)

-- the order in which the edges are written
abbrev turn : Edge → ℕ
turn (along j k) = 28 * j + k
turn (front j) = 28 * j + 26
turn (back j) = 28 * j + 27

-- the edges before a turn have their treads
record Filled (z : Layout) (treads : Edge → ℕ) (n : ℕ) (left : List ℕ) : Type 0 where
  charted : Charted z left
  written : (e : Edge) → InStore z e → turn e < n → get_or left (slot_of z e) 0 ≡ treads e

module _ (z : Layout) (wide : z.aisles ≤ 16) (deep : z.cells ≤ 24) (treads : Edge → ℕ) where
  -- no two edges have the same turn
  turn_same : (e f : Edge) → InStore z e → InStore z f → turn e ≡ turn f → e ≡ f
  unfolding InStore
  turn_same (along i h) (along j k) p q e = let a : i ≡ j = omega arith in let b : h ≡ k = omega arith in ap₂ along a b
  turn_same (along i h) (front j) p q e = absurd (omega arith)
  turn_same (along i h) (back j) p q e = absurd (omega arith)
  turn_same (front i) (along j k) p q e = absurd (omega arith)
  turn_same (front i) (front j) p q e = let a : i ≡ j = omega arith in ap front a
  turn_same (front i) (back j) p q e = absurd (omega arith)
  turn_same (back i) (along j k) p q e = absurd (omega arith)
  turn_same (back i) (front j) p q e = absurd (omega arith)
  turn_same (back i) (back j) p q e = let a : i ≡ j = omega arith in ap back a

  -- turns at which no edge of the store comes
  filled_to : {n : ℕ} {left : List ℕ} (m : ℕ) → ((e : Edge) → InStore z e → turn e < m → turn e < n) → Filled z treads n left → Filled z treads m left
  filled_to m h f = record { charted = f.charted; written = λ e i t. f.written e i (h e i t) }

  -- the next edge
  filled_next : {left : List ℕ} (e : Edge) (v : ℕ) → InStore z e → v ≡ treads e → Filled z treads (turn e) left → Filled z treads (suc (turn e)) (set left (slot_of z e) v)
  filled_next {left} e v i q f =
      record { charted = record { size = length-set left (slot_of z e) v ∙ f.charted.size; edge = edge }; written = written }
    where
      edge : (k : ℕ) → 0 < get_or (set left (slot_of z e) v) k 0 → (g : Edge) × InStore z g × (slot_of z g ≡ k)
      edge k h = elim (same_or_not k (slot_of z e)) [ inl s ↦ (e, i, sym s) | inr s ↦ f.charted.edge k (omega (arith, get_or-set_other left (slot_of z e) k v 0 s)) ]

      low : slot_of z e < length left
      low = omega (arith, f.charted.size, slot_range z wide deep e i)

      written : (g : Edge) → InStore z g → turn g < suc (turn e) → get_or (set left (slot_of z e) v) (slot_of z g) 0 ≡ treads g
      written g j t =
          elim (equal_or_below (turn g) (turn e) (omega arith)) [
            | inl s ↦ let same = turn_same g e j i s in
                ap (λ (k : Edge). get_or (set left (slot_of z e) v) (slot_of z k) 0) same ∙ get_or-set_same left (slot_of z e) v 0 low ∙ q ∙ ap treads (sym same)
            | inr s ↦ get_or-set_other left (slot_of z e) (slot_of z g) v 0 (λ k. absurd (let same = slot_same z wide deep g e j i k in omega (arith, ap turn same))) ∙ f.written g j s
          ]

  module _ (action : Action) (aisle : ℕ) (first : 1 ≤ aisle) (last : aisle ≤ z.aisles) (right : (k : ℕ) → k ≤ z.cells → aisle_treads action k ≡ treads (along aisle k)) where
    -- the first n edges of an aisle
    filled_aisle : {left : List ℕ} (n : ℕ) → n ≤ suc z.cells → Filled z treads (28 * aisle) left → Filled z treads (28 * aisle + n) (with_aisle action aisle n left)
    unfolding InStore
    filled_aisle zero h f = filled_to (28 * aisle + zero) (λ e i t. omega arith) f
    filled_aisle (suc k) h f =
        filled_to (28 * aisle + suc k) (λ e i t. omega arith) (filled_next (along aisle k) (aisle_treads action k) (first, last, omega arith) (right k (omega arith)) (filled_aisle k (omega arith) f))

  -- the edges behind an aisle, where there are any
  filled_behind : (b : Bool) (passage : Passage) (aisle : ℕ) {left : List ℕ} → 1 ≤ aisle → ltb aisle z.aisles ≡ b
      → (b ≡ true → (front_treads passage ≡ treads (front aisle)) × (back_treads passage ≡ treads (back aisle)))
      → Filled z treads (28 * aisle + suc z.cells) left → Filled z treads (28 * suc aisle) (with_behind b z.cells passage aisle left)
  unfolding InStore with_passage
  filled_behind true passage aisle {left} first q t f =
      let last = ltb-true aisle z.aisles q in
      let r = t refl in
      let slot : 442 + 26 * aisle + z.cells + 1 ≡ 442 + 26 * aisle + suc z.cells = omega arith in
      let one = filled_next (front aisle) (front_treads passage) (first, last) r.0 (filled_to (28 * aisle + 26) gap f) in
      let two = filled_next (back aisle) (back_treads passage) (first, last) r.1 (filled_to (28 * aisle + 27) (λ e i t. omega arith) one) in
      let first-set = set left (442 + 26 * aisle) (front_treads passage) in
      filled_to (28 * suc aisle) (λ e i t. omega arith) (subst (λ (s : ℕ). Filled z treads (suc (28 * aisle + 27)) (set first-set s (back_treads passage))) (sym slot) two)
    where
      gap : (e : Edge) → InStore z e → turn e < 28 * aisle + 26 → turn e < 28 * aisle + suc z.cells
      gap (along j k) i t = omega arith
      gap (front j) i t = omega arith
      gap (back j) i t = omega arith
  filled_behind false passage aisle {left} first q t f = filled_to (28 * suc aisle) gap f
    where
      gap : (e : Edge) → InStore z e → turn e < 28 * suc aisle → turn e < 28 * aisle + suc z.cells
      gap (along j k) i t = omega arith
      gap (front j) i t = let last = ltb-false aisle z.aisles q in omega arith
      gap (back j) i t = let last = ltb-false aisle z.aisles q in omega arith

-- the j-th element of the first n
nth_take : {A : Type 0} (f : Stage → A) (n j : ℕ) (stages : List Stage) (s : Stage) → j < n → nth (map f (take n stages)) (suc j) (f s) ≡ f (get_or stages j s)
nth_take f zero j stages s h = absurd (omega arith)
nth_take f (suc n) j [] s h = refl
nth_take f (suc n) zero (x ∷ stages) s h = refl
nth_take f (suc n) (suc j) (x ∷ stages) s h = nth_take f n j stages s (omega arith)

-- the list of a plan's treads
abbrev pub plan_list : Layout → PlanValue → List ℕ
plan_list z plan = with_aisles z.aisles z.cells plan.stages z.aisles (replicate 884 0)

module _ (z : Layout) (wide : z.aisles ≤ 16) (deep : z.cells ≤ 24) (plan : PlanValue) (same : plan.aisles ≡ z.aisles) where
  -- the actions of the plan are those of its stages
  stage_action : (j : ℕ) → j < z.aisles → action_at (plan_of plan) (suc j) ≡ (stage_at plan.stages j).action
  unfolding plan_of action_at
  stage_action j h = nth_take (λ (s : Stage). s.action) plan.aisles j plan.stages (record { action = Void; passage = P00 }) (omega arith)

  -- its passages too, behind each aisle but the last
  stage_passage : (j : ℕ) → suc j < z.aisles → passage_at (plan_of plan) (suc j) ≡ (stage_at plan.stages j).passage
  unfolding plan_of passage_at
  stage_passage j h = nth_take (λ (s : Stage). s.passage) (plan.aisles - 1) j plan.stages (record { action = Void; passage = P00 }) (omega arith)

  -- the first n aisles
  filled_aisles : (n : ℕ) → n ≤ z.aisles → Filled z (multiplicity (plan_of plan)) (28 * suc n) (with_aisles z.aisles z.cells plan.stages n (replicate 884 0))
  unfolding multiplicity InStore
  filled_aisles zero h =
      record { charted = record { size = length-replicate {A = ℕ} 884 0; edge = λ i p. absurd (omega (arith, none_at {A = ℕ} 0 884 i)) }; written = λ e i t. absurd (before e i t) }
    where
      before : (e : Edge) → InStore z e → turn e < 28 * 1 → ⊥
      before (along j k) i t = omega arith
      before (front j) i t = omega arith
      before (back j) i t = omega arith
  filled_aisles (suc j) h =
      let stage = stage_at plan.stages j in
      let treads = multiplicity (plan_of plan) in
      let right : (k : ℕ) → k ≤ z.cells → aisle_treads stage.action k ≡ treads (along (suc j) k) = λ k l. ap (λ (a : Action). aisle_treads a k) (sym (stage_action j h)) in
      let row = filled_aisle z wide deep treads stage.action (suc j) (omega arith) h right (suc z.cells) (omega arith) (filled_aisles j (omega arith)) in
      filled_behind z wide deep treads (ltb (suc j) z.aisles) stage.passage (suc j) (omega arith) refl
      (λ b. let p = sym (stage_passage j (ltb-true (suc j) z.aisles b)) in (ap front_treads p, ap back_treads p)) row

  -- the list is one of treads
  pub plan_charted : Charted z (plan_list z plan)
  plan_charted = (filled_aisles z.aisles (omega arith)).charted

  -- which are those of the plan
  pub plan_treads : (e : Edge) → InStore z e → left_of z (plan_list z plan) e ≡ multiplicity (plan_of plan) e
  plan_treads e i = left_in z (plan_list z plan) e i ∙ (filled_aisles z.aisles (omega arith)).written e i (before e i)
    where
      before : (e : Edge) → InStore z e → turn e < 28 * suc z.aisles
      before (along j k) i = unfold InStore in omega arith
      before (front j) i = unfold InStore in omega arith
      before (back j) i = unfold InStore in omega arith
