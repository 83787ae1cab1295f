-- The length of a plan, added up aisle by aisle.
use Prim.Native.Nat.{ℕ, suc, ◌+◌, ◌≤◌}
use native.Mathlib.Omega.{arith}
use mathlib.Core.Path.{◌≡◌, sym, ap, ◌∙◌}
use lib.ListN.{length}
use Rattle.rules.specs.declared.Layout.{Layout}
use Rattle.rules.specs.declared.Action.TheVariants.{Void}
use Rattle.rules.specs.declared.Passage.TheVariants.{P00}
use Rattle.rules.specs.Lists.{from, sum_of}
use Rattle.rules.specs.Lengths.{action_length, passage_length}
use Rattle.rules.specs.Plans.{Plan, WellFormed, plan_length, action_at, passage_at}
use Rattle.rules.proofs.Lists.{sum_plus, sum_places, sum_from_append, place_beyond}
use Rattle.rules.specs.declared.Passage.{Passage}
use Rattle.rules.specs.Store.{layout_in_bounds}
use mathlib.Core.Bool.{true}
use Rattle.rules.proofs.Admission.{layout_within}
use Rattle.rules.proofs.Lengths.{plan_length_lem, passage_length_bound}

module _ (z : Layout) (plan : Plan) where
  -- what an aisle and the passage behind it add
  abbrev pub share : ℕ → ℕ
  share j = action_length z (action_at plan j) + passage_length z (passage_at plan j)

  -- what the first n add
  abbrev pub shares_to : ℕ → ℕ
  shares_to n = sum_of share (from 1 n)

  -- one more
  pub shares_more : (n : ℕ) → shares_to (n + 1) ≡ shares_to n + share (n + 1)
  shares_more n = let e : suc n ≡ n + 1 = omega arith in sum_from_append share 1 (suc n) n 1 (omega arith) ∙ omega (arith, ap share e)

  -- all of them add up to the plan's length
  pub shares_all : WellFormed z plan → shares_to z.aisles ≡ plan_length z plan
  unfolding action_at passage_at passage_length
  shares_all wf =
      let act : ℕ → ℕ = λ j. action_length z (action_at plan j) in
      let pas : ℕ → ℕ = λ j. passage_length z (passage_at plan j) in
      let k = length plan.passages in
      let m : z.aisles ≡ k + 1 = omega (arith, wf.passages) in
      let a : sum_of act (from 1 z.aisles) ≡ sum_of (action_length z) plan.actions =
      ap (λ n. sum_of act (from 1 n)) (sym wf.aisles) ∙ sum_places (action_length z) Void plan.actions in
      let last : pas (suc k) ≡ 0 = ap (passage_length z) (place_beyond P00 plan.passages k (omega arith)) ∙ omega arith in
      let b : sum_of pas (from 1 z.aisles) ≡ sum_of (passage_length z) plan.passages =
      ap (λ n. sum_of pas (from 1 n)) m ∙ sum_from_append pas 1 (suc k) k 1 (omega arith) ∙ omega (arith, last, sum_places (passage_length z) P00 plan.passages) in
      sum_plus act pas (from 1 z.aisles) ∙ omega (arith, a, b, plan_length_lem z plan wf)

-- a passage adds at most 1,600
pub passage_few : (z : Layout) (p : Passage) → layout_in_bounds z ≡ true → passage_length z p ≤ 1600
passage_few z p h = omega (arith, passage_length_bound z p, ((layout_within z).0 h).width.1)
