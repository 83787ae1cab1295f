-- The key of a plan, 17 times its length and the aisles that it enters, is a cost by which the table can choose; and by it plans are compared as the
-- rules compare them: of two plans the one with the lesser key is shorter, or as long with fewer entered aisles.
use Prim.Native.Nat.{ℕ, suc, ◌+◌, ◌*◌, ◌≤◌}
use native.Mathlib.Omega.{arith}
use mathlib.Core.Path.{◌≡◌, refl, sym}
use mathlib.Core.List.{List, [], ◌∷◌}
use mathlib.Core.Bool.{Bool, true, false, cond}
use lib.Dec.{ltb}
use lib.ListN.{length}
use borrow.Author.Tests.{ltb-true, ltb-false, lt-ltb, le-ltb, eq-eqb, ne_eqb}
use Rattle.rules.specs.declared.Layout.{Layout}
use Rattle.rules.specs.declared.Action.{Action}
use Rattle.rules.specs.declared.Passage.{Passage}
use Rattle.rules.specs.Lists.{sum_of}
use Rattle.rules.specs.Store.{layout_in_bounds}
use Rattle.rules.specs.Jobs.{Job}
use Rattle.rules.specs.Plans.{Plan, WellFormed, plan_length, entered}
use Rattle.rules.specs.Policies.{entered_aisles}
use Rattle.rules.specs.Lengths.{action_length, passage_length}
use Rattle.rules.specs.BestPlan.{is_better}
use Rattle.rules.proofs.Lengths.{plan_length_lem}
use Rattle.rules.proofs.Ceiling.{plan_length_57280}
use Rattle.rules.proofs.Admission.{layout_within}
use Rattle.optimum.specs.Routing.{entering, keys, plan_key, cost_from}
use Rattle.optimum.proofs.Weighed.{Weighs}

-- keys add up, aisle by aisle: behind the last aisle nothing is added
keys_sum : (z : Layout) (j : ℕ) (actions : List Action) (passages : List Passage) → suc (length passages) ≡ length actions
    → cost_from (keys z) j actions passages ≡ 17 * (sum_of (action_length z) actions + sum_of (passage_length z) passages) + sum_of entering actions
unfolding passage_length
keys_sum z j [] passages e = absurd (omega arith)
keys_sum z j (a ∷ []) [] e = omega arith
keys_sum z j (a ∷ []) (p ∷ passages) e = absurd (omega arith)
keys_sum z j (a ∷ b ∷ actions) [] e = absurd (omega arith)
keys_sum z j (a ∷ b ∷ actions) (p ∷ passages) e = omega (arith, keys_sum z (suc j) (b ∷ actions) passages (omega arith))

-- at most each aisle is entered
at_most_one : (b : Bool) → cond b 1 0 ≤ 1
at_most_one true = omega arith
at_most_one false = omega arith

pub entering_all : (actions : List Action) → sum_of entering actions ≤ length actions
entering_all [] = omega arith
entering_all (a ∷ actions) = omega (arith, entering_all actions, at_most_one (entered a))

module _ (z : Layout) (bounds : layout_in_bounds z ≡ true) where
  -- no plan enters more than sixteen aisles
  pub entered_16 : (plan : Plan) → WellFormed z plan → entered_aisles plan ≤ 16
  unfolding entered_aisles
  entered_16 plan well = omega (arith, entering_all plan.actions, well.aisles, ((layout_within z).0 bounds).aisles)

  module _ (x y : Plan) (well-x : WellFormed z x) (well-y : WellFormed z y) where
    -- of two plans the one with the lesser key is the better one
    pub better_by_key : is_better (plan_length z) entered_aisles x y ≡ ltb (plan_key z x) (plan_key z y)
    unfolding is_better plan_key
    better_by_key =
        go (ltb (plan_length z x) (plan_length z y)) refl (ltb (plan_length z y) (plan_length z x)) refl (ltb (entered_aisles x) (entered_aisles y)) refl
      where
        few_x : entered_aisles x ≤ 16
        few_x = entered_16 x well-x

        few_y : entered_aisles y ≤ 16
        few_y = entered_16 y well-y

        -- by whether x is shorter, whether y is, and whether x enters fewer aisles
        go : (a : Bool) → ltb (plan_length z x) (plan_length z y) ≡ a → (b : Bool) → ltb (plan_length z y) (plan_length z x) ≡ b
            → (c : Bool) → ltb (entered_aisles x) (entered_aisles y) ≡ c → is_better (plan_length z) entered_aisles x y ≡ ltb (plan_key z x) (plan_key z y)
        go true p b q c r =
            let shorter = ltb-true (plan_length z x) (plan_length z y) p in
            rw p (sym (lt-ltb (plan_key z x) (plan_key z y) (omega (arith, shorter, few_x))))
        go false p true q c r =
            let longer = ltb-true (plan_length z y) (plan_length z x) q in
            rw (p, ne_eqb (plan_length z x) (plan_length z y) (λ e. omega (arith, longer))) (sym (le-ltb (plan_key z x) (plan_key z y) (omega (arith, longer, few_y))))
        go false p false q true r =
            let same : plan_length z x ≡ plan_length z y = omega (arith, ltb-false (plan_length z x) (plan_length z y) p, ltb-false (plan_length z y) (plan_length z x) q) in
            let fewer = ltb-true (entered_aisles x) (entered_aisles y) r in
            rw (p, eq-eqb (plan_length z x) (plan_length z y) same, r) (sym (lt-ltb (plan_key z x) (plan_key z y) (omega (arith, same, fewer))))
        go false p false q false r =
            let same : plan_length z x ≡ plan_length z y = omega (arith, ltb-false (plan_length z x) (plan_length z y) p, ltb-false (plan_length z y) (plan_length z x) q) in
            let no-fewer = ltb-false (entered_aisles x) (entered_aisles y) r in
            rw (p, eq-eqb (plan_length z x) (plan_length z y) same, r) (sym (le-ltb (plan_key z x) (plan_key z y) (omega (arith, same, no-fewer))))

    -- what has no greater key is no longer, and if it is as long it enters no more aisles
    pub key_length : plan_key z x ≤ plan_key z y → plan_length z x ≤ plan_length z y
    unfolding plan_key
    key_length h = omega (arith, entered_16 x well-x, entered_16 y well-y)

    pub key_fewest : plan_key z x ≤ plan_key z y → plan_length z y ≤ plan_length z x → entered_aisles x ≤ entered_aisles y
    unfolding plan_key
    key_fewest h l = omega (arith, entered_16 x well-x, entered_16 y well-y)

-- the key is a cost by which the table of a job can choose
pub by_key : (job : Job) → layout_in_bounds job.layout ≡ true → Weighs job (keys job.layout) (plan_key job.layout)
unfolding plan_key entered_aisles
by_key job bounds =
    record {
      adds_up = λ plan well. (
          let sum = keys_sum job.layout 1 plan.actions plan.passages (omega (arith, well.passages, well.aisles)) in
          omega (arith, sum, plan_length_lem job.layout plan well)
          );
      below = λ plan well. omega (arith, plan_length_57280 job.layout plan bounds well, entered_16 job.layout bounds plan well);
    }
