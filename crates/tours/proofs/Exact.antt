-- EXACT: the machine's table closes off just the lawful plans.
use Prim.Native.Nat.{ℕ, zero, suc, ◌%◌, ◌≤◌}
use native.Mathlib.Omega.{arith}
use mathlib.Core.Path.{◌≡◌, sym, subst}
use mathlib.Core.Logic.{inl, inr, ◌↔◌}
use Rattle.rules.specs.declared.Layout.{Layout}
use Rattle.rules.specs.Plans.{Plan, WellFormed, action_at, passage_at, multiplicity}
use Rattle.rules.specs.Lawful.{front_degree, back_degree}
use Rattle.rules.specs.Machine.{closed, lawful_step}
use Rattle.tours.specs.Prefixes.{lawful_state}
use Rattle.tours.proofs.Aisles.{LawfulFront}
use Rattle.tours.proofs.Basics.{below}
use Rattle.tours.proofs.Forward.{accepted_together, accepted_depot}
use Rattle.tours.proofs.Parity.{Live, live_before_action, live_before_passage, front_crossing_even, back_crossing_even}
use Rattle.tours.proofs.Backward.{lawful_closed}

module _ (d : ℕ) (plan : Plan) where
  -- no state before a live one is dead
  pub live_earlier : (n i : ℕ) → i ≤ n → Live (lawful_state d plan n) → Live (lawful_state d plan i)
  live_earlier zero zero l live = tt
  live_earlier zero (suc i) l live = absurd (omega arith)
  live_earlier (suc n) i l live = elim (below i n l) [
    | inl h ↦ live_earlier n i h
        (live_before_action (action_at plan (suc n)) (lawful_state d plan n)
        (live_before_passage d (suc n) (passage_at plan (suc n)) (lawful_step (action_at plan (suc n)) (lawful_state d plan n)) live))
    | inr p ↦ rw p live
  ]

-- a plan that the table closes off is lawful
pub closed_lawful : {z : Layout} {plan : Plan} → WellFormed z plan → 1 ≤ z.depot
    → lawful_state z.depot plan z.aisles ≡ closed → LawfulFront z plan
closed_lawful {z} {plan} wf d end =
    record {
      well_formed = wf;
      front_even = front_even;
      back_even = back_even;
      together = accepted_together wf d end;
      depot_touched = accepted_depot wf d end;
    }
  where
    live : (i : ℕ) → i ≤ z.aisles → Live (lawful_state z.depot plan i)
    live i l = live_earlier z.depot plan z.aisles i l (subst Live (sym end) tt)

    front_even : (j : ℕ) → 1 ≤ j → j ≤ z.aisles → front_degree (multiplicity plan) j % 2 ≡ 0
    front_even zero l h = absurd (omega arith)
    front_even (suc i) l h = front_crossing_even z.depot plan i (live (suc i) h)

    back_even : (j : ℕ) → 1 ≤ j → j ≤ z.aisles → back_degree z (multiplicity plan) j % 2 ≡ 0
    back_even zero l h = absurd (omega arith)
    back_even (suc i) l h = back_crossing_even z.depot plan i (live (suc i) h) z

-- the table closes off a plan of the store just when it is lawful
pub closed_iff_lawful : {z : Layout} {plan : Plan} → WellFormed z plan → 1 ≤ z.depot
    → (lawful_state z.depot plan z.aisles ≡ closed) ↔ LawfulFront z plan
closed_iff_lawful wf d = (closed_lawful wf d, lawful_closed)
