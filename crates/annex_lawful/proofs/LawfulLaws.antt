-- The tests of lawfulness together say what `Lawful` says.
use Prim.Native.Nat.{◌+◌, ◌*◌, ◌≤◌, ◌<◌}
use native.Mathlib.Omega.{arith}
use mathlib.Core.Path.{◌≡◌, refl, sym, ap, ◌∙◌, subst}
use mathlib.Core.Logic.{◌⊎◌, inl, inr, ◌↔◌}
use mathlib.Core.List.{List, [], ◌∷◌}
use lib.ListN.{length}
use Rattle.rules.specs.declared.Layout.{Layout}
use Rattle.rules.specs.declared.OrderLine.{OrderLine}
use Rattle.rules.specs.Store.{Edge, InStore, depot_point}
use Rattle.rules.specs.Plans.{multiplicity, plan_length}
use Rattle.rules.specs.Lawful.{Lawful, LawfulFor, TreadsNothing}
use Rattle.rules.proofs.EmptyPlan.{empty_alone, empty_treads_nothing, one_empty_plan, empty_length}
use Rattle.rules.proofs.Admission.{layout_within}
use Rattle.closedwalks.specs.Ways.{PointOf, Joined}
use Rattle.closedwalks.proofs.Degrees.{depot_point_lem}
use Rattle.closedwalks.proofs.Links.{Covers, joined_same, joined_together}
use Rattle.closedwalks.proofs.Walked.{lawful_joined}
use Rattle.flood.specs.Flooded.{AllReached, Ranged}
use Rattle.flood.specs.Points.{depot_number}
use Rattle.treads.specs.Treads.{spot, left_of}
use Rattle.treads.proofs.Places.{charted_range, spot_range}
use Rattle.treads.proofs.Reaching.{reached_joined}
use Rattle.treads.proofs.Filled.{plan_list, plan_charted, plan_treads}
use Rattle.values.specs.declared.PlanValue.{PlanValue}
use Rattle.values.specs.Values.{plan_of}
use Rattle.annex_plans.specs.OfStore.{PlanFor}
use Rattle.annex_plans.proofs.Ranges.{plan_range}
use Rattle.annex_lawful.specs.Crossings.{EvenTo, depot_degree}
use Rattle.annex_lawful.proofs.Crossings.{touched_depot}

module _ (z : Layout) (plan : PlanValue) (p : PlanFor z plan) where
  -- the bounds of the store: aisles, cells, the depot's aisle
  wide : z.aisles ≤ 16
  wide = (plan_range z plan p).0

  deep : z.cells ≤ 24
  deep = (plan_range z plan p).1

  low : 1 ≤ z.depot
  low = (plan_range z plan p).2

  high : z.depot ≤ z.aisles
  high = (plan_range z plan p).3

  -- the list has the plan's treads
  agrees : (e : Edge) → InStore z e → left_of z (plan_list z plan) e ≡ multiplicity (plan_of plan) e
  agrees e i = plan_treads z wide deep plan p.aisles e i

  -- they lie at the numbers of the store
  pub treads_ranged : Ranged (plan_list z plan) (26 * (z.aisles + 1))
  treads_ranged = charted_range z wide deep (plan_list z plan) (plan_charted z wide deep plan p.aisles)

  -- the depot is a point of the store
  depot_inside : PointOf z (depot_point z)
  depot_inside = depot_point_lem z low high

  -- the depot's number is that of a point
  pub depot_below : depot_number z < 442
  unfolding spot depot_number
  depot_below = (spot_range z wide deep (depot_point z) depot_inside).2

  -- all that is trodden can be reached by the numbers exactly if it can be reached from the depot
  pub reached_together : AllReached (plan_list z plan) (depot_number z) ↔ Joined z (multiplicity (plan_of plan)) (depot_point z)
  unfolding spot depot_number
  reached_together =
      let left = left_of z (plan_list z plan) in
      let treads = multiplicity (plan_of plan) in
      let r = reached_joined z wide deep (plan_list z plan) (plan_charted z wide deep plan p.aisles) (depot_point z) depot_inside in
      let to : Covers z left treads = λ e i h. omega (arith, agrees e i, h) in
      let fro : Covers z treads left = λ e i h. omega (arith, agrees e i, h) in
      (λ a. joined_same z left treads (depot_point z) to fro (r.0 a), λ a. r.1 (joined_same z treads left (depot_point z) fro to a))

  -- a plan that passes the three tests is lawful
  pub tests_lawful : EvenTo z (plan_of plan) z.aisles → 0 < depot_degree z (multiplicity (plan_of plan)) → Joined z (multiplicity (plan_of plan)) (depot_point z) → Lawful z (plan_of plan)
  tests_lawful e d j =
      record {
        well_formed = p.well_formed;
        front_even = e.front;
        back_even = e.back;
        together = λ x y. joined_together z (multiplicity (plan_of plan)) (depot_point z) j x y;
        depot_touched = (touched_depot z (plan_of plan) p.well_formed low high).1 d;
      }

  -- a lawful plan is even at each crossing
  pub lawful_even : Lawful z (plan_of plan) → EvenTo z (plan_of plan) z.aisles
  lawful_even l = record { front = l.front_even; back = l.back_even }

  -- it treads the depot's crossing
  pub lawful_depot : Lawful z (plan_of plan) → 0 < depot_degree z (multiplicity (plan_of plan))
  lawful_depot l = (touched_depot z (plan_of plan) p.well_formed low high).0 l.depot_touched

  -- all that it treads can be reached from the depot
  pub lawful_together : Lawful z (plan_of plan) → Joined z (multiplicity (plan_of plan)) (depot_point z)
  lawful_together l = lawful_joined z (plan_of plan) (inl l)

  -- a plan of length 0 treads nothing
  idle_length : plan_length z (plan_of plan) ≡ 0 → TreadsNothing z (plan_of plan)
  idle_length e =
      let empty = empty_alone z ((layout_within z).0 p.bounds) (plan_of plan) p.well_formed e in
      subst (TreadsNothing z) (sym empty) (empty_treads_nothing z (omega (arith, low, high)))

  -- a plan that treads nothing has length 0
  length_idle : TreadsNothing z (plan_of plan) → plan_length z (plan_of plan) ≡ 0
  length_idle t = ap (plan_length z) (one_empty_plan z (plan_of plan) t) ∙ empty_length z

  -- it is lawful for an empty list
  pub idle_lawful : (lines : List OrderLine) → length lines ≡ 0 → plan_length z (plan_of plan) ≡ 0 → LawfulFor z lines (plan_of plan)
  idle_lawful [] e h = inr (idle_length h)
  idle_lawful (l ∷ lines) e h = absurd (omega arith)

  -- else lawful for a list is lawful
  pub lawful_other : (lines : List OrderLine) → ((length lines ≡ 0) × (plan_length z (plan_of plan) ≡ 0) → ⊥) → Lawful z (plan_of plan) ↔ LawfulFor z lines (plan_of plan)
  lawful_other [] ne = (inl, go)
    where
      go : Lawful z (plan_of plan) ⊎ TreadsNothing z (plan_of plan) → Lawful z (plan_of plan)
      go (inl l) = l
      go (inr t) = absurd (ne (refl, length_idle t))
  lawful_other (l ∷ lines) ne = (λ x. x, λ x. x)
