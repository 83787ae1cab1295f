-- Crossings and their treads: even at each of the first n aisles; a point touches a trodden edge exactly if it has treads.
use Prim.Native.Nat.{ℕ, ◌+◌, ◌%◌, ◌≤◌, ◌<◌}
use native.Mathlib.Omega.{arith}
use mathlib.Core.Path.{◌≡◌, refl, sym, ap, subst}
use mathlib.Core.Logic.{◌⊎◌, inl, inr, ◌↔◌}
use mathlib.Core.Bool.{Bool, true, false, cond}
use Rattle.rules.specs.declared.Direction.{Direction}
use Rattle.rules.specs.declared.Direction.TheVariants.{Back, Front, Left, Right}
use Rattle.rules.specs.declared.Layout.{Layout}
use Rattle.rules.specs.declared.Side.{Side}
use Rattle.rules.specs.declared.Side.TheVariants.{FrontSide, BackSide}
use Rattle.rules.specs.Store.{Point, Edge, start_of, end_of, Joins, side_of, height_at, depot_point}
use Rattle.rules.specs.Plans.{Plan, WellFormed, multiplicity}
use Rattle.rules.specs.Lawful.{Trodden, Touched, front_degree, back_degree}
use Rattle.rules.specs.Walks.{can_step, step_to, step_edge}
use Rattle.closedwalks.specs.Ways.{PointOf, share, degree}
use Rattle.closedwalks.proofs.Splits.{none_or_some, equal_or_below}
use Rattle.closedwalks.proofs.Steps.{step_along, stepped}
use Rattle.closedwalks.proofs.Parity.{degree_at}
use Rattle.closedwalks.proofs.Degrees.{depot_point_lem, plan_front, plan_back}
use Rattle.annex_lawful.specs.Crossings.{EvenTo, side_degree, depot_degree}

module _ (z : Layout) (plan : Plan) where
  -- before the first aisle
  pub even_none : EvenTo z plan 0
  even_none = record { front = λ j l h. absurd (omega arith); back = λ j l h. absurd (omega arith) }

  -- one more aisle
  pub even_more : (n : ℕ) → EvenTo z plan n → front_degree (multiplicity plan) (n + 1) % 2 ≡ 0 → back_degree z (multiplicity plan) (n + 1) % 2 ≡ 0 → EvenTo z plan (n + 1)
  even_more n e f b =
      record {
        front = λ j l k. go (λ i. front_degree (multiplicity plan) i % 2 ≡ 0) (e.front j l) f (equal_or_below j (n + 1) k);
        back = λ j l k. go (λ i. back_degree z (multiplicity plan) i % 2 ≡ 0) (e.back j l) b (equal_or_below j (n + 1) k);
      }
    where
      go : (P : ℕ → Type 0) {j : ℕ} → (j ≤ n → P j) → P (n + 1) → (j ≡ n + 1) ⊎ (j < n + 1) → P j
      go P f p (inl e) = subst P (sym e) p
      go P f p (inr l) = f (omega arith)

-- any point of the store
module _ (z : Layout) (treads : Edge → ℕ) (x : Point) (inside : PointOf z x) where
  -- a trodden edge counts in the degrees of its ends
  touched_degree : Touched z treads x → 0 < degree z treads x
  unfolding Touched Trodden Joins
  touched_degree (e, t, at) = go at
    where
      counted : (y : Point) → Joins z e x y → 0 < degree z treads x
      counted y j = let s = step_along z e x y t.0 j in omega (arith, t.1, ap treads s.by, degree_at z treads x s.letter s.can)

      go : (x ≡ start_of z e) ⊎ (x ≡ end_of z e) → 0 < degree z treads x
      go (inl p) = counted (end_of z e) (inl (p, refl))
      go (inr p) = counted (start_of z e) (inr (refl, p))

  -- what counts in the degree is the treads of an edge there
  share_touched : (d : Direction) → 0 < share z treads x d → Touched z treads x
  unfolding Touched Trodden Joins
  share_touched d h = go (can_step z x d) refl h
    where
      end : Joins z (step_edge x d) x (step_to x d) → (x ≡ start_of z (step_edge x d)) ⊎ (x ≡ end_of z (step_edge x d))
      end (inl j) = inl j.0
      end (inr j) = inr j.1

      go : (b : Bool) → can_step z x d ≡ b → 0 < cond b (treads (step_edge x d)) 0 → Touched z treads x
      go true c l = let s = stepped z x inside d c in (step_edge x d, (s.edge, l), end s.joins)
      go false c l = absurd (omega arith)

  -- so a point with a degree touches one
  degree_touched : 0 < degree z treads x → Touched z treads x
  degree_touched h =
      elim (none_or_some (share z treads x Back)) [
        | inr b ↦ share_touched Back b
        | inl b ↦ elim (none_or_some (share z treads x Front)) [
          | inr f ↦ share_touched Front f
          | inl f ↦ elim (none_or_some (share z treads x Left)) [
            | inr l ↦ share_touched Left l
            | inl l ↦ share_touched Right (omega (arith, b, f, l, h))
          ]
        ]
      ]

-- the depot's crossing
module _ (z : Layout) (plan : Plan) (wf : WellFormed z plan) (low : 1 ≤ z.depot) (high : z.depot ≤ z.aisles) where
  -- its treads are the degree of its point, whichever its side
  depot_degree_lem : degree z (multiplicity plan) (depot_point z) ≡ depot_degree z (multiplicity plan)
  unfolding depot_point
  depot_degree_lem = at (side_of z)
    where
      at : (side : Side) → degree z (multiplicity plan) (record { aisle = z.depot; height = height_at side z.cells }) ≡ side_degree side z (multiplicity plan) z.depot
      at FrontSide = plan_front z plan wf z.depot low high
      at BackSide = plan_back z plan wf z.depot low high

  -- so it says whether the depot is touched
  pub touched_depot : Touched z (multiplicity plan) (depot_point z) ↔ (0 < depot_degree z (multiplicity plan))
  touched_depot =
      let inside = depot_point_lem z low high in (
        λ t. omega (arith, depot_degree_lem, touched_degree z (multiplicity plan) (depot_point z) inside t),
        λ h. degree_touched z (multiplicity plan) (depot_point z) inside (omega (arith, depot_degree_lem, h)),
      )
