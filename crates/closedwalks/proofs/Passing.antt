-- Passed cells: those next to a trodden edge, for plans and walks alike.
use Prim.Native.Nat.{ℕ, ◌+◌, ◌-◌, ◌≤◌, ◌<◌}
use native.Mathlib.Omega.{arith}
use mathlib.Core.Path.{◌≡◌, refl, sym, ap, subst}
use mathlib.Core.Logic.{◌⊎◌, inl, inr}
use mathlib.Core.List.{[], ◌∷◌}
use mathlib.Core.Bool.{Bool, true, false, cond, ◌||◌}
use lib.Dec.{ltb, leb}
use borrow.Author.Tests.{leb-true, lt-ltb, le-ltb, le-leb, lt-leb}
use Rattle.rules.specs.declared.Layout.{Layout}
use Rattle.rules.specs.declared.Action.{Action}
use Rattle.rules.specs.declared.Action.TheVariants.{Void, Bottom, Top, Gap, Once, Twice}
use Rattle.rules.specs.Lists.{any_of}
use Rattle.rules.specs.Store.{Point, along, InStore, depot_point, same_point}
use Rattle.rules.specs.Plans.{Plan, multiplicity, action_at, aisle_treads, passes_cell, plan_passes}
use Rattle.rules.specs.Walks.{Walk, step_to, step_edge, one, walk_points, walk_passes}
use Rattle.closedwalks.specs.Ways.{PointOf, degree, same, Leads, treads_from, On}
use Rattle.closedwalks.proofs.Splits.{below_or_from}
use Rattle.closedwalks.proofs.Steps.{same_refl, Stepped, stepped}
use Rattle.rules.proofs.WalkOrder.{same_point_lem, point_same}
use Rattle.closedwalks.proofs.Parity.{degree_add, degree_step}
use Rattle.closedwalks.proofs.Degrees.{depot_point_lem, depot_no_cell, degree_cell}
use Rattle.closedwalks.proofs.Walked.{closed_leads, of_walk}
use Rattle.rules.specs.FirstWalk.{WalkOf}
use Rattle.closedwalks.proofs.Euler.{degree_on}

or-true : (a b : Bool) → (a || b) ≡ true → (a ≡ true) ⊎ (b ≡ true)
or-true true b h = inl h
or-true false b h = inr h

-- the cells next to a trodden edge are passed
pub trodden_passes : (a : Action) (c : ℕ) → 1 ≤ c → 0 < aisle_treads a (c - 1) + aisle_treads a c → passes_cell a c ≡ true
trodden_passes Void c h t = absurd (omega arith)
trodden_passes (Bottom i) c h t =
    elim (below_or_from i c) [
      | inl l ↦ absurd (let none : aisle_treads (Bottom i) (c - 1) + aisle_treads (Bottom i) c ≡ 0 = rw (le-ltb (c - 1) i (omega arith), le-ltb c i (omega arith)) in omega arith)
      | inr l ↦ le-leb c i l
    ]
trodden_passes (Top i) c h t =
    elim (below_or_from c i) [
      | inl l ↦ absurd (let none : aisle_treads (Top i) (c - 1) + aisle_treads (Top i) c ≡ 0 = rw (lt-leb i (c - 1) (omega arith), lt-leb i c l) in omega arith)
      | inr l ↦ le-leb i c l
    ]
trodden_passes (Gap g i) c h t =
    elim (below_or_from g c) [
      | inl l ↦ elim (below_or_from c i) [
        | inl m ↦ absurd
            (let none : aisle_treads (Gap g i) (c - 1) + aisle_treads (Gap g i) c ≡ 0 = rw (le-ltb (c - 1) g (omega arith), lt-leb i (c - 1) (omega arith), le-ltb c g (omega arith), lt-leb i c m) in omega arith)
        | inr m ↦ rw (lt-leb c g l) (le-leb i c m)
      ]
      | inr l ↦ rw (le-leb c g l)
    ]
trodden_passes Once c h t = refl
trodden_passes Twice c h t = refl

true_or : (a b : Bool) → b ≡ true → (a || b) ≡ true
true_or true b h = refl
true_or false b h = h

doubled : (b : Bool) → b ≡ true → 0 < cond {A = ℕ} b 2 0
doubled b h = rw h (omega arith)

-- and a passed cell has a trodden edge next to it
passes_trodden : (a : Action) (c : ℕ) → 1 ≤ c → passes_cell a c ≡ true → 0 < aisle_treads a (c - 1) + aisle_treads a c
passes_trodden Void c h p = absurd (let bad : ◌≡◌ {A = ℕ} 0 1 = cc in omega arith)
passes_trodden (Bottom i) c h p = let l = leb-true c i p in omega (arith, doubled (ltb (c - 1) i) (lt-ltb (c - 1) i (omega arith)))
passes_trodden (Top i) c h p = omega (arith, doubled (leb i c) p)
passes_trodden (Gap g i) c h p =
    elim (or-true (leb c g) (leb i c) p) [
      | inl t ↦ let l = leb-true c g t in omega (arith, doubled (ltb (c - 1) g || leb i (c - 1)) (ap (λ (b : Bool). b || leb i (c - 1)) (lt-ltb (c - 1) g (omega arith))))
      | inr t ↦ omega (arith, doubled (ltb c g || leb i c) (true_or (ltb c g) (leb i c) t))
    ]
passes_trodden Once c h p = omega arith
passes_trodden Twice c h p = omega arith

same_test : (a b : Bool) → (a ≡ true → b ≡ true) → (b ≡ true → a ≡ true) → a ≡ b
same_test true b f g = sym (f refl)
same_test false true f g = g refl
same_test false false f g = refl

module _ (z : Layout) where
  -- a point where a step ends is of the store, and has a trodden edge
  pub passed_touched : (p x : Point) (walk : Walk) (y : Point) → PointOf z x → Leads z x walk y → any_of (same_point p) (walk_points x walk) ≡ true
      → PointOf z p × (0 < degree z (treads_from x walk) p)
  passed_touched p x [] y o l h = absurd (let bad : ◌≡◌ {A = ℕ} 0 1 = cc in omega arith)
  passed_touched p x (d ∷ walk) y o l h =
      go (or-true (same_point p (step_to x d)) (any_of (same_point p) (walk_points (step_to x d) walk)) h) (passed_touched p (step_to x d) walk y s.end l.1)
    where
      s : Stepped z x d
      s = stepped z x o d l.0

      more : degree z (treads_from x (d ∷ walk)) p ≡ same p x + same p (step_to x d) + degree z (treads_from (step_to x d) walk) p
      more = omega (arith, degree_add z (λ e. one e (step_edge x d)) (treads_from (step_to x d) walk) p, degree_step z x o d l.0 p)

      go : (same_point p (step_to x d) ≡ true) ⊎ (any_of (same_point p) (walk_points (step_to x d) walk) ≡ true)
          → (any_of (same_point p) (walk_points (step_to x d) walk) ≡ true → PointOf z p × (0 < degree z (treads_from (step_to x d) walk) p))
          → PointOf z p × (0 < degree z (treads_from x (d ∷ walk)) p)
      go (inl t) f = let e = same_point_lem p (step_to x d) t in (subst (PointOf z) (sym e) s.end, omega (arith, more, same_refl p, ap (same p) e))
      go (inr t) f = let u = f t in (u.0, omega (arith, more, u.1))

  -- a point of a walk other than its start is one where a step ends
  on_passed : (p x : Point) (walk : Walk) → (p ≡ x → ⊥) → On x walk p → any_of (same_point p) (walk_points x walk) ≡ true
  on_passed p x [] n o = absurd (n o)
  on_passed p x (d ∷ walk) n (inl e) = absurd (n e)
  on_passed p x (d ∷ walk) n (inr o) = go (same_point p (step_to x d)) refl (λ m. on_passed p (step_to x d) walk m o)
    where
      go : (b : Bool) → same_point p (step_to x d) ≡ b → ((p ≡ step_to x d → ⊥) → any_of (same_point p) (walk_points (step_to x d) walk) ≡ true) → (b || any_of (same_point p) (walk_points (step_to x d) walk)) ≡ true
      go true e f = refl
      go false e f = f (λ q. let bad : ◌≡◌ {A = ℕ} 0 1 = cc (point_same p (step_to x d) q) in omega arith)

  -- a walk of a plan passes the cells that the plan passes, and no others
  pub walk_passes_lem : 1 ≤ z.depot → z.depot ≤ z.aisles → (plan : Plan) (walk : Walk) → WalkOf z plan walk
      → (j c : ℕ) → 1 ≤ j → j ≤ z.aisles → 1 ≤ c → c ≤ z.cells → walk_passes z walk j c ≡ plan_passes plan j c
  unfolding walk_passes plan_passes multiplicity InStore
  walk_passes_lem low high plan walk w j c p q u v =
      let cell : Point = record { aisle = j; height = c } in
      let at = depot_point_lem z low high in
      let leads = closed_leads z walk w.is_closed_lem in
      let treads = treads_from (depot_point z) walk in
      let near = of_walk z plan walk w (along j (c - 1)) (p, q, omega arith) in
      let far = of_walk z plan walk w (along j c) (p, q, v) in
      let sum = degree_cell z treads j c u v in
      same_test (walk_passes z walk j c) (plan_passes plan j c)
      (λ h. trodden_passes (action_at plan j) c u (omega (arith, sum, near, far, (passed_touched cell (depot_point z) walk (depot_point z) at leads h).1)))
      (λ h. on_passed cell (depot_point z) walk (λ e. depot_no_cell z c u v (ap (λ (p : Point). p.height) e))
      (degree_on z (depot_point z) walk (depot_point z) cell at leads (omega (arith, sum, near, far, passes_trodden (action_at plan j) c u h))))
