-- Every lawful plan is trodden by some closed walk; so is the plan that treads nothing, which is lawful for an empty list.
use Prim.Native.Nat.{ℕ, ◌-◌, ◌%◌, ◌≤◌}
use native.Mathlib.Omega.{arith}
use mathlib.Core.Path.{◌≡◌, refl, ◌∙◌, ap}
use mathlib.Core.Logic.{inl, inr}
use mathlib.Core.List.{[], ◌∷◌}
use mathlib.Core.Bool.{Bool, true, false, cond}
use mathlib.Core.Option.{Option, none, some, some-injective}
use Rattle.rules.specs.declared.Layout.{Layout}
use Rattle.rules.specs.declared.Direction.{Direction}
use Rattle.rules.specs.declared.Direction.TheVariants.{Back, Front, Left, Right}
use Rattle.rules.specs.Store.{Point, Edge, InStore, start_of, depot_point}
use Rattle.rules.specs.Plans.{Plan, WellFormed, multiplicity, action_at}
use Rattle.rules.specs.Lawful.{Trodden, Touched, Lawful, TreadsNothing, LawfulFor}
use Rattle.rules.specs.Walks.{Walk, can_step, step_to, step_edge, walk_end, ClosedWalk, walk_treads, times_in}
use Rattle.rules.specs.FirstWalk.{WalkOf}
use Rattle.rules.proofs.EmptyPlan.{one_empty_plan, empty_untrodden}
use Rattle.closedwalks.specs.Ways.{PointOf, share, degree, Balanced, Leads, treads_from, Joined}
use Rattle.closedwalks.proofs.Euler.{completed}
use Rattle.closedwalks.proofs.Degrees.{depot_point_lem, degree_cell, plan_front, plan_back, treads_alike, each_point}

module _ (z : Layout) where
  -- where a walk ends, said step by step
  end_leads : (x y : Point) (walk : Walk) → walk_end z x walk ≡ some y → Leads z x walk y
  end_leads x y [] h = some-injective x y h
  end_leads x y (d ∷ walk) h = go (can_step z x d) refl (end_leads (step_to x d) y walk) h
    where
      go : (b : Bool) → can_step z x d ≡ b → (walk_end z (step_to x d) walk ≡ some y → Leads z (step_to x d) walk y)
          → elim b as (λ c. Option Point) [ true ↦ walk_end z (step_to x d) walk | false ↦ none ] ≡ some y → (can_step z x d ≡ true) × Leads z (step_to x d) walk y
      go true c f e = (c, f e)
      go false c f e = absurd (let bad : ◌≡◌ {A = ℕ} 0 1 = cc in omega arith)

  leads_end : (x y : Point) (walk : Walk) → Leads z x walk y → walk_end z x walk ≡ some y
  leads_end x y [] l = ap some l
  leads_end x y (d ∷ walk) l = rw (l.0, walk_end) (leads_end (step_to x d) y walk l.1)

  pub closed_leads : (walk : Walk) → ClosedWalk z walk → Leads z (depot_point z) walk (depot_point z)
  unfolding ClosedWalk
  closed_leads walk c = end_leads (depot_point z) (depot_point z) walk c

  -- a closed walk with a plan's treads, said step by step
  pub walk_of : (plan : Plan) (walk : Walk) → Leads z (depot_point z) walk (depot_point z) → ((e : Edge) → InStore z e → treads_from (depot_point z) walk e ≡ multiplicity plan e) → WalkOf z plan walk
  unfolding ClosedWalk walk_treads times_in
  walk_of plan walk l t = record { is_closed_lem = leads_end (depot_point z) (depot_point z) walk l; treads = t }

  pub of_walk : (plan : Plan) (walk : Walk) → WalkOf z plan walk → (e : Edge) → InStore z e → treads_from (depot_point z) walk e ≡ multiplicity plan e
  unfolding walk_treads times_in
  of_walk plan walk w = w.treads

  module _ (plan : Plan) (law : Lawful z plan) where
    wf : WellFormed z plan
    wf = law.well_formed

    even_point : (p : Point) → PointOf z p → degree z (multiplicity plan) p % 2 ≡ 0
    even_point =
        each_point z (λ p. degree z (multiplicity plan) p % 2 ≡ 0)
        (λ j p q. rw (plan_front z plan wf j p q) (law.front_even j p q))
        (λ j c p q r s. rw (degree_cell z (multiplicity plan) j c r s) (unfold multiplicity in treads_alike (action_at plan j) (c - 1) c))
        (λ j p q. rw (plan_back z plan wf j p q) (law.back_even j p q))

    even_balanced : Balanced z (multiplicity plan) (depot_point z) (depot_point z)
    even_balanced p o = omega (arith, even_point p o)

    together_joined : Joined z (multiplicity plan) (depot_point z)
    unfolding Joined Touched
    together_joined e t = law.together (depot_point z) (start_of z e) law.depot_touched (e, t, inl refl)

  -- where nothing is trodden, no edge at any point is
  module _ (plan : Plan) (idle : TreadsNothing z plan) where
    no_tread : (e : Edge) → multiplicity plan e ≡ 0
    no_tread e = ap (λ p. multiplicity p e) (one_empty_plan z plan idle) ∙ empty_untrodden z e

    no_share : (x : Point) (d : Direction) → share z (multiplicity plan) x d ≡ 0
    no_share x d = go (can_step z x d)
      where
        go : (b : Bool) → cond b (multiplicity plan (step_edge x d)) 0 ≡ 0
        go true = no_tread (step_edge x d)
        go false = refl

    idle_balanced : Balanced z (multiplicity plan) (depot_point z) (depot_point z)
    idle_balanced p o = omega (arith, no_share p Back, no_share p Front, no_share p Left, no_share p Right)

    idle_joined : Joined z (multiplicity plan) (depot_point z)
    unfolding Joined Trodden
    idle_joined e t = absurd (omega (arith, no_tread e, t.1))

  -- a plan that is lawful for an empty list, as every lawful plan is
  module _ (plan : Plan) where
    pub lawful_balanced : LawfulFor z [] plan → Balanced z (multiplicity plan) (depot_point z) (depot_point z)
    lawful_balanced (inl law) = even_balanced plan law
    lawful_balanced (inr idle) = idle_balanced plan idle

    pub lawful_joined : LawfulFor z [] plan → Joined z (multiplicity plan) (depot_point z)
    lawful_joined (inl law) = together_joined plan law
    lawful_joined (inr idle) = idle_joined plan idle

    -- it has a closed walk with exactly its treads
    pub lawful_walked : LawfulFor z [] plan → 1 ≤ z.depot → z.depot ≤ z.aisles → (walk : Walk) × WalkOf z plan walk
    lawful_walked law p q =
        let t = completed z (multiplicity plan) (depot_point z) (depot_point z) (depot_point_lem z p q) (lawful_balanced law) (lawful_joined law) in
        (t.0, walk_of plan t.0 t.1 t.2)
