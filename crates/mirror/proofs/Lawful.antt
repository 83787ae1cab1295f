-- A lawful plan turned front to back is lawful with the depot at the turned point, in every store with the same points and edges.
use Prim.Native.Nat.{ℕ, suc, ◌-◌, ◌≤◌}
use mathlib.Core.Path.{◌≡◌, refl, sym, ◌∙◌, ap, ap₂, subst₂}
use mathlib.Core.Logic.{◌⊎◌, inl, inr, ◌↔◌}
use native.Mathlib.Omega.{arith}
use Rattle.rules.specs.declared.Layout.{Layout}
use Rattle.rules.specs.declared.Side.{Side}
use Rattle.rules.specs.declared.Side.TheVariants.{FrontSide, BackSide}
use Rattle.rules.specs.Store.{side_of, height_at, depot_point, Point, Edge, along, front, back, start_of, end_of, back_height, Joins, InStore}
use Rattle.rules.specs.Plans.{Plan, WellFormed, multiplicity}
use Rattle.rules.specs.Lawful.{front_degree, back_degree, Trodden, Touched, Linked, here, step, Lawful}
use Rattle.rules.specs.Turned.{turned_plan, plan_from, seen_plan}
use Rattle.rules.specs.Lawful.{LawfulAt}
use Rattle.mirror.specs.Turned.{turned_point, turned_edge, SameGrid}
use Rattle.mirror.proofs.Plans.{turned_treads, turned_front_edge, turned_back_edge, turned_well_formed, plan_twice}

-- points by their parts
pub point_is : {x y : Point} → x.aisle ≡ y.aisle → x.height ≡ y.height → x ≡ y
point_is p q = ap₂ (λ (j k : ℕ). record { aisle = j; height = k }) p q

module _ (z y : Layout) (grid : SameGrid z y) where
  -- the turned store has the turned edges, the same way round on the cross-aisles, the other way round in the aisles
  pub turned_in : (e : Edge) → InStore z e → InStore y (turned_edge z.cells e)
  unfolding InStore
  turned_in (along j k) (a, b, c) = (a, omega (arith, grid.aisles), omega (arith, grid.cells))
  turned_in (front j) (a, b) = (a, omega (arith, grid.aisles))
  turned_in (back j) (a, b) = (a, omega (arith, grid.aisles))

  -- the two ends of a turned edge are the turned ends
  data Ends (e : Edge) : Type 0 where
    kept : start_of y (turned_edge z.cells e) ≡ turned_point z.cells (start_of z e) → end_of y (turned_edge z.cells e) ≡ turned_point z.cells (end_of z e) → Ends e
    exchanged : start_of y (turned_edge z.cells e) ≡ turned_point z.cells (end_of z e) → end_of y (turned_edge z.cells e) ≡ turned_point z.cells (start_of z e) → Ends e

  ends : (e : Edge) → InStore z e → Ends e
  unfolding start_of end_of back_height InStore
  ends (along j k) i = exchanged (point_is refl (omega arith)) (point_is refl (omega arith))
  ends (front j) i = kept (point_is refl (omega (arith, grid.cells))) (point_is refl (omega (arith, grid.cells)))
  ends (back j) i = kept (point_is refl (omega arith)) (point_is refl (omega arith))

  turned_joins : (e : Edge) → InStore z e → (x w : Point) → Joins z e x w → Joins y (turned_edge z.cells e) (turned_point z.cells x) (turned_point z.cells w)
  unfolding Joins
  turned_joins e i x w j = go (ends e i) j
    where
      turn : {u v : Point} → u ≡ v → turned_point z.cells u ≡ turned_point z.cells v
      turn q = ap (turned_point z.cells) q

      go : Ends e → ((x ≡ start_of z e) × (w ≡ end_of z e)) ⊎ ((w ≡ start_of z e) × (x ≡ end_of z e))
          → ((turned_point z.cells x ≡ start_of y (turned_edge z.cells e)) × (turned_point z.cells w ≡ end_of y (turned_edge z.cells e)))
          ⊎ ((turned_point z.cells w ≡ start_of y (turned_edge z.cells e)) × (turned_point z.cells x ≡ end_of y (turned_edge z.cells e)))
      go (kept p q) (inl (a, b)) = inl (turn a ∙ sym p, turn b ∙ sym q)
      go (kept p q) (inr (a, b)) = inr (turn a ∙ sym p, turn b ∙ sym q)
      go (exchanged p q) (inl (a, b)) = inr (turn b ∙ sym p, turn a ∙ sym q)
      go (exchanged p q) (inr (a, b)) = inl (turn b ∙ sym p, turn a ∙ sym q)

  module _ (t u : Edge → ℕ) (same : (e : Edge) → InStore z e → u (turned_edge z.cells e) ≡ t e) where
    turned_trodden : (e : Edge) → Trodden z t e → Trodden y u (turned_edge z.cells e)
    unfolding Trodden
    turned_trodden e (i, p) = (turned_in e i, omega (arith, same e i))

    turned_touched : (x : Point) → Touched z t x → Touched y u (turned_point z.cells x)
    unfolding Touched Trodden
    turned_touched x (e, h, at) = (turned_edge z.cells e, turned_trodden e h, go (ends e h.0) at)
      where
        go : Ends e → (x ≡ start_of z e) ⊎ (x ≡ end_of z e) → (turned_point z.cells x ≡ start_of y (turned_edge z.cells e)) ⊎ (turned_point z.cells x ≡ end_of y (turned_edge z.cells e))
        go (kept p q) (inl a) = inl (ap (turned_point z.cells) a ∙ sym p)
        go (kept p q) (inr a) = inr (ap (turned_point z.cells) a ∙ sym q)
        go (exchanged p q) (inl a) = inr (ap (turned_point z.cells) a ∙ sym q)
        go (exchanged p q) (inr a) = inl (ap (turned_point z.cells) a ∙ sym p)

    turned_linked : {w x : Point} → Linked z t w x → Linked y u (turned_point z.cells w) (turned_point z.cells x)
    unfolding Trodden
    turned_linked here = here
    turned_linked (step {x} {w} e h j rest) = step (turned_edge z.cells e) (turned_trodden e h) (turned_joins e h.0 x w j) (turned_linked rest)

-- a touched point is one of the store's, so that turning it twice changes nothing
touched_height : (z : Layout) (t : Edge → ℕ) (x : Point) → Touched z t x → x.height ≤ suc z.cells
unfolding Touched Trodden InStore start_of end_of back_height
touched_height z t x (along j k, (i, p), inl a) = omega (arith, ap (λ (w : Point). w.height) a)
touched_height z t x (along j k, (i, p), inr a) = omega (arith, ap (λ (w : Point). w.height) a)
touched_height z t x (front j, (i, p), inl a) = omega (arith, ap (λ (w : Point). w.height) a)
touched_height z t x (front j, (i, p), inr a) = omega (arith, ap (λ (w : Point). w.height) a)
touched_height z t x (back j, (i, p), inl a) = omega (arith, ap (λ (w : Point). w.height) a)
touched_height z t x (back j, (i, p), inr a) = omega (arith, ap (λ (w : Point). w.height) a)

point_twice : (cells : ℕ) (x : Point) → x.height ≤ suc cells → turned_point cells (turned_point cells x) ≡ x
point_twice cells x h = point_is refl (omega arith)

module _ (z y : Layout) (grid : SameGrid z y) where
  -- seen from there, this is the other store
  pub back_grid : SameGrid y z
  back_grid = record { cells = sym grid.cells; aisles = sym grid.aisles }

  module _ (plan : Plan) (wf : WellFormed z plan) where
    -- each edge is trodden as often as before it was turned
    turned_multiplicity : (e : Edge) → InStore z e → multiplicity (turned_plan z.cells plan) (turned_edge z.cells e) ≡ multiplicity plan e
    unfolding InStore
    turned_multiplicity (along j k) i = turned_treads z.cells plan wf.fits j k i.2
    turned_multiplicity (front j) i = turned_back_edge z.cells plan j
    turned_multiplicity (back j) i = turned_front_edge z.cells plan j

    turned_front_degree : (j : ℕ) → front_degree (multiplicity (turned_plan z.cells plan)) j ≡ back_degree z (multiplicity plan) j
    unfolding front_degree back_degree
    turned_front_degree j =
        let c = z.cells in
        let a = turned_treads c plan wf.fits j c (omega arith) in
        let n : c - c ≡ 0 = omega arith in
        omega (arith, rw n at a, turned_front_edge c plan (j - 1), turned_front_edge c plan j)

    turned_back_degree : (j : ℕ) → back_degree y (multiplicity (turned_plan z.cells plan)) j ≡ front_degree (multiplicity plan) j
    unfolding front_degree back_degree
    turned_back_degree j =
        let c = z.cells in
        let a = turned_treads c plan wf.fits j 0 (omega arith) in
        let n : c - 0 ≡ c = omega arith in
        rw grid.cells (omega (arith, rw n at a, turned_back_edge c plan (j - 1), turned_back_edge c plan j))

module _ (z y : Layout) (grid : SameGrid z y) where
  -- turned back, each edge is trodden as often
  pub back_multiplicity : (plan : Plan) → WellFormed z plan → (e : Edge) → InStore y e → multiplicity plan (turned_edge y.cells e) ≡ multiplicity (turned_plan z.cells plan) e
  back_multiplicity plan wf e i =
      let turned = turned_plan z.cells plan in
      let again : turned_plan y.cells turned ≡ plan = rw grid.cells (plan_twice z plan wf) in
      ap (λ (p : Plan). multiplicity p (turned_edge y.cells e)) (sym again)
      ∙ turned_multiplicity y z (back_grid z y grid) turned (turned_well_formed plan grid wf) e i

  -- lawful from the one side, turned it is lawful from the other
  pub turned_lawful : (depot : Point) (plan : Plan) → LawfulAt depot z plan → LawfulAt (turned_point z.cells depot) y (turned_plan z.cells plan)
  turned_lawful depot plan law =
      record {
        well_formed = turned_well_formed plan grid wf;
        front_even = λ j low high. rw (turned_front_degree z y grid plan wf j) (law.back_even j low (omega (arith, grid.aisles)));
        back_even = λ j low high. rw (turned_back_degree z y grid plan wf j) (law.front_even j low (omega (arith, grid.aisles)));
        together = together;
        depot_touched = turned_touched z y grid (multiplicity plan) (multiplicity turned) (turned_multiplicity z y grid plan wf) depot law.depot_touched;
      }
    where
      wf : WellFormed z plan
      wf = law.well_formed

      turned : Plan
      turned = turned_plan z.cells plan

      again : (v : Point) → v.height ≤ suc y.cells → turned_point z.cells (turned_point y.cells v) ≡ v
      again v h = rw (← grid.cells) (point_twice y.cells v h)

      together : (x w : Point) → Touched y (multiplicity turned) x → Touched y (multiplicity turned) w → Linked y (multiplicity turned) w x
      together x w s t =
          let to : (v : Point) → Touched y (multiplicity turned) v → Touched z (multiplicity plan) (turned_point y.cells v) = turned_touched y z (back_grid z y grid) (multiplicity turned) (multiplicity plan) (back_multiplicity plan wf) in
          let link = turned_linked z y grid (multiplicity plan) (multiplicity turned) (turned_multiplicity z y grid plan wf) (law.together (turned_point y.cells x) (turned_point y.cells w) (to x s) (to w t)) in
          subst₂ (Linked y (multiplicity turned)) (again w (touched_height y (multiplicity turned) w t)) (again x (touched_height y (multiplicity turned) x s)) link

-- and conversely
lawful_turned : (z y : Layout) → SameGrid z y → (depot : Point) → depot.height ≤ suc z.cells → (plan : Plan) → WellFormed z plan
    → LawfulAt depot z plan ↔ LawfulAt (turned_point z.cells depot) y (turned_plan z.cells plan)
lawful_turned z y grid depot low plan wf = (turned_lawful z y grid depot plan, back)
  where
    back : LawfulAt (turned_point z.cells depot) y (turned_plan z.cells plan) → LawfulAt depot z plan
    back law =
        let again = turned_lawful y z (back_grid z y grid) (turned_point z.cells depot) (turned_plan z.cells plan) law in
        rw (grid.cells, point_twice z.cells depot low, plan_twice z plan wf) at again

-- a plan is lawful just when it is lawful as it is seen from the depot's side, with the depot at the front
pub lawful_seen : (z : Layout) (plan : Plan) → WellFormed z plan → LawfulAt (record { aisle = z.depot; height = 0 }) z (seen_plan z plan) ↔ Lawful z plan
unfolding depot_point
lawful_seen z plan wf = go (side_of z)
  where
    go : (side : Side) → LawfulAt (record { aisle = z.depot; height = 0 }) z (plan_from side z.cells plan) ↔ LawfulAt (record { aisle = z.depot; height = height_at side z.cells }) z plan
    go FrontSide = ((λ h. h), (λ h. h))
    go BackSide =
        let t = lawful_turned z z (record { cells = refl; aisles = refl }) (record { aisle = z.depot; height = suc z.cells }) (omega arith) plan wf in
        let e : suc z.cells - suc z.cells ≡ 0 = omega arith in
        ((λ h. t.1 (rw e h)), (λ h. rw (← e) (t.0 h)))
