-- Treads of at most two that are even at every point, hang together with the depot and touch it read as a lawful plan.
use Prim.Native.Nat.{ℕ, zero, suc, ◌+◌, ◌-◌, ◌%◌, ◌≤◌, ◌<◌}
use native.Mathlib.Omega.{arith}
use mathlib.Core.Path.{◌≡◌, refl, sym, ap, ap₂, subst}
use mathlib.Core.Logic.{inl, inr}
use mathlib.Core.List.{List, [], ◌∷◌}
use lib.ListN.{length}
use Rattle.rules.specs.declared.Layout.{Layout}
use Rattle.rules.specs.declared.Action.{Action}
use Rattle.rules.specs.declared.Action.TheVariants.{Void}
use Rattle.rules.specs.declared.Passage.{Passage}
use Rattle.rules.specs.declared.Passage.TheVariants.{P00}
use Rattle.rules.specs.Lists.{nth}
use Rattle.rules.specs.Store.{Point, Edge, along, front, back, InStore, Joins, start_of, end_of, back_height, depot_point}
use Rattle.rules.specs.Plans.{Plan, WellFormed, Fits, multiplicity, action_at, passage_at, aisle_treads, back_treads, front_treads}
use Rattle.rules.specs.Lawful.{Trodden, Touched, Lawful}
use Rattle.closedwalks.specs.Ways.{PointOf, degree, Joined}
use Rattle.closedwalks.proofs.Splits.{none_or_some, below_or_from}
use Rattle.closedwalks.proofs.Parity.{degree_same}
use Rattle.closedwalks.proofs.Degrees.{depot_no_cell, degree_cell, plan_front, plan_back, nth_past}
use Rattle.closedwalks.proofs.Links.{Closed, linked_seen, link_turn, Covers, joined_same, joined_together}
use Rattle.closedwalks.proofs.Aisles.{Read, aisle_reads, passage_reads}

-- what the treads of a closed walk have
pub record Readable (z : Layout) (treads : Edge → ℕ) : Type 0 where
  pub few : (e : Edge) → InStore z e → treads e ≤ 2
  pub even : (p : Point) → PointOf z p → degree z treads p % 2 ≡ 0
  pub joined : Joined z treads (depot_point z)
  pub cut : (j : ℕ) → 1 ≤ j → j < z.aisles → (treads (front j) + treads (back j)) % 2 ≡ 0
  pub touched : Touched z treads (depot_point z)

-- one choice for each number from 1 to n, as a list
choices : {A : Type 0} (d : A) (n : ℕ) (P : ℕ → A → Type 0) → ((j : ℕ) → 1 ≤ j → j ≤ n → (x : A) × P j x)
    → (xs : List A) × (length xs ≡ n) × ((j : ℕ) → 1 ≤ j → j ≤ n → P j (nth xs j d))
choices d zero P f = ([], refl, λ j p q. absurd (omega arith))
choices {A} d (suc n) P f =
    let x = f 1 (omega arith) (omega arith) in
    let rest = choices d n (λ j. P (suc j)) (λ j p q. f (suc j) (omega arith) (omega arith)) in
    (x.0 ∷ rest.0, ap suc rest.1, at x rest)
  where
    at : (x : (x : A) × P 1 x) (rest : (xs : List A) × (length xs ≡ n) × ((j : ℕ) → 1 ≤ j → j ≤ n → P (suc j) (nth xs j d))) → (j : ℕ) → 1 ≤ j → j ≤ suc n → P j (nth (x.0 ∷ rest.0) j d)
    at x rest zero p q = absurd (omega arith)
    at x rest (suc zero) p q = x.1
    at x rest (suc (suc j)) p q = rest.2 (suc j) (omega arith) (omega arith)

-- beyond the store an aisle is void
fits_all : (cells : ℕ) (acts : List Action) → ((j : ℕ) → 1 ≤ j → j ≤ length acts → Fits cells (nth acts j Void)) → (j : ℕ) → Fits cells (nth acts j Void)
fits_all cells acts f j =
    elim (none_or_some j) [
      | inl e ↦ subst (λ (i : ℕ). Fits cells (nth acts i Void)) (sym e) tt
      | inr p ↦ elim (below_or_from (length acts) j) [ inl l ↦ rw (nth_past acts j Void l) tt | inr l ↦ f j p l ]
    ]

-- a point of the aisle j above the height h and not above i
abbrev Inside : ℕ → ℕ → ℕ → Point → Type 0
Inside j h i p = (p.aisle ≡ j) × (h < p.height) × (p.height ≤ i)

-- a part of an aisle between two untrodden edges can't be reached from outside
module _ (z : Layout) (t : Edge → ℕ) (j h i : ℕ) (inner : i ≤ z.cells) (low : t (along j h) ≡ 0) (high : t (along j i) ≡ 0) where
  apart : (a k n : ℕ) → a ≡ j → t (along j n) ≡ 0 → 0 < t (along a k) → k ≡ n → ⊥
  apart a k n e u s f = omega (arith, ap₂ (λ (x y : ℕ). t (along x y)) e f)

  stay : (e : Edge) → 0 < t e → (Inside j h i (start_of z e) → Inside j h i (end_of z e)) × (Inside j h i (end_of z e) → Inside j h i (start_of z e))
  unfolding start_of end_of back_height
  stay (along a k) s = (
    λ o. let (e, p, q) = o in let n = apart a k i e high s in (e, omega arith, omega arith),
    λ o. let (e, p, q) = o in let n = apart a k h e low s in (e, omega arith, omega arith),
  )
  stay (front a) s = (λ o. absurd (let p = o.1 in omega arith), λ o. absurd (let p = o.1 in omega arith))
  stay (back a) s = (λ o. absurd (let p = o.2 in omega arith), λ o. absurd (let p = o.2 in omega arith))

  island : Closed z t (Inside j h i)
  unfolding Trodden Joins
  island e x y u (inl k) o = subst (Inside j h i) (sym k.1) ((stay e u.1).0 (subst (Inside j h i) k.0 o))
  island e x y u (inr k) o = subst (Inside j h i) (sym k.0) ((stay e u.1).1 (subst (Inside j h i) k.1 o))

module _ (z : Layout) (t : Edge → ℕ) (r : Readable z t) where
  no_island : (j : ℕ) → 1 ≤ j → j ≤ z.aisles → (h k i : ℕ) → h < k → k < i → i ≤ z.cells → t (along j h) ≡ 0 → t (along j i) ≡ 0 → t (along j k) ≡ 0
  unfolding Joined Trodden InStore start_of
  no_island j p q h k i u v c f g =
      elim (none_or_some (t (along j k))) [
        | inl e ↦ e
        | inr s ↦
            let cell : Point = record { aisle = j; height = k } in
            let link = link_turn z t (depot_point z) cell (r.joined (along j k) ((p, q, omega arith), s)) in
            let inside = linked_seen z t (Inside j h i) (island z t j h i c f g) cell (depot_point z) link (refl, u, omega arith) in
            absurd (let low = inside.1 in let high = inside.2 in depot_no_cell z (depot_point z).height (omega arith) (omega arith) refl)
      ]

  aisle_read : (j : ℕ) → 1 ≤ j → j ≤ z.aisles → Read z.cells (λ k. t (along j k))
  unfolding InStore
  aisle_read j p q =
      aisle_reads z.cells (λ k. t (along j k)) (λ k h. r.few (along j k) (p, q, h))
      (λ c u v. rw (degree_cell z t j c u v) at (r.even (record { aisle = j; height = c }) (record { first = p; last = q; high = omega arith })))
      (no_island j p q)

  abbrev ReadPassage : ℕ → Passage → Type 0
  ReadPassage j p = (back_treads p ≡ t (back j)) × (front_treads p ≡ t (front j))

  passage_read : (j : ℕ) → 1 ≤ j → j < z.aisles → (p : Passage) × ReadPassage j p
  unfolding InStore
  passage_read j p q =
      let x = passage_reads (t (back j)) (t (front j)) (r.few (back j) (p, q)) (r.few (front j) (p, q)) (r.cut j p q) in
      (x.0, (x.1, x.2))

  -- a plan of the store with exactly these treads
  abbrev Reads : Type 0
  Reads = (plan : Plan) × WellFormed z plan × ((e : Edge) → InStore z e → multiplicity plan e ≡ t e)

  plan_of_lem : (acts : List Action) (pass : List Passage) → length acts ≡ z.aisles → suc (length pass) ≡ z.aisles
      → ((j : ℕ) → 1 ≤ j → j ≤ z.aisles → Fits z.cells (nth acts j Void) × ((k : ℕ) → k ≤ z.cells → aisle_treads (nth acts j Void) k ≡ t (along j k)))
      → ((j : ℕ) → 1 ≤ j → j < z.aisles → ReadPassage j (nth pass j P00)) → Reads
  unfolding multiplicity action_at passage_at InStore
  plan_of_lem acts pass m n f g = (plan, record { aisles = m; passages = n; fits = fits_all z.cells acts (λ j p q. (f j p (omega arith)).0) }, same)
    where
      plan : Plan
      plan = record { actions = acts; passages = pass }

      same : (e : Edge) → InStore z e → multiplicity plan e ≡ t e
      same (along j k) i = (f j i.0 i.1).1 k i.2
      same (front j) i = (g j i.0 i.1).1
      same (back j) i = (g j i.0 i.1).0

  plan_read : 1 ≤ z.aisles → Reads
  plan_read h =
      let acts = choices Void z.aisles (λ j a. Fits z.cells a × ((k : ℕ) → k ≤ z.cells → aisle_treads a k ≡ t (along j k))) (λ j p q. let x = aisle_read j p q in (x.0, (x.1, x.2))) in
      let pass = choices P00 (z.aisles - 1) ReadPassage (λ j p q. passage_read j p (omega arith)) in
      plan_of_lem acts.0 pass.0 acts.1 (omega (arith, pass.1)) acts.2 (λ j p q. pass.2 j p (omega arith))

  -- a plan with these treads is lawful
  read_lawful : (plan : Plan) → WellFormed z plan → ((e : Edge) → InStore z e → multiplicity plan e ≡ t e) → Lawful z plan
  unfolding Touched Trodden
  read_lawful plan wf eq =
      let evenly : (p : Point) → PointOf z p → degree z (multiplicity plan) p % 2 ≡ 0 = λ p o. rw (degree_same z (multiplicity plan) t p o eq) (r.even p o) in
      let to : Covers z t (multiplicity plan) = λ e i h. omega (arith, eq e i) in
      let fro : Covers z (multiplicity plan) t = λ e i h. omega (arith, eq e i) in
      let d = r.touched in
      record {
        well_formed = wf;
        front_even = λ j p q. rw (← plan_front z plan wf j p q) (evenly (record { aisle = j; height = 0 }) (record { first = p; last = q; high = omega arith }));
        back_even = λ j p q. rw (← plan_back z plan wf j p q) (evenly (record { aisle = j; height = suc z.cells }) (record { first = p; last = q; high = omega arith }));
        together = joined_together z (multiplicity plan) (depot_point z) (joined_same z t (multiplicity plan) (depot_point z) to fro r.joined);
        depot_touched = (d.0, (d.1.0, to d.0 d.1.0 d.1.1), d.2);
      }

  -- such treads are those of a lawful plan
  pub reads : 1 ≤ z.aisles → (plan : Plan) × Lawful z plan × ((e : Edge) → InStore z e → multiplicity plan e ≡ t e)
  reads h = let p = plan_read h in (p.0, read_lawful p.0 p.1 p.2, p.2)
