-- What can be reached by the numbers is what chains of edges that are left reach.
use Prim.Native.Nat.{ℕ, ◌+◌, ◌≤◌, ◌<◌}
use native.Mathlib.Omega.{arith}
use mathlib.Core.Path.{◌≡◌, refl, sym, ◌∙◌, subst}
use mathlib.Core.Logic.{inl, inr, ◌↔◌}
use mathlib.Core.List.{List}
use lib.ListN.{get_or}
use Rattle.rules.specs.declared.Layout.{Layout}
use Rattle.rules.specs.Store.{Point, Edge, start_of, end_of, Joins}
use Rattle.rules.specs.Lawful.{Trodden, Linked}
use Rattle.rules.specs.Lawful as Lawful
use Rattle.closedwalks.specs.Ways.{PointOf, Joined}
use Rattle.closedwalks.proofs.Links.{link_turn}
use Rattle.treads.specs.Treads.{spot, slot_of, left_of, Charted}
use Rattle.flood.specs.Flooded.{Reach, here, backward, forward, rightward, leftward, Starts, AllReached}
use Rattle.treads.proofs.Places.{edge_kind, trodden_in, trodden_out, spot_same, spot_range, start_point, end_point}

module _ (z : Layout) (wide : z.aisles ≤ 16) (deep : z.cells ≤ 24) (left : List ℕ) (c : Charted z left) where
  -- an edge that is left between two numbers
  record Between (p q : ℕ) : Type 0 where
    edge : Edge
    trodden : Trodden z (left_of z left) edge
    begins : spot (start_of z edge) ≡ p
    ends : spot (end_of z edge) ≡ q

  -- a place that has treads is that of an edge
  charted_at : (i : ℕ) → 0 < get_or left i 0 → (e : Edge) × Trodden z (left_of z left) e × (slot_of z e ≡ i) × (spot (start_of z e) < 442)
  charted_at i h =
      let t = c.edge i h in
      (t.0, trodden_in z left t.0 t.1 (subst (λ (k : ℕ). 0 < get_or left k 0) (sym t.2) h), t.2, (spot_range z wide deep (start_of z t.0) (start_point z wide deep t.0 t.1)).2)

  -- an edge towards the back
  along_between : (p : ℕ) → p < 442 → 0 < get_or left p 0 → Between p (p + 1)
  along_between p low h =
      let t = charted_at p h in
      elim (edge_kind z t.0) [
        | inl k ↦ record { edge = t.0; trodden = t.1; begins = omega (arith, k.0, t.2); ends = omega (arith, k.0, k.1, t.2) }
        | inr k ↦ absurd (omega (arith, k.0, t.2))
      ]

  -- an edge to the right
  across_between : (p : ℕ) → 0 < get_or left (442 + p) 0 → Between p (p + 26)
  across_between p h =
      let t = charted_at (442 + p) h in
      elim (edge_kind z t.0) [
        | inl k ↦ absurd (omega (arith, k.0, t.2, t.3))
        | inr k ↦ record { edge = t.0; trodden = t.1; begins = omega (arith, k.0, t.2); ends = omega (arith, k.0, k.1, t.2) }
      ]

  module _ (x : Point) where
    -- a point with a number from which a chain of edges that are left leads to x
    record From (p : ℕ) : Type 0 where
      point : Point
      inside : PointOf z point
      number : spot point ≡ p
      chain : Linked z (left_of z left) x point

    -- such a number is in range
    from_below : {p : ℕ} → From p → p < 442
    from_below f = omega (arith, f.number, (spot_range z wide deep f.point f.inside).2)

    -- along the edge
    forth : {p q : ℕ} → Between p q → From p → From q
    unfolding Trodden Joins
    forth b f =
        let e = b.edge in
        let same = spot_same z wide deep f.point (start_of z e) f.inside (start_point z wide deep e b.trodden.0) (f.number ∙ sym b.begins) in
        record { point = end_of z e; inside = end_point z wide deep e b.trodden.0; number = b.ends; chain = Lawful.step e b.trodden (inr (same, refl)) f.chain }

    -- against it
    back_again : {p q : ℕ} → Between p q → From q → From p
    unfolding Trodden Joins
    back_again b f =
        let e = b.edge in
        let same = spot_same z wide deep f.point (end_of z e) f.inside (end_point z wide deep e b.trodden.0) (f.number ∙ sym b.ends) in
        record { point = start_of z e; inside = start_point z wide deep e b.trodden.0; number = b.begins; chain = Lawful.step e b.trodden (inl (refl, same)) f.chain }

    -- what is reached by the numbers is linked
    reach_linked : PointOf z x → (p : ℕ) → Reach left (spot x) p → From p
    reach_linked i p here = record { point = x; inside = i; number = refl; chain = Lawful.here }
    reach_linked i p (backward {p = q} h r) = let f = reach_linked i q r in forth (along_between q (from_below f) h) f
    reach_linked i p (forward h r) = let f = reach_linked i (p + 1) r in let b = from_below f in back_again (along_between p (omega arith) h) f
    reach_linked i p (rightward {p = q} h r) = forth (across_between q h) (reach_linked i q r)
    reach_linked i p (leftward h r) = back_again (across_between p h) (reach_linked i (p + 26) r)

    -- the end of an edge that is left can be reached where its other end can
    edge_reach : (e : Edge) → Trodden z (left_of z left) e → Reach left (spot x) (spot (start_of z e)) ↔ Reach left (spot x) (spot (end_of z e))
    edge_reach e t =
        let h = (trodden_out z left e t).1 in
        elim (edge_kind z e) [
          | inl k ↦ let u = subst (λ (i : ℕ). 0 < get_or left i 0) k.0 h in
              (λ r. subst (Reach left (spot x)) (sym k.1) (backward u r), λ r. forward u (subst (Reach left (spot x)) k.1 r))
          | inr k ↦ let u = subst (λ (i : ℕ). 0 < get_or left i 0) k.0 h in
              (λ r. subst (Reach left (spot x)) (sym k.1) (rightward u r), λ r. leftward u (subst (Reach left (spot x)) k.1 r))
        ]

    -- what is linked is reached by the numbers
    linked_reach : (y : Point) → Linked z (left_of z left) x y → Reach left (spot x) (spot y)
    unfolding Joins
    linked_reach y Lawful.here = here
    linked_reach y (Lawful.step {w} e t (inl j) k) =
        let r = linked_reach w k in
        subst (λ (q : Point). Reach left (spot x) (spot q)) (sym j.0) ((edge_reach e t).1 (subst (λ (q : Point). Reach left (spot x) (spot q)) j.1 r))
    linked_reach y (Lawful.step {w} e t (inr j) k) =
        let r = linked_reach w k in
        subst (λ (q : Point). Reach left (spot x) (spot q)) (sym j.1) ((edge_reach e t).0 (subst (λ (q : Point). Reach left (spot x) (spot q)) j.0 r))

    -- all that is left can be reached by the numbers exactly if it is joined
    pub reached_joined : PointOf z x → AllReached left (spot x) ↔ Joined z (left_of z left) x
    unfolding AllReached Joined
    reached_joined i = (forwards, backwards)
      where
        starts : (e : Edge) → Trodden z (left_of z left) e → Starts left (spot (start_of z e))
        starts e t =
            let h = (trodden_out z left e t).1 in
            elim (edge_kind z e) [ inl k ↦ inl (subst (λ (n : ℕ). 0 < get_or left n 0) k.0 h) | inr k ↦ inr (subst (λ (n : ℕ). 0 < get_or left n 0) k.0 h) ]

        forwards : ((p : ℕ) → p < 442 → Starts left p → Reach left (spot x) p) → (e : Edge) → Trodden z (left_of z left) e → Linked z (left_of z left) (start_of z e) x
        forwards all e t =
            let p = start_point z wide deep e (trodden_out z left e t).0 in
            let f = reach_linked i (spot (start_of z e)) (all (spot (start_of z e)) (spot_range z wide deep (start_of z e) p).2 (starts e t)) in
            link_turn z (left_of z left) (start_of z e) x (subst (λ (y : Point). Linked z (left_of z left) x y) (spot_same z wide deep f.point (start_of z e) f.inside p f.number) f.chain)

        from : (p q : ℕ) → ((e : Edge) → Trodden z (left_of z left) e → Linked z (left_of z left) (start_of z e) x) → Between p q → Reach left (spot x) p
        from p q j b = subst (Reach left (spot x)) b.begins (linked_reach (start_of z b.edge) (link_turn z (left_of z left) x (start_of z b.edge) (j b.edge b.trodden)))

        backwards : ((e : Edge) → Trodden z (left_of z left) e → Linked z (left_of z left) (start_of z e) x) → (p : ℕ) → p < 442 → Starts left p → Reach left (spot x) p
        backwards j p low (inl h) = from p (p + 1) j (along_between p low h)
        backwards j p low (inr h) = from p (p + 26) j (across_between p h)
