-- Degrees: what a step and a walk add to them, and what is left after one tread.
use Prim.Native.Nat.{ℕ, suc, ◌+◌, ◌*◌, ◌≤◌, ◌<◌}
use native.Mathlib.Omega.{arith}
use mathlib.Core.Path.{◌≡◌, refl, sym, ap}
use mathlib.Core.Logic.{inl, inr}
use mathlib.Core.List.{[], ◌∷◌}
use mathlib.Core.Bool.{Bool, true, false, cond}
use Rattle.rules.specs.declared.Layout.{Layout}
use Rattle.rules.specs.declared.Direction.{Direction}
use Rattle.rules.specs.declared.Direction.TheVariants.{Back, Front, Left, Right}
use Rattle.rules.specs.Lists.{sum_of}
use Rattle.rules.specs.Store.{Point, Edge, InStore, Joins, edges_of}
use Rattle.rules.specs.Walks.{Walk, can_step, step_to, step_edge, one, walk_edges}
use Rattle.rules.specs.FirstWalk.{without, steps_of}
use Rattle.rules.proofs.Lists.{sum_none}
use Rattle.closedwalks.specs.Ways.{PointOf, share, degree, same, Balanced, Leads, treads_from}
use Rattle.closedwalks.proofs.Steps.{cond_none, edge_split, one_refl, one_sym, degree_one, stepped}
use Rattle.closedwalks.proofs.Sums.{sum_add, sum_single, sum_same, sum_le}

cond_add : (b : Bool) (m n : ℕ) → cond b (m + n) 0 ≡ cond b m 0 + cond b n 0
cond_add true m n = refl
cond_add false m n = refl

-- one tread taken off an edge that has some left
pub taken : (left : Edge → ℕ) (s e : Edge) → 0 < left s → left e ≡ one e s + without left s e
unfolding without
taken left s e h =
    elim (edge_split e s) [
      | inl p ↦ omega (arith, p.1, one_sym e s, ap left p.0)
      | inr p ↦ omega (arith, p.0, one_sym e s)
    ]

module _ (z : Layout) where
  pub degree_add : (f g : Edge → ℕ) (y : Point) → degree z (λ e. f e + g e) y ≡ degree z f y + degree z g y
  degree_add f g y =
      let part : (d : Direction) → share z (λ e. f e + g e) y d ≡ share z f y d + share z g y d = λ d. cond_add (can_step z y d) (f (step_edge y d)) (g (step_edge y d)) in
      omega (arith, part Back, part Front, part Left, part Right)

  pub degree_none : (y : Point) → degree z (λ e. 0) y ≡ 0
  degree_none y =
      let part : (d : Direction) → share z (λ e. 0) y d ≡ 0 = λ d. cond_none (can_step z y d) in
      omega (arith, part Back, part Front, part Left, part Right)

  share_same : (f g : Edge → ℕ) (y : Point) → PointOf z y → ((e : Edge) → InStore z e → f e ≡ g e) → (d : Direction) → share z f y d ≡ share z g y d
  share_same f g y p h d = go (can_step z y d) refl
    where
      go : (b : Bool) → can_step z y d ≡ b → cond b (f (step_edge y d)) 0 ≡ cond b (g (step_edge y d)) 0
      go true c = h (step_edge y d) (stepped z y p d c).edge
      go false c = refl

  pub degree_same : (f g : Edge → ℕ) (y : Point) → PointOf z y → ((e : Edge) → InStore z e → f e ≡ g e) → degree z f y ≡ degree z g y
  degree_same f g y p h =
      let part = share_same f g y p h in
      omega (arith, part Back, part Front, part Left, part Right)

  -- an edge at a point counts in its degree
  pub degree_at : (f : Edge → ℕ) (y : Point) (d : Direction) → can_step z y d ≡ true → f (step_edge y d) ≤ degree z f y
  degree_at f y Back c = let s : share z f y Back ≡ f (step_edge y Back) = rw c in omega arith
  degree_at f y Front c = let s : share z f y Front ≡ f (step_edge y Front) = rw c in omega arith
  degree_at f y Left c = let s : share z f y Left ≡ f (step_edge y Left) = rw c in omega arith
  degree_at f y Right c = let s : share z f y Right ≡ f (step_edge y Right) = rw c in omega arith

  pub total_le : (f g : Edge → ℕ) → ((e : Edge) → InStore z e → f e ≤ g e) → steps_of z f ≤ steps_of z g
  unfolding steps_of
  total_le f g h = sum_le z f g h

  module _ (x : Point) (p : PointOf z x) (d : Direction) (c : can_step z x d ≡ true) where
    -- a step adds one to the degree of the point that it leaves, and one to that of the point that it comes to
    pub degree_step : (y : Point) → degree z (λ e. one e (step_edge x d)) y ≡ same y x + same y (step_to x d)
    unfolding Joins
    degree_step y =
        let s = stepped z x p d c in
        let e = step_edge x d in
        let l = degree_one z y e s.edge in
        elim s.joins [
          | inl j ↦ omega (arith, l, ap (same y) j.0, ap (same y) j.1)
          | inr j ↦ omega (arith, l, ap (same y) j.0, ap (same y) j.1)
        ]

    pub balanced_step : (left : Edge → ℕ) (y : Point) → 0 < left (step_edge x d) → Balanced z left x y → Balanced z (without left (step_edge x d)) (step_to x d) y
    balanced_step left y h b q o =
        let s = step_edge x d in
        let split = degree_same left (λ e. one e s + without left s e) q o (λ e i. taken left s e h) in
        omega (arith, b q o, split, degree_add (λ e. one e s) (without left s) q, degree_step q)

    pub total_step : (left : Edge → ℕ) → 0 < left (step_edge x d) → steps_of z left ≡ suc (steps_of z (without left (step_edge x d)))
    unfolding steps_of
    total_step left h =
        let s = step_edge x d in
        let single = sum_single z (λ e. one e s) s (stepped z x p d c).edge (λ e n. elim (edge_split e s) [ inl q ↦ absurd (n q.0) | inr q ↦ q.0 ]) in
        omega (arith, sum_same z left (λ e. one e s + without left s e) (λ e i. taken left s e h), sum_add (λ e. one e s) (without left s) (edges_of z), single, one_refl s)

  -- the treads of a walk are balanced between its ends
  pub walk_balanced : (x : Point) (walk : Walk) (y : Point) → PointOf z x → Leads z x walk y → Balanced z (treads_from x walk) x y
  walk_balanced x [] y p l q o = omega (arith, degree_none q, ap (same q) l)
  walk_balanced x (d ∷ walk) y p l q o =
      let s = stepped z x p d l.0 in
      omega (arith, degree_add (λ e. one e (step_edge x d)) (treads_from (step_to x d) walk) q, degree_step x p d l.0 q, walk_balanced (step_to x d) walk y s.end l.1 q o)

  -- a sum over the steps of a walk is a sum over the edges, each times its treads
  pub walk_sum : (f : Edge → ℕ) (x : Point) (walk : Walk) (y : Point) → PointOf z x → Leads z x walk y → sum_of f (walk_edges x walk) ≡ sum_of (λ e. treads_from x walk e * f e) (edges_of z)
  walk_sum f x [] y p l = sym (sum_none (λ (e : Edge). 0 * f e) (edges_of z) (λ e. omega arith))
  walk_sum f x (d ∷ walk) y p l =
      let s = step_edge x d in
      let t = stepped z x p d l.0 in
      let single = sum_single z (λ e. one e s * f e) s t.edge (λ e n. elim (edge_split e s) [ inl q ↦ absurd (n q.0) | inr q ↦ rw q.0 (omega arith) ]) in
      let first : one s s * f s ≡ f s = rw (one_refl s) (omega arith) in
      omega (
        arith,
        sum_same z (λ e. (one e s + treads_from (step_to x d) walk e) * f e) (λ e. one e s * f e + treads_from (step_to x d) walk e * f e) (λ e i. omega arith),
        sum_add (λ e. one e s * f e) (λ e. treads_from (step_to x d) walk e * f e) (edges_of z),
        single,
        first,
        walk_sum f (step_to x d) walk y t.end l.1,
      )
