-- Euler: balanced treads that can all be reached from a point are the treads of a walk from there.
use Prim.Native.Nat.{ℕ, zero, suc, ◌+◌, ◌%◌, ◌≤◌, ◌<◌}
use native.Mathlib.Omega.{arith}
use mathlib.Core.Path.{◌≡◌, refl, sym, ap, ◌∙◌, subst}
use mathlib.Core.Logic.{◌⊎◌, inl, inr}
use mathlib.Core.List.{[], ◌∷◌, ◌++◌}
use mathlib.Core.Bool.{Bool, true, false, cond}
use Rattle.rules.specs.declared.Layout.{Layout}
use Rattle.rules.specs.declared.Direction.{Direction}
use Rattle.rules.specs.declared.Direction.TheVariants.{Back, Front, Left, Right}
use Rattle.rules.specs.Store.{Point, Edge, InStore, start_of}
use Rattle.rules.specs.Lawful.{Trodden}
use Rattle.rules.specs.Walks.{Walk, can_step, step_to, step_edge, one}
use Rattle.rules.specs.FirstWalk.{without, steps_of}
use Rattle.closedwalks.specs.Ways.{PointOf, share, degree, same, Balanced, Leads, treads_from, On, Joined}
use Rattle.closedwalks.proofs.Splits.{none_or_some}
use Rattle.closedwalks.proofs.Steps.{point_split, same_refl, stepped, step_forth, step_along}
use Rattle.closedwalks.proofs.Links.{joins_turn, Closed, linked_seen}
use Rattle.closedwalks.proofs.Parity.{taken, degree_add, degree_none, degree_at, degree_step, balanced_step, total_step, total_le}

-- no edge at the point is left
abbrev Stuck : Layout → (Edge → ℕ) → Point → Type 0
Stuck z left x = (d : Direction) → can_step z x d ≡ true → left (step_edge x d) ≡ 0

-- a letter whose edge is left
abbrev Free : Layout → (Edge → ℕ) → Point → Type 0
Free z left x = (d : Direction) × (can_step z x d ≡ true) × (0 < left (step_edge x d))

-- a walk from x to y along edges that are left, the rest of which is even everywhere and has no edge at a point of the walk
record Trail (z : Layout) (left : Edge → ℕ) (x y : Point) : Type 0 where
  walk : Walk
  rest : Edge → ℕ
  leads : Leads z x walk y
  parts : (e : Edge) → left e ≡ treads_from x walk e + rest e
  even : (p : Point) → PointOf z p → degree z rest p % 2 ≡ 0
  spent : (p : Point) → On x walk p → Stuck z rest p

module _ (z : Layout) where
  free? : (left : Edge → ℕ) (x : Point) → Free z left x ⊎ Stuck z left x
  free? left x = all (one? Back) (one? Front) (one? Left) (one? Right)
    where
      Shut : Direction → Type 0
      Shut d = can_step z x d ≡ true → left (step_edge x d) ≡ 0

      one? : (d : Direction) → Free z left x ⊎ Shut d
      one? d = go (can_step z x d) refl (none_or_some (left (step_edge x d)))
        where
          go : (b : Bool) → can_step z x d ≡ b → (left (step_edge x d) ≡ 0) ⊎ (0 < left (step_edge x d)) → Free z left x ⊎ Shut d
          go b c (inl n) = inr (λ t. n)
          go true c (inr n) = inl (d, c, n)
          go false c (inr n) = inr (λ t. let bad : ◌≡◌ {A = ℕ} 0 1 = cc in omega arith)

      every : Shut Back → Shut Front → Shut Left → Shut Right → Stuck z left x
      every b f l r Back = b
      every b f l r Front = f
      every b f l r Left = l
      every b f l r Right = r

      all : Free z left x ⊎ Shut Back → Free z left x ⊎ Shut Front → Free z left x ⊎ Shut Left → Free z left x ⊎ Shut Right → Free z left x ⊎ Stuck z left x
      all (inl a) f l r = inl a
      all (inr b) (inl a) l r = inl a
      all (inr b) (inr f) (inl a) r = inl a
      all (inr b) (inr f) (inr l) (inl a) = inl a
      all (inr b) (inr f) (inr l) (inr r) = inr (every b f l r)

  -- walks one behind the other
  leads_append : (x m y : Point) (u v : Walk) → Leads z x u m → Leads z m v y → Leads z x (u ++ v) y
  leads_append x m y [] v l k = subst (λ (p : Point). Leads z p v y) (sym l) k
  leads_append x m y (d ∷ u) v l k = (l.0, leads_append (step_to x d) m y u v l.1 k)

  treads_append : (x m : Point) (u v : Walk) (e : Edge) → Leads z x u m → treads_from x (u ++ v) e ≡ treads_from x u e + treads_from m v e
  treads_append x m [] v e l = omega (arith, ap (λ (p : Point). treads_from p v e) l)
  treads_append x m (d ∷ u) v e l = omega (arith, treads_append (step_to x d) m u v e l.1)

  on_append : (x m p : Point) (u v : Walk) → Leads z x u m → On x (u ++ v) p → On x u p ⊎ On m v p
  on_append x m p [] v l o = inr (subst (λ (q : Point). On q v p) l o)
  on_append x m p (d ∷ u) v l (inl e) = inl (inl e)
  on_append x m p (d ∷ u) v l (inr o) = elim (on_append (step_to x d) m p u v l.1 o) [ inl a ↦ inl (inr a) | inr a ↦ inr a ]

  -- a balanced walk can only be stuck at its end
  stuck_trail : (left : Edge → ℕ) (x y : Point) → PointOf z x → Balanced z left x y → Stuck z left x → Trail z left x y
  stuck_trail left x y p b s =
      let nothing : degree z left x ≡ 0 = degree_stuck in
      elim (point_split x y) [
        | inl e ↦ record { walk = []; rest = left; leads = e.0; parts = λ e. omega arith; even = λ q o. omega (arith, b q o, ap (same q) e.0); spent = λ q o. subst (Stuck z left) (sym o) s }
        | inr n ↦ absurd (omega (arith, b x p, same_refl x, n.0))
      ]
    where
      shut : (d : Direction) → share z left x d ≡ 0
      shut d = go (can_step z x d) refl
        where
          go : (c : Bool) → can_step z x d ≡ c → cond c (left (step_edge x d)) 0 ≡ 0
          go true c = s d c
          go false c = refl

      degree_stuck : degree z left x ≡ 0
      degree_stuck = omega (arith, shut Back, shut Front, shut Left, shut Right)

  on_start : (x : Point) (walk : Walk) → On x walk x
  on_start x [] = refl
  on_start x (d ∷ walk) = inl refl

  -- a step, a trail from where it ends, and a round from its start along what is left over then
  splice : (left : Edge → ℕ) (x y : Point) (d : Direction) → can_step z x d ≡ true → 0 < left (step_edge x d)
      → (first : Trail z (without left (step_edge x d)) (step_to x d) y) → Trail z first.rest x x → Trail z left x y
  splice left x y d c h first round =
      record {
        walk = round.walk ++ (d ∷ first.walk);
        rest = round.rest;
        leads = leads_append x x y round.walk (d ∷ first.walk) round.leads (c, first.leads);
        parts = λ e. omega (arith, taken left (step_edge x d) e h, first.parts e, round.parts e, treads_append x x round.walk (d ∷ first.walk) e round.leads);
        even = round.even;
        spent = λ p o. elim (on_append x x p round.walk (d ∷ first.walk) round.leads o) [
          | inl a ↦ round.spent p a
          | inr a ↦ elim a [ inl e ↦ round.spent p (subst (On x round.walk) (sym e) (on_start x round.walk)) | inr a ↦ λ f g. omega (arith, first.spent p a f g, round.parts (step_edge p f)) ]
        ];
      }

  trail : (n : ℕ) (left : Edge → ℕ) (x y : Point) → PointOf z x → steps_of z left ≤ n → Balanced z left x y → Trail z left x y
  trail zero left x y p h b =
      elim (free? left x) [
        | inl f ↦ absurd (omega (arith, total_step z x p f.0 f.1 left f.2))
        | inr s ↦ stuck_trail left x y p b s
      ]
  trail (suc n) left x y p h b =
      elim (free? left x) [
        | inl f ↦
            let s = step_edge x f.0 in
            let fewer = total_step z x p f.0 f.1 left f.2 in
            let first = trail n (without left s) (step_to x f.0) y (stepped z x p f.0 f.1).end (omega arith) (balanced_step z x p f.0 f.1 left y f.2 b) in
            let less = total_le z first.rest (without left s) (λ e i. omega (arith, first.parts e)) in
            let round = trail n first.rest x x p (omega arith) (λ q o. omega (arith, first.even q o)) in
            splice left x y f.0 f.1 f.2 first round
        | inr s ↦ stuck_trail left x y p b s
      ]

  -- a point with a trodden edge lies on the walk
  pub degree_on : (x : Point) (walk : Walk) (y p : Point) → PointOf z x → Leads z x walk y → 0 < degree z (treads_from x walk) p → On x walk p
  degree_on x [] y p o l h = absurd (omega (arith, degree_none z p))
  degree_on x (d ∷ walk) y p o l h =
      elim (point_split p x) [
        | inl e ↦ inl e.0
        | inr n ↦ elim (point_split p (step_to x d)) [
          | inl e ↦ inr (subst (On (step_to x d) walk) (sym e.0) (on_start (step_to x d) walk))
          | inr m ↦ inr (degree_on (step_to x d) walk y p (stepped z x o d l.0).end l.1
              (omega (arith, degree_add z (λ e. one e (step_edge x d)) (treads_from (step_to x d) walk) p, degree_step z x o d l.0 p, n.0, m.0)))
        ]
      ]

  module _ (left : Edge → ℕ) (x y : Point) (p : PointOf z x) (t : Trail z left x y) where
    -- no edge that was left leads away from where a trail has been
    on_closed : Closed z left (On x t.walk)
    unfolding Trodden
    on_closed e m n h j o =
        let f = step_along z e m n h.0 j in
        let g = step_along z e n m h.0 (joins_turn z e m n j) in
        let empty = ap t.rest (sym f.by) ∙ t.spent m o f.letter f.can in
        degree_on x t.walk y n p t.leads (omega (arith, t.parts e, empty, h.1, degree_at z (treads_from x t.walk) n g.letter g.can, ap (treads_from x t.walk) g.by))

    all_trodden : Joined z left x → (e : Edge) → InStore z e → treads_from x t.walk e ≡ left e
    unfolding Joined Trodden
    all_trodden j e i =
        elim (none_or_some (left e)) [
          | inl n ↦ omega (arith, t.parts e)
          | inr h ↦
              let on = linked_seen z left (On x t.walk) on_closed x (start_of z e) (j e (i, h)) (on_start x t.walk) in
              let f = step_forth z e i in
              omega (arith, t.parts e, ap t.rest (sym f.by) ∙ t.spent (start_of z e) on f.letter f.can)
        ]

  -- treads that are balanced between x and y and can all be reached from x are exactly those of some walk from x to y
  pub completed : (left : Edge → ℕ) (x y : Point) → PointOf z x → Balanced z left x y → Joined z left x
      → (walk : Walk) × Leads z x walk y × ((e : Edge) → InStore z e → treads_from x walk e ≡ left e)
  completed left x y p b j =
      let t = trail (steps_of z left) left x y p (omega arith) b in
      (t.walk, t.leads, all_trodden left x y p t j)
