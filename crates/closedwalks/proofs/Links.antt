-- Chains of trodden edges: those of a walk reach all that it treads.
use Prim.Native.Nat.{ℕ, ◌<◌}
use native.Mathlib.Omega.{arith}
use mathlib.Core.Path.{refl, sym, ap, ◌∙◌, subst}
use mathlib.Core.Logic.{inl, inr, ◌↔◌}
use mathlib.Core.List.{[], ◌∷◌}
use Rattle.rules.specs.declared.Layout.{Layout}
use Rattle.rules.specs.Store.{Point, Edge, InStore, Joins, start_of}
use Rattle.rules.specs.Lawful.{Trodden, Touched, Linked, here, step}
use Rattle.rules.specs.Walks.{Walk, step_to, step_edge}
use Rattle.closedwalks.specs.Ways.{PointOf, Leads, treads_from, Joined}
use Rattle.closedwalks.proofs.Steps.{edge_split, one_refl, stepped}

module _ (z : Layout) where
  pub joins_turn : (e : Edge) (x y : Point) → Joins z e x y → Joins z e y x
  unfolding Joins
  joins_turn e x y (inl j) = inr j
  joins_turn e x y (inr j) = inl j

  -- a set of points that no trodden edge leaves
  abbrev pub Closed : (Edge → ℕ) → (Point → Type 0) → Type 0
  Closed t Seen = (e : Edge) (p q : Point) → Trodden z t e → Joins z e p q → Seen p → Seen q

  -- no chain leaves it either
  pub linked_seen : (t : Edge → ℕ) (Seen : Point → Type 0) → Closed t Seen → (x y : Point) → Linked z t y x → Seen x → Seen y
  linked_seen t Seen c x y l = go y x l
    where
      go : (y x : Point) → Linked z t y x → Seen x → Seen y
      go y x here s = s
      go y x (step {w} e h j k) s = go y w k (c e x w h j s)

  -- where a closed set holds x and only what can be reached from x, all that is trodden can be reached exactly if it is in the set
  pub reached_joined : (t : Edge → ℕ) (x : Point) (Seen : Point → Type 0) → Closed t Seen → Seen x → ((p : Point) → Seen p → Linked z t p x)
      → ((e : Edge) → Trodden z t e → Seen (start_of z e)) ↔ Joined z t x
  unfolding Joined
  reached_joined t x Seen c s l = (λ f e h. l (start_of z e) (f e h), λ j e h. linked_seen t Seen c x (start_of z e) (j e h) s)

  -- all that is trodden in f is trodden in g
  abbrev pub Covers : (Edge → ℕ) → (Edge → ℕ) → Type 0
  Covers f g = (e : Edge) → InStore z e → 0 < f e → 0 < g e

  link_wider : (f g : Edge → ℕ) (x y : Point) → Covers f g → Linked z f y x → Linked z g y x
  unfolding Trodden
  link_wider f g x y h l = go y x l
    where
      go : (y x : Point) → Linked z f y x → Linked z g y x
      go y x here = here
      go y x (step {w} e t j k) = step e (t.0, h e t.0 t.1) j (go y w k)

  pub joined_same : (f g : Edge → ℕ) (x : Point) → Covers f g → Covers g f → Joined z f x → Joined z g x
  unfolding Joined Trodden
  joined_same f g x h k j e t = link_wider f g x (start_of z e) h (j e (t.0, k e t.0 t.1))

  module _ (t : Edge → ℕ) where
    link_join : (x w y : Point) → Linked z t w x → Linked z t y w → Linked z t y x
    link_join x w y l m = go w x l m
      where
        go : (w x : Point) → Linked z t w x → Linked z t y w → Linked z t y x
        go w x here l = l
        go w x (step {w = v} e h j k) l = step e h j (go w v k l)

    pub link_turn : (x y : Point) → Linked z t y x → Linked z t x y
    link_turn x y l = go y x l
      where
        go : (y x : Point) → Linked z t y x → Linked z t x y
        go y x here = here
        go y x (step {w} e h j k) = link_join y w x (go y w k) (step e h (joins_turn e x w j) here)

    -- a touched point is reached from where all that is trodden is
    touched_linked : (x y : Point) → Joined z t x → Touched z t y → Linked z t y x
    unfolding Joined Touched Joins
    touched_linked x y j h =
        elim h.2 [
          | inl e ↦ subst (λ (p : Point). Linked z t p x) (sym e) (j h.0 h.1)
          | inr e ↦ link_join x (start_of z h.0) y (j h.0 h.1) (step h.0 h.1 (inl (refl, e)) here)
        ]

    pub joined_together : (x : Point) → Joined z t x → (p q : Point) → Touched z t p → Touched z t q → Linked z t q p
    joined_together x j p q f g = link_join p x q (link_turn x p (touched_linked x p j f)) (touched_linked x q j g)

  -- what a walk treads can be reached from its start
  pub walk_joined : (x : Point) (walk : Walk) (y : Point) → PointOf z x → Leads z x walk y → Joined z (treads_from x walk) x
  unfolding Joined Trodden Joins
  walk_joined x [] y p l e t = absurd (let h = t.1 in omega arith)
  walk_joined x (d ∷ walk) y p l e t =
      let f = treads_from x (d ∷ walk) in
      let g = treads_from (step_to x d) walk in
      let s = stepped z x p d l.0 in
      let go : (q : Point) → Linked z f q (step_to x d) → Linked z f q x = λ q k. step (step_edge x d) (s.edge, omega (arith, one_refl (step_edge x d))) s.joins k in
      elim (edge_split e (step_edge x d)) [
        | inl h ↦ elim s.joins [
          | inl j ↦ subst (λ (q : Point). Linked z f q x) (j.0 ∙ ap (start_of z) (sym h.0)) here
          | inr j ↦ subst (λ (q : Point). Linked z f q x) (j.0 ∙ ap (start_of z) (sym h.0)) (go (step_to x d) here)
        ]
        | inr h ↦ go (start_of z e) (link_wider g f (step_to x d) (start_of z e) (λ e i u. omega arith)
            (walk_joined (step_to x d) walk y s.end l.1 e (t.0, omega (arith, t.1, h.0))))
      ]
