-- Links: chains of trodden edges can be joined and turned round, and leave no set that no trodden edge leaves.
use Prim.Native.Nat.{ℕ}
use mathlib.Core.Path.{◌≡◌, refl}
use mathlib.Core.Logic.{inl, inr}
use mathlib.Core.Bool.{Bool}
use Rattle.rules.specs.declared.Layout.{Layout}
use Rattle.rules.specs.Store.{Point, Edge, start_of, end_of, Joins}
use Rattle.rules.specs.Lawful.{Trodden, Touched, Linked, here, step}

module _ {z : Layout} {treads : Edge → ℕ} where
  -- chains can be joined
  pub linked_trans : {y w x : Point} → Linked z treads y w → Linked z treads w x → Linked z treads y x
  linked_trans p here = p
  linked_trans p (step e h j q) = step e h j (linked_trans p q)

  -- a trodden edge links its ends, either way
  pub edge_forth : (e : Edge) → Trodden z treads e → Linked z treads (end_of z e) (start_of z e)
  unfolding Joins
  edge_forth e h = step e h (inl (refl, refl)) here

  pub edge_back : (e : Edge) → Trodden z treads e → Linked z treads (start_of z e) (end_of z e)
  unfolding Joins
  edge_back e h = step e h (inr (refl, refl)) here

  -- chains can be turned round
  pub linked_sym : {y x : Point} → Linked z treads y x → Linked z treads x y
  unfolding Joins
  linked_sym here = here
  linked_sym (step e h (inl j) q) = linked_trans (step e h (inr j) here) (linked_sym q)
  linked_sym (step e h (inr j) q) = linked_trans (step e h (inl j) here) (linked_sym q)

  -- the end of a chain from a touched point is touched
  pub touched_end : {y x : Point} → Touched z treads x → Linked z treads y x → Touched z treads y
  unfolding Joins Touched
  touched_end t here = t
  touched_end t (step e h (inl j) q) = touched_end (e, h, inr j.1) q
  touched_end t (step e h (inr j) q) = touched_end (e, h, inl j.0) q

  -- a chain does not leave a set that no trodden edge leaves
  pub linked_inside : (inside : Point → Bool)
      → ((e : Edge) → Trodden z treads e → inside (start_of z e) ≡ inside (end_of z e))
      → {y x : Point} → Linked z treads y x → inside x ≡ inside y
  unfolding Joins
  linked_inside inside keeps here = refl
  linked_inside inside keeps (step e h (inl j) q) =
      let k = keeps e h in let r = linked_inside inside keeps q in rw (j.0, k, ← j.1) r
  linked_inside inside keeps (step e h (inr j) q) =
      let k = keeps e h in let r = linked_inside inside keeps q in rw (j.1, ← k, ← j.0) r
