-- The steps taken so far, and those still to come.
use Rattle.std.proofs.Common.{ℕ, ◌+◌, ◌-◌, ◌≤◌, ◌<◌, ◌≡◌, List, [], ◌∷◌, ◌++◌, length, get_or, set, refl, sym, ap, ◌∙◌, append_assoc, length-append, arith}
use mathlib.Core.List.{append-nil}
use mathlib.Core.Option.{some}
use Rattle.rules.specs.declared.Layout.{Layout}
use Rattle.rules.specs.declared.Direction.{Direction}
use Rattle.rules.specs.Walks.{Walk}
use Rattle.rules.specs.FirstWalk.{steps_of}
use Rattle.treads.specs.Treads.{left_of}
use Rattle.flood.specs.Points.{next_by}
use Rattle.walks.specs.Letters.{slot_by, treads_at, Walkable, next_letter, letters_left}
use Rattle.walks.proofs.Stepping.{letter_left, letter_steps, letter_taken, no_letter}

-- some steps are taken, what is still to come makes up the whole walk with them, and there is room for it
pub record Going (z : Layout) (all : Walk) (left : List ℕ) (at : ℕ) (done : Walk) : Type 0 where
  pub walkable : Walkable z left at
  pub whole : done ++ letters_left z left at ≡ all
  pub room : length done + steps_of z (left_of z left) ≤ 860

module _ (z : Layout) (left : List ℕ) (at : ℕ) where
  -- at the start none is taken
  pub going_from : Walkable z left at → steps_of z (left_of z left) ≤ 860 → Going z (letters_left z left at) left at []
  going_from w h = record { walkable = w; whole = refl; room = omega arith }

  module _ {all done : Walk} (g : Going z all left at done) where
    -- on with the next step
    pub going_next : (d : Direction) → next_letter z left at ≡ some d → {list : List ℕ} {slot next : ℕ} {more : Walk}
        → list ≡ left → slot ≡ slot_by d at → next ≡ next_by d at → more ≡ done ++ (d ∷ [])
        → Going z all (set list slot (get_or list slot 0 - 1)) next more
    going_next d q i j k m =
        let v = get_or left (slot_by d at) 0 - 1 in
        let p = letter_left z left at g.walkable d q in
        let e : v + 1 ≡ get_or left (slot_by d at) 0 = omega arith in
        let t = letter_taken z left at g.walkable d q v e in
        let s = letter_steps z left at g.walkable d v e in
        let r = g.room in
        rw (i, j, k, m) record {
          walkable = t.0;
          whole = append_assoc done (d ∷ []) (letters_left z (set left (slot_by d at) v) (next_by d at)) ∙ ap (λ (w : Walk). done ++ w) (sym t.1) ∙ g.whole;
          room = omega (arith, length-append done (d ∷ []));
        }

    -- there is room for it
    pub going_room : (d : Direction) → next_letter z left at ≡ some d → length done < 860
    going_room d q =
        let p = letter_left z left at g.walkable d q in
        let s = letter_steps z left at g.walkable d (get_or left (slot_by d at) 0 - 1) (omega arith) in
        let r = g.room in
        omega arith

    -- there is less left
    pub going_less : (d : Direction) → next_letter z left at ≡ some d → {list : List ℕ} {slot : ℕ} → list ≡ left → slot ≡ slot_by d at
        → steps_of z (left_of z (set list slot (get_or list slot 0 - 1))) < steps_of z (left_of z left)
    going_less d q i j =
        let p = letter_left z left at g.walkable d q in
        let s = letter_steps z left at g.walkable d (get_or left (slot_by d at) 0 - 1) (omega arith) in
        rw (i, j) (omega arith)

    -- until no tread is left at the point
    pub going_over : treads_at left at ≡ 0 → done ≡ all
    going_over e = sym (append-nil done) ∙ ap (λ (w : Walk). done ++ w) (sym (no_letter z left at g.walkable e)) ∙ g.whole
