-- A plan is determined by how often it treads each edge.
use Prim.Native.Nat.{ℕ, zero, suc, ◌≤◌, ◌<◌}
use native.Mathlib.Omega.{arith}
use mathlib.Core.Path.{◌≡◌, refl, sym, ap, ap₂, ◌∙◌, subst}
use mathlib.Core.List.{List, [], ◌∷◌}
use lib.ListN.{length}
use borrow.Author.Tests.{lt-ltb, le-ltb, le-leb, lt-leb}
use Rattle.rules.specs.declared.Layout.{Layout}
use Rattle.rules.specs.declared.Action.{Action}
use Rattle.rules.specs.declared.Action.TheVariants.{Void, Bottom, Top, Gap, Once, Twice}
use Rattle.rules.specs.declared.Passage.{Passage}
use Rattle.rules.specs.declared.Passage.TheVariants.{P00, P02, P11, P20, P22}
use Rattle.rules.specs.Lists.{nth}
use Rattle.rules.specs.Store.{Edge, along, front, back, InStore}
use Rattle.rules.specs.Plans.{Plan, WellFormed, Fits, multiplicity, action_at, passage_at, aisle_treads, back_treads, front_treads}

-- lists of the same length with the same elements
same_list : {A : Type 0} (d : A) (xs ys : List A) → length xs ≡ length ys → ((j : ℕ) → 1 ≤ j → j ≤ length xs → nth xs j d ≡ nth ys j d) → xs ≡ ys
same_list d [] [] h f = refl
same_list d [] (y ∷ ys) h f = absurd (omega arith)
same_list d (x ∷ xs) [] h f = absurd (omega arith)
same_list d (x ∷ xs) (y ∷ ys) h f =
    ap₂ ◌∷◌ (f 1 (omega arith) (omega arith)) (same_list d xs ys (omega arith) (λ j p q. later j p (f (suc j) (omega arith) (omega arith))))
  where
    later : (j : ℕ) → 1 ≤ j → nth (x ∷ xs) (suc j) d ≡ nth (y ∷ ys) (suc j) d → nth xs j d ≡ nth ys j d
    later zero p e = absurd (omega arith)
    later (suc j) p e = e

-- the passage with given digits
digits : ℕ → ℕ → Passage
digits zero zero = P00
digits zero (suc f) = P02
digits (suc zero) f = P11
digits (suc (suc b)) zero = P20
digits (suc (suc b)) (suc f) = P22

digits_of : (p : Passage) → digits (back_treads p) (front_treads p) ≡ p
unfolding digits
digits_of P00 = refl
digits_of P02 = refl
digits_of P11 = refl
digits_of P20 = refl
digits_of P22 = refl

-- the treads of an action at the first and the last edge of its aisle
abbrev first_tread : Action → ℕ
first_tread Void = 0
first_tread (Bottom i) = 2
first_tread (Top i) = 0
first_tread (Gap h i) = 2
first_tread Once = 1
first_tread Twice = 2

abbrev last_tread : Action → ℕ
last_tread Void = 0
last_tread (Bottom i) = 0
last_tread (Top i) = 2
last_tread (Gap h i) = 2
last_tread Once = 1
last_tread Twice = 2

module _ (cells : ℕ) where
  first_tread_lem : (a : Action) → Fits cells a → aisle_treads a 0 ≡ first_tread a
  first_tread_lem Void f = refl
  first_tread_lem (Bottom i) f = rw (lt-ltb 0 i f.0)
  first_tread_lem (Top i) f = rw (lt-leb i 0 f.0)
  first_tread_lem (Gap h i) f = rw (lt-ltb 0 h f.0)
  first_tread_lem Once f = refl
  first_tread_lem Twice f = refl

  last_tread_lem : (a : Action) → Fits cells a → aisle_treads a cells ≡ last_tread a
  last_tread_lem Void f = refl
  last_tread_lem (Bottom i) f = rw (le-ltb cells i f.1)
  last_tread_lem (Top i) f = rw (le-leb i cells f.1)
  last_tread_lem (Gap h i) f = rw (le-ltb cells h (omega arith), le-leb i cells f.2)
  last_tread_lem Once f = refl
  last_tread_lem Twice f = refl

  -- the same treads on every edge of the aisle
  abbrev Alike : Action → Action → Type 0
  Alike a b = (k : ℕ) → k ≤ cells → aisle_treads a k ≡ aisle_treads b k

  bottom_not_below : (h i : ℕ) → h ≤ cells → Alike (Bottom h) (Bottom i) → h < i → ⊥
  bottom_not_below h i f e l = let bad : ◌≡◌ {A = ℕ} 0 2 = rw (le-ltb h h (omega arith), lt-ltb h i l) at (e h f) in omega arith

  top_not_below : (h i : ℕ) → h ≤ cells → Alike (Top h) (Top i) → h < i → ⊥
  top_not_below h i f e l = let bad : ◌≡◌ {A = ℕ} 2 0 = rw (le-leb h h (omega arith), lt-leb i h l) at (e h f) in omega arith

  gap_not_below : (g i h j : ℕ) → Fits cells (Gap g i) → Alike (Gap g i) (Gap h j) → g < h → ⊥
  gap_not_below g i h j f e l =
      let bad : ◌≡◌ {A = ℕ} 0 2 = rw (le-ltb g g (omega arith), lt-leb i g f.1, lt-ltb g h l) at (e g (omega arith)) in
      omega arith

  gap_not_above : (g i j : ℕ) → Fits cells (Gap g i) → Alike (Gap g i) (Gap g j) → i < j → ⊥
  gap_not_above g i j f e l =
      let bad : ◌≡◌ {A = ℕ} 2 0 = rw (le-ltb i g (omega arith), le-leb i i (omega arith), lt-leb j i l) at (e i f.2) in
      omega arith

  gap_not_twice : (g i : ℕ) → Fits cells (Gap g i) → Alike (Gap g i) Twice → ⊥
  gap_not_twice g i f e = let bad : ◌≡◌ {A = ℕ} 0 2 = rw (le-ltb g g (omega arith), lt-leb i g f.1) at (e g (omega arith)) in omega arith

  turn : (a b : Action) → Alike a b → Alike b a
  turn a b e k h = sym (e k h)

  -- an action is determined by its treads
  action_determined : (a b : Action) → Fits cells a → Fits cells b → Alike a b → a ≡ b
  action_determined a b f g e = go a b f g e (sym (first_tread_lem a f) ∙ (e 0 (omega arith) ∙ first_tread_lem b g)) (sym (last_tread_lem a f) ∙ (e cells (omega arith) ∙ last_tread_lem b g))
    where
      go : (a b : Action) → Fits cells a → Fits cells b → Alike a b → first_tread a ≡ first_tread b → last_tread a ≡ last_tread b → a ≡ b
      go Void Void f g e p q = refl
      go Void (Bottom i) f g e p q = absurd (omega arith)
      go Void (Top i) f g e p q = absurd (omega arith)
      go Void (Gap h i) f g e p q = absurd (omega arith)
      go Void Once f g e p q = absurd (omega arith)
      go Void Twice f g e p q = absurd (omega arith)
      go (Bottom i) Void f g e p q = absurd (omega arith)
      go (Bottom i) (Bottom j) f g e p q = ap Bottom (let u = bottom_not_below i j f.1 e in let v = bottom_not_below j i g.1 (turn (Bottom i) (Bottom j) e) in omega arith)
      go (Bottom i) (Top j) f g e p q = absurd (omega arith)
      go (Bottom i) (Gap h j) f g e p q = absurd (omega arith)
      go (Bottom i) Once f g e p q = absurd (omega arith)
      go (Bottom i) Twice f g e p q = absurd (omega arith)
      go (Top i) Void f g e p q = absurd (omega arith)
      go (Top i) (Bottom j) f g e p q = absurd (omega arith)
      go (Top i) (Top j) f g e p q = ap Top (let u = top_not_below i j f.1 e in let v = top_not_below j i g.1 (turn (Top i) (Top j) e) in omega arith)
      go (Top i) (Gap h j) f g e p q = absurd (omega arith)
      go (Top i) Once f g e p q = absurd (omega arith)
      go (Top i) Twice f g e p q = absurd (omega arith)
      go (Gap h i) Void f g e p q = absurd (omega arith)
      go (Gap h i) (Bottom j) f g e p q = absurd (omega arith)
      go (Gap h i) (Top j) f g e p q = absurd (omega arith)
      go (Gap h i) (Gap k j) f g e p q =
          let u = gap_not_below h i k j f e in
          let v = gap_not_below k j h i g (turn (Gap h i) (Gap k j) e) in
          let low : h ≡ k = omega arith in
          let s = gap_not_above h i j f (subst (λ (n : ℕ). Alike (Gap h i) (Gap n j)) (sym low) e) in
          let t = gap_not_above k j i g (subst (λ (n : ℕ). Alike (Gap k j) (Gap n i)) low (turn (Gap h i) (Gap k j) e)) in
          ap₂ Gap low (omega arith)
      go (Gap h i) Once f g e p q = absurd (omega arith)
      go (Gap h i) Twice f g e p q = absurd (gap_not_twice h i f e)
      go Once Void f g e p q = absurd (omega arith)
      go Once (Bottom i) f g e p q = absurd (omega arith)
      go Once (Top i) f g e p q = absurd (omega arith)
      go Once (Gap h i) f g e p q = absurd (omega arith)
      go Once Once f g e p q = refl
      go Once Twice f g e p q = absurd (omega arith)
      go Twice Void f g e p q = absurd (omega arith)
      go Twice (Bottom i) f g e p q = absurd (omega arith)
      go Twice (Top i) f g e p q = absurd (omega arith)
      go Twice (Gap h i) f g e p q = absurd (gap_not_twice h i g (turn Twice (Gap h i) e))
      go Twice Once f g e p q = absurd (omega arith)
      go Twice Twice f g e p q = refl

passage_determined : (p q : Passage) → back_treads p ≡ back_treads q → front_treads p ≡ front_treads q → p ≡ q
passage_determined p q b f = sym (digits_of p) ∙ (ap₂ digits b f ∙ digits_of q)

-- two plans of a store that tread each edge alike are the same plan
pub plan_determined : (z : Layout) (plan other : Plan) → WellFormed z plan → WellFormed z other → ((e : Edge) → InStore z e → multiplicity plan e ≡ multiplicity other e) → plan ≡ other
unfolding multiplicity action_at passage_at InStore
plan_determined z plan other f g e =
    let m = f.aisles in
    let n = g.aisles in
    let s = f.passages in
    let t = g.passages in
    let acts = same_list Void plan.actions other.actions (omega arith)
    (λ j p q. action_determined z.cells (nth plan.actions j Void) (nth other.actions j Void) (f.fits j) (g.fits j) (λ k h. e (along j k) (p, omega arith, h))) in
    let pass = same_list P00 plan.passages other.passages (omega arith)
    (λ j p q. passage_determined (nth plan.passages j P00) (nth other.passages j P00) (e (back j) (p, omega arith)) (e (front j) (p, omega arith))) in
    λ i. record { actions = acts i; passages = pass i }
