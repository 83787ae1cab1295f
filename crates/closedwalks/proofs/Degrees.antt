-- The degree of a point, by what it is: a crossing or a cell.
use Prim.Native.Nat.{ℕ, zero, suc, ◌+◌, ◌-◌, ◌%◌, ◌≤◌, ◌<◌}
use native.Mathlib.Omega.{arith}
use mathlib.Core.Path.{◌≡◌, refl, sym, ap, ◌∙◌, subst}
use mathlib.Core.Logic.{◌⊎◌, inl, inr}
use mathlib.Core.List.{List, [], ◌∷◌}
use mathlib.Core.Bool.{Bool, true, false, cond, ◌||◌}
use lib.Dec.{ltb, leb}
use lib.ListN.{length}
use borrow.Author.Tests.{ltb-false, lt-ltb, le-ltb, ne_eqb}
use Rattle.rules.specs.declared.Layout.{Layout}
use Rattle.rules.specs.declared.Action.{Action}
use Rattle.rules.specs.declared.Action.TheVariants.{Void, Bottom, Top, Gap, Once, Twice}
use Rattle.rules.specs.declared.Passage.TheVariants.{P00}
use Rattle.rules.specs.declared.Direction.TheVariants.{Back, Front, Left, Right}
use Rattle.rules.specs.Lists.{nth}
use Rattle.rules.specs.declared.Side.{Side}
use Rattle.rules.specs.declared.Side.TheVariants.{FrontSide, BackSide}
use Rattle.rules.specs.Store.{side_of, height_at, Point, Edge, along, front, back, back_height, depot_point}
use Rattle.rules.specs.Plans.{Plan, WellFormed, multiplicity, aisle_treads, passage_at}
use Rattle.rules.specs.Lawful.{front_degree, back_degree}
use Rattle.rules.specs.Walks.{can_step, step_edge, is_crossing, cross_edge}
use Rattle.closedwalks.specs.Ways.{PointOf, share, degree}
use Rattle.closedwalks.proofs.Splits.{none_or_some, equal_or_below}
use Rattle.closedwalks.proofs.Steps.{level, level_crossing}

-- the depot is a crossing
height_ends : (side : Side) (cells : ℕ) → (height_at side cells ≡ 0) ⊎ (height_at side cells ≡ suc cells)
height_ends FrontSide cells = inl refl
height_ends BackSide cells = inr refl

depot_ends : (z : Layout) → ((depot_point z).height ≡ 0) ⊎ ((depot_point z).height ≡ suc z.cells)
unfolding depot_point
depot_ends z = height_ends (side_of z) z.cells

-- so no cell
pub depot_no_cell : (z : Layout) (c : ℕ) → 1 ≤ c → c ≤ z.cells → c ≡ (depot_point z).height → ⊥
depot_no_cell z c low high e = elim (depot_ends z) [ inl p ↦ omega arith | inr p ↦ omega arith ]

pub depot_point_lem : (z : Layout) → 1 ≤ z.depot → z.depot ≤ z.aisles → PointOf z (depot_point z)
unfolding depot_point
depot_point_lem z p q = record { first = p; last = q; high = elim (depot_ends z) [ inl e ↦ omega arith | inr e ↦ omega arith ] }

module _ (z : Layout) (treads : Edge → ℕ) (j : ℕ) where
  abbrev cell_at : ℕ → Point
  cell_at c = record { aisle = j; height = c }

  abbrev crossing_at : Bool → Point
  crossing_at b = record { aisle = j; height = level z b }

  -- where nothing is trodden beyond the first and the last aisle, a crossing has both of its cross-aisle edges
  cross_left : (b : Bool) → 1 ≤ j → treads (cross_edge b 0) ≡ 0 → share z treads (crossing_at b) Left ≡ treads (cross_edge b (j - 1))
  unfolding can_step step_edge
  cross_left b h n = let c = level_crossing z (crossing_at b) b refl in rw (c.0, c.1) (go (ltb 1 j) refl)
    where
      go : (t : Bool) → ltb 1 j ≡ t → cond t (treads (cross_edge b (j - 1))) 0 ≡ treads (cross_edge b (j - 1))
      go true e = refl
      go false e = let l = ltb-false 1 j e in let s : 0 ≡ j - 1 = omega arith in sym n ∙ ap (λ (i : ℕ). treads (cross_edge b i)) s

  cross_right : (b : Bool) → j ≤ z.aisles → treads (cross_edge b z.aisles) ≡ 0 → share z treads (crossing_at b) Right ≡ treads (cross_edge b j)
  unfolding can_step step_edge
  cross_right b h n = let c = level_crossing z (crossing_at b) b refl in rw (c.0, c.1) (go (ltb j z.aisles) refl)
    where
      go : (t : Bool) → ltb j z.aisles ≡ t → cond t (treads (cross_edge b j)) 0 ≡ treads (cross_edge b j)
      go true e = refl
      go false e = let l = ltb-false j z.aisles e in let s : z.aisles ≡ j = omega arith in sym n ∙ ap (λ (i : ℕ). treads (cross_edge b i)) s

  up_back : (c : ℕ) → c ≤ z.cells → share z treads (cell_at c) Back ≡ treads (along j c)
  unfolding can_step step_edge back_height
  up_back c h = rw (lt-ltb c (suc z.cells) (omega arith))

  down_front : (c : ℕ) → 1 ≤ c → share z treads (cell_at c) Front ≡ treads (along j (c - 1))
  unfolding can_step step_edge
  down_front c h = rw (lt-ltb 0 c h)

  -- the degree of a cell
  pub degree_cell : (c : ℕ) → 1 ≤ c → c ≤ z.cells → degree z treads (cell_at c) ≡ treads (along j (c - 1)) + treads (along j c)
  degree_cell c p q = omega (arith, up_back c q, down_front c p, side_left, side_right)
    where
      inner : is_crossing z (cell_at c) ≡ false
      inner = unfold is_crossing back_height in rw (ne_eqb c 0 (omega arith), ne_eqb c (suc z.cells) (omega arith))

      side_left : share z treads (cell_at c) Left ≡ 0
      side_left = unfold can_step in rw inner

      side_right : share z treads (cell_at c) Right ≡ 0
      side_right = unfold can_step in rw inner

  module _ (low : 1 ≤ j) (high : j ≤ z.aisles) where
    degree_front : treads (front 0) ≡ 0 → treads (front z.aisles) ≡ 0 → degree z treads (cell_at 0) ≡ front_degree treads j
    unfolding front_degree
    degree_front p q = omega (arith, up_back 0 (omega arith), front_end, cross_left true low p, cross_right true high q)
      where
        front_end : share z treads (cell_at 0) Front ≡ 0
        front_end = unfold can_step in refl

    degree_back : treads (back 0) ≡ 0 → treads (back z.aisles) ≡ 0 → degree z treads (cell_at (suc z.cells)) ≡ back_degree z treads j
    unfolding back_degree
    degree_back p q =
        let s : suc z.cells - 1 ≡ z.cells = omega arith in
        omega (arith, back_end, down_front (suc z.cells) (omega arith), ap (λ (k : ℕ). treads (along j k)) s, cross_left false low p, cross_right false high q)
      where
        back_end : share z treads (cell_at (suc z.cells)) Back ≡ 0
        back_end = unfold can_step back_height in rw (le-ltb (suc z.cells) (suc z.cells) (omega arith))

-- past its end a list has nothing
pub nth_past : {A : Type 0} (xs : List A) (j : ℕ) (d : A) → length xs < j → nth xs j d ≡ d
nth_past xs zero d h = refl
nth_past [] (suc j) d h = refl
nth_past (x ∷ xs) (suc zero) d h = absurd (omega arith)
nth_past (x ∷ xs) (suc (suc j)) d h = nth_past xs (suc j) d (omega arith)

module _ (z : Layout) (plan : Plan) (wf : WellFormed z plan) where
  last_passage : passage_at plan z.aisles ≡ P00
  unfolding passage_at
  last_passage = nth_past plan.passages z.aisles P00 (let h = wf.passages in omega arith)

  -- the degrees of a plan's crossings are those of the definition
  pub plan_front : (j : ℕ) → 1 ≤ j → j ≤ z.aisles → degree z (multiplicity plan) (record { aisle = j; height = 0 }) ≡ front_degree (multiplicity plan) j
  unfolding multiplicity passage_at
  plan_front j p q = degree_front z (multiplicity plan) j p q refl (rw last_passage)

  pub plan_back : (j : ℕ) → 1 ≤ j → j ≤ z.aisles → degree z (multiplicity plan) (record { aisle = j; height = suc z.cells }) ≡ back_degree z (multiplicity plan) j
  unfolding multiplicity passage_at
  plan_back j p q = degree_back z (multiplicity plan) j p q refl (rw last_passage)

double_even : (b : Bool) → cond {A = ℕ} b 2 0 % 2 ≡ 0
double_even true = refl
double_even false = refl

-- in one aisle a plan treads all edges oddly or all evenly
pub treads_alike : (a : Action) (h k : ℕ) → (aisle_treads a h + aisle_treads a k) % 2 ≡ 0
treads_alike Void h k = refl
treads_alike (Bottom i) h k = omega (arith, double_even (ltb h i), double_even (ltb k i))
treads_alike (Top i) h k = omega (arith, double_even (leb i h), double_even (leb i k))
treads_alike (Gap g i) h k = omega (arith, double_even (ltb h g || leb i h), double_even (ltb k g || leb i k))
treads_alike Once h k = refl
treads_alike Twice h k = refl

-- a property of all points of the store, shown for front crossings, cells and back crossings
pub each_point : (z : Layout) (P : Point → Type 0)
    → ((j : ℕ) → 1 ≤ j → j ≤ z.aisles → P (record { aisle = j; height = 0 }))
    → ((j c : ℕ) → 1 ≤ j → j ≤ z.aisles → 1 ≤ c → c ≤ z.cells → P (record { aisle = j; height = c }))
    → ((j : ℕ) → 1 ≤ j → j ≤ z.aisles → P (record { aisle = j; height = suc z.cells }))
    → (p : Point) → PointOf z p → P p
each_point z P f c b p o =
    elim (none_or_some p.height) [
      | inl e ↦ subst (λ (h : ℕ). P (record { aisle = p.aisle; height = h })) (sym e) (f p.aisle o.first o.last)
      | inr s ↦ elim (equal_or_below p.height (suc z.cells) o.high) [
        | inl e ↦ subst (λ (h : ℕ). P (record { aisle = p.aisle; height = h })) (sym e) (b p.aisle o.first o.last)
        | inr l ↦ c p.aisle p.height o.first o.last s (omega arith)
      ]
    ]
