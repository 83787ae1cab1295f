-- The store as a graph: what a step does, and what one edge adds to the degrees of its two ends.
use Prim.Native.Nat.{ℕ, suc, ◌+◌, ◌-◌, ◌≤◌, ◌<◌}
use native.Mathlib.Omega.{arith}
use mathlib.Core.Path.{◌≡◌, refl, sym, ap, ap₂, ◌∙◌, subst}
use mathlib.Core.Logic.{◌⊎◌, inl, inr}
use mathlib.Core.Bool.{Bool, true, false, cond, ◌&&◌, ◌||◌}
use lib.Dec.{ltb, eqb}
use borrow.Author.Tests.{ltb-true, eqb-true, lt-ltb, eq-eqb, ne_eqb}
use Rattle.rules.specs.declared.Layout.{Layout}
use Rattle.rules.specs.declared.Direction.{Direction}
use Rattle.rules.specs.declared.Direction.TheVariants.{Back, Front, Left, Right}
use Rattle.rules.specs.Store.{Point, Edge, along, front, back, start_of, end_of, Joins, InStore, back_height, same_edge, same_point}
use Rattle.rules.specs.Walks.{can_step, step_to, step_edge, is_crossing, cross_edge, one}
use Rattle.rules.proofs.WalkOrder.{same_point_lem, point_same}
use Rattle.closedwalks.specs.Ways.{PointOf, share, degree, same}

-- both parts of a conjunction of tests
pub both_true : (a b : Bool) → (a && b) ≡ true → (a ≡ true) × (b ≡ true)
both_true true b h = (refl, h)
both_true false b h = (h, absurd (let bad : ◌≡◌ {A = ℕ} 0 1 = cc in omega arith))

pub true_both : (a b : Bool) → a ≡ true → b ≡ true → (a && b) ≡ true
true_both a b p q = cc

two_equal : (a b c d : ℕ) → (eqb a b && eqb c d) ≡ true → (a ≡ b) × (c ≡ d)
two_equal a b c d h = let t = both_true (eqb a b) (eqb c d) h in (eqb-true a b t.0, eqb-true c d t.1)

equal_two : (a b c d : ℕ) → a ≡ b → c ≡ d → (eqb a b && eqb c d) ≡ true
equal_two a b c d p q = true_both (eqb a b) (eqb c d) (eq-eqb a b p) (eq-eqb c d q)

-- one behind a test is one where both tests hold
sift : (p q r : Bool) → (p ≡ true → q ≡ true → r ≡ true) → (r ≡ true → (p ≡ true) × (q ≡ true)) → cond p (cond q 1 0) 0 ≡ cond {A = ℕ} r 1 0
sift true true r f g = rw (f refl refl)
sift true false true f g = absurd (let bad : ◌≡◌ {A = ℕ} 0 1 = cc (g refl).1 in omega arith)
sift true false false f g = refl
sift false q true f g = absurd (let bad : ◌≡◌ {A = ℕ} 0 1 = cc (g refl).0 in omega arith)
sift false q false f g = refl

pub cond_none : (p : Bool) → cond {A = ℕ} p 0 0 ≡ 0
cond_none true = refl
cond_none false = refl

-- two points are the same, or they are told apart
pub point_split : (x y : Point) → ((x ≡ y) × (same x y ≡ 1)) ⊎ ((same x y ≡ 0) × (x ≡ y → ⊥))
unfolding same same_point
point_split x y = go (same_point x y) refl
  where
    go : (b : Bool) → same_point x y ≡ b → ((x ≡ y) × (same x y ≡ 1)) ⊎ ((same x y ≡ 0) × (x ≡ y → ⊥))
    go true h = inl (same_point_lem x y h, rw h)
    go false h = inr (rw h, λ e. let bad : ◌≡◌ {A = ℕ} 0 1 = cc (point_same x y e) in omega arith)

pub same_refl : (x : Point) → same x x ≡ 1
unfolding same
same_refl x = rw (point_same x x refl)

-- two edges are the same, or they are told apart
same_edge_refl : (e : Edge) → same_edge e e ≡ true
unfolding same_edge
same_edge_refl (along j k) = equal_two j j k k refl refl
same_edge_refl (front j) = eq-eqb j j refl
same_edge_refl (back j) = eq-eqb j j refl

same_edge_lem : (e f : Edge) → same_edge e f ≡ true → e ≡ f
unfolding same_edge
same_edge_lem (along i h) (along j k) t = let u = two_equal i j h k t in ap₂ along u.0 u.1
same_edge_lem (along i h) (front j) t = cc
same_edge_lem (along i h) (back j) t = cc
same_edge_lem (front i) (along j k) t = cc
same_edge_lem (front i) (front j) t = ap front (eqb-true i j t)
same_edge_lem (front i) (back j) t = cc
same_edge_lem (back i) (along j k) t = cc
same_edge_lem (back i) (front j) t = cc
same_edge_lem (back i) (back j) t = ap back (eqb-true i j t)

pub edge_split : (e f : Edge) → ((e ≡ f) × (one e f ≡ 1)) ⊎ ((one e f ≡ 0) × (e ≡ f → ⊥))
unfolding one
edge_split e f = go (same_edge e f) refl
  where
    go : (b : Bool) → same_edge e f ≡ b → ((e ≡ f) × (one e f ≡ 1)) ⊎ ((one e f ≡ 0) × (e ≡ f → ⊥))
    go true h = inl (same_edge_lem e f h, rw h)
    go false h = inr (rw h, λ p. let bad : ◌≡◌ {A = ℕ} 0 1 = cc (same_edge_refl f) in omega arith)

pub one_refl : (e : Edge) → one e e ≡ 1
unfolding one
one_refl e = rw same_edge_refl

pub one_sym : (e f : Edge) → one e f ≡ one f e
one_sym e f = go (edge_split e f) (edge_split f e)
  where
    go : ((e ≡ f) × (one e f ≡ 1)) ⊎ ((one e f ≡ 0) × (e ≡ f → ⊥)) → ((f ≡ e) × (one f e ≡ 1)) ⊎ ((one f e ≡ 0) × (f ≡ e → ⊥)) → one e f ≡ one f e
    go (inl p) (inl q) = cc
    go (inl p) (inr q) = absurd (q.1 (sym p.0))
    go (inr p) (inl q) = absurd (p.1 (sym q.0))
    go (inr p) (inr q) = cc

-- the height of the front crossings (true) or of the back ones
abbrev pub level : Layout → Bool → ℕ
level z true = 0
level z false = suc z.cells

start_cross : (z : Layout) (b : Bool) (j : ℕ) → start_of z (cross_edge b j) ≡ record { aisle = j; height = level z b }
unfolding start_of back_height
start_cross z true j = refl
start_cross z false j = refl

end_cross : (z : Layout) (b : Bool) (j : ℕ) → end_of z (cross_edge b j) ≡ record { aisle = suc j; height = level z b }
unfolding end_of back_height
end_cross z true j = refl
end_cross z false j = refl

in_cross : (z : Layout) (b : Bool) (j : ℕ) → 1 ≤ j → j < z.aisles → InStore z (cross_edge b j)
unfolding InStore
in_cross z true j p q = (p, q)
in_cross z false j p q = (p, q)

-- a crossing stands at the level of the cross-aisle that its test names
crossing_level : (z : Layout) (x : Point) (b : Bool) → is_crossing z x ≡ true → eqb x.height 0 ≡ b → x.height ≡ level z b
unfolding is_crossing back_height
crossing_level z x true c h = eqb-true x.height 0 h
crossing_level z x false c h = eqb-true x.height (suc z.cells) (subst (λ (t : Bool). (t || eqb x.height (suc z.cells)) ≡ true) h c)

pub level_crossing : (z : Layout) (x : Point) (b : Bool) → x.height ≡ level z b → (is_crossing z x ≡ true) × (eqb x.height 0 ≡ b)
unfolding is_crossing back_height
level_crossing z x true h = let t = eq-eqb x.height 0 h in (rw t, t)
level_crossing z x false h =
    let t = ne_eqb x.height 0 (omega arith) in
    let u = eq-eqb x.height (suc z.cells) h in
    (rw (t, u), t)

cross_same : (b c : Bool) (i j : ℕ) → same_edge (cross_edge b i) (cross_edge c j) ≡ true → (b ≡ c) × (i ≡ j)
unfolding same_edge
cross_same true true i j h = (refl, eqb-true i j h)
cross_same true false i j h = (sym h, absurd (let bad : ◌≡◌ {A = ℕ} 0 1 = cc in omega arith))
cross_same false true i j h = (h, absurd (let bad : ◌≡◌ {A = ℕ} 0 1 = cc in omega arith))
cross_same false false i j h = (refl, eqb-true i j h)

same_cross : (b c : Bool) (i j : ℕ) → b ≡ c → i ≡ j → same_edge (cross_edge b i) (cross_edge c j) ≡ true
same_cross b c i j p q = rw (p, q) (same_edge_refl (cross_edge c j))

along_cross : (b : Bool) (i j k : ℕ) → same_edge (along j k) (cross_edge b i) ≡ false
unfolding same_edge
along_cross true i j k = refl
along_cross false i j k = refl

cross_along : (b : Bool) (i j k : ℕ) → same_edge (cross_edge b i) (along j k) ≡ false
unfolding same_edge
cross_along true i j k = refl
cross_along false i j k = refl

-- what one edge adds to the share of each letter: its ends have one each
module _ (z : Layout) (y : Point) where
  along_back : (j k : ℕ) → k ≤ z.cells → share z (λ f. one f (along j k)) y Back ≡ same y (record { aisle = j; height = k })
  unfolding one same same_point can_step step_edge back_height same_edge
  along_back j k h =
      let within = eqb y.aisle j && eqb y.height k in
      sift (ltb y.height (suc z.cells)) within within (λ p q. q)
      (λ r. (lt-ltb y.height (suc z.cells) (let t = two_equal y.aisle j y.height k r in omega arith), r))

  along_front : (j k : ℕ) → share z (λ f. one f (along j k)) y Front ≡ same y (record { aisle = j; height = suc k })
  unfolding one same same_point can_step step_edge same_edge
  along_front j k =
      sift (ltb 0 y.height) (eqb y.aisle j && eqb (y.height - 1) k) (eqb y.aisle j && eqb y.height (suc k))
      (λ p q. let t = two_equal y.aisle j (y.height - 1) k q in let u = ltb-true 0 y.height p in equal_two y.aisle j y.height (suc k) t.0 (omega arith))
      (λ r. let t = two_equal y.aisle j y.height (suc k) r in (lt-ltb 0 y.height (omega arith), equal_two y.aisle j (y.height - 1) k t.0 (omega arith)))

  along_left : (j k : ℕ) → share z (λ f. one f (along j k)) y Left ≡ 0
  unfolding one step_edge
  along_left j k = rw (cross_along (eqb y.height 0) (y.aisle - 1) j k) (cond_none (can_step z y Left))

  along_right : (j k : ℕ) → share z (λ f. one f (along j k)) y Right ≡ 0
  unfolding one step_edge
  along_right j k = rw (cross_along (eqb y.height 0) y.aisle j k) (cond_none (can_step z y Right))

  cross_back : (b : Bool) (j : ℕ) → share z (λ f. one f (cross_edge b j)) y Back ≡ 0
  unfolding one step_edge
  cross_back b j = rw (along_cross b j y.aisle y.height) (cond_none (can_step z y Back))

  cross_front : (b : Bool) (j : ℕ) → share z (λ f. one f (cross_edge b j)) y Front ≡ 0
  unfolding one step_edge
  cross_front b j = rw (along_cross b j y.aisle (y.height - 1)) (cond_none (can_step z y Front))

  -- a crossing that stands on the edge's cross-aisle
  crossing : (b t : Bool) (i j a : ℕ) → (t ≡ true → i ≡ j → y.aisle ≡ a) → (y.aisle ≡ a → (t ≡ true) × (i ≡ j))
      → cond (is_crossing z y && t) (one (cross_edge (eqb y.height 0) i) (cross_edge b j)) 0 ≡ same y (record { aisle = a; height = level z b })
  unfolding one same same_point
  crossing b t i j a to fro =
      sift (is_crossing z y && t) (same_edge (cross_edge (eqb y.height 0) i) (cross_edge b j)) (eqb y.aisle a && eqb y.height (level z b))
      (λ p q. let u = both_true (is_crossing z y) t p in let v = cross_same (eqb y.height 0) b i j q in
      equal_two y.aisle a y.height (level z b) (to u.1 v.1) (crossing_level z y b u.0 v.0))
      (λ r. let u = two_equal y.aisle a y.height (level z b) r in let v = level_crossing z y b u.1 in let w = fro u.0 in
      (true_both (is_crossing z y) t v.0 w.0, same_cross (eqb y.height 0) b i j v.1 w.1))

  cross_left : (b : Bool) (j : ℕ) → 1 ≤ j → share z (λ f. one f (cross_edge b j)) y Left ≡ same y (record { aisle = suc j; height = level z b })
  unfolding can_step step_edge
  cross_left b j h =
      crossing b (ltb 1 y.aisle) (y.aisle - 1) j (suc j) (λ t e. let u = ltb-true 1 y.aisle t in omega arith) (λ e. (lt-ltb 1 y.aisle (omega arith), omega arith))

  cross_right : (b : Bool) (j : ℕ) → j < z.aisles → share z (λ f. one f (cross_edge b j)) y Right ≡ same y (record { aisle = j; height = level z b })
  unfolding can_step step_edge
  cross_right b j h =
      crossing b (ltb y.aisle z.aisles) y.aisle j j (λ t e. e) (λ e. (lt-ltb y.aisle z.aisles (omega arith), e))

  degree_cross : (b : Bool) (j : ℕ) → 1 ≤ j → j < z.aisles → degree z (λ f. one f (cross_edge b j)) y ≡ same y (start_of z (cross_edge b j)) + same y (end_of z (cross_edge b j))
  degree_cross b j p q = rw (start_cross, end_cross) (omega (arith, cross_back b j, cross_front b j, cross_left b j p, cross_right b j q))

  -- an edge of the store adds one to the degree of each of its ends
  pub degree_one : (e : Edge) → InStore z e → degree z (λ f. one f e) y ≡ same y (start_of z e) + same y (end_of z e)
  unfolding InStore
  degree_one (along j k) h = let fit : k ≤ z.cells = omega arith in unfold start_of end_of in omega (arith, along_back j k fit, along_front j k, along_left j k, along_right j k)
  degree_one (front j) h = degree_cross true j h.0 h.1
  degree_one (back j) h = degree_cross false j h.0 h.1

-- a step along the edge e from x to y
pub record StepBy (z : Layout) (e : Edge) (x y : Point) : Type 0 where
  pub letter : Direction
  pub can : can_step z x letter ≡ true
  pub by : step_edge x letter ≡ e
  pub to : step_to x letter ≡ y

module _ (z : Layout) where
  cross_right_step : (b : Bool) (j : ℕ) → j < z.aisles → StepBy z (cross_edge b j) (record { aisle = j; height = level z b }) (record { aisle = suc j; height = level z b })
  unfolding can_step step_edge step_to
  cross_right_step b j h =
      let x : Point = record { aisle = j; height = level z b } in
      let c = level_crossing z x b refl in
      record { letter = Right; can = true_both (is_crossing z x) (ltb j z.aisles) c.0 (lt-ltb j z.aisles h); by = ap (λ (t : Bool). cross_edge t j) c.1; to = refl }

  cross_left_step : (b : Bool) (j : ℕ) → 1 ≤ j → StepBy z (cross_edge b j) (record { aisle = suc j; height = level z b }) (record { aisle = j; height = level z b })
  unfolding can_step step_edge step_to
  cross_left_step b j h =
      let x : Point = record { aisle = suc j; height = level z b } in
      let c = level_crossing z x b refl in
      let s : suc j - 1 ≡ j = omega arith in
      record {
        letter = Left;
        can = true_both (is_crossing z x) (ltb 1 (suc j)) c.0 (lt-ltb 1 (suc j) (omega arith));
        by = ap₂ cross_edge c.1 s;
        to = λ i. record { aisle = s i; height = level z b };
      }

  -- each edge of the store can be stepped along, either way
  pub step_forth : (e : Edge) → InStore z e → StepBy z e (start_of z e) (end_of z e)
  unfolding can_step step_edge step_to InStore start_of end_of back_height
  step_forth (along j k) h = record { letter = Back; can = lt-ltb k (suc z.cells) (omega arith); by = refl; to = refl }
  step_forth (front j) h = cross_right_step true j h.1
  step_forth (back j) h = cross_right_step false j h.1

  step_back : (e : Edge) → InStore z e → StepBy z e (end_of z e) (start_of z e)
  unfolding can_step step_edge step_to InStore start_of end_of back_height
  step_back (along j k) h =
      let s : suc k - 1 ≡ k = omega arith in
      record { letter = Front; can = lt-ltb 0 (suc k) (omega arith); by = ap (along j) s; to = λ i. record { aisle = j; height = s i } }
  step_back (front j) h = cross_left_step true j h.0
  step_back (back j) h = cross_left_step false j h.0

  pub step_along : (e : Edge) (x y : Point) → InStore z e → Joins z e x y → StepBy z e x y
  unfolding Joins
  step_along e x y h (inl j) = rw (j.0, j.1) (step_forth e h)
  step_along e x y h (inr j) = rw (j.0, j.1) (step_back e h)

-- what a step from a point of the store does
pub record Stepped (z : Layout) (x : Point) (d : Direction) : Type 0 where
  pub edge : InStore z (step_edge x d)
  pub end : PointOf z (step_to x d)
  pub joins : Joins z (step_edge x d) x (step_to x d)

module _ (z : Layout) (x : Point) (p : PointOf z x) where
  step_cross_right : is_crossing z x ≡ true → x.aisle < z.aisles → Stepped z x Right
  unfolding step_edge step_to Joins
  step_cross_right c h =
      let b = eqb x.height 0 in
      let l = crossing_level z x b c refl in
      record {
        edge = in_cross z b x.aisle p.first h;
        end = record { first = omega arith; last = h; high = p.high };
        joins = inl ((λ i. record { aisle = x.aisle; height = l i }) ∙ sym (start_cross z b x.aisle), (λ i. record { aisle = suc x.aisle; height = l i }) ∙ sym (end_cross z b x.aisle));
      }

  step_cross_left : is_crossing z x ≡ true → 1 < x.aisle → Stepped z x Left
  unfolding step_edge step_to Joins
  step_cross_left c h =
      let b = eqb x.height 0 in
      let l = crossing_level z x b c refl in
      let s : suc (x.aisle - 1) ≡ x.aisle = omega arith in
      let m = p.last in
      record {
        edge = in_cross z b (x.aisle - 1) (omega arith) (omega arith);
        end = record { first = omega arith; last = omega arith; high = p.high };
        joins = inr ((λ i. record { aisle = x.aisle - 1; height = l i }) ∙ sym (start_cross z b (x.aisle - 1)), (λ i. record { aisle = sym s i; height = l i }) ∙ sym (end_cross z b (x.aisle - 1)));
      }

  pub stepped : (d : Direction) → can_step z x d ≡ true → Stepped z x d
  unfolding can_step step_edge step_to Joins InStore start_of end_of back_height
  stepped Back h =
      let u = ltb-true x.height (suc z.cells) h in
      record { edge = (p.first, p.last, omega arith); end = record { first = p.first; last = p.last; high = omega arith }; joins = inl (refl, refl) }
  stepped Front h =
      let u = ltb-true 0 x.height h in
      let s : x.height ≡ suc (x.height - 1) = omega arith in
      let m = p.high in
      record { edge = (p.first, p.last, omega arith); end = record { first = p.first; last = p.last; high = omega arith }; joins = inr (refl, λ i. record { aisle = x.aisle; height = s i }) }
  stepped Left h = let u = both_true (is_crossing z x) (ltb 1 x.aisle) h in step_cross_left u.0 (ltb-true 1 x.aisle u.1)
  stepped Right h = let u = both_true (is_crossing z x) (ltb x.aisle z.aisles) h in step_cross_right u.0 (ltb-true x.aisle z.aisles u.1)
