-- The order of the walk: the picks rearranged, each where the walk first reaches its cell.
use Prim.Native.Nat.{ℕ, zero, suc, ◌≤◌, ◌<◌}
use native.Mathlib.Omega.{arith}
use mathlib.Core.Path.{◌≡◌, refl, sym, ◌∙◌, ap, ap₂, subst}
use mathlib.Core.Logic.{◌⊎◌, inl, inr}
use mathlib.Core.List.Memᴰ
use mathlib.Core.List.{List, [], ◌∷◌, ◌++◌, Memᴰ}
use mathlib.Core.List.Permᴰ
use mathlib.Core.List.{Permᴰ}
use mathlib.Core.Bool.{Bool, true, false, cond, not, ◌||◌, true≢false, false≢true, and-eq-true_iff}
use borrow.Author.Tests.{eqb-true, eq-eqb, not-true}
use lib.Dec.{eqb}
use lib.ListN.{length}
use Rattle.rules.specs.declared.Layout.{Layout}
use Rattle.rules.specs.declared.Pick.{Pick}
use Rattle.rules.specs.Lists.{any_of, select, nth, Sorted}
use Rattle.rules.specs.Store.{Point, depot_point, same_point}
use Rattle.rules.specs.Walks.{Walk, step_to, walk_points, walk_passes}
use Rattle.rules.specs.Page.{pick_cell, picked_at, in_order_of, along_walk, FirstStep, ReachedBefore}
use Rattle.rules.proofs.Lists.{member_select, sorted_imply, sorted_append, sorted_select}

module _ {A : Type 0} where
  -- what a test selects and what it leaves are the whole list, rearranged
  pub select_parts : (t : A → Bool) (xs : List A) → Permᴰ (select t xs ++ select (λ x. not (t x)) xs) xs
  select_parts t [] = Permᴰ.nil
  select_parts t (x ∷ xs) = go (t x) (select_parts t xs)
    where
      held : List A
      held = select t xs

      left : List A
      left = select (λ y. not (t y)) xs

      go : (b : Bool) → Permᴰ (held ++ left) xs → Permᴰ (cond b (x ∷ held) held ++ cond (not b) (x ∷ left) left) (x ∷ xs)
      go true p = Permᴰ.cons refl p
      go false p = Permᴰ.trans (Permᴰ.middle x held left) (Permᴰ.cons refl p)

  -- a list rearranged has the same members
  pub perm_member : {x : A} {xs ys : List A} → Permᴰ xs ys → Memᴰ x xs → Memᴰ x ys
  perm_member Permᴰ.nil m = m
  perm_member (Permᴰ.cons e p) (Memᴰ.head h) = Memᴰ.head (h ∙ e)
  perm_member (Permᴰ.cons e p) (Memᴰ.tail m) = Memᴰ.tail (perm_member p m)
  perm_member (Permᴰ.swap e f) (Memᴰ.head h) = Memᴰ.tail (Memᴰ.head (h ∙ e))
  perm_member (Permᴰ.swap e f) (Memᴰ.tail (Memᴰ.head h)) = Memᴰ.head (h ∙ f)
  perm_member (Permᴰ.swap e f) (Memᴰ.tail (Memᴰ.tail m)) = Memᴰ.tail (Memᴰ.tail m)
  perm_member (Permᴰ.trans p q) m = perm_member q (perm_member p m)

  -- and as many
  pub perm_length : {xs ys : List A} → Permᴰ xs ys → length xs ≡ length ys
  perm_length Permᴰ.nil = refl
  perm_length (Permᴰ.cons e p) = ap suc (perm_length p)
  perm_length (Permᴰ.swap e f) = refl
  perm_length (Permᴰ.trans p q) = perm_length p ∙ perm_length q

  -- sorted by one relation, so by one that follows from it among such elements
  sorted_among : (P : A → Type 0) (R S : A → A → Type 0) → ((x y : A) → P x → P y → R x y → S x y) → (xs : List A) → ((x : A) → Memᴰ x xs → P x) → Sorted R xs → Sorted S xs
  sorted_among P R S h [] all s = s
  sorted_among P R S h (x ∷ xs) all s =
      (λ y m. h x y (all x (Memᴰ.head refl)) (all y (Memᴰ.tail m)) (s.0 y m), sorted_among P R S h xs (λ y m. all y (Memᴰ.tail m)) s.1)

  -- two lists of the same elements, sorted by a relation that holds one way only, are the same list
  same_sorted : (R : A → A → Type 0) (xs ys : List A) → ((x y : A) → Memᴰ x xs → Memᴰ y xs → R x y → R y x → ⊥)
      → ((x : A) → Memᴰ x xs → Memᴰ x ys) → ((x : A) → Memᴰ x ys → Memᴰ x xs) → Sorted R xs → Sorted R ys → xs ≡ ys
  same_sorted R [] [] one_way there back s r = refl
  same_sorted R [] (y ∷ ys) one_way there back s r = absurd (Memᴰ.not-nil (back y (Memᴰ.head refl)))
  same_sorted R (x ∷ xs) [] one_way there back s r = absurd (Memᴰ.not-nil (there x (Memᴰ.head refl)))
  same_sorted R (x ∷ xs) (y ∷ ys) one_way there back s r =
      ap₂ ◌∷◌ first
      (same_sorted R xs ys (λ v w l m. one_way v w (Memᴰ.tail l) (Memᴰ.tail m))
      (λ v m. ahead v m (there v (Memᴰ.tail m))) (λ v m. behind v m (back v (Memᴰ.tail m))) s.1 r.1)
    where
      -- the first elements are the same: else each would stand before the other
      heads : Memᴰ x (y ∷ ys) → Memᴰ y (x ∷ xs) → x ≡ y
      heads (Memᴰ.head e) m = e
      heads (Memᴰ.tail l) (Memᴰ.head e) = sym e
      heads (Memᴰ.tail l) (Memᴰ.tail m) = absurd (one_way x y (Memᴰ.head refl) (Memᴰ.tail m) (s.0 y m) (r.0 x l))

      first : x ≡ y
      first = heads (there x (Memᴰ.head refl)) (back y (Memᴰ.head refl))

      -- the first stands nowhere else
      once : R x x → ⊥
      once h = one_way x x (Memᴰ.head refl) (Memᴰ.head refl) h h

      -- so the rests have the same elements
      ahead : (v : A) → Memᴰ v xs → Memᴰ v (y ∷ ys) → Memᴰ v ys
      ahead v l (Memᴰ.head e) = absurd (once (subst (R x) (e ∙ sym first) (s.0 v l)))
      ahead v l (Memᴰ.tail m) = m

      behind : (v : A) → Memᴰ v ys → Memᴰ v (x ∷ xs) → Memᴰ v xs
      behind v l (Memᴰ.head e) = absurd (once (subst (λ w. R w x) (sym first) (subst (R y) e (r.0 v l))))
      behind v l (Memᴰ.tail m) = m

-- the same point, as a test and as an equation
pub same_point_lem : (x y : Point) → same_point x y ≡ true → x ≡ y
unfolding same_point
same_point_lem x y h =
    let u = (and-eq-true_iff (eqb x.aisle y.aisle) (eqb x.height y.height)).0 h in
    let a = eqb-true x.aisle y.aisle u.0 in
    let c = eqb-true x.height y.height u.1 in
    λ i. record { aisle = a i; height = c i }

pub point_same : (x y : Point) → x ≡ y → same_point x y ≡ true
unfolding same_point
point_same x y e = rw (eq-eqb x.aisle y.aisle (ap (λ (p : Point). p.aisle) e), eq-eqb x.height y.height (ap (λ (p : Point). p.height) e))

-- a point stands in the list at the n-th place, counted from 1, and at none before it
data First (p : Point) : List Point → ℕ → Type 0 where
  here : {q : Point} {ps : List Point} → p ≡ q → First p (q ∷ ps) 1
  later : {q : Point} {ps : List Point} {n : ℕ} → (p ≡ q → ⊥) → First p ps n → First p (q ∷ ps) (suc n)

-- what stands behind the first element
nth_behind : {A : Type 0} (d x : A) (xs : List A) (k : ℕ) → 1 ≤ k → nth (x ∷ xs) (suc k) d ≡ nth xs k d
nth_behind d x xs zero h = absurd (omega arith)
nth_behind d x xs (suc k) h = refl

-- the walk has as many points as steps
points_length : (x : Point) (walk : Walk) → length (walk_points x walk) ≡ length walk
points_length x [] = refl
points_length x (d ∷ ds) = ap suc (points_length (step_to x d) ds)

-- the first step to a point: where the point first stands in the list
step_first : (d p : Point) (ps : List Point) (n : ℕ) → 1 ≤ n → n ≤ length ps → nth ps n d ≡ p → ((k : ℕ) → 1 ≤ k → k < n → nth ps k d ≡ p → ⊥) → First p ps n
step_first d p [] n low high e before = absurd (omega arith)
step_first d p (q ∷ ps) zero low high e before = absurd (omega arith)
step_first d p (q ∷ ps) (suc zero) low high e before = here (sym e)
step_first d p (q ∷ ps) (suc (suc j)) low high e before =
    later (λ h. before 1 (omega arith) (omega arith) (sym h))
    (step_first d p ps (suc j) (omega arith) (omega arith) e (λ k l m h. before (suc k) (omega arith) (omega arith) (nth_behind d q ps k l ∙ h)))

-- and the other way round
first_step : (d : Point) {p : Point} {ps : List Point} {n : ℕ} → First p ps n → (1 ≤ n) × (n ≤ length ps) × (nth ps n d ≡ p) × ((k : ℕ) → 1 ≤ k → k < n → nth ps k d ≡ p → ⊥)
first_step d (here e) = (omega arith, omega arith, sym e, λ k l m h. omega arith)
first_step d {p} (later {q} {ps} {n} u f) =
    let (low, high, e, before) = first_step d f in
    (omega arith, omega arith, nth_behind d q ps n low ∙ e, go before)
  where
    go : ((k : ℕ) → 1 ≤ k → k < n → nth ps k d ≡ p → ⊥) → (k : ℕ) → 1 ≤ k → k < suc n → nth (q ∷ ps) k d ≡ p → ⊥
    go before zero l m h = omega arith
    go before (suc zero) l m h = u (sym h)
    go before (suc (suc k)) l m h = before (suc k) (omega arith) (omega arith) h

-- a point of the list has a first place
point_first : (p : Point) (ps : List Point) → any_of (same_point p) ps ≡ true → (n : ℕ) × First p ps n
point_first p [] h = absurd (false≢true h)
point_first p (q ∷ ps) h = go (same_point p q) refl h (point_first p ps)
  where
    go : (b : Bool) → same_point p q ≡ b → (b || any_of (same_point p) ps) ≡ true → (any_of (same_point p) ps ≡ true → (n : ℕ) × First p ps n) → (n : ℕ) × First p (q ∷ ps) n
    go true e t rest = (1, here (same_point_lem p q e))
    go false e t rest = let (n, f) = rest t in (suc n, later (λ u. true≢false (sym (point_same p q u) ∙ e)) f)

-- a point with a first place is a member
first_among : {p : Point} {ps : List Point} {n : ℕ} → First p ps n → Memᴰ p ps
first_among (here e) = Memᴰ.head e
first_among (later u f) = Memᴰ.tail (first_among f)

-- the picks that are left for later points have their cells elsewhere
left_elsewhere : (p : Point) (picks : List Pick) (x : Pick) → Memᴰ x (select (λ y. not (picked_at p y)) picks) → Memᴰ x picks × (pick_cell x ≡ p → ⊥)
unfolding picked_at
left_elsewhere p picks x m =
    let (l, e) = (member_select (λ y. not (picked_at p y)) picks).0 m in
    (l, λ h. true≢false (sym (point_same p (pick_cell x) (sym h)) ∙ not-true (picked_at p x) e))

-- in the order of the points there are only the picks
ordered_member : (ps : List Point) (picks : List Pick) (x : Pick) → Memᴰ x (in_order_of ps picks) → Memᴰ x picks
ordered_member [] picks x m = absurd (Memᴰ.not-nil m)
ordered_member (p ∷ ps) picks x m = go (Memᴰ.append_cases (select (picked_at p) picks) m) (ordered_member ps (select (λ y. not (picked_at p y)) picks) x)
  where
    left : List Pick
    left = select (λ y. not (picked_at p y)) picks

    go : Memᴰ x (select (picked_at p) picks) ⊎ Memᴰ x (in_order_of ps left) → (Memᴰ x (in_order_of ps left) → Memᴰ x left) → Memᴰ x picks
    go (inl l) rest = ((member_select (picked_at p) picks).0 l).0
    go (inr l) rest = (left_elsewhere p picks x (rest l)).0

-- picks whose cells are among the points are all there, rearranged
ordered_rearranged : (ps : List Point) (picks : List Pick) → ((x : Pick) → Memᴰ x picks → Memᴰ (pick_cell x) ps) → Permᴰ (in_order_of ps picks) picks
ordered_rearranged [] [] all = Permᴰ.nil
ordered_rearranged [] (x ∷ picks) all = absurd (Memᴰ.not-nil (all x (Memᴰ.head refl)))
ordered_rearranged (p ∷ ps) picks all =
    Permᴰ.trans (Permᴰ.append_left (select (picked_at p) picks) (ordered_rearranged ps (select (λ y. not (picked_at p y)) picks) elsewhere))
    (select_parts (picked_at p) picks)
  where
    elsewhere : (x : Pick) → Memᴰ x (select (λ y. not (picked_at p y)) picks) → Memᴰ (pick_cell x) ps
    elsewhere x m = let (l, u) = left_elsewhere p picks x m in go u (all x l)
      where
        go : (pick_cell x ≡ p → ⊥) → Memᴰ (pick_cell x) (p ∷ ps) → Memᴰ (pick_cell x) ps
        go u (Memᴰ.head e) = absurd (u e)
        go u (Memᴰ.tail l) = l

-- the one's cell stands first among the points before the other's
abbrev Before : List Point → Pick → Pick → Type 0
Before ps x y = (k n : ℕ) → First (pick_cell x) ps k → First (pick_cell y) ps n → k < n

-- one more point in front, which is the first's cell, or neither's
before_here : (p : Point) (ps : List Point) (x y : Pick) → p ≡ pick_cell x → (pick_cell y ≡ p → ⊥) → Before (p ∷ ps) x y
before_here p ps x y e u k n (later v f) g = absurd (v (sym e))
before_here p ps x y e u k n (here h) (here i) = absurd (u i)
before_here p ps x y e u k n (here h) (later v g) = omega (arith, (first_step p g).0)

before_later : (p : Point) (ps : List Point) (x y : Pick) → (pick_cell x ≡ p → ⊥) → (pick_cell y ≡ p → ⊥) → Before ps x y → Before (p ∷ ps) x y
before_later p ps x y u v h k n (here e) g = absurd (u e)
before_later p ps x y u v h k n (later a f) (here e) = absurd (v e)
before_later p ps x y u v h k n (later {n = i} a f) (later {n = j} b g) = omega (arith, h i j f g)

-- two picks of different cells
abbrev Apart : Pick → Pick → Type 0
Apart x y = pick_cell x ≡ pick_cell y → ⊥

-- picks of different cells are sorted so
ordered_sorted : (ps : List Point) (picks : List Pick) → Sorted Apart picks → Sorted (Before ps) (in_order_of ps picks)
unfolding picked_at
ordered_sorted [] picks s = tt
ordered_sorted (p ∷ ps) picks s =
    sorted_append (Before (p ∷ ps)) made (in_order_of ps left)
    (sorted_among (λ x. p ≡ pick_cell x) Apart (Before (p ∷ ps)) (λ x y e f u. absurd (u (sym e ∙ f))) made made_here (sorted_select Apart (picked_at p) picks s))
    (sorted_among (λ x. pick_cell x ≡ p → ⊥) (Before ps) (Before (p ∷ ps)) (before_later p ps) (in_order_of ps left) elsewhere
    (ordered_sorted ps left (sorted_select Apart (λ y. not (picked_at p y)) picks s)))
    (λ x y l m. before_here p ps x y (made_here x l) (elsewhere y m))
  where
    made : List Pick
    made = select (picked_at p) picks

    left : List Pick
    left = select (λ y. not (picked_at p y)) picks

    made_here : (x : Pick) → Memᴰ x made → p ≡ pick_cell x
    made_here x m = same_point_lem p (pick_cell x) ((member_select (picked_at p) picks).0 m).1

    elsewhere : (x : Pick) → Memᴰ x (in_order_of ps left) → pick_cell x ≡ p → ⊥
    elsewhere x m = (left_elsewhere p picks x (ordered_member ps left x m)).1

-- a first step is a first place among the walk's points
step_place : (z : Layout) (walk : Walk) (p : Point) (n : ℕ) → FirstStep z walk p n → First p (walk_points (depot_point z) walk) n
step_place z walk p n f =
    step_first (depot_point z) p (walk_points (depot_point z) walk) n f.is_step.0 (omega (arith, f.is_step.1, points_length (depot_point z) walk)) f.reaches f.none_before

-- a walk that passes a cell has a first step there
pub passed_first : (z : Layout) (walk : Walk) (j c : ℕ) → walk_passes z walk j c ≡ true → (n : ℕ) × FirstStep z walk (record { aisle = j; height = c }) n
unfolding walk_passes
passed_first z walk j c h =
    let (n, f) = point_first (record { aisle = j; height = c }) (walk_points (depot_point z) walk) h in
    let (low, high, e, before) = first_step (depot_point z) f in
    (n, record { is_step = (low, omega (arith, points_length (depot_point z) walk)); reaches = e; none_before = before })

-- picks whose cells the walk reaches are all there, rearranged
pub along_rearranged : (z : Layout) (walk : Walk) (picks : List Pick) → ((x : Pick) → Memᴰ x picks → (n : ℕ) × FirstStep z walk (pick_cell x) n) → Permᴰ (along_walk z walk picks) picks
unfolding along_walk
along_rearranged z walk picks reached =
    ordered_rearranged (walk_points (depot_point z) walk) picks (λ x m. let (n, f) = reached x m in first_among (step_place z walk (pick_cell x) n f))

-- each stands where the walk first reaches its cell
pub along_ordered : (z : Layout) (walk : Walk) (picks : List Pick) → Sorted (λ x y. pick_cell x ≡ pick_cell y → ⊥) picks → Sorted (ReachedBefore z walk) (along_walk z walk picks)
unfolding along_walk ReachedBefore
along_ordered z walk picks s =
    sorted_imply (Before (walk_points (depot_point z) walk)) (ReachedBefore z walk) (λ x y h k n f g. h k n (step_place z walk (pick_cell x) k f) (step_place z walk (pick_cell y) n g))
    (along_walk z walk picks) (ordered_sorted (walk_points (depot_point z) walk) picks s)

-- and no other order of these picks is such
pub along_only : (z : Layout) (walk : Walk) (picks order : List Pick) → ((x : Pick) → Memᴰ x picks → (n : ℕ) × FirstStep z walk (pick_cell x) n)
    → Sorted (λ x y. pick_cell x ≡ pick_cell y → ⊥) picks → Permᴰ order picks → Sorted (ReachedBefore z walk) order → order ≡ along_walk z walk picks
unfolding ReachedBefore
along_only z walk picks order reached s rearranged sorted =
    same_sorted (ReachedBefore z walk) order (along_walk z walk picks) one_way
    (λ x m. perm_member (Permᴰ.symm along) (perm_member rearranged m)) (λ x m. perm_member (Permᴰ.symm rearranged) (perm_member along m))
    sorted (along_ordered z walk picks s)
  where
    along : Permᴰ (along_walk z walk picks) picks
    along = along_rearranged z walk picks reached

    one_way : (x y : Pick) → Memᴰ x order → Memᴰ y order → ReachedBefore z walk x y → ReachedBefore z walk y x → ⊥
    one_way x y l m h i =
        let (k, f) = reached x (perm_member rearranged l) in
        let (n, g) = reached y (perm_member rearranged m) in
        omega (arith, h k n f g, i n k g f)
