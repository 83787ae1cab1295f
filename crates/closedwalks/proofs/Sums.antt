-- Sums over the edges of the store: each edge stands in their list once, and only edges of the store do.
use Prim.Native.Nat.{ℕ, zero, suc, ◌+◌, ◌*◌, ◌-◌, ◌≤◌, ◌<◌}
use native.Mathlib.Omega.{arith}
use mathlib.Core.Path.{◌≡◌, refl, ap}
use mathlib.Core.Logic.{inl, inr}
use mathlib.Core.List.{List, [], ◌∷◌, ◌++◌, map}
use Rattle.rules.specs.declared.Layout.{Layout}
use Rattle.rules.specs.Lists.{sum_of, from, concat_of}
use Rattle.rules.proofs.Lists.{sum_none}
use Rattle.closedwalks.proofs.Splits.{equal_or_below}
use Rattle.rules.specs.Store.{Edge, along, front, back, InStore, edges_of}
use Rattle.rules.specs.Walks.{one}
use Rattle.closedwalks.proofs.Steps.{edge_split, one_refl}

-- a property of every element
abbrev All : {A : Type 0} → (A → Type 0) → List A → Type 0
All P [] = Unit {0}
All P (x ∷ xs) = P x × All P xs

module _ {A : Type 0} where
  pub sum_add : (f g : A → ℕ) (xs : List A) → sum_of (λ x. f x + g x) xs ≡ sum_of f xs + sum_of g xs
  sum_add f g [] = refl
  sum_add f g (x ∷ xs) = omega (arith, sum_add f g xs)

  sum_append : (f : A → ℕ) (xs ys : List A) → sum_of f (xs ++ ys) ≡ sum_of f xs + sum_of f ys
  sum_append f [] ys = omega arith
  sum_append f (x ∷ xs) ys = omega (arith, sum_append f xs ys)

  sum_all_le : (f g : A → ℕ) (xs : List A) → All (λ x. f x ≤ g x) xs → sum_of f xs ≤ sum_of g xs
  sum_all_le f g [] h = omega arith
  sum_all_le f g (x ∷ xs) h = let l = h.0 in omega (arith, sum_all_le f g xs h.1)

  all_append : (P : A → Type 0) (xs ys : List A) → All P xs → All P ys → All P (xs ++ ys)
  all_append P [] ys p q = q
  all_append P (x ∷ xs) ys p q = (p.0, all_append P xs ys p.1 q)

  all_imp : (P Q : A → Type 0) (xs : List A) → ((x : A) → P x → Q x) → All P xs → All Q xs
  all_imp P Q [] f p = tt
  all_imp P Q (x ∷ xs) f p = (f x p.0, all_imp P Q xs f p.1)

module _ {A B : Type 0} where
  sum_map : (f : B → ℕ) (h : A → B) (xs : List A) → sum_of f (map h xs) ≡ sum_of (λ x. f (h x)) xs
  sum_map f h [] = refl
  sum_map f h (x ∷ xs) = rw (sum_map f h xs)

  sum_concat : (f : B → ℕ) (h : A → List B) (xs : List A) → sum_of f (concat_of h xs) ≡ sum_of (λ x. sum_of f (h x)) xs
  sum_concat f h [] = refl
  sum_concat f h (x ∷ xs) = omega (arith, sum_append f (h x) (concat_of h xs), sum_concat f h xs)

  all_map : (P : B → Type 0) (h : A → B) (xs : List A) → All (λ x. P (h x)) xs → All P (map h xs)
  all_map P h [] p = tt
  all_map P h (x ∷ xs) p = (p.0, all_map P h xs p.1)

  all_concat : (P : B → Type 0) (h : A → List B) (xs : List A) → All (λ x. All P (h x)) xs → All P (concat_of h xs)
  all_concat P h [] p = tt
  all_concat P h (x ∷ xs) p = all_append P (h x) (concat_of h xs) p.0 (all_concat P h xs p.1)

all_from : (P : ℕ → Type 0) (a n : ℕ) → ((k : ℕ) → a ≤ k → k < a + n → P k) → All P (from a n)
all_from P a zero f = tt
all_from P a (suc n) f = (f a (omega arith) (omega arith), all_from P (suc a) n (λ k p q. f k (omega arith) (omega arith)))

-- a sum over a range to which one number alone adds
sum_from_past : (f : ℕ → ℕ) (x a n : ℕ) → x < a → ((k : ℕ) → (k ≡ x → ⊥) → f k ≡ 0) → sum_of f (from a n) ≡ 0
sum_from_past f x a zero h g = refl
sum_from_past f x a (suc n) h g = omega (arith, g a (λ e. omega arith), sum_from_past f x (suc a) n (omega arith) g)

pub sum_from : (f : ℕ → ℕ) (x a n : ℕ) → a ≤ x → x < a + n → ((k : ℕ) → (k ≡ x → ⊥) → f k ≡ 0) → sum_of f (from a n) ≡ f x
sum_from f x a zero p q g = absurd (omega arith)
sum_from f x a (suc n) p q g =
    elim (equal_or_below a x p) [
      | inl e ↦ omega (arith, ap f e, sum_from_past f x (suc a) n (omega arith) g)
      | inr l ↦ omega (arith, g a (λ e. omega arith), sum_from f x (suc a) n l (omega arith) g)
    ]

sum_from_le : (f : ℕ → ℕ) (b a n : ℕ) → ((k : ℕ) → f k ≤ b) → sum_of f (from a n) ≤ n * b
sum_from_le f b a zero h = omega arith
sum_from_le f b a (suc n) h = omega (arith, h a, sum_from_le f b (suc a) n h)

module _ (z : Layout) where
  abbrev cross : ℕ
  cross = z.aisles - 1

  edges_sum : (f : Edge → ℕ) → sum_of f (edges_of z) ≡ sum_of (λ j. sum_of (λ k. f (along j k)) (from 0 (suc z.cells))) (from 1 z.aisles) + (sum_of (λ j. f (front j)) (from 1 cross) + sum_of (λ j. f (back j)) (from 1 cross))
  unfolding edges_of
  edges_sum f = simp (sum_append, sum_concat, sum_map)

  no_rows : (f : Edge → ℕ) → ((j k : ℕ) → f (along j k) ≡ 0) → sum_of (λ j. sum_of (λ k. f (along j k)) (from 0 (suc z.cells))) (from 1 z.aisles) ≡ 0
  no_rows f h = sum_none (λ j. sum_of (λ k. f (along j k)) (from 0 (suc z.cells))) (from 1 z.aisles) (λ j. sum_none (λ k. f (along j k)) (from 0 (suc z.cells)) (h j))

  -- a sum over the edges to which one edge alone adds
  pub sum_single : (f : Edge → ℕ) (s : Edge) → InStore z s → ((e : Edge) → (e ≡ s → ⊥) → f e ≡ 0) → sum_of f (edges_of z) ≡ f s
  unfolding InStore
  sum_single f (along j k) h g =
      let row : (i : ℕ) → ℕ = λ i. sum_of (λ k. f (along i k)) (from 0 (suc z.cells)) in
      let others : (i : ℕ) → (i ≡ j → ⊥) → row i ≡ 0 = λ i p. sum_none (λ k. f (along i k)) (from 0 (suc z.cells)) (λ n. g (along i n) (λ e. p cc)) in
      omega (
        arith,
        edges_sum f,
        sum_from row j 1 z.aisles h.0 (omega arith) others,
        sum_from (λ n. f (along j n)) k 0 (suc z.cells) (omega arith) (omega arith) (λ n p. g (along j n) (λ e. p cc)),
        sum_none (λ i. f (front i)) (from 1 cross) (λ i. g (front i) (λ e. let bad : ◌≡◌ {A = ℕ} 0 1 = cc in omega arith)),
        sum_none (λ i. f (back i)) (from 1 cross) (λ i. g (back i) (λ e. let bad : ◌≡◌ {A = ℕ} 0 1 = cc in omega arith)),
      )
  sum_single f (front j) h g =
      omega (
        arith,
        edges_sum f,
        no_rows f (λ i k. g (along i k) (λ e. let bad : ◌≡◌ {A = ℕ} 0 1 = cc in omega arith)),
        sum_from (λ i. f (front i)) j 1 cross h.0 (omega arith) (λ i p. g (front i) (λ e. p cc)),
        sum_none (λ i. f (back i)) (from 1 cross) (λ i. g (back i) (λ e. let bad : ◌≡◌ {A = ℕ} 0 1 = cc in omega arith)),
      )
  sum_single f (back j) h g =
      omega (
        arith,
        edges_sum f,
        no_rows f (λ i k. g (along i k) (λ e. let bad : ◌≡◌ {A = ℕ} 0 1 = cc in omega arith)),
        sum_none (λ i. f (front i)) (from 1 cross) (λ i. g (front i) (λ e. let bad : ◌≡◌ {A = ℕ} 0 1 = cc in omega arith)),
        sum_from (λ i. f (back i)) j 1 cross h.0 (omega arith) (λ i p. g (back i) (λ e. p cc)),
      )

  -- a sum over the edges to which each adds at most b
  pub sum_bound : (f : Edge → ℕ) (b : ℕ) → ((e : Edge) → f e ≤ b) → sum_of f (edges_of z) ≤ z.aisles * (suc z.cells * b) + (cross * b + cross * b)
  sum_bound f b h =
      omega (
        arith,
        edges_sum f,
        sum_from_le (λ j. sum_of (λ k. f (along j k)) (from 0 (suc z.cells))) (suc z.cells * b) 1 z.aisles (λ j. sum_from_le (λ k. f (along j k)) b 0 (suc z.cells) (λ k. h (along j k))),
        sum_from_le (λ j. f (front j)) b 1 cross (λ j. h (front j)),
        sum_from_le (λ j. f (back j)) b 1 cross (λ j. h (back j)),
      )

  edges_in : All (InStore z) (edges_of z)
  unfolding edges_of InStore
  edges_in =
      let cross-in : (h : ℕ → Edge) → ((j : ℕ) → 1 ≤ j → j < z.aisles → InStore z (h j)) → All (InStore z) (map h (from 1 cross)) =
      λ h f. all_map (InStore z) h (from 1 cross) (all_from (λ j. InStore z (h j)) 1 cross (λ j p q. f j p (omega arith))) in
      let row : (j : ℕ) → 1 ≤ j → j < 1 + z.aisles → All (InStore z) (map (along j) (from 0 (suc z.cells))) =
      λ j p q. all_map (InStore z) (along j) (from 0 (suc z.cells)) (all_from (λ k. InStore z (along j k)) 0 (suc z.cells) (λ k u v. (p, omega arith, omega arith))) in
      all_append (InStore z) (concat_of (λ j. map (along j) (from 0 (suc z.cells))) (from 1 z.aisles)) (map front (from 1 cross) ++ map back (from 1 cross))
      (all_concat (InStore z) (λ j. map (along j) (from 0 (suc z.cells))) (from 1 z.aisles) (all_from (λ j. All (InStore z) (map (along j) (from 0 (suc z.cells)))) 1 z.aisles row))
      (all_append (InStore z) (map front (from 1 cross)) (map back (from 1 cross)) (cross-in front (λ j p q. (p, q))) (cross-in back (λ j p q. (p, q))))

  pub sum_le : (f g : Edge → ℕ) → ((e : Edge) → InStore z e → f e ≤ g e) → sum_of f (edges_of z) ≤ sum_of g (edges_of z)
  sum_le f g h = sum_all_le f g (edges_of z) (all_imp (InStore z) (λ e. f e ≤ g e) (edges_of z) h edges_in)

  pub sum_same : (f g : Edge → ℕ) → ((e : Edge) → InStore z e → f e ≡ g e) → sum_of f (edges_of z) ≡ sum_of g (edges_of z)
  sum_same f g h = omega (arith, sum_le f g (λ e p. omega (arith, h e p)), sum_le g f (λ e p. omega (arith, h e p)))

  -- where no edge adds more to one sum than to the other, and the sums are equal, each adds the same
  pub sum_exact : (f g : Edge → ℕ) → ((e : Edge) → InStore z e → f e ≤ g e) → sum_of f (edges_of z) ≡ sum_of g (edges_of z) → (s : Edge) → InStore z s → f s ≡ g s
  sum_exact f g h eq s i =
      let more : Edge → ℕ = λ e. one e s * (g s - f s) in
      let single = sum_single more s i (λ e n. elim (edge_split e s) [ inl q ↦ absurd (n q.0) | inr q ↦ rw q.0 (omega arith) ]) in
      let at : more s ≡ g s - f s = rw (one_refl s) (omega arith) in
      let part : (e : Edge) → InStore z e → f e + more e ≤ g e = λ e k. elim (edge_split e s) [ inl q ↦ rw (q.1, q.0) (omega (arith, h s i)) | inr q ↦ rw q.0 (omega (arith, h e k)) ] in
      omega (arith, h s i, sum_le (λ e. f e + more e) g part, sum_add f more (edges_of z), single, at)
