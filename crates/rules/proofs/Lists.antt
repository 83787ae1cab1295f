-- Laws of lists: sums, membership, order.
use Prim.Native.Nat.{ℕ, zero, suc, ◌+◌, ◌*◌, ◌≤◌, ◌<◌}
use mathlib.Core.Path.{◌≡◌, refl, sym, ◌∙◌, ap, ap₂, subst}
use mathlib.Core.Logic.{◌⊎◌, inl, inr, ◌↔◌}
use mathlib.Core.List.Memᴰ
use mathlib.Core.List.{List, [], ◌∷◌, ◌++◌, map, Memᴰ}
use mathlib.Core.Bool.{Bool, true, false, cond, ◌&&◌, ◌||◌, true≢false, false≢true, and-eq-true_iff}
use native.Mathlib.Nat.{eq-or-lt_of_le, suc-mul}
use native.Mathlib.Omega.{arith}
use lib.ListN.{length, length-append, get_or, replicate}
use Rattle.rules.specs.Lists.{from, sum_of, concat_of, nth, all_of, any_of, any_two, select, Sorted}

-- tests joined by "or"
or-false : (a b : Bool) → (a || b) ≡ false → (a ≡ false) × (b ≡ false)
or-false true b h = absurd (true≢false h)
or-false false b h = (refl, h)

pub or-true : (a b : Bool) → (a || b) ≡ true → (a ≡ true) ⊎ (b ≡ true)
or-true true b h = inl refl
or-true false b h = inr h

pub or_right : (a : Bool) → (a || true) ≡ true
or_right true = refl
or_right false = refl

module _ {A : Type 0} where
  -- the sum over two lists, one behind the other
  pub sum_append : (f : A → ℕ) (xs ys : List A) → sum_of f (xs ++ ys) ≡ sum_of f xs + sum_of f ys
  sum_append f [] ys = omega arith
  sum_append f (x ∷ xs) ys = omega (arith, sum_append f xs ys)

  -- two functions that agree on the list have one sum
  pub sum_agree : (f g : A → ℕ) (xs : List A) → ((x : A) → Memᴰ x xs → f x ≡ g x) → sum_of f xs ≡ sum_of g xs
  sum_agree f g [] h = refl
  sum_agree f g (x ∷ xs) h = ap₂ ◌+◌ (h x (Memᴰ.head refl)) (sum_agree f g xs (λ y m. h y (Memᴰ.tail m)))

  -- the sum over the elements of which a test holds
  pub sum_select : (f : A → ℕ) (t : A → Bool) (xs : List A) → sum_of f (select t xs) ≡ sum_of (λ x. cond (t x) (f x) 0) xs
  sum_select f t [] = refl
  sum_select f t (x ∷ xs) = go (t x) (sum_select f t xs)
    where
      go : (b : Bool) → sum_of f (select t xs) ≡ sum_of (λ y. cond (t y) (f y) 0) xs
          → sum_of f (cond b (x ∷ select t xs) (select t xs)) ≡ cond b (f x) 0 + sum_of (λ y. cond (t y) (f y) 0) xs
      go true e = ap (λ n. f x + n) e
      go false e = omega (arith, e)

  -- the sum of a sum of two functions
  pub sum_plus : (f g : A → ℕ) (xs : List A) → sum_of (λ x. f x + g x) xs ≡ sum_of f xs + sum_of g xs
  sum_plus f g [] = omega arith
  sum_plus f g (x ∷ xs) = omega (arith, sum_plus f g xs)

  -- no term above b: the sum is at most b for each element
  pub sum_below : (f : A → ℕ) (b : ℕ) (xs : List A) → ((x : A) → Memᴰ x xs → f x ≤ b) → sum_of f xs ≤ length xs * b
  sum_below f b [] h = omega arith
  sum_below f b (x ∷ xs) h =
      omega (arith, suc-mul (length xs) b, h x (Memᴰ.head refl), sum_below f b xs (λ y m. h y (Memᴰ.tail m)))

module _ {A B : Type 0} where
  -- the sum over a mapped list
  pub sum_map : (f : B → ℕ) (g : A → B) (xs : List A) → sum_of f (map g xs) ≡ sum_of (λ x. f (g x)) xs
  sum_map f g [] = refl
  sum_map f g (x ∷ xs) = ap (λ n. f (g x) + n) (sum_map f g xs)

  -- the sum over several lists, one behind the other
  pub sum_concat : (f : B → ℕ) (g : A → List B) (xs : List A) → sum_of f (concat_of g xs) ≡ sum_of (λ x. sum_of f (g x)) xs
  sum_concat f g [] = refl
  sum_concat f g (x ∷ xs) = sum_append f (g x) (concat_of g xs) ∙ ap (λ n. sum_of f (g x) + n) (sum_concat f g xs)

-- a sum over numbers from a upwards, in two parts
pub sum_from_append : (f : ℕ → ℕ) (a b n k : ℕ) → a + n ≡ b → sum_of f (from a (n + k)) ≡ sum_of f (from a n) + sum_of f (from b k)
sum_from_append f a b zero k e =
    let same : a ≡ b = omega arith in
    let none_left : 0 + k ≡ k = omega arith in
    rw (none_left, same) (omega arith)
sum_from_append f a b (suc n) k e =
    let one_less : suc n + k ≡ suc (n + k) = omega arith in
    rw one_less (omega (arith, sum_from_append f (suc a) b n k (omega arith)))

-- how many numbers there are from a upwards
pub length_from : (a n : ℕ) → length (from a n) ≡ n
length_from a zero = refl
length_from a (suc n) = ap suc (length_from (suc a) n)

-- the members of the numbers from a upwards
pub member_from : {k : ℕ} (a n : ℕ) → Memᴰ k (from a n) → (a ≤ k) × (k < a + n)
member_from a zero m = absurd (Memᴰ.not-nil m)
member_from a (suc n) (Memᴰ.head e) = omega arith
member_from a (suc n) (Memᴰ.tail m) = let h = member_from (suc a) n m in omega arith

-- and the other way round
pub from_member : (k a n : ℕ) → a ≤ k → k < a + n → Memᴰ k (from a n)
from_member k a zero low high = absurd (omega arith)
from_member k a (suc n) low high = go (eq-or-lt_of_le low) (from_member k (suc a) n)
  where
    go : (a ≡ k) ⊎ (a < k) → (suc a ≤ k → k < suc a + n → Memᴰ k (from (suc a) n)) → Memᴰ k (from a (suc n))
    go (inl e) rest = Memᴰ.head (sym e)
    go (inr h) rest = Memᴰ.tail (rest h (omega arith))

-- a sum over numbers one higher
pub sum_from_suc : (f : ℕ → ℕ) (a n : ℕ) → sum_of f (from (suc a) n) ≡ sum_of (λ k. f (suc k)) (from a n)
sum_from_suc f a zero = refl
sum_from_suc f a (suc n) = ap (λ s. f (suc a) + s) (sum_from_suc f (suc a) n)

module _ {A : Type 0} where
  -- the sum over a list is the sum over its places, counted from 1
  pub sum_places : (f : A → ℕ) (d : A) (xs : List A) → sum_of (λ j. f (nth xs j d)) (from 1 (length xs)) ≡ sum_of f xs
  sum_places f d xs = sum_from_suc (λ j. f (nth xs j d)) 0 (length xs) ∙ go xs
    where
      go : (ys : List A) → sum_of (λ j. f (nth ys (suc j) d)) (from 0 (length ys)) ≡ sum_of f ys
      go [] = refl
      go (y ∷ ys) = ap (λ s. f y + s) (sum_from_suc (λ j. f (nth (y ∷ ys) (suc j) d)) 0 (length ys) ∙ go ys)

  -- a member stands at some place
  pub member_place : (d : A) {x : A} {xs : List A} → Memᴰ x xs → (j : ℕ) × (nth xs (suc j) d ≡ x)
  member_place d (Memᴰ.head e) = (0, sym e)
  member_place d (Memᴰ.tail m) = let p = member_place d m in (suc p.0, p.1)

  -- what stands at a place of the list is a member
  pub place_member : (d : A) (xs : List A) (j : ℕ) → j < length xs → Memᴰ (nth xs (suc j) d) xs
  place_member d [] j h = absurd (omega arith)
  place_member d (x ∷ xs) zero h = Memᴰ.head refl
  place_member d (x ∷ xs) (suc j) h = Memᴰ.tail (place_member d xs j (omega arith))

  -- beyond the list stands the other value
  pub place_beyond : (d : A) (xs : List A) (j : ℕ) → length xs ≤ j → nth xs (suc j) d ≡ d
  place_beyond d [] j h = refl
  place_beyond d (x ∷ xs) zero h = absurd (omega arith)
  place_beyond d (x ∷ xs) (suc j) h = place_beyond d xs j (omega arith)

  -- the test holds of every element
  pub all_true : (t : A → Bool) (xs : List A) → (all_of t xs ≡ true) ↔ ((x : A) → Memᴰ x xs → t x ≡ true)
  all_true t xs = (λ h y. each y xs h, whole xs)
    where
      each : (y : A) (ys : List A) → all_of t ys ≡ true → Memᴰ y ys → t y ≡ true
      each y ys h (Memᴰ.head {x} {xs} e) = ap t e ∙ ((and-eq-true_iff (t x) (all_of t xs)).0 h).0
      each y ys h (Memᴰ.tail {x} {xs} m) = each y xs ((and-eq-true_iff (t x) (all_of t xs)).0 h).1 m

      whole : (ys : List A) → ((y : A) → Memᴰ y ys → t y ≡ true) → all_of t ys ≡ true
      whole [] h = refl
      whole (y ∷ ys) h = rw (h y (Memᴰ.head refl)) (whole ys (λ x m. h x (Memᴰ.tail m)))

  -- so it holds of the one at a place
  pub all_at : (t : A → Bool) (xs : List A) (k : ℕ) (d : A) → k < length xs → all_of t xs ≡ true → t (get_or xs k d) ≡ true
  all_at t [] k d h e = absurd (omega arith)
  all_at t (x ∷ xs) zero d h e = ((and-eq-true_iff (t x) (all_of t xs)).0 e).0
  all_at t (x ∷ xs) (suc k) d h e = all_at t xs k d (omega arith) ((and-eq-true_iff (t x) (all_of t xs)).0 e).1

  -- the test holds of no element
  pub any_false : (t : A → Bool) (xs : List A) → (any_of t xs ≡ false) ↔ ((x : A) → Memᴰ x xs → t x ≡ false)
  any_false t xs = (λ h y. each y xs h, whole xs)
    where
      each : (y : A) (ys : List A) → any_of t ys ≡ false → Memᴰ y ys → t y ≡ false
      each y ys h (Memᴰ.head {x} {xs} e) = ap t e ∙ (or-false (t x) (any_of t xs) h).0
      each y ys h (Memᴰ.tail {x} {xs} m) = each y xs (or-false (t x) (any_of t xs) h).1 m

      whole : (ys : List A) → ((y : A) → Memᴰ y ys → t y ≡ false) → any_of t ys ≡ false
      whole [] h = refl
      whole (y ∷ ys) h = rw (h y (Memᴰ.head refl)) (whole ys (λ x m. h x (Memᴰ.tail m)))

  -- the test holds of some element
  pub any_true : (t : A → Bool) (xs : List A) → (any_of t xs ≡ true) ↔ ((x : A) × Memᴰ x xs × (t x ≡ true))
  any_true t xs = (found xs, λ w. some_true w.1 w.2)
    where
      found : (ys : List A) → any_of t ys ≡ true → (y : A) × Memᴰ y ys × (t y ≡ true)
      found [] h = absurd (false≢true h)
      found (y ∷ ys) h = go (or-true (t y) (any_of t ys) h) (found ys)
        where
          go : (t y ≡ true) ⊎ (any_of t ys ≡ true) → (any_of t ys ≡ true → (x : A) × Memᴰ x ys × (t x ≡ true)) → (x : A) × Memᴰ x (y ∷ ys) × (t x ≡ true)
          go (inl e) rest = (y, Memᴰ.head refl, e)
          go (inr e) rest = let r = rest e in (r.0, Memᴰ.tail r.1, r.2)

      some_true : {y : A} {ys : List A} → Memᴰ y ys → t y ≡ true → any_of t ys ≡ true
      some_true (Memᴰ.head e) h = rw (← e, h)
      some_true (Memᴰ.tail {x} {xs} m) h = rw (some_true m h) (or_right (t x))

  -- tests that agree on the list have one answer
  pub any_agree : (s t : A → Bool) (xs : List A) → ((x : A) → Memᴰ x xs → s x ≡ t x) → any_of s xs ≡ any_of t xs
  any_agree s t [] same = refl
  any_agree s t (x ∷ xs) same = ap₂ ◌||◌ (same x (Memᴰ.head refl)) (any_agree s t xs (λ y m. same y (Memᴰ.tail m)))

  -- the selected elements are those of which the test holds
  pub member_select : {x : A} (t : A → Bool) (xs : List A) → Memᴰ x (select t xs) ↔ (Memᴰ x xs × (t x ≡ true))
  member_select {x} t xs = (taken xs, λ p. kept p.0 p.1)
    where
      taken : (ys : List A) → Memᴰ x (select t ys) → Memᴰ x ys × (t x ≡ true)
      taken [] m = absurd (Memᴰ.not-nil m)
      taken (y ∷ ys) m = go (t y) refl m (taken ys)
        where
          go : (b : Bool) → t y ≡ b → Memᴰ x (cond b (y ∷ select t ys) (select t ys)) → (Memᴰ x (select t ys) → Memᴰ x ys × (t x ≡ true)) → Memᴰ x (y ∷ ys) × (t x ≡ true)
          go true e (Memᴰ.head h) rest = (Memᴰ.head h, ap t h ∙ e)
          go true e (Memᴰ.tail l) rest = let r = rest l in (Memᴰ.tail r.0, r.1)
          go false e l rest = let r = rest l in (Memᴰ.tail r.0, r.1)

      kept : {ys : List A} → Memᴰ x ys → t x ≡ true → Memᴰ x (select t ys)
      kept (Memᴰ.head {x = y} e) h = let held : t y ≡ true = ap t (sym e) ∙ h in rw held (Memᴰ.head e)
      kept (Memᴰ.tail {x = y} {xs} m) h = go (t y) (kept m h)
        where
          go : (b : Bool) → Memᴰ x (select t xs) → Memᴰ x (cond b (y ∷ select t xs) (select t xs))
          go true l = Memᴰ.tail l
          go false l = l

module _ {A B : Type 0} where
  -- a member of several lists, one behind the other, is a member of one of them
  pub member_concat : {y : B} (f : A → List B) (xs : List A) → Memᴰ y (concat_of f xs) → (x : A) × Memᴰ x xs × Memᴰ y (f x)
  member_concat f [] m = absurd (Memᴰ.not-nil m)
  member_concat {y} f (x ∷ xs) m = go (Memᴰ.append_cases (f x) m) (member_concat f xs)
    where
      go : Memᴰ y (f x) ⊎ Memᴰ y (concat_of f xs) → (Memᴰ y (concat_of f xs) → (w : A) × Memᴰ w xs × Memᴰ y (f w)) → (w : A) × Memᴰ w (x ∷ xs) × Memᴰ y (f w)
      go (inl l) rest = (x, Memᴰ.head refl, l)
      go (inr l) rest = let r = rest l in (r.0, Memᴰ.tail r.1, r.2)

  -- and the other way round
  pub concat_member : {x : A} {y : B} {xs : List A} (f : A → List B) → Memᴰ x xs → Memᴰ y (f x) → Memᴰ y (concat_of f xs)
  concat_member {y = y} f (Memᴰ.head {xs} e) l = Memᴰ.append_left (concat_of f xs) (subst (λ w. Memᴰ y (f w)) e l)
  concat_member f (Memᴰ.tail {x = w} m) l = Memᴰ.append_right (f w) (concat_member f m l)

module _ {A : Type 0} where
  -- sorted by one relation, so by one that follows from it
  pub sorted_imply : (R S : A → A → Type 0) → ((x y : A) → R x y → S x y) → (xs : List A) → Sorted R xs → Sorted S xs
  sorted_imply R S h [] s = s
  sorted_imply R S h (x ∷ xs) s = (λ y m. h x y (s.0 y m), sorted_imply R S h xs s.1)

  -- two sorted lists, one behind the other
  pub sorted_append : (R : A → A → Type 0) (xs ys : List A) → Sorted R xs → Sorted R ys → ((x y : A) → Memᴰ x xs → Memᴰ y ys → R x y) → Sorted R (xs ++ ys)
  sorted_append R [] ys s r h = r
  sorted_append R (x ∷ xs) ys s r h =
      (λ y m. go y (Memᴰ.append_cases xs m), sorted_append R xs ys s.1 r (λ w y l. h w y (Memᴰ.tail l)))
    where
      go : (y : A) → Memᴰ y xs ⊎ Memᴰ y ys → R x y
      go y (inl l) = s.0 y l
      go y (inr l) = h x y (Memᴰ.head refl) l

  -- what stands behind an element
  pub sorted_split : (R : A → A → Type 0) (xs : List A) {x : A} {ys : List A} → Sorted R (xs ++ (x ∷ ys)) → (y : A) → Memᴰ y ys → R x y
  sorted_split R [] s y m = s.0 y m
  sorted_split R (w ∷ xs) s y m = sorted_split R xs s.1 y m

  -- of two members one stands before the other, unless they are the same
  pub sorted_members : (R : A → A → Type 0) (xs : List A) → Sorted R xs → (x y : A) → Memᴰ x xs → Memᴰ y xs → (x ≡ y) ⊎ (R x y ⊎ R y x)
  sorted_members R [] s x y l m = absurd (Memᴰ.not-nil l)
  sorted_members R (w ∷ ws) s x y (Memᴰ.head e) (Memᴰ.head f) = inl (e ∙ sym f)
  sorted_members R (w ∷ ws) s x y (Memᴰ.head e) (Memᴰ.tail m) = inr (inl (subst (λ v. R v y) (sym e) (s.0 y m)))
  sorted_members R (w ∷ ws) s x y (Memᴰ.tail l) (Memᴰ.head f) = inr (inr (subst (λ v. R v x) (sym f) (s.0 x l)))
  sorted_members R (w ∷ ws) s x y (Memᴰ.tail l) (Memᴰ.tail m) = sorted_members R ws s.1 x y l m

  -- no two places are alike
  pub no_two_alike : (alike : A → A → Bool) (xs : List A) → (any_two alike xs ≡ false) ↔ Sorted (λ x y. alike x y ≡ false) xs
  no_two_alike alike xs = (apart xs, whole xs)
    where
      apart : (ys : List A) → any_two alike ys ≡ false → Sorted (λ x y. alike x y ≡ false) ys
      apart [] h = tt
      apart (y ∷ ys) h =
          let p = or-false (any_of (alike y) ys) (any_two alike ys) h in
          ((any_false (alike y) ys).0 p.0, apart ys p.1)

      whole : (ys : List A) → Sorted (λ x y. alike x y ≡ false) ys → any_two alike ys ≡ false
      whole [] s = refl
      whole (y ∷ ys) s = rw ((any_false (alike y) ys).1 s.0) (whole ys s.1)

  -- two members that are alike are the same
  pub alike_members : (alike : A → A → Bool) (xs : List A) → any_two alike xs ≡ false → (x y : A) → Memᴰ x xs → Memᴰ y xs → alike x y ≡ true → alike y x ≡ true → x ≡ y
  alike_members alike xs h x y l m e f = go (sorted_members (λ v w. alike v w ≡ false) xs ((no_two_alike alike xs).0 h) x y l m)
    where
      go : (x ≡ y) ⊎ ((alike x y ≡ false) ⊎ (alike y x ≡ false)) → x ≡ y
      go (inl p) = p
      go (inr (inl p)) = absurd (true≢false (sym e ∙ p))
      go (inr (inr p)) = absurd (true≢false (sym f ∙ p))

  -- what is selected of a sorted list is sorted
  pub sorted_select : (R : A → A → Type 0) (t : A → Bool) (xs : List A) → Sorted R xs → Sorted R (select t xs)
  sorted_select R t [] s = s
  sorted_select R t (x ∷ xs) s = go (t x) (sorted_select R t xs s.1)
    where
      go : (b : Bool) → Sorted R (select t xs) → Sorted R (cond b (x ∷ select t xs) (select t xs))
      go true r = (λ y m. s.0 y ((member_select t xs).0 m).0, r)
      go false r = r

module _ {A B : Type 0} where
  -- a sorted list, mapped
  pub sorted_map : (R : A → A → Type 0) (S : B → B → Type 0) (f : A → B) (xs : List A) → ((x y : A) → R x y → S (f x) (f y)) → Sorted R xs → Sorted S (map f xs)
  sorted_map R S f [] h s = s
  sorted_map R S f (x ∷ xs) h s =
      (λ y m. let p = Memᴰ.of_map f xs m in subst (S (f x)) p.2 (h x p.0 (s.0 p.0 p.1)), sorted_map R S f xs h s.1)

  -- a list whose images are sorted
  pub sorted_by : (f : A → B) (S : B → B → Type 0) (xs : List A) → Sorted S (map f xs) → Sorted (λ x y. S (f x) (f y)) xs
  sorted_by f S [] s = s
  sorted_by f S (x ∷ xs) s = (λ y m. s.0 (f y) (Memᴰ.map f m), sorted_by f S xs s.1)

  -- several sorted lists, one behind the other
  pub sorted_concat : (R : A → A → Type 0) (S : B → B → Type 0) (f : A → List B) (xs : List A) → Sorted R xs → ((x : A) → Sorted S (f x)) → ((x y : A) (u v : B) → R x y → Memᴰ u (f x) → Memᴰ v (f y) → S u v) → Sorted S (concat_of f xs)
  sorted_concat R S f [] s each h = s
  sorted_concat R S f (x ∷ xs) s each h =
      sorted_append S (f x) (concat_of f xs) (each x) (sorted_concat R S f xs s.1 each h) (λ u v l m. let p = member_concat f xs m in h x p.0 u v (s.0 p.0 p.1) l p.2)

-- the numbers from a upwards grow
pub sorted_from : (a n : ℕ) → Sorted ◌<◌ (from a n)
sorted_from a zero = tt
sorted_from a (suc n) = (λ k m. (member_from (suc a) n m).0, sorted_from (suc a) n)

-- selecting, mapping and joining lists
module _ {A : Type 0} where
  pub select_append : (t : A → Bool) (xs ys : List A) → select t (xs ++ ys) ≡ select t xs ++ select t ys
  select_append t [] ys = refl
  select_append t (x ∷ xs) ys = go (t x) (select_append t xs ys)
    where
      go : (b : Bool) → select t (xs ++ ys) ≡ select t xs ++ select t ys → cond b (x ∷ select t (xs ++ ys)) (select t (xs ++ ys)) ≡ cond b (x ∷ select t xs) (select t xs) ++ select t ys
      go true e = ap (λ l. x ∷ l) e
      go false e = e

  pub select_none : (t : A → Bool) → ((x : A) → t x ≡ false) → (xs : List A) → select t xs ≡ []
  select_none t none-holds [] = refl
  select_none t none-holds (x ∷ xs) = rw (none-holds x) (select_none t none-holds xs)

  -- where the test holds of every element, none is left out
  pub select_all : (t : A → Bool) (xs : List A) → ((x : A) → Memᴰ x xs → t x ≡ true) → select t xs ≡ xs
  select_all t [] h = refl
  select_all t (x ∷ xs) h = rw (h x (Memᴰ.head refl)) (ap (λ ys. x ∷ ys) (select_all t xs (λ y m. h y (Memᴰ.tail m))))

  -- no more are left than there were
  pub length_select : (t : A → Bool) (xs : List A) → length (select t xs) ≤ length xs
  length_select t [] = omega arith
  length_select t (x ∷ xs) = go (t x) (length_select t xs)
    where
      go : (b : Bool) → length (select t xs) ≤ length xs → length (cond b (x ∷ select t xs) (select t xs)) ≤ suc (length xs)
      go true h = omega arith
      go false h = omega arith

  pub select_both : (s t : A → Bool) (xs : List A) → select (λ x. s x && t x) xs ≡ select t (select s xs)
  select_both s t [] = refl
  select_both s t (x ∷ xs) = go (s x) (select_both s t xs)
    where
      go : (b : Bool) → select (λ y. s y && t y) xs ≡ select t (select s xs) → cond (b && t x) (x ∷ select (λ y. s y && t y) xs) (select (λ y. s y && t y) xs) ≡ select t (cond b (x ∷ select s xs) (select s xs))
      go true e = ap (λ l. cond (t x) (x ∷ l) l) e
      go false e = e

  pub select_swap : (s t : A → Bool) (xs : List A) → select t (select s xs) ≡ select s (select t xs)
  select_swap s t [] = refl
  select_swap s t (x ∷ xs) = go (select_swap s t xs) (s x) refl (t x) refl
    where
      go : select t (select s xs) ≡ select s (select t xs) → (b : Bool) → s x ≡ b → (c : Bool) → t x ≡ c
          → select t (cond b (x ∷ select s xs) (select s xs)) ≡ select s (cond c (x ∷ select t xs) (select t xs))
      go e true p true q = rw (p, q) (ap (λ l. x ∷ l) e)
      go e true p false q = rw (q) e
      go e false p true q = rw (p) e
      go e false p false q = e

  -- what passes one test passes another, so that the other makes no difference
  pub select_implied : (t s : A → Bool) → ((x : A) → t x ≡ true → s x ≡ true) → (xs : List A) → select t (select s xs) ≡ select t xs
  select_implied t s h [] = refl
  select_implied t s h (x ∷ xs) = go (select_implied t s h xs) (s x) refl (t x) refl
    where
      go : select t (select s xs) ≡ select t xs → (b : Bool) → s x ≡ b → (c : Bool) → t x ≡ c
          → select t (cond b (x ∷ select s xs) (select s xs)) ≡ cond c (x ∷ select t xs) (select t xs)
      go e true p c q = rw (q) (ap (λ l. cond c (x ∷ l) l) e)
      go e false p true q = absurd (true≢false (sym (h x q) ∙ p))
      go e false p false q = e

module _ {A B : Type 0} where
  pub map-append : (f : A → B) (xs ys : List A) → map f (xs ++ ys) ≡ map f xs ++ map f ys
  map-append f [] ys = refl
  map-append f (x ∷ xs) ys = ap (λ l. f x ∷ l) (map-append f xs ys)

  pub select_concat : (t : B → Bool) (f : A → List B) (xs : List A) → select t (concat_of f xs) ≡ concat_of (λ x. select t (f x)) xs
  select_concat t f [] = refl
  select_concat t f (x ∷ xs) = select_append t (f x) (concat_of f xs) ∙ ap (λ l. select t (f x) ++ l) (select_concat t f xs)

  pub select_map : (t : B → Bool) (f : A → B) (xs : List A) → select t (map f xs) ≡ map f (select (λ x. t (f x)) xs)
  select_map t f [] = refl
  select_map t f (x ∷ xs) = go (t (f x)) (select_map t f xs)
    where
      go : (b : Bool) → select t (map f xs) ≡ map f (select (λ y. t (f y)) xs) → cond b (f x ∷ select t (map f xs)) (select t (map f xs)) ≡ map f (cond b (x ∷ select (λ y. t (f y)) xs) (select (λ y. t (f y)) xs))
      go true e = ap (λ l. f x ∷ l) e
      go false e = e

  -- the test of a mapped list
  pub any_map : (t : B → Bool) (f : A → B) (xs : List A) → any_of t (map f xs) ≡ any_of (λ x. t (f x)) xs
  any_map t f [] = refl
  any_map t f (x ∷ xs) = ap (λ b. t (f x) || b) (any_map t f xs)

  -- the element with the number j of a mapped list
  pub nth_map : (f : A → B) (xs : List A) (j : ℕ) (d : A) → nth (map f xs) j (f d) ≡ f (nth xs j d)
  nth_map f xs zero d = refl
  nth_map f [] (suc j) d = refl
  nth_map f (x ∷ xs) (suc zero) d = refl
  nth_map f (x ∷ xs) (suc (suc j)) d = nth_map f xs (suc j) d

  -- the length of several lists, one behind the other
  pub concat_length : (f : A → List B) (xs : List A) → length (concat_of f xs) ≡ sum_of (λ x. length (f x)) xs
  concat_length f [] = refl
  concat_length f (x ∷ xs) = rw (length-append, concat_length f xs)

  pub concat_cong : (f g : A → List B) → ((x : A) → f x ≡ g x) → (xs : List A) → concat_of f xs ≡ concat_of g xs
  concat_cong f g e [] = refl
  concat_cong f g e (x ∷ xs) = ap₂ (λ k l. k ++ l) (e x) (concat_cong f g e xs)

  pub concat_none : (f : A → List B) → ((x : A) → f x ≡ []) → (xs : List A) → concat_of f xs ≡ []
  concat_none f e [] = refl
  concat_none f e (x ∷ xs) = rw (e x) (concat_none f e xs)

module _ {A B C : Type 0} where
  pub map_map : (f : B → C) (g : A → B) (xs : List A) → map f (map g xs) ≡ map (λ x. f (g x)) xs
  map_map f g [] = refl
  map_map f g (x ∷ xs) = ap (λ l. f (g x) ∷ l) (map_map f g xs)

  pub map_concat : (f : B → C) (g : A → List B) (xs : List A) → map f (concat_of g xs) ≡ concat_of (λ x. map f (g x)) xs
  map_concat f g [] = refl
  map_concat f g (x ∷ xs) = map-append f (g x) (concat_of g xs) ∙ ap (λ l. map f (g x) ++ l) (map_concat f g xs)

module _ {A : Type 0} where
  -- mapped twice by what undoes itself, a list is as it was
  pub map_twice : (f : A → A) (xs : List A) → ((x : A) → Memᴰ x xs → f (f x) ≡ x) → map f (map f xs) ≡ xs
  map_twice f [] again = refl
  map_twice f (x ∷ xs) again = ap₂ ◌∷◌ (again x (Memᴰ.head refl)) (map_twice f xs (λ y m. again y (Memᴰ.tail m)))

  -- a sum of nothings is nothing, and where a sum is nothing each of its terms is
  pub sum_none : (f : A → ℕ) (xs : List A) → ((x : A) → f x ≡ 0) → sum_of f xs ≡ 0
  sum_none f [] h = refl
  sum_none f (x ∷ xs) h = omega (arith, h x, sum_none f xs h)

  pub none_of_sum : (f : A → ℕ) (xs : List A) → sum_of f xs ≡ 0 → (x : A) → Memᴰ x xs → f x ≡ 0
  none_of_sum f xs e x m = each x xs e m
    where
      each : (y : A) (ys : List A) → sum_of f ys ≡ 0 → Memᴰ y ys → f y ≡ 0
      each y ys e (Memᴰ.head {x} {xs} same) = let first : f x ≡ 0 = omega arith in ap f same ∙ first
      each y ys e (Memᴰ.tail {x} {xs} m) = each y xs (omega arith) m

  -- a test that holds at every place of a list holds of all
  pub all_places : (t : A → Bool) (d : A) (xs : List A) → ((j : ℕ) → j < length xs → t (nth xs (suc j) d) ≡ true) → all_of t xs ≡ true
  all_places t d [] h = refl
  all_places t d (x ∷ xs) h = rw (h 0 (omega arith)) (all_places t d xs (λ j l. h (suc j) (omega arith)))

  -- a list of which a test holds that tells one element is that element over and over
  pub all_alike : (t : A → Bool) (d : A) → ((x : A) → t x ≡ true → x ≡ d) → (xs : List A) → all_of t xs ≡ true → xs ≡ replicate (length xs) d
  all_alike t d told [] e = refl
  all_alike t d told (x ∷ xs) e =
      let both = (and-eq-true_iff (t x) (all_of t xs)).0 e in
      ap₂ ◌∷◌ (told x both.0) (all_alike t d told xs both.1)

  -- and of such a list the test holds; each of its places has the element
  pub all_replicate : (t : A → Bool) (d : A) → t d ≡ true → (n : ℕ) → all_of t (replicate n d) ≡ true
  all_replicate t d e zero = refl
  all_replicate t d e (suc n) = rw e (all_replicate t d e n)

  pub nth_replicate : (n j : ℕ) (d : A) → nth (replicate n d) j d ≡ d
  nth_replicate n zero d = refl
  nth_replicate zero (suc j) d = refl
  nth_replicate (suc n) (suc zero) d = refl
  nth_replicate (suc n) (suc (suc j)) d = nth_replicate n (suc j) d
