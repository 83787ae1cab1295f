-- What is kept of a list, one after another, is the first of its best.
use Prim.Native.Nat.{ℕ, suc, ◌+◌, ◌≤◌, ◌<◌}
use native.Mathlib.Omega.{arith}
use mathlib.Core.Path.{◌≡◌, refl, sym, ap, ◌∙◌}
use mathlib.Core.List.{List, [], ◌∷◌, ◌++◌, append-nil}
use mathlib.Core.Bool.{Bool, true, false, cond, ◌&&◌, ◌||◌, false≢true}
use mathlib.Core.Option.{Option, none, some}
use mathlib.Core.Logic.{◌↔◌, ◌⊎◌, inl, inr}
use lib.Dec.{eqb, ltb}
use lib.ListN.{length, get_or, take}
use lib.Seq.{take-suc}
use borrow.Author.Tests.{ltb-true, lt-ltb, le-ltb, eqb-true, eq-eqb}
use Rattle.rules.specs.Lists.{select}
use Rattle.rules.specs.BestPlan.{is_better, better_of, first_best}
use Rattle.rules.proofs.Lists.{select_append}
use Rattle.annex_search.specs.Keeping.{kept_with}

-- two tests of the same fact agree
pub same_test : {A : Type 0} (s t : Bool) → (s ≡ true) ↔ A → (t ≡ true) ↔ A → s ≡ t
same_test true true p q = refl
same_test true false p q = sym (q.1 (p.0 refl))
same_test false true p q = p.1 (q.0 refl)
same_test false false p q = refl

-- a comparison that ranks: what is better than a better one is better, and what is no better than one that is no better is none
pub record Ranks {A : Type 0} (better : A → A → Bool) : Type 0 where
  pub over : (x y z : A) → better x y ≡ true → better y z ≡ true → better x z ≡ true
  pub not_over : (x y z : A) → better x y ≡ false → better y z ≡ false → better x z ≡ false

module _ {A : Type 0} (better : A → A → Bool) (ranks : Ranks better) where
  -- one more at the end of a list
  first_more : (xs : List A) (y : A) → first_best better (xs ++ (y ∷ [])) ≡ kept_with better (first_best better xs) true y
  unfolding better_of
  first_more [] y = refl
  first_more (x ∷ xs) y = ap (λ o. some (better_of better x o)) (first_more xs y) ∙ go (first_best better xs)
    where
      alone : (b : Bool) → some (cond b y x) ≡ cond b (some y) (some x)
      alone true = refl
      alone false = refl

      both : (o : A) (a b : Bool) → better y o ≡ a → better o x ≡ b
          → some (better_of better x (cond a (some y) (some o))) ≡ kept_with better (some (cond b o x)) true y
      both o true true p q = rw (ranks.over y o x p q, p) refl
      both o true false p q = alone (better y x)
      both o false true p q = rw (p, q) refl
      both o false false p q = rw (ranks.not_over y o x p q, q) refl

      go : (o : Option A) → some (better_of better x (kept_with better o true y)) ≡ kept_with better (some (better_of better x o)) true y
      go none = alone (better y x)
      go (some o) = both o (better y o) (better o x) refl refl

  -- the same among those that pass a test
  kept_more : (test : A → Bool) (xs : List A) (y : A)
      → first_best better (select test (xs ++ (y ∷ []))) ≡ kept_with better (first_best better (select test xs)) (test y) y
  kept_more test xs y = ap (first_best better) (select_append test xs (y ∷ [])) ∙ go (test y)
    where
      keep : (o : Option A) → o ≡ kept_with better o false y
      keep none = refl
      keep (some b) = refl

      go : (t : Bool) → first_best better (select test xs ++ cond t (y ∷ []) []) ≡ kept_with better (first_best better (select test xs)) t y
      go true = first_more (select test xs) y
      go false = ap (first_best better) (append-nil (select test xs)) ∙ keep (first_best better (select test xs))

  -- the first n of a list, and one more
  pub kept_next : (test : A → Bool) (xs : List A) (n : ℕ) (d : A) → n < length xs
      → first_best better (select test (take (n + 1) xs)) ≡ kept_with better (first_best better (select test (take n xs))) (test (get_or xs n d)) (get_or xs n d)
  kept_next test xs n d h =
      let more : n + 1 ≡ suc n = omega arith in
      ap (λ m. first_best better (select test (take m xs))) more
      ∙ ap (λ l. first_best better (select test l)) (take-suc xs n d h)
      ∙ kept_more test (take n xs) (get_or xs n d)

-- the comparison of #108, by length and then by entered aisles
module _ {A : Type 0} (len aisles : A → ℕ) where
  -- what it says of two
  abbrev Better : A → A → Type 0
  Better x y = (len x < len y) ⊎ ((len x ≡ len y) × (aisles x < aisles y))

  -- and what it says where the first is no better
  abbrev NoBetter : A → A → Type 0
  NoBetter x y = (len y ≤ len x) × (len x ≡ len y → aisles y ≤ aisles x)

  module _ (x y : A) where
    -- where it says so, the first is better
    better_is : is_better len aisles x y ≡ true → Better x y
    unfolding is_better
    better_is e = go (ltb (len x) (len y)) refl (eqb (len x) (len y)) refl (ltb (aisles x) (aisles y)) refl e
      where
        go : (b : Bool) → ltb (len x) (len y) ≡ b → (c : Bool) → eqb (len x) (len y) ≡ c → (d : Bool) → ltb (aisles x) (aisles y) ≡ d
            → b || (c && d) ≡ true → Better x y
        go true p c q d r e = inl (ltb-true (len x) (len y) p)
        go false p true q true r e = inr (eqb-true (len x) (len y) q, ltb-true (aisles x) (aisles y) r)
        go false p true q false r e = absurd (false≢true e)
        go false p false q d r e = absurd (false≢true e)

    -- and the other way round
    is_better_lem : Better x y → is_better len aisles x y ≡ true
    unfolding is_better
    is_better_lem (inl l) = rw (lt-ltb (len x) (len y) l) refl
    is_better_lem (inr (e, l)) = rw (le-ltb (len x) (len y) (omega arith), eq-eqb (len x) (len y) e, lt-ltb (aisles x) (aisles y) l) refl

    -- where it does not, the first is no better
    no_better_is : is_better len aisles x y ≡ false → NoBetter x y
    no_better_is e = (
      let not-shorter : len x < len y → ⊥ = λ l. false≢true (sym e ∙ is_better_lem (inl l)) in omega (arith, not-shorter),
      λ same. (let not-fewer : aisles x < aisles y → ⊥ = λ l. false≢true (sym e ∙ is_better_lem (inr (same, l))) in omega (arith, not-fewer)),
    )

    -- and the other way round
    is_no_better : NoBetter x y → is_better len aisles x y ≡ false
    is_no_better n = go (is_better len aisles x y) refl
      where
        no : Better x y → ⊥
        no (inl l) = omega (arith, n.0)
        no (inr (e, l)) = omega (arith, n.1 e)

        go : (b : Bool) → is_better len aisles x y ≡ b → is_better len aisles x y ≡ false
        go true p = absurd (no (better_is p))
        go false p = p

  -- the comparison ranks
  pub better_ranks : Ranks (is_better len aisles)
  better_ranks = record {
    over = λ x y z p q. is_better_lem x z (chain x y z (better_is x y p) (better_is y z q));
    not_over = λ x y z p q. is_no_better x z (chained x y z (no_better_is x y p) (no_better_is y z q));
  }
    where
      chain : (x y z : A) → Better x y → Better y z → Better x z
      chain x y z (inl l) (inl k) = inl (omega arith)
      chain x y z (inl l) (inr k) = inl (omega (arith, k.0))
      chain x y z (inr l) (inl k) = inl (omega (arith, l.0))
      chain x y z (inr l) (inr k) = inr (omega (arith, l.0, k.0), omega (arith, l.1, k.1))

      chained : (x y z : A) → NoBetter x y → NoBetter y z → NoBetter x z
      chained x y z p q = (
        omega (arith, p.0, q.0),
        λ e. (
            let first : len x ≡ len y = omega (arith, p.0, q.0, e) in
            let second : len y ≡ len z = omega (arith, p.0, q.0, e) in
            omega (arith, p.1 first, q.1 second)
            ),
      )
