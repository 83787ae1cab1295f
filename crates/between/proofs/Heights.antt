-- Lists with a value for each height.
use Prim.Native.Nat.{ℕ, zero, suc, ◌+◌, ◌≤◌, ◌<◌}
use native.Mathlib.Omega.{arith}
use mathlib.Core.Path.{◌≡◌, refl, sym, ◌∙◌, ap, ap₂}
use mathlib.Core.List.{List, ◌∷◌, map}
use mathlib.Core.Bool.{Bool, true, false}
use lib.Dec.{eqb}
use lib.ListN.{length, get_or, set, length-set}
use lib.Seq.{get_or-set_same, get_or-set_other, ext_get_or}
use borrow.Author.Tests.{eqb-true, eqb-false}
use Rattle.rules.specs.Lists.{from}
use Rattle.between.specs.declared.Between.{Between}
use Rattle.between.specs.Between.{by_height}

module _ {A : Type 0} where
  -- the value for one of consecutive numbers
  map_from_at : (f : ℕ → A) (d : A) (a n k b : ℕ) → k < n → a + k ≡ b → get_or (map f (from a n)) k d ≡ f b
  map_from_at f d a zero k b l e = absurd (omega arith)
  map_from_at f d a (suc n) zero b l e = ap f (omega arith)
  map_from_at f d a (suc n) (suc k) b l e = map_from_at f d (suc a) n k b (omega arith) (omega arith)

  -- the value for a height
  pub by_height_at : (f : ℕ → A) (d : A) (h : ℕ) → h < 26 → get_or (by_height f) h d ≡ f h
  unfolding by_height
  by_height_at f d h l = map_from_at f d 0 26 h h l (omega arith)

  -- there are 26
  by_height_size : (f : ℕ → A) → length (by_height f) ≡ 26
  unfolding by_height
  by_height_size f = refl

  -- values that agree at each height
  pub by_height_agree : (f g : ℕ → A) → ((h : ℕ) → h < 26 → f h ≡ g h) → by_height f ≡ by_height g
  unfolding by_height
  by_height_agree f g agree = go 0 26 (λ h low high. agree h (omega arith))
    where
      go : (a n : ℕ) → ((h : ℕ) → a ≤ h → h < a + n → f h ≡ g h) → map f (from a n) ≡ map g (from a n)
      go a zero e = refl
      go a (suc n) e = ap₂ ◌∷◌ (e a (omega arith) (omega arith)) (go (suc a) n (λ h low high. e h (omega arith) (omega arith)))

  -- after a store: the stored value is right, and so is what stands at the other places
  pub one_more_lem : (f : ℕ → A) (d : A) (xs : List A) (i : ℕ) (v : A) → i < length xs → v ≡ f i → (k : ℕ) → ((k ≡ i → ⊥) → get_or xs k d ≡ f k) → get_or (set xs i v) k d ≡ f k
  one_more_lem f d xs i v in_List e k others = go (eqb k i) refl
    where
      go : (b : Bool) → eqb k i ≡ b → get_or (set xs i v) k d ≡ f k
      go true p =
          let same = eqb-true k i p in
          ap (λ n. get_or (set xs i v) n d) same ∙ get_or-set_same xs i v d in_List ∙ e ∙ ap f (sym same)
      go false p = let other = eqb-false k i p in get_or-set_other xs i k v d other ∙ others other

-- a list of 26 places of which those below h are filled
pub record Filled {A : Type 0} (f : ℕ → A) (d : A) (xs : List A) (h : ℕ) : Type 0 where
  pub size : length xs ≡ 26
  pub each : (k : ℕ) → k < h → get_or xs k d ≡ f k

module _ {A : Type 0} (f : ℕ → A) (d : A) (xs : List A) where
  -- none is
  pub filled_none : length xs ≡ 26 → Filled f d xs 0
  filled_none e = record { size = e; each = λ k l. absurd (omega arith) }

  -- one more is
  pub filled_more : (h : ℕ) (v : A) → h < 26 → Filled f d xs h → v ≡ f h → Filled f d (set xs h v) (h + 1)
  filled_more h v l filled e =
      record {
        size = length-set xs h v ∙ filled.size;
        each = λ k m. one_more_lem f d xs h v (omega (arith, filled.size)) e k (λ other. filled.each k (omega (arith, other)));
      }

  -- all are
  pub filled_all : (h : ℕ) → 26 ≤ h → Filled f d xs h → xs ≡ by_height f
  filled_all h l filled =
      ext_get_or d xs (by_height f) (filled.size ∙ sym (by_height_size f)) (λ k m. filled.each k (omega (arith, filled.size)) ∙ sym (by_height_at f d k (omega (arith, filled.size))))

-- the arrays of a test are the same where each of them is
pub same_between : {f g b c : List Bool} {m n : List ℕ} → f ≡ g → b ≡ c → m ≡ n
    → ◌≡◌ {A = Between} (record { front = f; back = b; from = m }) (record { front = g; back = c; from = n })
same_between p q r = rw (p, q, r)
