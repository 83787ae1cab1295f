-- A length and the packed ones beside it as a key: the lesser length, and the ones that go with it, have the lesser key.
use Prim.Native.Nat.{ℕ, zero, suc, ◌+◌, ◌*◌, ◌-◌, ◌^◌, ◌≤◌, ◌<◌, min, max}
use native.Mathlib.Omega.{arith}
use native.Mathlib.Numerals.{add-one}
use native.Mathlib.Nat.{mod-eq_of_lt}
use mathlib.Core.Path.{◌≡◌, refl, sym, ◌∙◌, ap, ap₂}
use mathlib.Core.Bool.{Bool, true, false}
use lib.Bits.{bit_or, or_zero_l, or_zero_r, or_block}
use lib.Count.{ones, ones-ones}
use lib.Dec.{ltb, lit<}
use lib.Pow.{ones_split, pow_mono}
use borrow.Author.Tests.{eq-eqb, ne_eqb, ltb-true, ltb-false}
use Rattle.optimum.specs.Least.{sum_up_to}
use Rattle.optimum.specs.Routing.{no_tour, sat, no_key}
use Rattle.rows.specs.Pairs.{ones_of, one_more, Packed, key_of, Sound, Holds, walk}

-- k ones, packed from bit 0 up
abbrev low : ℕ → ℕ
low k = 2 ^ k - 1

-- one more is twice as many, and one
low_suc : (k : ℕ) → low (suc k) ≡ low k * 2 + 1
low_suc k = ap low (sym (add-one k)) ∙ ones_split k 1

-- of two packed numbers 'or' is the one with more ones
pub or_low : (k l : ℕ) → bit_or (low k) (low l) ≡ low (max k l)
or_low zero l = or_zero_l (low l) ∙ ap low (omega arith)
or_low (suc k) zero = or_zero_r (low (suc k)) ∙ ap low (omega arith)
or_low (suc k) (suc l) =
    ap₂ bit_or (low_suc k) (low_suc l)
    ∙ or_block 1 (low k) (low l) 1 1 (lit< tt) (lit< tt)
    ∙ ap (λ n. n * 2 + 1) (or_low k l)
    ∙ sym (low_suc (max k l))
    ∙ ap low (omega arith)

-- k ones at the low end are packed
pub packed_low : (r k : ℕ) → k ≤ r → Packed r (low k)
packed_low r k h = record { few = omega (arith, ones-ones k); low = ap low (sym (ones-ones k)) }

module _ {r u v : ℕ} (p : Packed r u) (q : Packed r v) where
  -- the same of packed numbers
  or_is : bit_or u v ≡ low (max (ones u) (ones v))
  or_is = ap₂ bit_or p.low q.low ∙ or_low (ones u) (ones v)

  -- it has as many ones as the one with more
  pub ones_or : ones (bit_or u v) ≡ max (ones u) (ones v)
  ones_or = ap ones or_is ∙ ones-ones (max (ones u) (ones v))

  -- it is packed
  pub packed_or : Packed r (bit_or u v)
  packed_or = record { few = omega (arith, ones_or, p.few, q.few); low = or_is ∙ ap low (sym ones_or) }

module _ {r v : ℕ} (room : r < 16) (p : Packed r v) where
  -- a packed number with room for it gets one more
  one_more_is : one_more v ≡ low (suc (ones v))
  one_more_is =
      let small : v < 32768 = omega (arith, p.low, pow_mono (le_15 p.few)) in
      ap (λ n. n * 2 + 1) (mod-eq_of_lt small ∙ p.low) ∙ sym (low_suc (ones v))
    where
      le_15 : ones v ≤ r → ones v ≤ 15
      le_15 h = omega arith

  -- it has one more
  pub ones_one_more : ones (one_more v) ≡ suc (ones v)
  ones_one_more = ap ones one_more_is ∙ ones-ones (suc (ones v))

  -- it is packed
  pub packed_one_more : Packed (suc r) (one_more v)
  packed_one_more = record { few = omega (arith, ones_one_more, p.few); low = one_more_is ∙ ap low (sym ones_one_more) }

-- the ones that go with the lesser of two lengths: those of the first, where it is lesser
ones_left : (a u b v : ℕ) → a < b → ones_of a u b v ≡ u
unfolding ones_of
ones_left a u b v h =
    rw (eq-eqb a (min a b) (omega arith), ne_eqb b (min a b) (λ e. omega arith)) (or_zero_r u)

-- those of the second, where that is lesser
ones_right : (a u b v : ℕ) → b < a → ones_of a u b v ≡ v
unfolding ones_of
ones_right a u b v h =
    rw (ne_eqb a (min a b) (λ e. omega arith), eq-eqb b (min a b) (omega arith)) (or_zero_l v)

-- those of both, where the two are equal
ones_both : (a u b v : ℕ) → a ≡ b → ones_of a u b v ≡ bit_or u v
unfolding ones_of
ones_both a u b v h =
    rw (eq-eqb a (min a b) (omega arith), eq-eqb b (min a b) (omega arith))

-- which of two numbers is lesser
data Compared (a b : ℕ) : Type 0 where
  less : a < b → Compared a b
  more : b < a → Compared a b
  same : a ≡ b → Compared a b

-- one of the three is so
compare : (a b : ℕ) → Compared a b
compare a b = go (ltb a b) refl (ltb b a) refl
  where
    go : (c : Bool) → ltb a b ≡ c → (d : Bool) → ltb b a ≡ d → Compared a b
    go true e d f = less (ltb-true a b e)
    go false e true f = more (ltb-true b a f)
    go false e false f = same (omega (arith, ltb-false a b e, ltb-false b a f))

-- a lesser length has the lesser key, whatever number up to 16 is added
cut_less : (a b x y : ℕ) → a < b → x ≤ 16 → min (17 * a + x) no_key ≡ min (min (17 * a + x) no_key) (min (17 * b + y) no_key)
cut_less a b x y h l = omega arith

-- the same the other way round
cut_more : (a b x y : ℕ) → b < a → y ≤ 16 → min (17 * b + y) no_key ≡ min (min (17 * a + x) no_key) (min (17 * b + y) no_key)
cut_more a b x y h l = omega arith

-- of equal lengths the one with the lesser number added has it
cut_same : (a x y : ℕ) → min (17 * a + min x y) no_key ≡ min (min (17 * a + x) no_key) (min (17 * a + y) no_key)
cut_same a x y = omega arith

-- at 'none' it does not matter what is added
cut_none : (a x y z : ℕ) → no_tour ≤ a → min (17 * a + z) no_key ≡ min (min (17 * a + x) no_key) (min (17 * a + y) no_key)
cut_none a x y z h = omega arith

module _ (r a u b v : ℕ) (few : r ≤ 16) (p : Sound r a u) (q : Sound r b v) where
  -- the lesser of two lengths, with the ones that go with it, has the lesser of the two keys
  pub key_lesser : key_of r (min a b) (ones_of a u b v) ≡ min (key_of r a u) (key_of r b v)
  unfolding key_of
  key_lesser = go (compare a b)
    where
      go : Compared a b → key_of r (min a b) (ones_of a u b v) ≡ min (key_of r a u) (key_of r b v)
      go (less h) = ap₂ (key_of r) (omega arith) (ones_left a u b v h) ∙ cut_less a b (r - ones u) (r - ones v) h (omega arith)
      go (more h) = ap₂ (key_of r) (omega arith) (ones_right a u b v h) ∙ cut_more a b (r - ones u) (r - ones v) h (omega arith)
      go (same h) = ap₂ (key_of r) (omega arith) (ones_both a u b v h) ∙ equal (ltb a no_tour) refl ∙ ap (λ n. min (key_of r a u) (key_of r n v)) h
        where
          -- by whether the length is one of a tour
          equal : (c : Bool) → ltb a no_tour ≡ c → key_of r a (bit_or u v) ≡ min (key_of r a u) (key_of r a v)
          equal true e =
              let l : a < no_tour = ltb-true a no_tour e in
              let m : r - ones (bit_or u v) ≡ min (r - ones u) (r - ones v) = omega (arith, ones_or (p l) (q (omega arith))) in
              ap (λ n. min (17 * a + n) no_key) m ∙ cut_same a (r - ones u) (r - ones v)
          equal false e = cut_none a (r - ones u) (r - ones v) (r - ones (bit_or u v)) (ltb-false a no_tour e)

  -- and where it is one of a tour they are packed
  pub sound_lesser : Sound r (min a b) (ones_of a u b v)
  sound_lesser l = go (compare a b)
    where
      go : Compared a b → Packed r (ones_of a u b v)
      go (less h) = rw (ones_left a u b v h) (p (omega arith))
      go (more h) = rw (ones_right a u b v h) (q (omega arith))
      go (same h) = rw (ones_both a u b v h) (packed_or (p (omega arith)) (q (omega arith)))

-- two equal numbers are as sound
pub sound_as : {r len len' v v' : ℕ} → len' ≡ len → v' ≡ v → Sound r len v → Sound r len' v'
sound_as p e h = rw (p, e) h

-- and hold the same key
pub held_as : {r len len' v v' key : ℕ} → len' ≡ len → v' ≡ v → Holds r len v key → Holds r len' v' key
held_as p e h = rw (p, e) h

-- no key is above 'none'
pub key_top : (r len v : ℕ) → key_of r len v ≤ no_key
unfolding key_of
key_top r len v = omega arith

-- a cost in front of a length is that length in front of its key
pub key_plus : (r c len v : ℕ) → key_of r (sat c len) v ≡ walk c (key_of r len v)
unfolding key_of sum_up_to
key_plus r c len v = omega arith

-- the ones stay packed
pub sound_plus : (r c len v : ℕ) → Sound r len v → Sound r (sat c len) v
unfolding sum_up_to
sound_plus r c len v p l = p (omega arith)

-- two lengths in front of a key are their sum in front of it
pub walk_walk : (a b v : ℕ) → walk a (walk b v) ≡ walk (a + b) v
unfolding sum_up_to
walk_walk a b v = omega arith

-- no more in front of no more is no more
pub walk_mono : (a b u v : ℕ) → a ≤ b → u ≤ v → walk a u ≤ walk b v
unfolding sum_up_to
walk_mono a b u v l m = omega arith

-- in front of 'none' there is none
pub walk_none : (a v : ℕ) → v ≡ no_key → walk a v ≡ no_key
unfolding sum_up_to
walk_none a v e = omega arith

-- a length, and what is added for an entered aisle, in front of a key
pub walk_entered : (c e v : ℕ) → walk c (sum_up_to no_key e v) ≡ sum_up_to no_key (17 * c + e) v
unfolding sum_up_to
walk_entered c e v = omega arith

-- an aisle more, with the ones as they were: it is entered, and the key is one more
pub key_entered : (r len v : ℕ) → r < 16 → Sound r len v → key_of (suc r) len v ≡ sum_up_to no_key 1 (key_of r len v)
unfolding key_of sum_up_to
key_entered r len v room p = go (ltb len no_tour) refl
  where
    go : (c : Bool) → ltb len no_tour ≡ c → key_of (suc r) len v ≡ sum_up_to no_key 1 (key_of r len v)
    go true e = omega (arith, (p (ltb-true len no_tour e)).few)
    go false e = omega (arith, ltb-false len no_tour e)

-- the ones stay packed
pub sound_entered : (r len v : ℕ) → Sound r len v → Sound (suc r) len v
sound_entered r len v p l = let k = p l in record { few = omega (arith, k.few); low = k.low }

-- an aisle more, with a one more: it is spared, and the key is the same
pub key_spared : (r len v : ℕ) → r < 16 → Sound r len v → key_of (suc r) len (one_more v) ≡ key_of r len v
unfolding key_of
key_spared r len v room p = go (ltb len no_tour) refl
  where
    go : (c : Bool) → ltb len no_tour ≡ c → key_of (suc r) len (one_more v) ≡ key_of r len v
    go true e =
        let k = p (ltb-true len no_tour e) in
        omega (arith, k.few, ones_one_more room k)
    go false e = omega (arith, ltb-false len no_tour e)

-- the ones stay packed
pub sound_spared : (r len v : ℕ) → r < 16 → Sound r len v → Sound (suc r) len (one_more v)
sound_spared r len v room p l = packed_one_more room (p l)
