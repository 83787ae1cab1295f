-- The choice by length and counted aisles is the choice by the key: a way attains what is sought exactly where its key is the one that is looked for.
use Prim.Native.Nat.{ℕ, ◌+◌, ◌*◌, ◌-◌, ◌≤◌, ◌<◌, min}
use native.Mathlib.Omega.{arith}
use mathlib.Core.Path.{◌≡◌, refl, sym}
use mathlib.Core.Bool.{Bool, true, false, ◌&&◌}
use lib.Count.{ones}
use lib.Dec.{eqb}
use borrow.Author.Tests.{eqb-true, eqb-false, eq-eqb, ne_eqb}
use Rattle.optimum.specs.Least.{sum_up_to}
use Rattle.optimum.specs.Routing.{no_tour, sat, no_key}
use Rattle.rows.specs.Pairs.{key_of, Holds}
use Rattle.router.specs.declared.choices.Sought.{Sought}
use Rattle.router.specs.Choosing.{is_attained}

-- what a place holds: below 'none' it is the length and the aisles that are not spared
module _ {left len v key : ℕ} (h : Holds left len v key) where
  pub key_parts : key < no_key → (key ≡ 17 * len + (left - ones v)) × (len < no_tour)
  unfolding key_of
  key_parts finite = let same = h.same in (omega arith, omega arith)

-- THE LAW: a way of a length and a rest has the key that is looked for exactly if it attains what is sought
module _ (g : Sought) {len v key : ℕ} (h : Holds g.left len v key) (room : g.left ≤ 15) (cost x entered goal e : ℕ) (small : x ≤ 1)
    (goal-is : goal ≡ 17 * g.length + e) (few : e ≤ 16) (finite : goal < no_key) (counted : ones entered ≡ g.fewest - e + x) (enough : e ≤ g.fewest) where
  pub attained_key : is_attained g entered (sat cost len) v ≡ eqb (sum_up_to no_key (17 * cost + x) key) goal
  unfolding is_attained key_of sum_up_to
  attained_key = go (eqb (sat cost len) g.length) refl (eqb (ones entered + (g.left - ones v)) g.fewest) refl
    where
      -- the key behind, cut at 'none'
      key_is : key ≡ min (17 * len + (g.left - ones v)) no_key
      key_is = sym h.same

      go : (a : Bool) → eqb (sat cost len) g.length ≡ a → (b : Bool) → eqb (ones entered + (g.left - ones v)) g.fewest ≡ b
          → (a && b) ≡ eqb (sum_up_to no_key (17 * cost + x) key) goal
      go true p true q =
          let length-is = eqb-true (sat cost len) g.length p in
          let count-is = eqb-true (ones entered + (g.left - ones v)) g.fewest q in
          sym (eq-eqb _ goal (omega (arith, length-is, count-is, key_is)))
      go true p false q =
          let length-is = eqb-true (sat cost len) g.length p in
          let count-not = eqb-false (ones entered + (g.left - ones v)) g.fewest q in
          sym (ne_eqb _ goal (λ same. count-not (omega (arith, length-is, key_is, same))))
      go false p b q =
          let length-not = eqb-false (sat cost len) g.length p in
          sym (ne_eqb _ goal (λ same. length-not (omega (arith, key_is, same))))
