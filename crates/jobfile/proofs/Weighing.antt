-- Products over what is left: the weight of the list.
use Prim.Native.Nat.{ℕ, ◌+◌, ◌*◌, ◌≤◌, ◌<◌}
use mathlib.Core.Path.{◌≡◌, refl, sym, ◌∙◌}
use mathlib.Core.List.{List, [], ◌∷◌}
use mathlib.Core.Bool.{true, false}
use native.Mathlib.Omega.{arith}
use native.Mathlib.Nat.{mul-one, one-mul, mul_assoc, mul-le-mul, mul-pos, le-mul_of_pos_right}
use lib.Dec.{ltb}
use native.Mathlib.Numerals.{add-one}
use lib.ListN.{length, get_or, drop, drop_of_length-le}
use lib.Seq.{drop-cons}
use borrow.Author.Tests.{lt-ltb, le-ltb}
use Rattle.rules.specs.declared.OrderLine.{OrderLine}
use Rattle.rules.specs.Lists.{all_of}
use Rattle.rules.specs.Refusals.{line_in_bounds, weight}
use Rattle.rules.proofs.Admission.{line_within}
use Rattle.values.specs.Values.{no_line}
use Rattle.rules.proofs.Numbers.{both_true}

-- a list weighs at least 1
weight_positive : (lines : List OrderLine) → 0 < weight lines
unfolding weight
weight_positive [] = omega arith
weight_positive (l ∷ lines) = mul-pos (omega arith) (weight_positive lines)

-- the product of the lines before i, and the lines from i on, weigh what all do
pub record WeightTo (lines : List OrderLine) (product i : ℕ) : Type 0 where
  pub small : product ≤ 256
  pub bounded : all_of line_in_bounds (drop i lines) ≡ true
  pub same : product * weight (drop i lines) ≡ weight lines

module _ (lines : List OrderLine) where
  pub weight_start : all_of line_in_bounds lines ≡ true → WeightTo lines 1 0
  weight_start e = record { small = omega arith; bounded = e; same = one-mul (weight lines) }

  -- no line is left
  pub weight_light : (product i : ℕ) → WeightTo lines product i → length lines ≤ i → ltb 256 (weight lines) ≡ false
  unfolding weight
  weight_light product i r h =
      let e : product ≡ weight lines = sym (mul-one product) ∙ (rw (drop_of_length-le lines h) at r.same) in
      le-ltb 256 (weight lines) (omega (arith, e, r.small))

  module _ (product i : ℕ) (r : WeightTo lines product i) (h : i < length lines) where
    abbrev line : OrderLine
    line = get_or lines i no_line

    -- the line there and the others
    apart : drop i lines ≡ line ∷ drop (i + 1) lines
    apart = rw (add-one, drop-cons lines i no_line h) refl

    both : (line_in_bounds line ≡ true) × (all_of line_in_bounds (drop (i + 1) lines) ≡ true)
    both = both_true (line_in_bounds line) (all_of line_in_bounds (drop (i + 1) lines)) (rw apart at r.bounded)

    pub quantity_small : line.quantity ≤ 255
    quantity_small = ((line_within line).0 both.0).quantity.1

    -- the product does not wrap
    pub product_small : product * (line.quantity + 1) ≤ 65536
    product_small = let q : line.quantity + 1 ≤ 256 = omega (arith, quantity_small) in mul-le-mul r.small q

    -- what is left with the line there apart
    grown : (product * (line.quantity + 1)) * weight (drop (i + 1) lines) ≡ weight lines
    unfolding weight
    grown = mul_assoc product (line.quantity + 1) (weight (drop (i + 1) lines)) ∙ (rw apart at r.same)

    -- the product is above the limit
    pub weight_heavy : 256 < product * (line.quantity + 1) → ltb 256 (weight lines) ≡ true
    weight_heavy g = lt-ltb 256 (weight lines) (omega (arith, grown, le-mul_of_pos_right (product * (line.quantity + 1)) (weight_positive (drop (i + 1) lines))))

    -- the product is within it
    pub weight_more : product * (line.quantity + 1) ≤ 256 → WeightTo lines (product * (line.quantity + 1)) (i + 1)
    weight_more g = record { small = g; bounded = both.1; same = grown }
