-- The bounds of a layout, and what the parts of an action cost.
use Prim.Native.Nat.{ℕ, suc, ◌+◌, ◌≤◌}
use native.Mathlib.Omega.{arith}
use mathlib.Core.Path.{◌≡◌, refl, ap, ap₂}
use mathlib.Core.Bool.{true, false, not, ◌&&◌, and-eq-true_iff}
use lib.Dec.{leb}
use lib.ListN.{get_or}
use borrow.Author.Tests.{leb-true, le-leb}
use Rattle.rules.specs.declared.Layout.{Layout}
use Rattle.rules.specs.declared.Action.{Action}
use Rattle.rules.specs.declared.Action.TheVariants.{Void, Bottom, Top, Gap, Once, Twice}
use Rattle.rules.specs.Store.{layout_in_bounds, LayoutWithin}
use Rattle.rules.specs.Plans.{kind_of}
use Rattle.rules.specs.Policies.{through}
use Rattle.rules.specs.Lengths.{action_length}
use Rattle.rules.proofs.Admission.{layout_within}
use Rattle.rules.proofs.Lengths.{position_front, position_back}
use Rattle.between.specs.declared.Between.{Between}
use Rattle.between.specs.Between.{allows_turns}
use Rattle.aisles.specs.Actions.{front_of, back_of, front_cost, back_cost, passes_between}

module _ (z : Layout) (bounds : layout_in_bounds z ≡ true) where
  -- the bounds of the layout's numbers
  pub within : LayoutWithin z
  within = (layout_within z).0 bounds

-- the length of an action is what its parts cost; a part that is not there costs nothing
pub length_of_parts : (z : Layout) (a : Action) → front_cost z (kind_of a) (front_of z.cells a) + back_cost z (back_of z.cells a) ≡ action_length z a
unfolding action_length
length_of_parts z Void = omega (arith, position_front z, position_back z (suc z.cells) (omega arith))
length_of_parts z (Bottom i) = omega (arith, position_back z (suc z.cells) (omega arith))
length_of_parts z (Top i) = omega (arith, position_front z)
length_of_parts z (Gap h i) = refl
length_of_parts z Once = omega (arith, position_back z (suc z.cells) (omega arith))
length_of_parts z Twice = omega (arith, position_back z (suc z.cells) (omega arith))

-- the turns of an action that passes the test for aisles between
pub record Turning (b : Between) (h i : ℕ) : Type 0 where
  pub front : get_or b.front h false ≡ true
  pub back : get_or b.back i false ≡ true
  pub goes : get_or b.from h 0 ≤ i

-- an action passes it where it is walked there and back and its turns do
pub between_turns : (b : Between) (cells : ℕ) (a : Action) → passes_between b cells a ≡ true → Turning b (front_of cells a) (back_of cells a)
unfolding passes_between allows_turns
between_turns b cells a e =
    let front = get_or b.front (front_of cells a) false in
    let back = get_or b.back (back_of cells a) false in
    let goes = leb (get_or b.from (front_of cells a) 0) (back_of cells a) in
    let turns = (and-eq-true_iff front (back && goes)).0 ((and-eq-true_iff (not (through a)) (front && (back && goes))).0 e).1 in
    let behind = (and-eq-true_iff back goes).0 turns.1 in
    record { front = turns.0; back = behind.0; goes = leb-true (get_or b.from (front_of cells a) 0) (back_of cells a) behind.1 }

pub turns_between : (b : Between) (cells : ℕ) (a : Action) → through a ≡ false → Turning b (front_of cells a) (back_of cells a) → passes_between b cells a ≡ true
unfolding passes_between allows_turns
turns_between b cells a n t =
    ap₂ ◌&&◌ (ap not n) (ap₂ ◌&&◌ t.front (ap₂ ◌&&◌ t.back (le-leb (get_or b.from (front_of cells a) 0) (back_of cells a) t.goes)))
