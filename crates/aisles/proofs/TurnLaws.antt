-- The turns of a kind of action stand for its actions.
use Prim.Native.Nat.{ℕ, suc, ◌+◌, ◌≤◌, ◌<◌}
use native.Mathlib.Omega.{arith}
use mathlib.Core.Path.{◌≡◌, refl, sym, ap₂}
use mathlib.Core.Bool.{true, ◌&&◌, and-eq-true_iff}
use lib.Dec.{ltb, leb}
use borrow.Author.Tests.{ltb-true, leb-true, eqb-true, lt-ltb, le-leb, eq-eqb}
use Rattle.rules.specs.declared.Action.{Action}
use Rattle.rules.specs.declared.Action.TheVariants.{Void, Bottom, Top, Gap, Once, Twice}
use Rattle.rules.specs.declared.Kind.{Kind}
use Rattle.rules.specs.declared.Kind.TheVariants.{Void as VOID, Bottom as BOTTOM, Top as TOP, Gap as GAP, Once as ONCE, Twice as TWICE}
use Rattle.rules.specs.Plans.{Fits, kind_of}
use Rattle.aisles.specs.Actions.{front_of, back_of}
use Rattle.aisles.specs.Turns.{front_at, back_at}

-- an action whose parts reach the heights h and i
pub record PairOf (cells : ℕ) (kind : Kind) (h i : ℕ) (a : Action) : Type 0 where
  pub fits : Fits cells a
  pub kind_is : kind_of a ≡ kind
  pub front_is : front_of cells a ≡ h
  pub back_is : back_of cells a ≡ i

-- the action of a kind whose parts do
abbrev pub action_by : Kind → ℕ → ℕ → Action
action_by VOID h i = Void
action_by BOTTOM h i = Bottom h
action_by TOP h i = Top i
action_by GAP h i = Gap h i
action_by ONCE h i = Once
action_by TWICE h i = Twice

-- a pair of turns is an action
pub pair_action : (cells : ℕ) (kind : Kind) (h i : ℕ) → h < i → front_at cells kind h ≡ true → back_at (cells + 1) kind i ≡ true → PairOf cells kind h i (action_by kind h i)
pair_action cells VOID h i l f b =
    record { fits = tt; kind_is = refl; front_is = sym (eqb-true h 0 f); back_is = omega (arith, eqb-true i (cells + 1) b) }
pair_action cells BOTTOM h i l f b =
    let u = (and-eq-true_iff (leb 1 h) (leb h cells)).0 f in
    record { fits = (leb-true 1 h u.0, leb-true h cells u.1); kind_is = refl; front_is = refl; back_is = omega (arith, eqb-true i (cells + 1) b) }
pair_action cells TOP h i l f b =
    let u = (and-eq-true_iff (leb 1 i) (ltb i (cells + 1))).0 b in
    record { fits = (leb-true 1 i u.0, omega (arith, ltb-true i (cells + 1) u.1)); kind_is = refl; front_is = sym (eqb-true h 0 f); back_is = refl }
pair_action cells GAP h i l f b =
    let u = (and-eq-true_iff (leb 1 h) (ltb h cells)).0 f in
    let v = (and-eq-true_iff (leb 2 i) (ltb i (cells + 1))).0 b in
    record { fits = (leb-true 1 h u.0, l, omega (arith, ltb-true i (cells + 1) v.1)); kind_is = refl; front_is = refl; back_is = refl }
pair_action cells ONCE h i l f b =
    record { fits = tt; kind_is = refl; front_is = sym (eqb-true h cells f); back_is = omega (arith, eqb-true i (cells + 1) b) }
pair_action cells TWICE h i l f b =
    record { fits = tt; kind_is = refl; front_is = sym (eqb-true h cells f); back_is = omega (arith, eqb-true i (cells + 1) b) }

-- an action is a pair of turns
pub record PairAt (cells : ℕ) (kind : Kind) (front back : ℕ) : Type 0 where
  pub at_front : front_at cells kind front ≡ true
  pub at_back : back_at (cells + 1) kind back ≡ true
  pub order : front < back
  pub high : back ≤ cells + 1

pub action_pair : (cells : ℕ) (a : Action) → Fits cells a → PairAt cells (kind_of a) (front_of cells a) (back_of cells a)
action_pair cells Void f =
    record { at_front = eq-eqb 0 0 refl; at_back = eq-eqb (suc cells) (cells + 1) (omega arith); order = omega arith; high = omega arith }
action_pair cells (Bottom i) f =
    record {
      at_front = ap₂ ◌&&◌ (le-leb 1 i f.0) (le-leb i cells f.1);
      at_back = eq-eqb (suc cells) (cells + 1) (omega arith);
      order = omega (arith, f.1);
      high = omega arith;
    }
action_pair cells (Top i) f =
    record {
      at_front = eq-eqb 0 0 refl;
      at_back = ap₂ ◌&&◌ (le-leb 1 i f.0) (lt-ltb i (cells + 1) (omega (arith, f.1)));
      order = omega (arith, f.0);
      high = omega (arith, f.1);
    }
action_pair cells (Gap h i) f =
    record {
      at_front = ap₂ ◌&&◌ (le-leb 1 h f.0) (lt-ltb h cells (omega (arith, f.1, f.2)));
      at_back = ap₂ ◌&&◌ (le-leb 2 i (omega (arith, f.0, f.1))) (lt-ltb i (cells + 1) (omega (arith, f.2)));
      order = f.1;
      high = omega (arith, f.2);
    }
action_pair cells Once f =
    record { at_front = eq-eqb cells cells refl; at_back = eq-eqb (suc cells) (cells + 1) (omega arith); order = omega arith; high = omega arith }
action_pair cells Twice f =
    record { at_front = eq-eqb cells cells refl; at_back = eq-eqb (suc cells) (cells + 1) (omega arith); order = omega arith; high = omega arith }
