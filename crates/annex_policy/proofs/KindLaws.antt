-- The kinds of actions: what is entered, walked back, walked through.
use native.Mathlib.Omega.{arith}
use mathlib.Core.Path.{◌≡◌, refl, sym, ap, ◌∙◌}
use mathlib.Core.Logic.{◌↔◌}
use mathlib.Core.Bool.{Bool, true, false, not, ◌&&◌, true≢false, false≢true}
use Rattle.rules.specs.declared.Side.{Side}
use Rattle.rules.specs.declared.Side.TheVariants.{FrontSide, BackSide}
use Rattle.rules.specs.declared.Action.{Action}
use Rattle.rules.specs.declared.Action.TheVariants.{Void, Bottom, Top, Gap, Once, Twice}
use Rattle.rules.specs.declared.Policy.TheVariants.{Exact}
use Rattle.rules.specs.declared.Passage.{Passage}
use Rattle.rules.specs.declared.Passage.TheVariants.{P00, P02, P11, P20, P22}
use Rattle.rules.specs.Plans.{kind_of, kind_rank, entered}
use Rattle.rules.specs.Policies.{action_named, passage_named, IsBottom, IsTop}
use Rattle.annex_policy.specs.Rows.{WalksAs}

-- one that is not entered is VOID
pub void_unless_entered : (a : Action) → entered a ≡ false → a ≡ Void
void_unless_entered Void e = refl
void_unless_entered (Bottom i) e = absurd (true≢false e)
void_unless_entered (Top i) e = absurd (true≢false e)
void_unless_entered (Gap h i) e = absurd (true≢false e)
void_unless_entered Once e = absurd (true≢false e)
void_unless_entered Twice e = absurd (true≢false e)

-- the depot is at the front
abbrev pub at_front : Side → Bool
at_front FrontSide = true
at_front BackSide = false

-- VOID, or walked back from the depot's side, or walked through
abbrev pub walks : Side → Action → Bool → Bool
walks side Void back = true
walks side (Bottom i) back = back && at_front side
walks side (Top i) back = back && not (at_front side)
walks side (Gap h i) back = false
walks side Once back = not back
walks side Twice back = false

-- is what is asked of an action if it is entered
pub walks_said : (side : Side) (a : Action) (back r : Bool) → r ≡ walks side a back → (r ≡ true) ↔ WalksAs side a back
unfolding IsBottom IsTop
walks_said side a back r e = (λ t. to side a back (sym e ∙ t), λ w. e ∙ from side a back w)
  where
    to : (side : Side) (a : Action) (back : Bool) → walks side a back ≡ true → WalksAs side a back
    to side Void true t = λ w. absurd (false≢true w)
    to side Void false t = λ w. absurd (false≢true w)
    to FrontSide (Bottom i) true t = λ w. (i, refl)
    to BackSide (Bottom i) true t = absurd (false≢true t)
    to side (Bottom i) false t = absurd (false≢true t)
    to FrontSide (Top i) true t = absurd (false≢true t)
    to BackSide (Top i) true t = λ w. (i, refl)
    to side (Top i) false t = absurd (false≢true t)
    to side (Gap h i) back t = absurd (false≢true t)
    to side Once true t = absurd (false≢true t)
    to side Once false t = λ w. refl
    to side Twice back t = absurd (false≢true t)

    -- the kinds of two actions that are said to be one
    other : {A : Type 0} {a b : Action} → a ≡ b → (kind_rank (kind_of a) ≡ kind_rank (kind_of b) → ⊥) → A
    other e n = absurd (n (ap (λ x. kind_rank (kind_of x)) e))

    from : (side : Side) (a : Action) (back : Bool) → WalksAs side a back → walks side a back ≡ true
    from side Void back w = refl
    from FrontSide (Bottom i) true w = refl
    from BackSide (Bottom i) true w = other (w refl).1 (λ n. omega (arith, n))
    from side (Bottom i) false w = other (w refl) (λ n. omega (arith, n))
    from FrontSide (Top i) true w = other (w refl).1 (λ n. omega (arith, n))
    from BackSide (Top i) true w = refl
    from side (Top i) false w = other (w refl) (λ n. omega (arith, n))
    from FrontSide (Gap h i) true w = other (w refl).1 (λ n. omega (arith, n))
    from BackSide (Gap h i) true w = other (w refl).1 (λ n. omega (arith, n))
    from side (Gap h i) false w = other (w refl) (λ n. omega (arith, n))
    from FrontSide Once true w = other (w refl).1 (λ n. omega (arith, n))
    from BackSide Once true w = other (w refl).1 (λ n. omega (arith, n))
    from side Once false w = refl
    from FrontSide Twice true w = other (w refl).1 (λ n. omega (arith, n))
    from BackSide Twice true w = other (w refl).1 (λ n. omega (arith, n))
    from side Twice false w = other (w refl) (λ n. omega (arith, n))

-- EXACT names every action
pub exact_action : (side : Side) (a : Action) → true ≡ action_named side Exact a
exact_action side Void = refl
exact_action side (Bottom i) = refl
exact_action side (Top i) = refl
exact_action side (Gap h i) = refl
exact_action side Once = refl
exact_action side Twice = refl

-- and every passage
pub exact_passage : (side : Side) (p : Passage) → true ≡ passage_named side Exact p
exact_passage side P00 = refl
exact_passage side P02 = refl
exact_passage side P11 = refl
exact_passage side P20 = refl
exact_passage side P22 = refl
