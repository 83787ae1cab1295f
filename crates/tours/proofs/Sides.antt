-- What an action is to the machine's tables, as it is seen from the depot's side.
use mathlib.Core.Path.{◌≡◌, refl, ◌∙◌}
use mathlib.Core.Bool.{Bool, true, false, cond}
use Rattle.rules.specs.declared.Side.{Side}
use Rattle.rules.specs.declared.Side.TheVariants.{FrontSide, BackSide}
use Rattle.rules.specs.declared.Layout.{Layout}
use Rattle.rules.specs.declared.Policy.TheVariants.{Midpoint}
use Rattle.rules.specs.declared.Action.{Action}
use Rattle.rules.specs.declared.Action.TheVariants.{Void, Bottom, Top, Gap, Once, Twice}
use Rattle.rules.specs.Store.{side_of}
use Rattle.rules.specs.Policies.{action_named, through}
use Rattle.rules.specs.Turned.{seen_from, seen}
use Rattle.rules.specs.Machine.{odd, dead, midpoint_by, is_void}
use Rattle.rules.proofs.Named.{action_named_lem}
use Rattle.tours.proofs.Basics.{true_not_false, false_not_true}

-- ONCE and TWICE are the same from either side
pub seen_through : (z : Layout) (a : Action) → through a ≡ true → seen z a ≡ a
seen_through z a t = from (side_of z) a t
  where
    from : (side : Side) (b : Action) → through b ≡ true → seen_from side z.cells b ≡ b
    from FrontSide b t = refl
    from BackSide Void t = absurd (false_not_true t)
    from BackSide (Bottom i) t = absurd (false_not_true t)
    from BackSide (Top i) t = absurd (false_not_true t)
    from BackSide (Gap h i) t = absurd (false_not_true t)
    from BackSide Once t = refl
    from BackSide Twice t = refl

-- MIDPOINT names VOID, BOTTOM, TOP and GAP from either side
pub seen_named : (z : Layout) (a : Action) → through a ≡ false → action_named FrontSide Midpoint (seen z a) ≡ true
seen_named z a t = action_named_lem (side_of z) Midpoint z.cells a ∙ named (side_of z) a t
  where
    named : (side : Side) (b : Action) → through b ≡ false → action_named side Midpoint b ≡ true
    named side Void t = refl
    named side (Bottom i) t = refl
    named side (Top i) t = refl
    named side (Gap h i) t = refl
    named side Once t = absurd (true_not_false t)
    named side Twice t = absurd (true_not_false t)

-- and asks the test for aisles between of BOTTOM, TOP and GAP in the state `odd`
pub seen_asked : (z : Layout) (a : Action) → through a ≡ false → is_void a ≡ false → (x : Bool) → midpoint_by x (seen z a) odd ≡ cond x odd dead
seen_asked z a t v x = from (side_of z) a t v
  where
    from : (side : Side) (b : Action) → through b ≡ false → is_void b ≡ false → midpoint_by x (seen_from side z.cells b) odd ≡ cond x odd dead
    from side Void t v = absurd (true_not_false v)
    from FrontSide (Bottom i) t v = refl
    from FrontSide (Top i) t v = refl
    from FrontSide (Gap h i) t v = refl
    from BackSide (Bottom i) t v = refl
    from BackSide (Top i) t v = refl
    from BackSide (Gap h i) t v = refl
    from side Once t v = absurd (true_not_false t)
    from side Twice t v = absurd (true_not_false t)
