-- Kinds of actions and passages as they are seen from a side, and the machine's step by them.
use Prim.Native.Nat.{ℕ}
use mathlib.Core.Path.{◌≡◌, refl, ◌∙◌, ap}
use mathlib.Core.Bool.{Bool, cond, ◌&&◌, ◌||◌}
use Rattle.rules.specs.declared.Side.{Side}
use Rattle.rules.specs.declared.Side.TheVariants.{FrontSide, BackSide}
use Rattle.rules.specs.declared.Layout.{Layout}
use Rattle.rules.specs.declared.End.{End}
use Rattle.rules.specs.declared.Policy.{Policy}
use Rattle.rules.specs.declared.Action.{Action}
use Rattle.rules.specs.declared.Action.TheVariants.{Void, Bottom, Top, Gap, Once, Twice}
use Rattle.rules.specs.declared.Kind.{Kind}
use Rattle.rules.specs.declared.Kind.TheVariants.{Void as VOID, Bottom as BOTTOM, Top as TOP, Gap as GAP, Once as ONCE, Twice as TWICE}
use Rattle.rules.specs.Store.{side_of}
use Rattle.rules.specs.Plans.{kind_of}
use Rattle.rules.specs.Policies.{action_named}
use Rattle.rules.specs.Turned.{seen_from, seen}
use Rattle.rules.specs.Machine.{State, dead, policy_by, is_void}
use Rattle.machine.specs.Steps.{sample_action, kind_from, seen_kind, step_of}
use Rattle.machine.specs.Tables.{is_tested}
use Rattle.machine.proofs.StepLaws.{by_kind}

-- VOID, ONCE and TWICE, of which the test for aisles between is not asked, are seen as such
pub untested_seen : (side : Side) (k : Kind) → is_tested (kind_from side k) ≡ is_tested k
untested_seen FrontSide VOID = refl
untested_seen FrontSide BOTTOM = refl
untested_seen FrontSide TOP = refl
untested_seen FrontSide GAP = refl
untested_seen FrontSide ONCE = refl
untested_seen FrontSide TWICE = refl
untested_seen BackSide VOID = refl
untested_seen BackSide BOTTOM = refl
untested_seen BackSide TOP = refl
untested_seen BackSide GAP = refl
untested_seen BackSide ONCE = refl
untested_seen BackSide TWICE = refl

-- the kind of an action as it is seen is its kind as that is seen
seen_kind_of : (side : Side) (cells : ℕ) (a : Action) → kind_from side (kind_of a) ≡ kind_of (seen_from side cells a)
seen_kind_of FrontSide cells Void = refl
seen_kind_of FrontSide cells (Bottom i) = refl
seen_kind_of FrontSide cells (Top i) = refl
seen_kind_of FrontSide cells (Gap h i) = refl
seen_kind_of FrontSide cells Once = refl
seen_kind_of FrontSide cells Twice = refl
seen_kind_of BackSide cells Void = refl
seen_kind_of BackSide cells (Bottom i) = refl
seen_kind_of BackSide cells (Top i) = refl
seen_kind_of BackSide cells (Gap h i) = refl
seen_kind_of BackSide cells Once = refl
seen_kind_of BackSide cells Twice = refl

-- VOID is seen as VOID, and nothing else is
seen_is_void : (side : Side) (cells : ℕ) (a : Action) → is_void (seen_from side cells a) ≡ is_void a
seen_is_void FrontSide cells a = refl
seen_is_void BackSide cells Void = refl
seen_is_void BackSide cells (Bottom i) = refl
seen_is_void BackSide cells (Top i) = refl
seen_is_void BackSide cells (Gap h i) = refl
seen_is_void BackSide cells Once = refl
seen_is_void BackSide cells Twice = refl

-- the machine looks at the kind of an action as it is seen from the depot's side, and at the answers of the two tests
pub by_seen_kind : (policy : Policy) (end : End) (z : Layout) (between : Bool) (a : Action) (may : Bool) (s : State)
    → step_of policy end (sample_action (seen_kind z (kind_of a))) may between s
    ≡ cond (action_named FrontSide policy (seen z a) && (is_void a || may)) (policy_by policy end between (seen z a) s) dead
by_seen_kind policy end z between a may s =
    ap (λ k. step_of policy end (sample_action k) may between s) (seen_kind_of (side_of z) z.cells a)
    ∙ by_kind policy end (λ b. between) (seen z a) may s
    ∙ ap (λ v. cond (action_named FrontSide policy (seen z a) && (v || may)) (policy_by policy end between (seen z a) s) dead) (seen_is_void (side_of z) z.cells a)
