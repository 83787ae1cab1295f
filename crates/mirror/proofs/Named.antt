-- What a policy names at one side is, turned, named at the other.
use Prim.Native.Nat.{ℕ}
use mathlib.Core.Path.{◌≡◌, sym, ◌∙◌, ap}
use Rattle.rules.specs.declared.Side.{Side}
use Rattle.rules.specs.declared.Side.TheVariants.{FrontSide, BackSide}
use Rattle.rules.specs.declared.Policy.{Policy}
use Rattle.rules.specs.declared.Action.{Action}
use Rattle.rules.specs.declared.Passage.{Passage}
use Rattle.rules.specs.Plans.{Fits}
use Rattle.rules.specs.Policies.{action_named, passage_named}
use Rattle.rules.specs.Turned.{turned_action, turned_passage}
use Rattle.rules.proofs.Named.{action_named_lem, passage_named_lem}
use Rattle.mirror.specs.Turned.{other_side}
use Rattle.mirror.proofs.Plans.{action_twice, passage_twice}

pub turned_action_named : (side : Side) (policy : Policy) (cells : ℕ) (a : Action) → Fits cells a
    → action_named (other_side side) policy (turned_action cells a) ≡ action_named side policy a
turned_action_named FrontSide policy cells a fits =
    sym (action_named_lem BackSide policy cells (turned_action cells a)) ∙ ap (action_named FrontSide policy) (action_twice cells a fits)
turned_action_named BackSide policy cells a fits = action_named_lem BackSide policy cells a

pub turned_passage_named : (side : Side) (policy : Policy) (p : Passage) → passage_named (other_side side) policy (turned_passage p) ≡ passage_named side policy p
turned_passage_named FrontSide policy p = sym (passage_named_lem BackSide policy (turned_passage p)) ∙ ap (passage_named FrontSide policy) (passage_twice p)
turned_passage_named BackSide policy p = passage_named_lem BackSide policy p
