-- What a policy names with the depot at the back is what it names at the front, as it is seen from the back.
use Prim.Native.Nat.{ℕ}
use mathlib.Core.Path.{◌≡◌, refl}
use Rattle.rules.specs.declared.Side.{Side}
use Rattle.rules.specs.declared.Side.TheVariants.{FrontSide, BackSide}
use Rattle.rules.specs.declared.Policy.{Policy}
use Rattle.rules.specs.declared.Policy.TheVariants.{Exact, Return, Traversal, Midpoint, Composite, Largest}
use Rattle.rules.specs.declared.Action.{Action}
use Rattle.rules.specs.declared.Action.TheVariants.{Void, Bottom, Top, Gap, Once, Twice}
use Rattle.rules.specs.declared.Passage.{Passage}
use Rattle.rules.specs.declared.Passage.TheVariants.{P00, P02, P11, P20, P22}
use Rattle.rules.specs.Policies.{action_named, passage_named}
use Rattle.rules.specs.Turned.{turned_action, turned_passage, seen_from, passage_from}

-- an action is named at the back just if the turned one is named at the front
abbrev Agrees : Policy → ℕ → Action → Type 0
Agrees policy cells a = action_named FrontSide policy (turned_action cells a) ≡ action_named BackSide policy a

each_action : (policy : Policy) (cells h i : ℕ)
    → Agrees policy cells Void × Agrees policy cells (Bottom i) × Agrees policy cells (Top i) × Agrees policy cells (Gap h i) × Agrees policy cells Once × Agrees policy cells Twice
each_action Exact cells h i = (refl, refl, refl, refl, refl, refl)
each_action Return cells h i = (refl, refl, refl, refl, refl, refl)
each_action Traversal cells h i = (refl, refl, refl, refl, refl, refl)
each_action Midpoint cells h i = (refl, refl, refl, refl, refl, refl)
each_action Composite cells h i = (refl, refl, refl, refl, refl, refl)
each_action Largest cells h i = (refl, refl, refl, refl, refl, refl)

-- so with the depot at either side the action as it is seen from there is named at the front
pub action_named_lem : (side : Side) (policy : Policy) (cells : ℕ) (a : Action) → action_named FrontSide policy (seen_from side cells a) ≡ action_named side policy a
action_named_lem FrontSide policy cells a = refl
action_named_lem BackSide policy cells Void = (each_action policy cells 0 0).0
action_named_lem BackSide policy cells (Bottom i) = (each_action policy cells 0 i).1
action_named_lem BackSide policy cells (Top i) = (each_action policy cells 0 i).2
action_named_lem BackSide policy cells (Gap h i) = (each_action policy cells h i).3
action_named_lem BackSide policy cells Once = (each_action policy cells 0 0).4
action_named_lem BackSide policy cells Twice = (each_action policy cells 0 0).5

-- the same of a passage
abbrev PassageAgrees : Policy → Passage → Type 0
PassageAgrees policy p = passage_named FrontSide policy (turned_passage p) ≡ passage_named BackSide policy p

each_passage : (policy : Policy) → PassageAgrees policy P00 × PassageAgrees policy P02 × PassageAgrees policy P11 × PassageAgrees policy P20 × PassageAgrees policy P22
each_passage Exact = (refl, refl, refl, refl, refl)
each_passage Return = (refl, refl, refl, refl, refl)
each_passage Traversal = (refl, refl, refl, refl, refl)
each_passage Midpoint = (refl, refl, refl, refl, refl)
each_passage Composite = (refl, refl, refl, refl, refl)
each_passage Largest = (refl, refl, refl, refl, refl)

pub passage_named_lem : (side : Side) (policy : Policy) (p : Passage) → passage_named FrontSide policy (passage_from side p) ≡ passage_named side policy p
passage_named_lem FrontSide policy p = refl
passage_named_lem BackSide policy P00 = (each_passage policy).0
passage_named_lem BackSide policy P02 = (each_passage policy).1
passage_named_lem BackSide policy P11 = (each_passage policy).2
passage_named_lem BackSide policy P20 = (each_passage policy).3
passage_named_lem BackSide policy P22 = (each_passage policy).4
