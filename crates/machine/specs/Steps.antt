-- The machine's steps by kind of action.
use Rattle.std.specs.Prelude.{ℕ, Bool, cond, ◌&&◌, ◌||◌}
use Rattle.rules.specs.declared.Side.{Side}
use Rattle.rules.specs.declared.Side.TheVariants.{FrontSide}
use Rattle.rules.specs.declared.Layout.{Layout}
use Rattle.rules.specs.declared.End.{End}
use Rattle.rules.specs.declared.Policy.{Policy}
use Rattle.rules.specs.declared.Action.{Action}
use Rattle.rules.specs.declared.Action.TheVariants.{Void, Bottom, Top, Gap, Once, Twice}
use Rattle.rules.specs.declared.Kind.{Kind}
use Rattle.rules.specs.declared.Kind.TheVariants.{Void as VOID, Bottom as BOTTOM, Top as TOP, Gap as GAP, Once as ONCE, Twice as TWICE}
use Rattle.rules.specs.declared.Passage.{Passage}
use Rattle.rules.specs.Store.{side_of}
use Rattle.rules.specs.Plans.{kind_of}
use Rattle.rules.specs.Turned.{seen_from}
use Rattle.rules.specs.Policies.{action_named, passage_named}
use Rattle.rules.specs.Machine.{State, dead, policy_by, cross_step, is_void}
use Rattle.machine.specs.declared.Place.{Place}
use Rattle.machine.specs.declared.Place.TheVariants.{Left, At, Right}

-- where an aisle lies, as the number that it has where the depot's is 1
abbrev pub place_number : Place → ℕ
place_number Left = 0
place_number At = 1
place_number Right = 2

-- an action of a kind: the machine does not look at the cells
abbrev pub sample_action : Kind → Action
sample_action VOID = Void
sample_action BOTTOM = Bottom 1
sample_action TOP = Top 1
sample_action GAP = Gap 1 2
sample_action ONCE = Once
sample_action TWICE = Twice

-- a kind as it is seen from a side; how many cells the aisle has does not matter
abbrev pub kind_from : Side → Kind → Kind
kind_from side kind = kind_of (seen_from side 1 (sample_action kind))

-- a kind as it is seen from the depot's side
abbrev pub seen_kind : Layout → Kind → Kind
seen_kind z kind = kind_from (side_of z) kind

-- the state after an action, with TRAVERSAL's end and the answers of 'the aisle may be entered' and of the test for aisles between
unfoldable pub step_of : Policy → End → Action → Bool → Bool → State → State
step_of policy end a may between s = cond (action_named FrontSide policy a && (is_void a || may)) (policy_by policy end between a s) dead

-- the state after the passage behind an aisle that lies left of the depot, at it or right of it
unfoldable pub cross_of : Policy → Passage → Place → State → State
cross_of policy p place s = cond (passage_named FrontSide policy p) (cross_step 1 (place_number place) p s) dead
