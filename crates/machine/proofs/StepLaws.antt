-- The numbers of states, and the steps by kind, are the machine's.
use Prim.Native.Nat.{ℕ, zero, suc, ◌<◌, ◌≤◌}
use native.Mathlib.Omega.{arith}
use mathlib.Core.Path.{◌≡◌, refl}
use mathlib.Core.Bool.{Bool, cond, ◌&&◌, ◌||◌}
use lib.Dec.{ltb}
use Rattle.rules.specs.declared.Side.TheVariants.{FrontSide}
use Rattle.rules.specs.declared.End.{End}
use Rattle.rules.specs.declared.End.TheVariants.{Leftmost, Rightmost}
use Rattle.rules.specs.declared.Policy.{Policy}
use Rattle.rules.specs.declared.Policy.TheVariants.{Exact, Return, Traversal, Midpoint, Composite, Largest}
use Rattle.rules.specs.declared.Action.{Action}
use Rattle.rules.specs.declared.Action.TheVariants.{Void, Bottom, Top, Gap, Once, Twice}
use Rattle.rules.specs.Plans.{kind_of}
use Rattle.rules.specs.Policies.{action_named}
use Rattle.rules.specs.Machine.{State, nothing, closed, at_front, at_back, odd, joined, split, ending, dead, policy_step, is_void}
use Rattle.machine.specs.States.{state_code, state_of}
use Rattle.machine.specs.Steps.{sample_action, step_of}
use Rattle.machine.specs.Tables.{row_of}

-- the numbers of states stand for them
pub state_of_code : (s : State) → state_of (state_code s) ≡ s
state_of_code nothing = refl
state_of_code closed = refl
state_of_code at_front = refl
state_of_code at_back = refl
state_of_code odd = refl
state_of_code joined = refl
state_of_code split = refl
state_of_code ending = refl
state_of_code dead = refl

-- the policy of a row of POLICIES
abbrev pub policy_of : ℕ → Policy
policy_of zero = Exact
policy_of (suc zero) = Return
policy_of (suc (suc zero)) = Traversal
policy_of (suc (suc (suc zero))) = Midpoint
policy_of (suc (suc (suc (suc zero)))) = Composite
policy_of (suc (suc (suc (suc (suc zero))))) = Largest
policy_of (suc (suc (suc (suc (suc (suc n)))))) = Traversal

-- the end at which TRAVERSAL walks an aisle back, by the same row
abbrev pub walk_back_end_of : ℕ → End
walk_back_end_of row = cond (ltb row 6) Rightmost Leftmost

-- the state after an action, by the row of a policy
abbrev pub step_by : ℕ → Action → Bool → Bool → State → State
step_by row a may between s = step_of (policy_of row) (walk_back_end_of row) a may between s

-- a row tells its policy
pub policy_of_code : (policy : Policy) (end : End) → policy_of (row_of policy end) ≡ policy
policy_of_code Exact end = refl
policy_of_code Return end = refl
policy_of_code Traversal Leftmost = refl
policy_of_code Traversal Rightmost = refl
policy_of_code Midpoint end = refl
policy_of_code Composite end = refl
policy_of_code Largest end = refl

-- there are seven rows
pub policy_code_below : (policy : Policy) (end : End) → row_of policy end < 7
policy_code_below Exact end = omega arith
policy_code_below Return end = omega arith
policy_code_below Traversal Leftmost = omega arith
policy_code_below Traversal Rightmost = omega arith
policy_code_below Midpoint end = omega arith
policy_code_below Composite end = omega arith
policy_code_below Largest end = omega arith

-- so a step by the row is the policy's: only TRAVERSAL looks at the end
pub step_of_code : (policy : Policy) (end : End) (a : Action) (may between : Bool) (s : State)
    → step_by (row_of policy end) a may between s ≡ step_of policy end a may between s
unfolding step_of
step_of_code Exact end a may between s = refl
step_of_code Return end a may between s = refl
step_of_code Traversal Leftmost a may between s = refl
step_of_code Traversal Rightmost a may between s = refl
step_of_code Midpoint end a may between s = refl
step_of_code Composite end a may between s = refl
step_of_code Largest end a may between s = refl

-- the machine looks at the kind of an action and at the answers of the two tests
pub by_kind : (policy : Policy) (end : End) (between : Action → Bool) (a : Action) (may : Bool) (s : State)
    → step_of policy end (sample_action (kind_of a)) may (between a) s
    ≡ cond (action_named FrontSide policy a && (is_void a || may)) (policy_step policy end between a s) dead
unfolding step_of
by_kind policy end between Void may s = refl
by_kind Exact end between (Bottom i) may s = refl
by_kind Return end between (Bottom i) may s = refl
by_kind Traversal end between (Bottom i) may s = refl
by_kind Midpoint end between (Bottom i) may s = refl
by_kind Composite end between (Bottom i) may s = refl
by_kind Largest end between (Bottom i) may s = refl
by_kind Exact end between (Top i) may s = refl
by_kind Return end between (Top i) may s = refl
by_kind Traversal end between (Top i) may s = refl
by_kind Midpoint end between (Top i) may s = refl
by_kind Composite end between (Top i) may s = refl
by_kind Largest end between (Top i) may s = refl
by_kind Exact end between (Gap h i) may s = refl
by_kind Return end between (Gap h i) may s = refl
by_kind Traversal end between (Gap h i) may s = refl
by_kind Midpoint end between (Gap h i) may s = refl
by_kind Composite end between (Gap h i) may s = refl
by_kind Largest end between (Gap h i) may s = refl
by_kind policy end between Once may s = refl
by_kind policy end between Twice may s = refl

-- numbers of states are at most 8
pub state_small : (s : State) → state_code s ≤ 8
state_small nothing = omega arith
state_small closed = omega arith
state_small at_front = omega arith
state_small at_back = omega arith
state_small odd = omega arith
state_small joined = omega arith
state_small split = omega arith
state_small ending = omega arith
state_small dead = omega arith
