-- The machine's state behind each prefix of a plan, by recursion on the number of aisles.
use Rattle.std.specs.Prelude.{ℕ, zero, suc, ◌+◌, Bool, cond}
use Rattle.rules.specs.declared.Layout.{Layout}
use Rattle.rules.specs.declared.Policy.{Policy}
use Rattle.rules.specs.declared.Action.{Action}
use Rattle.rules.specs.Jobs.{Job}
use Rattle.rules.specs.Plans.{Plan, action_at, passage_at, entered}
use Rattle.rules.specs.Policies.{walk_back_end}
use Rattle.rules.specs.Machine.{State, nothing, lawful_step, policy_step, cross_step, action_step, passage_step}

-- the state before aisle i + 1 under EXACT, with the depot at aisle d
abbrev pub lawful_state : ℕ → Plan → ℕ → State
lawful_state d plan zero = nothing
lawful_state d plan (suc i) = cross_step d (suc i) (passage_at plan (suc i)) (lawful_step (action_at plan (suc i)) (lawful_state d plan i))

-- the state before aisle i + 1 under the job's policy
abbrev pub state_at : Job → Plan → ℕ → State
state_at job plan zero = nothing
state_at job plan (suc i) =
    passage_step job (suc i) (passage_at plan (suc i)) (action_step job (suc i) (action_at plan (suc i)) (state_at job plan i))

-- the state before aisle i + 1 by the policy's own table, without the tests whether actions and passages are the policy's;
-- with a test for aisles between, by aisle and action, in a store of which the depot counts, and the end at which TRAVERSAL walks back
abbrev pub policy_state : Policy → (ℕ → Action → Bool) → Layout → Plan → ℕ → State
policy_state policy between z plan zero = nothing
policy_state policy between z plan (suc i) =
    cross_step z.depot (suc i) (passage_at plan (suc i))
    (policy_step policy (walk_back_end z) (between (suc i)) (action_at plan (suc i)) (policy_state policy between z plan i))

-- the number of entered aisles among the first n
abbrev pub entered_up_to : Plan → ℕ → ℕ
entered_up_to plan zero = 0
entered_up_to plan (suc i) = entered_up_to plan i + cond (entered (action_at plan (suc i))) 1 0
