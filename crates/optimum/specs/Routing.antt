-- The table of a job: the machine's states, the open demand, and a cost; by its key, the length first and then the entered aisles, it is the
-- router's.
use Rattle.std.specs.Prelude.{ℕ, suc, ◌+◌, ◌*◌, cond, ◌&&◌}
use mathlib.Core.List.{List, [], ◌∷◌, tail}
use Rattle.rules.specs.declared.Layout.{Layout}
use Rattle.rules.specs.declared.Action.{Action}
use Rattle.rules.specs.declared.Passage.{Passage}
use Rattle.rules.specs.declared.Passage.TheVariants.{P00}
use Rattle.rules.specs.Lists.{head_or}
use Rattle.rules.specs.Jobs.{Job}
use Rattle.rules.specs.Plans.{Plan, plan_length, entered}
use Rattle.rules.specs.Policies.{entered_aisles}
use Rattle.rules.specs.Lengths.{action_length, passage_length}
use Rattle.rules.specs.Machine.{State, action_step, passage_step, is_closed}
use Rattle.rules.specs.BestPlan.{actions_of, passages_in_order}
use Rattle.optimum.specs.Least.{sum_up_to}
use Rattle.optimum.specs.Table.{Cost, Problem, Rest}
use Rattle.optimum.specs.Demand.{gains, less, met}

-- 'none' as a length: longer than any tour, which is at most 57,280
abbrev pub no_tour : ℕ
no_tour = 65535

-- a sum of lengths, which stays at 'none'
abbrev pub sat : ℕ → ℕ → ℕ
sat a b = sum_up_to no_tour a b

-- 'none' as a key
abbrev pub no_key : ℕ
no_key = 17 * no_tour

-- one for an aisle that an action enters
abbrev pub entering : Action → ℕ
entering a = cond (entered a) 1 0

-- the cost by which plans are compared (#108), length and entered aisles as one number: at most 16 aisles are entered, so the length decides first
abbrev pub keys : Layout → Cost
keys z = record { of_action = λ j a. 17 * action_length z a + entering a; of_passage = λ j p. 17 * passage_length z p; no_way = no_key }

-- the same of a whole plan
unfoldable pub plan_key : Layout → Plan → ℕ
plan_key z plan = 17 * plan_length z plan + entered_aisles plan

-- the problem of a job under a cost, with the actions that are tried in each aisle
abbrev pub weighed : Job → Cost → (ℕ → List Action) → Problem
weighed job cost candidates =
    record {
      State = State;
      Demand = List ℕ;
      candidates = candidates;
      passages = passages_in_order;
      act = action_step job;
      cross = passage_step job;
      fetch = λ j a q. less q (gains job j a);
      cost = cost;
      done = λ s q. is_closed s && met q;
    }

-- the same by the key
abbrev pub routing : Job → (ℕ → List Action) → Problem
routing job candidates = weighed job (keys job.layout) candidates

-- all actions, in every aisle
unfoldable pub all_actions : Job → ℕ → List Action
all_actions job j = actions_of job.layout.cells

-- a plan as a rest: each action with the passage behind it
abbrev pub pair_up : List Action → List Passage → Rest
pair_up [] passages = []
pair_up (a ∷ actions) passages = (a, head_or P00 passages) ∷ pair_up actions (tail passages)

-- the same of a whole plan
unfoldable pub rest_of : Plan → Rest
rest_of plan = pair_up plan.actions plan.passages

-- what the actions of the aisles from j on and the passages behind them cost: the sum, with the passage 00 behind the last
abbrev pub cost_from : Cost → ℕ → List Action → List Passage → ℕ
cost_from c j [] passages = 0
cost_from c j (a ∷ actions) passages =
    c.of_action j a + (c.of_passage j (head_or P00 passages) + cost_from c (suc j) actions (tail passages))
