-- The executable test whether a job's policy allows a plan: a machine that goes through the plan from left to right, and for an
-- empty list whether the plan treads nothing.
-- Its states are those of Ratliff and Rosenthal (the paper's names in brackets) and one more, `ending`.
-- With the depot at the back (#109) the tables are read by the plan as it is seen from there (Turned): then 'front', BOTTOM and 02 below are the
-- back, TOP and 20 of the plan. The test for aisles between is asked of the action itself.
use Rattle.std.specs.Prelude.{ℕ, suc, ◌-◌, Bool, true, false, cond, not, ◌&&◌, ◌||◌, ltb, leb, eqb}
use mathlib.Core.List.{List, [], ◌∷◌, tail}
use Rattle.rules.specs.declared.Side.TheVariants.{FrontSide}
use Rattle.rules.specs.declared.Policy.{Policy}
use Rattle.rules.specs.declared.Policy.TheVariants.{Exact, Return, Traversal, Midpoint, Composite, Largest}
use Rattle.rules.specs.declared.Action.{Action}
use Rattle.rules.specs.declared.Action.TheVariants.{Void, Bottom, Top, Gap, Once, Twice}
use Rattle.rules.specs.declared.Passage.{Passage}
use Rattle.rules.specs.declared.Passage.TheVariants.{P00, P02, P11, P20, P22}
use Rattle.rules.specs.Lists.{all_of, head_or}
use Rattle.rules.specs.Store.{position}
use Rattle.rules.specs.Hours.{is_open}
use Rattle.rules.specs.Jobs.{Job, empty_list, holds_listed, cell_holds_listed}
use Rattle.rules.specs.Plans.{Plan}
use Rattle.rules.specs.Turned.{seen, seen_passage}
use Rattle.rules.specs.declared.End.{End}
use Rattle.rules.specs.declared.End.TheVariants.{Leftmost, Rightmost}
use Rattle.rules.specs.Policies.{action_named, passage_named, walk_back_end, halved, Part, parts_of, turn_of, stops_on, untrodden, through}

-- what has been trodden so far, seen from the right
pub data State : Type 0 where
  nothing : State  -- nothing yet (000c)
  closed : State  -- closed off, the depot inside (001c)
  at_front : State  -- one component that goes on at the front (0e1c)
  at_back : State  -- one component that goes on at the back (e01c)
  odd : State  -- at both ends, each with an odd number of treads (uu1c)
  joined : State  -- at both ends, even, one component (ee1c)
  split : State  -- at both ends, even, two components (ee2c)
  ending : State  -- goes on at the front; no aisle may be entered any more (MIDPOINT, LARGEST, TRAVERSAL at the right end), or only by ONCE (TRAVERSAL at the left end)
  dead : State  -- no plan goes on from here

-- a row of the table: the next state for each state in which an aisle may be entered
abbrev pub wide_row : (nothing at_front at_back odd joined split ending : State) → State → State
wide_row n f k t j s e nothing = n
wide_row n f k t j s e closed = dead
wide_row n f k t j s e at_front = f
wide_row n f k t j s e at_back = k
wide_row n f k t j s e odd = t
wide_row n f k t j s e joined = j
wide_row n f k t j s e split = s
wide_row n f k t j s e ending = e
wide_row n f k t j s e dead = dead

-- a row by which none may be entered in `ending`
abbrev pub row : (nothing at_front at_back odd joined split : State) → State → State
row n f k t j s = wide_row n f k t j s dead

-- the state after an action, for EXACT, RETURN and COMPOSITE
abbrev pub lawful_step : Action → State → State
lawful_step Void s = s
lawful_step (Bottom i) s = row at_front at_front split odd joined split s
lawful_step (Top i) s = row at_back split at_back odd joined split s
lawful_step (Gap h i) s = row split split split odd joined split s
lawful_step Once s = row odd odd odd joined odd odd s
lawful_step Twice s = row joined joined joined odd joined joined s

-- the state after ONCE under TRAVERSAL, by the end at which it walks an aisle back
abbrev pub traversal_once : End → State → State
traversal_once Leftmost s = wide_row odd odd dead ending dead dead odd s
traversal_once Rightmost s = row odd odd dead joined dead dead s

-- TRAVERSAL: aisles are walked through; BOTTOM only in the entered one at that end
abbrev pub traversal_step : End → Action → State → State
traversal_step end Void s = s
traversal_step end (Bottom i) s = row ending ending dead dead dead dead s
traversal_step end (Top i) s = dead
traversal_step end (Gap h i) s = dead
traversal_step end Once s = traversal_once end s
traversal_step end Twice s = dead

-- MIDPOINT and LARGEST: a single BOTTOM, or ONCE, aisles between, ONCE; with the answer of the test for aisles between
abbrev pub midpoint_by : Bool → Action → State → State
midpoint_by between Void s = s
midpoint_by between (Bottom i) s = row ending ending dead (cond between odd dead) dead dead s
midpoint_by between (Top i) s = row dead dead dead (cond between odd dead) dead dead s
midpoint_by between (Gap h i) s = row dead dead dead (cond between odd dead) dead dead s
midpoint_by between Once s = row odd odd dead ending dead dead s
midpoint_by between Twice s = dead

-- the same with the test itself
abbrev pub midpoint_step : (Action → Bool) → Action → State → State
midpoint_step between a s = midpoint_by (between a) a s

-- the state after an action that the policy names, with TRAVERSAL's end and the answer of the test for aisles between
abbrev pub policy_by : Policy → End → Bool → Action → State → State
policy_by Exact end between a s = lawful_step a s
policy_by Return end between a s = lawful_step a s
policy_by Traversal end between a s = traversal_step end a s
policy_by Midpoint end between a s = midpoint_by between a s
policy_by Composite end between a s = lawful_step a s
policy_by Largest end between a s = midpoint_by between a s

-- the same with the test itself
abbrev pub policy_step : Policy → End → (Action → Bool) → Action → State → State
policy_step policy end between a s = policy_by policy end (between a) a s

-- whether the distances between neighbouring stops are at most n, by the positions of heights
abbrev pub stops_within : (ℕ → ℕ) → ℕ → List ℕ → Bool
stops_within at n [] = true
stops_within at n (x ∷ []) = true
stops_within at n (x ∷ y ∷ stops) = leb (at y - at x) n && stops_within at n (y ∷ stops)

-- whether a part turns at a cell with a listed article, and its neighbouring stops are at most n apart
unfoldable pub part_keeps : Job → ℕ → ℕ → Part → Bool
part_keeps job j n part = cell_holds_listed job j (turn_of part) && stops_within (position job.layout) n (stops_on job j part)

-- LARGEST's test for aisles between, `LargestGap` (Policies): that the two agree is proved (proofs/Stops, `largest_gap`)
unfoldable pub keeps_largest_gap : Job → ℕ → Action → Bool
keeps_largest_gap job j a = not (through a) && all_of (part_keeps job j (untrodden job.layout j a)) (parts_of a)

-- the test for aisles between: LARGEST's is the largest gap, MIDPOINT's the halves; the others do not ask it
abbrev pub between_test : Policy → Job → ℕ → Action → Bool
between_test Exact job j a = halved job.layout a
between_test Return job j a = halved job.layout a
between_test Traversal job j a = halved job.layout a
between_test Midpoint job j a = halved job.layout a
between_test Composite job j a = halved job.layout a
between_test Largest job j a = keeps_largest_gap job j a

-- whether the policy lets an open aisle be entered: EXACT any, the others those that hold an article of the list
abbrev pub may_enter : Policy → Bool → Bool
may_enter Exact holds = true
may_enter Return holds = holds
may_enter Traversal holds = holds
may_enter Midpoint holds = holds
may_enter Composite holds = holds
may_enter Largest holds = holds

-- whether aisle j may be entered: it is open, and the policy lets it be
abbrev pub enterable : Job → ℕ → Bool
enterable job j = is_open job.hours j && may_enter job.policy (holds_listed job j)

-- VOID is always possible
abbrev pub is_void : Action → Bool
is_void Void = true
is_void (Bottom i) = false
is_void (Top i) = false
is_void (Gap h i) = false
is_void Once = false
is_void Twice = false

-- the action is possible in aisle j under the job's policy: as it is seen from the depot's side, the policy names it at the front, and it is VOID or
-- the aisle may be entered
unfoldable pub action_possible : Job → ℕ → Action → Bool
action_possible job j a = action_named FrontSide job.policy (seen job.layout a) && (is_void a || enterable job j)

-- the state after the action of aisle j
unfoldable pub action_step : Job → ℕ → Action → State → State
action_step job j a s = cond (action_possible job j a) (policy_by job.policy (walk_back_end job.layout) (between_test job.policy job j a) (seen job.layout a) s) dead

-- the state after a passage behind an aisle; whether the depot is here, has been reached, has been passed
abbrev pub cross_by : (here reached passed : Bool) → Passage → State → State
cross_by here reached passed P00 nothing = cond here dead nothing
cross_by here reached passed P00 closed = closed
cross_by here reached passed P00 at_front = cond reached closed dead
cross_by here reached passed P00 at_back = cond passed closed dead
cross_by here reached passed P00 odd = dead
cross_by here reached passed P00 joined = cond reached closed dead
cross_by here reached passed P00 split = dead
cross_by here reached passed P00 ending = cond reached closed dead
cross_by here reached passed P00 dead = dead
cross_by here reached passed P02 nothing = at_front
cross_by here reached passed P02 closed = dead
cross_by here reached passed P02 at_front = at_front
cross_by here reached passed P02 at_back = dead
cross_by here reached passed P02 odd = dead
cross_by here reached passed P02 joined = at_front
cross_by here reached passed P02 split = dead
cross_by here reached passed P02 ending = ending
cross_by here reached passed P02 dead = dead
cross_by here reached passed P11 nothing = dead
cross_by here reached passed P11 closed = dead
cross_by here reached passed P11 at_front = dead
cross_by here reached passed P11 at_back = dead
cross_by here reached passed P11 odd = odd
cross_by here reached passed P11 joined = dead
cross_by here reached passed P11 split = dead
cross_by here reached passed P11 ending = dead
cross_by here reached passed P11 dead = dead
cross_by here reached passed P20 nothing = cond here dead at_back
cross_by here reached passed P20 closed = dead
cross_by here reached passed P20 at_front = dead
cross_by here reached passed P20 at_back = cond here dead at_back
cross_by here reached passed P20 odd = dead
cross_by here reached passed P20 joined = at_back
cross_by here reached passed P20 split = dead
cross_by here reached passed P20 ending = dead
cross_by here reached passed P20 dead = dead
cross_by here reached passed P22 nothing = split
cross_by here reached passed P22 closed = dead
cross_by here reached passed P22 at_front = split
cross_by here reached passed P22 at_back = split
cross_by here reached passed P22 odd = dead
cross_by here reached passed P22 joined = joined
cross_by here reached passed P22 split = split
cross_by here reached passed P22 ending = dead
cross_by here reached passed P22 dead = dead

-- the state after the passage between the aisles j and j + 1, with the depot at aisle d
abbrev pub cross_step : (d j : ℕ) → Passage → State → State
cross_step d j p s = cross_by (eqb j d) (leb d j) (ltb d j) p s

-- the state after the passage behind aisle j, if the policy has it
unfoldable pub passage_step : Job → ℕ → Passage → State → State
passage_step job j p s = cond (passage_named FrontSide job.policy (seen_passage job.layout p)) (cross_step job.layout.depot j (seen_passage job.layout p) s) dead

-- the state behind the last aisle; the first of the actions is that of aisle j. Behind the last aisle the passage is 00
abbrev pub run_from : Job → ℕ → State → List Action → List Passage → State
run_from job j s [] passages = s
run_from job j s (a ∷ actions) passages =
    run_from job (suc j) (passage_step job j (head_or P00 passages) (action_step job j a s)) actions (tail passages)

abbrev pub is_closed : State → Bool
is_closed nothing = false
is_closed closed = true
is_closed at_front = false
is_closed at_back = false
is_closed odd = false
is_closed joined = false
is_closed split = false
is_closed ending = false
is_closed dead = false

-- the machine closes the plan off, the depot inside
abbrev pub closes_off : Job → Plan → Bool
closes_off job plan = is_closed (run_from job 1 nothing plan.actions plan.passages)

-- passage 00
abbrev pub is00 : Passage → Bool
is00 P00 = true
is00 P02 = false
is00 P11 = false
is00 P20 = false
is00 P22 = false

-- a plan that treads nothing: every aisle is VOID, every passage 00
unfoldable pub treads_nothing : Plan → Bool
treads_nothing plan = all_of is_void plan.actions && all_of is00 plan.passages

-- a plan is accepted when the machine closes it off; for an empty list the plan that treads nothing is too
unfoldable pub accepts : Job → Plan → Bool
accepts job plan = (empty_list job.lines && treads_nothing plan) || closes_off job plan
