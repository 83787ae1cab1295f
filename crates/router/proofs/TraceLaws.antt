-- One more aisle of the best plan is read out of the table.
use Prim.Native.Nat.{ℕ, suc, ◌+◌, ◌*◌, ◌-◌, ◌≤◌, ◌<◌}
use native.Mathlib.Omega.{arith}
use mathlib.Core.Path.{◌≡◌, refl, sym, ◌∙◌, ap, ap₂, subst}
use mathlib.Core.List.{List, [], ◌∷◌, ◌++◌, map, append_assoc}
use mathlib.Core.Bool.{Bool, true, false, cond}
use mathlib.Core.Option.{Option, none, some}
use lib.Count.{ones}
use lib.Dec.{eqb}
use lib.ListN.{length, take, set, length-set}
use lib.Seq.{take-suc-set}
use Rattle.rules.specs.declared.Action.{Action}
use Rattle.rules.specs.declared.Passage.{Passage}
use Rattle.rules.specs.Lists.{first_of}
use Rattle.rules.specs.Jobs.{Job}
use Rattle.rules.specs.Refusals.{weight, Admitted}
use Rattle.rules.specs.Plans.{Fits, entered}
use Rattle.rules.specs.Lengths.{action_length, passage_length}
use Rattle.rules.specs.BestPlan.{actions_of, passages_in_order}
use Rattle.rules.specs.Machine.{State, nothing, closed, at_front, at_back, odd, joined, split, ending, dead, action_step, passage_step}
use Rattle.rules.proofs.Lists.{map-append}
use Rattle.rules.proofs.Enumeration.{actions_sound}
use Rattle.optimum.specs.Least.{sum_up_to, first_at}
use Rattle.optimum.specs.Table.{Problem, Rest, passages_behind, on_from, over_passage, over_action, value, first_passage, first_action, choose}
use Rattle.optimum.specs.Demand.{gains, less, radices, demand_of, less_code}
use Rattle.optimum.specs.Routing.{no_tour, no_key, entering, routing, all_actions}
use Rattle.optimum.proofs.Choice.{first_at_holds}
use Rattle.optimum.proofs.Radix.{radices_positive, gains_length, less_code_lem}
use Rattle.values.specs.declared.Stage.{Stage}
use Rattle.machine.specs.States.{state_code, state_of}
use Rattle.machine.proofs.StepLaws.{state_of_code, state_small}
use Rattle.demand.specs.Maps.{MapsReady}
use Rattle.aisles.specs.declared.layers.Aisle.{Aisle}
use Rattle.entered.specs.Sets.{with_aisle}
use Rattle.entered.proofs.SetLaws.{ones_with, with_below}
use Rattle.rows.specs.Pairs.{next_key, Holds}
use Rattle.table.specs.Crossings.{AfterFilled}
use Rattle.table.specs.TableHolds.{aisle_of, values, behind, AfterHolds}
use Rattle.aisles.proofs.Geometry.{within}
use Rattle.table.proofs.StepLaws.{cross_of_lem, step_code_lem}
use Rattle.table.proofs.TableValues.{tried_passages, value_dead, below_weight, next_holds, after_value, left_code_lem}
use Rattle.router.specs.declared.choices.At.{At}
use Rattle.router.specs.declared.choices.Sought.{Sought}
use Rattle.router.specs.declared.choices.Taken.{Taken}
use Rattle.router.specs.declared.choices.Crossed.{Crossed}
use Rattle.router.specs.declared.trace.Trace.{Trace}
use Rattle.router.specs.Choosing.{Attained, ActionTaken, PassageTaken, value_at, step_to, cross_to, over_attains, on_attains}
use Rattle.router.specs.Tracing.{stages_rest, with_stage, state_at, demand_at, value_from, rest_from, Counts, Traced, TraceAsked}
use Rattle.router.proofs.FirstRanks.{first_member, first_tested}
use Rattle.router.proofs.Attaining.{key_parts, attained_key}

-- a way on that leads somewhere started from something found
on_found : {A B : Type 0} (o : Option A) (g : A → Option B) (y : B) → on_from o g ≡ some y → (x : A) × (o ≡ some x) × (g x ≡ some y)
on_found none g y e = let z : ◌≡◌ {A = ℕ} 0 1 = cc in absurd (omega arith)
on_found (some x) g y e = (x, refl, e)

-- what is found twice is the same
some_same : {A : Type 0} {u v : A} → ◌≡◌ {A = Option A} (some u) (some v) → u ≡ v
some_same e = cc

-- a state from which there is a way on is not dead
alive : (job : Job) (n j : ℕ) (t : State) (q : List ℕ) → values job n j t q < no_key → state_code t < 8
alive job n j nothing q h = omega arith
alive job n j closed q h = omega arith
alive job n j at_front q h = omega arith
alive job n j at_back q h = omega arith
alive job n j odd q h = omega arith
alive job n j joined q h = omega arith
alive job n j split q h = omega arith
alive job n j ending q h = omega arith
alive job n j dead q h = absurd (omega (arith, value_dead job n j q))

-- one more stage
stages_more : (stages : List Stage) (n : ℕ) (s : Stage) → n < length stages
    → stages_rest (set stages n s) (suc n) ≡ stages_rest stages n ++ ((s.action, s.passage) ∷ [])
unfolding stages_rest
stages_more stages n s h = ap (map _) (take-suc-set stages n s h) ∙ map-append _ (take n stages) (s ∷ [])

module _ (job : Job) (n : ℕ) where
  -- the table of the job, by its keys
  abbrev table : Problem
  table = routing job (all_actions job)

  -- the aisles behind the next one, and the table's values for them
  abbrev left : ℕ
  left = job.layout.aisles - suc n

  abbrev later : State → List ℕ → ℕ
  later = value table left (suc (suc n))

  -- the state and the demand behind an action of the next aisle
  abbrev state_after : At → Action → State
  state_after at a = action_step job (suc n) a (state_at at)

  abbrev demand_after : At → Action → List ℕ
  demand_after at a = less (demand_at job at) (gains job (suc n) a)

  -- the ways over an action and over a passage of the next aisle
  abbrev over : At → Action → ℕ
  over at = over_action table later left (suc n) (state_at at) (demand_at job at)

  abbrev on : At → Passage → ℕ
  on at = over_passage table later (suc n) (state_at at) (demand_at job at)

  -- the state and the demand behind an action by their numbers
  record Behind (at : At) (a : Action) (to : At) : Type 0 where
    state_is : state_at to ≡ state_after at a
    demand_is : demand_at job to ≡ demand_after at a
    state_low : to.state < 9
    demand_low : to.demand < weight job.lines

  -- what the table leads to: the first action and the first passage that attain its values, and the rest behind them
  record Led (at : At) (rest : Rest) : Type 0 where
    action : Action
    passage : Passage
    others : Rest
    action_first : first_action table left (suc n) (state_at at) (demand_at job at) ≡ some action
    passage_first : first_passage table left (suc n) (state_after at action) (demand_after at action) ≡ some passage
    leads_on : choose table left (suc (suc n)) (passage_step job (suc n) passage (state_after at action)) (demand_after at action) ≡ some others
    parts : (action, passage) ∷ others ≡ rest

  module _ (at : At) (rest : Rest) where
    -- the ways on that `choose` goes, one inside the other
    abbrev behind_passage : Action → Passage → Option Rest
    behind_passage a p =
        on_from (choose table left (suc (suc n)) (passage_step job (suc n) p (state_after at a)) (demand_after at a)) (λ r. some ((a, p) ∷ r))

    abbrev behind_action : Action → Option Rest
    behind_action a = on_from (first_passage table left (suc n) (state_after at a) (demand_after at a)) (behind_passage a)

    -- `choose` taken apart
    led : rest_from job (suc left) (suc n) at ≡ some rest → Led at rest
    led e =
        let a = on_found (first_action table left (suc n) (state_at at) (demand_at job at)) behind_action rest e in
        let p = on_found (first_passage table left (suc n) (state_after at a.0) (demand_after at a.0)) (behind_passage a.0) rest a.2 in
        let r = on_found (choose table left (suc (suc n)) _ _) (λ r. some ((a.0, p.0) ∷ r)) rest p.2 in
        record {
          action = a.0;
          passage = p.0;
          others = r.0;
          action_first = a.1;
          passage_first = p.1;
          leads_on = r.1;
          parts = some_same r.2;
        }

-- what is sought in the next aisle
abbrev pub sought_here : Job → ℕ → Trace → ℕ → Sought
sought_here job n t here =
    record { at = t.at; length = here; fewest = t.fewest; entered = t.entered; aisle = n; left = job.layout.aisles - suc n }

-- what the code has for the next aisle: its numbers, its maps, the rows behind its actions, filled out of the next rows, and what is sought
pub record Aisled (job : Job) (n here : ℕ) (t : Trace) (x : Aisle) (g : Sought) (next next-spared after after-spared fronts backs : List ℕ) : Type 0 where
  pub ok : Admitted job
  pub numbers : x ≡ aisle_of job (suc n)
  pub sought : g ≡ sought_here job n t here
  pub maps : MapsReady job (suc n) fronts backs
  pub filled : AfterFilled x after after-spared next next-spared

-- the same in the job's words
abbrev Here : Job → ℕ → ℕ → Trace → List ℕ → List ℕ → List ℕ → List ℕ → List ℕ → List ℕ → Type 0
Here job n here t = Aisled job n here t (aisle_of job (suc n)) (sought_here job n t here)

module _ {job : Job} {n here : ℕ} {t : Trace} {next next-spared after after-spared fronts backs : List ℕ}
    (h : Here job n here t next next-spared after after-spared fronts backs) (asked : TraceAsked job n t next next-spared here) where
  -- the next aisle, and its cells
  abbrev aisle : Aisle
  aisle = aisle_of job (suc n)

  abbrev cells : ℕ
  cells = job.layout.cells

  -- what is sought
  abbrev g : Sought
  g = sought_here job n t here

  -- the next aisle is one of those that are left, and one of sixteen
  one_left : job.layout.aisles - n ≡ suc (left job n)
  one_left = let m = asked.more in omega arith

  few : n < 16
  few = let m = asked.more in let w = within job.layout h.ok.layout in omega arith

  few_left : left job n ≤ 15
  few_left = let m = asked.more in let w = within job.layout h.ok.layout in omega arith

  few_cells : cells ≤ 24
  few_cells = (within job.layout h.ok.layout).cells.1

  -- the table's key here
  abbrev key : ℕ
  key = value (table job n) (suc (left job n)) (suc n) (state_at t.at) (demand_at job t.at)

  key_is : value_from job (job.layout.aisles - n) (suc n) t.at ≡ key
  key_is = ap (λ k. value (table job n) k (suc n) (state_at t.at) (demand_at job t.at)) one_left

  -- how many aisles the rest enters, by its ones
  abbrev rest_enters : ℕ
  rest_enters = suc (left job n) - ones asked.spared

  -- the key is the length that was read and these; and with the aisles of the set they are the fewest
  key_below : key < no_key
  key_below = omega (arith, key_is, asked.traced.finite)

  key_split : (key ≡ 17 * here + rest_enters) × (here < no_tour)
  key_split = key_parts (rw one_left at asked.held) key_below

  counted_here : ones t.entered + rest_enters ≡ t.fewest
  counted_here = asked.traced.counted here rest_enters (omega (arith, one_left)) (key_is ∙ key_split.0)

  -- the rows behind the actions hold the table's keys there
  after_holds : AfterHolds job (left job n) (suc n) after after-spared
  after_holds = after_value job (left job n) (suc n) next next-spared asked.row refl (omega (arith, few_left)) after after-spared h.filled

  -- what the table leads to from here
  led_here : Led job n t.at asked.traced.rest
  led_here = led job n t.at asked.traced.rest (rw one_left at asked.traced.leads)

  -- an action leads to the machine's state, and to the demand that it leaves
  behind_action_lem : (a : Action) (to : At) → Fits cells a → to ≡ step_to aisle fronts backs t.at a → Behind job n t.at a to
  unfolding less_code aisle_of
  behind_action_lem a to fits to_is =
      let s = t.at.state in
      let q = t.at.demand in
      let state : to.state ≡ state_code (state_after job n t.at a) = ap (λ (p : At). p.state) to_is ∙ step_code_lem job (suc n) few_cells a fits s in
      let keys-behind = next_key (left job n) after after-spared in
      let demand = left_code_lem job few_cells h.ok.stock (left job n) (suc n) keys-behind fronts backs h.maps (λ u y l m. (after_holds u y l m).same) a fits q in
      let code : to.demand ≡ less_code (radices job) (gains job (suc n) a) q =
      ap (λ (p : At). p.demand) to_is ∙ demand asked.traced.demand_below in
      record {
        state_is = ap state_of state ∙ state_of_code (state_after job n t.at a);
        demand_is = ap (demand_of (radices job)) code ∙ less_code_lem (gains job (suc n) a) (radices_positive job) (gains_length job (suc n) a) q;
        state_low = omega (arith, state, state_small (state_after job n t.at a));
        demand_low = omega (arith, code, below_weight job (suc n) a q);
      }

  -- the key behind an action
  abbrev key_behind : Action → ℕ
  key_behind a = behind job (left job n) (suc n) (state_after job n t.at a) (demand_after job n t.at a)

  -- the rows hold it where the action leads
  held_behind : (a : Action) (to : At) → Fits cells a → to ≡ step_to aisle fronts backs t.at a
      → Holds (left job n) (value_at after to) (value_at after-spared to) (key_behind a)
  held_behind a to fits to_is =
      let b = behind_action_lem a to fits to_is in
      rw (← b.state_is, ← b.demand_is) (after_holds to.state to.demand b.state_low b.demand_low)

  -- an aisle is entered or not
  at_most_one : (a : Action) → entering a ≤ 1
  at_most_one a = go (entered a)
    where
      go : (b : Bool) → cond b 1 0 ≤ 1
      go true = omega arith
      go false = omega arith

  -- the way over an action attains what is sought exactly if it has the table's key
  over_key : (a : Action) → Fits cells a → over_attains aisle after after-spared fronts backs g a ≡ eqb (over job n t.at a) key
  unfolding aisle_of
  over_key a fits =
      let ones-are = ones_with t.entered n a asked.traced.marked in
      attained_key g (held_behind a _ fits refl) few_left (action_length job.layout a) (entering a) (with_aisle t.entered n a) key rest_enters (at_most_one a) key_split.0
      (omega (arith, few_left)) key_below (omega (arith, ones-are, counted_here)) (omega (arith, counted_here))

  -- its action is the first that does
  first_action_lem : first_of (over_attains aisle after after-spared fronts backs g) (actions_of aisle.layout.cells) ≡ some led_here.action
  unfolding aisle_of all_actions first_at
  first_action_lem = first_tested _ _ (actions_of cells) (λ a m. over_key a (actions_sound cells a m)) ∙ led_here.action_first

  module _ {r : Taken} (taken : ActionTaken aisle after after-spared fronts backs g r) where
    -- the action that is taken is the one that the table leads to
    same_action : r.action ≡ led_here.action
    same_action = some_same (sym taken.first ∙ first_action_lem)

    taken_fits : Fits cells r.action
    unfolding aisle_of
    taken_fits = actions_sound cells r.action (first_member _ (actions_of cells) r.action taken.first)

    -- where it leads, with what is sought there
    abbrev to : At
    to = r.sought.at

    to_is : to ≡ step_to aisle fronts backs t.at r.action
    unfolding aisle_of
    to_is = ap (λ (s : Sought). s.at) taken.leads

    behind_taken : Behind job n t.at led_here.action to
    behind_taken = subst (λ a. Behind job n t.at a to) same_action (behind_action_lem r.action to taken_fits to_is)

    -- the rest of what is sought there
    entered_is : r.sought.entered ≡ with_aisle t.entered n r.action
    unfolding aisle_of
    entered_is = ap (λ (s : Sought). s.entered) taken.leads

    fewest_is : r.sought.fewest ≡ t.fewest
    fewest_is = ap (λ (s : Sought). s.fewest) taken.leads

    left_is : r.sought.left ≡ left job n
    left_is = ap (λ (s : Sought). s.left) taken.leads

    -- with the aisle in the set, if it is entered, there is a one more
    ones_past : ones r.sought.entered ≡ ones t.entered + entering led_here.action
    ones_past =
        ap ones entered_is
        ∙ ones_with t.entered n r.action asked.traced.marked
        ∙ ap (λ a. ones t.entered + entering a) same_action

    enters_one : entering led_here.action ≤ 1
    enters_one = at_most_one led_here.action

    -- the table's key behind the action, and how many aisles the rest enters there
    abbrev key_past : ℕ
    key_past = behind job (left job n) (suc n) (state_at to) (demand_at job to)

    abbrev past_enters : ℕ
    past_enters = left job n - ones (value_at after-spared to)

    held_past : Holds (left job n) r.sought.length (value_at after-spared to) key_past
    unfolding aisle_of
    held_past =
        let b = behind_taken in
        let length-is = ap (value_at after) to_is ∙ sym (ap (λ (s : Sought). s.length) taken.leads) in
        subst (λ k. Holds (left job n) k (value_at after-spared to) key_past) length-is (after_holds to.state to.demand b.state_low b.demand_low)

    -- the key here is the action's and that behind it
    key_sum : key ≡ 17 * action_length job.layout led_here.action + (entering led_here.action + key_past)
    unfolding all_actions sum_up_to
    key_sum =
        let b = behind_taken in
        let l = led_here in
        let step = first_at_holds (over job n t.at) key (actions_of cells) l.action l.action_first in
        rw (b.state_is, b.demand_is) (omega (arith, step, key_below))

    past_below : key_past < no_key
    past_below = omega (arith, key_sum, key_below)

    past_split : (key_past ≡ 17 * r.sought.length + past_enters) × (r.sought.length < no_tour)
    past_split = key_parts held_past past_below

    counted_past : ones r.sought.entered + past_enters ≡ t.fewest
    counted_past = omega (arith, ones_past, counted_here, key_sum, key_split.0, past_split.0, few_left, enters_one)

    -- the way on over a passage attains what is sought exactly if it has the table's key
    on_key : (p : Passage) → on_attains aisle next next-spared r.sought p ≡ eqb (on job n to p) key_past
    unfolding aisle_of passage_length
    on_key p =
        let past = passage_step job (suc n) p (state_at to) in
        let key-there = values job (left job n) (suc (suc n)) past (demand_at job to) in
        let over-it = cross_to aisle to p in
        let held = next_holds job (left job n) (suc (suc n)) next next-spared asked.row past to.demand behind_taken.demand_low in
        let there : Holds (left job n) (value_at next over-it) (value_at next-spared over-it) key-there = rw (cross_of_lem job (suc n) p (state_at to)) held in
        let sought-there = subst (λ k. Holds k (value_at next over-it) (value_at next-spared over-it) key-there) (sym left_is) there in
        attained_key r.sought sought-there (omega (arith, left_is, few_left)) (passage_length job.layout p) 0 r.sought.entered
        key_past past_enters (omega arith) past_split.0 (omega (arith, few_left)) past_below (omega (arith, counted_past, fewest_is)) (omega (arith, counted_past, fewest_is))
        ∙ ap (λ k. eqb (sum_up_to no_key k key-there) key_past) (omega arith)

    -- its passage is the first that does
    first_passage_lem : first_of (on_attains aisle next next-spared r.sought) (take aisle.tried passages_in_order) ≡ some led_here.passage
    unfolding aisle_of first_at
    first_passage_lem =
        let b = behind_taken in
        first_tested _ _ (take aisle.tried passages_in_order) (λ p m. on_key p)
        ∙ ap (first_of (λ p. eqb (on job n to p) key_past)) (tried_passages (left job n))
        ∙ ap₂ (first_passage (table job n) (left job n) (suc n)) b.state_is b.demand_is
        ∙ led_here.passage_first

    module _ {p : Crossed} (crossed : PassageTaken aisle next next-spared r p) where
      -- so is the passage that is taken
      same_passage : p.stage.passage ≡ led_here.passage
      same_passage = some_same (sym crossed.first ∙ first_passage_lem)

      -- the state and the demand behind the passage
      abbrev state_past : State
      state_past = passage_step job (suc n) led_here.passage (state_after job n t.at led_here.action)

      state_number : p.at.state ≡ state_code state_past
      unfolding aisle_of
      state_number =
          ap (λ (x : At). x.state) crossed.leads
          ∙ ap state_code (cross_of_lem job (suc n) p.stage.passage (state_at to) ∙ ap₂ (passage_step job (suc n)) same_passage behind_taken.state_is)

      demand_number : demand_at job p.at ≡ demand_after job n t.at led_here.action
      demand_number = ap (λ (x : At). demand_at job x) crossed.leads ∙ behind_taken.demand_is

      -- the table's key there: that behind the action is the passage's and this one
      abbrev key_next : ℕ
      key_next = value (table job n) (left job n) (suc (suc n)) state_past (demand_after job n t.at led_here.action)

      passage_sum : key_past ≡ 17 * passage_length job.layout led_here.passage + key_next
      unfolding sum_up_to
      passage_sum =
          let b = behind_taken in
          let l = led_here in
          let step = first_at_holds _ _ (passages_behind passages_in_order (left job n)) l.passage l.passage_first in
          let same : key_past ≡ behind job (left job n) (suc n) (state_after job n t.at l.action) (demand_after job n t.at l.action) =
          ap₂ (behind job (left job n) (suc n)) b.state_is b.demand_is in
          omega (arith, step, same, past_below)

      next_below : key_next < no_key
      next_below = omega (arith, passage_sum, past_below)

      -- the aisles of the set and of the rest are still the fewest
      counts_next : Counts p.entered t.fewest (left job n) key_next
      counts_next len e small same =
          omega (arith, ap ones crossed.marked, counted_past, past_split.0, passage_sum, same, small, few_left)

      -- the stages with this one, and the rest behind it, are still the whole plan
      rest_whole : stages_rest (with_stage t n p).stages (suc n) ++ led_here.others ≡ stages_rest t.stages n ++ asked.traced.rest
      rest_whole =
          ap (λ xs. xs ++ led_here.others) (stages_more t.stages n p.stage (omega (arith, asked.traced.sized, few)))
          ∙ append_assoc (stages_rest t.stages n) _ led_here.others
          ∙ ap₂ (λ x y. stages_rest t.stages n ++ ((x, y) ∷ led_here.others)) (crossed.behind ∙ same_action) same_passage
          ∙ ap (λ xs. stages_rest t.stages n ++ xs) led_here.parts

      -- the trace with the stage of the aisle
      trace_further : Traced job (suc n) (with_stage t n p)
      trace_further =
          let more = asked.more in
          let state = ap state_of state_number ∙ state_of_code state_past in
          let below = with_below t.entered n r.action asked.traced.marked in
          record {
            sized = length-set t.stages n _ ∙ asked.traced.sized;
            seen = omega arith;
            state_below = omega (arith, state_number, alive job (left job n) (suc (suc n)) state_past _ next_below);
            demand_below = subst (λ (x : At). x.demand < weight job.lines) (sym crossed.leads) behind_taken.demand_low;
            rest = led_here.others;
            leads = rw (state, demand_number) led_here.leads_on;
            finite = rw (state, demand_number) next_below;
            whole = rest_whole ∙ asked.traced.whole;
            marked = omega (arith, crossed.marked, entered_is, below);
            counted = rw (state, demand_number) counts_next;
          }

module _ {job : Job} {n here : ℕ} {t : Trace} {x : Aisle} {g : Sought} {next next-spared after after-spared fronts backs : List ℕ}
    (h : Aisled job n here t x g next next-spared after after-spared fronts backs) (asked : TraceAsked job n t next next-spared here) where
  -- in the job's words
  in_words : Here job n here t next next-spared after after-spared fronts backs
  in_words = rw (h.numbers, h.sought) at h

  -- some action attains what is sought here
  pub action_there : Attained (over_attains x after after-spared fronts backs g) (actions_of x.layout.cells)
  action_there = rw (h.numbers, h.sought) ((led_here in_words asked).action, first_action_lem in_words asked)

  module _ {r : Taken} (taken : ActionTaken x after after-spared fronts backs g r) where
    -- the same of what is taken
    taken_here_lem : ActionTaken (aisle_of job (suc n)) after after-spared fronts backs (sought_here job n t here) r
    taken_here_lem = rw (h.numbers, h.sought) at taken

    -- it leads to a state and a demand of the job
    pub taken_lands : (r.sought.at.state < 9) × (r.sought.at.demand < weight job.lines)
    taken_lands = let b = behind_taken in_words asked taken_here_lem in (b.state_low, b.demand_low)

    pub taken_left : r.sought.left ≤ 16
    taken_left = omega (arith, left_is in_words asked taken_here_lem, few_left in_words asked)

    -- some passage attains what is sought there
    pub passage_there : Attained (on_attains x next next-spared r.sought) (take x.tried passages_in_order)
    passage_there = rw h.numbers ((led_here in_words asked).passage, first_passage_lem in_words asked taken_here_lem)

    -- the trace goes on
    pub trace_next : {p : Crossed} → PassageTaken x next next-spared r p → Traced job (suc n) (with_stage t n p)
    trace_next crossed = trace_further in_words asked taken_here_lem (rw h.numbers at crossed)
