-- Where the trace starts, and what it comes to.
use Prim.Native.Nat.{ℕ, zero, suc, ◌+◌, ◌*◌, ◌-◌, ◌≤◌, ◌<◌}
use native.Mathlib.Omega.{arith}
use mathlib.Core.Path.{◌≡◌, refl, sym, ◌∙◌, ap, ap₂, subst}
use mathlib.Core.List.{List, [], ◌∷◌, ◌++◌, map, append-nil, tail}
use mathlib.Core.Option.{Option, some}
use lib.Count.{ones}
use lib.ListN.{length, get_or, take}
use lib.Seq.{take-take}
use Rattle.rules.specs.declared.Action.{Action}
use Rattle.rules.specs.declared.Passage.{Passage}
use Rattle.rules.specs.Jobs.{Job}
use Rattle.rules.specs.Plans.{WellFormed, plan_length}
use Rattle.rules.specs.Refusals.{Admitted, weight}
use Rattle.rules.specs.BestPlan.{best_plan}
use Rattle.rules.specs.Machine.{nothing}
use Rattle.rules.proofs.Lists.{map_map}
use Rattle.rules.proofs.Enumeration.{serving_plans_lem}
use Rattle.rules.proofs.Ceiling.{plan_length_57280}
use Rattle.tours.proofs.Existence.{serving_exists}
use Rattle.optimum.specs.Table.{Rest, value}
use Rattle.optimum.specs.Demand.{radices, demand_of, whole_demand}
use Rattle.optimum.specs.Routing.{no_key, plan_key, routing, all_actions, pair_up, rest_of}
use Rattle.optimum.proofs.Keys.{entered_16}
use Rattle.optimum.proofs.Optimum.{table_value, table_choice, best_allowed, table_key, table_plan}
use Rattle.optimum.proofs.Radix.{demand_of_code, whole_within}
use Rattle.values.specs.declared.Stage.{Stage}
use Rattle.values.specs.Values.{plan_of}
use Rattle.router.specs.declared.trace.Trace.{Trace}
use Rattle.rows.specs.Pairs.{Holds}
use Rattle.table.specs.TableHolds.{TableFrom}
use Rattle.router.specs.Tracing.{stages_rest, Traced}
use Rattle.router.proofs.Attaining.{key_parts}
use Rattle.demand.proofs.Composition.{whole_code}
use Rattle.aisles.proofs.Geometry.{within}

-- nothing has no ones
no_ones : ones 0 ≡ 0
unfolding ones
no_ones = refl

module _ (job : Job) (ok : Admitted job) where
  -- the whole demand has the last number below the weight
  start_demand : demand_of (radices job) (weight job.lines - 1) ≡ whole_demand job
  start_demand =
      ap (demand_of (radices job)) (omega (arith, whole_code job)) ∙ demand_of_code (whole_within job)

  -- the best plan is one of the plans
  best_well : WellFormed job.layout (best_plan job)
  best_well =
      let x = serving_exists job ok in
      (best_allowed job ok.layout x.0 ((serving_plans_lem job x.0).1 (x.1, x.2, x.3))).0

  -- the table's key at the start
  abbrev start_key : ℕ
  start_key = value (routing job (all_actions job)) job.layout.aisles 1 nothing (demand_of (radices job) (weight job.lines - 1))

  -- the table holds it in the row of the first aisle, for the whole list and nothing trodden
  pub start_held : (work spared : List ℕ) → TableFrom job 1 work spared → (k : ℕ) → k ≡ (weight job.lines - 1) * 8
      → Holds job.layout.aisles (get_or work k 0) (get_or spared k 0) start_key
  start_held work spared table k k-is =
      let whole = weight job.lines - 1 in
      let some_aisle = (within job.layout ok.layout).aisles.0 in
      let entry = table 1 0 whole (omega arith) (omega arith) (omega arith) (omega (arith, whole_code job)) in
      let at : (1 - 1) * 2048 + (whole * 8 + 0) ≡ k = omega arith in
      let left : suc job.layout.aisles - 1 ≡ job.layout.aisles = omega arith in
      rw (left, at) at entry

  module _ (some_line : job.lines ≡ [] → ⊥) where
    -- for a list with lines it is that of the best plan
    start_is : start_key ≡ plan_key job.layout (best_plan job)
    unfolding table_value
    start_is =
        let x = serving_exists job ok in
        rw start_demand (table_key job ok.layout x.0 ((serving_plans_lem job x.0).1 (x.1, x.2, x.3)) some_line)

    start_below : start_key < no_key
    unfolding plan_key
    start_below =
        omega (arith, start_is, plan_length_57280 job.layout (best_plan job) ok.layout best_well, entered_16 job.layout ok.layout (best_plan job) best_well)

    -- so what the table holds there is the length of the best plan
    pub start_length : (len v : ℕ) → Holds job.layout.aisles len v start_key → len ≡ plan_length job.layout (best_plan job)
    unfolding plan_key
    start_length len v h =
        let few = (within job.layout ok.layout).aisles.1 in
        omega (arith, (key_parts h start_below).0, start_is, entered_16 job.layout ok.layout (best_plan job) best_well, few)

    -- the trace starts in the state in which nothing is trodden, with the whole list; no aisle is entered yet
    pub trace_start : (len v demand fewest : ℕ) → Holds job.layout.aisles len v start_key → demand ≡ weight job.lines - 1
        → fewest ≡ job.layout.aisles - ones v → (stages : List Stage) → length stages ≡ 16
        → Traced job 0 (record { stages = stages; at = record { state = 0; demand = demand }; entered = 0; fewest = fewest })
    unfolding table_choice stages_rest
    trace_start len v demand fewest h whole_is fewest_is stages sized = rw (whole_is, fewest_is) starts
      where
        starts : Traced job 0 (record { stages = stages; at = record { state = 0; demand = weight job.lines - 1 }; entered = 0; fewest = job.layout.aisles - ones v })
        starts =
            let x = serving_exists job ok in
            let m-is : job.layout.aisles - 0 ≡ job.layout.aisles = omega arith in
            let few = (within job.layout ok.layout).aisles.1 in
            record {
              sized = sized;
              seen = omega arith;
              state_below = omega arith;
              demand_below = omega (arith, whole_code job);
              rest = rest_of (best_plan job);
              leads = rw (m-is, start_demand) (table_plan job ok.layout x.0 ((serving_plans_lem job x.0).1 (x.1, x.2, x.3)) some_line);
              finite = rw m-is start_below;
              whole = refl;
              marked = omega arith;
              counted = rw m-is (λ length e most same. omega (arith, no_ones, (key_parts h start_below).0, same, most, few));
            }

  -- behind the last aisle the whole plan is found
  trace_whole : (t : Trace) → Traced job job.layout.aisles t → stages_rest t.stages job.layout.aisles ≡ rest_of (best_plan job)
  trace_whole t traced =
      let found = stages_rest t.stages job.layout.aisles in
      let m-is : job.layout.aisles - job.layout.aisles ≡ 0 = omega arith in
      let none_left : ◌≡◌ {A = Option Rest} (some []) (some traced.rest) = rw m-is at traced.leads in
      let nothing-more : [] ≡ traced.rest = cc in
      sym (append-nil found) ∙ ap (λ xs. found ++ xs) nothing-more ∙ traced.whole

-- a plan's actions and passages out of its pairs
actions_back : (xs : List Action) (ps : List Passage) → map (λ (t : Action × Passage). t.0) (pair_up xs ps) ≡ xs
actions_back [] ps = refl
actions_back (a ∷ xs) ps = ap (λ l. a ∷ l) (actions_back xs (tail ps))

passages_back : (xs : List Action) (ps : List Passage) → length ps ≤ length xs
    → map (λ (t : Action × Passage). t.1) (take (length ps) (pair_up xs ps)) ≡ ps
passages_back xs [] h = refl
passages_back [] (p ∷ ps) h = absurd (omega arith)
passages_back (a ∷ xs) (p ∷ ps) h = ap (λ l. p ∷ l) (passages_back xs ps (omega arith))

take_map : {A B : Type 0} (f : A → B) (n : ℕ) (xs : List A) → take n (map f xs) ≡ map f (take n xs)
take_map f zero xs = refl
take_map f (suc n) [] = refl
take_map f (suc n) (x ∷ xs) = ap (λ l. f x ∷ l) (take_map f n xs)

abbrev pair : Stage → Action × Passage
pair s = (s.action, s.passage)

abbrev first : Action × Passage → Action
first x = x.0

abbrev second : Action × Passage → Passage
second x = x.1

-- the plan of the stages is the best plan
stages_plan : (job : Job) → Admitted job → (t : Trace) → Traced job job.layout.aisles t
    → (fits : job.layout.aisles ≤ 16) → plan_of (record { aisles = job.layout.aisles; stages = t.stages; fits = fits }) ≡ best_plan job
unfolding plan_of stages_rest rest_of
stages_plan job ok t traced fits =
    let m = job.layout.aisles in
    let stages = t.stages in
    let best = best_plan job in
    let pairs = pair_up best.actions best.passages in
    let well = best_well job ok in
    let whole : map pair (take m stages) ≡ pairs = trace_whole job ok t traced in
    let count : m - 1 ≡ length best.passages = omega (arith, well.passages) in
    let few : map pair (take (m - 1) stages) ≡ take (length best.passages) pairs =
    ap (map pair) (sym (take-take (m - 1) m stages (omega arith)))
    ∙ sym (take_map pair (m - 1) (take m stages))
    ∙ ap (take (m - 1)) whole
    ∙ ap (λ k. take k pairs) count in
    let actions : map (λ (x : Stage). x.action) (take m stages) ≡ best.actions =
    sym (map_map first pair (take m stages)) ∙ ap (map first) whole ∙ actions_back best.actions best.passages in
    let passages : map (λ (x : Stage). x.passage) (take (m - 1) stages) ≡ best.passages =
    sym (map_map second pair (take (m - 1) stages))
    ∙ ap (map second) few
    ∙ passages_back best.actions best.passages (omega (arith, well.passages, well.aisles)) in
    ap₂ (λ x y. record { actions = x; passages = y }) actions passages

pub trace_end : (job : Job) → Admitted job → (n : ℕ) (t : Trace) → n ≡ job.layout.aisles → Traced job n t
    → (fits : n ≤ 16) → plan_of (record { aisles = n; stages = t.stages; fits = fits }) ≡ best_plan job
trace_end job ok n t all =
    subst (λ k. Traced job k t → (fits : k ≤ 16) → plan_of (record { aisles = k; stages = t.stages; fits = fits }) ≡ best_plan job) (sym all) (stages_plan job ok t)
