-- The laws of closed walks, in one place: Euler, the first walk, walks read as plans, steps and lengths.
use Prim.Native.Nat.{ℕ, ◌≤◌}
use native.Mathlib.Omega.{arith}
use mathlib.Core.Path.{◌≡◌, ◌∙◌}
use mathlib.Core.List.{List, [], Memᴰ}
use mathlib.Core.Bool.{true, false}
use lib.ListN.{length}
use Rattle.rules.specs.declared.Layout.{Layout}
use Rattle.rules.specs.declared.StockRecord.{StockRecord}
use Rattle.rules.specs.declared.OrderLine.{OrderLine}
use Rattle.rules.specs.Hours.{Hours, NoHours, is_open}
use Rattle.rules.specs.Jobs.{Job, open_stock}
use Rattle.rules.specs.Store.{Point, Edge, along, InStore, depot_point, layout_in_bounds}
use Rattle.rules.specs.Plans.{Plan, WellFormed, multiplicity, plan_passes, plan_length}
use Rattle.rules.specs.Lawful.{Lawful, LawfulFor}
use Rattle.rules.specs.Walks.{Walk, ClosedWalk, walk_treads, walk_passes, walk_length, NotAfter, KeepsToOpen}
use Rattle.rules.specs.Policies.{ShutVoid}
use Rattle.rules.specs.FirstWalk.{WalkOf, first_walk, steps_of}
use Rattle.rules.specs.Serving.{PlanServes, WalkServes}
use Rattle.rules.proofs.EmptyList.{lawful_for_empty}
use Rattle.closedwalks.specs.Ways.{PointOf, Balanced, Leads, treads_from, Joined}
use Rattle.closedwalks.specs.Greedy.{LetterTest, greedy, TellsJoined}
use Rattle.closedwalks.proofs.Euler as Euler
use Rattle.closedwalks.proofs.Walked as Walked
use Rattle.closedwalks.proofs.First as First
use Rattle.closedwalks.proofs.Greedily as Greedily
use Rattle.closedwalks.proofs.WalkReads as WalkReads
use Rattle.closedwalks.proofs.Determined as Determined
use Rattle.closedwalks.proofs.Counts as Counts
use Rattle.closedwalks.proofs.Passing as Passing
use Rattle.closedwalks.proofs.ShutAisles as ShutAisles
use Rattle.closedwalks.proofs.Serving.{serves_too}

module _ (z : Layout) (low : 1 ≤ z.depot) (high : z.depot ≤ z.aisles) where
  -- every plan that is lawful for a list has a closed walk that treads each edge exactly as the plan says
  pub lawful_walked : (lines : List OrderLine) (plan : Plan) → LawfulFor z lines plan → (walk : Walk) × WalkOf z plan walk
  lawful_walked lines plan law = Walked.lawful_walked z plan (lawful_for_empty z lines plan law) low high

  -- its first walk is one of them, and none of them comes before it in the alphabet
  pub first_walk_lem : (lines : List OrderLine) (plan : Plan) → LawfulFor z lines plan
      → WalkOf z plan (first_walk z plan) × ((walk : Walk) → WalkOf z plan walk → NotAfter (first_walk z plan) walk)
  first_walk_lem lines plan law = First.first_walk_lem z low high plan (lawful_for_empty z lines plan law)

  -- the first walk takes at each point the first letter behind which all that remains can be reached, whatever test tells that
  pub greedy_first : (test : LetterTest) → TellsJoined z test → (lines : List OrderLine) (plan : Plan) → LawfulFor z lines plan
      → greedy z test (steps_of z (multiplicity plan)) (multiplicity plan) (depot_point z) ≡ first_walk z plan
  greedy_first test tells lines plan law = Greedily.greedy_first z test tells plan low high (lawful_for_empty z lines plan law)

  -- a closed walk that treads some edge, and none more than twice, reads as a lawful plan
  pub walk_reads : (walk : Walk) → ¬ (walk ≡ []) → ClosedWalk z walk → ((e : Edge) → InStore z e → walk_treads z walk e ≤ 2)
      → (plan : Plan) × Lawful z plan × ((e : Edge) → InStore z e → multiplicity plan e ≡ walk_treads z walk e)
  walk_reads = WalkReads.walk_reads z low high

  -- where the walk keeps to open aisles, the plan keeps out of shut ones
  pub walk_reads_open : (hours : Hours) (walk : Walk) → ¬ (walk ≡ []) → ClosedWalk z walk → KeepsToOpen z hours walk → ((e : Edge) → InStore z e → walk_treads z walk e ≤ 2)
      → (plan : Plan) × Lawful z plan × ShutVoid hours plan × ((e : Edge) → InStore z e → multiplicity plan e ≡ walk_treads z walk e)
  unfolding KeepsToOpen
  walk_reads_open hours walk some closed keeps few =
      let t = walk_reads walk some closed few in
      (t.0, t.1, ShutAisles.shut_void hours z t.0 t.1.well_formed (λ j k shut i. t.2 (along j k) i ∙ keeps j k shut i), t.2)

  -- for every closed walk with a step, however often it treads an edge, a lawful plan passes the same cells, is no longer and treads no other edge
  pub walk_plan : (walk : Walk) → ¬ (walk ≡ []) → ClosedWalk z walk
      → (plan : Plan) × Lawful z plan
      × ((j c : ℕ) → walk_passes z walk j c ≡ true → 1 ≤ c → c ≤ z.cells → plan_passes plan j c ≡ true)
      × (plan_length z plan ≤ walk_length z walk)
      × ((e : Edge) → InStore z e → walk_treads z walk e ≡ 0 → multiplicity plan e ≡ 0)
  walk_plan = WalkReads.walk_plan z low high

  -- a walk of a plan has as many steps as the plan has treads, and the plan's length
  pub walk_steps : (plan : Plan) (walk : Walk) → WalkOf z plan walk → length walk ≡ steps_of z (multiplicity plan)
  walk_steps = Counts.walk_steps z low high

  pub walk_length_lem : (plan : Plan) (walk : Walk) → WalkOf z plan walk → walk_length z walk ≡ plan_length z plan
  walk_length_lem = Counts.walk_long z low high

  -- it has at most 860 steps within the bounds of the layout
  pub few_steps : (plan : Plan) (walk : Walk) → WalkOf z plan walk → layout_in_bounds z ≡ true → length walk ≤ 860
  few_steps plan walk w h = omega (arith, walk_steps plan walk w, Counts.few_treads z plan h)

  -- and it passes the cells that the plan passes, and no others
  pub walk_passes_lem : (plan : Plan) (walk : Walk) → WalkOf z plan walk → (j c : ℕ) → 1 ≤ j → j ≤ z.aisles → 1 ≤ c → c ≤ z.cells → walk_passes z walk j c ≡ plan_passes plan j c
  walk_passes_lem = Passing.walk_passes_lem z low high

-- from a point: treads that are balanced between x and y and can all be reached from x are exactly those of a walk from x to y
pub completed : (z : Layout) (left : Edge → ℕ) (x y : Point) → PointOf z x → Balanced z left x y → Joined z left x
    → (walk : Walk) × Leads z x walk y × ((e : Edge) → InStore z e → treads_from x walk e ≡ left e)
completed = Euler.completed

-- no two plans of a store tread each edge alike
pub plan_determined : (z : Layout) (plan other : Plan) → WellFormed z plan → WellFormed z other → ((e : Edge) → InStore z e → multiplicity plan e ≡ multiplicity other e) → plan ≡ other
plan_determined = Determined.plan_determined

-- a plan that treads no edge of a shut aisle is VOID there
pub shut_void : (hours : Hours) (z : Layout) (plan : Plan) → WellFormed z plan
    → ((j k : ℕ) → is_open hours j ≡ false → InStore z (along j k) → multiplicity plan (along j k) ≡ 0) → ShutVoid hours plan
shut_void = ShutAisles.shut_void

-- the walks of a plan in which shut aisles are VOID keep to open ones, and without the sections every walk does
pub walk_keeps : (hours : Hours) (z : Layout) (plan : Plan) (walk : Walk) → ShutVoid hours plan → WalkOf z plan walk → KeepsToOpen z hours walk
walk_keeps = ShutAisles.walk_keeps

pub plain_keeps : (z : Layout) (walk : Walk) → KeepsToOpen z NoHours walk
plain_keeps = ShutAisles.plain_keeps

-- a closed walk that serves a job's list in open aisles gives a lawful plan that keeps out of shut ones, serves it and is no longer
pub walk_plan_serves : (job : Job) → 1 ≤ job.layout.depot → job.layout.depot ≤ job.layout.aisles
    → ((r : StockRecord) → Memᴰ r (open_stock job) → (1 ≤ r.cell) × (r.cell ≤ job.layout.cells))
    → (walk : Walk) → ¬ (walk ≡ []) → ClosedWalk job.layout walk → KeepsToOpen job.layout job.hours walk → WalkServes job walk
    → (plan : Plan) × Lawful job.layout plan × ShutVoid job.hours plan × PlanServes job plan
    × (plan_length job.layout plan ≤ walk_length job.layout walk)
unfolding PlanServes WalkServes KeepsToOpen
walk_plan_serves job low high cells walk some closed keeps serves =
    let z = job.layout in
    let t = walk_plan z low high walk some closed in
    let shut = shut_void job.hours z t.0 t.1.well_formed (λ j k h i. t.4 (along j k) i (keeps j k h i)) in
    let served = serves_too job (walk_passes z walk) (plan_passes t.0) (λ r m h. t.2 r.aisle r.cell h (cells r m).0 (cells r m).1) serves in
    (t.0, t.1, shut, served, t.3)
