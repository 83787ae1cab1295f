-- An empty list (request #101): the plan that treads nothing is lawful for it too, and is its best plan. Lists with lines have the
-- lawful plans that they had.
use Prim.Native.Nat.{◌≤◌, min}
use native.Mathlib.Omega.{arith}
use mathlib.Core.Path.{◌≡◌, refl, sym, ◌∙◌, ap, subst}
use mathlib.Core.Logic.{◌⊎◌, inl, inr, ◌↔◌}
use mathlib.Core.List.Memᴰ
use mathlib.Core.List.{List, [], ◌∷◌, Memᴰ}
use mathlib.Core.Bool.{Bool, true, ◌&&◌, ◌||◌, and-eq-true_iff, true≢false}
use Rattle.rules.specs.declared.Layout.{Layout}
use Rattle.rules.specs.declared.OrderLine.{OrderLine}
use Rattle.rules.specs.declared.StockRecord.{StockRecord}
use Rattle.rules.specs.Store.{layout_in_bounds}
use Rattle.rules.specs.Jobs.{Job, empty_list}
use Rattle.rules.specs.Plans.{Plan, WellFormed}
use Rattle.rules.specs.Lawful.{Lawful, TreadsNothing, LawfulFor}
use Rattle.rules.specs.Policies.{ShutVoid, Allowed}
use Rattle.rules.specs.Serving.{Serves, PlanServes}
use Rattle.rules.specs.Machine.{closes_off, treads_nothing, accepts}
use Rattle.rules.specs.Picks.{lack_of, less_of, taken, picks_from, passed_records, picks_of}
use Rattle.rules.specs.BestPlan.{empty_plan, best_plan}
use Rattle.rules.proofs.Admission.{layout_within}
use Rattle.rules.proofs.Lists.{or-true, or_right}
use Rattle.rules.proofs.EmptyPlan.{empty_action, empty_well_formed, empty_treads_nothing, empty_tested, treads_nothing_lem, empty_length, empty_alone, empty_follows}
use Rattle.rules.proofs.Enumeration.{serving_plans_lem, best_plan_listed, best_plan_shortest}

-- for a list with lines only a lawful plan is lawful
pub lawful_with_lines : (z : Layout) (lines : List OrderLine) (plan : Plan) → (lines ≡ [] → ⊥) → LawfulFor z lines plan → Lawful z plan
lawful_with_lines z [] plan some_line law = absurd (some_line refl)
lawful_with_lines z (l ∷ lines) plan some_line law = law

-- and a lawful plan is lawful for every list
pub lawful_for : (z : Layout) (lines : List OrderLine) (plan : Plan) → Lawful z plan → LawfulFor z lines plan
lawful_for z [] plan law = inl law
lawful_for z (l ∷ lines) plan law = law

-- what is lawful for a list is lawful for the empty one
pub lawful_for_empty : (z : Layout) (lines : List OrderLine) (plan : Plan) → LawfulFor z lines plan → LawfulFor z [] plan
lawful_for_empty z [] plan law = law
lawful_for_empty z (l ∷ lines) plan law = inl law

-- whatever is lawful for a list is a plan of the store
pub lawful_well_formed : (z : Layout) (lines : List OrderLine) (plan : Plan) → LawfulFor z lines plan → WellFormed z plan
lawful_well_formed z [] plan (inl law) = law.well_formed
lawful_well_formed z [] plan (inr idle) = idle.well_formed
lawful_well_formed z (l ∷ lines) plan law = law.well_formed

-- a plan that the machine closes off is accepted, and for a list with lines no other plan is
pub closed_accepted : (job : Job) (plan : Plan) → closes_off job plan ≡ true → accepts job plan ≡ true
unfolding accepts
closed_accepted job plan e = rw e (or_right (empty_list job.lines && treads_nothing plan))

pub accepts_with_lines : (job : Job) (plan : Plan) → (job.lines ≡ [] → ⊥) → accepts job plan ≡ closes_off job plan
unfolding accepts
accepts_with_lines job plan some_line = go job.lines some_line
  where
    go : (lines : List OrderLine) → (lines ≡ [] → ⊥) → ((empty_list lines && treads_nothing plan) || closes_off job plan) ≡ closes_off job plan
    go [] some_line = absurd (some_line refl)
    go (l ∷ lines) some_line = refl

-- an empty list, told by its test
empty_told : (lines : List OrderLine) → empty_list lines ≡ true → lines ≡ []
empty_told [] e = refl
empty_told (l ∷ lines) e = absurd (true≢false (sym e))

-- what is accepted: a plan that the machine closes off, or for an empty list the plan that treads nothing
pub accepted_by : (job : Job) (plan : Plan) → WellFormed job.layout plan
    → (accepts job plan ≡ true) ↔ ((closes_off job plan ≡ true) ⊎ ((job.lines ≡ []) × TreadsNothing job.layout plan))
unfolding accepts
accepted_by job plan wf = (forth, back)
  where
    told : Bool
    told = empty_list job.lines && treads_nothing plan

    forth : accepts job plan ≡ true → (closes_off job plan ≡ true) ⊎ ((job.lines ≡ []) × TreadsNothing job.layout plan)
    forth e = elim (or-true told (closes_off job plan) e) [
      | inl h ↦ let both = (and-eq-true_iff (empty_list job.lines) (treads_nothing plan)).0 h in inr (empty_told job.lines both.0, (treads_nothing_lem job.layout plan wf).0 both.1)
      | inr h ↦ inl h
    ]

    back : (closes_off job plan ≡ true) ⊎ ((job.lines ≡ []) × TreadsNothing job.layout plan) → accepts job plan ≡ true
    back (inl h) = closed_accepted job plan h
    back (inr h) = rw (h.0, (treads_nothing_lem job.layout plan wf).1 h.1)

module _ (job : Job) (no_line : job.lines ≡ []) where
  abbrev idle : Plan
  idle = empty_plan job.layout

  -- every policy allows the plan that treads nothing, in a store with an aisle
  pub empty_allowed : 1 ≤ job.layout.aisles → Allowed job idle
  unfolding ShutVoid
  empty_allowed some_aisle =
      record {
        lawful = subst (λ lines. LawfulFor job.layout lines idle) (sym no_line) (inr (empty_treads_nothing job.layout some_aisle));
        follows = empty_follows job job.policy;
        shut = λ j e. empty_action job.layout j;
      }

  -- the test accepts it, and there is nothing that it has to serve
  pub empty_accepted : accepts job idle ≡ true
  unfolding accepts
  empty_accepted = rw (no_line, empty_tested job.layout)

  pub empty_serves : (plan : Plan) → PlanServes job plan
  unfolding PlanServes Serves
  empty_serves plan l m = absurd (Memᴰ.not-nil (subst (λ lines. Memᴰ l lines) no_line m))

  -- nor anything to pick
  pub empty_picks : (plan : Plan) → picks_of job plan ≡ []
  unfolding picks_of taken lack_of less_of
  empty_picks plan = ap (λ lines. picks_from lines (passed_records job plan)) no_line ∙ go (passed_records job plan)
    where
      go : (records : List StockRecord) → picks_from [] records ≡ []
      go [] = refl
      go (r ∷ records) = let nothing : min 0 r.quantity ≡ 0 = omega arith in rw nothing (go records)

  -- its length is the least, and no other plan has it: it is the best plan
  pub best_empty : layout_in_bounds job.layout ≡ true → best_plan job ≡ idle
  best_empty bounds =
      let z = job.layout in
      let within = (layout_within z).0 bounds in
      let listed = (serving_plans_lem job idle).1 (empty_well_formed z within.aisles.0, empty_accepted, empty_serves idle) in
      let least = best_plan_shortest job idle listed in
      let best = (serving_plans_lem job (best_plan job)).0 (best_plan_listed job idle listed) in
      empty_alone z within (best_plan job) best.0 (omega (arith, empty_length z))
