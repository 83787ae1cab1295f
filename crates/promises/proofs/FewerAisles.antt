-- Fewer aisles between equals: the plan shown is as long as the one before the request, enters the fewest aisles of those that are as long, and
-- comes first of these; the request's own store shows that the two differ.
use Prim.Native.Nat.{ℕ, ◌≤◌}
use native.Mathlib.Omega.{arith}
use mathlib.Core.Path.{◌≡◌, refl, sym, ◌∙◌, ap, subst}
use mathlib.Core.Logic.{◌⊎◌, inl, inr}
use mathlib.Core.List.{List, [], ◌∷◌}
use mathlib.Core.Option.{some, get_or}
use lib.Dec.{ltb}
use lib.ListN.{length}
use Rattle.rules.specs.declared.Policy.TheVariants.{Exact}
use Rattle.rules.specs.declared.Action.TheVariants.{Void, Bottom}
use Rattle.rules.specs.declared.Passage.TheVariants.{P00, P02}
use Rattle.rules.specs.Store.{aisle_length, position}
use Rattle.rules.specs.Lengths.{action_length, passage_length}
use Rattle.rules.specs.Jobs.{Job, listed, holds_listed}
use Rattle.rules.specs.JobFile.{numeral, field, header, layout_text, layout_section_text, record_text, line_text, section_text, job_text}
use Rattle.rules.specs.JobFile.{is_digit, is_number, read_field, read_header, read_policy_as, read_policy, read_layout, read_posts}
use Rattle.rules.specs.JobFile.{read_record, read_line, read_section, read_layout_section, read_sections, read_job}
use Rattle.rules.specs.Plans.{Plan, action_at, plan_length, plan_passes}
use Rattle.rules.specs.Policies.{entered_aisles, Allowed}
use Rattle.rules.specs.Machine.{action_possible, action_step, passage_step}
use Rattle.rules.specs.Serving.{supply, serves, PlanServes}
use Rattle.rules.specs.BestPlan.{actions_of, passages_in_order, single, prepend, PlanBefore, is_better, better_of, serving_plans, empty_plan, best_plan}
use Rattle.rules.specs.Refusals.{Admitted, work_limit}
use Rattle.rules.specs.Answers.{sheet_limit}
use Rattle.rules.specs.Examples.{stocked, ◌⨯◌, own_job, fewer_store, fewer_cases}
use Rattle.rules.proofs.Admission.{layout_within, admitted}
use Rattle.rules.proofs.FirstBest.{first_best_some}
use Rattle.rules.proofs.Enumeration.{plan_before_one_way, plan_not_before_itself, FirstShortest, first_shortest_member, first_shortest_least, first_shortest_first, first_shortest_given}
use Rattle.rules.proofs.Enumeration.{nothing_counted, serving_plans_lem, serving_plans_ordered}
use Rattle.rules.proofs.Pruning.{bounded_best, found_first_best}
use Rattle.rules.proofs.Cases.{fewer_cases_hold}
use Rattle.tours.proofs.Machine.{accepts_allowed}
use Rattle.optimum.proofs.Best.{listed_plan, best_plan_lem}
use Rattle.promises.specs.Contents.{Content, content_of}
use Rattle.promises.specs.Calls.{Shows, Shortest}
use Rattle.promises.specs.FewerAisles.{best_before}
use Rattle.promises.proofs.Shown.{best, best_shortest, shown_best, job_shown}

module _ (job : Job) (a : Admitted job) where
  -- the length of a plan of this job
  abbrev len : Plan → ℕ
  len = plan_length job.layout

  -- the plan before is the first of the shortest in the enumeration, which has at least the best plan
  first_listed : FirstShortest len (serving_plans job) (best_before job)
  unfolding best_before
  first_listed =
      let b = best_plan_lem job a in
      let there = listed_plan job a (best_plan job) b.allowed b.serving in
      (first_shortest_given len (serving_plans job) (best_before job)).0
      (first_best_some (λ x y. ltb (len x) (len y)) (serving_plans job) there (empty_plan job.layout))

  -- so it is allowed and serves the list, no such plan is shorter, and of those that are no longer it is the first
  pub before_first : Allowed job (best_before job) × PlanServes job (best_before job)
      × ((plan : Plan) → Allowed job plan → PlanServes job plan → (len (best_before job) ≤ len plan)
      × (len plan ≤ len (best_before job) → (plan ≡ best_before job) ⊎ PlanBefore job.layout.cells (best_before job) plan))
  before_first =
      let depot = ((layout_within job.layout).0 a.layout).depot.0 in
      let (well, accepted, serving) = (serving_plans_lem job (best_before job)).0 (first_shortest_member len first_listed) in (
        (accepts_allowed job (best_before job) depot).0 (well, accepted),
        serving,
        λ plan allowed serving.
            let there = listed_plan job a plan allowed serving in (
              first_shortest_least len first_listed plan there,
              first_shortest_first len (PlanBefore job.layout.cells) (serving_plans_ordered job) first_listed plan there,
            ),
      )

  -- neither it nor the best plan is shorter than the other
  pub same_length : len (best_plan job) ≡ len (best_before job)
  same_length =
      let b = best_plan_lem job a in
      let (allowed, serving, first) = before_first in
      omega (arith, b.least (best_before job) allowed serving, (first (best_plan job) b.allowed b.serving).0)

module _ (bytes sheet work : List ℕ) (job : Job) (c : Content) (s : Shows bytes sheet work job c) where
  -- so the length printed is that of the plan before
  pub length_shown : c.length ≡ plan_length job.layout (best_before job)
  unfolding content_of
  length_shown = let (a, e) = shown_best bytes sheet work job c s in sym (ap (λ (x : Content). x.length) e) ∙ same_length job a

  -- of the plans that are as long none enters fewer aisles than the one shown, and of those that enter as many none comes before it
  pub fewest_shown : (plan : Plan) → Allowed job plan → PlanServes job plan → plan_length job.layout plan ≡ c.length
      → (entered_aisles c.plan ≤ entered_aisles plan)
      × (entered_aisles plan ≡ entered_aisles c.plan → PlanBefore job.layout.cells plan c.plan → ⊥)
  fewest_shown plan allowed serving as_long =
      let (a, e) = shown_best bytes sheet work job c s in
      let shortest = subst (Shortest job) e (best_shortest job a) in
      let no_longer : plan_length job.layout plan ≤ c.length = omega arith in (
        shortest.fewest plan allowed serving no_longer,
        λ as_many. first (shortest.tie plan allowed serving no_longer (omega arith)),
      )
    where
      first : (plan ≡ c.plan) ⊎ PlanBefore job.layout.cells c.plan plan → PlanBefore job.layout.cells plan c.plan → ⊥
      first (inl same) b = plan_not_before_itself job.layout.cells c.plan (subst (λ p. PlanBefore job.layout.cells p c.plan) same b)
      first (inr behind) b = plan_before_one_way job.layout.cells plan c.plan b behind

-- the plan of the request's own store before
abbrev two_aisles : Plan
two_aisles = record { actions = Void ∷ Bottom 1 ∷ Bottom 1 ∷ []; passages = P00 ∷ P02 ∷ [] }

-- and now
abbrev one_aisle : Plan
one_aisle = record { actions = Bottom 3 ∷ Void ∷ Void ∷ []; passages = P02 ∷ P00 ∷ [] }

-- the one before, computed by the bounded search: by length alone is as if no aisle were counted
found_before : best_before (fewer_store Exact) ≡ two_aisles
unfolding best_before actions_of passages_in_order single prepend is_better better_of stocked ◌⨯◌ listed holds_listed action_possible action_step passage_step action_at
    plan_passes supply serves aisle_length position bounded_best action_length passage_length own_job fewer_store
found_before =
    let job = fewer_store Exact in
    let alike = nothing_counted (plan_length job.layout) (serving_plans job) in
    ap (λ o. get_or o (empty_plan job.layout)) (sym alike ∙ found_first_best job 18 two_aisles refl (λ plan. 0) refl)

-- both are 18
pub moved : (best_before (fewer_store Exact) ≡ two_aisles) × (plan_length (fewer_store Exact).layout two_aisles ≡ 18)
    × (best_plan (fewer_store Exact) ≡ one_aisle) × (plan_length (fewer_store Exact).layout one_aisle ≡ 18)
unfolding fewer_cases
moved =
    let (tour, plan, now, before) = fewer_cases_hold.0 in
    (found_before, before.length, plan, now.length)

-- the text of the store is read
store_read : read_job (job_text (fewer_store Exact)) ≡ some (fewer_store Exact)
unfolding ◌⨯◌ stocked own_job fewer_store job_text layout_section_text numeral field header layout_text record_text line_text section_text
    is_digit is_number read_field read_header read_policy_as read_policy read_layout read_posts read_record read_line read_section read_layout_section read_sections
    read_job
store_read = refl

-- so its sheet is shown
module _ (sheet work : List ℕ) (space : sheet_limit ≤ length sheet) (numbers : work_limit ≤ length work) where
  pub met : Shows (job_text (fewer_store Exact)) sheet work (fewer_store Exact) (best (fewer_store Exact))
  unfolding fewer_cases
  met = job_shown sheet work space numbers (fewer_store Exact) store_read ((admitted (fewer_store Exact)).0 fewer_cases_hold.0.0.admitted)
