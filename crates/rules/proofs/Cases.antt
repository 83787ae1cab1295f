-- Document 01's cases 1 to 14 hold of the definitions, and the worked example is printed byte for byte.
-- The plans are computed the faster way, which gives the same (Pruning).
use Prim.Native.Nat.{ℕ}
use mathlib.Core.Path.{◌≡◌, refl, ◌∙◌, ap}
use mathlib.Core.List.{List, [], ◌∷◌}
use mathlib.Core.Option.{none, some}
use mathlib.Core.Bool.{true}
use lib.ListN.{replicate}
use Rattle.rules.specs.declared.Action.{Action}
use Rattle.rules.specs.declared.Policy.{Policy}
use Rattle.rules.specs.declared.Policy.TheVariants.{Exact, Return, Traversal, Midpoint, Composite, Largest}
use Rattle.rules.specs.declared.Action.TheVariants.{Void, Bottom, Once}
use Rattle.rules.specs.declared.Passage.{Passage}
use Rattle.rules.specs.declared.Passage.TheVariants.{P00, P02, P11}
use Rattle.rules.specs.declared.Refusal.TheVariants.{NotAJobFile, LayoutBounds, StockBounds, CellTwice, HoursBounds, ArticleTwice, ShortOfStock, ListBounds, TooHeavy}
use Rattle.rules.specs.Jobs.{Job}
use Rattle.rules.specs.Plans.{Plan}
use Rattle.rules.specs.Examples.{Expected, tour, tied, walked, long, refusal, weighing, allowing, HasTour, IsTour, FileEnds, CallGives, PageCallGives, Meets, Case, under, under_every, Holds, AllHold, AllSame}
use Rattle.rules.specs.Sheet.{runs_of}
use Rattle.rules.proofs.Pruning.{fits, bounded_best, found_best}
use Rattle.rules.specs.Lists.{all_of}
use Rattle.rules.specs.Lengths.{action_length, passage_length}
use Rattle.rules.specs.Answers.{refused, served, answer, host_answer, output}
use Rattle.rules.specs.BestPlan.{actions_of, passages_in_order, single, prepend, is_better, better_of, empty_plan, serving_plans, best_plan}
use Rattle.rules.specs.Examples.{stocked, ◌⨯◌, alpha, beta, steps, round_trip, cases, own_job, one_each, midway_front, midway_back, far_back, near_back, both_ends, bottom_or_top, top_or_gap, gap_or_once, front_or_back, left_first, top_tie, with_others, gap_by_front, gap_by_back, posted, third_cells, before_middle, behind_middle, wrong_layout, wrong_stock, shared_cell, shared_article, both_bottom, both_once, eight_lines, nine_lines, front_only, away_from_depot, own_cases, two_lines, counted, from_the_back, page_from_the_back, texts, overfull, RefusedWith, worked_job, worked_sheet, worked_page}
use Rattle.rules.specs.Examples.{beta_with, cells_between, four_between, beside_unlisted, listed_in_gap, one_aisle, between_ends, largest_cases, stop_lists}
use Rattle.rules.specs.Examples.{restocked, looked_cases, looked_texts, AllLooked}
use Rattle.rules.specs.Examples.{window, timed, seven_at, in_aisle_one, in_aisle_two, overstocked, hours_cases, hours_looked, before_list, no_job_file, hours_texts}
use Rattle.rules.specs.Examples.{door_at, wanted_in, three_places, spare_aisle, door_cases}
use Rattle.rules.specs.Examples.{sided, from_behind, top_of_two, midway_cells, midway_turned, either_way, long_behind, back_cases, three_lines, third_line, page_from_behind, back_texts}
use Rattle.rules.specs.Examples.{fewer_store, beside_aisle_one, fewer_apart, aisle_one_alone, past_or_into, past_aisle_two, fewer_cases}
use Rattle.rules.specs.Hours.{open_at, window_in_bounds}
use Rattle.rules.specs.FirstWalk.{without, steps_of, first_walk}
use Rattle.rules.specs.JobFile.{numeral, field, header, section_text, job_text, layout_text, layout_section_text, record_text, window_text, line_text, is_digit, is_number, read_field, read_header, read_policy_as, read_policy, read_layout, read_posts_line, read_side_as, read_side, read_sided_lines, read_posts, read_record, read_window, read_minute, read_clock, read_line, read_section, read_layout_section, read_sections, read_job}
use Rattle.rules.specs.Jobs.{listed, holds_listed, cell_holds_listed}
use Rattle.rules.specs.Looked.{with_first, first_hold, looked_for, looked, looked_on, looked_in}
use Rattle.rules.specs.Machine.{part_keeps, keeps_largest_gap, action_possible, action_step, passage_step, treads_nothing, accepts}
use Rattle.rules.specs.Picks.{cells_of, lack_of, less_of, record_at, taken, passed_records, picks_of}
use Rattle.rules.specs.Plans.{action_at, passage_at, multiplicity, length_of, plan_length, plan_passes}
use Rattle.rules.specs.Policies.{entered_aisles, in_front_half, in_back_half, listed_cells, untrodden}
use Rattle.rules.specs.Page.{aligned, column, page_line, pick_cell, picked_at, along_walk, page_of, page_text}
use Rattle.rules.specs.PageAnswers.{page_refused, page_served, page_answer, host_page_answer, page_output}
use Rattle.rules.specs.Refusals.{record_in_bounds, stock_in_bounds, same_cell, line_in_bounds, list_in_bounds, same_article, weight, all_stock, short_of_stock, job_rows, job_refusal, check_job, check_bytes, cleared, page_table}
use Rattle.rules.specs.Serving.{supply, serves}
use Rattle.rules.specs.Sheet.{total_text, passage_text, pick_text, run_text, sheet_of, sheet_text}
use Rattle.rules.specs.Store.{aisle_length, position, back_height, depot_point, distance, edges_of, within, layout_in_bounds, same_edge, same_point}
use Rattle.rules.specs.Walks.{is_crossing, can_step, step_to, step_edge, one}

-- what is computed of a tour: no refusal applies, the actions of an aisle fit it, the bounded search finds the plan, and its length
abbrev Found : Job → ℕ → List Action → List Passage → Type 0
Found job n actions passages =
    (job_refusal job ≡ none)
    × (all_of (fits job.layout.cells) (actions_of job.layout.cells) ≡ true)
    × (bounded_best job n entered_aisles ≡ some (n, record { actions = actions; passages = passages }))
    × (plan_length job.layout (record { actions = actions; passages = passages }) ≡ n)

module _ (job : Job) (n : ℕ) (actions : List Action) (passages : List Passage) (f : Found job n actions passages) where
  abbrev plan : Plan
  plan = record { actions = actions; passages = passages }

  -- such a plan is the best plan, and its length is the tour's
  found_plan : best_plan job ≡ plan
  found_plan = found_best job n plan f.1 f.2

  found_tour : HasTour job n
  found_tour = record { admitted = f.0; length = ap (plan_length job.layout) found_plan ∙ f.3 }

-- what is computed of a row: what it expects, with the bounded search in the place of the best plan
abbrev Computed : Job → Expected → Type 0
Computed job (tour n actions passages) = Found job n actions passages
Computed job (tied n actions passages others gaps) =
    Found job n actions passages
    × IsTour job (record { actions = actions; passages = passages }) n
    × IsTour job (record { actions = others; passages = gaps }) n
Computed job (walked n actions passages runs) =
    Found job n actions passages × (runs_of (first_walk job.layout (record { actions = actions; passages = passages })) ≡ runs)
Computed job (long n) = (actions : List Action) × (passages : List Passage) × Found job n actions passages
Computed job (refusal n) = RefusedWith job n
Computed job (weighing w n) = (weight job.lines ≡ w) × RefusedWith job n
Computed job (allowing b actions passages) = Meets job (allowing b actions passages)

computed_meets : (job : Job) (e : Expected) → Computed job e → Meets job e
computed_meets job (tour n actions passages) f = (found_tour job n actions passages f, found_plan job n actions passages f)
computed_meets job (tied n actions passages others gaps) (f, own, other) =
    (found_tour job n actions passages f, found_plan job n actions passages f, own, other)
computed_meets job (walked n actions passages runs) (f, walk) =
    let e = found_plan job n actions passages f in
    (found_tour job n actions passages f, e, ap (λ p. runs_of (first_walk job.layout p)) e ∙ walk)
computed_meets job (long n) (actions, passages, f) = found_tour job n actions passages f
computed_meets job (refusal n) r = r
computed_meets job (weighing w n) r = r
computed_meets job (allowing b actions passages) r = r

abbrev RowComputed : Case → Type 0
RowComputed (under policy job e) = Computed (job policy) e
RowComputed (under_every job e) = (policy : Policy) → Computed (job policy) e

abbrev AllComputed : List Case → Type 0
AllComputed [] = Unit {0}
AllComputed (c ∷ rest) = RowComputed c × AllComputed rest

-- what holds under each policy holds under every policy
under_each : (P : Policy → Type 0) → P Exact → P Return → P Traversal → P Midpoint → P Composite → P Largest → (policy : Policy) → P policy
under_each P e r t m c l Exact = e
under_each P e r t m c l Return = r
under_each P e r t m c l Traversal = t
under_each P e r t m c l Midpoint = m
under_each P e r t m c l Composite = c
under_each P e r t m c l Largest = l

infixr 5 ◌▸◌
-- a row before others
abbrev ◌▸◌ : {A B : Type 0} → A → B → A × B
a ▸ b = (a, b)

row_holds : (c : Case) → RowComputed c → Holds c
row_holds (under policy job e) r = computed_meets (job policy) e r
row_holds (under_every job e) r = λ policy. computed_meets (job policy) e (r policy)

all_hold : (cs : List Case) → AllComputed cs → AllHold cs
all_hold [] r = tt
all_hold (c ∷ cs) (r, rs) = (row_holds c r, all_hold cs rs)

-- the rows of the cases 1 to 14
cases_computed : AllComputed cases
unfolding actions_of passages_in_order single prepend is_better better_of entered_aisles stocked ◌⨯◌ alpha beta listed holds_listed action_possible action_step passage_step accepts action_at passage_at multiplicity length_of plan_length plan_passes in_front_half in_back_half supply serves aisle_length position back_height depot_point distance edges_of bounded_best action_length passage_length record_in_bounds stock_in_bounds same_cell line_in_bounds list_in_bounds same_article weight all_stock short_of_stock job_rows job_refusal within layout_in_bounds without steps_of first_walk same_edge same_point is_crossing can_step step_to step_edge one steps round_trip cases RefusedWith treads_nothing serving_plans
cases_computed =
    (refl, refl, refl, refl)
    ▸ ((refl, refl, refl, refl), record { allowed = refl; serving = refl; length = refl }, record { allowed = refl; serving = refl; length = refl })
    ▸ (refl, refl, refl, refl)
    ▸ ((refl, refl, refl, refl), refl)
    ▸ (refl, refl, refl, refl)
    ▸ (λ policy. (ShortOfStock, refl, refl))
    ▸ (refl, refl, refl, refl)
    ▸ (refl, refl, refl, refl)
    ▸ (refl, refl, refl, refl)
    ▸ (Bottom 3 ∷ Bottom 5 ∷ Bottom 3 ∷ [], P02 ∷ P02 ∷ [], (refl, refl, refl, refl))
    ▸ (λ policy. (refl, (ShortOfStock, refl, refl)))
    ▸ (λ policy. (ListBounds, refl, refl))
    ▸ (λ policy. (refl, (TooHeavy, refl, refl)))
    ▸ under_each _ ((refl, refl, refl, refl), refl) ((refl, refl, refl, refl), refl) ((refl, refl, refl, refl), refl)
    ((refl, refl, refl, refl), refl) ((refl, refl, refl, refl), refl) ((refl, refl, refl, refl), refl)
    ▸ tt

-- the table of the cases 1 to 14
pub cases_hold : AllHold cases
cases_hold = all_hold cases cases_computed

-- the rows of our own cases
own_cases_computed : AllComputed own_cases
unfolding actions_of passages_in_order single prepend is_better better_of entered_aisles stocked ◌⨯◌ alpha beta listed holds_listed action_possible action_step passage_step accepts action_at passage_at multiplicity length_of plan_length plan_passes in_front_half in_back_half supply serves aisle_length position back_height depot_point distance edges_of bounded_best action_length passage_length record_in_bounds stock_in_bounds same_cell line_in_bounds list_in_bounds same_article weight all_stock short_of_stock job_rows job_refusal within layout_in_bounds without steps_of first_walk same_edge same_point is_crossing can_step step_to step_edge one steps RefusedWith own_job one_each midway_front midway_back far_back near_back both_ends bottom_or_top top_or_gap gap_or_once front_or_back left_first top_tie with_others gap_by_front gap_by_back posted third_cells before_middle behind_middle wrong_layout wrong_stock shared_cell shared_article both_bottom both_once eight_lines nine_lines front_only away_from_depot own_cases treads_nothing
own_cases_computed =
    (refl, refl)
    ▸ (refl, refl)
    ▸ (refl, refl)
    ▸ (refl, refl)
    ▸ (refl, refl)
    ▸ (refl, refl)
    ▸ (λ policy. (LayoutBounds, refl, refl))
    ▸ (λ policy. (StockBounds, refl, refl))
    ▸ (λ policy. (CellTwice, refl, refl))
    ▸ (λ policy. (ArticleTwice, refl, refl))
    ▸ (refl, refl, refl, refl)
    ▸ (refl, refl, refl, refl)
    ▸ (refl, refl, refl, refl)
    ▸ (refl, refl, refl, refl)
    ▸ (refl, refl, refl, refl)
    ▸ (refl, refl, refl, refl)
    ▸ (refl, refl, refl, refl)
    ▸ (refl, refl, refl, refl)
    ▸ (refl, refl, refl, refl)
    ▸ (refl, refl, refl, refl)
    ▸ (refl, refl, refl, refl)
    ▸ ((refl, refl, refl, refl), refl)
    ▸ (λ policy. (refl, (ShortOfStock, refl, refl)))
    ▸ (λ policy. (ListBounds, refl, refl))
    ▸ under_each _ (refl, refl) (refl, refl) (refl, refl) (refl, refl) (refl, refl) (refl, refl)
    ▸ (refl, refl)
    ▸ (refl, refl, refl, refl)
    ▸ (refl, refl, refl, refl)
    ▸ (refl, refl, refl, refl)
    ▸ (refl, refl, refl, refl)
    ▸ (refl, refl, refl, refl)
    ▸ (refl, refl, refl, refl)
    ▸ (refl, refl, refl, refl)
    ▸ (λ policy. (LayoutBounds, refl, refl))
    ▸ (λ policy. (LayoutBounds, refl, refl))
    ▸ (λ policy. (LayoutBounds, refl, refl))
    ▸ tt

-- the table of our own cases
pub own_cases_hold : AllHold own_cases
own_cases_hold = all_hold own_cases own_cases_computed

-- the rows of request #104
largest_cases_computed : AllComputed largest_cases
unfolding actions_of passages_in_order single prepend is_better better_of entered_aisles stocked ◌⨯◌ alpha beta listed holds_listed action_possible action_step passage_step accepts action_at
    passage_at multiplicity length_of plan_length plan_passes in_front_half in_back_half supply serves aisle_length position back_height depot_point distance edges_of
    bounded_best action_length passage_length record_in_bounds stock_in_bounds same_cell line_in_bounds list_in_bounds same_article weight all_stock short_of_stock job_rows
    job_refusal within layout_in_bounds own_job posted both_once treads_nothing cell_holds_listed listed_cells untrodden part_keeps keeps_largest_gap beta_with cells_between four_between
    beside_unlisted listed_in_gap one_aisle between_ends largest_cases
largest_cases_computed =
    (refl, refl, refl, refl)
    ▸ (refl, refl, refl, refl)
    ▸ (refl, refl, refl, refl)
    ▸ (refl, refl, refl, refl)
    ▸ (refl, refl)
    ▸ (refl, refl)
    ▸ (refl, refl, refl, refl)
    ▸ (refl, refl)
    ▸ (refl, refl)
    ▸ (refl, refl)
    ▸ (refl, refl)
    ▸ (refl, refl)
    ▸ (refl, refl)
    ▸ (refl, refl)
    ▸ (refl, refl)
    ▸ (refl, refl)
    ▸ (refl, refl)
    ▸ (refl, refl)
    ▸ (refl, refl)
    ▸ (refl, refl)
    ▸ (refl, refl)
    ▸ (refl, refl)
    ▸ (refl, refl, refl, refl)
    ▸ (refl, refl)
    ▸ (refl, refl)
    ▸ (refl, refl, refl, refl)
    ▸ (refl, refl)
    ▸ tt

-- the table of request #104
pub largest_cases_hold : AllHold largest_cases
largest_cases_hold = all_hold largest_cases largest_cases_computed

-- the lists of stops
pub stops_hold : AllSame stop_lists
unfolding stop_lists listed_in_gap beta_with own_job stocked ◌⨯◌ listed_cells cell_holds_listed listed back_height
stops_hold = refl ▸ refl ▸ refl ▸ refl ▸ tt

-- the rows of request #106
hours_cases_computed : AllComputed hours_cases
unfolding actions_of passages_in_order single prepend is_better better_of entered_aisles stocked ◌⨯◌ alpha listed holds_listed action_possible action_step passage_step accepts action_at
    passage_at multiplicity length_of plan_length plan_passes in_front_half in_back_half supply serves aisle_length position back_height depot_point distance edges_of
    bounded_best action_length passage_length record_in_bounds stock_in_bounds same_cell line_in_bounds list_in_bounds same_article weight all_stock short_of_stock job_rows
    job_refusal within layout_in_bounds own_job both_once treads_nothing cell_holds_listed listed_cells untrodden part_keeps keeps_largest_gap wrong_stock shared_cell
    nine_lines open_at window_in_bounds window timed seven_at in_aisle_one in_aisle_two overstocked
    RefusedWith hours_cases
hours_cases_computed =
    under_each _ (refl, refl, refl, refl) (refl, refl, refl, refl) (refl, refl, refl, refl) (refl, refl, refl, refl) (refl, refl, refl, refl) (refl, refl, refl, refl)
    ▸ under_each _ (refl, refl, refl, refl) (refl, refl, refl, refl) (refl, refl, refl, refl) (refl, refl, refl, refl) (refl, refl, refl, refl) (refl, refl, refl, refl)
    ▸ (refl, refl, refl, refl)
    ▸ (refl, refl, refl, refl)
    ▸ (refl, refl, refl, refl)
    ▸ (refl, refl, refl, refl)
    ▸ (refl, refl, refl, refl)
    ▸ (refl, refl, refl, refl)
    ▸ (refl, refl, refl, refl)
    ▸ (refl, refl, refl, refl)
    ▸ (refl, refl, refl, refl)
    ▸ (refl, refl, refl, refl)
    ▸ (λ policy. (ShortOfStock, refl, refl))
    ▸ (λ policy. (ShortOfStock, refl, refl))
    ▸ (λ policy. (ShortOfStock, refl, refl))
    ▸ (refl, refl)
    ▸ (refl, refl)
    ▸ (λ policy. (HoursBounds, refl, refl))
    ▸ (λ policy. (HoursBounds, refl, refl))
    ▸ (λ policy. (HoursBounds, refl, refl))
    ▸ (λ policy. (HoursBounds, refl, refl))
    ▸ (refl, refl, refl, refl)
    ▸ (λ policy. (HoursBounds, refl, refl))
    ▸ (λ policy. (HoursBounds, refl, refl))
    ▸ (λ policy. (HoursBounds, refl, refl))
    ▸ (λ policy. (CellTwice, refl, refl))
    ▸ (λ policy. (HoursBounds, refl, refl))
    ▸ (λ policy. (StockBounds, refl, refl))
    ▸ (λ policy. (StockBounds, refl, refl))
    ▸ (λ policy. (CellTwice, refl, refl))
    ▸ tt

-- the table of request #106, the records looked at, and its texts
pub hours_cases_hold : AllHold hours_cases × AllLooked hours_looked × AllSame hours_texts
unfolding hours_looked hours_texts before_list no_job_file window timed seven_at stocked ◌⨯◌ alpha own_job listed_in_gap beta_with listed_cells cell_holds_listed listed
    back_height open_at window_in_bounds with_first first_hold looked_for looked looked_on all_stock short_of_stock record_in_bounds stock_in_bounds same_cell line_in_bounds
    list_in_bounds same_article weight job_rows job_refusal within layout_in_bounds numeral field header section_text layout_text layout_section_text record_text window_text
    line_text job_text is_digit is_number read_field read_header read_policy_as read_policy read_layout read_posts read_record read_window read_minute read_clock read_line
    read_section read_layout_section read_sections read_job answer refused host_answer output
hours_cases_hold = (
  all_hold hours_cases hours_cases_computed,
  refl ▸ refl ▸ refl ▸ tt,
  refl ▸ refl ▸ refl ▸ refl ▸ refl ▸ refl ▸ refl ▸ refl ▸ refl ▸ tt,
)

-- the rows of request #107
door_cases_computed : AllComputed door_cases
unfolding actions_of passages_in_order single prepend is_better better_of entered_aisles stocked ◌⨯◌ listed holds_listed action_possible action_step passage_step accepts action_at
    passage_at multiplicity length_of plan_length plan_passes in_front_half in_back_half supply serves aisle_length position back_height depot_point distance edges_of
    bounded_best action_length passage_length record_in_bounds stock_in_bounds same_cell line_in_bounds list_in_bounds same_article weight all_stock short_of_stock job_rows
    job_refusal within layout_in_bounds own_job treads_nothing door_at wanted_in three_places spare_aisle door_cases
door_cases_computed =
    (refl, refl, refl, refl)
    ▸ (refl, refl, refl, refl)
    ▸ (refl, refl, refl, refl)
    ▸ (refl, refl, refl, refl)
    ▸ (refl, refl, refl, refl)
    ▸ (refl, refl, refl, refl)
    ▸ (refl, refl, refl, refl)
    ▸ (refl, refl, refl, refl)
    ▸ (refl, refl, refl, refl)
    ▸ (refl, refl, refl, refl)
    ▸ (refl, refl, refl, refl)
    ▸ (refl, refl, refl, refl)
    ▸ (refl, refl, refl, refl)
    ▸ (refl, refl, refl, refl)
    ▸ (refl, refl)
    ▸ (refl, refl)
    ▸ (refl, refl)
    ▸ (refl, refl)
    ▸ (refl, refl, refl, refl)
    ▸ tt

-- the table of request #107
pub door_cases_hold : AllHold door_cases
door_cases_hold = all_hold door_cases door_cases_computed

-- the rows of request #108
fewer_cases_computed : AllComputed fewer_cases
unfolding actions_of passages_in_order single prepend is_better better_of entered_aisles stocked ◌⨯◌ listed holds_listed action_possible action_step passage_step accepts action_at
    passage_at multiplicity length_of plan_length plan_passes in_front_half in_back_half supply serves aisle_length position back_height depot_point distance edges_of
    bounded_best action_length passage_length record_in_bounds stock_in_bounds same_cell line_in_bounds list_in_bounds same_article weight all_stock short_of_stock job_rows
    job_refusal within layout_in_bounds own_job treads_nothing cell_holds_listed listed_cells untrodden part_keeps keeps_largest_gap open_at window_in_bounds window timed posted
    fewer_store beside_aisle_one fewer_apart aisle_one_alone past_or_into past_aisle_two fewer_cases
fewer_cases_computed =
    ((refl, refl, refl, refl), record { allowed = refl; serving = refl; length = refl }, record { allowed = refl; serving = refl; length = refl })
    ▸ ((refl, refl, refl, refl), record { allowed = refl; serving = refl; length = refl }, record { allowed = refl; serving = refl; length = refl })
    ▸ ((refl, refl, refl, refl), record { allowed = refl; serving = refl; length = refl }, record { allowed = refl; serving = refl; length = refl })
    ▸ ((refl, refl, refl, refl), record { allowed = refl; serving = refl; length = refl }, record { allowed = refl; serving = refl; length = refl })
    ▸ ((refl, refl, refl, refl), record { allowed = refl; serving = refl; length = refl }, record { allowed = refl; serving = refl; length = refl })
    ▸ ((refl, refl, refl, refl), record { allowed = refl; serving = refl; length = refl }, record { allowed = refl; serving = refl; length = refl })
    ▸ under_each _ (Void ∷ Bottom 1 ∷ Bottom 1 ∷ [], P00 ∷ P02 ∷ [], (refl, refl, refl, refl)) (Void ∷ Bottom 1 ∷ Bottom 1 ∷ [], P00 ∷ P02 ∷ [], (refl, refl, refl, refl))
    (Void ∷ Once ∷ Once ∷ [], P00 ∷ P11 ∷ [], (refl, refl, refl, refl)) (Void ∷ Once ∷ Once ∷ [], P00 ∷ P11 ∷ [], (refl, refl, refl, refl))
    (Void ∷ Bottom 1 ∷ Bottom 1 ∷ [], P00 ∷ P02 ∷ [], (refl, refl, refl, refl)) (Void ∷ Once ∷ Once ∷ [], P00 ∷ P11 ∷ [], (refl, refl, refl, refl))
    ▸ under_each _ (refl, refl) (refl, refl) (refl, refl) (refl, refl) (refl, refl) (refl, refl)
    ▸ ((refl, refl, refl, refl), record { allowed = refl; serving = refl; length = refl }, record { allowed = refl; serving = refl; length = refl })
    ▸ ((refl, refl, refl, refl), record { allowed = refl; serving = refl; length = refl }, record { allowed = refl; serving = refl; length = refl })
    ▸ (refl, refl, refl, refl)
    ▸ (refl, refl, refl, refl)
    ▸ tt

-- the table of request #108
pub fewer_cases_hold : AllHold fewer_cases
fewer_cases_hold = all_hold fewer_cases fewer_cases_computed

-- the rows of request #109
back_cases_computed : AllComputed back_cases
unfolding actions_of passages_in_order single prepend is_better better_of entered_aisles stocked ◌⨯◌ alpha beta steps listed holds_listed action_possible action_step passage_step accepts
    action_at passage_at multiplicity length_of plan_length plan_passes in_front_half in_back_half supply serves aisle_length position back_height depot_point distance edges_of
    bounded_best action_length passage_length record_in_bounds stock_in_bounds same_cell line_in_bounds list_in_bounds same_article weight all_stock short_of_stock job_rows
    job_refusal within layout_in_bounds own_job treads_nothing cell_holds_listed listed_cells untrodden part_keeps keeps_largest_gap open_at window_in_bounds window timed
    without steps_of first_walk same_edge same_point is_crossing can_step step_to step_edge one door_at wanted_in one_each third_cells sided from_behind top_of_two
    midway_cells midway_turned either_way long_behind serving_plans RefusedWith back_cases
back_cases_computed =
    ((refl, refl, refl, refl), record { allowed = refl; serving = refl; length = refl }, record { allowed = refl; serving = refl; length = refl })
    ▸ ((refl, refl, refl, refl), record { allowed = refl; serving = refl; length = refl }, record { allowed = refl; serving = refl; length = refl })
    ▸ ((refl, refl, refl, refl), refl)
    ▸ (refl, refl, refl, refl)
    ▸ (refl, refl, refl, refl)
    ▸ (refl, refl, refl, refl)
    ▸ (refl, refl, refl, refl)
    ▸ (refl, refl, refl, refl)
    ▸ under_each _ (refl, refl, refl, refl) (refl, refl, refl, refl) (refl, refl, refl, refl) (refl, refl, refl, refl) (refl, refl, refl, refl) (refl, refl, refl, refl)
    ▸ (refl, refl, refl, refl)
    ▸ (refl, refl)
    ▸ (refl, refl)
    ▸ (refl, refl)
    ▸ (refl, refl)
    ▸ (refl, refl)
    ▸ (refl, refl)
    ▸ (refl, refl, refl, refl)
    ▸ (refl, refl, refl, refl)
    ▸ under_each _ (refl, refl, refl, refl) (refl, refl, refl, refl) (refl, refl, refl, refl) (refl, refl, refl, refl) (refl, refl, refl, refl) (refl, refl, refl, refl)
    ▸ under_each _ ((refl, refl, refl, refl), refl) ((refl, refl, refl, refl), refl) ((refl, refl, refl, refl), refl)
    ((refl, refl, refl, refl), refl) ((refl, refl, refl, refl), refl) ((refl, refl, refl, refl), refl)
    ▸ (refl, refl, refl, refl)
    ▸ (refl, refl, refl, refl)
    ▸ (λ policy. (LayoutBounds, refl, refl))
    ▸ (λ policy. (LayoutBounds, refl, refl))
    ▸ (λ policy. (LayoutBounds, refl, refl))
    ▸ tt

-- the table of request #109, and its texts
pub back_cases_hold : AllHold back_cases × AllSame back_texts
unfolding back_texts three_lines third_line page_from_behind no_job_file sided from_behind own_job stocked ◌⨯◌ numeral field header layout_text layout_section_text
    is_digit is_number read_field read_header read_policy_as read_policy read_layout read_posts_line read_side_as read_side read_sided_lines read_posts read_record read_line
    read_section read_layout_section read_sections read_job within layout_in_bounds answer refused host_answer output aligned column page_line pick_cell picked_at along_walk
    page_of cells_of lack_of less_of record_at taken passed_records picks_of plan_passes action_at passage_at multiplicity without steps_of first_walk edges_of back_height
    depot_point same_edge same_point is_crossing can_step step_to step_edge one
back_cases_hold = (
  all_hold back_cases back_cases_computed,
  refl ▸ refl ▸ refl ▸ refl ▸ refl ▸ refl ▸ refl ▸ refl ▸ refl ▸ refl ▸ refl ▸ refl ▸ refl ▸ refl ▸ refl ▸ tt,
)

-- the table of request #105, what its program prints, and the numbers that are handed on
pub looked_cases_hold : AllLooked looked_cases × AllSame looked_texts
unfolding looked_cases looked_texts restocked stocked ◌⨯◌ alpha wrong_layout wrong_stock shared_cell shared_article nine_lines eight_lines own_job worked_job
    with_first first_hold looked_for looked looked_on looked_in all_stock short_of_stock record_in_bounds stock_in_bounds same_cell line_in_bounds list_in_bounds
    same_article weight job_rows job_refusal within layout_in_bounds numeral field is_digit is_number read_field read_header read_policy_as read_policy read_layout
    read_posts read_record read_line read_section read_layout_section read_sections read_job
looked_cases_hold = (
  refl ▸ refl ▸ refl ▸ refl ▸ refl ▸ refl ▸ refl ▸ refl ▸ refl ▸ refl ▸ refl ▸ refl ▸ refl ▸ refl ▸ refl ▸ refl ▸ refl ▸ refl ▸ tt,
  refl ▸ refl ▸ refl ▸ refl ▸ refl ▸ tt,
)

-- the texts of words and lines, byte for byte
pub texts_hold : AllSame texts
unfolding texts two_lines counted posted third_cells job_text section_text read_policy_as read_policy read_layout read_posts_line read_side_as read_side read_sided_lines
    read_posts read_record read_line read_section within layout_in_bounds own_job stocked ◌⨯◌ numeral field header layout_text layout_section_text record_text line_text passage_text pick_text
    is_digit is_number read_field read_header read_layout_section read_sections read_job answer refused host_answer output from_the_back page_from_the_back one_each
    aligned column page_line pick_cell picked_at along_walk page_of cells_of lack_of less_of record_at taken passed_records picks_of plan_passes action_at passage_at
    multiplicity without steps_of first_walk edges_of back_height depot_point same_edge same_point is_crossing can_step step_to step_edge one page_refused page_table
    page_answer host_page_answer page_output
texts_hold =
    refl ▸ refl ▸ refl ▸ refl ▸ refl ▸ refl ▸ refl ▸ refl ▸ refl ▸ refl ▸ refl ▸ refl ▸ refl ▸ refl ▸ refl ▸ refl ▸ refl ▸ refl ▸ refl ▸ refl ▸ refl ▸ refl ▸ refl ▸ refl ▸ refl ▸ refl ▸ tt

-- a sheet space of 69 bytes is too short for the worked sheet: 9, and the work area is all zero
pub short_space : CallGives (replicate 69 0) (replicate 32768 1) 9 0
unfolding serving_plans cleared refused served answer host_answer output actions_of passages_in_order single prepend is_better better_of entered_aisles empty_plan best_plan worked_job without steps_of first_walk numeral field header section_text is_digit is_number read_field read_header read_policy_as read_policy read_layout read_posts read_record read_line read_section read_layout_section read_sections read_job listed holds_listed action_possible action_step passage_step accepts cells_of lack_of less_of record_at taken passed_records picks_of action_at passage_at multiplicity length_of plan_length plan_passes in_front_half in_back_half record_in_bounds stock_in_bounds same_cell line_in_bounds list_in_bounds same_article weight all_stock short_of_stock job_rows job_refusal supply serves total_text passage_text pick_text run_text sheet_of sheet_text aisle_length position back_height depot_point distance edges_of within layout_in_bounds same_edge same_point is_crossing can_step step_to step_edge one
short_space = record { its_number = refl; its_work = refl }

-- a work area of 32,767 numbers is too small: 10, and it is left as it was
pub small_area : CallGives (replicate 69 0) (replicate 32767 1) 10 1
unfolding answer refused
small_area = record { its_number = refl; its_work = refl }

-- a job file of 16,384 bytes is read to its end: its records are too many; with a byte more it is not a job file
pub longest_file : FileEnds (overfull 2042 1) 16384 StockBounds
unfolding numeral field header section_text is_digit is_number read_field read_header read_policy_as read_policy read_layout read_posts read_record read_line read_section read_layout_section read_sections read_job check_job check_bytes record_in_bounds stock_in_bounds same_cell line_in_bounds list_in_bounds same_article weight all_stock short_of_stock job_rows job_refusal within layout_in_bounds stocked ◌⨯◌ alpha overfull job_text layout_section_text layout_text record_text line_text
longest_file = record { bytes = refl; ends = refl }

pub longer_file : FileEnds (overfull 2041 2) 16385 NotAJobFile
unfolding numeral field header section_text is_digit is_number read_field read_header read_policy_as read_policy read_layout read_posts read_record read_line read_section read_layout_section read_sections read_job check_job check_bytes record_in_bounds stock_in_bounds same_cell line_in_bounds list_in_bounds same_article weight all_stock short_of_stock job_rows job_refusal within layout_in_bounds stocked ◌⨯◌ alpha overfull job_text layout_section_text layout_text record_text line_text
longer_file = record { bytes = refl; ends = refl }

-- the worked example, byte for byte
pub worked_example : output worked_job ≡ worked_sheet
unfolding serving_plans cleared refused served answer host_answer output actions_of passages_in_order single prepend is_better better_of entered_aisles empty_plan best_plan worked_job without steps_of first_walk numeral field header section_text is_digit is_number read_field read_header read_policy_as read_policy read_layout read_posts read_record read_line read_section read_layout_section read_sections read_job listed holds_listed action_possible action_step passage_step accepts cells_of lack_of less_of record_at taken passed_records picks_of action_at passage_at multiplicity length_of plan_length plan_passes in_front_half in_back_half record_in_bounds stock_in_bounds same_cell line_in_bounds list_in_bounds same_article weight all_stock short_of_stock job_rows job_refusal supply serves total_text passage_text pick_text run_text sheet_of sheet_text aisle_length position back_height depot_point distance edges_of within layout_in_bounds same_edge same_point is_crossing can_step step_to step_edge one worked_sheet
worked_example = refl

-- its page; a page space of 24 bytes is too short for it: 11, and the work area is all zero; where the sheet space of 69 bytes is too short
-- as well, 9
pub page_calls : (page_output worked_job ≡ worked_page) × PageCallGives (replicate 70 0) (replicate 24 0) 11 0 × PageCallGives (replicate 69 0) (replicate 24 0) 9 0
unfolding serving_plans cleared refused served answer host_answer output actions_of passages_in_order single prepend is_better better_of entered_aisles empty_plan best_plan worked_job without
    steps_of first_walk numeral field header section_text is_digit is_number read_field read_header read_policy_as read_policy read_layout read_posts read_record
    read_line read_section read_layout_section read_sections read_job listed holds_listed action_possible action_step passage_step accepts cells_of lack_of less_of
    record_at taken passed_records picks_of action_at passage_at multiplicity length_of plan_length plan_passes in_front_half in_back_half record_in_bounds
    stock_in_bounds same_cell line_in_bounds list_in_bounds same_article weight all_stock short_of_stock job_rows job_refusal supply serves total_text passage_text
    pick_text run_text sheet_of sheet_text aisle_length position back_height depot_point distance edges_of within layout_in_bounds same_edge same_point is_crossing
    can_step step_to step_edge one aligned column page_line pick_cell picked_at along_walk page_of page_text page_refused page_served page_table page_answer
    host_page_answer page_output worked_page
page_calls = (refl, record { its_number = refl; its_work = refl }, record { its_number = refl; its_work = refl })
