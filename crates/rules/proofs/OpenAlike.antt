-- Two jobs in one store, under one policy and with one list, of which the same stock counts and the same aisles may be entered (#106): they
-- have the same plans, sheets and pages, and where the tests of stock and hours agree too, the same answers.
use Prim.Native.Nat.{ℕ, suc}
use mathlib.Core.Path.{◌≡◌, refl, ◌∙◌, ap, ap₂, fun_ext}
use mathlib.Core.List.{List, [], ◌∷◌, ◌++◌, tail}
use mathlib.Core.Option.{Option, none, some, get_or}
use mathlib.Core.Bool.{Bool, cond, not, ◌&&◌, ◌||◌}
use lib.Dec.{leb, ltb, eqb}
use lib.ListN.{length, drop}
use Rattle.rules.specs.declared.Side.TheVariants.{FrontSide}
use Rattle.rules.specs.declared.Policy.{Policy}
use Rattle.rules.specs.declared.Policy.TheVariants.{Exact, Return, Traversal, Midpoint, Composite, Largest}
use Rattle.rules.specs.declared.Action.{Action}
use Rattle.rules.specs.declared.Passage.{Passage}
use Rattle.rules.specs.declared.Passage.TheVariants.{P00}
use Rattle.rules.specs.declared.StockRecord.{StockRecord}
use Rattle.rules.specs.declared.OrderLine.{OrderLine}
use Rattle.rules.specs.declared.Refusal.{Refusal}
use Rattle.rules.specs.declared.Refusal.TheVariants.{PageSpace}
use Rattle.std.specs.declared.result.Result.TheVariants.{Ok}
use Rattle.rules.specs.Turned.{seen}
use Rattle.rules.specs.Lists.{from, concat_of, sum_of, all_of, any_of, any_two, select, head_or}
use Rattle.rules.specs.Store.{Point, position, back_height}
use Rattle.rules.specs.Hours.{Hours, hours_in_bounds}
use Rattle.rules.specs.Jobs.{Job, empty_list, job_with_stock, job_with_hours, open_stock, listed, cell_holds_listed}
use Rattle.rules.specs.Plans.{Plan, plan_length, plan_passes}
use Rattle.rules.specs.Policies.{Part, from_front, from_back, part_passes, parts_of, listed_cells, untrodden, through}
use Rattle.rules.specs.Machine.{State, policy_by, enterable, action_possible, action_step, passage_step, run_from, is_closed, is_void, treads_nothing, accepts, nothing, dead}
use Rattle.rules.specs.Machine.{stops_within, part_keeps, keeps_largest_gap, between_test}
use Rattle.rules.specs.Policies.{entered_aisles, action_named, walk_back_end}
use Rattle.rules.specs.Serving.{supply, serves}
use Rattle.rules.specs.BestPlan.{plans_of, is_better, first_best, serving_plans, empty_plan, best_plan}
use Rattle.rules.specs.Picks.{cells_of, record_at, found, picks_from, passed_records, picks_of}
use Rattle.rules.specs.Sheet.{sheet_of, sheet_text}
use Rattle.rules.specs.Page.{page_of, page_text}
use Rattle.rules.specs.Refusals.{same_cell, stock_in_bounds, list_in_bounds, all_stock, short_of_stock, table, page_table, cleared, first_row}
use Rattle.rules.specs.Answers.{served, decided}
use Rattle.rules.specs.PageAnswers.{PageAnswer, page_served, page_decided}

module _ (job : Job) (stock : List StockRecord) (hours : Hours) where
  -- the job with that stock and these hours
  abbrev pub changed : Job
  changed = job_with_stock stock (job_with_hours hours job)

  -- the same stock counts, and the same aisles may be entered
  pub record Alike : Type 0 where
    pub counts : open_stock changed ≡ open_stock job
    pub enters : (j : ℕ) → enterable changed j ≡ enterable job j

  module _ (alike : Alike) where
    -- the same cells hold listed articles
    same_cells : cell_holds_listed changed ≡ cell_holds_listed job
    unfolding cell_holds_listed listed
    same_cells =
        fun_ext (λ j. fun_ext (λ c.
        ap (any_of (λ (r : StockRecord). eqb r.aisle j && eqb r.cell c && listed job r.article)) alike.counts))

    -- so the stops are the same, and LARGEST asks the same
    same_part : (j n : ℕ) (part : Part) → part_keeps changed j n part ≡ part_keeps job j n part
    unfolding part_keeps listed_cells
    same_part j n (from_front i) =
        let cells = from 1 job.layout.cells in
        let at = position job.layout in
        ap (λ holds. holds j i && stops_within at n (0 ∷ select (λ c. part_passes (from_front i) c && holds j c) cells)) same_cells
    same_part j n (from_back i) =
        let cells = from 1 job.layout.cells in
        let at = position job.layout in
        let end = back_height job.layout ∷ [] in
        ap (λ holds. holds j i && stops_within at n (select (λ c. part_passes (from_back i) c && holds j c) cells ++ end)) same_cells

    same_largest : (j : ℕ) (a : Action) → keeps_largest_gap changed j a ≡ keeps_largest_gap job j a
    unfolding keeps_largest_gap
    same_largest j a =
        ap (λ keeps. not (through a) && all_of keeps (parts_of a)) (fun_ext (same_part j (untrodden job.layout j a)))

    same_between : (policy : Policy) (j : ℕ) (a : Action) → between_test policy changed j a ≡ between_test policy job j a
    same_between Exact j a = refl
    same_between Return j a = refl
    same_between Traversal j a = refl
    same_between Midpoint j a = refl
    same_between Composite j a = refl
    same_between Largest j a = same_largest j a

    -- the machine goes through the same states
    same_step : (j : ℕ) (a : Action) (s : State) → action_step changed j a s ≡ action_step job j a s
    unfolding action_step action_possible
    same_step j a s =
        ap₂ (λ enter between. cond (action_named FrontSide job.policy (seen job.layout a) && (is_void a || enter)) (policy_by job.policy (walk_back_end job.layout) between (seen job.layout a) s) dead)
        (alike.enters j) (same_between job.policy j a)

    same_run : (actions : List Action) (passages : List Passage) (j : ℕ) (s : State) → run_from changed j s actions passages ≡ run_from job j s actions passages
    unfolding passage_step
    same_run [] passages j s = refl
    same_run (a ∷ actions) passages j s =
        same_run actions (tail passages) (suc j) (passage_step changed j (head_or P00 passages) (action_step changed j a s))
        ∙ ap (λ t. run_from job (suc j) (passage_step job j (head_or P00 passages) t) actions (tail passages)) (same_step j a s)

    -- so the same plans are accepted, and the same serve the list
    same_accepts : accepts changed ≡ accepts job
    unfolding accepts
    same_accepts =
        fun_ext (λ plan. ap (λ s. (empty_list job.lines && treads_nothing plan) || is_closed s) (same_run plan.actions plan.passages 1 nothing))

    same_serves : serves changed ≡ serves job
    unfolding serves
    same_serves =
        ap (λ counted passes. all_of (λ (l : OrderLine). leb l.quantity (supply passes counted l.article)) job.lines) alike.counts

    same_plans : serving_plans changed ≡ serving_plans job
    unfolding serving_plans
    same_plans =
        let plans = plans_of job.layout.cells job.layout.aisles in
        ap₂ (λ allows serve. select (λ plan. allows plan && serve (plan_passes plan)) plans) same_accepts same_serves

    -- the best plan is the same
    pub same_best : best_plan changed ≡ best_plan job
    unfolding best_plan
    same_best = ap (λ plans. get_or (first_best (is_better (plan_length job.layout) entered_aisles) plans) (empty_plan job.layout)) same_plans

    -- the picks of a plan are the same
    same_picks : (plan : Plan) → picks_of changed plan ≡ picks_of job plan
    unfolding picks_of passed_records
    same_picks plan =
        let cells = cells_of job.layout in
        let at : List StockRecord → Point → List StockRecord
        = λ counted x. found (plan_passes plan x.aisle x.height) (record_at counted x) in
        ap (λ counted. picks_from job.lines (concat_of (at counted) cells)) alike.counts

    -- and so are sheet and page
    pub same_sheet : sheet_text changed ≡ sheet_text job
    unfolding sheet_text sheet_of
    same_sheet = ap (sheet_of changed) same_best ∙ rw (same_picks (best_plan job)) refl

    pub same_page : page_text changed ≡ page_text job
    unfolding page_text page_of
    same_page = ap (page_of changed) same_best ∙ rw (same_picks (best_plan job)) refl

    -- the same stock of each article, so the same lines are short
    same_short : short_of_stock changed ≡ short_of_stock job
    unfolding short_of_stock all_stock
    same_short =
        ap (λ counted. any_of (λ (l : OrderLine). ltb (sum_of (λ (r : StockRecord). cond (eqb r.article l.article) r.quantity 0) counted) l.quantity) job.lines)
        alike.counts

    module _ (bounds : stock_in_bounds changed ≡ stock_in_bounds job) (twice : any_two same_cell stock ≡ any_two same_cell job.stock)
        (timely : hours_in_bounds job.layout.aisles hours ≡ hours_in_bounds job.layout.aisles job.hours) where
      -- the rows of the table are the same
      pub same_rows : (sheet work : List ℕ) → table (some changed) sheet work ≡ table (some job) sheet work
      unfolding list_in_bounds
      same_rows sheet work = rw (bounds, twice, timely, same_short, same_sheet) refl

      same_page_rows : (sheet page work : List ℕ) → page_table (some changed) sheet page work ≡ page_table (some job) sheet page work
      unfolding page_table
      same_page_rows sheet page work =
          let last : List ℕ → List (Bool × Refusal) = λ text. (ltb (length page) (length text), PageSpace) ∷ [] in
          ap₂ (λ rows text. rows ++ last text) (same_rows sheet work) same_page

      -- and so is the whole answer
      pub same_answer : (sheet work : List ℕ)
          → decided (first_row (table (some changed) sheet work)) (some changed) sheet work ≡ decided (first_row (table (some job) sheet work)) (some job) sheet work
      unfolding served
      same_answer sheet work =
          ap (λ t. decided (first_row t) (some changed) sheet work) (same_rows sheet work) ∙ go (first_row (table (some job) sheet work))
        where
          go : (r : Option Refusal) → decided r (some changed) sheet work ≡ decided r (some job) sheet work
          go (some r) = refl
          go none = ap (λ text. record { reply = Ok (length text); sheet = text ++ drop (length text) sheet; work = cleared work }) same_sheet

      -- that of a page call too
      pub same_page_answer : (sheet page work : List ℕ)
          → page_decided (first_row (page_table (some changed) sheet page work)) (some changed) sheet page work
          ≡ page_decided (first_row (page_table (some job) sheet page work)) (some job) sheet page work
      unfolding served page_served
      same_page_answer sheet page work =
          ap (λ t. page_decided (first_row t) (some changed) sheet page work) (same_page_rows sheet page work)
          ∙ go (first_row (page_table (some job) sheet page work))
        where
          call : List ℕ → List ℕ → PageAnswer
          call text lines =
              record {
                call = record { reply = Ok (length text); sheet = text ++ drop (length text) sheet; work = cleared work };
                count = length lines;
                page = lines ++ drop (length lines) page;
              }

          go : (r : Option Refusal) → page_decided r (some changed) sheet page work ≡ page_decided r (some job) sheet page work
          go (some r) = refl
          go none = ap₂ call same_sheet same_page
