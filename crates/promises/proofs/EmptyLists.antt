-- A ward with nothing to fetch: what the policy allows for an empty list, that no refusal of the list applies to it, and its sheet.
use Prim.Native.Nat.{ℕ, ◌-◌, ◌≤◌, ◌<◌}
use native.Mathlib.Omega.{arith}
use mathlib.Core.Path.{◌≡◌, refl, sym, ◌∙◌, ap, subst}
use mathlib.Core.Logic.{◌⊎◌, inl, inr, ◌↔◌}
use mathlib.Core.List.Memᴰ
use mathlib.Core.List.{List, [], ◌++◌, append-nil, Memᴰ}
use mathlib.Core.Option.{some}
use mathlib.Core.Bool.{true}
use lib.ListN.{length, drop, length-replicate}
use Rattle.rules.specs.declared.OrderLine.{OrderLine}
use Rattle.rules.specs.declared.Action.TheVariants.{Void}
use Rattle.rules.specs.declared.Passage.TheVariants.{P00}
use Rattle.rules.specs.declared.Policy.{Policy}
use Rattle.rules.specs.declared.Policy.TheVariants.{Exact, Return, Traversal, Midpoint, Composite, Largest}
use Rattle.rules.specs.declared.Refusal.{Refusal}
use Rattle.rules.specs.declared.Refusal.TheVariants.{WorkArea, NotAJobFile, LayoutBounds, StockBounds, CellTwice, HoursBounds, ListBounds, ArticleTwice, TooHeavy, ShortOfStock, SheetSpace, PageSpace}
use Rattle.std.specs.declared.result.Result.TheVariants.{Ok}
use Rattle.rules.specs.Store.{layout_in_bounds}
use Rattle.rules.specs.Jobs.{Job}
use Rattle.rules.specs.JobFile.{numeral, field, header, layout_text, layout_section_text, record_text, line_text, section_text, job_text}
use Rattle.rules.specs.JobFile.{is_digit, is_number, read_field, read_header, read_policy_as, read_policy, read_layout, read_posts, read_record, read_line, read_section, read_layout_section, read_sections, read_job}
use Rattle.rules.specs.Plans.{Plan, plan_length}
use Rattle.rules.specs.Lawful.{Lawful, LawfulFor}
use Rattle.rules.specs.Policies.{Follows, ShutVoid, Allowed}
use Rattle.rules.specs.FirstWalk.{first_walk}
use Rattle.rules.specs.BestPlan.{empty_plan, best_plan}
use Rattle.rules.specs.Refusals.{weight, work_limit, cleared}
use Rattle.rules.specs.Sheet.{letter_p, letter_w, sheet_of, sheet_text}
use Rattle.rules.specs.Answers.{sheet_limit, answer}
use Rattle.rules.specs.Examples.{stocked, alpha, cases}
use Rattle.rules.proofs.Admission.{admitted}
use Rattle.rules.proofs.Cases.{cases_hold}
use Rattle.rules.proofs.EmptyPlan.{one_empty_plan, empty_length, empty_walk}
use Rattle.rules.proofs.EmptyList.{lawful_for, lawful_with_lines, empty_allowed, empty_picks, best_empty}
use Rattle.tours.proofs.Basics.{split_at}
use Rattle.planner.proofs.Space.{sheet_suffices}
use Rattle.promises.specs.Causes.{JobFileOf, TwoAlike, here, later, SameArticle, LineOutOfStock, Cause, table_row}
use Rattle.promises.specs.Contents.{Content, content_of}
use Rattle.promises.specs.Calls.{Shows}
use Rattle.promises.specs.EmptyLists.{NothingToFetch, empty_sheet, ShowsNothing}
use Rattle.promises.proofs.Table.{job_file_read, NoCause, served_for, served_admitted, admitted_served}
use Rattle.promises.proofs.Shown.{best_obeys, shown_best}

-- a list with lines: the lawful plans that follow the policy and keep out of shut aisles, as ever
pub lines_keep_plans : (job : Job) (plan : Plan) → (job.lines ≡ [] → ⊥)
    → Allowed job plan ↔ (Lawful job.layout plan × Follows job.policy job plan × ShutVoid job.hours plan)
lines_keep_plans job plan some_line = (
  λ a. (lawful_with_lines job.layout job.lines plan some_line a.lawful, a.follows, a.shut),
  λ l. record { lawful = lawful_for job.layout job.lines plan l.0; follows = l.1; shut = l.2 },
)

-- an empty list: these, and the plan that treads nothing
pub empty_adds_one : (job : Job) (plan : Plan) → job.lines ≡ [] → 1 ≤ job.layout.aisles
    → Allowed job plan ↔ ((Lawful job.layout plan × Follows job.policy job plan × ShutVoid job.hours plan) ⊎ (plan ≡ empty_plan job.layout))
empty_adds_one job plan no_line some_aisle = (
  λ a. split (a.follows, a.shut) (subst (λ lines. LawfulFor job.layout lines plan) no_line a.lawful),
  allowed,
)
  where
    split : Follows job.policy job plan × ShutVoid job.hours plan → LawfulFor job.layout [] plan
        → (Lawful job.layout plan × Follows job.policy job plan × ShutVoid job.hours plan) ⊎ (plan ≡ empty_plan job.layout)
    split f (inl law) = inl (law, f.0, f.1)
    split f (inr idle) = inr (one_empty_plan job.layout plan idle)

    allowed : (Lawful job.layout plan × Follows job.policy job plan × ShutVoid job.hours plan) ⊎ (plan ≡ empty_plan job.layout) → Allowed job plan
    allowed (inl l) = record { lawful = lawful_for job.layout job.lines plan l.0; follows = l.1; shut = l.2 }
    allowed (inr e) = subst (Allowed job) (sym e) (empty_allowed job no_line some_aisle)

-- no two lines of an empty list are alike
none_alike : {lines : List OrderLine} → TwoAlike SameArticle lines → lines ≡ [] → ⊥
none_alike (here m alike) e = let z : ◌≡◌ {A = ℕ} 0 1 = cc in omega arith
none_alike (later t) e = let z : ◌≡◌ {A = ℕ} 0 1 = cc in omega arith

module _ (bytes sheet work : List ℕ) (job : Job) (file : JobFileOf bytes job) (no_line : job.lines ≡ []) where
  -- the job of the file has no line
  none_in : (other : Job) → JobFileOf bytes other → other.lines ≡ []
  none_in other f =
      let e = (job_file_read bytes job).1 file in
      let g = (job_file_read bytes other).1 f in
      let same : job ≡ other = cc in
      ap (λ (j : Job). j.lines) (sym same) ∙ no_line

  none_listed : (other : Job) → JobFileOf bytes other → (l : OrderLine) → Memᴰ l other.lines → ⊥
  none_listed other f l m = Memᴰ.not-nil (subst (λ lines. Memᴰ l lines) (none_in other f) m)

  -- none of the refusals 5 to 8 applies
  pub no_list_cause : (r : Refusal) → table_row ListBounds ≤ table_row r → table_row r < table_row SheetSpace → Cause r bytes sheet work → ⊥
  unfolding LineOutOfStock weight
  no_list_cause WorkArea low high c = absurd (omega arith)
  no_list_cause NotAJobFile low high c = absurd (omega arith)
  no_list_cause LayoutBounds low high c = absurd (omega arith)
  no_list_cause StockBounds low high c = absurd (omega arith)
  no_list_cause CellTwice low high c = absurd (omega arith)
  no_list_cause HoursBounds low high c = absurd (omega arith)
  no_list_cause ListBounds low high (other, f, out) =
      out (record { count = rw (none_in other f) (omega arith); lines = λ l m. absurd (none_listed other f l m) })
  no_list_cause ArticleTwice low high (other, f, twice) = none_alike twice (none_in other f)
  no_list_cause TooHeavy low high (other, f, heavy) = let one = ap weight (none_in other f) in omega arith
  no_list_cause ShortOfStock low high (other, f, line) = none_listed other f line.0 line.1
  no_list_cause SheetSpace low high c = absurd (omega arith)
  no_list_cause PageSpace low high c = absurd (omega arith)

-- the sheet of an empty list
pub empty_sheet_lem : (job : Job) → layout_in_bounds job.layout ≡ true → job.lines ≡ [] → sheet_text job ≡ empty_sheet job
unfolding sheet_text sheet_of empty_sheet section_text empty_plan
empty_sheet_lem job bounds no_line =
    let z = job.layout in
    let idle = empty_plan z in
    ap (sheet_of job) (best_empty job no_line bounds)
    ∙ rw (
      empty_length z,
      empty_picks job no_line idle,
      empty_walk z,
      length-replicate z.aisles Void,
      length-replicate (z.aisles - 1) P00,
      append-nil (header letter_p 0),
      append-nil (header letter_w 0),
    )

module _ (bytes sheet work : List ℕ) (job : Job) (f : NothingToFetch bytes sheet work job) where
  -- so no refusal applies
  none_applies : NoCause bytes sheet work
  none_applies r c = go (split_at (table_row r) (table_row ListBounds)) (split_at (table_row ListBounds) (table_row r))
    where
      other : (table_row r ≡ table_row ListBounds → ⊥) → ⊥
      other d = f.no_other r (λ e. d (ap table_row e)) c

      go : (table_row r < table_row ListBounds) ⊎ (table_row ListBounds ≤ table_row r) → (table_row ListBounds < table_row r) ⊎ (table_row r ≤ table_row ListBounds) → ⊥
      go (inl l) q = other (λ e. omega arith)
      go (inr l) (inl h) = other (λ e. omega arith)
      go (inr l) (inr h) = no_list_cause bytes sheet work job f.file f.no_line r l (omega arith) c

  -- and the call is served with that sheet
  pub empty_served : answer bytes sheet work
      ≡ record { reply = Ok (length (empty_sheet job)); sheet = empty_sheet job ++ drop (length (empty_sheet job)) sheet; work = cleared work }
  empty_served =
      let (other, read, t) = served_for bytes sheet work none_applies in
      let own = (job_file_read bytes job).1 f.file in
      let same : other ≡ job = cc in
      let bounds = (served_admitted bytes sheet work none_applies job own).0.layout in
      let text = ap sheet_text same ∙ empty_sheet_lem job bounds f.no_line in
      t ∙ ap (λ bytes. record { reply = Ok (length bytes); sheet = bytes ++ drop (length bytes) sheet; work = cleared work }) text

-- the job of case 14: it is read, and no refusal applies to it in space enough
abbrev none_of_alpha : Policy → Job
none_of_alpha = alpha []

none_read : (policy : Policy) → read_job (job_text (none_of_alpha policy)) ≡ some (none_of_alpha policy)
unfolding stocked alpha job_text layout_section_text numeral field header layout_text record_text line_text section_text is_digit is_number read_field read_header read_policy_as read_policy read_layout read_posts read_record read_line read_section read_layout_section read_sections read_job
none_read Exact = refl
none_read Return = refl
none_read Traversal = refl
none_read Midpoint = refl
none_read Composite = refl
none_read Largest = refl

pub nothing_to_fetch : (policy : Policy) (sheet work : List ℕ) → sheet_limit ≤ length sheet → work_limit ≤ length work
    → NothingToFetch (job_text (none_of_alpha policy)) sheet work (none_of_alpha policy)
unfolding alpha cases
nothing_to_fetch policy sheet work space numbers =
    let job = none_of_alpha policy in
    let read = none_read policy in
    let case14 = cases_hold.1.1.1.1.1.1.1.1.1.1.1.1.1.0 policy in
    let a = (admitted job).0 case14.0.admitted in
    let none_applies = admitted_served (job_text job) sheet work job read a numbers (omega (arith, sheet_suffices job a)) in
    record { file = (job_file_read (job_text job) job).0 read; no_line = refl; no_other = λ r other c. none_applies r c }

-- what it shows
pub empty_shown : (bytes sheet work : List ℕ) (job : Job) (c : Content) → Shows bytes sheet work job c → job.lines ≡ [] → ShowsNothing job c
unfolding content_of
empty_shown bytes sheet work job c s no_line =
    let z = job.layout in
    let t = shown_best bytes sheet work job c s in
    let plan = best_empty job no_line t.0.layout in
    subst (ShowsNothing job) t.1
    (record {
      length = ap (plan_length z) plan ∙ empty_length z;
      plan = plan;
      no_picks = empty_picks job no_line (best_plan job);
      no_step = ap (first_walk z) plan ∙ empty_walk z;
      walked = (best_obeys job t.0).walk_of_plan;
    })
