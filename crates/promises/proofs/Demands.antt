-- What is promised of every call. A reader starts here: the three demands as theorems, each under the user's own sentence, and what
-- later requests promise beyond them, each under the request's.
-- `answer bytes sheet work` (rules/specs/Answers) is what the library call gives on the bytes of a job file, a lent sheet and a
-- lent work area: the reply, and what sheet and work area hold after it. The public contracts are equations with it, and with
-- `page_answer` (rules/specs/PageAnswers) where a page is lent too.
-- The words of the statements are in specs/: the causes of the table (Causes), what a sheet says (Contents), what calls give (Calls),
-- and of the requests #101 (EmptyLists), #102 (Uprights), #103 (Pages), #105 (StockTests), #106 (OpeningHours), #107 (Doors) and #108 (FewerAisles).
-- Request #104 has its words in rules/specs/Policies.
use Prim.Native.Nat.{ℕ, ◌+◌, ◌*◌, ◌-◌, ◌/◌, ◌%◌, ◌≤◌, ◌<◌}
use mathlib.Core.Path.{◌≡◌, refl, sym, ◌∙◌, ap, subst}
use mathlib.Core.Logic.{◌⊎◌, ◌↔◌}
use mathlib.Core.List.{List, [], ◌∷◌, ◌++◌}
use mathlib.Core.Bool.{true}
use mathlib.Core.Option.{some}
use lib.ListN.{length, take, drop}
use Rattle.rules.specs.declared.Layout.{Layout}
use Rattle.rules.specs.declared.Policy.{Policy}
use Rattle.rules.specs.declared.Policy.TheVariants.{Exact, Traversal, Midpoint, Composite, Largest}
use Rattle.rules.specs.declared.Action.TheVariants.{Void, Bottom, Once}
use Rattle.rules.specs.declared.Passage.TheVariants.{P00, P02}
use Rattle.rules.specs.declared.Side.TheVariants.{FrontSide, BackSide}
use Rattle.rules.specs.declared.Posts.{Posts}
use Rattle.rules.specs.declared.Posts.TheVariants.{NoPosts, Every, Sided}
use Rattle.rules.specs.declared.OrderLine.{OrderLine}
use Rattle.rules.specs.declared.Pick.{Pick}
use Rattle.rules.specs.declared.Refusal.{Refusal}
use Rattle.rules.specs.declared.Refusal.TheVariants.{WorkArea, ListBounds, ShortOfStock, SheetSpace, PageSpace}
use Rattle.std.specs.declared.result.Result.TheVariants.{Ok, Err}
use Rattle.rules.specs.Store.{WithoutPosts, side_of, aisle_length, position, Edge, InStore, layout_in_bounds}
use Rattle.rules.specs.Hours.{Hours, NoHours}
use Rattle.rules.specs.Jobs.{Job, job_with_posts, job_under, job_with_hours}
use Rattle.rules.specs.JobFile.{line_feed, header, field, job_text, job_file_limit}
use Rattle.rules.specs.Plans.{Plan, action_at, plan_length}
use Rattle.rules.specs.Lawful.{Lawful}
use Rattle.rules.specs.Walks.{Walk, ClosedWalk, KeepsToOpen, walk_treads}
use Rattle.rules.specs.Picks.{picks_of}
use Rattle.rules.specs.BestPlan.{PlanBefore, empty_plan, BestAmong, IsBest, best_plan}
use Rattle.rules.specs.Refusals.{number_of, work_limit, cleared, Admitted}
use Rattle.rules.specs.Looked.{looked_for, looked, looked_in}
use Rattle.rules.specs.Sheet.{sheet_text}
use Rattle.rules.specs.Answers.{answer, host_answer, sheet_limit, letter_r, output}
use Rattle.rules.specs.PageAnswers.{page_answer, host_page_answer, page_limit, page_output}
use Rattle.rules.specs.Policies.{entered_aisles, Entered, First, Last, WalkedFrom, WalkedBack, in_front_half, in_back_half, Follows, ShutVoid, Allowed}
use Rattle.rules.specs.Serving.{PlanServes}
use Rattle.rules.specs.Examples.{◌⨯◌, alpha, AllHold, AllSame, cases, own_cases, four_between, largest_cases, stop_lists, worked_job, worked_page}
use Rattle.rules.specs.Examples.{AllLooked, looked_cases, looked_texts, seven_at, hours_cases, hours_looked, hours_texts, HasTour, door_at, door_cases, fewer_store, fewer_cases}
use Rattle.rules.specs.Examples.{midway_cells, midway_turned, back_cases, back_texts}
use Rattle.rules.specs.Turned.{turned_plan}
use Rattle.rules.proofs.Cases as Cases
use Rattle.mirror.specs.Turned.{TurnedStore, turned_into}
use Rattle.mirror.proofs.Best as Mirrored
use Rattle.closedwalks.proofs.Statements.{walk_reads_open, plain_keeps, plan_determined}
use Rattle.promises.specs.Causes.{JobFileOf, LineOutOfStock, OfJob, Cause, table_row, FirstCause}
use Rattle.promises.specs.Contents.{Content}
use Rattle.promises.specs.Calls.{RefusedCall, ServedCall, Shows, Obeys, Shortest, TreadsAs, host_work, host_gets, HostCall, PrintsSheet, PrintsRefusal}
use Rattle.promises.specs.EmptyLists.{NothingToFetch, empty_sheet, ShowsNothing}
use Rattle.promises.specs.Uprights.{SecondLine, PostsOfNothing}
use Rattle.promises.specs.Pages.{PageCause, FirstPageCause, RefusedPageCall, ServedPageCall, AlongTheWalk, ShowsPage, HostPageCall, PrintsPage, PrintsPageRefusal}
use Rattle.promises.specs.OpeningHours.{SameAnswers, AllOpen, shut_gone, PassesToHours}
use Rattle.promises.specs.Doors.{AllowedBefore}
use Rattle.promises.specs.FewerAisles.{best_before}
use Rattle.promises.specs.StockTests.{InStock, LineShort, LeastHolding, AddedUp, LookedBounds}
use Rattle.promises.proofs.EmptyLists
use Rattle.promises.proofs.Uprights
use Rattle.promises.proofs.LargestGap
use Rattle.promises.proofs.StockTest
use Rattle.promises.proofs.OpeningHours
use Rattle.promises.proofs.Doors.{last_walked_back}
use Rattle.promises.proofs.Doors
use Rattle.promises.proofs.FewerAisles
use Rattle.promises.proofs.BackDepot
use Rattle.promises.proofs.PageCalls
use Rattle.promises.proofs.Clipboard
use Rattle.promises.proofs.PageHost
use Rattle.promises.proofs.Entering.{one_nine, through_aisle_one, entering_serves, entering_exact, entering_others}
use Rattle.promises.proofs.Table.{job_file_read, refused_for, refused_by, served_for, served_by}
use Rattle.promises.proofs.Shown.{refused_call, served_call, best, best_obeys, best_shortest, shown, shown_best}
use Rattle.promises.proofs.PickRule
use Rattle.promises.proofs.Varied
use Rattle.promises.proofs.Host
use Rattle.promises.proofs.Program

pub record Demand1 (bytes sheet work : List ℕ) : Type 0 where
  -- a call is refused with a refusal exactly if that is the first of the table that applies
  pub refusal : (r : Refusal) → ((answer bytes sheet work).reply ≡ Err r) ↔ FirstCause r bytes sheet work
  pub refused : (r : Refusal) → (answer bytes sheet work).reply ≡ Err r → RefusedCall r sheet work (answer bytes sheet work)
  -- a call is served exactly if none of the table applies
  pub serving : ((n : ℕ) × ((answer bytes sheet work).reply ≡ Ok n)) ↔ ((r : Refusal) → Cause r bytes sheet work → ⊥)
  pub served : (n : ℕ) → (answer bytes sheet work).reply ≡ Ok n → OfJob bytes (λ job. ServedCall job sheet work (answer bytes sheet work))

-- "If a job is malformed, out of range, too heavy or short of stock, or lent space is too small, the call ends with the refusal
-- of the table, the first that applies, and the sheet space is untouched. Every other job gets a sheet, and every call ends."
pub demand_1 : (bytes sheet work : List ℕ) → Demand1 bytes sheet work
demand_1 bytes sheet work =
    record {
      refusal = λ r. (refused_by bytes sheet work r, λ f. ap (λ a. a.reply) (refused_for bytes sheet work r f));
      refused = refused_call bytes sheet work;
      serving = (λ s. served_by bytes sheet work s.0 s.1, λ n. (_, ap (λ a. a.reply) (served_for bytes sheet work n).2));
      served = served_call bytes sheet work;
    }

pub record Demand2 (bytes sheet work : List ℕ) : Type 0 where
  -- the sheet of a served call says something of the job, and only one thing
  pub shows : (n : ℕ) → (answer bytes sheet work).reply ≡ Ok n → (job : Job) × (c : Content) × Shows bytes sheet work job c
  pub shows_one : (job other : Job) (c d : Content) → Shows bytes sheet work job c → Shows bytes sheet work other d → (job ≡ other) × (c ≡ d)
  -- what it says obeys the policy, and length, picks and walk are the plan's
  pub obeys : (job : Job) (c : Content) → Shows bytes sheet work job c → Obeys job c

-- "The plan obeys the named policy as published for one-block stores, the length is the sum of its stretches, the picks meet each
-- line exactly, and the printed walk starts and ends at the depot and treads each stretch as often as the plan says."
pub demand_2 : (bytes sheet work : List ℕ) → Demand2 bytes sheet work
demand_2 bytes sheet work =
    record {
      shows = λ n e. (let t = shown bytes sheet work n e in (t.0, best t.0, t.1));
      shows_one = λ job other c d s t. (
          let e = (job_file_read bytes job).1 s.file in
          let f = (job_file_read bytes other).1 t.file in
          let same : job ≡ other = cc in
          (same, sym (shown_best bytes sheet work job c s).1 ∙ ap best same ∙ (shown_best bytes sheet work other d t).1)
          );
      obeys = λ job c s. (let t = shown_best bytes sheet work job c s in subst (Obeys job) t.1 (best_obeys job t.0));
    }

-- "Picks: through aisles, then cells, upwards; from each passed cell take what its line still lacks, as far as stock goes."
-- That is `picks_upwards` and `picks_rule` of `Obeys`; no other picks obey
pub picks_determined : (job : Job) → Admitted job → (c : Content) → Obeys job c → c.picks ≡ picks_of job c.plan
picks_determined = PickRule.picks_determined

-- "Conversely, every non-empty closed walk from the depot that treads no stretch more than twice reads as one plan, and a lawful one."
-- Request #106: "those that demand 2 reads as lawful plans, are those that tread no stretch of a shut aisle". Shut aisles are VOID in the plan
pub demand_2_conversely : (z : Layout) (hours : Hours) → 1 ≤ z.depot → z.depot ≤ z.aisles
    → (walk : Walk) → (walk ≡ [] → ⊥) → ClosedWalk z walk → KeepsToOpen z hours walk → ((e : Edge) → InStore z e → walk_treads z walk e ≤ 2)
    → (plan : Plan) × TreadsAs z walk plan × Lawful z plan × ShutVoid hours plan × ((other : Plan) → TreadsAs z walk other → other ≡ plan)
demand_2_conversely z hours low high walk some-step closed keeps twice =
    let t = walk_reads_open z low high hours walk some-step closed keeps twice in (
      t.0,
      record { well_formed = t.1.well_formed; treads = t.3 },
      t.1,
      t.2,
      λ other o. plan_determined z other t.0 o.well_formed t.1.well_formed (λ e i. o.treads e i ∙ sym (t.3 e i)),
    )

-- without the sections no aisle is shut, so every walk is one of these
pub no_hours_no_shut : (z : Layout) (walk : Walk) → KeepsToOpen z NoHours walk
no_hours_no_shut = plain_keeps

pub record Demand3 (bytes sheet work : List ℕ) : Type 0 where
  pub shortest : (job : Job) (c : Content) → Shows bytes sheet work job c → Shortest job c
  -- refused for stock: no row above applies, and some line exceeds all the stock of its article in open aisles
  pub stock : ((answer bytes sheet work).reply ≡ Err ShortOfStock)
      ↔ (((q : Refusal) → table_row q < table_row ShortOfStock → Cause q bytes sheet work → ⊥) × OfJob bytes LineOutOfStock)

-- "For every job served, the plan on our sheet is one that the job's policy allows, passes enough stock for every line and has by 01
-- the length printed there, and every plan that the policy allows and that passes enough stock too has at least that length. Under
-- EXACT, so has every closed walk from the depot that passes enough stock for every line, whatever steps it takes and however often
-- it treads a stretch. And a job is refused for stock exactly when it passes every test before that one and some line exceeds all
-- the stock of its article." Request #106: "The walks we compare with .. are those that tread no stretch of a shut aisle"; "8 counts open
-- aisles only"
pub demand_3 : (bytes sheet work : List ℕ) → Demand3 bytes sheet work
demand_3 bytes sheet work =
    record {
      shortest = λ job c s. (let t = shown_best bytes sheet work job c s in subst (Shortest job) t.1 (best_shortest job t.0));
      stock = (
        λ e. (let f = refused_by bytes sheet work ShortOfStock e in (f.none_above, f.applies)),
        λ h. ((demand_1 bytes sheet work).refusal ShortOfStock).1 (record { applies = h.1; none_above = h.0 }),
      );
    }

-- "one fixed sheet for all jobs": no text is the sheet of every served call
pub no_fixed_sheet : (text : List ℕ) → ((bytes sheet work : List ℕ) (n : ℕ) → (answer bytes sheet work).reply ≡ Ok n → take n (answer bytes sheet work).sheet ≡ text) → ⊥
no_fixed_sheet = Varied.sheets_vary

-- "16,384 bytes of sheet space always suffice." Refusal 9 does not occur
pub sheet_space_suffices : (bytes sheet work : List ℕ) → sheet_limit ≤ length sheet → (answer bytes sheet work).reply ≡ Err SheetSpace → ⊥
sheet_space_suffices = Host.space_suffices

-- "A planning host in C calls an entry that takes only byte buffers and numbers and brings its own work area."
-- Its call is the library's, so the demands hold of it, and refusal 10 does not occur
pub host_call : (bytes sheet : List ℕ) → host_answer bytes sheet ≡ answer bytes sheet host_work
unfolding host_answer
host_call bytes sheet = refl

pub host_has_space : (bytes sheet : List ℕ) → (host_answer bytes sheet).reply ≡ Err WorkArea → ⊥
host_has_space = Host.host_has_space

pub host_sheet_suffices : (bytes sheet : List ℕ) → sheet_limit ≤ length sheet → (host_answer bytes sheet).reply ≡ Err SheetSpace → ⊥
host_sheet_suffices = Host.host_sheet_suffices

-- "It gets one number: the sheet's byte count for a served job, otherwise 65,536 plus the refusal number."
pub host_number_lem : (bytes sheet : List ℕ) → HostCall bytes sheet
host_number_lem = Host.host_number_lem

-- the number tells the reply, and a refusal's number its cause
pub host_number_tells : (bytes others sheet space : List ℕ) → host_gets bytes sheet ≡ host_gets others space → (host_answer bytes sheet).reply ≡ (host_answer others space).reply
host_number_tells = Host.host_number_tells

pub refusal_number_tells : (q r : Refusal) → number_of q ≡ number_of r → q ≡ r
refusal_number_tells = Host.refusal_number_tells

-- "The program reads a job from standard input and prints the sheet, or `R 1` and a line with the refusal number."
-- The number is never 9 or 10
pub program_prints : (bytes : List ℕ) → ((job : Job) × PrintsSheet bytes job) ⊎ ((r : Refusal) × PrintsRefusal bytes r)
program_prints = Program.prints

-- "ASCII text, at most 16,384 bytes." A longer job is refused with 1, and the program sees that from the first 16,385 bytes
pub longer_job_refused : (bytes : List ℕ) → job_file_limit < length bytes → output bytes ≡ header letter_r 1 ++ field line_feed 1
longer_job_refused = Program.longer_printed

pub output_start : (bytes : List ℕ) → output (take 16385 bytes) ≡ output bytes
output_start = Program.output_start

-- "Cases 1 to 14 are established as facts about the definitions, gathered into a table that one theorem covers."
pub cases_hold : AllHold cases
cases_hold = Cases.cases_hold

-- what no case of document 01 pins is pinned by cases of our own, gathered into a second table
pub own_cases_hold : AllHold own_cases
own_cases_hold = Cases.own_cases_hold

-- "an aisle holding no article of the list is VOID" under every policy but EXACT: a plan that serves the list and enters such an aisle
pub entering_pinned : PlanServes (one_nine Exact) through_aisle_one × Allowed (one_nine Exact) through_aisle_one × ((policy : Policy) → (policy ≡ Exact → ⊥) → Allowed (one_nine policy) through_aisle_one → ⊥)
entering_pinned = (entering_serves, entering_exact, entering_others)

-- Request #101: "so `D 0` gets a sheet. Its length is 0, every aisle is VOID, every passage 00, and P and W have count 0. This is so
-- under every policy." For every job with no lines to which no other refusal applies: the whole answer
pub empty_list_lem : (bytes sheet work : List ℕ) (job : Job) → NothingToFetch bytes sheet work job
    → answer bytes sheet work
    ≡ record { reply = Ok (length (empty_sheet job)); sheet = empty_sheet job ++ drop (length (empty_sheet job)) sheet; work = cleared work }
empty_list_lem = EmptyLists.empty_served

-- there are such calls: case 14, under every policy
pub empty_list_met : (policy : Policy) (sheet work : List ℕ) → sheet_limit ≤ length sheet → work_limit ≤ length work
    → NothingToFetch (job_text (alpha [] policy)) sheet work (alpha [] policy)
empty_list_met = EmptyLists.nothing_to_fetch

-- its sheet by 01, so 9 applies where the space is shorter than that
pub empty_list_sheet : (job : Job) → layout_in_bounds job.layout ≡ true → job.lines ≡ [] → sheet_text job ≡ empty_sheet job
empty_list_sheet = EmptyLists.empty_sheet_lem

-- "5 no longer covers a list count of 0": it does not apply to an empty list, and neither do 6, 7 and 8
pub empty_list_passes : (bytes sheet work : List ℕ) (job : Job) → JobFileOf bytes job → job.lines ≡ []
    → (r : Refusal) → table_row ListBounds ≤ table_row r → table_row r < table_row SheetSpace → Cause r bytes sheet work → ⊥
empty_list_passes = EmptyLists.no_list_cause

-- demand 2 of an empty list: the printed walk has no steps, is closed, and treads each edge as the plan says
pub empty_list_shows : (bytes sheet work : List ℕ) (job : Job) (c : Content) → Shows bytes sheet work job c → job.lines ≡ [] → ShowsNothing job c
empty_list_shows = EmptyLists.empty_shown

-- "For such a list the plan that treads nothing is lawful too": every policy allows it beside the plans that it allowed, and no other
pub empty_adds_one : (job : Job) (plan : Plan) → job.lines ≡ [] → 1 ≤ job.layout.aisles
    → Allowed job plan ↔ ((Lawful job.layout plan × Follows job.policy job plan × ShutVoid job.hours plan) ⊎ (plan ≡ empty_plan job.layout))
empty_adds_one = EmptyLists.empty_adds_one

-- lists with lines keep exactly the plans that they had; of both, #106 leaves out those that enter a shut aisle
pub lines_keep_plans : (job : Job) (plan : Plan) → (job.lines ≡ [] → ⊥)
    → Allowed job plan ↔ (Lawful job.layout plan × Follows job.policy job plan × ShutVoid job.hours plan)
lines_keep_plans = EmptyLists.lines_keep_plans

-- Request #102: "Cell i then lies f + (i − 1)·p + u·((i − 1) divided by k, rounded down) from the front, and L grows to match."
pub posts_between_cells : (z : Layout) (k u : ℕ) → SecondLine z.posts k u
    → ((i : ℕ) → 1 ≤ i → i ≤ z.cells → position z i ≡ z.front + (i - 1) * z.pitch + u * ((i - 1) / k))
    × (aisle_length z ≡ z.front + (z.cells - 1) * z.pitch + u * ((z.cells - 1) / k) + z.back)
posts_between_cells = Uprights.posts_between

-- "With count 1 there are no posts": the distances are document 01's, as they are where u is 0
pub cells_without_posts : (z : Layout) → WithoutPosts z.posts
    → ((i : ℕ) → 1 ≤ i → i ≤ z.cells → position z i ≡ z.front + (i - 1) * z.pitch)
    × (aisle_length z ≡ z.front + (z.cells - 1) * z.pitch + z.back)
cells_without_posts = Uprights.posts_absent

-- so a job whose second line is `k 0` has the answer of the same job with `L 1`, byte for byte and number for number, under `L 3` too (#109);
-- with BACK, which `L 1` can't say, that of the same job with any other k and u 0
pub no_posts : (job : Job) (posts others : Posts) (plain lined : List ℕ) → PostsOfNothing job posts others plain lined
    → (sheet work : List ℕ) → answer lined sheet work ≡ answer plain sheet work
no_posts = Uprights.same_calls

-- so the planning host gets the same, and the program prints the same
pub no_posts_host : (job : Job) (posts others : Posts) (plain lined : List ℕ) → PostsOfNothing job posts others plain lined
    → (sheet : List ℕ) → host_answer lined sheet ≡ host_answer plain sheet
no_posts_host = Uprights.same_host

pub no_posts_printed : (job : Job) (posts others : Posts) (plain lined : List ℕ) → PostsOfNothing job posts others plain lined → output lined ≡ output plain
no_posts_printed = Uprights.same_output

-- there are such files, under every policy
pub no_posts_met : (policy : Policy)
    → let job = alpha ((9 ⨯ 1) ∷ []) policy in
    let text : Posts → List ℕ = λ posts. job_text (job_with_posts posts job) in
    PostsOfNothing job NoPosts (Every 3 0) (text NoPosts) (text (Every 3 0))
    × PostsOfNothing job NoPosts (Sided 3 0 FrontSide) (text NoPosts) (text (Sided 3 0 FrontSide))
    × PostsOfNothing job (Sided 1 0 BackSide) (Sided 3 0 BackSide) (text (Sided 1 0 BackSide)) (text (Sided 3 0 BackSide))
no_posts_met = Uprights.both_files

-- "Whoever relies on cell distances, MIDPOINT included, takes the new ones": a cell is in the front half where it lies no further from the
-- front crossing than from the back one, and in the back half where it lies no nearer, by the same positions and length
pub halves_by_distance : (z : Layout) (i : ℕ)
    → ((in_front_half z i ≡ true) ↔ (position z i ≤ aisle_length z - position z i))
    × ((in_back_half z i ≡ true) ↔ (aisle_length z - position z i ≤ position z i))
halves_by_distance = Uprights.halves

-- "The ceiling on a tour becomes 57,280 dm."
pub ceiling : (bytes sheet work : List ℕ) (job : Job) (c : Content) → Shows bytes sheet work job c → c.length ≤ 57280
ceiling = Uprights.below_ceiling

pub record PageDemand1 (bytes sheet page work : List ℕ) : Type 0 where
  -- a page call is refused with a refusal exactly if that is the first of the table, row 11 included, that applies
  pub refusal : (r : Refusal) → ((page_answer bytes sheet page work).call.reply ≡ Err r) ↔ FirstPageCause r bytes sheet page work
  pub refused : (r : Refusal) → (page_answer bytes sheet page work).call.reply ≡ Err r → RefusedPageCall r sheet page work (page_answer bytes sheet page work)
  -- it is served exactly if none applies
  pub serving : ((n : ℕ) × ((page_answer bytes sheet page work).call.reply ≡ Ok n)) ↔ ((r : Refusal) → PageCause r bytes sheet page work → ⊥)
  pub served : (n : ℕ) → (page_answer bytes sheet page work).call.reply ≡ Ok n → OfJob bytes (λ job. ServedPageCall job sheet page work (page_answer bytes sheet page work))

-- Request #103: "Answers: 11, with length 0, where the page is longer than its space, tried after all of document 01's; page and sheet
-- stay unchanged and the work area is all zero. A page call also returns the page's byte count; every refusal returns 0 for it and
-- leaves the page, and bytes past the page never change." Demand 1 of page calls
pub page_demand_1 : (bytes sheet page work : List ℕ) → PageDemand1 bytes sheet page work
page_demand_1 bytes sheet page work =
    record {
      refusal = PageCalls.refused_page bytes sheet page work;
      refused = PageCalls.refused_page_call bytes sheet page work;
      serving = PageCalls.serving_page bytes sheet page work;
      served = PageCalls.served_page_call bytes sheet page work;
    }

-- without refusal 11 the reply, the sheet and the work area are those of the call without a page: demands 2 and 3 speak of them
pub page_call_as_plan : (bytes sheet page work : List ℕ) → ((page_answer bytes sheet page work).call.reply ≡ Err PageSpace → ⊥)
    → (page_answer bytes sheet page work).call ≡ answer bytes sheet work
page_call_as_plan = PageCalls.as_without_page

-- "Lines follow the walk, each pick at the first step that reaches its cell. The page's lines are exactly the picks of the sheet, rearranged."
pub page_is_picks : (bytes sheet page work : List ℕ) (n : ℕ) → (page_answer bytes sheet page work).call.reply ≡ Ok n
    → (job : Job) × (c : Content) × (order : List Pick) × ShowsPage bytes sheet page work job c order
page_is_picks = Clipboard.page_shown

-- there is no other order of the sheet's picks along the sheet's walk
pub page_determined : (bytes sheet work : List ℕ) (job : Job) (c : Content) → Shows bytes sheet work job c
    → (order other : List Pick) → AlongTheWalk job c order → AlongTheWalk job c other → order ≡ other
page_determined bytes sheet work = Clipboard.page_determined bytes sheet [] work

-- "Each pick is one line of 24 bytes and a line feed": 255 picks at most, so 6,375 bytes of page space always suffice
pub page_suffices : (bytes sheet page work : List ℕ) → page_limit ≤ length page → (page_answer bytes sheet page work).call.reply ≡ Err PageSpace → ⊥
page_suffices = Clipboard.page_space

-- the planning host's page call, which is the library's: the page's byte count times 2^32, plus the number of `plan_sheet`
pub host_page_call : (bytes sheet page : List ℕ) → host_page_answer bytes sheet page ≡ page_answer bytes sheet page host_work
unfolding host_page_answer
host_page_call bytes sheet page = refl

pub host_page_number_lem : (bytes sheet page : List ℕ) → HostPageCall bytes sheet page
host_page_number_lem = PageHost.host_page

-- the program `page` prints the page, or `R 1` and the refusal's number, which is never 9, 10 or 11
pub page_program_prints : (bytes : List ℕ) → ((job : Job) × PrintsPage bytes job) ⊎ ((r : Refusal) × PrintsPageRefusal bytes r)
page_program_prints = PageHost.page_prints_lem

-- it sees from the first 16,385 bytes that a job is too long
pub page_output_start : (bytes : List ℕ) → page_output (take 16385 bytes) ≡ page_output bytes
page_output_start = PageHost.page_output_start

-- the page of document 01's worked job; how wide its columns are and which step counts is pinned by `texts_hold` (rules/proofs/Cases)
pub worked_page_lem : page_output worked_job ≡ worked_page
worked_page_lem = (Cases.page_calls).0

-- Request #104: "No LARGEST tour may be shorter than ours" is demand 3, whose plans are those that the job's policy allows.
-- "ours is never longer than the MIDPOINT tour of the same job": of two served calls for one job, under the one word and under the other,
-- each with its own sheet and work area; the planning host's calls and the program's are such calls (`host_call`, `program_prints`)
pub largest_at_most_midpoint : (job : Job) (bytes sheet work others space area : List ℕ) (c d : Content)
    → Shows bytes sheet work (job_under Midpoint job) c → Shows others space area (job_under Largest job) d → d.length ≤ c.length
largest_at_most_midpoint = LargestGap.at_most

-- there are such calls, and LARGEST may be shorter
pub largest_at_most_midpoint_met : (sheet work : List ℕ) → sheet_limit ≤ length sheet → work_limit ≤ length work
    → (c : Content) × (d : Content) × Shows (job_text (four_between Midpoint)) sheet work (job_under Midpoint (four_between Midpoint)) c
    × Shows (job_text (four_between Largest)) sheet work (job_under Largest (four_between Midpoint)) d × (c.length ≡ 26) × (d.length ≡ 24)
largest_at_most_midpoint_met = LargestGap.met

-- what the request says of aisles between is pinned by cases of its own, and which cells are stops by lists of them
pub largest_cases_hold : AllHold largest_cases × AllSame stop_lists
largest_cases_hold = (Cases.largest_cases_hold, Cases.stops_hold)

-- Request #105: "the adding up for a line shall stop as soon as the sum reaches the line's quantity, and the whole test as soon as one line
-- is found short. The test also answers how many records it looked at: for each line up to the first short one, the least number from the
-- top of the S section that hold its quantity of its article, or all where it is short, added up."
-- The number is `looked job` (rules/specs/Looked): the stock test answers it (`jobfile::stock::stock_test`), the job reader hands it on
-- (`jobfile::read_job`), and the program `looked` prints it. `looked_for job l` is the part of the line l.
-- for a line that is not short: the least n such that the first n records hold its quantity
pub looked_least : (job : Job) (l : OrderLine) → InStock job l → LeastHolding job l (looked_for job l)
looked_least = StockTest.least

-- "or all where it is short"
pub looked_short : (job : Job) (l : OrderLine) → LineShort job l → looked_for job l ≡ length job.stock
looked_short = StockTest.short

-- "for each line up to the first short one .. added up"
pub looked_added : (job : Job) → AddedUp job (looked job)
looked_added = StockTest.added

-- at most records times lines, and 0 exactly when there is no line or no record: of every job file for which there is a number
pub looked_bounds : (bytes : List ℕ) (n : ℕ) → looked_in bytes ≡ some n → OfJob bytes (λ job. (n ≡ looked job) × LookedBounds job n)
looked_bounds = StockTest.bounds

-- there is one exactly where no refusal before 8 stops the job, whatever sheet and work area that suffices are lent
pub looked_made : (bytes sheet work : List ℕ) → work_limit ≤ length work
    → ((n : ℕ) × (looked_in bytes ≡ some n)) ↔ ((q : Refusal) → table_row q < table_row ShortOfStock → Cause q bytes sheet work → ⊥)
looked_made = StockTest.made

-- the program `looked` sees from the first 16,385 bytes that a job is too long
pub looked_start : (bytes : List ℕ) → looked_in (take 16385 bytes) ≡ looked_in bytes
looked_start = StockTest.start

-- which records and lines count is pinned by cases of its own, and what the program prints by two texts
pub looked_cases_hold : AllLooked looked_cases × AllSame looked_texts
looked_cases_hold = Cases.looked_cases_hold

-- Request #106: "An aisle without lines is open", "windows may touch or overlap": a job to which 12 does not apply and whose aisles are all
-- open has the answer of the job without the sections
pub all_open : (job : Job) (timed plain : List ℕ) → AllOpen job timed plain → SameAnswers timed plain
all_open = OpeningHours.all_open

-- and #105's number of that job
pub all_open_looked : (job : Job) (timed plain : List ℕ) → AllOpen job timed plain → looked_in timed ≡ looked_in plain
all_open_looked = OpeningHours.all_open_looked

-- there are such files, under every policy: the window of aisle 1 begins at the minute
pub all_open_met : (policy : Policy)
    → let job = seven_at 5 ((5, 6) ∷ []) policy in
    AllOpen job (job_text job) (job_text (job_with_hours NoHours job))
all_open_met = OpeningHours.open_files

-- "Its stock counts for nothing, in the stock test as in the articles an aisle holds": where none of 1 to 4 and 12 applies, the answer is that
-- of the job with the same sections and without the records of its shut aisles
pub shut_is_gone : (job : Job) (bytes others : List ℕ) → PassesToHours job bytes → JobFileOf others (shut_gone job) → SameAnswers bytes others
shut_is_gone job bytes others p = OpeningHours.shut_is_gone job bytes p others

-- under every policy but EXACT, which may enter an aisle that holds nothing, also that of the job without these records and without the sections
pub shut_is_gone_plain : (job : Job) (bytes plain : List ℕ) → PassesToHours job bytes → (job.policy ≡ Exact → ⊥)
    → JobFileOf plain (job_with_hours NoHours (shut_gone job)) → SameAnswers bytes plain
shut_is_gone_plain job bytes plain p other = OpeningHours.shut_is_gone_plain job bytes p other plain

-- there are such files, under every policy: the window of aisle 1, where one of the records is, ends at the minute
pub shut_is_gone_met : (policy : Policy)
    → let job = seven_at 6 ((5, 6) ∷ []) policy in
    PassesToHours job (job_text job) × JobFileOf (job_text (shut_gone job)) (shut_gone job)
    × JobFileOf (job_text (job_with_hours NoHours (shut_gone job))) (job_with_hours NoHours (shut_gone job))
shut_is_gone_met = OpeningHours.gone_files

-- when an aisle is open, what a shut one may not be, when 12 applies and what counts before it, and how the sections are written is pinned by
-- cases of its own, texts and numbers of records looked at
pub hours_cases_hold : AllHold hours_cases × AllLooked hours_looked × AllSame hours_texts
hours_cases_hold = Cases.hours_cases_hold

-- Request #107: "Where 2·d exceeds m + 1, the aisle walked back is the leftmost entered"; otherwise the rightmost, as document 01 has it
pub walked_back_left : (z : Layout) → z.aisles + 1 < 2 * z.depot → (plan : Plan) (j : ℕ) → WalkedBack z plan j ↔ First plan j
walked_back_left = Doors.walked_back_left

pub walked_back_right : (z : Layout) → 2 * z.depot ≤ z.aisles + 1 → (plan : Plan) (j : ℕ) → WalkedBack z plan j ↔ Last plan j
walked_back_right = Doors.walked_back_right

-- so on the sheet of a TRAVERSAL job whose depot lies to the right, of an odd number of entered aisles the leftmost is BOTTOM, with BACK (#109) TOP,
-- and the others are ONCE
pub door_right_shown : (job : Job) → job.policy ≡ Traversal → job.layout.aisles + 1 < 2 * job.layout.depot
    → (bytes sheet work : List ℕ) (c : Content) → Shows bytes sheet work job c → entered_aisles c.plan % 2 ≡ 1
    → (j : ℕ) → (First c.plan j → WalkedFrom (side_of job.layout) (action_at c.plan j)) × (Entered c.plan j → (First c.plan j → ⊥) → action_at c.plan j ≡ Once)
door_right_shown = Doors.right_shown

-- there are such calls: the request's own store
pub door_right_met : (sheet work : List ℕ) → sheet_limit ≤ length sheet → work_limit ≤ length work
    → Shows (job_text (door_at 3 Traversal)) sheet work (door_at 3 Traversal) (best (door_at 3 Traversal))
    × (entered_aisles (best (door_at 3 Traversal)).plan % 2 ≡ 1)
door_right_met = Doors.right_met

-- "Jobs with smaller d keep their tours." Where 2·d is at most m + 1, the same plans are allowed as by document 01's rule before the request,
-- and the same one is the best
pub door_left_unchanged : (job : Job) → job.policy ≡ Traversal → 2 * job.layout.depot ≤ job.layout.aisles + 1
    → ((plan : Plan) → AllowedBefore job plan ↔ Allowed job plan) × ((plan : Plan) → BestAmong (AllowedBefore job) job plan ↔ IsBest job plan)
door_left_unchanged job word low = (Doors.same_allowed job word low, Doors.same_best job word low)

-- so the plan on the sheet of such a job is the best by that rule, and no other plan is
pub door_left_shown : (job : Job) → job.policy ≡ Traversal → 2 * job.layout.depot ≤ job.layout.aisles + 1
    → (bytes sheet work : List ℕ) (c : Content) → Shows bytes sheet work job c
    → (plan : Plan) → BestAmong (AllowedBefore job) job plan ↔ (plan ≡ c.plan)
door_left_shown = Doors.same_shown

-- there are such calls: that store with its depot in the middle aisle of three
pub door_left_met : (sheet work : List ℕ) → sheet_limit ≤ length sheet → work_limit ≤ length work
    → Shows (job_text (door_at 2 Traversal)) sheet work (door_at 2 Traversal) (best (door_at 2 Traversal))
door_left_met = Doors.left_met

-- with the depot in the last one the rules differ: before a tour of 18 was allowed, now the shortest is 26, and by the rule before it is not the best
pub door_right_moves : AllowedBefore (door_at 3 Traversal) last_walked_back × PlanServes (door_at 3 Traversal) last_walked_back
    × (plan_length (door_at 3 Traversal).layout last_walked_back ≡ 18) × HasTour (door_at 3 Traversal) 26
    × (BestAmong (AllowedBefore (door_at 3 Traversal)) (door_at 3 Traversal) (best_plan (door_at 3 Traversal)) → ⊥)
door_right_moves = (Doors.allowed_before, (Doors.moved).0, (Doors.moved).1, (Doors.moved).2, Doors.not_before)

-- which aisle is walked back from which doors, with an odd and an even number of entered aisles, and that MIDPOINT has no such rule is pinned
-- by cases of its own
pub door_cases_hold : AllHold door_cases
door_cases_hold = Cases.door_cases_hold

-- Request #108: "Among the shortest plans, the one with the fewest entered aisles comes first, then document 01's order." Under every policy: of the
-- plans that are allowed, serve the list and are as long as the one on the sheet, none enters fewer aisles, and of those that enter as many none
-- comes before it in document 01's order
pub fewer : (bytes sheet work : List ℕ) (job : Job) (c : Content) → Shows bytes sheet work job c
    → (plan : Plan) → Allowed job plan → PlanServes job plan → plan_length job.layout plan ≡ c.length
    → (entered_aisles c.plan ≤ entered_aisles plan)
    × (entered_aisles plan ≡ entered_aisles c.plan → PlanBefore job.layout.cells plan c.plan → ⊥)
fewer = FewerAisles.fewest_shown

-- the plan before the request was document 01's: "among the shortest plans serving the list take the first"
pub before_is_first : (job : Job) → Admitted job → Allowed job (best_before job) × PlanServes job (best_before job)
    × ((plan : Plan) → Allowed job plan → PlanServes job plan → (plan_length job.layout (best_before job) ≤ plan_length job.layout plan)
    × (plan_length job.layout plan ≤ plan_length job.layout (best_before job)
    → (plan ≡ best_before job) ⊎ PlanBefore job.layout.cells (best_before job) plan))
before_is_first = FewerAisles.before_first

-- "Lengths don't move." The plan is as long as the one before
pub lengths_stay : (job : Job) → Admitted job → plan_length job.layout (best_plan job) ≡ plan_length job.layout (best_before job)
lengths_stay = FewerAisles.same_length

-- so the length on the sheet is the one before
pub lengths_stay_shown : (bytes sheet work : List ℕ) (job : Job) (c : Content) → Shows bytes sheet work job c
    → c.length ≡ plan_length job.layout (best_before job)
lengths_stay_shown = FewerAisles.length_shown

-- "A store `3 3 2 1 2 5 2` with stock 1 3 7 2, 2 1 7 1, 3 1 7 1 and list 7×2 shows it under EXACT. Before, VOID 00 BOTTOM 1 02 BOTTOM 1; now
-- BOTTOM 3 02 VOID 00 VOID; both are 18."
pub fewer_moves :
    let before : Plan = record { actions = Void ∷ Bottom 1 ∷ Bottom 1 ∷ []; passages = P00 ∷ P02 ∷ [] } in
    let now : Plan = record { actions = Bottom 3 ∷ Void ∷ Void ∷ []; passages = P02 ∷ P00 ∷ [] } in
    (best_before (fewer_store Exact) ≡ before) × (plan_length (fewer_store Exact).layout before ≡ 18)
    × (best_plan (fewer_store Exact) ≡ now) × (plan_length (fewer_store Exact).layout now ≡ 18)
fewer_moves = FewerAisles.moved

-- there are such calls: that store
pub fewer_met : (sheet work : List ℕ) → sheet_limit ≤ length sheet → work_limit ≤ length work
    → Shows (job_text (fewer_store Exact)) sheet work (fewer_store Exact) (best (fewer_store Exact))
fewer_met = FewerAisles.met

-- the order of length, aisles and document 01's order under each policy, and that VOID aisles do not count is pinned by cases of its own
pub fewer_cases_hold : AllHold fewer_cases
fewer_cases_hold = Cases.fewer_cases_hold

-- Request #109: "Where u is 0, a served job turned front to back, with cells renumbered, f and b exchanged and FRONT and BACK too, has a tour of equal
-- length, given sheet space enough." Under every policy, and whichever of `L 1`, `L 2` and `L 3` the two files have: where some call shows the sheet of a
-- job, the turned job's text is a job file, a call on it in sheet space enough shows a sheet, and the tour on that sheet is as long
pub turned : (job : Job) (y : Layout) → TurnedStore job.layout y
    → (bytes space area : List ℕ) (c : Content) → Shows bytes space area job c
    → (sheet work : List ℕ) → length (sheet_text (turned_into y job)) ≤ length sheet → work_limit ≤ length work
    → (d : Content) × Shows (job_text (turned_into y job)) sheet work (turned_into y job) d × (d.length ≡ c.length)
turned = BackDepot.turned

-- every store without posts can be turned
pub turned_store_there : (z : Layout) → WithoutPosts z.posts → (y : Layout) × TurnedStore z y
turned_store_there = Mirrored.some_turned

-- "Ranks and step letters keep their order": so the plans need not be each other turned. A store and its sheet, where they are not
pub turned_met : (sheet work : List ℕ) → sheet_limit ≤ length sheet → work_limit ≤ length work
    → let job = midway_cells Composite in
    let other = midway_turned Composite in
    TurnedStore job.layout other.layout × (turned_into other.layout job ≡ other) × Shows (job_text job) sheet work job (best job)
    × (best_plan other ≡ turned_plan 5 (best_plan job) → ⊥)
turned_met sheet work space numbers =
    let shown = BackDepot.midway_shown sheet work space numbers in ((BackDepot.midway_turned_lem).0, (BackDepot.midway_turned_lem).1, shown.0, shown.1)

-- "the third line is FRONT or BACK": FRONT is what the files without a third line mean. With it a job has the answers of the same job with `L 2`,
-- sheets, pages and records looked at
pub front_unchanged : (job : Job) (k u : ℕ) (said unsaid : List ℕ)
    → JobFileOf said (job_with_posts (Sided k u FrontSide) job) → JobFileOf unsaid (job_with_posts (Every k u) job)
    → SameAnswers said unsaid × (looked_in said ≡ looked_in unsaid)
front_unchanged = BackDepot.front_unchanged

-- there are such files, under every policy
pub front_unchanged_met : (policy : Policy)
    → let job = alpha ((9 ⨯ 1) ∷ []) policy in
    let three = job_with_posts (Sided 2 1 FrontSide) job in
    let two = job_with_posts (Every 2 1) job in
    JobFileOf (job_text three) three × JobFileOf (job_text two) two
front_unchanged_met = BackDepot.front_files

-- what each policy reads with BACK, where the walk and the page start, which ranks decide, what the third line may be, and that k and u are
-- bounded under `L 3` is pinned by cases of its own, and texts
pub back_cases_hold : AllHold back_cases × AllSame back_texts
back_cases_hold = Cases.back_cases_hold
