-- What a refused call gives, what a served call gives, and what its sheet must say.
use Rattle.std.specs.Prelude.{ℕ, ◌+◌, ◌-◌, min, ◌≤◌, ◌<◌, ◌≡◌, ◌⊎◌, ◌↔◌, true, length, take, drop, replicate}
use mathlib.Core.List.{List, ◌++◌, Memᴰ}
use Rattle.rules.specs.declared.Layout.{Layout}
use Rattle.rules.specs.declared.StockRecord.{StockRecord}
use Rattle.rules.specs.declared.OrderLine.{OrderLine}
use Rattle.rules.specs.declared.Pick.{Pick}
use Rattle.rules.specs.declared.Policy.TheVariants.{Exact}
use Rattle.rules.specs.declared.Refusal.{Refusal}
use Rattle.rules.specs.declared.Refusal.TheVariants.{WorkArea, SheetSpace}
use Rattle.std.specs.declared.result.Result.TheVariants.{Ok}
use Rattle.rules.specs.Store.{Edge, InStore}
use Rattle.rules.specs.Jobs.{Job, open_stock}
use Rattle.rules.specs.JobFile.{line_feed, header, field}
use Rattle.rules.specs.Plans.{Plan, WellFormed, multiplicity, length_of, plan_length, plan_passes}
use Rattle.rules.specs.Policies.{entered_aisles, Allowed}
use Rattle.rules.specs.Serving.{PlanServes, WalkServes}
use Rattle.rules.specs.Walks.{Walk, ClosedWalk, KeepsToOpen, NotAfter, walk_treads, walk_length}
use Rattle.rules.specs.Picks.{TakenFrom, PickBefore}
use Rattle.rules.specs.FirstWalk.{WalkOf}
use Rattle.rules.specs.BestPlan.{PlanBefore}
use Rattle.rules.specs.Refusals.{number_of, work_limit, cleared}
use Rattle.rules.specs.Sheet.{sheet_text}
use Rattle.rules.specs.Answers.{Answer, answer, reply_number, reply_length, host_answer, host_number, sheet_limit, letter_r, output}
use Rattle.rules.specs.Lists.{Sorted}
use Rattle.promises.specs.Causes.{JobFileOf, OfJob, Cause, FirstCause}
use Rattle.promises.specs.Contents.{Content, content_text, picked, picked_from, picked_before}

-- a refused call: the table's number, length 0, the sheet as it was; the work area as it was too,
-- but all zero where the sheet is longer than its space
pub record RefusedCall (r : Refusal) (sheet work : List ℕ) (a : Answer) : Type 0 where
  pub number : reply_number a.reply ≡ number_of r
  pub count : reply_length a.reply ≡ 0
  pub sheet_kept : a.sheet ≡ sheet
  pub work_left : (r ≡ SheetSpace → ⊥) → a.work ≡ work
  pub work_cleared : r ≡ SheetSpace → a.work ≡ cleared work

-- a served call: number 0 and the byte count, the text of the job's sheet in front, every byte behind it as it was,
-- the work area all zero
pub record ServedCall (job : Job) (sheet work : List ℕ) (a : Answer) : Type 0 where
  pub number : reply_number a.reply ≡ 0
  pub count : reply_length a.reply ≡ length (sheet_text job)
  pub text : take (length (sheet_text job)) a.sheet ≡ sheet_text job
  pub behind : drop (length (sheet_text job)) a.sheet ≡ drop (length (sheet_text job)) sheet
  pub same_space : length a.sheet ≡ length sheet
  pub work_cleared : a.work ≡ cleared work

-- the sheet of a served call says c of the job: the bytes are the job's file, and the bytes of the sheet are the text of c
pub record Shows (bytes sheet work : List ℕ) (job : Job) (c : Content) : Type 0 where
  pub file : JobFileOf bytes job
  pub served : (answer bytes sheet work).reply ≡ Ok (length (content_text c))
  pub text : take (length (content_text c)) (answer bytes sheet work).sheet ≡ content_text c

-- the policy is the job's and allows the plan; the length is the sum over the edges; the picks add up to each line's quantity,
-- nothing else is picked, and all of it from passed cells, upwards; from each passed cell is taken what its line still lacks after
-- the cells before it, as far as stock goes; the walk is closed, from the depot, treads each edge as the plan says and none of a shut
-- aisle, and no other such walk comes before it in the alphabet
pub record Obeys (job : Job) (c : Content) : Type 0 where
  pub policy : c.policy ≡ job.policy
  pub allowed : Allowed job c.plan
  pub length_summed : c.length ≡ length_of job.layout (multiplicity c.plan)
  pub picks_meet_lines : (l : OrderLine) → Memᴰ l job.lines → picked c.picks l.article ≡ l.quantity
  pub picks_listed : (x : Pick) → Memᴰ x c.picks → (l : OrderLine) × Memᴰ l job.lines × (x.article ≡ l.article)
  pub picks_taken : (x : Pick) → Memᴰ x c.picks → (r : StockRecord) × TakenFrom job c.plan x r
  pub picks_upwards : Sorted PickBefore c.picks
  pub picks_rule : (r : StockRecord) → Memᴰ r (open_stock job) → plan_passes c.plan r.aisle r.cell ≡ true
      → (l : OrderLine) → Memᴰ l job.lines → l.article ≡ r.article
      → picked_from c.picks r.aisle r.cell ≡ min (l.quantity - picked_before c.picks r.article r.aisle r.cell) r.quantity
  pub walk_of_plan : WalkOf job.layout c.plan c.walk
  pub walk_keeps : KeepsToOpen job.layout job.hours c.walk
  pub walk_first : (walk : Walk) → WalkOf job.layout c.plan walk → NotAfter c.walk walk

-- the plan is allowed and serves the list, the length is its own, and no plan that is allowed and serves the list is shorter;
-- one that is no longer enters no fewer aisles, and if it enters no more, it is the plan itself or comes behind it in the order of plans;
-- under EXACT no closed walk that serves the list and treads no edge of a shut aisle is shorter, whatever its steps, the one of no
-- steps included
pub record Shortest (job : Job) (c : Content) : Type 0 where
  pub allowed : Allowed job c.plan
  pub serves : PlanServes job c.plan
  pub its_length : c.length ≡ plan_length job.layout c.plan
  pub least : (plan : Plan) → Allowed job plan → PlanServes job plan → c.length ≤ plan_length job.layout plan
  pub fewest : (plan : Plan) → Allowed job plan → PlanServes job plan → plan_length job.layout plan ≤ c.length → entered_aisles c.plan ≤ entered_aisles plan
  pub tie : (plan : Plan) → Allowed job plan → PlanServes job plan → plan_length job.layout plan ≤ c.length → entered_aisles plan ≤ entered_aisles c.plan
      → (plan ≡ c.plan) ⊎ PlanBefore job.layout.cells c.plan plan
  pub least_walk : job.policy ≡ Exact → (walk : Walk) → ClosedWalk job.layout walk → KeepsToOpen job.layout job.hours walk → WalkServes job walk
      → c.length ≤ walk_length job.layout walk

-- a plan of the store that treads each edge as often as the walk
pub record TreadsAs (z : Layout) (walk : Walk) (plan : Plan) : Type 0 where
  pub well_formed : WellFormed z plan
  pub treads : (e : Edge) → InStore z e → multiplicity plan e ≡ walk_treads z walk e

-- the planning host's own work area
abbrev pub host_work : List ℕ
host_work = replicate work_limit 0

-- the number that the planning host gets
abbrev pub host_gets : List ℕ → List ℕ → ℕ
host_gets bytes sheet = host_number (host_answer bytes sheet).reply

-- the planning host's call: 65,536 plus a refusal's number exactly if that is the first of the table that applies;
-- below 65,536 exactly if none applies, and then the byte count of the job's sheet, which stands in front
pub record HostCall (bytes sheet : List ℕ) : Type 0 where
  pub refusal : (r : Refusal) → (host_gets bytes sheet ≡ 65536 + number_of r) ↔ FirstCause r bytes sheet host_work
  pub refused : (r : Refusal) → host_gets bytes sheet ≡ 65536 + number_of r → RefusedCall r sheet host_work (host_answer bytes sheet)
  pub serving : (host_gets bytes sheet < 65536) ↔ ((r : Refusal) → Cause r bytes sheet host_work → ⊥)
  pub served : host_gets bytes sheet < 65536 → OfJob bytes (λ job. (host_gets bytes sheet ≡ length (sheet_text job)) × ServedCall job sheet host_work (host_answer bytes sheet))

-- the program's own sheet space
abbrev pub program_sheet : List ℕ
program_sheet = replicate sheet_limit 0

-- the program prints the sheet of a job to which no cause applies
pub record PrintsSheet (bytes : List ℕ) (job : Job) : Type 0 where
  pub file : JobFileOf bytes job
  pub none_applies : (r : Refusal) → Cause r bytes program_sheet host_work → ⊥
  pub text : output bytes ≡ sheet_text job

-- the program prints `R 1` and the number of the first cause that applies, which is neither 9 nor 10
pub record PrintsRefusal (bytes : List ℕ) (r : Refusal) : Type 0 where
  pub first : FirstCause r bytes program_sheet host_work
  pub text : output bytes ≡ header letter_r 1 ++ field line_feed (number_of r)
  pub sheet_suffices : r ≡ SheetSpace → ⊥
  pub work_suffices : r ≡ WorkArea → ⊥
