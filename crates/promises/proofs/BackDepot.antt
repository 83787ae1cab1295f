-- Request #109, the depot at the back: a job turned front to back has a tour of equal length, and FRONT changes no answer.
use Prim.Native.Nat.{ℕ, ◌≤◌}
use native.Mathlib.Omega.{arith}
use mathlib.Core.Path.{◌≡◌, refl, ◌∙◌, ap}
use mathlib.Core.List.{List}
use lib.ListN.{length}
use Rattle.rules.specs.declared.Side.TheVariants.{FrontSide}
use Rattle.rules.specs.declared.Layout.{Layout}
use Rattle.rules.specs.declared.Policy.{Policy}
use Rattle.rules.specs.declared.Policy.TheVariants.{Composite}
use Rattle.rules.specs.declared.Posts.TheVariants.{Every, Sided}
use Rattle.rules.specs.declared.Action.TheVariants.{Void}
use Rattle.rules.specs.Jobs.{Job, job_with_posts}
use Rattle.rules.specs.JobFile.{job_text}
use Rattle.rules.specs.Lists.{head_or}
use Rattle.rules.specs.Plans.{Plan, kind_rank, kind_of}
use Rattle.rules.specs.Turned.{turned_plan}
use Rattle.rules.specs.BestPlan.{best_plan}
use Rattle.rules.specs.Sheet.{sheet_text}
use Rattle.rules.specs.Refusals.{work_limit}
use Rattle.rules.specs.Looked.{looked_in}
use Rattle.rules.specs.Answers.{sheet_limit}
use Rattle.rules.specs.Examples.{stocked, own_job, sided, from_behind, midway_cells, midway_turned, either_way, back_cases}
use Rattle.rules.proofs.Admission.{admitted}
use Rattle.rules.proofs.SamePosts.{front_said, same_answer, same_page_answer, same_looked}
use Rattle.rules.proofs.Texts.{admitted_file}
use Rattle.rules.proofs.Cases.{back_cases_hold}
use Rattle.mirror.specs.Turned.{TurnedStore, turned_into}
use Rattle.mirror.proofs.Best.{turned_admitted, turned_shortest}
use Rattle.optimum.proofs.Best.{best_plan_lem}
use Rattle.promises.specs.Causes.{JobFileOf}
use Rattle.promises.specs.Contents.{Content, content_of}
use Rattle.promises.specs.Calls.{Shows}
use Rattle.promises.specs.OpeningHours.{SameAnswers}
use Rattle.promises.proofs.Table.{job_file_read}
use Rattle.promises.proofs.SameAnswers.{same_answers, same_looked_in}
use Rattle.promises.proofs.Shown.{best, shown_best, job_shown, job_shown_in}
use Rattle.promises.proofs.Entering.{one_nine}
use Rattle.promises.proofs.Uprights.{nine_admitted}

-- the turned job is admitted, so its text is a job file; its best plan is as long, since each plan turned is a plan of the other job
pub turned : (job : Job) (y : Layout) → TurnedStore job.layout y
    → (bytes space area : List ℕ) (c : Content) → Shows bytes space area job c
    → (sheet work : List ℕ) → length (sheet_text (turned_into y job)) ≤ length sheet → work_limit ≤ length work
    → (d : Content) × Shows (job_text (turned_into y job)) sheet work (turned_into y job) d × (d.length ≡ c.length)
unfolding content_of
turned job y store bytes space area c s sheet work enough numbers =
    let other = turned_into y job in
    let (a, e) = shown_best bytes space area job c s in
    let b = turned_admitted job y store a in
    let same = turned_shortest job y store a (best_plan job) (best_plan other) (best_plan_lem job a) (best_plan_lem other b) in
    (best other, job_shown_in sheet work other enough numbers (admitted_file other b) b, same ∙ ap (λ (x : Content). x.length) e)

-- FRONT says what is so without a third line
module _ (job : Job) (k u : ℕ) (said unsaid : List ℕ) (f : JobFileOf said (job_with_posts (Sided k u FrontSide) job)) (g : JobFileOf unsaid (job_with_posts (Every k u) job)) where
  pub front_unchanged : SameAnswers said unsaid × (looked_in said ≡ looked_in unsaid)
  front_unchanged =
      let three = Sided k u FrontSide in
      let two = Every k u in
      let same = front_said k u in (
        same_answers said unsaid (job_with_posts three job) (job_with_posts two job) f g (same_answer three two same job) (same_page_answer three two same job),
        same_looked_in said unsaid (job_with_posts three job) (job_with_posts two job) f g (same_looked three two same job),
      )

-- there are such files, under every policy
pub front_files : (policy : Policy)
    → let job = one_nine policy in
    let three = job_with_posts (Sided 2 1 FrontSide) job in
    let two = job_with_posts (Every 2 1) job in
    JobFileOf (job_text three) three × JobFileOf (job_text two) two
front_files policy =
    let job = one_nine policy in
    let three = job_with_posts (Sided 2 1 FrontSide) job in
    let two = job_with_posts (Every 2 1) job in (
      (job_file_read (job_text three) three).0 (admitted_file three (nine_admitted policy (Sided 2 1 FrontSide) (omega arith, omega arith, omega arith))),
      (job_file_read (job_text two) two).0 (admitted_file two (nine_admitted policy (Every 2 1) (omega arith, omega arith, omega arith))),
    )

-- the store whose cells lie midway in its aisles, turned
pub midway_turned_lem : TurnedStore (midway_cells Composite).layout (midway_turned Composite).layout
    × (turned_into (midway_turned Composite).layout (midway_cells Composite) ≡ midway_turned Composite)
unfolding midway_cells midway_turned from_behind sided own_job stocked
midway_turned_lem = (
  record {
    aisles = refl;
    cells = refl;
    front = refl;
    pitch = refl;
    back = refl;
    width = refl;
    depot = refl;
    side = refl;
    no_posts = tt;
    no_posts_there = refl;
    within = (omega arith, omega arith, omega arith);
  },
  refl,
)

-- the first action of a plan, as the rank of its kind
abbrev first_rank : Plan → ℕ
first_rank plan = kind_rank (kind_of (head_or Void plan.actions))

-- both are shown; the plan of the turned job is not the turned plan
module _ (sheet work : List ℕ) (space : sheet_limit ≤ length sheet) (numbers : work_limit ≤ length work) where
  pub midway_shown : Shows (job_text (midway_cells Composite)) sheet work (midway_cells Composite) (best (midway_cells Composite))
      × (best_plan (midway_turned Composite) ≡ turned_plan 5 (best_plan (midway_cells Composite)) → ⊥)
  unfolding back_cases either_way
  midway_shown =
      let (tour, own, a, b) = back_cases_hold.0.0 in
      let (its-tour, its, c, d) = back_cases_hold.0.1.0 in
      let admits = (admitted (midway_cells Composite)).0 tour.admitted in (
        job_shown sheet work space numbers (midway_cells Composite) (admitted_file (midway_cells Composite) admits) admits,
        λ same. omega (arith, ap first_rank its, ap first_rank same, ap (λ (p : Plan). first_rank (turned_plan 5 p)) own),
      )
