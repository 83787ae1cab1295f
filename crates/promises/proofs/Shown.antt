-- What calls give, and what the sheet of a served call shows: the sheet of the best plan, and nothing else.
use Prim.Native.Nat.{ℕ, ◌≤◌}
use native.Mathlib.Omega.{arith}
use mathlib.Core.Path.{◌≡◌, refl, sym, ◌∙◌, ap, subst}
use mathlib.Core.List.{List, ◌++◌}
use mathlib.Core.Option.{some}
use lib.ListN.{length, take, drop, length-append, length-drop}
use lib.Seq.{take_at, take-append_seam, drop-append_seam}
use Rattle.rules.specs.declared.Refusal.{Refusal}
use Rattle.rules.specs.declared.Refusal.TheVariants.{WorkArea, NotAJobFile, LayoutBounds, StockBounds, CellTwice, HoursBounds, ListBounds, ArticleTwice, TooHeavy, ShortOfStock, SheetSpace, PageSpace}
use Rattle.std.specs.declared.result.Result.TheVariants.{Ok, Err}
use Rattle.rules.specs.Jobs.{Job}
use Rattle.rules.specs.JobFile.{job_text, read_job}
use Rattle.rules.specs.Plans.{plan_length}
use Rattle.rules.specs.BestPlan.{best_plan}
use Rattle.rules.specs.Refusals.{Admitted, cleared, work_limit, work_after}
use Rattle.rules.specs.Sheet.{sheet_of, sheet_text}
use Rattle.rules.specs.Answers.{answer, sheet_limit}
use Rattle.rules.proofs.Admission.{layout_within}
use Rattle.closedwalks.proofs.Statements.{first_walk_lem, walk_keeps}
use Rattle.optimum.proofs.Best.{best_plan_lem}
use Rattle.planner.proofs.Space.{sheet_suffices}
use Rattle.promises.specs.Causes.{OfJob, Cause}
use Rattle.promises.specs.Contents.{Content, content_text, content_of}
use Rattle.promises.specs.Calls.{RefusedCall, ServedCall, Shows, Obeys, Shortest}
use Rattle.promises.proofs.Table.{job_file_read, NoCause, refused_for, refused_by, served_for, served_by, served_admitted, admitted_served}
use Rattle.promises.proofs.Picks.{picks_meet, pick_listed}
use Rattle.rules.proofs.Taken.{pick_taken, picks_ordered}
use Rattle.promises.proofs.PickRule.{picks_rule}
use Rattle.promises.proofs.Texts.{content_determined}
use Rattle.promises.proofs.Best.{best_walk}

-- the sheet of an admitted job
abbrev pub best : Job → Content
best job = content_of job (best_plan job)

pub best_obeys : (job : Job) → Admitted job → Obeys job (best job)
unfolding content_of plan_length
best_obeys job a =
    let b = best_plan_lem job a in
    let depot = ((layout_within job.layout).0 a.layout).depot in
    let w = first_walk_lem job.layout depot.0 depot.1 job.lines (best_plan job) b.allowed.lawful in
    record {
      policy = refl;
      allowed = b.allowed;
      length_summed = refl;
      picks_meet_lines = picks_meet job a (best_plan job) b.serving;
      picks_listed = λ x m. pick_listed job a (best_plan job) x m (pick_taken job (best_plan job) x m).1.some;
      picks_taken = pick_taken job (best_plan job);
      picks_upwards = picks_ordered job (best_plan job);
      picks_rule = picks_rule job a (best_plan job);
      walk_of_plan = w.0;
      walk_keeps = walk_keeps job.hours job.layout (best_plan job) _ b.allowed.shut w.0;
      walk_first = w.1;
    }

pub best_shortest : (job : Job) → Admitted job → Shortest job (best job)
unfolding content_of
best_shortest job a =
    let b = best_plan_lem job a in
    record {
      allowed = b.allowed;
      serves = b.serving;
      its_length = refl;
      least = b.least;
      fewest = b.fewest;
      tie = b.first;
      least_walk = best_walk job a;
    }

-- every refusal but those of the sheet space and of the page space leaves the work area as it was
pub kept : (r : Refusal) (work : List ℕ) → (r ≡ SheetSpace → ⊥) → (r ≡ PageSpace → ⊥) → work_after r work ≡ work
kept WorkArea work n k = refl
kept NotAJobFile work n k = refl
kept LayoutBounds work n k = refl
kept StockBounds work n k = refl
kept CellTwice work n k = refl
kept HoursBounds work n k = refl
kept ListBounds work n k = refl
kept ArticleTwice work n k = refl
kept TooHeavy work n k = refl
kept ShortOfStock work n k = refl
kept SheetSpace work n k = absurd (n refl)
kept PageSpace work n k = absurd (k refl)

module _ (bytes sheet work : List ℕ) where
  -- a refused call gives what the table says
  pub refused_call : (r : Refusal) → (answer bytes sheet work).reply ≡ Err r → RefusedCall r sheet work (answer bytes sheet work)
  refused_call r e =
      let f = refused_by bytes sheet work r e in
      let t = refused_for bytes sheet work r f in
      let no-page : r ≡ PageSpace → ⊥ = λ p. subst (λ q. Cause q bytes sheet work) p f.applies in
      rw t (record { number = refl; count = refl; sheet_kept = refl; work_left = λ n. kept r work n no-page; work_cleared = λ e. ap (λ q. work_after q work) e })

  -- a served call gives the sheet of its job
  pub served_call : (n : ℕ) → (answer bytes sheet work).reply ≡ Ok n → OfJob bytes (λ job. ServedCall job sheet work (answer bytes sheet work))
  served_call n e =
      let none_applies = served_by bytes sheet work n e in
      let (job, read, t) = served_for bytes sheet work none_applies in
      let text = sheet_text job in
      let space = (served_admitted bytes sheet work none_applies job read).1 in (
        job,
        (job_file_read bytes job).0 read,
        rw t (record {
          number = refl;
          count = refl;
          text = take-append_seam text (drop (length text) sheet);
          behind = drop-append_seam text (drop (length text) sheet);
          same_space = simp (length-append, length-drop) (omega arith);
          work_cleared = refl;
        }),
      )

  abbrev Writes : Job → Type 0
  Writes job = answer bytes sheet work ≡ record { reply = Ok (length (content_text (best job))); sheet = content_text (best job) ++ drop (length (content_text (best job))) sheet; work = cleared work }

  written : NoCause bytes sheet work → (job : Job) × (read_job bytes ≡ some job) × Writes job
  unfolding sheet_text sheet_of content_text content_of
  written = served_for bytes sheet work

  -- a served call shows the sheet of its job
  pub shown : (n : ℕ) → (answer bytes sheet work).reply ≡ Ok n → (job : Job) × Shows bytes sheet work job (best job)
  shown n e =
      let (job, read, t) = written (served_by bytes sheet work n e) in (
        job,
        record {
          file = (job_file_read bytes job).0 read;
          served = ap (λ a. a.reply) t;
          text = rw t (take-append_seam (content_text (best job)) (drop (length (content_text (best job))) sheet));
        },
      )

  -- it is admitted, and nothing else is shown
  pub shown_best : (job : Job) (c : Content) → Shows bytes sheet work job c → Admitted job × (best job ≡ c)
  shown_best job c s =
      let none_applies = served_by bytes sheet work (length (content_text c)) s.served in
      let read = (job_file_read bytes job).1 s.file in
      let (j, e, t) = written none_applies in
      ((served_admitted bytes sheet work none_applies job read).0, go j (cc) t)
    where
      go : (j : Job) → j ≡ job → Writes j → best job ≡ c
      go j same t =
          let f = ap (λ a. a.reply) t in
          let count : length (content_text (best j)) ≡ length (content_text c) = cc in
          let text = sym (take_at (content_text (best j)) (drop (length (content_text (best j))) sheet) (length (content_text c)) count) ∙ ap (λ a. take (length (content_text c)) a.sheet) (sym t) ∙ s.text in
          ap best (sym same) ∙ content_determined (best j) c text

-- in space enough a call shows the sheet of an admitted job whose text is read
pub job_shown_in : (sheet work : List ℕ) (job : Job) → length (sheet_text job) ≤ length sheet → work_limit ≤ length work
    → read_job (job_text job) ≡ some job → Admitted job → Shows (job_text job) sheet work job (best job)
job_shown_in sheet work job enough numbers read a =
    let none_applies = admitted_served (job_text job) sheet work job read a numbers enough in
    let (other, e, t) = served_for (job_text job) sheet work none_applies in
    let (found, s) = shown (job_text job) sheet work _ (ap (λ x. x.reply) t) in
    let own = (job_file_read (job_text job) found).1 s.file in
    let same : found ≡ job = cc in
    subst (λ (j : Job). Shows (job_text job) sheet work j (best j)) same s

-- 16,384 bytes are enough
pub job_shown : (sheet work : List ℕ) → sheet_limit ≤ length sheet → work_limit ≤ length work
    → (job : Job) → read_job (job_text job) ≡ some job → Admitted job → Shows (job_text job) sheet work job (best job)
job_shown sheet work space numbers job read a = job_shown_in sheet work job (omega (arith, sheet_suffices job a)) numbers read a
