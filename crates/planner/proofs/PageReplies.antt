-- What a page call (#103) answers, by what it looks at in turn: the work area, the job file, the spaces.
use Prim.Native.Nat.{ℕ, ◌≤◌, ◌<◌}
use mathlib.Core.Path.{◌≡◌, refl, sym, ◌∙◌}
use mathlib.Core.Logic.{◌⊎◌, inl, inr}
use mathlib.Core.List.{List}
use mathlib.Core.Bool.{Bool, true, false}
use mathlib.Core.Option.{some}
use lib.Dec.{ltb}
use lib.ListN.{length}
use borrow.Author.Tests.{ltb-true, ltb-false}
use Rattle.rules.specs.declared.Refusal.{Refusal}
use Rattle.rules.specs.declared.Refusal.TheVariants.{WorkArea, SheetSpace}
use Rattle.rules.specs.declared.PageReply.{PageReply}
use Rattle.std.specs.declared.result.Result.{Result}
use Rattle.std.specs.declared.result.Result.TheVariants.{Err}
use Rattle.rules.specs.Jobs.{Job}
use Rattle.rules.specs.JobFile.{read_job}
use Rattle.rules.specs.Refusals.{good, bad, check_bytes, work_limit, work_after}
use Rattle.rules.specs.Sheet.{sheet_text}
use Rattle.rules.specs.Page.{page_text}
use Rattle.rules.specs.Answers.{refused, served, answer}
use Rattle.rules.specs.PageAnswers.{page_refused, page_answer}
use Rattle.rules.proofs.Answering.{good_read, answer_area, answer_bad, answer_long, answer_served, file_refusal_lem}
use Rattle.rules.proofs.PageAnswering.{page_refused_lem, page_long, page_served_lem}
use Rattle.values.specs.Values.{job_of}
use Rattle.finishing.specs.declared.RoutedJob.{RoutedJob}
use Rattle.finishing.specs.Paged.{page_written, PageReplied}
use Rattle.finishing.proofs.Replies.{page_written_clears}
use Rattle.planner.specs.Paged.{PageAnswered}
use Rattle.planner.specs.Tried.{Routes, Stops}

-- a refusal that leaves the work area as it was
refusal_answered : (x : Refusal) (sheet page work : List ℕ) → work ≡ work_after x work → PageAnswered (page_refused x sheet page work) (Err x) sheet page work
unfolding page_refused refused
refusal_answered x sheet page work e = record { replied = record { replied = record { reply = refl; sheet = refl }; count = refl; page = refl }; work = e }

module _ (bytes sheet page work : List ℕ) where
  -- a refusal that is found before the sheet is tried
  pub page_stops : (x : Refusal) (numbers : List ℕ) → Stops bytes x work numbers → PageAnswered (page_answer bytes sheet page work) (Err x) sheet page numbers
  page_stops x numbers s = rw s.kept (go s.found)
    where
      go : ((x ≡ WorkArea) × (length work < work_limit)) ⊎ ((bad x ≡ check_bytes bytes) × (work_limit ≤ length work)) → PageAnswered (page_answer bytes sheet page work) (Err x) sheet page work
      go (inl (e, h)) = rw (e, page_refused_lem bytes sheet page work WorkArea (answer_area bytes sheet work h)) (refusal_answered WorkArea sheet page work refl)
      go (inr (e, h)) =
          rw (page_refused_lem bytes sheet page work x (answer_bad bytes sheet work h x (sym e))) (refusal_answered x sheet page work (file_refusal_lem bytes x (sym e) work))

  -- a routed job: its sheet is tried, then its page
  pub answer_written : work_limit ≤ length work → (job : Job) → good job ≡ check_bytes bytes → page_answer bytes sheet page work ≡ page_written job sheet page work
  unfolding page_written
  answer_written h job e = go (ltb (length sheet) (length (sheet_text job))) refl
    where
      read : read_job bytes ≡ some job
      read = good_read bytes job (sym e)

      sheet_fits : ltb (length sheet) (length (sheet_text job)) ≡ false → answer bytes sheet work ≡ served job sheet work
      sheet_fits t = answer_served bytes sheet work h job (sym e) (ltb-false (length sheet) (length (sheet_text job)) t)

      tried : (s : Bool) → ltb (length page) (length (page_text job)) ≡ s → ltb (length sheet) (length (sheet_text job)) ≡ false → page_answer bytes sheet page work ≡ page_written job sheet page work
      tried true s t =
          rw (t, s, page_written) (page_long bytes sheet page work job read (sheet_fits t) (ltb-true (length page) (length (page_text job)) s))
      tried false s t =
          rw (t, s, page_written) (page_served_lem bytes sheet page work job read (sheet_fits t) (ltb-false (length page) (length (page_text job)) s))

      go : (t : Bool) → ltb (length sheet) (length (sheet_text job)) ≡ t → page_answer bytes sheet page work ≡ page_written job sheet page work
      go true t =
          rw (t, page_written) (page_refused_lem bytes sheet page work SheetSpace (answer_long bytes sheet work h job (sym e) (ltb-true (length sheet) (length (sheet_text job)) t)))
      go false t = tried (ltb (length page) (length (page_text job))) refl t

  -- and the work area is all zero
  pub page_routes : (routed : RoutedJob) (reply : Result PageReply Refusal) (after behind numbers : List ℕ) → Routes bytes routed work numbers
      → PageReplied (page_written (job_of routed.job) sheet page work) reply after behind → PageAnswered (page_answer bytes sheet page work) reply after behind numbers
  page_routes routed reply after behind numbers r p =
      rw (answer_written r.space (job_of routed.job) r.checked) (record { replied = p; work = r.cleared ∙ page_written_clears (job_of routed.job) sheet page work })
