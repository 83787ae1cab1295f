-- What a call answers, by what it looks at in turn: the work area, the job file, the spaces.
use Prim.Native.Nat.{ℕ, ◌≤◌, ◌<◌}
use mathlib.Core.Path.{◌≡◌, refl, sym, ◌∙◌}
use mathlib.Core.Logic.{◌⊎◌, inl, inr}
use mathlib.Core.List.{List}
use mathlib.Core.Bool.{Bool, true, false}
use lib.Dec.{ltb}
use lib.ListN.{length, replicate}
use borrow.Author.Tests.{ltb-true, ltb-false}
use Rattle.rules.specs.declared.Refusal.{Refusal}
use Rattle.rules.specs.declared.Refusal.TheVariants.{WorkArea}
use Rattle.std.specs.declared.result.Result.TheVariants.{Err}
use Rattle.rules.specs.Jobs.{Job}
use Rattle.rules.specs.Refusals.{good, bad, check_bytes, work_limit, work_after}
use Rattle.rules.specs.Sheet.{sheet_text}
use Rattle.rules.specs.Answers.{Reply, refused, answer}
use Rattle.rules.proofs.Answering.{answer_area, answer_bad, answer_long, answer_served, file_refusal_lem}
use Rattle.finishing.specs.declared.RoutedJob.{RoutedJob}
use Rattle.values.specs.Values.{job_of}
use Rattle.finishing.specs.Answered.{written, Replied}
use Rattle.finishing.proofs.Replies.{written_clears}
use Rattle.planner.specs.Answered.{Answered}
use Rattle.planner.specs.Tried.{Routes, Stops}

-- a refusal that leaves the work area as it was
pub refusal_answered : (x : Refusal) (before work : List ℕ) → work ≡ work_after x work → Answered (refused x before work) (Err x) before work
unfolding refused
refusal_answered x before work e = record { replied = record { reply = refl; sheet = refl }; work = e }

module _ (bytes before work : List ℕ) where
  -- a refusal that is found before the sheet is tried
  pub stops_answered : (x : Refusal) (numbers : List ℕ) → Stops bytes x work numbers → Answered (answer bytes before work) (Err x) before numbers
  stops_answered x numbers s = rw s.kept (go s.found)
    where
      go : ((x ≡ WorkArea) × (length work < work_limit)) ⊎ ((bad x ≡ check_bytes bytes) × (work_limit ≤ length work)) → Answered (answer bytes before work) (Err x) before work
      go (inl (e, h)) = rw (e, answer_area bytes before work h) (refusal_answered WorkArea before work refl)
      go (inr (e, h)) = rw (answer_bad bytes before work h x (sym e)) (refusal_answered x before work (file_refusal_lem bytes x (sym e) work))

  -- a routed job: its sheet is tried
  answer_written : work_limit ≤ length work → (job : Job) → good job ≡ check_bytes bytes → answer bytes before work ≡ written job before work
  unfolding written
  answer_written h job e = go (ltb (length before) (length (sheet_text job))) refl
    where
      go : (t : Bool) → ltb (length before) (length (sheet_text job)) ≡ t → answer bytes before work ≡ written job before work
      go true t = rw (t, written) (answer_long bytes before work h job (sym e) (ltb-true (length before) (length (sheet_text job)) t))
      go false t = rw (t, written) (answer_served bytes before work h job (sym e) (ltb-false (length before) (length (sheet_text job)) t))

  -- and the work area is all zero
  pub answered_written : work_limit ≤ length work → (job : Job) (reply : Reply) (after zeros : List ℕ) → good job ≡ check_bytes bytes
      → Replied (written job before work) reply after → zeros ≡ replicate (length work) 0 → Answered (answer bytes before work) reply after zeros
  answered_written h job reply after zeros e p z = rw (answer_written h job e) (record { replied = p; work = z ∙ written_clears job before work })

  -- the same of a routed job
  pub routes_answered : (routed : RoutedJob) (reply : Reply) (after numbers : List ℕ) → Routes bytes routed work numbers
      → Replied (written (job_of routed.job) before work) reply after → Answered (answer bytes before work) reply after numbers
  routes_answered routed reply after numbers r p =
      answered_written r.space (job_of routed.job) reply after numbers r.checked p r.cleared
