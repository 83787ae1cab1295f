-- What the program prints: the sheet of the job, or the number of the first cause that applies. A job longer than 16,384 bytes is
-- refused, not cut: its first 16,385 bytes get the same text.
use Prim.Native.Nat.{ℕ, ◌≤◌, ◌<◌}
use native.Mathlib.Omega.{arith}
use mathlib.Core.Path.{◌≡◌, refl, sym, ap, ◌∙◌}
use mathlib.Core.Logic.{◌⊎◌, inl, inr}
use mathlib.Core.List.{List, ◌++◌}
use mathlib.Core.Bool.{Bool, true, false}
use mathlib.Core.Option.{none}
use borrow.Author.Tests.{leb-true, leb-false, lt-leb, le-ltb}
use lib.Dec.{leb}
use lib.ListN.{length, take, length-take, length-replicate}
use lib.Seq.{take_all}
use Rattle.rules.specs.declared.Refusal.{Refusal}
use Rattle.rules.specs.declared.Refusal.TheVariants.{NotAJobFile}
use Rattle.rules.specs.Answers.{Reply}
use Rattle.std.specs.declared.result.Result.TheVariants.{Ok, Err}
use Rattle.rules.specs.Jobs.{Job}
use Rattle.rules.specs.JobFile.{line_feed, header, field, job_file_limit, read_job}
use Rattle.rules.specs.Refusals.{work_limit, table, first_row}
use Rattle.rules.specs.Answers.{reply_length, sheet_limit, refused, decided, answer, host_answer, letter_r, printed, output}
use Rattle.promises.specs.Calls.{host_work, program_sheet, PrintsSheet, PrintsRefusal}
use Rattle.promises.proofs.Table.{refused_by, served_by}
use Rattle.promises.proofs.Shown.{served_call}
use Rattle.promises.proofs.Host.{space_suffices, work_suffices}

-- the program prints what the library's reply and sheet say
printed_answer : (bytes : List ℕ) (q : Reply) → (answer bytes program_sheet host_work).reply ≡ q → output bytes ≡ printed q (answer bytes program_sheet host_work).sheet
unfolding output host_answer
printed_answer bytes q e = ap (λ p. printed p (answer bytes program_sheet host_work).sheet) e

-- the sheet, or `R 1` and a line with the refusal number
pub prints : (bytes : List ℕ) → ((job : Job) × PrintsSheet bytes job) ⊎ ((r : Refusal) × PrintsRefusal bytes r)
prints bytes = go (answer bytes program_sheet host_work).reply refl
  where
    go : (q : Reply) → (answer bytes program_sheet host_work).reply ≡ q → ((job : Job) × PrintsSheet bytes job) ⊎ ((r : Refusal) × PrintsRefusal bytes r)
    go (Ok n) e =
        let (job, file, s) = served_call bytes program_sheet host_work n e in
        let count = sym (ap reply_length e) ∙ s.count in
        let text = printed_answer bytes (Ok n) e ∙ ap (λ k. take k (answer bytes program_sheet host_work).sheet) count ∙ s.text in
        inl (job, record { file = file; none_applies = served_by bytes program_sheet host_work n e; text = text })
    go (Err r) e =
        inr (
          r,
          record {
            first = refused_by bytes program_sheet host_work r e;
            text = printed_answer bytes (Err r) e;
            sheet_suffices = λ h. space_suffices bytes program_sheet host_work (omega (arith, length-replicate {A = ℕ} sheet_limit 0)) (e ∙ ap Err h);
            work_suffices = λ h. work_suffices bytes program_sheet host_work (omega (arith, length-replicate {A = ℕ} work_limit 0)) (e ∙ ap Err h);
          },
        )

-- more than 16,384 bytes are no job file
read_longer : (bytes : List ℕ) → job_file_limit < length bytes → read_job bytes ≡ none
unfolding read_job
read_longer bytes h = rw (lt-leb (length bytes) job_file_limit h, read_job) refl

-- so every call with a work area that suffices refuses them with 1
longer_answer : (bytes sheet work : List ℕ) → job_file_limit < length bytes → work_limit ≤ length work → (answer bytes sheet work).reply ≡ Err NotAJobFile
unfolding answer refused
longer_answer bytes sheet work l h = rw (read_longer bytes l, le-ltb (length work) work_limit h) refl

pub longer_printed : (bytes : List ℕ) → job_file_limit < length bytes → output bytes ≡ header letter_r 1 ++ field line_feed 1
longer_printed bytes l = printed_answer bytes (Err NotAJobFile) (longer_answer bytes program_sheet host_work l (omega (arith, length-replicate {A = ℕ} work_limit 0)))

-- and it does not matter what follows the first 16,385
pub read_start : (bytes : List ℕ) → read_job (take 16385 bytes) ≡ read_job bytes
read_start bytes = go (leb (length bytes) job_file_limit) refl
  where
    go : (t : Bool) → leb (length bytes) job_file_limit ≡ t → read_job (take 16385 bytes) ≡ read_job bytes
    go true t = ap read_job (take_all 16385 bytes (omega (arith, leb-true (length bytes) job_file_limit t)))
    go false t =
        let h = leb-false (length bytes) job_file_limit t in
        read_longer (take 16385 bytes) (simp length-take (omega arith)) ∙ sym (read_longer bytes h)

answer_same : (bytes others sheet work : List ℕ) → read_job bytes ≡ read_job others → answer bytes sheet work ≡ answer others sheet work
unfolding answer
answer_same bytes others sheet work e = ap (λ read. decided (first_row (table read sheet work)) read sheet work) e

-- what the program prints for the first 16,385 bytes is what it prints for all of them
pub output_start : (bytes : List ℕ) → output (take 16385 bytes) ≡ output bytes
unfolding output host_answer
output_start bytes = ap (λ a. printed a.reply a.sheet) (answer_same (take 16385 bytes) bytes program_sheet host_work (read_start bytes))
