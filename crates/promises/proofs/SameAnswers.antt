-- Two job files whose jobs are answered alike get the same answers, byte for byte and number for number.
use Prim.Native.Nat.{ℕ}
use mathlib.Core.Path.{◌≡◌, sym, ◌∙◌, ap}
use mathlib.Core.List.{List}
use mathlib.Core.Option.{Option, none, some}
use lib.ListN.{replicate}
use Rattle.rules.specs.Jobs.{Job}
use Rattle.rules.specs.JobFile.{read_job}
use Rattle.rules.specs.Refusals.{work_limit, table, page_table, first_row}
use Rattle.rules.specs.Looked.{looked_on, looked_in}
use Rattle.rules.specs.Answers.{Answer, decided, answer, host_answer, printed, sheet_limit, output}
use Rattle.rules.specs.PageAnswers.{PageAnswer, page_decided, page_answer, host_page_answer, page_printed, page_limit, page_output}
use Rattle.promises.specs.Causes.{JobFileOf}
use Rattle.promises.specs.OpeningHours.{SameAnswers}
use Rattle.promises.proofs.Table.{job_file_read}

-- what a call and a page call make of bytes that were read so
abbrev called_on : Job → List ℕ → List ℕ → Answer
called_on job sheet work = decided (first_row (table (some job) sheet work)) (some job) sheet work

abbrev page_called_on : Job → List ℕ → List ℕ → List ℕ → PageAnswer
page_called_on job sheet page work = page_decided (first_row (page_table (some job) sheet page work)) (some job) sheet page work

module _ (bytes others : List ℕ) (job other : Job) (f : JobFileOf bytes job) (g : JobFileOf others other) where
  own : read_job bytes ≡ some job
  own = (job_file_read bytes job).1 f

  its : read_job others ≡ some other
  its = (job_file_read others other).1 g

  module _ (calls : (sheet work : List ℕ) → called_on job sheet work ≡ called_on other sheet work) where
    same_call : (sheet work : List ℕ) → answer bytes sheet work ≡ answer others sheet work
    unfolding answer
    same_call sheet work =
        let of : Option Job → Answer = λ read. decided (first_row (table read sheet work)) read sheet work in
        ap of own ∙ calls sheet work ∙ sym (ap of its)

    module _ (pages : (sheet page work : List ℕ) → page_called_on job sheet page work ≡ page_called_on other sheet page work) where
      same_page_call : (sheet page work : List ℕ) → page_answer bytes sheet page work ≡ page_answer others sheet page work
      unfolding page_answer
      same_page_call sheet page work =
          let of : Option Job → PageAnswer = λ read. page_decided (first_row (page_table read sheet page work)) read sheet page work in
          ap of own ∙ pages sheet page work ∙ sym (ap of its)

      -- so all answers are the same, those of the programs too
      pub same_answers : SameAnswers bytes others
      unfolding host_answer host_page_answer output page_output
      same_answers =
          record {
            call = same_call;
            page_call = same_page_call;
            printed = ap (λ (a : Answer). printed a.reply a.sheet) (same_call (replicate sheet_limit 0) (replicate work_limit 0));
            page_prints =
                ap (λ (a : PageAnswer). page_printed a.call.reply a.count a.page)
                (same_page_call (replicate sheet_limit 0) (replicate page_limit 0) (replicate work_limit 0));
          }

  -- where the stock test looks at as many records of the jobs, it does so for the files
  pub same_looked_in : looked_on job ≡ looked_on other → looked_in bytes ≡ looked_in others
  unfolding looked_in
  same_looked_in same =
      let number : Option Job → Option ℕ = λ read. elim read [ none ↦ none | some x ↦ looked_on x ] in
      ap number own ∙ same ∙ sym (ap number its)
