-- The planning host's page call and what the program `page` prints (#103).
use Prim.Native.Nat.{ℕ}
use native.Mathlib.Omega.{arith}
use mathlib.Core.Path.{◌≡◌, ap, ◌∙◌, subst}
use mathlib.Core.Logic.{◌⊎◌, inl, inr}
use mathlib.Core.List.{List}
use lib.ListN.{length, take, drop, length-replicate}
use lib.Seq.{take-append_seam}
use Rattle.rules.specs.declared.Refusal.{Refusal}
use Rattle.std.specs.declared.result.Result.TheVariants.{Err}
use Rattle.rules.specs.Jobs.{Job}
use Rattle.rules.specs.Refusals.{work_limit, page_table, first_row}
use Rattle.rules.specs.Page.{page_text}
use Rattle.rules.specs.Answers.{refused, served, sheet_limit, host_answer, host_number}
use Rattle.rules.specs.PageAnswers.{PageAnswer, page_refused, page_served, page_decided, page_answer, host_page_answer, page_limit, page_printed, page_output}
use Rattle.planner.proofs.PageSpace.{counts_within, halves}
use Rattle.promises.specs.Causes.{Cause}
use Rattle.promises.specs.Calls.{host_work, program_sheet}
use Rattle.promises.specs.Pages.{HostPageCall, program_page, PrintsPage, PrintsPageRefusal}
use Rattle.promises.proofs.Table.{job_file_read, refused_for}
use Rattle.promises.proofs.Host.{space_suffices, work_suffices}
use Rattle.promises.proofs.Program.{read_start}
use Rattle.promises.proofs.PageCalls.{PageGives, by_table, by_page, by_serving, page_gives, table_first, none_first, as_without_page}
use Rattle.promises.proofs.Clipboard.{page_space}

-- the two halves of the planning host's number
pub host_page : (bytes sheet page : List ℕ) → HostPageCall bytes sheet page
unfolding host_page_answer host_answer
host_page bytes sheet page =
    let (low, high) = halves (page_answer bytes sheet page host_work) (counts_within bytes sheet page host_work) in
    record {
      high = high;
      low = low;
      as_plan = λ n. as_without_page bytes sheet page host_work (λ e. n (low ∙ ap host_number e));
    }

-- the program prints what the page call's reply, count and page say
printed_answer : (bytes : List ℕ) (a : PageAnswer) → page_answer bytes program_sheet program_page host_work ≡ a → page_output bytes ≡ page_printed a.call.reply a.count a.page
unfolding page_output host_page_answer
printed_answer bytes a e = ap (λ x. page_printed x.call.reply x.count x.page) e

-- the page, or `R 1` and a line with the refusal's number
pub page_prints_lem : (bytes : List ℕ) → ((job : Job) × PrintsPage bytes job) ⊎ ((r : Refusal) × PrintsPageRefusal bytes r)
unfolding page_refused page_served refused served
page_prints_lem bytes = go (page_gives bytes program_sheet program_page host_work)
  where
    go : PageGives bytes program_sheet program_page host_work → ((job : Job) × PrintsPage bytes job) ⊎ ((r : Refusal) × PrintsPageRefusal bytes r)
    go (by_table r f e) =
        let reply = refused_for bytes program_sheet host_work r f in
        inr (
          r,
          record {
            first = table_first bytes program_sheet program_page host_work r f;
            text = printed_answer bytes (page_refused r program_sheet program_page host_work) e;
            sheet_suffices = λ h. space_suffices bytes program_sheet host_work (omega (arith, length-replicate {A = ℕ} sheet_limit 0)) (ap (λ a. a.reply) reply ∙ ap Err h);
            work_suffices = λ h. work_suffices bytes program_sheet host_work (omega (arith, length-replicate {A = ℕ} work_limit 0)) (ap (λ a. a.reply) reply ∙ ap Err h);
            page_suffices = λ h. subst (λ q. Cause q bytes program_sheet host_work) h f.applies;
          },
        )
    go (by_page job read none l e) =
        absurd (page_space bytes program_sheet program_page host_work (omega (arith, length-replicate {A = ℕ} page_limit 0)) (ap (λ a. a.call.reply) e))
    go (by_serving job read none l a e) =
        let text = page_text job in
        inl (
          job,
          record {
            file = (job_file_read bytes job).0 read;
            none_applies = none_first bytes program_sheet program_page host_work job read none l;
            text = printed_answer bytes (page_served job program_sheet program_page host_work) e ∙ take-append_seam text (drop (length text) program_page);
          },
        )

-- what the program prints for the first 16,385 bytes is what it prints for all of them
pub page_output_start : (bytes : List ℕ) → page_output (take 16385 bytes) ≡ page_output bytes
unfolding page_output host_page_answer page_answer
page_output_start bytes =
    ap (λ read. let a = page_decided (first_row (page_table read program_sheet program_page host_work)) read program_sheet program_page host_work in page_printed a.call.reply a.count a.page)
    (read_start bytes)
