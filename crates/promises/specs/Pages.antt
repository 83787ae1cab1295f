-- Request #103, the clipboard page: the table with row 11, what a refused and a served page call give, and what the page must say.
use Rattle.std.specs.Prelude.{ℕ, ◌*◌, ◌<◌, ◌/◌, ◌%◌, ◌≡◌, ◌⊎◌, length, take, drop, replicate}
use mathlib.Core.List.{List, ◌++◌, Memᴰ, Permᴰ}
use Rattle.rules.specs.declared.Pick.{Pick}
use Rattle.rules.specs.declared.Refusal.{Refusal}
use Rattle.rules.specs.declared.Refusal.TheVariants.{WorkArea, SheetSpace, PageSpace}
use Rattle.rules.specs.Lists.{concat_of, Sorted}
use Rattle.rules.specs.Jobs.{Job}
use Rattle.rules.specs.JobFile.{line_feed, header, field}
use Rattle.rules.specs.Refusals.{number_of, cleared}
use Rattle.rules.specs.Page.{page_line, pick_cell, FirstStep, ReachedBefore, page_text}
use Rattle.rules.specs.Answers.{answer, reply_number, reply_length, host_answer, host_number, letter_r}
use Rattle.rules.specs.PageAnswers.{PageAnswer, page_answer, host_page_answer, host_page_number, page_limit, page_output}
use Rattle.promises.specs.Causes.{JobFileOf, OfJob, Cause, table_row}
use Rattle.promises.specs.Contents.{Content}
use Rattle.promises.specs.Calls.{ServedCall, Shows, host_work, program_sheet}

-- the causes of the table for a call that is lent a page too: those of document 01, and "where the page is longer than its space"
unfoldable pub PageCause : Refusal → (bytes sheet page work : List ℕ) → Type 0
PageCause r bytes sheet page work =
    Cause r bytes sheet work ⊎ ((r ≡ PageSpace) × OfJob bytes (λ job. length page < length (page_text job)))

-- a refusal is the first of this table that applies
pub record FirstPageCause (r : Refusal) (bytes sheet page work : List ℕ) : Type 0 where
  pub applies : PageCause r bytes sheet page work
  pub none_above : (q : Refusal) → table_row q < table_row r → PageCause q bytes sheet page work → ⊥

-- a refused page call: the table's number, length 0 and page count 0, sheet and page as they were; the work area as it was too,
-- but all zero where the sheet or the page is longer than its space
pub record RefusedPageCall (r : Refusal) (sheet page work : List ℕ) (a : PageAnswer) : Type 0 where
  pub number : reply_number a.call.reply ≡ number_of r
  pub count : reply_length a.call.reply ≡ 0
  pub page_count : a.count ≡ 0
  pub sheet_kept : a.call.sheet ≡ sheet
  pub page_kept : a.page ≡ page
  pub work_left : (r ≡ SheetSpace → ⊥) → (r ≡ PageSpace → ⊥) → a.call.work ≡ work
  pub work_cleared : (r ≡ SheetSpace) ⊎ (r ≡ PageSpace) → a.call.work ≡ cleared work

-- a served page call: what a served call gives, and the page's byte count, the text of the job's page in front, every byte behind it
-- as it was
pub record ServedPageCall (job : Job) (sheet page work : List ℕ) (a : PageAnswer) : Type 0 where
  pub call : ServedCall job sheet work a.call
  pub page_count : a.count ≡ length (page_text job)
  pub text : take (length (page_text job)) a.page ≡ page_text job
  pub behind : drop (length (page_text job)) a.page ≡ drop (length (page_text job)) page
  pub same_space : length a.page ≡ length page

-- the picks of a sheet, rearranged: the walk on the sheet reaches the cell of each, and for two of them in this order the first step to
-- the one's cell comes before the first step to the other's
pub record AlongTheWalk (job : Job) (c : Content) (order : List Pick) : Type 0 where
  pub rearranged : Permᴰ order c.picks
  pub reached : (x : Pick) → Memᴰ x order → (n : ℕ) × FirstStep job.layout c.walk (pick_cell x) n
  pub in_order : Sorted (ReachedBefore job.layout c.walk) order

-- a page call shows c on its sheet, as the call without a page does, and its page has the lines of these picks, each of 25 bytes
pub record ShowsPage (bytes sheet page work : List ℕ) (job : Job) (c : Content) (order : List Pick) : Type 0 where
  pub shows : Shows bytes sheet work job c
  pub as_plan : (page_answer bytes sheet page work).call ≡ answer bytes sheet work
  pub along : AlongTheWalk job c order
  pub text : take (page_answer bytes sheet page work).count (page_answer bytes sheet page work).page ≡ concat_of page_line order
  pub lines : (x : Pick) → Memᴰ x order → length (page_line x) ≡ 25
  pub count : (page_answer bytes sheet page work).count ≡ 25 * length c.picks

-- the number that the planning host gets for a page call
abbrev pub host_page_gets : List ℕ → List ℕ → List ℕ → ℕ
host_page_gets bytes sheet page = host_page_number (host_page_answer bytes sheet page)

-- its high 32 bits are the page's byte count, its low 32 bits the number of `plan_sheet` for this reply; where that is not 65,547
-- (refusal 11), reply, sheet and number are those of `plan_sheet`
pub record HostPageCall (bytes sheet page : List ℕ) : Type 0 where
  pub high : host_page_gets bytes sheet page / 4294967296 ≡ (host_page_answer bytes sheet page).count
  pub low : host_page_gets bytes sheet page % 4294967296 ≡ host_number (host_page_answer bytes sheet page).call.reply
  pub as_plan : (host_page_gets bytes sheet page % 4294967296 ≡ 65547 → ⊥) → (host_page_answer bytes sheet page).call ≡ host_answer bytes sheet

-- the program's own page space
abbrev pub program_page : List ℕ
program_page = replicate page_limit 0

-- the program `page` prints the page of a job to which no cause applies
pub record PrintsPage (bytes : List ℕ) (job : Job) : Type 0 where
  pub file : JobFileOf bytes job
  pub none_applies : (r : Refusal) → PageCause r bytes program_sheet program_page host_work → ⊥
  pub text : page_output bytes ≡ page_text job

-- it prints `R 1` and the number of the first cause that applies, which is none of 9, 10 and 11
pub record PrintsPageRefusal (bytes : List ℕ) (r : Refusal) : Type 0 where
  pub first : FirstPageCause r bytes program_sheet program_page host_work
  pub text : page_output bytes ≡ header letter_r 1 ++ field line_feed (number_of r)
  pub sheet_suffices : r ≡ SheetSpace → ⊥
  pub work_suffices : r ≡ WorkArea → ⊥
  pub page_suffices : r ≡ PageSpace → ⊥
