-- Document 02, request #103, the calls that are lent a page too: what each answers and what it leaves in lent space.
use Rattle.std.specs.Prelude.{ℕ, ◌+◌, ◌*◌, List, ◌++◌, length, take, drop, replicate}
use Rattle.std.proofs.Math.Option.{Option, none, some}
use Rattle.rules.specs.declared.Refusal.{Refusal}
use Rattle.rules.specs.declared.Refusal.TheVariants.{NotAJobFile}
use Rattle.rules.specs.Answers.{Reply}
use Rattle.std.specs.declared.result.Result.TheVariants.{Ok, Err}
use Rattle.rules.specs.Jobs.{Job}
use Rattle.rules.specs.JobFile.{read_job}
use Rattle.rules.specs.Refusals.{work_limit, page_table, first_row}
use Rattle.rules.specs.Page.{page_text}
use Rattle.rules.specs.Answers.{Answer, refused, served, host_number, sheet_limit, printed}

-- what a page call answers and leaves: as `plan` does, and also the page's byte count and what the lent page holds
pub record PageAnswer : Type 0 where
  pub call : Answer
  pub count : ℕ
  pub page : List ℕ

-- a refusal: count 0, and the page as it was
unfoldable pub page_refused : Refusal → List ℕ → List ℕ → List ℕ → PageAnswer
page_refused r sheet page work = record { call = refused r sheet work; count = 0; page = page }

-- a served job: the text of its page in front, bytes past it unchanged
unfoldable pub page_served : Job → List ℕ → List ℕ → List ℕ → PageAnswer
page_served job sheet page work =
    record {
      call = served job sheet work;
      count = length (page_text job);
      page = page_text job ++ drop (length (page_text job)) page;
    }

-- refused by a row of the table, or else served. (Where no row applies the bytes read as a job; the last line only stands in)
abbrev pub page_decided : Option Refusal → Option Job → List ℕ → List ℕ → List ℕ → PageAnswer
page_decided (some r) read sheet page work = page_refused r sheet page work
page_decided none (some job) sheet page work = page_served job sheet page work
page_decided none none sheet page work = page_refused NotAJobFile sheet page work

-- the library call on job bytes, lent sheet, lent page and lent work area: the first row of the table that applies decides
unfoldable pub page_answer : List ℕ → List ℕ → List ℕ → List ℕ → PageAnswer
page_answer bytes sheet page work =
    let read = read_job bytes in page_decided (first_row (page_table read sheet page work)) read sheet page work

-- the planning host's call brings its own work area
unfoldable pub host_page_answer : List ℕ → List ℕ → List ℕ → PageAnswer
host_page_answer bytes sheet page = page_answer bytes sheet page (replicate work_limit 0)

-- the planning host's number: the page's byte count times 2^32, plus the number of `plan_sheet`
unfoldable pub host_page_number : PageAnswer → ℕ
host_page_number a = a.count * 4294967296 + host_number a.call.reply

-- page space that always suffices: 255 lines of 25 bytes
abbrev pub page_limit : ℕ
page_limit = 6375

-- what the program `page` prints: the page, or `R 1` and a line with the refusal's number
abbrev pub page_printed : Reply → ℕ → List ℕ → List ℕ
page_printed (Ok n) count page = take count page
page_printed (Err r) count page = printed (Err r) page

-- its output for job bytes, in sheet space and page space that always suffice
unfoldable pub page_output : List ℕ → List ℕ
page_output bytes =
    let a = host_page_answer bytes (replicate sheet_limit 0) (replicate page_limit 0) in
    page_printed a.call.reply a.count a.page
