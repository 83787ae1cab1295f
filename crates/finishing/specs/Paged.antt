-- What a page call (#103) answers and leaves, as the definitions say.
use Rattle.std.specs.Prelude.{ℕ, ◌≡◌, List, true, false, ltb, length}
use Rattle.std.specs.declared.result.Result.{Result}
use Rattle.std.specs.declared.result.Result.TheVariants.{Ok, Err}
use Rattle.rules.specs.declared.Refusal.{Refusal}
use Rattle.rules.specs.declared.Refusal.TheVariants.{SheetSpace, PageSpace}
use Rattle.rules.specs.declared.PageReply.{PageReply}
use Rattle.rules.specs.Jobs.{Job}
use Rattle.rules.specs.Sheet.{sheet_text}
use Rattle.rules.specs.Page.{page_text}
use Rattle.rules.specs.Answers.{Reply}
use Rattle.rules.specs.PageAnswers.{PageAnswer, page_refused, page_served}
use Rattle.finishing.specs.Answered.{Replied}

-- a job to which no refusal of 1 to 8 and 12 applies: refused where its sheet, then where its page is longer than its space, or else served
unfoldable pub page_written : Job → List ℕ → List ℕ → List ℕ → PageAnswer
page_written job sheet page work =
    elim (ltb (length sheet) (length (sheet_text job))) [
      | true ↦ page_refused SheetSpace sheet page work
      | false ↦ elim (ltb (length page) (length (page_text job))) [ true ↦ page_refused PageSpace sheet page work | false ↦ page_served job sheet page work ]
    ]

-- the sheet's part of a page call's reply
abbrev pub sheet_reply : Result PageReply Refusal → Reply
sheet_reply (Ok r) = Ok r.sheet
sheet_reply (Err cause) = Err cause

-- the page's byte count in it, 0 for a refused call
abbrev pub page_count : Result PageReply Refusal → ℕ
page_count (Ok r) = r.page
page_count (Err cause) = 0

-- the reply, the page's byte count, every byte of the lent sheet and of the lent page are those of an answer
pub record PageReplied (a : PageAnswer) (r : Result PageReply Refusal) (bytes others : List ℕ) : Type 0 where
  pub replied : Replied a.call (sheet_reply r) bytes
  pub count : page_count r ≡ a.count
  pub page : others ≡ a.page
