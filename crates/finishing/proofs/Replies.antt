-- What is answered by what was done: refused before a byte was written, or the texts in front.
use Prim.Native.Nat.{ℕ, ◌≤◌, ◌<◌}
use mathlib.Core.Path.{◌≡◌, refl, ap}
use mathlib.Core.List.{List}
use mathlib.Core.Bool.{Bool, true, false}
use lib.Dec.{ltb}
use lib.ListN.{length, replicate}
use borrow.Author.Tests.{lt-ltb, le-ltb}
use Rattle.rules.specs.declared.Refusal.TheVariants.{SheetSpace, PageSpace}
use Rattle.std.specs.declared.result.Result.TheVariants.{Ok, Err}
use Rattle.rules.specs.Jobs.{Job}
use Rattle.rules.specs.Refusals.{cleared}
use Rattle.rules.specs.Sheet.{sheet_text}
use Rattle.rules.specs.Page.{page_text}
use Rattle.rules.specs.Answers.{Answer, refused, served}
use Rattle.rules.specs.PageAnswers.{PageAnswer, page_refused, page_served}
use Rattle.lines.specs.Written.{Written}
use Rattle.finishing.specs.Answered.{written, Replied}
use Rattle.finishing.specs.Paged.{page_written, PageReplied}

module _ (job : Job) (before work : List ℕ) where
  -- a sheet space that is shorter than the text
  pub replied_short : length before < length (sheet_text job) → Replied (written job before work) (Err SheetSpace) before
  unfolding written refused
  replied_short h = rw (lt-ltb (length before) (length (sheet_text job)) h, written) (record { reply = refl; sheet = refl })

  -- a sheet space with the text in front
  pub replied_written : (after : List ℕ) (n : ℕ) → length (sheet_text job) ≤ length before → Written (sheet_text job) before after n → Replied (written job before work) (Ok n) after
  unfolding written served
  replied_written after n h w =
      rw (le-ltb (length before) (length (sheet_text job)) h, written) (record { reply = ap Ok w.count; sheet = w.bytes })

  -- either way the work area is all zero
  pub written_clears : replicate (length work) 0 ≡ (written job before work).work
  unfolding written refused served cleared
  written_clears = go (ltb (length before) (length (sheet_text job)))
    where
      go : (t : Bool) → cleared work ≡ (elim t as (λ b. Answer) [ true ↦ refused SheetSpace before work | false ↦ served job before work ]).work
      go true = refl
      go false = refl

module _ (job : Job) (sheet page work : List ℕ) where
  -- a sheet space that is shorter than the sheet
  pub sheet_short : length sheet < length (sheet_text job) → PageReplied (page_written job sheet page work) (Err SheetSpace) sheet page
  unfolding page_written page_refused refused
  sheet_short h =
      rw (lt-ltb (length sheet) (length (sheet_text job)) h, page_written) (record { replied = record { reply = refl; sheet = refl }; count = refl; page = refl })

  module _ (h : length (sheet_text job) ≤ length sheet) where
    -- one that suffices, and a page space that is shorter than the page
    pub page_short : length page < length (page_text job) → PageReplied (page_written job sheet page work) (Err PageSpace) sheet page
    unfolding page_written page_refused refused
    page_short k =
        rw (le-ltb (length sheet) (length (sheet_text job)) h, lt-ltb (length page) (length (page_text job)) k, page_written)
        (record { replied = record { reply = refl; sheet = refl }; count = refl; page = refl })

    -- both suffice, and the texts are in front
    pub both_written : (after behind : List ℕ) (n m : ℕ) → length (page_text job) ≤ length page → Written (sheet_text job) sheet after n → Written (page_text job) page behind m
        → PageReplied (page_written job sheet page work) (Ok (record { sheet = n; page = m })) after behind
    unfolding page_written page_served served
    both_written after behind n m k w v =
        rw (le-ltb (length sheet) (length (sheet_text job)) h, le-ltb (length page) (length (page_text job)) k, page_written)
        (record { replied = record { reply = ap Ok w.count; sheet = w.bytes }; count = v.count; page = v.bytes })

  -- whichever it is, the work area is all zero
  pub page_written_clears : replicate (length work) 0 ≡ (page_written job sheet page work).call.work
  unfolding page_written page_refused page_served refused served cleared
  page_written_clears = go (ltb (length sheet) (length (sheet_text job))) (ltb (length page) (length (page_text job)))
    where
      go : (s t : Bool) → cleared work ≡ (elim s as (λ b. PageAnswer) [
        | true ↦ page_refused SheetSpace sheet page work
        | false ↦ elim t as (λ b. PageAnswer) [ true ↦ page_refused PageSpace sheet page work | false ↦ page_served job sheet page work ]
      ]).call.work
      go true t = refl
      go false true = refl
      go false false = refl
