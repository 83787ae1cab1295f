-- The byte counts that a page call returns: at most 16,384 for the sheet, at most 6,375 for the page.
use Prim.Native.Nat.{ℕ, ◌≤◌, ◌<◌, ◌/◌, ◌%◌}
use native.Mathlib.Omega.{arith}
use mathlib.Core.Path.{◌≡◌, refl, sym}
use mathlib.Core.List.{List}
use mathlib.Core.Bool.{Bool, true, false}
use lib.Dec.{ltb}
use lib.ListN.{length}
use borrow.Author.Tests.{ltb-true, ltb-false}
use Rattle.rules.specs.declared.Refusal.{Refusal}
use Rattle.rules.specs.declared.Refusal.TheVariants.{WorkArea, SheetSpace, PageSpace}
use Rattle.rules.specs.Answers.{Reply}
use Rattle.std.specs.declared.result.Result.TheVariants.{Ok, Err}
use Rattle.rules.specs.Jobs.{Job}
use Rattle.rules.specs.Refusals.{Admitted, Checked, good, bad, check_bytes, work_limit}
use Rattle.rules.specs.Sheet.{sheet_text}
use Rattle.rules.specs.Page.{page_text}
use Rattle.rules.specs.Answers.{reply_length, sheet_limit, refused, served, host_number}
use Rattle.rules.specs.PageAnswers.{PageAnswer, page_refused, page_served, page_limit, page_answer, host_page_number}
use Rattle.rules.proofs.Answering.{number_small, answer_area, answer_bad}
use Rattle.rules.proofs.PageAnswering.{page_refused_lem}
use Rattle.finishing.specs.Paged.{page_written}
use Rattle.planner.proofs.Space.{sheet_suffices, checked_admitted}
use Rattle.finishing.proofs.PageLaws.{page_suffices}
use Rattle.planner.proofs.PageReplies.{answer_written}

pub record CountsWithin (a : PageAnswer) : Type 0 where
  pub sheet : reply_length a.call.reply ≤ sheet_limit
  pub page : a.count ≤ page_limit

module _ (sheet page work : List ℕ) where
  -- a refusal returns 0 for both
  refused_within : (r : Refusal) → CountsWithin (page_refused r sheet page work)
  unfolding page_refused refused
  refused_within r = record { sheet = omega arith; page = omega arith }

  -- an admitted job has texts within the limits
  written_within : (job : Job) → Admitted job → CountsWithin (page_written job sheet page work)
  unfolding page_written page_served served
  written_within job a = go (ltb (length sheet) (length (sheet_text job))) (ltb (length page) (length (page_text job)))
    where
      go : (s t : Bool) → CountsWithin (elim s as (λ b. PageAnswer) [
        | true ↦ page_refused SheetSpace sheet page work
        | false ↦ elim t as (λ b. PageAnswer) [ true ↦ page_refused PageSpace sheet page work | false ↦ page_served job sheet page work ]
      ])
      go true t = refused_within SheetSpace
      go false true = refused_within PageSpace
      go false false = record { sheet = sheet_suffices job a; page = page_suffices job a }

-- the byte counts of every page call
pub counts_within : (bytes sheet page work : List ℕ) → CountsWithin (page_answer bytes sheet page work)
counts_within bytes sheet page work = go (ltb (length work) work_limit) refl
  where
    checked : work_limit ≤ length work → (c : Checked) → check_bytes bytes ≡ c → CountsWithin (page_answer bytes sheet page work)
    checked h (good job) e = rw (answer_written bytes sheet page work h job (sym e)) (written_within sheet page work job (checked_admitted bytes job e))
    checked h (bad r) e = rw (page_refused_lem bytes sheet page work r (answer_bad bytes sheet work h r e)) (refused_within sheet page work r)

    go : (t : Bool) → ltb (length work) work_limit ≡ t → CountsWithin (page_answer bytes sheet page work)
    go true t = rw (page_refused_lem bytes sheet page work WorkArea (answer_area bytes sheet work (ltb-true (length work) work_limit t))) (refused_within sheet page work WorkArea)
    go false t = checked (ltb-false (length work) work_limit t) (check_bytes bytes) refl

-- a host's number fits 32 bits, where byte counts are at most 16,384
number_fits : (q : Reply) → reply_length q ≤ sheet_limit → host_number q < 4294967296
number_fits (Ok n) h = omega arith
number_fits (Err r) h = omega (arith, number_small r)

-- so a page call's number has the reply's in its low half, and the page's byte count in its high half
pub halves : (a : PageAnswer) → CountsWithin a → (host_page_number a % 4294967296 ≡ host_number a.call.reply) × (host_page_number a / 4294967296 ≡ a.count)
unfolding host_page_number
halves a w = let fits = number_fits a.call.reply w.sheet in (omega arith, omega arith)
