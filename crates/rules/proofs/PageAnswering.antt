-- What a page call answers (#103): as the call without a page where that is refused, and else by the page's space.
use Prim.Native.Nat.{ℕ, ◌≤◌, ◌<◌}
use native.Mathlib.Omega.{arith}
use mathlib.Core.Path.{◌≡◌, refl, ◌∙◌, ap}
use mathlib.Core.List.{List, [], ◌∷◌}
use mathlib.Core.Bool.{Bool, true, false}
use mathlib.Core.Option.{Option, none, some}
use lib.Dec.{ltb}
use lib.ListN.{length}
use borrow.Author.Tests.{lt-ltb, le-ltb}
use Rattle.rules.specs.declared.Refusal.{Refusal}
use Rattle.rules.specs.declared.Refusal.TheVariants.{WorkArea, NotAJobFile, PageSpace}
use Rattle.std.specs.declared.result.Result.TheVariants.{Ok, Err}
use Rattle.rules.specs.Jobs.{Job}
use Rattle.rules.specs.JobFile.{read_job}
use Rattle.rules.specs.Sheet.{sheet_text}
use Rattle.rules.specs.Page.{page_text}
use Rattle.rules.specs.Refusals.{work_limit, of_job, table, page_table, first_row}
use Rattle.rules.specs.Answers.{refused, served, decided, answer}
use Rattle.rules.specs.PageAnswers.{PageAnswer, page_refused, page_served, page_decided, page_answer}
use Rattle.rules.proofs.Answering.{or_rows, rows_append}

module _ (sheet page work : List ℕ) where
  -- the page's row, for what the bytes read as
  abbrev page_row : Option Job → List (Bool × Refusal)
  page_row read = (of_job read (λ job. ltb (length page) (length (page_text job))), PageSpace) ∷ []

  -- the page call's answer, when the first of the other rows that applies is that
  abbrev page_by : Option Refusal → Option Job → PageAnswer
  page_by q read = page_decided (or_rows q (page_row read)) read sheet page work

module _ (bytes sheet page work : List ℕ) where
  -- the rows of document 01 come first
  by_rows : page_answer bytes sheet page work ≡ page_by sheet page work (first_row (table (read_job bytes) sheet work)) (read_job bytes)
  unfolding page_answer page_table
  by_rows = ap (λ q. page_decided q (read_job bytes) sheet page work) (rows_append (table (read_job bytes) sheet work) (page_row sheet page work (read_job bytes)))

  -- a call that is refused without a page is refused with one
  pub page_refused_lem : (r : Refusal) → answer bytes sheet work ≡ refused r sheet work → page_answer bytes sheet page work ≡ page_refused r sheet page work
  unfolding answer refused served
  page_refused_lem r e = by_rows ∙ go (read_job bytes) (first_row (table (read_job bytes) sheet work)) refl (ap (λ a. a.reply) e)
    where
      go : (read : Option Job) (q : Option Refusal) → first_row (table read sheet work) ≡ q → (decided q read sheet work).reply ≡ Err r
          → page_by sheet page work q read ≡ page_refused r sheet page work
      go read (some p) t f = let same : p ≡ r = cc in ap (λ x. page_refused x sheet page work) same
      go (some job) none t f = let z : ◌≡◌ {A = ℕ} 0 1 = cc in absurd (omega arith)
      go none none t f = absurd (never _ (ltb (length work) work_limit) t)
        where
          never : (rows : List (Bool × Refusal)) (b : Bool) → first_row ((b, WorkArea) ∷ (true, NotAJobFile) ∷ rows) ≡ none → ⊥
          never rows true h = let z : ◌≡◌ {A = ℕ} 0 1 = cc in omega arith
          never rows false h = let z : ◌≡◌ {A = ℕ} 0 1 = cc in omega arith

  module _ (job : Job) (read : read_job bytes ≡ some job) (e : answer bytes sheet work ≡ served job sheet work) where
    -- of a call that is served without a page the page's space decides
    by_space : page_answer bytes sheet page work ≡ page_decided (first_row (page_row sheet page work (some job))) (some job) sheet page work
    unfolding answer refused served
    by_space = by_rows ∙ go (read_job bytes) read (first_row (table (read_job bytes) sheet work)) (ap (λ a. a.reply) e)
      where
        go : (o : Option Job) → o ≡ some job → (q : Option Refusal) → (decided q o sheet work).reply ≡ Ok (length (sheet_text job))
            → page_by sheet page work q o ≡ page_decided (first_row (page_row sheet page work (some job))) (some job) sheet page work
        go o f none g = ap (page_by sheet page work none) f
        go o f (some r) g = let z : ◌≡◌ {A = ℕ} 0 1 = cc in absurd (omega arith)

    -- a page that is longer than its space
    pub page_long : length page < length (page_text job) → page_answer bytes sheet page work ≡ page_refused PageSpace sheet page work
    page_long l = by_space ∙ ap (λ b. page_decided (first_row ((b, PageSpace) ∷ [])) (some job) sheet page work) (lt-ltb (length page) (length (page_text job)) l)

    -- and a page that has space
    pub page_served_lem : length (page_text job) ≤ length page → page_answer bytes sheet page work ≡ page_served job sheet page work
    page_served_lem l = by_space ∙ ap (λ b. page_decided (first_row ((b, PageSpace) ∷ [])) (some job) sheet page work) (le-ltb (length page) (length (page_text job)) l)
