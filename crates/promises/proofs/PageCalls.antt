-- Every page call's answer (#103) goes by the table with row 11: a refusal of document 01 first, then the page's space, or none.
use Prim.Native.Nat.{ℕ, ◌≤◌, ◌<◌}
use native.Mathlib.Omega.{arith}
use mathlib.Core.Path.{◌≡◌, refl, sym, ◌∙◌, ap, subst}
use mathlib.Core.Logic.{inl, inr, ⊎_elim, ◌↔◌}
use mathlib.Core.List.{List}
use mathlib.Core.Bool.{Bool, true, false}
use mathlib.Core.Option.{some}
use borrow.Author.Tests.{ltb-true, ltb-false}
use lib.Dec.{ltb}
use lib.ListN.{length, drop, length-append, length-drop}
use lib.Seq.{take-append_seam, drop-append_seam}
use Rattle.rules.specs.declared.Refusal.{Refusal}
use Rattle.rules.specs.declared.Refusal.TheVariants.{PageSpace}
use Rattle.rules.specs.Answers.{Reply}
use Rattle.std.specs.declared.result.Result.TheVariants.{Ok, Err}
use Rattle.rules.specs.Jobs.{Job}
use Rattle.rules.specs.JobFile.{read_job}
use Rattle.rules.specs.Refusals.{work_after}
use Rattle.rules.specs.Sheet.{sheet_text}
use Rattle.rules.specs.Page.{page_text}
use Rattle.rules.specs.Answers.{refused, served, answer}
use Rattle.rules.specs.PageAnswers.{page_refused, page_served, page_answer}
use Rattle.rules.proofs.PageAnswering.{page_refused_lem, page_long, page_served_lem}
use Rattle.tours.proofs.Basics.{same_number}
use Rattle.promises.specs.Causes.{OfJob, table_row, FirstCause}
use Rattle.promises.specs.Calls.{ServedCall}
use Rattle.promises.specs.Pages.{PageCause, FirstPageCause, RefusedPageCall, ServedPageCall}
use Rattle.promises.proofs.Table.{job_file_read, row_of, same_row, NoCause, refused_for, refused_by, served_for, served_by}
use Rattle.promises.proofs.Shown.{kept, served_call}

module _ (bytes sheet page work : List ℕ) where
  -- what a page call gives, and why
  pub data PageGives : Type 0 where
    by_table : (r : Refusal) → FirstCause r bytes sheet work → page_answer bytes sheet page work ≡ page_refused r sheet page work → PageGives
    by_page : (job : Job) → read_job bytes ≡ some job → NoCause bytes sheet work → length page < length (page_text job)
        → page_answer bytes sheet page work ≡ page_refused PageSpace sheet page work → PageGives
    by_serving : (job : Job) → read_job bytes ≡ some job → NoCause bytes sheet work → length (page_text job) ≤ length page
        → answer bytes sheet work ≡ served job sheet work → page_answer bytes sheet page work ≡ page_served job sheet page work → PageGives

  pub page_gives : PageGives
  unfolding refused served
  page_gives = go (answer bytes sheet work).reply refl
    where
      go : (q : Reply) → (answer bytes sheet work).reply ≡ q → PageGives
      go (Err r) e =
          let f = refused_by bytes sheet work r e in
          by_table r f (page_refused_lem bytes sheet page work r (refused_for bytes sheet work r f))
      go (Ok n) e = let (job, read, a) = served_for bytes sheet work (none n e) in by job read (none n e) a (ltb (length page) (length (page_text job))) refl
        where
          none : (n : ℕ) → (answer bytes sheet work).reply ≡ Ok n → NoCause bytes sheet work
          none n e = served_by bytes sheet work n e

          by : (job : Job) → read_job bytes ≡ some job → NoCause bytes sheet work → answer bytes sheet work ≡ served job sheet work
              → (b : Bool) → ltb (length page) (length (page_text job)) ≡ b → PageGives
          by job read none a true t =
              let l = ltb-true (length page) (length (page_text job)) t in by_page job read none l (page_long bytes sheet page work job read a l)
          by job read none a false t =
              let l = ltb-false (length page) (length (page_text job)) t in by_serving job read none l a (page_served_lem bytes sheet page work job read a l)

  -- a refusal of document 01 that is the first there is the first of the whole table
  pub table_first : (r : Refusal) → FirstCause r bytes sheet work → FirstPageCause r bytes sheet page work
  unfolding PageCause
  table_first r f = record { applies = inl f.applies; none_above = λ q l. ⊎_elim (f.none_above q l) (λ c. omega (arith, ap table_row c.0, (row_of r).0)) }

  -- the page's space is the first where none of document 01 applies
  page_first : (job : Job) → read_job bytes ≡ some job → NoCause bytes sheet work → length page < length (page_text job) → FirstPageCause PageSpace bytes sheet page work
  unfolding PageCause
  page_first job read none l =
      record {
        applies = inr (refl, (job, (job_file_read bytes job).0 read, l));
        none_above = λ q k. ⊎_elim (none q) (λ c. omega (arith, ap table_row c.0));
      }

  -- and where that suffices too, none applies
  pub none_first : (job : Job) → read_job bytes ≡ some job → NoCause bytes sheet work → length (page_text job) ≤ length page → (r : Refusal) → PageCause r bytes sheet page work → ⊥
  unfolding PageCause
  none_first job read none l r (inl c) = none r c
  none_first job read none l r (inr (e, (j, file, k))) = let f = (job_file_read bytes j).1 file in let same : j ≡ job = cc in omega (arith, ap (λ x. length (page_text x)) same)

  -- there is one first cause
  one_first : (q r : Refusal) → FirstPageCause q bytes sheet page work → FirstPageCause r bytes sheet page work → q ≡ r
  one_first q r f g = same_row q r (same_number (table_row q) (table_row r) (λ l. g.none_above q l f.applies) (λ l. f.none_above r l g.applies))

  -- the first cause refuses the call, and a refused call has it
  pub refused_page : (r : Refusal) → ((page_answer bytes sheet page work).call.reply ≡ Err r) ↔ FirstPageCause r bytes sheet page work
  unfolding page_refused page_served refused served
  refused_page r = go page_gives
    where
      go : PageGives → ((page_answer bytes sheet page work).call.reply ≡ Err r) ↔ FirstPageCause r bytes sheet page work
      go (by_table q f e) = (
        λ h. (let k = ap (λ a. a.call.reply) e in let same : q ≡ r = cc in subst (λ x. FirstPageCause x bytes sheet page work) same (table_first q f)),
        λ g. ap (λ a. a.call.reply) e ∙ ap Err (one_first q r (table_first q f) g),
      )
      go (by_page job read none l e) = (
        λ h. (let k = ap (λ a. a.call.reply) e in let same : PageSpace ≡ r = cc in subst (λ x. FirstPageCause x bytes sheet page work) same (page_first job read none l)),
        λ g. ap (λ a. a.call.reply) e ∙ ap Err (one_first PageSpace r (page_first job read none l) g),
      )
      go (by_serving job read none l a e) = (
        λ h. (let k = ap (λ x. x.call.reply) e in let z : ◌≡◌ {A = ℕ} 0 1 = cc in absurd (omega arith)),
        λ g. absurd (none_first job read none l r g.applies),
      )

  -- a call is served exactly if no cause applies
  pub serving_page : ((n : ℕ) × ((page_answer bytes sheet page work).call.reply ≡ Ok n)) ↔ ((r : Refusal) → PageCause r bytes sheet page work → ⊥)
  unfolding page_refused page_served refused served
  serving_page = go page_gives
    where
      go : PageGives → ((n : ℕ) × ((page_answer bytes sheet page work).call.reply ≡ Ok n)) ↔ ((r : Refusal) → PageCause r bytes sheet page work → ⊥)
      go (by_table q f e) = (
        λ h. (let k = ap (λ a. a.call.reply) e in let s = h.1 in let z : ◌≡◌ {A = ℕ} 0 1 = cc in absurd (omega arith)),
        λ none. absurd (none q (table_first q f).applies),
      )
      go (by_page job read none l e) = (
        λ h. (let k = ap (λ a. a.call.reply) e in let s = h.1 in let z : ◌≡◌ {A = ℕ} 0 1 = cc in absurd (omega arith)),
        λ n. absurd (n PageSpace (page_first job read none l).applies),
      )
      go (by_serving job read none l a e) = (λ h. none_first job read none l, λ n. (length (sheet_text job), ap (λ x. x.call.reply) e))

  -- a refused call gives what the table says
  pub refused_page_call : (r : Refusal) → (page_answer bytes sheet page work).call.reply ≡ Err r → RefusedPageCall r sheet page work (page_answer bytes sheet page work)
  unfolding page_refused page_served refused served
  refused_page_call r h = go page_gives
    where
      given : (q : Refusal) → page_answer bytes sheet page work ≡ page_refused q sheet page work → RefusedPageCall r sheet page work (page_answer bytes sheet page work)
      given q e =
          let k = ap (λ a. a.call.reply) e in
          let same : q ≡ r = cc in
          rw (e, same) (record {
            number = refl;
            count = refl;
            page_count = refl;
            sheet_kept = refl;
            page_kept = refl;
            work_left = kept r work;
            work_cleared = ⊎_elim (ap (λ x. work_after x work)) (ap (λ x. work_after x work));
          })

      go : PageGives → RefusedPageCall r sheet page work (page_answer bytes sheet page work)
      go (by_table q f e) = given q e
      go (by_page job read none l e) = given PageSpace e
      go (by_serving job read none l a e) = let k = ap (λ x. x.call.reply) e in let z : ◌≡◌ {A = ℕ} 0 1 = cc in absurd (omega arith)

  -- what a served call answers: its job has the page space, and all else is as without a page
  pub served_page : (n : ℕ) → (page_answer bytes sheet page work).call.reply ≡ Ok n
      → (job : Job) × (read_job bytes ≡ some job) × (answer bytes sheet work ≡ served job sheet work) × (length (page_text job) ≤ length page)
      × (page_answer bytes sheet page work ≡ page_served job sheet page work)
  unfolding page_refused refused
  served_page n h = go page_gives
    where
      go : PageGives → (job : Job) × (read_job bytes ≡ some job) × (answer bytes sheet work ≡ served job sheet work) × (length (page_text job) ≤ length page)
          × (page_answer bytes sheet page work ≡ page_served job sheet page work)
      go (by_table q f e) = let k = ap (λ a. a.call.reply) e in let z : ◌≡◌ {A = ℕ} 0 1 = cc in absurd (omega arith)
      go (by_page job read none l e) = let k = ap (λ a. a.call.reply) e in let z : ◌≡◌ {A = ℕ} 0 1 = cc in absurd (omega arith)
      go (by_serving job read none l a e) = (job, read, a, l, e)

  -- a served call gives the sheet and the page of its job
  pub served_page_call : (n : ℕ) → (page_answer bytes sheet page work).call.reply ≡ Ok n → OfJob bytes (λ job. ServedPageCall job sheet page work (page_answer bytes sheet page work))
  unfolding page_served served
  served_page_call n h =
      let (job, read, a, l, e) = served_page n h in
      let (j, file, s) = served_call bytes sheet work (length (sheet_text job)) (ap (λ x. x.reply) a) in
      let other = (job_file_read bytes j).1 file in
      let same : j ≡ job = cc in
      let text = page_text job in (
        job,
        (job_file_read bytes job).0 read,
        rw e (record {
          call = subst (λ x. ServedCall job sheet work x) a (subst (λ i. ServedCall i sheet work (answer bytes sheet work)) same s);
          page_count = refl;
          text = take-append_seam text (drop (length text) page);
          behind = drop-append_seam text (drop (length text) page);
          same_space = simp (length-append, length-drop) (omega arith);
        }),
      )

  -- without refusal 11, reply, sheet and work area are those of the call without a page
  pub as_without_page : ((page_answer bytes sheet page work).call.reply ≡ Err PageSpace → ⊥) → (page_answer bytes sheet page work).call ≡ answer bytes sheet work
  unfolding page_refused page_served refused served
  as_without_page n = go page_gives
    where
      go : PageGives → (page_answer bytes sheet page work).call ≡ answer bytes sheet work
      go (by_table q f e) = ap (λ a. a.call) e ∙ sym (refused_for bytes sheet work q f)
      go (by_page job read none l e) = absurd (n (ap (λ a. a.call.reply) e))
      go (by_serving job read none l a e) = ap (λ x. x.call) e ∙ sym a
