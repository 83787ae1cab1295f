-- What the page of a served page call shows (#103): the picks of the sheet, each where the walk on the sheet first reaches its cell.
use Prim.Native.Nat.{ℕ, ◌*◌, ◌≤◌, ◌<◌}
use native.Mathlib.Omega.{arith}
use mathlib.Core.Path.{◌≡◌, sym, ◌∙◌, ap, subst}
use mathlib.Core.Logic.{inl, ⊎_elim}
use mathlib.Core.List.{List}
use lib.ListN.{length, take, drop}
use lib.Seq.{take-append_seam}
use Rattle.rules.specs.declared.Pick.{Pick}
use Rattle.rules.specs.declared.Refusal.{Refusal}
use Rattle.rules.specs.declared.Refusal.TheVariants.{SheetSpace, PageSpace}
use Rattle.std.specs.declared.result.Result.TheVariants.{Ok, Err}
use Rattle.rules.specs.Lists.{concat_of}
use Rattle.rules.specs.Jobs.{Job}
use Rattle.rules.specs.BestPlan.{best_plan}
use Rattle.rules.specs.FirstWalk.{first_walk}
use Rattle.rules.specs.Picks.{picks_of}
use Rattle.rules.specs.Refusals.{Admitted}
use Rattle.rules.specs.Sheet.{sheet_text}
use Rattle.rules.specs.Page.{page_line, along_walk, page_of, page_text}
use Rattle.rules.specs.Answers.{answer, served}
use Rattle.rules.specs.PageAnswers.{page_limit, page_served, page_answer}
use Rattle.rules.proofs.WalkOrder.{perm_member, along_ordered, along_only}
use Rattle.finishing.proofs.PageLaws.{pick_reached, picks_apart, page_rearranged, line_length, page_length, page_suffices}
use Rattle.promises.specs.Causes.{OfJob, Cause, table_row}
use Rattle.promises.specs.Contents.{Content, content_of}
use Rattle.promises.specs.Calls.{Shows}
use Rattle.promises.specs.Pages.{PageCause, AlongTheWalk, ShowsPage}
use Rattle.promises.proofs.Table.{job_file_read, above_admitted}
use Rattle.promises.proofs.Shown.{best, shown, shown_best}
use Rattle.promises.proofs.PageCalls.{refused_page, served_page}

-- the order of the page of an admitted job
abbrev order : Job → List Pick
order job = along_walk job.layout (first_walk job.layout (best_plan job)) (picks_of job (best_plan job))

-- it is that of the sheet's picks along the sheet's walk
best_along : (job : Job) → Admitted job → AlongTheWalk job (best job) (order job)
unfolding content_of
best_along job a =
    record {
      rearranged = page_rearranged job a;
      reached = λ x m. pick_reached job a x (perm_member (page_rearranged job a) m);
      in_order = along_ordered job.layout (first_walk job.layout (best_plan job)) (picks_of job (best_plan job)) (picks_apart job a);
    }

-- and no other order is such
only_along : (job : Job) → Admitted job → (other : List Pick) → AlongTheWalk job (best job) other → other ≡ order job
unfolding content_of
only_along job a other t =
    along_only job.layout (first_walk job.layout (best_plan job)) (picks_of job (best_plan job)) other (pick_reached job a) (picks_apart job a) t.rearranged t.in_order

-- the lines of the page, in front of its space
text_there : (job : Job) (sheet page work : List ℕ) → take (length (page_text job)) (page_served job sheet page work).page ≡ concat_of page_line (order job)
unfolding page_served page_text page_of
text_there job sheet page work = take-append_seam (concat_of page_line (order job)) (drop (length (page_text job)) page)

-- 25 bytes for each pick of the sheet
counted : (job : Job) → Admitted job → length (page_text job) ≡ 25 * length (best job).picks
unfolding content_of
counted job a = page_length job a

module _ (bytes sheet page work : List ℕ) where
  -- a served page call shows the sheet and the page of its job
  pub page_shown : (n : ℕ) → (page_answer bytes sheet page work).call.reply ≡ Ok n → (job : Job) × (c : Content) × (picks : List Pick) × ShowsPage bytes sheet page work job c picks
  unfolding page_served served
  page_shown n e =
      let (job, read, a, l, t) = served_page bytes sheet page work n e in
      let (j, s) = shown bytes sheet work (length (sheet_text job)) (ap (λ x. x.reply) a) in
      let other = (job_file_read bytes j).1 s.file in
      let same : job ≡ j = cc in
      let given = subst (λ i. page_answer bytes sheet page work ≡ page_served i sheet page work) same t in
      let whole = subst (λ i. answer bytes sheet work ≡ served i sheet work) same a in
      let ok = (shown_best bytes sheet work j (best j) s).0 in (
        j,
        best j,
        order j,
        record {
          shows = s;
          as_plan = ap (λ x. x.call) given ∙ sym whole;
          along = best_along j ok;
          text = rw given (text_there j sheet page work);
          lines = λ x m. line_length j ok x (perm_member (page_rearranged j ok) m);
          count = ap (λ x. x.count) given ∙ counted j ok;
        },
      )

  -- the order is the only one along the walk of the sheet
  pub page_determined : (job : Job) (c : Content) → Shows bytes sheet work job c → (picks others : List Pick) → AlongTheWalk job c picks → AlongTheWalk job c others → picks ≡ others
  page_determined job c s picks others t u =
      let (a, e) = shown_best bytes sheet work job c s in
      only_along job a picks (subst (λ d. AlongTheWalk job d picks) (sym e) t) ∙ sym (only_along job a others (subst (λ d. AlongTheWalk job d others) (sym e) u))

  -- 6,375 bytes of page space suffice
  pub page_space : page_limit ≤ length page → (page_answer bytes sheet page work).call.reply ≡ Err PageSpace → ⊥
  unfolding PageCause
  page_space h e =
      let f = (refused_page bytes sheet page work PageSpace).0 e in
      let above : (q : Refusal) → table_row q < table_row SheetSpace → Cause q bytes sheet work → ⊥ = λ q l c. f.none_above q (omega arith) (inl c) in
      ⊎_elim (λ c. c) (λ t. short above t.1) f.applies
    where
      short : ((q : Refusal) → table_row q < table_row SheetSpace → Cause q bytes sheet work → ⊥) → OfJob bytes (λ job. length page < length (page_text job)) → ⊥
      short above (job, file, l) = omega (arith, page_suffices job (above_admitted bytes sheet work above job ((job_file_read bytes job).1 file)))
