-- `page::text::text_of` meets its contract: the page call, on spaces and a work area that are all zero, answers what is printed.
use native.Mathlib.Omega.{arith}
use Prim.Native.Nat.{ℕ, ◌<◌}
use mathlib.Core.Path.{◌≡◌, ap, sym, ◌∙◌}
use mathlib.Core.List.{List, ◌++◌}
use lib.ListN.{length, replicate, take}
use Rattle.arrayvec.specs.ArrayVec.{with_items}
use Rattle.arrayvec.proofs.ArrayVecLemmas.{items-with_items}
use Rattle.rules.specs.JobFile.{line_feed, header, field}
use Rattle.rules.specs.Answers.{sheet_limit, letter_r}
use Rattle.rules.specs.PageAnswers.{PageAnswer, host_page_answer, page_limit, page_printed, page_output}
use Rattle.rules.proofs.Answering.{number_small}
use Rattle.finishing.specs.Paged.{sheet_reply, page_count}
use Rattle.lines.proofs.Sizes.{refusal_short}
use Rattle.lines.proofs.Writing.{written_front}
use Rattle.page.proofs.text.text_of.Goals as goal

pub returns-in-Ok : goal.returns-in-Ok
unfolding page_output host_page_answer
returns-in-Ok c =
    let job = c.args.job.now in
    let h = c.plan_page in
    let sheet : List ℕ = replicate sheet_limit 0 in
    -- the page is lent as zeros
    let zeros : c.as_mut_slice.result.now ≡ replicate page_limit 0 = c.as_mut_slice.ensures.value ∙ c.from-text.ensures.0 in
    let a : PageAnswer = host_page_answer job sheet (replicate page_limit 0) in
    let reply : sheet_reply h.result ≡ a.call.reply = h.ensures.replied.replied.reply ∙ ap (λ p. (host_page_answer job sheet p).call.reply) zeros in
    let count : page_count h.result ≡ a.count = h.ensures.replied.count ∙ ap (λ p. (host_page_answer job sheet p).count) zeros in
    c.truncate.ensures.items
    ∙ ap (take c.in-Ok.counts.page) (items-with_items c.from-text.result h.new.page (omega (arith, h.auto.page, ap length c.as_mut_slice.ensures.value)))
    ∙ ap (λ r. page_printed (sheet_reply r) (page_count r) h.new.page) (sym c.in-Ok.is)
    ∙ ap (λ q. page_printed q (page_count h.result) h.new.page) reply
    ∙ ap (λ n. page_printed a.call.reply n h.new.page) count
    ∙ ap (page_printed a.call.reply a.count) (h.ensures.replied.page ∙ ap (λ p. (host_page_answer job sheet p).page) zeros)

pub write_refusal-count-requires : goal.write_refusal-count-requires
write_refusal-count-requires c =
    let h = c.plan_page in
    let kept = items-with_items c.from-text.result h.new.page (omega (arith, h.auto.page, ap length c.as_mut_slice.ensures.value)) in
    let small : c.from.result < 10000000000 = omega (arith, number_small c.in-Err.cause, c.from.ensures) in
    omega (arith, refusal_short c.from.result small, ap length c.as_mut_slice-in-Err.ensures.value, ap length kept, h.auto.page, ap length c.as_mut_slice.ensures.value, ap length c.from-text.ensures.0)

pub returns-in-Err : goal.returns-in-Err
unfolding page_output host_page_answer
returns-in-Err c =
    let job = c.args.job.now in
    let h = c.plan_page in
    let w = c.write_refusal-count in
    let sheet : List ℕ = replicate sheet_limit 0 in
    let zeros : c.as_mut_slice.result.now ≡ replicate page_limit 0 = c.as_mut_slice.ensures.value ∙ c.from-text.ensures.0 in
    let a : PageAnswer = host_page_answer job sheet (replicate page_limit 0) in
    let reply : sheet_reply h.result ≡ a.call.reply = h.ensures.replied.replied.reply ∙ ap (λ p. (host_page_answer job sheet p).call.reply) zeros in
    c.truncate-in-Err.ensures.items
    ∙ ap (take w.result) (items-with_items (with_items c.from-text.result h.new.page) w.new.sheet (omega (arith, w.auto.sheet, ap length c.as_mut_slice-in-Err.ensures.value)))
    ∙ written_front w.ensures
    ∙ ap (λ n. header letter_r 1 ++ field line_feed n) c.from.ensures
    ∙ ap (λ r. page_printed (sheet_reply r) a.count a.page) (sym c.in-Err.is)
    ∙ ap (λ q. page_printed q a.count a.page) reply
