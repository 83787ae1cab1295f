-- `route::text::text_of` meets its contract: the library call, on a sheet and a work area that are all zero, answers what is printed.
use native.Mathlib.Omega.{arith}
use Prim.Native.Nat.{◌<◌}
use mathlib.Core.Path.{◌≡◌, ap, sym, ◌∙◌}
use mathlib.Core.List.{◌++◌}
use lib.ListN.{length, replicate, take}
use Rattle.arrayvec.specs.ArrayVec.{with_items}
use Rattle.arrayvec.proofs.ArrayVecLemmas.{items-with_items}
use Rattle.rules.specs.JobFile.{line_feed, header, field}
use Rattle.rules.specs.Answers.{Answer, sheet_limit, host_answer, letter_r, output, printed}
use Rattle.rules.proofs.Answering.{number_small}
use Rattle.lines.proofs.Sizes.{refusal_short}
use Rattle.lines.proofs.Writing.{written_front}
use Rattle.route.proofs.text.text_of.Goals as goal

pub returns-in-Ok : goal.returns-in-Ok
unfolding output host_answer
returns-in-Ok c =
    let job = c.args.job.now in
    let h = c.plan in
    -- the sheet is lent as zeros
    let zeros : c.as_mut_slice.result.now ≡ replicate sheet_limit 0 = c.as_mut_slice.ensures.value ∙ c.from-text.ensures.0 in
    let a : Answer = host_answer job (replicate sheet_limit 0) in
    let reply : h.result ≡ a.reply = h.ensures.replied.reply ∙ ap (λ s. (host_answer job s).reply) zeros in
    c.truncate.ensures.items
    ∙ ap (take c.in-Ok.count) (items-with_items c.from-text.result h.new.sheet (omega (arith, h.auto.sheet, ap length c.as_mut_slice.ensures.value)))
    ∙ ap (λ r. printed r h.new.sheet) (sym c.in-Ok.is ∙ reply)
    ∙ ap (printed a.reply) (h.ensures.replied.sheet ∙ ap (λ s. (host_answer job s).sheet) zeros)

pub write_refusal-count-requires : goal.write_refusal-count-requires
write_refusal-count-requires c =
    let h = c.plan in
    let kept = items-with_items c.from-text.result h.new.sheet (omega (arith, h.auto.sheet, ap length c.as_mut_slice.ensures.value)) in
    let small : c.from.result < 10000000000 = omega (arith, number_small c.in-Err.cause, c.from.ensures) in
    omega (arith, refusal_short c.from.result small, ap length c.as_mut_slice-in-Err.ensures.value, ap length kept, h.auto.sheet, ap length c.as_mut_slice.ensures.value, ap length c.from-text.ensures.0)

pub returns-in-Err : goal.returns-in-Err
unfolding output host_answer
returns-in-Err c =
    let job = c.args.job.now in
    let h = c.plan in
    let w = c.write_refusal-count in
    let zeros : c.as_mut_slice.result.now ≡ replicate sheet_limit 0 = c.as_mut_slice.ensures.value ∙ c.from-text.ensures.0 in
    let a : Answer = host_answer job (replicate sheet_limit 0) in
    let reply : h.result ≡ a.reply = h.ensures.replied.reply ∙ ap (λ s. (host_answer job s).reply) zeros in
    c.truncate-in-Err.ensures.items
    ∙ ap (take w.result) (items-with_items (with_items c.from-text.result h.new.sheet) w.new.sheet (omega (arith, w.auto.sheet, ap length c.as_mut_slice-in-Err.ensures.value)))
    ∙ written_front w.ensures
    ∙ ap (λ n. header letter_r 1 ++ field line_feed n) c.from.ensures
    ∙ ap (λ r. printed r a.sheet) (sym c.in-Err.is ∙ reply)
