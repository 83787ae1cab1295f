-- `finishing::RoutedJob::finish_page` meets its contract: the sizes decide, and what is written is the job's sheet and the job's page.
use native.Mathlib.Omega.{arith}
use mathlib.Core.Path.{◌≡◌, ap, subst, ◌∙◌}
use lib.ListN.{length}
use Rattle.rules.specs.Lists.{concat_of}
use Rattle.rules.specs.Page.{page_line, page_text}
use Rattle.std.proofs.lemmas.Result.{err_from_is_err_and}
use Rattle.values.specs.FixedLists.{items}
use Rattle.values.specs.Values.{job_of}
use Rattle.lines.specs.Written.{Written}
use Rattle.finishing.proofs.PageRoutes.{routed_walked, routed_page, routed_size}
use Rattle.finishing.proofs.Replies.{sheet_short, page_short, both_written}
use Rattle.finishing.proofs.RoutedJob.finish_page.Goals as goal

pub returns-in_err-parts : goal.returns-in_err-parts
returns-in_err-parts c work =
    let p = err_from_is_err_and c.from_residual.result c.from_residual.ensures.1 in
    rw (p.1, p.2, c.in_err-parts.ensures.err.0) (sheet_short (job_of c.args.self.now.job) c.args.sheet.now c.args.page.now work c.in_err-parts.ensures.err.1)

pub returns-then-page-page_size : goal.returns-then-page-page_size
returns-then-page-page_size c work =
    let j = c.args.self.now in
    let t = c.tour-tour in
    page_short (job_of j.job) c.args.sheet.now c.args.page.now work
    (omega (arith, c.in_ok-parts.ensures.ok.1, ap length c.in_ok-parts.ensures.ok.0))
    (omega (arith, c.if-page-page_size.true, c.page_size.ensures, routed_size j.job j.known.0 (items t.result.picks) (items t.result.runs) t.ensures))

-- the picks can be put in the order of the walk
pub in_order-order-requires : goal.in_order-order-requires
in_order-order-requires c =
    let j = c.args.self.now in
    let t = c.tour-tour.ensures in
    routed_walked j.job j.known.0 c.as_slice-picks.result.now c.as_slice-runs.result.now
    (record { its_picks = c.as_slice-picks.ensures.value ∙ t.its_picks; its_runs = c.as_slice-runs.ensures.value ∙ t.its_runs }) c.as_slice-picks.ensures.fits

pub write_page-page-requires : goal.write_page-page-requires
write_page-page-requires c =
    let j = c.args.self.now in
    let t = c.tour-tour in
    -- the lines of the picks in order are the job's page
    let page_known : concat_of page_line (items c.in_order-order.result) ≡ page_text (job_of j.job) =
    routed_page j.job j.known.0 c.as_slice-picks.result.now c.as_slice-runs.result.now
    (record { its_picks = c.as_slice-picks.ensures.value ∙ t.ensures.its_picks; its_runs = c.as_slice-runs.ensures.value ∙ t.ensures.its_runs })
    (items c.in_order-order.result) c.in_order-order.ensures in
    omega (arith, c.if-page-page_size.false, c.page_size.ensures, routed_size j.job j.known.0 (items t.result.picks) (items t.result.runs) t.ensures, ap length page_known)

pub returns : goal.returns
returns c work =
    let j = c.args.self.now in
    let t = c.tour-tour in
    let page_known : concat_of page_line (items c.in_order-order.result) ≡ page_text (job_of j.job) =
    routed_page j.job j.known.0 c.as_slice-picks.result.now c.as_slice-runs.result.now
    (record { its_picks = c.as_slice-picks.ensures.value ∙ t.ensures.its_picks; its_runs = c.as_slice-runs.ensures.value ∙ t.ensures.its_runs })
    (items c.in_order-order.result) c.in_order-order.ensures in
    both_written (job_of j.job) c.args.sheet.now c.args.page.now work
    (omega (arith, c.in_ok-parts.ensures.ok.1, ap length c.in_ok-parts.ensures.ok.0))
    c.write-sheet.new.space c.write_page-page.new.page c.write-sheet.result c.write_page-page.result
    (omega (arith, c.if-page-page_size.false, c.page_size.ensures, routed_size j.job j.known.0 (items t.result.picks) (items t.result.runs) t.ensures))
    (subst (λ t. Written t c.args.sheet.now c.write-sheet.new.space c.write-sheet.result) c.in_ok-parts.ensures.ok.0 c.write-sheet.ensures)
    (subst (λ t. Written t c.args.page.now c.write_page-page.new.page c.write_page-page.result) page_known c.write_page-page.ensures)
