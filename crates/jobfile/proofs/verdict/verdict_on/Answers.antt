-- A refusal before that of the stock, or the stock test decides, with the number of its records.
use Rattle.std.proofs.Common.{true, false, refl, sym, ◌∙◌, ◌∷◌, []}
use Rattle.rules.specs.declared.Refusal.TheVariants.{ShortOfStock}
use Rattle.rules.specs.Refusals.{first_row}
use Rattle.jobfile.proofs.Verdicts.{stock_ready, hours_ready, list_ready, stopped, tested, row_short, looked_on_lem}
use Rattle.jobfile.proofs.verdict.verdict_on.Goals as goal

pub returns-in-Err : goal.returns-in-Err
returns-in-Err c = stopped c.args.raw.now c.in-Err.cause c.in-Err.ensures

pub stock_test-test-requires : goal.stock_test-test-requires
stock_test-test-requires c =
    let v = c.args.raw.now.job in
    let t = c.in_default.ensures in
    record { stock_ready = stock_ready v t.layout t.stock; list_ready = list_ready v t.list; count_bound = hours_ready v.layout.aisles v.hours t.hours }

pub returns-then-test : goal.returns-then-test
returns-then-test c =
    let raw = c.args.raw.now in
    let t = c.in_default.ensures in
    let s = c.stock_test-test in
    tested raw (first_row ((true, ShortOfStock) ∷ [])) s.result.looked refl (row_short raw true t (sym s.ensures.short_value ∙ c.if-test.true))
    (λ job e. looked_on_lem raw job e s.result.looked t.stock t.hours t.list s.ensures.looked_value)

pub returns-else-test : goal.returns-else-test
returns-else-test c =
    let raw = c.args.raw.now in
    let t = c.in_default.ensures in
    let s = c.stock_test-test in
    tested raw (first_row ((false, ShortOfStock) ∷ [])) s.result.looked refl (row_short raw false t (sym s.ensures.short_value ∙ c.if-test.false))
    (λ job e. looked_on_lem raw job e s.result.looked t.stock t.hours t.list s.ensures.looked_value)
