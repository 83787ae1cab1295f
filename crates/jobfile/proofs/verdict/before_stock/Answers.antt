-- Test by test: where its row applies, that is the answer; behind it (`past_..`) the rows up to it do not apply.
use Rattle.std.proofs.Common.{◌≡◌, true, false, sym, ◌∙◌, refl}
use Rattle.rules.specs.Refusals.{job_rows}
use Rattle.rules.specs.Store.{layout_in_bounds}
use Rattle.values.specs.Values.{job_of}
use Rattle.jobfile.proofs.Ranges.{hours_test, all_lines}
use Rattle.jobfile.proofs.Verdicts.{Past, stock_test, list_test, list_ready}
use Rattle.jobfile.proofs.Verdicts.{row_layout, row_stock, row_cells, row_hours, row_list, row_articles, row_weight}
use Rattle.jobfile.proofs.verdict.before_stock.Goals as goal
use Rattle.jobfile.proofs.verdict.before_stock.Goals.{Else-not-layout_in_bounds, Else-not-stock_in_bounds, Else-raw, Else-not-timely, Else-not-listed, Else-article_twice, Else-too_heavy}

-- the layout
pub returns-then-not-layout_in_bounds : goal.returns-then-not-layout_in_bounds
returns-then-not-layout_in_bounds c = (refl, row_layout c.args.raw.now false (sym c.layout_in_bounds.ensures ∙ c.if-not-layout_in_bounds.true))

layout : (c : Else-not-layout_in_bounds) → layout_in_bounds c.args.raw.now.job.layout ≡ true
layout c = sym c.layout_in_bounds.ensures ∙ c.if-not-layout_in_bounds.false

past_layout : (c : Else-not-layout_in_bounds) → Past 1 c.args.raw.now
past_layout c = row_layout c.args.raw.now true (layout c)

-- the stock
pub returns-then-not-stock_in_bounds : goal.returns-then-not-stock_in_bounds
returns-then-not-stock_in_bounds c =
    let at = goal.at.returns-then-not-stock_in_bounds c in
    (refl, row_stock c.args.raw.now false (past_layout at.Else-not-layout_in_bounds) (sym c.stock_in_bounds.ensures ∙ c.if-not-stock_in_bounds.true))

stock : (c : Else-not-stock_in_bounds) → stock_test c.args.raw.now.job ≡ true
stock c = sym c.stock_in_bounds.ensures ∙ c.if-not-stock_in_bounds.false

past_stock : (c : Else-not-stock_in_bounds) → Past 2 c.args.raw.now
past_stock c =
    let z = sym c.layout_in_bounds.ensures ∙ c.if-not-layout_in_bounds.false in
    row_stock c.args.raw.now true (row_layout c.args.raw.now true z) (stock c)

-- the cells
pub returns-then-raw : goal.returns-then-raw
returns-then-raw c =
    let at = goal.at.returns-then-raw c in
    (refl, row_cells c.args.raw.now true (past_stock at.Else-not-stock_in_bounds) (layout at.Else-not-layout_in_bounds) (stock at.Else-not-stock_in_bounds) c.if-raw.true)

past_cells : (c : Else-raw) → Past 3 c.args.raw.now
past_cells c =
    let z = sym c.layout_in_bounds.ensures ∙ c.if-not-layout_in_bounds.false in
    let t = sym c.stock_in_bounds.ensures ∙ c.if-not-stock_in_bounds.false in
    row_cells c.args.raw.now false (row_stock c.args.raw.now true (row_layout c.args.raw.now true z) t) z t c.if-raw.false

-- the hours and the list: both outcomes are there before the first is looked at. 12 is the answer only where the hours are out of bounds,
-- whatever else is asked there; that 5 is the answer only where they are not is shown at the answer 5 itself.
pub returns-then-not-timely : goal.returns-then-not-timely
returns-then-not-timely c =
    let at = goal.at.returns-then-not-timely c in
    (refl, row_hours c.args.raw.now false (past_cells at.Else-raw) (sym c.hours_in_bounds-timely.ensures ∙ c.if-not-timely.true))

hours : (c : Else-not-timely) → hours_test c.args.raw.now.job ≡ true
hours c = sym c.hours_in_bounds-timely.ensures ∙ c.if-not-timely.false

pub returns-then-not-listed : goal.returns-then-not-listed
returns-then-not-listed c =
    let at = goal.at.returns-then-not-listed c in
    let past = row_hours c.args.raw.now true (past_cells at.Else-raw) (hours at.Else-not-timely) in
    (refl, row_list c.args.raw.now false past (sym c.list_in_bounds-listed.ensures ∙ c.if-not-listed.true))

list : (c : Else-not-listed) → list_test c.args.raw.now.job ≡ true
list c = sym c.list_in_bounds-listed.ensures ∙ c.if-not-listed.false

-- the articles
pub returns-then-article_twice : goal.returns-then-article_twice
unfolding job_of
returns-then-article_twice c =
    let at = goal.at.returns-then-article_twice c in
    let raw = c.args.raw.now in
    let l = list at.Else-not-listed in
    let past = row_list raw true (row_hours raw true (past_cells at.Else-raw) (hours at.Else-not-timely)) l in
    (refl, row_articles raw true past l (sym c.article_twice.ensures ∙ c.if-article_twice.true))

pub too_heavy-requires : goal.too_heavy-requires
too_heavy-requires c =
    let at = goal.at.too_heavy-requires c in
    all_lines c.args.raw.now.job (list_ready c.args.raw.now.job (list at.Else-not-listed)).list

-- the weight
pub returns-then-too_heavy : goal.returns-then-too_heavy
unfolding job_of
returns-then-too_heavy c =
    let at = goal.at.returns-then-too_heavy c in
    let raw = c.args.raw.now in
    let l = list at.Else-not-listed in
    let past = row_list raw true (row_hours raw true (past_cells at.Else-raw) (hours at.Else-not-timely)) l in
    let past-articles = row_articles raw false past l (sym c.article_twice.ensures ∙ c.if-article_twice.false) in
    (refl, row_weight raw true past-articles l (sym c.too_heavy.ensures ∙ c.if-too_heavy.true))

-- the test of the stock is left
pub returns : goal.returns
unfolding job_of job_rows
returns c =
    let at = goal.at.returns c in
    let raw = c.args.raw.now in
    let l = list at.Else-not-listed in
    let past = row_list raw true (row_hours raw true (past_cells at.Else-raw) (hours at.Else-not-timely)) l in
    let past-articles = row_articles raw false past l (sym c.article_twice.ensures ∙ c.if-article_twice.false) in
    record {
      layout = layout at.Else-not-layout_in_bounds;
      stock = stock at.Else-not-stock_in_bounds;
      hours = hours at.Else-not-timely;
      list = l;
      last = row_weight raw false past-articles l (sym c.too_heavy.ensures ∙ c.if-too_heavy.false);
    }
