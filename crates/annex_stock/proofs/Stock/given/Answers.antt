-- `annex_stock::Stock::given` meets its contract: by the article, then the flag, then the action of the record's aisle.
use Rattle.std.proofs.Common.{refl, sym, ◌∙◌, ap}
use borrow.Author.Tests.{eq-eqb, ne_eqb}
use Rattle.rules.specs.Plans.{plan_passes, passes_cell}
use Rattle.annex_stock.proofs.Stock.given.Goals as goal
use Rattle.annex_stock.proofs.Stock.given.Goals.{else-held-article-via-then-held-article+then-self-held+else-passes, else-held-article-via-then-held-article+else-self-held, else-held-article-via-else-held-article}

pub returns-then-passes : goal.returns-then-passes
unfolding plan_passes
returns-then-passes c =
    let held = c.args.held in
    let passed = ap (λ a. passes_cell a held.cell) (sym c.action_of.ensures) ∙ sym c.passes.ensures ∙ c.if-passes.true in
    rw (eq-eqb held.article c.args.article c.if-held-article.true, c.if-self-held.true, passed) refl

pub returns : goal.returns
unfolding plan_passes
returns c =
    let held = c.args.held in
    elim c.else-held-article.branch [
      | else-held-article-via-then-held-article+then-self-held+else-passes w ↦
          let passed = ap (λ a. passes_cell a held.cell) (sym w.action_of.ensures) ∙ sym w.passes.ensures ∙ w.if-passes.false in
          rw (eq-eqb held.article c.args.article w.if-held-article.true, w.if-self-held.true, passed) refl
      | else-held-article-via-then-held-article+else-self-held w ↦ rw (eq-eqb held.article c.args.article w.if-held-article.true, w.if-self-held.false) refl
      | else-held-article-via-else-held-article w ↦ rw (ne_eqb held.article c.args.article w.if-held-article.false) refl
    ]
