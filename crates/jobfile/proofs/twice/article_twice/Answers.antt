-- The chain looks for the line's article on the lines behind it.
use Rattle.std.proofs.Common.{ℕ, rules, tests, ◌+◌, ◌<◌, ◌≡◌, ◌||◌, List, length, drop, get_or, drop-cons, add-one, sym, ◌∙◌, ap, refl, arith, length-drop}
use lib.ListN.{drop_of_length-le}
use lib.Seq.{take_all}
use Rattle.std.proofs.lemmas.Iterator.{YieldsList-from_slice}
use Rattle.std.proofs.lemmas.Iterator.Search.{any_from_yields_List}
use Rattle.rules.specs.declared.OrderLine.{OrderLine}
use Rattle.rules.specs.Lists.{any_of, any_two}
use Rattle.rules.specs.Refusals.{same_article}
use Rattle.rules.proofs.Chains.{any_same}
use Rattle.values.specs.Values.{no_line}
use Rattle.jobfile.proofs.twice.article_twice.Goals as goal
use Rattle.jobfile.proofs.twice.article_twice.Goals.{After-any}

-- whether the article stands on one of the others
others : (c : After-any) → c.any.result ≡ any_of (same_article (get_or c.args.lines.now c.loop-i.i no_line)) (drop (c.loop-i.i + 1) c.args.lines.now)
unfolding same_article
others c =
    let line = get_or c.args.lines.now c.loop-i.i no_line in
    let xs = drop (c.loop-i.i + 1) c.args.lines.now in
    any_from_yields_List (same_article line) _ _ c.any.result c.any.ensures.ran (YieldsList-from_slice xs (c.iter.ensures.rest ∙ take_all _ xs (simp length-drop (omega arith)))) (λ x b q k. search (rules, tests)) ∙ any_same _ xs

-- the line there, and the lines behind it
from_line : (lines : List OrderLine) (i : ℕ) → i < length lines
    → any_two same_article (drop i lines) ≡ any_of (same_article (get_or lines i no_line)) (drop (i + 1) lines) || any_two same_article (drop (i + 1) lines)
from_line lines i h = rw (add-one, drop-cons lines i no_line h) refl

pub returns-then-any : goal.returns-then-any
returns-then-any c =
    let l = c.loop-i in
    let found = sym (others (goal.at.returns-then-any c).After-any) ∙ c.if-any.true in
    sym (sym l.invariant ∙ from_line c.args.lines.now l.i c.loop-i-test.true ∙ ap (λ b. b || any_two same_article (drop (l.i + 1) c.args.lines.now)) found)

pub loop-i-preserved : goal.loop-i-preserved
loop-i-preserved c =
    let l = c.loop-i in
    let none = sym (others (goal.at.loop-i-preserved c).After-any) ∙ c.if-any.false in
    sym (ap (λ b. b || any_two same_article (drop (l.i + 1) c.args.lines.now)) none) ∙ sym (from_line c.args.lines.now l.i c.loop-i-test.true) ∙ l.invariant

pub returns : goal.returns
returns c = let l = c.loop-i in ap (any_two same_article) (sym (drop_of_length-le c.args.lines.now c.loop-i-test.false)) ∙ l.invariant
