-- `annex_search::search::improves` meets its contract: nothing is kept, or the lengths are equal and the ones of two sets are compared, or the lengths are.
use mathlib.Core.Path.{◌≡◌, sym, ap, ◌∙◌}
use lib.Count.{ones}
use lib.Dec.{ltb}
use Rattle.rules.specs.Policies.{entered_aisles}
use Rattle.values.specs.Values.{plan_of}
use Rattle.entered.proofs.SetLaws.{ones_entered}
use Rattle.annex_search.specs.Searched.{improves_on}
use Rattle.annex_search.proofs.SearchLaws.{improves_equal}
use Rattle.annex_search.proofs.search.improves.Goals as goal

pub returns-then-size-kept : goal.returns-then-size-kept
returns-then-size-kept c =
    let x = c.args in
    let aisles = entered_aisles (plan_of x.plan) in
    let kept = c.in-Some.kept in
    let mine : c.aisle_count.result ≡ aisles = c.aisle_count.ensures ∙ ap ones c.entered_set.ensures ∙ ones_entered (plan_of x.plan) in
    ap (λ n. ltb n c.aisle_count-then-size-kept.result) mine
    ∙ ap (ltb aisles) c.aisle_count-then-size-kept.ensures
    ∙ improves_equal kept x.size aisles c.if-size-kept.true
    ∙ ap (λ o. improves_on o x.size aisles) (sym c.in-Some.is)
