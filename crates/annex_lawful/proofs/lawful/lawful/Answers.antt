-- `annex_lawful::lawful::lawful` meets its contract: a test that fails says what a lawful plan is not; the three together say that it is.
use native.Mathlib.Omega.{arith}
use mathlib.Core.Path.{sym, ◌∙◌}
use mathlib.Core.Bool.{true≢false}
use Rattle.annex_lawful.proofs.LawfulLaws.{tests_lawful, lawful_even, lawful_depot, lawful_together}
use Rattle.annex_lawful.proofs.lawful.lawful.Goals as goal
use Rattle.annex_lawful.proofs.lawful.lawful.Goals.{then-not-all_even-via-then-not-all_even, then-not-all_even-via-else-not-all_even+then-depot_degree-eq0}

pub returns-then-not-all_even : goal.returns-then-not-all_even
returns-then-not-all_even c = (
  λ f. absurd (true≢false (sym f)),
  λ l. absurd (elim c.then-not-all_even.branch [
    | then-not-all_even-via-then-not-all_even w ↦ true≢false (sym (c.all_even.ensures.1 (lawful_even c.args.z c.args.plan c.requires l)) ∙ w.if-not-all_even.true)
    | then-not-all_even-via-else-not-all_even+then-depot_degree-eq0 w ↦ omega (arith, w.if-depot_degree-eq0.true, w.depot_degree.ensures, lawful_depot c.args.z c.args.plan c.requires l)
  ]),
)

pub returns : goal.returns
returns c =
    let even = c.all_even.ensures.0 c.if-not-all_even.false in
    let tests = tests_lawful c.args.z c.args.plan c.requires even (omega (arith, c.if-depot_degree-eq0.false, c.depot_degree.ensures)) in
    (λ t. tests (c.hangs_together.ensures.0 t), λ l. c.hangs_together.ensures.1 (lawful_together c.args.z c.args.plan c.requires l))
