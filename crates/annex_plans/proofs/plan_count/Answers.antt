-- `annex_plans::plan_count` meets its contract: by the number of aisles; an aisle has at most 17 actions, so nothing runs over.
use Prim.Native.Nat.{◌*◌, ◌≤◌}
use native.Mathlib.Omega.{arith}
use mathlib.Core.Path.{◌≡◌, ◌∙◌, ap}
use Rattle.annex_plans.proofs.Numbers.{few_actions, two_few, three_few, count_one, count_two, count_three}
use Rattle.annex_plans.proofs.plan_count.Goals as goal

pub returns-in-1 : goal.returns-in-1
returns-in-1 c =
    let x = c.args in
    let one = c.action_count-one in
    (one.ensures ∙ count_one x.cells x.aisles c.in-1.is, omega (arith, one.ensures, few_actions x.cells c.requires.0))

pub returns-in-2 : goal.returns-in-2
returns-in-2 c =
    let x = c.args in
    let one = c.action_count-one in
    let few : one.result ≤ 17 = omega (arith, one.ensures, few_actions x.cells c.requires.0) in
    (ap (λ n. n * (5 * n)) one.ensures ∙ count_two x.cells x.aisles c.in-2.is, omega (arith, two_few one.result few))

pub returns-in_default : goal.returns-in_default
returns-in_default c =
    let x = c.args in
    let one = c.action_count-one in
    let few : one.result ≤ 17 = omega (arith, one.ensures, few_actions x.cells c.requires.0) in
    let three : x.aisles ≡ 3 = omega (arith, c.requires, c.in_default) in
    (ap (λ n. n * (5 * (n * (5 * n)))) one.ensures ∙ count_three x.cells x.aisles three, three_few one.result few)
