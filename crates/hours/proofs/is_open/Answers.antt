-- Each chain tests the windows by the definition's test.
use Rattle.std.proofs.Common.{rules, tests, ◌≡◌, Bool, take, ◌∙◌, refl, ◌&&◌}
use Rattle.std.proofs.lemmas.Iterator.{YieldsList-from_slice}
use Rattle.std.proofs.lemmas.Iterator.Search.{any_from_yields_List}
use Rattle.rules.specs.declared.Window.{Window}
use Rattle.rules.specs.Hours.{open_at, of_aisle, in_window}
use Rattle.rules.specs.Lists.{any_of}
use Rattle.rules.proofs.Chains.{any_same}
use Rattle.hours.proofs.is_open.Goals as goal
use Rattle.hours.proofs.is_open.Goals.{After-any-named}

-- whether a window of the aisle was found
named : (c : After-any-named)
    → c.any-named.result ≡ any_of (of_aisle c.args.aisle) (take c.args.clock.now.count c.args.clock.now.windows)
named c =
    let xs = take c.args.clock.now.count c.args.clock.now.windows in
    any_from_yields_List (of_aisle c.args.aisle) _ _ c.any-named.result c.any-named.ensures.ran (YieldsList-from_slice xs cc) (λ x b q k. search (rules, tests))
    ∙ any_same _ xs

pub returns-then-not-named : goal.returns-then-not-named
unfolding open_at
returns-then-not-named c = let e = named (goal.at.returns-then-not-named c).After-any-named in let n = c.if-not-named.true in rw (← e, n) refl

pub returns-else-not-named : goal.returns-else-not-named
unfolding open_at
returns-else-not-named c =
    let clock = c.args.clock.now in
    let xs = take clock.count clock.windows in
    let test : Window → Bool = λ w. of_aisle c.args.aisle w && in_window clock.minute w in
    let inside = any_from_yields_List test _ _ c.any.result c.any.ensures.ran (YieldsList-from_slice xs cc) (λ x b q k. search (rules, tests)) ∙ any_same _ xs in
    let e = named (goal.at.returns-else-not-named c).After-any-named in
    let n = c.if-not-named.false in
    rw (← e, n, inside) refl
