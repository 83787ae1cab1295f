-- The numbers are within their bounds: the windows decide.
use Rattle.std.proofs.Common.{rules, tests, arith, ◌≤◌, take, length, length-take, ◌∙◌, refl}
use borrow.Author.Tests.{le-leb}
use Rattle.std.proofs.lemmas.Iterator.{YieldsList-from_slice}
use Rattle.std.proofs.lemmas.Iterator.Search.{all_from_yields_List}
use Rattle.rules.specs.Hours.{window_in_bounds}
use Rattle.rules.proofs.Chains.{all_same}
use Rattle.jobfile.proofs.bounds.hours_in_bounds.Goals as goal

pub returns : goal.returns
returns c =
    let clock = c.in-Some.clock in
    let xs = take clock.count clock.windows in
    let each = all_from_yields_List (window_in_bounds c.args.aisles) _ _ c.all.result c.all.ensures.ran (YieldsList-from_slice xs cc) (λ x b q k. search (rules, tests)) ∙ all_same _ xs in
    let few : length xs ≤ 64 = simp length-take (omega arith) in
    let h = c.in-Some.is in
    rw (each, h, le-leb clock.count 64 (omega arith), le-leb clock.minute 1439 (omega arith), le-leb (length xs) 64 few) refl
