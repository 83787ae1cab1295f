-- There are few lines: the lines decide.
use Rattle.std.proofs.Common.{rules, tests, arith, ◌≤◌, take, length, length-take, ◌∙◌, refl}
use borrow.Author.Tests.{le-leb}
use Rattle.std.proofs.lemmas.Iterator.{YieldsList-from_slice}
use Rattle.std.proofs.lemmas.Iterator.Search.{all_from_yields_List}
use Rattle.rules.specs.Refusals.{line_in_bounds, list_in_bounds}
use Rattle.rules.proofs.Chains.{all_same}
use Rattle.values.specs.Values.{job_of}
use Rattle.jobfile.proofs.bounds.list_in_bounds.Goals as goal

pub returns : goal.returns
unfolding list_in_bounds job_of
returns c =
    let job = c.args.job.now in
    let xs = take job.orders job.lines in
    let each = all_from_yields_List line_in_bounds _ _ c.all.result c.all.ensures.ran (YieldsList-from_slice xs cc) (λ x b q k. search (rules, tests)) ∙ all_same _ xs in
    let few : length xs ≤ 8 = simp length-take (omega arith) in
    rw (each, le-leb job.orders 8 (omega arith), list_in_bounds, le-leb (length xs) 8 few) refl
