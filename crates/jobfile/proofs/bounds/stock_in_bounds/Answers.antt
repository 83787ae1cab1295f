-- There are few records: the records decide.
use Rattle.std.proofs.Common.{rules, tests, arith, ◌≤◌, take, length, length-take, ◌∙◌, refl}
use borrow.Author.Tests.{le-leb}
use Rattle.std.proofs.lemmas.Iterator.{YieldsList-from_slice}
use Rattle.std.proofs.lemmas.Iterator.Search.{all_from_yields_List}
use Rattle.rules.specs.Refusals.{record_in_bounds, stock_in_bounds}
use Rattle.rules.proofs.Chains.{all_same}
use Rattle.values.specs.Values.{job_of}
use Rattle.jobfile.specs.Ready.{store_only}
use Rattle.jobfile.proofs.bounds.stock_in_bounds.Goals as goal

pub returns : goal.returns
unfolding stock_in_bounds record_in_bounds job_of
returns c =
    let job = c.args.job.now in
    let xs = take job.records job.stock in
    let each = all_from_yields_List (record_in_bounds (store_only job.layout)) _ _ c.all.result c.all.ensures.ran (YieldsList-from_slice xs cc) (λ x b q k. search (rules, tests)) ∙ all_same _ xs in
    let few : length xs ≤ 384 = simp length-take (omega arith) in
    rw (each, le-leb job.records 384 (omega arith), stock_in_bounds, le-leb (length xs) 384 few) refl
