-- `annex_search::best::best_plan` meets its contract: what is asked is that of the job, so what the search keeps is kept of the job.
use mathlib.Core.Path.{refl}
use Rattle.values.specs.Values.{job_of}
use Rattle.annex_search.proofs.BestLaws.{layout_sound, shelf_for, stock_of, searching_from}
use Rattle.annex_search.proofs.best.best_plan.Goals as goal

pub betweens-requires : goal.betweens-requires
betweens-requires c = (layout_sound c.args.job c.requires.0, c.requires.2)

pub search-requires : goal.search-requires
search-requires c =
    let v = c.args.job in
    let p = c.requires in
    let shelf = shelf_for v p.0 c.args.shelf p.1 in
    (job_of v, searching_from v p.0 p.2 p.3 _ refl refl refl (stock_of v p.0 c.args.shelf p.1 _ refl refl) (c.enterable.ensures (job_of v) shelf) (c.betweens.ensures (job_of v) shelf))

pub returns : goal.returns
returns c =
    let v = c.args.job in
    let p = c.requires in
    let shelf = shelf_for v p.0 c.args.shelf p.1 in
    c.search.ensures (job_of v) (searching_from v p.0 p.2 p.3 _ refl refl refl (stock_of v p.0 c.args.shelf p.1 _ refl refl) (c.enterable.ensures (job_of v) shelf) (c.betweens.ensures (job_of v) shelf))
