-- `router::choices::plus` meets its contract: the sum, cut at no tour.
use Rattle.std.proofs.Common.{◌∙◌, ap, min, ◌+◌}
use Rattle.optimum.specs.Least.{sum_up_to}
use Rattle.router.proofs.choices.plus.Goals as goal

pub returns : goal.returns
unfolding sum_up_to
returns c = c.min.ensures ∙ ap (min (c.args.length + c.args.rest)) c.from.ensures
