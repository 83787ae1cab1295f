-- `ranks::action_count` meets its contract: entry by entry, the counts are those of the actions in order.
use native.Mathlib.Omega.{arith}
use lib.ListN.{length}
use Rattle.rules.specs.BestPlan.{actions_of}
use Rattle.ranks.proofs.RankLaws.{entry}
use Rattle.ranks.proofs.action_count.Goals as goal

pub returns : goal.returns
unfolding actions_of
returns c = entry 0 (λ k. length (actions_of k)) 25 c.args.cells (omega arith)
