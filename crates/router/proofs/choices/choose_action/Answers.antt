-- `router::choices::choose_action` meets its contract: the first rank that passes is that of the first action.
use Rattle.std.proofs.Common.{of_calls, rules}
use Rattle.router.proofs.FirstRanks.{rank_passed}
use Rattle.router.proofs.choices.choose_action.Goals as goal

pub returns : goal.returns
returns c = rank_passed _ _ _ _ _ _ c.action_count.ensures (λ k b l p. search (of_calls, rules)) c.first_of.ensures
