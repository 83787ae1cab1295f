-- `ranks::action_at` meets its contract: VOID, then BOTTOM upwards, then TOP downwards, then the GAPs, ONCE and TWICE.
use native.Mathlib.Omega.{arith}
use mathlib.Core.Path.{sym, ◌∙◌, ap}
use lib.ListN.{get_or}
use Rattle.rules.specs.BestPlan.{actions_of}
use Rattle.rules.specs.declared.Action.TheVariants.{Void}
use Rattle.ranks.proofs.RankLaws.{rank_bottom, rank_top, rank_gap, ranks_length}
use Rattle.ranks.proofs.action_at.Goals as goal

pub returns-then-rank-eq0 : goal.returns-then-rank-eq0
unfolding actions_of
returns-then-rank-eq0 c = sym (ap (λ r. get_or (actions_of c.args.cells) r Void) c.if-rank-eq0.true)

pub returns-then-rank-cells : goal.returns-then-rank-cells
returns-then-rank-cells c =
    let x = c.args in
    sym (rank_bottom x.cells x.rank (omega arith) (omega arith))

pub returns-then-rank-cells-2 : goal.returns-then-rank-cells-2
returns-then-rank-cells-2 c =
    let x = c.args in
    sym (rank_top x.cells x.rank (omega arith) (omega arith))

pub gap_at-requires : goal.gap_at-requires
gap_at-requires c =
    let r = c.requires in omega (arith, ranks_length c.args.cells)

pub returns : goal.returns
returns c =
    let x = c.args in
    c.gap_at.ensures ∙ sym (rank_gap x.cells x.rank (omega arith))
