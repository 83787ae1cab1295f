-- `ranks::gap_at` meets its contract. The loop's invariant, `GapLeft`: the rest of the number is to be found from cell h on.
use Rattle.ranks.proofs.RankLaws.{GapLeft}
use Rattle.ranks.proofs.gap_at.Given as goal

abbrev pub invariant-loop-h : goal.invariant-loop-h
invariant-loop-h l = GapLeft l.cells l.g l.h l.rest
