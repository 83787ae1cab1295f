-- The product of the lines so far, and the lines behind them, weigh what all do.
use Rattle.jobfile.proofs.Weighing.{WeightTo}
use Rattle.jobfile.proofs.amounts.too_heavy.Given as goal

abbrev pub invariant-loop-line : goal.invariant-loop-line
invariant-loop-line l = WeightTo l.lines l.product l.line-index
