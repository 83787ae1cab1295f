-- `demand::digits::digits_of` meets its contract: the digits of the first l lines are there, and the product of their radices.
use Rattle.values.specs.Values.{job_of}
use Rattle.demand.proofs.DigitLaws.{DigitsTo}
use Rattle.demand.proofs.digits.digits_of.Given as goal

abbrev pub invariant-loop-l : goal.invariant-loop-l
invariant-loop-l l = DigitsTo (job_of l.fn.job) l.digit l.weight l.l
