-- The refusal of a verdict.
use Rattle.std.proofs.Math.Option.{Option, none, some}
use Rattle.rules.specs.declared.Refusal.{Refusal}
use Rattle.std.specs.declared.result.Result.TheVariants.{Ok, Err}
use Rattle.jobfile.specs.Answer.{Verdict}

-- the refusal that a verdict names, or none
abbrev pub refusal_of : Verdict → Option Refusal
refusal_of (Ok x) = none
refusal_of (Err x) = some x
