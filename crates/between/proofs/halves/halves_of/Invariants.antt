-- `between::halves::halves_of` meets its contract: the heights below h are filled.
use Rattle.std.proofs.Common.{false, suc}
use Rattle.rules.specs.Policies.{in_front_half, in_back_half}
use Rattle.between.proofs.Heights.{Filled}
use Rattle.between.proofs.halves.halves_of.Given as goal

abbrev pub invariant-loop-h : goal.invariant-loop-h
invariant-loop-h l = Filled (in_front_half l.z) false l.front l.h × Filled (in_back_half l.z) false l.back l.h × Filled suc 0 l.from l.h
