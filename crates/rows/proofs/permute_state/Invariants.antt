-- `rows::permute_state` meets its contract: the demands before q are set.
use Rattle.rows.specs.Rows.{StateSet}
use Rattle.rows.proofs.permute_state.Given as goal

abbrev pub invariant-loop-q : goal.invariant-loop-q
invariant-loop-q l = StateSet l.initial.perm l.perm l.after l.s l.to l.q
