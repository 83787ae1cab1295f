-- `machine::decide` meets its contract, branch by branch.
use mathlib.Core.Path.{refl}
use borrow.Author.Tests.{lt-ltb, le-ltb}
use Rattle.machine.specs.Tables.{decided}
use Rattle.machine.proofs.decide.Goals as goal

pub returns-then-mark-lt9 : goal.returns-then-mark-lt9
unfolding decided
returns-then-mark-lt9 c = rw (lt-ltb c.args.mark 9 c.if-mark-lt9.true) refl

pub returns-then-between : goal.returns-then-between
unfolding decided
returns-then-between c = rw (le-ltb c.args.mark 9 c.if-mark-lt9.false, c.if-between.true) refl

pub returns-else-between : goal.returns-else-between
unfolding decided
returns-else-between c = rw (le-ltb c.args.mark 9 c.if-mark-lt9.false, c.if-between.false) refl
