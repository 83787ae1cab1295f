-- `router::choices::Sought::is_attained` meets its contract: by the length, and then by the count.
use borrow.Author.Tests.{eq-eqb, ne_eqb}
use Rattle.router.specs.Choosing.{is_attained}
use Rattle.router.proofs.choices.Sought.is_attained.Goals as goal

pub returns-then-length-self : goal.returns-then-length-self
unfolding is_attained
returns-then-length-self c =
    let x = c.args in
    rw (eq-eqb x.length x.self.length c.if-length-self.true, c.aisle_count.ensures, c.entered_of.ensures)

pub returns-else-length-self : goal.returns-else-length-self
unfolding is_attained
returns-else-length-self c = let x = c.args in rw (ne_eqb x.length x.self.length c.if-length-self.false)
