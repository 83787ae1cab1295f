-- `walks_test::main` meets its contract: each plan is lawful in its store.
use Rattle.walks_test.proofs.LawfulPlans.{mixed_lawful, six_lawful, two_lawful}
use Rattle.walks_test.proofs.main.Goals as goal

pub print_walk-requires : goal.print_walk-requires
print_walk-requires c = rw (c.store.ensures, c.mixed.ensures) mixed_lawful

pub print_walk-requires-2 : goal.print_walk-requires-2
print_walk-requires-2 c = rw (c.store-2.ensures, c.six.ensures) six_lawful

pub print_walk-requires-3 : goal.print_walk-requires-3
print_walk-requires-3 c = rw (c.store-3.ensures, c.two.ensures) two_lawful
