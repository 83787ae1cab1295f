-- `walks::walk_steps` meets its contract: the treads of the plan are filled in, and their walk is followed from the depot.
use Rattle.std.proofs.Common.{rules, ◌∙◌}
use Rattle.closedwalks.proofs.Counts.{layout_bounds}
use Rattle.walks.proofs.Start.{start_walkable, start_few, start_letters}
use Rattle.walks.proofs.walk_steps.Goals as goal

pub fill-requires : goal.fill-requires
fill-requires c = let b = layout_bounds c.args.layout c.requires.bounds in (b.1, b.0, search rules)

pub depot_number-requires : goal.depot_number-requires
depot_number-requires c = c.requires.bounds

-- the list is that of the plan's treads, and the walk starts at the depot
pub follow-requires : goal.follow-requires
follow-requires c = let x = c.args in rw (c.fill.ensures, c.depot_number.ensures) (start_walkable x.layout x.plan c.requires, start_few x.layout x.plan c.requires)

pub returns : goal.returns
returns c = let x = c.args in c.follow.ensures.steps ∙ rw (c.fill.ensures, c.depot_number.ensures) (start_letters x.layout x.plan c.requires)
