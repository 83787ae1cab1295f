-- The closed forms of lengths that the router counts with; that they are the sums over the edges is proved (proofs/Lengths).
use Rattle.std.specs.Prelude.{ℕ, ◌+◌, ◌*◌, ◌-◌}
use Rattle.rules.specs.declared.Layout.{Layout}
use Rattle.rules.specs.declared.Action.{Action}
use Rattle.rules.specs.declared.Action.TheVariants.{Void, Bottom, Top, Gap, Once, Twice}
use Rattle.rules.specs.declared.Passage.{Passage}
use Rattle.rules.specs.Store.{aisle_length, position}
use Rattle.rules.specs.Plans.{back_treads, front_treads}

-- what an action adds to a plan's length
unfoldable pub action_length : Layout → Action → ℕ
action_length z Void = 0
action_length z (Bottom i) = 2 * position z i
action_length z (Top i) = 2 * (aisle_length z - position z i)
action_length z (Gap h i) = 2 * position z h + 2 * (aisle_length z - position z i)
action_length z Once = aisle_length z
action_length z Twice = 2 * aisle_length z

-- what a passage adds to it
unfoldable pub passage_length : Layout → Passage → ℕ
passage_length z p = (back_treads p + front_treads p) * z.width
