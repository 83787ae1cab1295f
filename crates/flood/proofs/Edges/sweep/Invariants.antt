-- `flood::Edges::sweep` meets its contract. The first loop's invariant: the points below `at` are swept upwards; the second's: all are, and
-- with the points below `at` swept downwards too, the sweep is over.
use Rattle.std.proofs.Common.{◌≡◌, ◌-◌, ◌≤◌}
use Rattle.flood.specs.Flooded.{swept_up, swept_down, Swept}
use Rattle.flood.proofs.Edges.sweep.Given as goal

abbrev pub invariant-loop-at : goal.invariant-loop-at
invariant-loop-at l =
    Swept l.self.left.now l.at l.initial.seen l.seen l.news × (26 ≤ l.at) × (l.at - 26 ≤ l.self.end - 26) × (l.seen ≡ swept_up l.self.left.now (l.at - 26) l.initial.seen)

abbrev pub invariant-loop-at-2 : goal.invariant-loop-at-2
invariant-loop-at-2 l =
    Swept l.self.left.now l.self.end l.fn.seen l.seen l.news
    × (swept_down l.self.left.now (l.at - 26) l.seen ≡ swept_down l.self.left.now (l.self.end - 26) (swept_up l.self.left.now (l.self.end - 26) l.fn.seen))
