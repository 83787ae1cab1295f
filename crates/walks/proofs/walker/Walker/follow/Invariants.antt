-- `walks::walker::Walker::follow` meets its contract. The loop's invariant: in the same store the steps taken and those still to come
-- are the whole walk. The measure is what is left.
use Rattle.std.proofs.Common.{◌≡◌}
use Rattle.rules.specs.FirstWalk.{steps_of}
use Rattle.treads.specs.Treads.{left_of}
use Rattle.walks.specs.Letters.{letters_left}
use Rattle.walks.proofs.Onward.{Going}
use Rattle.walks.proofs.walker.Walker.follow.Given as goal

abbrev pub invariant-loop-self : goal.invariant-loop-self
invariant-loop-self l =
    (l.self.layout ≡ l.initial.self.layout) × Going l.self.layout (letters_left l.initial.self.layout l.initial.self.left l.initial.self.at) l.self.left l.self.at l.steps.items

abbrev pub decreases-loop-self : goal.decreases-loop-self
decreases-loop-self l = steps_of l.self.layout (left_of l.self.layout l.self.left)
