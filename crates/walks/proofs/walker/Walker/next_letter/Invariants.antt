-- `walks::walker::Walker::next_letter` meets its contract. The loop's invariant: none of the letters before can be next.
use Rattle.std.proofs.Common.{◌≡◌, ℕ, ◌<◌, false}
use Rattle.walks.specs.Letters.{can_be}
use Rattle.walks.proofs.Stepping.{tried}
use Rattle.walks.proofs.walker.Walker.next_letter.Given as goal

abbrev pub invariant-loop-step : goal.invariant-loop-step
invariant-loop-step l = (l.self ≡ l.initial.self) × ((k : ℕ) → k < l.step-index → can_be l.initial.self.layout l.initial.self.left l.initial.self.at (tried k) ≡ false)
