-- `shelves::holds_listed` meets its contract: none of the cells before c has a line.
use Rattle.std.proofs.Common.{◌≡◌, ℕ, ◌≤◌, ◌<◌, get_or}
use Rattle.std.specs.Prelude.{None, is_some, false}
use Rattle.values.specs.Shelves.{cell_number}
use Rattle.shelves.proofs.holds_listed.Given as goal

abbrev pub invariant-loop-c : goal.invariant-loop-c
invariant-loop-c l = (k : ℕ) → 1 ≤ k → k < l.c → is_some (get_or l.shelf.line (cell_number l.j k) None) ≡ false
