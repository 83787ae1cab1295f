-- The first run of a walk.
use Rattle.std.specs.Prelude.{ℕ, Bool, eqb}
use Rattle.std.specs.List.{prefix_len}
use Rattle.rules.specs.declared.Direction.{Direction}
use Rattle.rules.specs.Walks.{Walk, letter_rank}

-- two steps lead the same way
abbrev pub same_way : Direction → Direction → Bool
same_way d e = eqb (letter_rank e) (letter_rank d)

-- how many steps at the front of a walk lead that way
abbrev pub leading : Direction → Walk → ℕ
leading d walk = prefix_len (same_way d) walk
