-- Keeping the best, one after another.
use mathlib.Core.Bool.{Bool, cond}
use mathlib.Core.Option.{Option, none, some}

-- what is kept after one more: it, where it passes and nothing is kept or it is better than what is
abbrev pub kept_with : {A : Type 0} → (A → A → Bool) → Option A → Bool → A → Option A
kept_with better none passes y = cond passes (some y) none
kept_with better (some b) passes y = cond passes (cond (better y b) (some y) (some b)) (some b)
