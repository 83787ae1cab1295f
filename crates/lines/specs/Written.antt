-- What every writer of the sheet does to the space that is lent to it, and the line of the T section.
use Rattle.std.specs.Prelude.{ℕ, ◌≤◌, ◌≡◌, List, ◌++◌, length, drop}
use Rattle.rules.specs.Sheet.{total_text}
use Rattle.lines.specs.declared.Total.{Total}

-- the text stands at the start, every byte behind it is as it was, and the result is the text's byte count
pub record Written (text before after : List ℕ) (r : ℕ) : Type 0 where
  pub count : r ≡ length text
  pub bytes : after ≡ text ++ drop (length text) before

-- the text's byte count, which is at most a number that does not depend on the text
pub record Sized (text : List ℕ) (most r : ℕ) : Type 0 where
  pub count : r ≡ length text
  pub bound : r ≤ most

-- the line of the T section
abbrev pub total_line_text : Total → List ℕ
total_line_text t = total_text t.length t.policy
