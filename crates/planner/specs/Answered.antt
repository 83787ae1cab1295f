-- What a call answers and leaves, as the definitions say.
use Rattle.std.specs.Prelude.{ℕ, ◌≡◌, List}
use Rattle.rules.specs.Answers.{Answer, Reply}
use Rattle.finishing.specs.Answered.{Replied}

-- the reply, every byte of the lent sheet and every number of the lent work area are those of an answer
pub record Answered (a : Answer) (r : Reply) (bytes numbers : List ℕ) : Type 0 where
  pub replied : Replied a r bytes
  pub work : numbers ≡ a.work
