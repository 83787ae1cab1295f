-- What a page call (#103) answers and leaves, as the definitions say.
use Rattle.std.specs.Prelude.{ℕ, ◌≡◌, List}
use Rattle.std.specs.declared.result.Result.{Result}
use Rattle.rules.specs.declared.Refusal.{Refusal}
use Rattle.rules.specs.declared.PageReply.{PageReply}
use Rattle.rules.specs.PageAnswers.{PageAnswer}
use Rattle.finishing.specs.Paged.{PageReplied}

-- the reply, the page's byte count, every byte of the lent sheet and of the lent page and every number of the lent work area are those of an answer
pub record PageAnswered (a : PageAnswer) (r : Result PageReply Refusal) (bytes others numbers : List ℕ) : Type 0 where
  pub replied : PageReplied a r bytes others
  pub work : numbers ≡ a.call.work
