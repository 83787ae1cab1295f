-- What is left of the lines has two of one article exactly if the lines have.
use Rattle.std.proofs.Common.{◌≡◌, drop}
use Rattle.rules.specs.Lists.{any_two}
use Rattle.rules.specs.Refusals.{same_article}
use Rattle.jobfile.proofs.twice.article_twice.Given as goal

abbrev pub invariant-loop-i : goal.invariant-loop-i
invariant-loop-i l = any_two same_article (drop l.i l.lines) ≡ any_two same_article l.lines
