-- As many bytes are taken as are digits.
use Rattle.std.proofs.Common.{rules, tests, ◌≡◌, length, take, drop, ap, ◌∙◌}
use Rattle.std.proofs.lemmas.Iterator.{YieldsList-from_slice}
use Rattle.std.proofs.lemmas.Iterator.Consumers.{count_from_yields_List}
use Rattle.std.proofs.lemmas.Iterator.Search.{YieldsList-from_take_while}
use Rattle.std.proofs.lemmas.List.Folds.{length-prefix_len}
use Rattle.rules.specs.JobFile.{is_digit, leading_digits}
use Rattle.reading.proofs.Digits.{digits_length, digits_front}
use Rattle.reading.proofs.cursor.digits.Goals as goal
use Rattle.reading.proofs.cursor.digits.Goals.{After-count-count}

counted : (c : After-count-count) → c.count-count.result ≡ length (leading_digits c.args.s.now)
unfolding is_digit
counted c =
    let s = c.args.s.now in
    count_from_yields_List c.take_while.result c.count-count.result c.count-count.ensures.ran
    (YieldsList-from_take_while _ is_digit (YieldsList-from_slice s cc) c.take_while.ensures.closure c.take_while.ensures.done (λ x b q k. search (rules, tests)))
    ∙ length-prefix_len is_digit s ∙ digits_length s

pub returns-clause-digits : goal.returns-clause-digits
returns-clause-digits c = c.split_at.ensures.front ∙ ap (λ n. take n c.args.s.now) (counted (goal.at.returns-clause-digits c).After-count-count) ∙ digits_front c.args.s.now

pub returns-clause-rest : goal.returns-clause-rest
returns-clause-rest c = c.split_at.ensures.back ∙ ap (λ n. drop n c.args.s.now) (counted (goal.at.returns-clause-rest c).After-count-count)
