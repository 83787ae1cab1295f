-- Either the bytes start with the word or they do not.
use Rattle.std.proofs.Common.{ℕ, ◌+◌, ◌≡◌, List, length, take, drop, Option, Some, None, Bor, MatchOption, eqb, true, false, sym, ap, ◌∙◌}
use lib.Pointwise.{pointwise}
use Rattle.std.proofs.Math.Option.{none, some}
use Rattle.rules.specs.JobFile.{read_word}
use Rattle.reading.specs.Places.{passed}
use Rattle.reading.proofs.Words.{word_there, word_other}
use Rattle.reading.proofs.cursor.Cursor.word.Goals as goal

-- what is left behind the word
abbrev Stripped : List ℕ → List ℕ → Option (Bor (List ℕ)) → Type 0
Stripped w s r =
    MatchOption r (pointwise eqb (take (length w) s) w ≡ false) (λ x. (pointwise eqb (take (length w) s) w ≡ true) × (x.now ≡ drop (length w) s) × (length x.now + length w ≡ length s))

missing : (w s : List ℕ) (r : Option (Bor (List ℕ))) → Stripped w s r → r ≡ None → none ≡ read_word w s
missing w s None h e = sym (word_other w s h)
missing w s (Some x) h e = cc

found : (w s : List ℕ) (x : Bor (List ℕ)) → Stripped w s (Some x) → some (w, x.now) ≡ read_word w s
found w s x h = ap (λ t. some (w, t)) h.1 ∙ sym (word_there w s h.0)

pub returns-in_err-rest : goal.returns-in_err-rest
returns-in_err-rest c =
    ap (passed c.args.word.now) c.from_residual.ensures ∙ missing c.args.word.now c.args.self.rest.now c.strip_prefix.result c.strip_prefix.ensures.cases c.in_err-rest.was

pub returns : goal.returns
returns c = found c.args.word.now c.args.self.rest.now c.in_ok-rest.rest c.in_ok-rest.ensures.cases
