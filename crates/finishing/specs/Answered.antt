-- What a call answers and leaves, as the definitions say.
use Rattle.std.specs.Prelude.{ℕ, ◌≡◌, List, true, false, ltb, length}
use Rattle.rules.specs.declared.Refusal.TheVariants.{SheetSpace}
use Rattle.rules.specs.Answers.{Reply}
use Rattle.rules.specs.Jobs.{Job}
use Rattle.rules.specs.Sheet.{sheet_text}
use Rattle.rules.specs.Answers.{Answer, refused, served}

-- a job to which no refusal of 1 to 8 and 12 applies: refused where its sheet is longer than its space, or else served
unfoldable pub written : Job → List ℕ → List ℕ → Answer
written job sheet work =
    elim (ltb (length sheet) (length (sheet_text job))) [ true ↦ refused SheetSpace sheet work | false ↦ served job sheet work ]

-- the reply and every byte of the lent sheet are those of an answer
pub record Replied (a : Answer) (r : Reply) (bytes : List ℕ) : Type 0 where
  pub reply : r ≡ a.reply
  pub sheet : bytes ≡ a.sheet
