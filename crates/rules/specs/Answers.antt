-- Document 01, the calls: what each answers and what it leaves in lent space, on served and refused jobs alike.
use Rattle.std.specs.Prelude.{ℕ, ◌+◌, List, ◌++◌, length, take, drop, replicate}
use Rattle.std.proofs.Math.Option.{Option, none, some}
use Rattle.rules.specs.declared.Refusal.{Refusal}
use Rattle.rules.specs.declared.Refusal.TheVariants.{NotAJobFile}
use Rattle.std.specs.declared.result.Result.{Result}
use Rattle.std.specs.declared.result.Result.TheVariants.{Ok, Err}
use Rattle.rules.specs.Jobs.{Job}
use Rattle.rules.specs.JobFile.{line_feed, header, field, read_job}
use Rattle.rules.specs.Refusals.{work_limit, table, number_of, cleared, work_after, first_row}
use Rattle.rules.specs.Sheet.{sheet_text}

-- what a call answers: the sheet's byte count, or the cause of the refusal
abbrev pub Reply : Type 0
Reply = Result ℕ Refusal

-- what a call answers, and what the lent sheet and the lent work area hold after it
pub record Answer : Type 0 where
  pub reply : Reply
  pub sheet : List ℕ
  pub work : List ℕ

-- the number that a call returns: 0 for a served job
abbrev pub reply_number : Reply → ℕ
reply_number (Ok n) = 0
reply_number (Err r) = number_of r

-- the length that a call returns: the sheet's byte count, 0 for a refused job
abbrev pub reply_length : Reply → ℕ
reply_length (Ok n) = n
reply_length (Err r) = 0

-- a refusal: the sheet as it was, the work area as the table says
unfoldable pub refused : Refusal → List ℕ → List ℕ → Answer
refused r sheet work = record { reply = Err r; sheet = sheet; work = work_after r work }

-- a served job: the text of its sheet in front, bytes past it unchanged, the work area all zero
unfoldable pub served : Job → List ℕ → List ℕ → Answer
served job sheet work =
    record {
      reply = Ok (length (sheet_text job));
      sheet = sheet_text job ++ drop (length (sheet_text job)) sheet;
      work = cleared work;
    }

-- refused by a row of the table, or else served. (Where no row applies the bytes read as a job; the last line only stands in)
abbrev pub decided : Option Refusal → Option Job → List ℕ → List ℕ → Answer
decided (some r) read sheet work = refused r sheet work
decided none (some job) sheet work = served job sheet work
decided none none sheet work = refused NotAJobFile sheet work

-- the library call on job bytes, lent sheet and lent work area: the first row of the table that applies decides
unfoldable pub answer : List ℕ → List ℕ → List ℕ → Answer
answer bytes sheet work = let read = read_job bytes in decided (first_row (table read sheet work)) read sheet work

-- the planning host's call brings its own work area
unfoldable pub host_answer : List ℕ → List ℕ → Answer
host_answer bytes sheet = answer bytes sheet (replicate work_limit 0)

-- the planning host's number: the sheet's byte count for a served job, otherwise 65,536 plus the refusal's number
abbrev pub host_number : Reply → ℕ
host_number (Ok n) = n
host_number (Err r) = 65536 + number_of r

-- sheet space that always suffices
abbrev pub sheet_limit : ℕ
sheet_limit = 16384

-- the letter R
abbrev pub letter_r : ℕ
letter_r = 82  -- R

-- what the program prints: the sheet, or `R 1` and a line with the refusal's number
abbrev pub printed : Reply → List ℕ → List ℕ
printed (Ok n) sheet = take n sheet
printed (Err r) sheet = header letter_r 1 ++ field line_feed (number_of r)

-- the program's output for job bytes, in sheet space that always suffices
unfoldable pub output : List ℕ → List ℕ
output bytes =
    let a = host_answer bytes (replicate sheet_limit 0) in
    printed a.reply a.sheet
