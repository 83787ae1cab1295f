-- What is kept of a job file: its lines are counted, and the first of them stand in arrays.
use Rattle.std.specs.Prelude.{[], ◌∷◌, ℕ, zero, suc, ◌-◌, ◌≡◌, List, ◌++◌, length, take, drop, replicate, Some, None}
use Rattle.std.specs.Prelude.{Option as Found}
use Rattle.reading.specs.declared.cursor.Cursor.{Cursor}
use Rattle.reading.specs.declared.raw.RawJob.{RawJob}
use Rattle.marks.specs.Marking.{cell_twice}
use Rattle.std.proofs.Math.Option.{Option, none, some}
use Rattle.rules.specs.declared.StockRecord.{StockRecord}
use Rattle.rules.specs.Hours.{Hours, NoHours, At}
use Rattle.rules.specs.Jobs.{Job}
use Rattle.rules.specs.JobFile.{Reading, read_header}
use Rattle.values.specs.declared.Clock.{Clock}
use Rattle.values.specs.declared.JobValue.{JobValue}
use Rattle.values.specs.Values.{no_window, no_line}
use Rattle.reading.specs.Places.{seen}

-- what stands where there is no record
abbrev pub no_record : StockRecord
no_record = record { aisle = 0; cell = 0; article = 0; quantity = 0 }

-- places with the first of the elements, as many as there are places, and behind them what stood there
unfoldable pub filled : {A : Type 0} → List A → List A → List A
filled places xs = take (length places) xs ++ drop (length xs) places

-- an array with the first of the elements, as many as there is room for, and blanks behind them
unfoldable pub padded : {A : Type 0} → ℕ → A → List A → List A
padded room blank xs = take room xs ++ replicate (room - length xs) blank

-- of n lines those in front of the first that cannot be read
abbrev pub readable_lines : {A : Type 0} → (List ℕ → Reading A) → ℕ → List ℕ → List A
readable_lines read zero s = []
readable_lines read (suc n) s = elim (read s) [ none ↦ [] | some r ↦ r.0 ∷ readable_lines read n r.1 ]

-- the same of a section's lines, of which none counts where its first line cannot be read
unfoldable pub readable_section : {A : Type 0} → ℕ → (List ℕ → Reading A) → List ℕ → List A
readable_section letter read s = elim (read_header letter s) [ none ↦ [] | some r ↦ readable_lines read r.0 r.1 ]

-- what is noted of elements, one by one
abbrev pub noted : {A N : Type 0} → (N → A → N) → N → List A → N
noted noting notes [] = notes
noted noting notes (x ∷ xs) = noted noting (noting notes x) xs

-- lines were read: what is told of them was found, and the first of them stand in the places; or nothing was found
abbrev pub Fills : {A T : Type 0} → (List A → T) → Reading (List A) → List A → List A → Found (T × Cursor) → Type 0
Fills told none before after found = found ≡ None
Fills told (some r) before after found = (seen found ≡ some (told r.0, r.1)) × (after ≡ filled before r.0)

-- hours by value: the number of the windows and the first 64 of them
abbrev pub hours_value : Hours → Found Clock
hours_value NoHours = None
hours_value (At t windows) = Some (record { minute = t; count = length windows; windows = padded 64 no_window windows })

-- hours that were read, by value
abbrev pub hours_kept : Reading Hours → Reading (Found Clock)
hours_kept none = none
hours_kept (some r) = some (hours_value r.0, r.1)

-- a job by value: its counts, the first 384 of its records, its hours and the first 8 of its lines
unfoldable pub job_value : Job → JobValue
job_value job =
    record {
      layout = job.layout;
      policy = job.policy;
      records = length job.stock;
      stock = padded 384 no_record job.stock;
      orders = length job.lines;
      lines = padded 8 no_line job.lines;
      hours = hours_value job.hours;
    }

-- a job by value, and whether a cell stands in two of its records
unfoldable pub raw_value : Job → RawJob
raw_value job = record { job = job_value job; twice = cell_twice job.stock }

-- what is kept of a job file, or of bytes that are none
abbrev pub raw_of : Option Job → Found RawJob
raw_of none = None
raw_of (some job) = Some (raw_value job)
