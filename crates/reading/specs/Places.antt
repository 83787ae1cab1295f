-- What a cursor's answers say in the terms of reading: a cursor stands for the bytes that are left.
use Rattle.std.specs.Prelude.{ℕ, List, Option, Some, None, cond}
use Rattle.std.proofs.Math.Option.{none, some}
use Rattle.rules.specs.JobFile.{Reading, is_number, value_of}
use Rattle.reading.specs.declared.cursor.Cursor.{Cursor}

-- a value that was read and the bytes that are left, or nothing
abbrev pub seen : {A : Type 0} → Option (A × Cursor) → Reading A
seen None = none
seen (Some r) = some (r.0, r.1.rest.now)

-- fixed bytes x that were read, or nothing
abbrev pub passed : {A : Type 0} → A → Option Cursor → Reading A
passed x None = none
passed x (Some next) = some (x, next.rest.now)

-- the number that digits say, or none
unfoldable pub number_in : List ℕ → Option ℕ
number_in digits = cond (is_number digits) (Some (value_of 0 digits)) None
