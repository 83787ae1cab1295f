-- A cell in two stock records: each aisle's cells as bits of a number, tested and set as the records are read.
use Rattle.std.specs.Prelude.{ℕ, ◌-◌, ◌/◌, ◌%◌, ◌^◌, List, Bool, false, cond, ◌&&◌, ◌||◌, eqb, get_or, set, replicate}
use Rattle.std.specs.Int.Bits.{bit_or}
use Rattle.rules.specs.declared.StockRecord.{StockRecord}
use Rattle.rules.specs.Lists.{any_two, select}
use Rattle.rules.specs.Store.{within}
use Rattle.rules.specs.Refusals.{same_cell}
use Rattle.marks.specs.declared.Marks.{Marks}

-- the cell of the record has a bit: aisle 1 to 16, cell 1 to 24
unfoldable pub has_bit : StockRecord → Bool
has_bit r = within 1 16 r.aisle && within 1 24 r.cell

-- a cell in two of the records whose cell has a bit
unfoldable pub cell_twice : List StockRecord → Bool
cell_twice records = any_two same_cell (select has_bit records)

-- no cell seen
abbrev pub no_marks : Marks
no_marks = record { seen = replicate 16 0; twice = false }

-- the bit of the record's cell is set
abbrev pub is_seen : List ℕ → StockRecord → Bool
is_seen seen r = eqb ((get_or seen (r.aisle - 1) 0 / 2 ^ (r.cell - 1)) % 2) 1

-- the marks with that bit set
abbrev pub set_seen : List ℕ → StockRecord → List ℕ
set_seen seen r = set seen (r.aisle - 1) (bit_or (get_or seen (r.aisle - 1) 0) (2 ^ (r.cell - 1)))

-- the marks behind one more record: its bit is tested and set
unfoldable pub mark_of : Marks → StockRecord → Marks
mark_of m r = cond (has_bit r) (record { seen = set_seen m.seen r; twice = m.twice || is_seen m.seen r }) m
