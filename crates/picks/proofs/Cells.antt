-- The cells of a store one by one, and what each gives.
use Prim.Native.Nat.{ℕ, zero, suc, ◌+◌, ◌-◌, ◌≤◌, ◌<◌}
use native.Mathlib.Omega.{arith}
use native.Mathlib.Nat.{sub-zero}
use mathlib.Core.Path.{◌≡◌, refl, sym, ap, ◌∙◌}
use mathlib.Core.List.{List, [], ◌∷◌, ◌++◌, map}
use mathlib.Core.Bool.{Bool, true, false, cond}
use mathlib.Core.Option.{Option, none, some}
use lib.ListN.{length, get_or, set, drop, length-append, length-map, get_or-append, get_or-map}
use lib.Seq.{drop-cons, drop_at, drop-nil}
use borrow.Author.Tests.{lt-ltb}
use Rattle.rules.specs.declared.Layout.{Layout}
use Rattle.rules.specs.declared.StockRecord.{StockRecord}
use Rattle.rules.specs.declared.OrderLine.{OrderLine}
use Rattle.rules.specs.Lists.{from, concat_of}
use Rattle.rules.specs.Store.{Point}
use Rattle.rules.specs.Jobs.{Job, open_stock}
use Rattle.rules.specs.Picks.{cells_of, record_at, found, picks_from}
use Rattle.rules.proofs.Lists.{length_from}
use Rattle.rules.proofs.Taken.{record_there}
use Rattle.std.specs.Prelude.{Some}
use Rattle.values.specs.Shelves.{line_of, quantity_of}
use Rattle.values.specs.Values.{no_line}
use Rattle.picks.specs.Picking.{taken_of, less_line, pick_of}
use Rattle.picks.proofs.Lines.{Lacking, OnLine, not_none, less_zero, on_line, taken_by_number}

-- the cell c of aisle j
abbrev pub cell_at : ℕ → ℕ → Point
cell_at j c = record { aisle = j; height = c }

-- the cells of an aisle
abbrev row_of : Layout → ℕ → List Point
row_of z j = map (cell_at j) (from 1 z.cells)

-- the cells behind j aisles and c cells of the next
unfoldable pub cells_from : Layout → ℕ → ℕ → List Point
cells_from z j c = drop c (concat_of (row_of z) (from (suc j) (z.aisles - j)))

from_at : (a n i k : ℕ) → i < n → a + i ≡ k → get_or (from a n) i 0 ≡ k
from_at a zero i k l e = absurd (omega arith)
from_at a (suc n) zero k l e = omega arith
from_at a (suc n) (suc i) k l e = from_at (suc a) n i k (omega arith) (omega arith)

module _ (z : Layout) where
  row_length : (j : ℕ) → length (row_of z j) ≡ z.cells
  row_length j = length-map (from 1 z.cells) (cell_at j) ∙ length_from 1 z.cells

  -- at first they are all
  pub cells_first : cells_of z ≡ cells_from z 0 0
  unfolding cells_of cells_from
  cells_first = rw sub-zero

  -- behind the last aisle there is none
  pub cells_end : (j c : ℕ) → z.aisles ≤ j → cells_from z j c ≡ []
  unfolding cells_from
  cells_end j c l = let e : z.aisles - j ≡ 0 = omega arith in rw (e, drop-nil)

  module _ (j : ℕ) (l : j < z.aisles) where
    -- aisle by aisle
    rows : concat_of (row_of z) (from (suc j) (z.aisles - j)) ≡ row_of z (suc j) ++ concat_of (row_of z) (from (suc (suc j)) (z.aisles - suc j))
    rows = let e : z.aisles - j ≡ suc (z.aisles - suc j) = omega arith in rw e

    -- and cell by cell
    pub cells_next : (c : ℕ) → c < z.cells → cells_from z j c ≡ cell_at (suc j) (suc c) ∷ cells_from z j (suc c)
    unfolding cells_from
    cells_next c m =
        let rest = concat_of (row_of z) (from (suc (suc j)) (z.aisles - suc j)) in
        let here = row_of z (suc j) in
        let at : get_or (here ++ rest) c (cell_at (suc j) 0) ≡ cell_at (suc j) (suc c) =
        get_or-append here rest (cell_at (suc j) 0) c (omega (arith, row_length (suc j)))
        ∙ get_or-map (cell_at (suc j)) (from 1 z.cells) c 0
        ∙ ap (cell_at (suc j)) (from_at 1 z.cells c (suc c) m (omega arith))
        in
        let room : c < length (here ++ rest) = omega (arith, length-append here rest, row_length (suc j)) in
        rw rows (drop-cons (here ++ rest) c (cell_at (suc j) 0) room ∙ ap (λ (x : Point). x ∷ drop (suc c) (here ++ rest)) at)

    -- behind the last cell of an aisle comes the next aisle
    pub cells_turn : (c : ℕ) → c ≡ z.cells → cells_from z j c ≡ cells_from z (suc j) 0
    unfolding cells_from
    cells_turn c e = rw rows (drop_at (row_of z (suc j)) _ c (row_length (suc j) ∙ sym e))

-- how much is taken from a cell, passed or not, that has a record or none
abbrev pub taken_at : Job → List OrderLine → Bool → Option StockRecord → ℕ
taken_at job lacking passed o = cond passed (taken_of lacking (line_of job.lines o) (quantity_of o)) 0

-- what a cell gives to lines that lack so much
module _ {job : Job} {lacking : List OrderLine} (s : Lacking job lacking) where
  -- the line of a cell is the one of an article
  pub cell_line : (o : Option StockRecord) (k : ℕ) → line_of job.lines o ≡ Some k → (a : ℕ) × OnLine a lacking k
  cell_line none k e = not_none e
  cell_line (some r) k e = (r.article, on_line s r.article k e)

  -- a cell from which nothing is taken
  pub nothing_taken : (passed : Bool) (o : Option StockRecord) (rest : List StockRecord) → taken_at job lacking passed o ≡ 0
      → picks_from lacking (found passed o ++ rest) ≡ picks_from lacking rest
  nothing_taken passed none rest e = refl
  nothing_taken false (some r) rest e = refl
  nothing_taken true (some r) rest e = rw (taken_by_number s r ∙ e, less_zero r.article lacking)

  -- a cell from which some is taken for line k
  pub some_taken : (passed : Bool) (o : Option StockRecord) (j c k t : ℕ) (rest : List StockRecord) → record_at (open_stock job) (cell_at j c) ≡ o
      → line_of job.lines o ≡ Some k → taken_at job lacking passed o ≡ t → 0 < t
      → picks_from lacking (found passed o ++ rest)
      ≡ pick_of j c (get_or lacking k no_line) t ∷ picks_from (set lacking k (less_line t (get_or lacking k no_line))) rest
  some_taken passed none j c k t rest e n f l = not_none n
  some_taken false (some r) j c k t rest e n f l = absurd (omega arith)
  some_taken true (some r) j c k t rest e n f l =
      let line = on_line s r.article k n in
      let there = record_there (open_stock job) (cell_at j c) r e in
      rw (taken_by_number s r ∙ f, lt-ltb 0 t l, line.less t, line.article, there.1, there.2)
