-- What the picks are asked of, and what one cell gives.
use Rattle.std.specs.Prelude.{ℕ, ◌-◌, ◌<◌, min, ◌≡◌, List, Option, Some, None, unwrap_or, cond, get_or, set, take}
use Rattle.rules.specs.declared.Action.{Action}
use Rattle.rules.specs.declared.OrderLine.{OrderLine}
use Rattle.rules.specs.declared.Pick.{Pick}
use Rattle.rules.specs.Jobs.{Job}
use Rattle.rules.specs.Plans.{passes_cell}
use Rattle.rules.specs.Refusals.{Admitted}
use Rattle.values.specs.declared.PlanValue.{PlanValue}
use Rattle.values.specs.declared.Shelf.{Shelf}
use Rattle.values.specs.Shelves.{ShelfOf, cell_number}
use Rattle.values.specs.Values.{no_line}

-- an admitted job whose lines stand in front of these, with so many cells to an aisle and this shelf, and a plan of its aisles
pub record Asked (job : Job) (lines : List OrderLine) (cells : ℕ) (shelf : Shelf) (plan : PlanValue) : Type 0 where
  pub admitted : Admitted job
  pub its_lines : (n : ℕ) × (job.lines ≡ take n lines)
  pub its_cells : job.layout.cells ≡ cells
  pub its_shelf : ShelfOf job shelf
  pub its_aisles : job.layout.aisles ≡ plan.aisles

-- how much is taken from a passed cell, given the number of its line, if it has one, and its stock
abbrev pub taken_of : List OrderLine → Option ℕ → ℕ → ℕ
taken_of lacking None stock = 0
taken_of lacking (Some k) stock = min (get_or lacking k no_line).quantity stock

-- a line with n fewer lacking
abbrev pub less_line : ℕ → OrderLine → OrderLine
less_line n l = record { article = l.article; quantity = l.quantity - n }

-- a pick of n from a cell for a line
abbrev pub pick_of : ℕ → ℕ → OrderLine → ℕ → Pick
pick_of aisle cell line n = record { aisle = aisle; cell = cell; article = line.article; quantity = n }

-- how much a cell gives to the lines, passed or not
abbrev pub given_at : Shelf → Action → ℕ → ℕ → List OrderLine → ℕ
given_at shelf action aisle cell lacking =
    cond (passes_cell action cell) (taken_of lacking (get_or shelf.line (cell_number aisle cell) None) (get_or shelf.quantity (cell_number aisle cell) 0)) 0

-- what a cell gives is picked, and its line then lacks as much less; nothing is picked where it gives nothing
abbrev pub PickedAt : Shelf → Action → ℕ → ℕ → List OrderLine → List OrderLine → Option Pick → Type 0
PickedAt shelf action aisle cell lacking left None = (given_at shelf action aisle cell lacking ≡ 0) × (left ≡ lacking)
PickedAt shelf action aisle cell lacking left (Some pick) =
    let k = unwrap_or (get_or shelf.line (cell_number aisle cell) None) 0 in
    let line = get_or lacking k no_line in
    let given = given_at shelf action aisle cell lacking in
    (0 < given) × (pick ≡ pick_of aisle cell line given) × (left ≡ set lacking k (less_line given line))
