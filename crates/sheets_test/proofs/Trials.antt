-- The two jobs, tried: each row of the table of refusals on a job, and each cell and each aisle of a shelf.
use Prim.Native.Nat.{ℕ, ◌-◌, ◌≤◌}
use Rattle.std.specs.Prelude.{Option, Some, None}
use Rattle.std.specs.Option.{option_eq}
use native.Mathlib.Omega.{arith}
use mathlib.Core.Path.{◌≡◌, refl, sym, ap}
use mathlib.Core.Bool.{Bool, true, false, cond, not, ◌&&◌, true≢false}
use lib.Dec.{eqb}
use lib.ListN.{get_or}
use borrow.Author.Tests.{eqb-true}
use Rattle.rules.specs.Lists.{from, all_of}
use Rattle.rules.specs.Store.{within, layout_in_bounds}
use Rattle.rules.specs.Hours.{is_open}
use Rattle.rules.specs.Jobs.{Job, open_stock}
use Rattle.rules.specs.Picks.{record_at}
use Rattle.rules.specs.Refusals.{Admitted, stock_in_bounds, record_in_bounds, same_cell, list_in_bounds, line_in_bounds, same_article, weight, short_of_stock, all_stock}
use Rattle.rules.specs.Examples.{stocked, ◌⨯◌, alpha}
use Rattle.rules.proofs.Lists.{all_true, from_member}
use Rattle.rules.proofs.Numbers.{both_true}
use Rattle.values.specs.declared.Shelf.{Shelf}
use Rattle.values.specs.Shelves.{line_of, quantity_of, cell_number, ShelfOf}
use Rattle.sheets_test.specs.Jobs.{worked_job, top_job}

pub worked_admitted : Admitted worked_job
unfolding worked_job alpha stocked ◌⨯◌ layout_in_bounds within stock_in_bounds record_in_bounds same_cell list_in_bounds line_in_bounds same_article weight short_of_stock all_stock
worked_admitted =
    record { layout = refl; stock = refl; cells_once = refl; hours = refl; list = refl; articles_once = refl; light = omega arith; in_stock = refl }

pub top_admitted : Admitted top_job
unfolding top_job stocked ◌⨯◌ layout_in_bounds within stock_in_bounds record_in_bounds same_cell list_in_bounds line_in_bounds same_article weight short_of_stock all_stock
top_admitted =
    record { layout = refl; stock = refl; cells_once = refl; hours = refl; list = refl; articles_once = refl; light = omega arith; in_stock = refl }

-- a shelf has what a cell holds
abbrev cell_tried : Job → Shelf → ℕ → ℕ → Bool
cell_tried job shelf j c =
    option_eq eqb (get_or shelf.line (cell_number j c) None) (line_of job.lines (record_at (open_stock job) (record { aisle = j; height = c })))
    && eqb (get_or shelf.quantity (cell_number j c) 0) (quantity_of (record_at (open_stock job) (record { aisle = j; height = c })))

-- and whether an aisle is open
abbrev aisle_tried : Job → Shelf → ℕ → Bool
aisle_tried job shelf j = cond (is_open job.hours j) (get_or shelf.open (j - 1) false) (not (get_or shelf.open (j - 1) false))

-- and so for every cell and every aisle
abbrev shelf_tried : Job → Shelf → Bool
shelf_tried job shelf = all_of (λ j. all_of (cell_tried job shelf j) (from 1 24)) (from 1 16) && all_of (aisle_tried job shelf) (from 1 16)

-- two answers that agree are the same
same_told : (a b : Bool) → cond a b (not b) ≡ true → b ≡ a
same_told true b e = e
same_told false true e = sym e
same_told false false e = refl

-- and two lines
same_line : (k l : Option ℕ) → option_eq eqb k l ≡ true → k ≡ l
same_line None None e = refl
same_line None (Some l) e = absurd (true≢false (sym e))
same_line (Some k) None e = absurd (true≢false (sym e))
same_line (Some k) (Some l) e = ap Some (eqb-true k l e)

-- then it is the job's
pub shelf_tried_lem : (job : Job) (shelf : Shelf) → shelf_tried job shelf ≡ true → ShelfOf job shelf
shelf_tried_lem job shelf e =
    record {
      line_at_lem = λ j c p q r s. (at j c p q r s).0;
      quantity_at = λ j c p q r s. (at j c p q r s).1;
      open_at = λ j p q. same_told (is_open job.hours j) _ ((all_true (aisle_tried job shelf) (from 1 16)).0 tried.1 j (from_member j 1 16 p (omega arith)));
    }
  where
    tried : (all_of (λ j. all_of (cell_tried job shelf j) (from 1 24)) (from 1 16) ≡ true) × (all_of (aisle_tried job shelf) (from 1 16) ≡ true)
    tried = both_true _ _ e

    at : (j c : ℕ) → 1 ≤ j → j ≤ 16 → 1 ≤ c → c ≤ 24
        → (get_or shelf.line (cell_number j c) None ≡ line_of job.lines (record_at (open_stock job) (record { aisle = j; height = c })))
        × (get_or shelf.quantity (cell_number j c) 0 ≡ quantity_of (record_at (open_stock job) (record { aisle = j; height = c })))
    at j c p q r s =
        let row : all_of (cell_tried job shelf j) (from 1 24) ≡ true =
        (all_true (λ i. all_of (cell_tried job shelf i) (from 1 24)) (from 1 16)).0 tried.0 j (from_member j 1 16 p (omega arith)) in
        let both = both_true _ _ ((all_true (cell_tried job shelf j) (from 1 24)).0 row c (from_member c 1 24 r (omega arith))) in
        (same_line _ _ both.0, eqb-true _ _ both.1)
