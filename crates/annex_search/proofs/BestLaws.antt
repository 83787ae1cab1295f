-- What is noted of a sound job is what the search asks for.
use Prim.Native.Nat.{ℕ, ◌-◌, ◌≤◌}
use native.Mathlib.Omega.{arith}
use mathlib.Core.Path.{◌≡◌, refl, ap, ◌∙◌}
use mathlib.Core.Bool.{true, false}
use lib.ListN.{get_or, take}
use Rattle.rules.specs.Hours.{is_open}
use Rattle.rules.specs.Store.{layout_in_bounds}
use Rattle.rules.specs.declared.Layout.{Layout}
use Rattle.rules.proofs.Admission.{stock_within, layout_within}
use Rattle.values.specs.declared.JobValue.{JobValue}
use Rattle.values.specs.declared.Shelf.{Shelf}
use Rattle.values.specs.Shelves.{ShelfOf}
use Rattle.values.specs.Values.{job_of, hours_of, Sound}
use Rattle.annex_stock.specs.declared.Stock.{Stock}
use Rattle.annex_stock.specs.Stocked.{StockOf}
use Rattle.annex_policy.specs.Middle.{BetweenAsked, is_largest}
use Rattle.annex_policy.specs.Noted.{ShelfFor}
use Rattle.annex_policy.specs.Ruled.{may_be_entered}
use Rattle.annex_search.specs.declared.search.Asked.{Asked}
use Rattle.annex_search.specs.Searched.{Searching}

-- the flags of the shelf say which aisles are open
pub open_flags : (v : JobValue) (shelf : Shelf) → ShelfOf (job_of v) shelf
    → (j : ℕ) → 1 ≤ j → j ≤ 16 → get_or shelf.«open» (j - 1) false ≡ is_open (hours_of v.hours) j
unfolding job_of
open_flags v shelf o = o.open_at

module _ (v : JobValue) (s : Sound v) where
  -- its layout is within its bounds
  pub layout_sound : layout_in_bounds v.layout ≡ true
  unfolding job_of
  layout_sound = s.admitted.layout

  -- a shelf of the job is one for its layout and its policy
  pub shelf_for : (shelf : Shelf) → ShelfOf (job_of v) shelf → ShelfFor (job_of v) v.layout v.policy shelf
  unfolding job_of
  shelf_for shelf o = record { layout_is = refl; policy_is = refl; admitted = s.admitted; shelf_of = o }

  -- its stock, and the flags of a shelf of the job
  pub stock_of : (shelf : Shelf) → ShelfOf (job_of v) shelf → (stock : Stock) → stock.records.now ≡ take v.records v.stock → stock.open ≡ shelf.open → StockOf (job_of v) stock
  unfolding job_of
  stock_of shelf o stock rs fs =
      let held = (stock_within (job_of v)).0 s.admitted.stock in
      let z = (layout_within v.layout).0 s.admitted.layout in
      record {
        records = rs;
        doors = λ j l h. (ap (λ flags. get_or flags (j - 1) false) fs ∙ open_flags v shelf o j l h);
        few = held.count;
        within = held.records;
        aisles = z.aisles.1;
      }

  -- with its list and its stock, the aisles that may be entered and the tests for aisles between, the search is of the job
  pub searching_from : v.layout.aisles ≤ 3 → v.layout.cells ≤ 4 → (asked : Asked)
      → asked.layout ≡ v.layout → asked.policy ≡ v.policy → asked.lines.now ≡ take v.orders v.lines → StockOf (job_of v) asked.stock
      → ((j : ℕ) → 1 ≤ j → j ≤ v.layout.aisles → get_or asked.may (j - 1) false ≡ may_be_entered (job_of v) j)
      → BetweenAsked (is_largest v.policy) (job_of v) v.layout asked.between
      → Searching (job_of v) asked
  unfolding job_of
  searching_from three four asked z p l stock m b =
      record {
        asked_of_lem = record {
          layout = z;
          policy = p;
          lines = l;
          stock = stock;
          may = rw z m;
          between = rw (z, p) b;
          small = omega (arith, three, ap (λ (y : Layout). y.aisles) z);
        };
        bounds = s.admitted.layout;
        small = (three, four);
      }
