-- The maps of an aisle: what one more cell leaves of a demand, and the row of one more cell.
use Prim.Native.Nat.{ℕ, suc, ◌+◌, ◌-◌, ◌≤◌, ◌<◌}
use native.Mathlib.Omega.{arith}
use native.Mathlib.Numerals.{add-one}
use native.Mathlib.Decide.{ℕ_discrete}
use mathlib.Core.Path.{◌≡◌, refl, sym, ◌∙◌, ap, ap₂, subst}
use mathlib.Core.Logic.{⊎_elim}
use mathlib.Core.List.{List, [], ◌∷◌, map, Memᴰ}
use mathlib.Core.Bool.{Bool, true, false, cond, ◌&&◌, and-false}
use mathlib.Core.Option.{Option, none, some}
use Rattle.std.specs.Prelude.{Option as Line, Some, None, IfSome}
use lib.Dec.{eqb, leb}
use lib.ListN.{length, get_or, replicate}
use borrow.Author.Tests.{le-leb, lt-leb, eq-eqb, ne_eqb}
use Rattle.rules.specs.declared.Action.{Action}
use Rattle.rules.specs.declared.Action.TheVariants.{Bottom, Top}
use Rattle.rules.specs.declared.OrderLine.{OrderLine}
use Rattle.rules.specs.declared.StockRecord.{StockRecord}
use Rattle.rules.specs.Lists.{sum_of}
use Rattle.rules.specs.Jobs.{Job, open_stock}
use Rattle.rules.specs.Picks.{record_at}
use Rattle.rules.specs.Refusals.{stock_in_bounds, weight, Admitted}
use Rattle.rules.proofs.Lists.{sum_agree}
use Rattle.rules.proofs.Admission.{layout_within, list_within, stock_within, open_in_stock}
use Rattle.optimum.specs.Demand.{supply_in, gains, radices, less_code}
use Rattle.optimum.proofs.Radix.{less_code_below, radices_positive, gains_length, count_weight}
use Rattle.values.specs.declared.Shelf.{Shelf}
use Rattle.values.specs.Shelves.{line_of, quantity_of, cell_number}
use Rattle.demand.specs.declared.digits.Digits.{Digits}
use Rattle.demand.specs.Digits.{demands, no_digit, Within, less_line}
use Rattle.demand.specs.declared.maps.Part.{Part}
use Rattle.demand.specs.declared.maps.Part.TheVariants.{Front, Back}
use Rattle.demand.specs.Maps.{entry, RowSet, RowBelow, MapsAsked, RowOf, reach, height_at, RowsTo, MapsReady}
use Rattle.demand.proofs.Filling.{below}
use Rattle.demand.proofs.Rows.{less_or_more, row_other}
use Rattle.demand.proofs.Composition.{plus, Parted, gains_where, gains_parted, less_code_plus}
use Rattle.demand.proofs.DigitLaws.{radices_length, less_code_none, less_at, none_gained, less_article, less_line_lem, digit_within}
use Rattle.demand.proofs.Records.{supplied, cell_gains}
use Rattle.shelves.proofs.Shelving.{lines_below}

-- one more cell in front, one more cell behind
front_parted : (h c : ℕ) → Parted (leb c (suc h)) (leb c h) (eqb c (suc h))
front_parted h c n = go (ℕ_discrete c (suc h))
  where
    go : Dec (c ≡ suc h) → cond (leb c (suc h)) n 0 ≡ cond (leb c h) n 0 + cond (eqb c (suc h)) n 0
    go (yes e) = rw (le-leb c (suc h) (omega arith), lt-leb c h (omega arith), eq-eqb c (suc h) e) (omega arith)
    go (no ne) =
        ⊎_elim (λ l. rw (le-leb c (suc h) (omega arith), le-leb c h (omega arith), ne_eqb c (suc h) ne) (omega arith))
        (λ l. rw (lt-leb c (suc h) l, lt-leb c h (omega arith), ne_eqb c (suc h) ne) (omega arith))
        (less_or_more c (suc h) ne)

back_parted : (i c : ℕ) → Parted (leb i c) (leb (suc i) c) (eqb c i)
back_parted i c n = go (ℕ_discrete c i)
  where
    go : Dec (c ≡ i) → cond (leb i c) n 0 ≡ cond (leb (suc i) c) n 0 + cond (eqb c i) n 0
    go (yes e) = rw (le-leb i c (omega arith), lt-leb (suc i) c (omega arith), eq-eqb c i e) (omega arith)
    go (no ne) =
        ⊎_elim (λ l. rw (lt-leb i c l, lt-leb (suc i) c (omega arith), ne_eqb c i ne) (omega arith))
        (λ l. rw (le-leb i c (omega arith), le-leb (suc i) c l, ne_eqb c i ne) (omega arith))
        (less_or_more c i ne)

-- a part that reaches no cell supplies nothing
no_gains : (job : Job) (p : ℕ → Bool) (j : ℕ) → stock_in_bounds job ≡ true
    → ((c : ℕ) → 1 ≤ c → c ≤ job.layout.cells → p c ≡ false) → gains_where job j p ≡ replicate (length job.lines) 0
no_gains job p j ok out =
    none_gained _ job.lines (λ l k. sum_agree _ (λ r. 0) (open_stock job) (λ s m. nothing l s m) ∙ sum_zero (open_stock job))
  where
    sum_zero : (xs : List StockRecord) → sum_of (λ (r : StockRecord). 0) xs ≡ 0
    sum_zero [] = refl
    sum_zero (x ∷ xs) = omega (arith, sum_zero xs)

    nothing : (l : OrderLine) (s : StockRecord) → Memᴰ s (open_stock job)
        → cond (eqb s.article l.article && (eqb s.aisle j && p s.cell)) s.quantity 0 ≡ 0
    nothing l s m =
        let w = (((stock_within job).0 ok).records s (open_in_stock job s m)).cell in
        rw (out s.cell w.0 w.1, and-false (eqb s.aisle j), and-false (eqb s.article l.article)) refl

-- what the record of a cell leaves of a demand
less_cell : (job : Job) → Admitted job → (o : Option StockRecord) (q : ℕ) → q < weight job.lines
    → less_code (radices job) (map (λ (l : OrderLine). supplied o l.article) job.lines) q
    ≡ less_at (radices job) (line_of job.lines o) (quantity_of o) q
unfolding radices
less_cell job ok none q h =
    rw (none_gained (λ l. 0) job.lines (λ l m. refl), ← radices_length job) (less_code_none (radices_positive job) q (omega (arith, count_weight job)))
less_cell job ok (some r) q h =
    less_article r.article r.quantity job.lines ok.articles_once q (omega (arith, count_weight job))

-- heights: within the aisle, at a cell, all different
pub height_below : (part : Part) (cells n : ℕ) → n ≤ suc cells → height_at part cells n ≤ suc cells
height_below Front cells n h = h
height_below Back cells n h = omega arith

pub height_in : (part : Part) (cells n : ℕ) → n < cells → (1 ≤ height_at part cells (n + 1)) × (height_at part cells (n + 1) ≤ cells)
height_in Front cells n h = (omega arith, omega arith)
height_in Back cells n h = (omega arith, omega arith)

pub heights_differ : (part : Part) (cells k n : ℕ) → k < n → n ≤ suc cells → height_at part cells k ≡ height_at part cells n → ⊥
heights_differ Front cells k n b h e = omega arith
heights_differ Back cells k n b h e = omega arith

-- at the next height one more cell is reached
module _ (job : Job) (ok : stock_in_bounds job ≡ true) (j : ℕ) where
  front_gains : (h : ℕ) → gains job j (Bottom (suc h)) ≡ plus (gains job j (Bottom h)) (gains_where job j (λ c. eqb c (suc h)))
  unfolding gains supply_in
  front_gains h = gains_parted job ok j (λ c. leb c (suc h)) (λ c. leb c h) (λ c. eqb c (suc h)) (λ c low high. front_parted h c)

  back_gains : (i : ℕ) → gains job j (Top i) ≡ plus (gains job j (Top (suc i))) (gains_where job j (λ c. eqb c i))
  unfolding gains supply_in
  back_gains i = gains_parted job ok j (λ c. leb i c) (λ c. leb (suc i) c) (λ c. eqb c i) (λ c low high. back_parted i c)

  next_gains : (part : Part) (cells n : ℕ) → n < cells → let c = height_at part cells (n + 1) in
      gains job j (reach part c) ≡ plus (gains job j (reach part (height_at part cells n))) (gains_where job j (λ k. eqb k c))
  next_gains Front cells n h = rw (add-one n) (front_gains n)
  next_gains Back cells n h =
      let e : suc cells - n ≡ suc (suc cells - (n + 1)) = omega arith in
      rw e (back_gains (suc cells - (n + 1)))

  -- at the first height none is reached
  first_gains : (part : Part) → gains job j (reach part (height_at part job.layout.cells 0)) ≡ replicate (length job.lines) 0
  unfolding gains supply_in
  first_gains Front = no_gains job (λ c. leb c 0) j ok (λ c low high. lt-leb c 0 low)
  first_gains Back =
      let last = suc job.layout.cells - 0 in
      no_gains job (λ c. leb last c) j ok (λ c low high. lt-leb last c (omega arith))

-- the line and the quantity of a cell
abbrev pub line_at : Shelf → ℕ → ℕ → Line ℕ
line_at shelf j c = get_or shelf.line (cell_number j c) None

abbrev pub held_quantity_at : Shelf → ℕ → ℕ → ℕ
held_quantity_at shelf j c = get_or shelf.quantity (cell_number j c) 0

-- the maps of an aisle that are asked for
module _ {job : Job} {shelf : Shelf} {d : Digits} {cells j : ℕ} (asked : MapsAsked job shelf d cells j) where
  ok : stock_in_bounds job ≡ true
  ok = asked.admitted.stock

  counted : d.weight ≡ weight job.lines
  counted = asked.digits_of.counted

  light : d.weight ≤ demands
  light = asked.digits_of.small.1

  -- the numbers that the code computes with
  pub aisle_small : (1 ≤ cells) × (cells ≤ 24) × (1 ≤ j) × (j ≤ 16)
  aisle_small =
      let z = (layout_within job.layout).0 asked.admitted.layout in
      (omega (arith, asked.cells_are), omega (arith, asked.cells_are), asked.aisle.0, omega (arith, asked.aisle.1))

  line_below : (c : ℕ) → 1 ≤ c → c ≤ cells → IfSome (line_at shelf j c) (λ l. l < length job.lines)
  line_below c low high = let z = aisle_small in lines_below asked.shelf_of j c z.2 z.3 low (omega arith)

  pub line_digit : (c : ℕ) → 1 ≤ c → c ≤ cells → IfSome (line_at shelf j c) (λ l. (l < 8) × Within (get_or d.digit l no_digit) d.weight)
  line_digit c low high = go (line_at shelf j c) (line_below c low high)
    where
      go : (line : Line ℕ) → IfSome line (λ l. l < length job.lines) → IfSome line (λ l. (l < 8) × Within (get_or d.digit l no_digit) d.weight)
      go None few = tt
      go (Some l) few = (omega (arith, few, ((list_within job).0 asked.admitted.list).count), digit_within asked.digits_of l few)

  -- the demands of a row are below the weight
  less_below : (x : Action) (q : ℕ) → less_code (radices job) (gains job j x) q < weight job.lines
  less_below x q = omega (arith, count_weight job, less_code_below (gains job j x) (radices_positive job) (gains_length job j x) q)

  pub row_below : (x : Action) (map : List ℕ) (row : ℕ) → RowOf job j x map row → RowBelow map row d.weight
  row_below x map row t q l = omega (arith, t q (omega (arith, counted)), counted, less_below x q)

  -- what one more cell leaves of a demand
  cell_step : (x : Action) (c q v : ℕ) → 1 ≤ c → c ≤ cells → v ≡ less_code (radices job) (gains job j x) q
      → less_line d (line_at shelf j c) (held_quantity_at shelf j c) v ≡ less_code (radices job) (plus (gains job j x) (gains_where job j (λ k. eqb k c))) q
  cell_step x c q v low high e =
      let z = aisle_small in
      let o = record_at (open_stock job) (record { aisle = j; height = c }) in
      let here = gains_where job j (λ k. eqb k c) in
      let line = asked.shelf_of.line_at_lem j c z.2 z.3 low (omega arith) in
      let quantity = asked.shelf_of.quantity_at j c z.2 z.3 low (omega arith) in
      let small : v < weight job.lines = rw e (less_below x q) in
      less_line_lem asked.digits_of (line_at shelf j c) (held_quantity_at shelf j c) v (line_below c low high) (omega (arith, counted, light))
      ∙ ap₂ (λ l n. less_at (radices job) l n v) line quantity
      ∙ sym (less_cell job asked.admitted o v small)
      ∙ ap (λ hs. less_code (radices job) hs v) (sym (cell_gains job asked.admitted j c))
      ∙ ap (less_code (radices job) here) e
      ∙ sym (less_code_plus (gains job j x) here (radices_positive job) (gains_length job j x) q)

  -- the first row of a map, and one more
  pub first_row_lem : (part : Part) (map map' : List ℕ) → RowSet map map' (height_at part cells 0) d.weight (λ q. q) → RowsTo job cells j part 1 map'
  first_row_lem part map map' r k l q h =
      let first : k ≡ 0 = omega arith in
      rw (first, asked.cells_are, first_gains job ok j part, ← radices_length job, less_code_none (radices_positive job) q (omega (arith, count_weight job)), ← asked.cells_are)
      (r.done q (omega (arith, counted)))

  module _ (part : Part) (map map' : List ℕ) (n from to at : ℕ) (low : n < cells)
      (from_is : from ≡ height_at part cells n) (to_is : to ≡ height_at part cells (n + 1)) (at-is : at ≡ cell_number j to) where
    pub next_row : RowsTo job cells j part (n + 1) map
        → RowSet map map' to d.weight (λ q. less_line d (get_or shelf.line at None) (get_or shelf.quantity at 0) (entry map from q))
        → RowsTo job cells j part (n + 1 + 1) map'
    next_row t r k l q h = ⊎_elim kept (λ p. subst Here (to_is ∙ ap (height_at part cells) (sym p)) here) (below k (n + 1) l)
      where
        Here : ℕ → Type 0
        Here c = entry map' c q ≡ less_code (radices job) (gains job j (reach part c)) q

        here : Here to
        here =
            let (one, all) = rw (← to_is) at (height_in part cells n low) in
            let more = rw (← to_is) at (next_gains job ok j part cells n low) in
            r.done q (omega (arith, counted))
            ∙ ap (λ k. less_line d (get_or shelf.line k None) (get_or shelf.quantity k 0) (entry map from q)) at-is
            ∙ cell_step (reach part (height_at part cells n)) to q (entry map from q) one all (rw from_is (t n (omega arith) q h))
            ∙ ap (λ gs. less_code (radices job) gs q) (sym more)

        kept : k < n + 1 → Here (height_at part cells k)
        kept b =
            let other : height_at part cells k ≡ to → ⊥ = λ p. heights_differ part cells k (n + 1) b (omega arith) (p ∙ to_is) in
            row_other r (height_at part cells k) q other light (omega (arith, counted, light)) ∙ t k b q h

-- the rows of both maps
pub maps_ready : (job : Job) (cells j : ℕ) (fronts backs : List ℕ) → cells ≡ job.layout.cells
    → RowsTo job cells j Front (suc cells) fronts → RowsTo job cells j Back (suc cells) backs → MapsReady job j fronts backs
maps_ready job cells j fronts backs e f b =
    record {
      front = λ h q l k. f h (omega arith) q k;
      back = λ i q l m k. subst (λ n. RowOf job j (Top n) backs n) (again i l m) (b (suc cells - i) (omega arith)) q k;
    }
  where
    again : (i : ℕ) → 1 ≤ i → i ≤ suc job.layout.cells → suc cells - (suc cells - i) ≡ i
    again i l m = omega arith
