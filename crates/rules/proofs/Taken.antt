-- Every pick takes from a record of a passed cell, and the picks go upwards through aisles and cells.
use Prim.Native.Nat.{ℕ, ◌≤◌, ◌<◌}
use native.Mathlib.Omega.{arith}
use mathlib.Core.Path.{◌≡◌, refl, sym, ◌∙◌, ap, ap₂}
use mathlib.Core.Logic.{inl, inr}
use mathlib.Core.List.{List, [], ◌∷◌, map, Memᴰ}
use mathlib.Core.Bool.{Bool, true, false, cond, ◌&&◌, and-eq-true_iff}
use mathlib.Core.Option.{Option, none, some}
use borrow.Author.Tests.{ltb-true, eqb-true, eq-eqb}
use lib.Dec.{eqb, ltb}
use Rattle.rules.specs.declared.Layout.{Layout}
use Rattle.rules.specs.declared.StockRecord.{StockRecord}
use Rattle.rules.specs.declared.OrderLine.{OrderLine}
use Rattle.rules.specs.declared.Pick.{Pick}
use Rattle.rules.specs.Lists.{from, first_of, Sorted}
use Rattle.rules.specs.Store.{Point}
use Rattle.rules.specs.Jobs.{Job, open_stock}
use Rattle.rules.specs.Plans.{Plan, plan_passes}
use Rattle.rules.specs.Refusals.{Admitted}
use Rattle.rules.specs.Picks.{cells_of, less_of, record_at, taken, picks_from, found, passed_records, picks_of, TakenFrom, CellBefore, PickBefore}
use Rattle.rules.proofs.Lists.{from_member, member_concat, concat_member, sorted_concat, sorted_map, sorted_from}
use Rattle.rules.proofs.Admission.{stock_within, open_in_stock, one_record_per_cell}

-- a pick takes from a record
pub record FromRecord (x : Pick) (r : StockRecord) : Type 0 where
  pub aisle : x.aisle ≡ r.aisle
  pub cell : x.cell ≡ r.cell
  pub article : x.article ≡ r.article
  pub some : 1 ≤ x.quantity
  pub no_more : x.quantity ≤ r.quantity

pub pick_record : (ls : List OrderLine) (rs : List StockRecord) (x : Pick) → Memᴰ x (picks_from ls rs) → (r : StockRecord) × Memᴰ r rs × FromRecord x r
unfolding taken
pick_record ls [] x m = absurd (mathlib.Core.List.Memᴰ.not-nil m)
pick_record ls (r ∷ rs) x m = go (ltb 0 n) refl m (pick_record (less_of r.article n ls) rs x)
  where
    n : ℕ
    n = taken ls r

    picks : List Pick
    picks = picks_from (less_of r.article n ls) rs

    go : (b : Bool) → ltb 0 n ≡ b → Memᴰ x (cond b (record { aisle = r.aisle; cell = r.cell; article = r.article; quantity = n } ∷ picks) picks)
        → (Memᴰ x picks → (q : StockRecord) × Memᴰ q rs × FromRecord x q) → (q : StockRecord) × Memᴰ q (r ∷ rs) × FromRecord x q
    go true e (mathlib.Core.List.Memᴰ.head h) rest =
        let q = ap (λ (y : Pick). y.quantity) h in
        let l = ltb-true 0 n e in
        (r, mathlib.Core.List.Memᴰ.head refl, record { aisle = ap (λ (y : Pick). y.aisle) h; cell = ap (λ (y : Pick). y.cell) h; article = ap (λ (y : Pick). y.article) h; some = omega arith; no_more = omega arith })
    go true e (mathlib.Core.List.Memᴰ.tail k) rest = let t = rest k in (t.0, mathlib.Core.List.Memᴰ.tail t.1, t.2)
    go false e k rest = let t = rest k in (t.0, mathlib.Core.List.Memᴰ.tail t.1, t.2)

-- a record of a passed cell
record InCell (job : Job) (plan : Plan) (x : Point) (r : StockRecord) : Type 0 where
  in_stock : Memᴰ r (open_stock job)
  aisle : r.aisle ≡ x.aisle
  cell : r.cell ≡ x.height
  passed : plan_passes plan x.aisle x.height ≡ true

first_member : {A : Type 0} (t : A → Bool) (xs : List A) (x : A) → first_of t xs ≡ some x → Memᴰ x xs × (t x ≡ true)
first_member t [] x e = let z : ◌≡◌ {A = ℕ} 0 1 = cc in absurd (omega arith)
first_member t (y ∷ ys) x e = go (t y) refl e (first_member t ys x)
  where
    go : (b : Bool) → t y ≡ b → cond b (some y) (first_of t ys) ≡ some x → (first_of t ys ≡ some x → Memᴰ x ys × (t x ≡ true)) → Memᴰ x (y ∷ ys) × (t x ≡ true)
    go true h e rest = let same : x ≡ y = cc in (mathlib.Core.List.Memᴰ.head same, ap t same ∙ h)
    go false h e rest = let r = rest e in (mathlib.Core.List.Memᴰ.tail r.0, r.1)

first_found : {A : Type 0} (t : A → Bool) (x : A) (xs : List A) → Memᴰ x xs → t x ≡ true → first_of t xs ≡ none → ⊥
first_found t x xs (mathlib.Core.List.Memᴰ.head {x = y} e) h n = let u = rw (sym (ap t e) ∙ h) at n in let z : ◌≡◌ {A = ℕ} 0 1 = cc in omega arith
first_found t x xs (mathlib.Core.List.Memᴰ.tail {x = y} {xs = ys} m) h n = go (t y) n (first_found t x ys m h)
  where
    go : (b : Bool) → cond b (some y) (first_of t ys) ≡ none → (first_of t ys ≡ none → ⊥) → ⊥
    go true k rest = let z : ◌≡◌ {A = ℕ} 0 1 = cc in omega arith
    go false k rest = rest k

-- the record of a cell is in the stock, and there
pub record_there : (stock : List StockRecord) (x : Point) (r : StockRecord) → record_at stock x ≡ some r → Memᴰ r stock × (r.aisle ≡ x.aisle) × (r.cell ≡ x.height)
unfolding record_at
record_there stock x r e =
    let t = first_member (λ q. eqb q.aisle x.aisle && eqb q.cell x.height) stock r e in
    let u = (and-eq-true_iff (eqb r.aisle x.aisle) (eqb r.cell x.height)).0 t.1 in
    (t.0, eqb-true r.aisle x.aisle u.0, eqb-true r.cell x.height u.1)

-- the order of records and cells
abbrev pub RecordBefore : StockRecord → StockRecord → Type 0
RecordBefore r s = CellBefore r.aisle r.cell s.aisle s.cell

-- a pick from a record behind another is behind that
pub pick_behind : (r : StockRecord) (y : Pick) (q : StockRecord) → FromRecord y q → RecordBefore r q → CellBefore r.aisle r.cell y.aisle y.cell
pick_behind r y q f l = rw (f.aisle, f.cell) l

abbrev PointBefore : Point → Point → Type 0
PointBefore x y = CellBefore x.aisle x.height y.aisle y.height

cells_sorted : (z : Layout) → Sorted PointBefore (cells_of z)
unfolding cells_of CellBefore
cells_sorted z =
    sorted_concat ◌<◌ PointBefore column (from 1 z.aisles) (sorted_from 1 z.aisles) (λ j. sorted_map ◌<◌ PointBefore _ (from 1 z.cells) (λ b c l. inr (refl, l)) (sorted_from 1 z.cells)) (λ i j u v l m n. inl (omega (arith, in_column i u m, in_column j v n)))
  where
    column : ℕ → List Point
    column j = map (λ c. record { aisle = j; height = c }) (from 1 z.cells)

    in_column : (j : ℕ) (x : Point) → Memᴰ x (column j) → x.aisle ≡ j
    in_column j x m = ap (λ (y : Point). y.aisle) (sym (mathlib.Core.List.Memᴰ.of_map _ (from 1 z.cells) m).2)

picks_sorted : (ls : List OrderLine) (rs : List StockRecord) → Sorted RecordBefore rs → Sorted PickBefore (picks_from ls rs)
unfolding PickBefore
picks_sorted ls [] s = tt
picks_sorted ls (r ∷ rs) s = go (ltb 0 (taken ls r)) (picks_sorted (less_of r.article (taken ls r) ls) rs s.1)
  where
    picks : List Pick
    picks = picks_from (less_of r.article (taken ls r) ls) rs

    go : (b : Bool) → Sorted PickBefore picks → Sorted PickBefore (cond b (record { aisle = r.aisle; cell = r.cell; article = r.article; quantity = taken ls r } ∷ picks) picks)
    go true t = (λ y m. let (q, n, f) = pick_record (less_of r.article (taken ls r) ls) rs y m in pick_behind r y q f (s.0 q n), t)
    go false t = t

module _ (job : Job) (plan : Plan) where
  abbrev found_at : Point → List StockRecord
  found_at x = found (plan_passes plan x.aisle x.height) (record_at (open_stock job) x)

  found_in : (x : Point) (r : StockRecord) → Memᴰ r (found_at x) → InCell job plan x r
  found_in x r m = go (plan_passes plan x.aisle x.height) refl (record_at (open_stock job) x) refl m
    where
      go : (b : Bool) → plan_passes plan x.aisle x.height ≡ b → (o : Option StockRecord) → record_at (open_stock job) x ≡ o → Memᴰ r (found b o) → InCell job plan x r
      go b e none f k = absurd (mathlib.Core.List.Memᴰ.not-nil k)
      go true e (some q) f (mathlib.Core.List.Memᴰ.head h) =
          let t = record_there (open_stock job) x q f in
          rw h (record { in_stock = t.0; aisle = t.1; cell = t.2; passed = e })
      go true e (some q) f (mathlib.Core.List.Memᴰ.tail k) = absurd (mathlib.Core.List.Memᴰ.not-nil k)
      go false e (some q) f k = absurd (mathlib.Core.List.Memᴰ.not-nil k)

  found_sorted : (x : Point) → Sorted RecordBefore (found_at x)
  found_sorted x = go (plan_passes plan x.aisle x.height) (record_at (open_stock job) x)
    where
      go : (b : Bool) (o : Option StockRecord) → Sorted RecordBefore (found b o)
      go b none = tt
      go true (some r) = (λ s m. absurd (mathlib.Core.List.Memᴰ.not-nil m), tt)
      go false (some r) = tt

  pub passed_sorted : Sorted RecordBefore (passed_records job plan)
  unfolding passed_records
  passed_sorted =
      sorted_concat PointBefore RecordBefore found_at (cells_of job.layout) (cells_sorted job.layout) found_sorted (λ x y r q l m n. let h = found_in x r m in let k = found_in y q n in rw (h.aisle, h.cell, k.aisle, k.cell) l)

-- a cell of the store is one of its cells
cell_member : (z : Layout) (j c : ℕ) → (1 ≤ j) × (j ≤ z.aisles) → (1 ≤ c) × (c ≤ z.cells) → Memᴰ (record { aisle = j; height = c }) (cells_of z)
unfolding cells_of
cell_member z j c a b =
    let in_column = mathlib.Core.List.Memᴰ.map {B = Point} (λ d. record { aisle = j; height = d }) (from_member c 1 z.cells b.0 (omega arith)) in
    concat_member (λ k. map (λ d. record { aisle = k; height = d }) (from 1 z.cells)) (from_member j 1 z.aisles a.0 (omega arith)) in_column

module _ (job : Job) (plan : Plan) where
  -- the passed records are those of the stock whose cells are passed
  pub passed_record : (r : StockRecord) → Memᴰ r (passed_records job plan) → Memᴰ r (open_stock job) × (plan_passes plan r.aisle r.cell ≡ true)
  unfolding passed_records
  passed_record r m =
      let (x, i, k) = member_concat (found_at job plan) (cells_of job.layout) m in
      let h = found_in job plan x r k in
      (h.in_stock, ap₂ (plan_passes plan) h.aisle h.cell ∙ h.passed)

  pub passed_member : Admitted job → (r : StockRecord) → Memᴰ r (open_stock job) → plan_passes plan r.aisle r.cell ≡ true → Memᴰ r (passed_records job plan)
  unfolding passed_records record_at
  passed_member a r m p =
      let w = ((stock_within job).0 a.stock).records r (open_in_stock job r m) in
      let found-there : Memᴰ r (found_at job plan cell) = rw (p, its_record (record_at (open_stock job) cell) refl) (mathlib.Core.List.Memᴰ.head refl) in
      concat_member (found_at job plan) (cell_member job.layout r.aisle r.cell w.aisle w.cell) found-there
    where
      cell : Point
      cell = record { aisle = r.aisle; height = r.cell }

      its_record : (o : Option StockRecord) → record_at (open_stock job) cell ≡ o → o ≡ some r
      its_record none e =
          let itself : eqb r.aisle r.aisle && eqb r.cell r.cell ≡ true = rw (eq-eqb r.aisle r.aisle refl, eq-eqb r.cell r.cell refl) in
          absurd (first_found (λ (q : StockRecord). eqb q.aisle r.aisle && eqb q.cell r.cell) r (open_stock job) m itself e)
      its_record (some q) e = let t = record_there (open_stock job) cell q e in ap some (one_record_per_cell job a.cells_once q r (open_in_stock job q t.0) (open_in_stock job r m) t.1 t.2)

  -- each pick takes from a record of a passed cell
  pub pick_taken : (x : Pick) → Memᴰ x (picks_of job plan) → (r : StockRecord) × TakenFrom job plan x r
  unfolding picks_of
  pick_taken x m =
      let (r, k, f) = pick_record job.lines (passed_records job plan) x m in
      let h = passed_record r k in
      (r, record { in_stock = h.0; passed = h.1; aisle = f.aisle; cell = f.cell; article = f.article; some = f.some; no_more = f.no_more })

  -- the picks go upwards
  pub picks_ordered : Sorted PickBefore (picks_of job plan)
  unfolding picks_of
  picks_ordered = picks_sorted job.lines (passed_records job plan) (passed_sorted job plan)
