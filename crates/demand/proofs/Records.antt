-- What the record of a cell supplies to the lines.
use Prim.Native.Nat.{ℕ, ◌+◌}
use native.Mathlib.Omega.{arith}
use mathlib.Core.Path.{◌≡◌, refl, sym, ◌∙◌, ap, fun_ext}
use mathlib.Core.List.{List, [], ◌∷◌, map}
use mathlib.Core.Bool.{Bool, true, false, cond, ◌&&◌, and-false, and-true, true≢false}
use mathlib.Core.Option.{Option, none, some}
use lib.Dec.{eqb}
use Rattle.rules.specs.declared.OrderLine.{OrderLine}
use Rattle.rules.specs.declared.StockRecord.{StockRecord}
use Rattle.rules.specs.Lists.{any_of, any_two, select}
use Rattle.rules.specs.Hours.{is_open}
use Rattle.rules.specs.Jobs.{Job, open_stock}
use Rattle.rules.specs.Picks.{record_at}
use Rattle.rules.specs.Refusals.{same_cell, Admitted}
use Rattle.rules.proofs.Lists.{any_false, no_two_alike, sorted_select}
use Rattle.rules.proofs.Admission.{same_cell_lem}
use Rattle.shelves.proofs.Records.{or-false, first_member, cell_at, is_at, is_at_lem}
use Rattle.demand.proofs.Composition.{stock_where, gains_where}

-- where no two are alike, or none is such, so it is among those of which another test holds
alike_select : {A : Type 0} (alike : A → A → Bool) (t : A → Bool) (xs : List A) → any_two alike xs ≡ false → any_two alike (select t xs) ≡ false
alike_select alike t xs e = (no_two_alike alike (select t xs)).1 (sorted_select _ t xs ((no_two_alike alike xs).0 e))

-- what the record of a cell supplies of an article
abbrev pub supplied : Option StockRecord → ℕ → ℕ
supplied none a = 0
supplied (some r) a = cond (eqb r.article a) r.quantity 0

-- where no two records are of one cell, the stock of an article in a cell is that of the cell's record
cell_supply : (stock : List StockRecord) → any_two same_cell stock ≡ false → (j c a : ℕ) → stock_where stock j (λ k. eqb k c) a ≡ supplied (record_at stock (cell_at j c)) a
unfolding record_at same_cell
cell_supply [] once j c a = refl
cell_supply (r ∷ rs) once j c a = go (is_at j c r) refl (cell_supply rs parts.1 j c a)
  where
    parts : (any_of (same_cell r) rs ≡ false) × (any_two same_cell rs ≡ false)
    parts = or-false (any_of (same_cell r) rs) (any_two same_cell rs) once

    alone : is_at j c r ≡ true → (o : Option StockRecord) → record_at rs (cell_at j c) ≡ o → o ≡ none
    alone e none p = refl
    alone e (some s) p =
        let (m, there) = first_member (is_at j c) rs s p in
        let here = is_at_lem j c r e in
        let same = is_at_lem j c s there in
        let alike = (same_cell_lem r s).1 (here.0 ∙ sym same.0, here.1 ∙ sym same.1) in
        absurd (true≢false (sym alike ∙ (any_false (same_cell r) rs).0 parts.0 s m))

    go : (b : Bool) → is_at j c r ≡ b → stock_where rs j (λ k. eqb k c) a ≡ supplied (record_at rs (cell_at j c)) a
        → cond (eqb r.article a && b) r.quantity 0 + stock_where rs j (λ k. eqb k c) a ≡ supplied (cond b (some r) (record_at rs (cell_at j c))) a
    go true e rest = rw (rest, alone e (record_at rs (cell_at j c)) refl, and-true (eqb r.article a)) (omega arith)
    go false e rest = rw (rest, and-false (eqb r.article a)) (omega arith)

-- what a cell supplies to each line
pub cell_gains : (job : Job) → Admitted job → (j c : ℕ)
    → gains_where job j (λ k. eqb k c) ≡ map (λ (l : OrderLine). supplied (record_at (open_stock job) (cell_at j c)) l.article) job.lines
cell_gains job ok j c =
    let once = alike_select same_cell (λ (r : StockRecord). is_open job.hours r.aisle) job.stock ok.cells_once in
    ap (λ (g : OrderLine → ℕ). map g job.lines) (fun_ext (λ l. cell_supply (open_stock job) once j c l.article))
