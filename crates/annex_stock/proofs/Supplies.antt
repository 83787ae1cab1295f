-- The stock in passed cells, added up record by record.
use Prim.Native.Nat.{ℕ, zero, suc, ◌+◌, ◌≤◌, ◌<◌}
use native.Mathlib.Omega.{arith}
use mathlib.Core.Path.{◌≡◌, refl, sym, ap, ◌∙◌}
use mathlib.Core.List.{List, [], ◌∷◌, Memᴰ}
use mathlib.Core.Bool.{Bool, true, false, cond, ◌&&◌}
use lib.Dec.{eqb}
use lib.ListN.{length, get_or, take}
use lib.Seq.{take-suc, take_all}
use Rattle.rules.specs.declared.StockRecord.{StockRecord}
use Rattle.rules.specs.Lists.{sum_of}
use Rattle.rules.specs.Serving.{supply}
use Rattle.rules.proofs.Lists.{sum_append, sum_agree, sum_select}
use Rattle.annex_stock.specs.declared.Stock.{Stock}
use Rattle.annex_stock.specs.Stocked.{counted, gives, is_open_by}

-- what stands at a place of a list is a member
pub at_member : {A : Type 0} (d : A) (xs : List A) (i : ℕ) → i < length xs → Memᴰ (get_or xs i d) xs
at_member d [] i h = absurd (omega arith)
at_member d (x ∷ xs) zero h = Memᴰ.head refl
at_member d (x ∷ xs) (suc i) h = Memᴰ.tail (at_member d xs i (omega arith))

-- a record gives no more than it holds
pub gives_few : (flags : List Bool) (passes : ℕ → ℕ → Bool) (article : ℕ) (r : StockRecord) → r.quantity ≤ 255 → gives flags passes article r ≤ 255
gives_few flags passes article r few = go (eqb r.article article && (is_open_by flags r.aisle && passes r.aisle r.cell))
  where
    go : (b : Bool) → cond b r.quantity 0 ≤ 255
    go true = few
    go false = omega arith

-- where there is no record
abbrev pub no_record : StockRecord
no_record = record { aisle = 0; cell = 0; article = 0; quantity = 0 }

module _ (stock : Stock) (passes : ℕ → ℕ → Bool) (article : ℕ) where
  -- what the first n records give
  abbrev pub given_to : ℕ → ℕ
  given_to n = sum_of (gives stock.open passes article) (take n stock.records.now)

  -- one more
  pub given_more : (n : ℕ) (d : StockRecord) → n < length stock.records.now → given_to (n + 1) ≡ given_to n + gives stock.open passes article (get_or stock.records.now n d)
  given_more n d h =
      let e : n + 1 ≡ suc n = omega arith in
      ap given_to e
      ∙ ap (sum_of (gives stock.open passes article)) (take-suc stock.records.now n d h)
      ∙ sum_append (gives stock.open passes article) (take n stock.records.now) (get_or stock.records.now n d ∷ [])
      ∙ omega arith

  -- all of them
  pub given_all : (n : ℕ) → length stock.records.now ≤ n → given_to n ≡ supply passes (counted stock) article
  unfolding supply
  given_all n h =
      let f : StockRecord → ℕ = λ (r : StockRecord). cond (eqb r.article article && passes r.aisle r.cell) r.quantity 0 in
      let t : StockRecord → Bool = λ (r : StockRecord). is_open_by stock.open r.aisle in
      ap (sum_of (gives stock.open passes article)) (take_all n stock.records.now h)
      ∙ sum_agree (gives stock.open passes article) (λ r. cond (t r) (f r) 0) stock.records.now (λ r m. swap (eqb r.article article) (passes r.aisle r.cell) (t r) r.quantity)
      ∙ sym (sum_select f t stock.records.now)
    where
      swap : (p q t : Bool) (n : ℕ) → cond (p && (t && q)) n 0 ≡ cond t (cond (p && q) n 0) 0
      swap true q true n = refl
      swap true true false n = refl
      swap true false false n = refl
      swap false q true n = refl
      swap false q false n = refl
