-- What passes at least the same cells serves at least the same lists.
use Prim.Native.Nat.{ℕ, ◌≤◌}
use native.Mathlib.Omega.{arith}
use mathlib.Core.Path.{◌≡◌, refl}
use mathlib.Core.List.{List, [], ◌∷◌, Memᴰ}
use mathlib.Core.Bool.{Bool, true, false, cond, ◌&&◌}
use lib.Dec.{eqb}
use Rattle.rules.specs.declared.StockRecord.{StockRecord}
use Rattle.rules.specs.Jobs.{Job, open_stock}
use Rattle.rules.specs.Serving.{supply, Serves}

cond_le : (t u v : Bool) (q : ℕ) → (u ≡ true → v ≡ true) → cond (t && u) q 0 ≤ cond (t && v) q 0
cond_le true true v q h = let e = h refl in rw e (omega arith)
cond_le true false v q h = omega arith
cond_le false u v q h = omega arith

-- the second passes each of the records' cells that the first passes
abbrev PassesToo : (ℕ → ℕ → Bool) → (ℕ → ℕ → Bool) → List StockRecord → Type 0
PassesToo f g stock = (r : StockRecord) → Memᴰ r stock → f r.aisle r.cell ≡ true → g r.aisle r.cell ≡ true

supply_le : (f g : ℕ → ℕ → Bool) (stock : List StockRecord) (a : ℕ) → PassesToo f g stock → supply f stock a ≤ supply g stock a
unfolding supply
supply_le f g [] a h = omega arith
supply_le f g (r ∷ stock) a h =
    omega (arith, cond_le (eqb r.article a) (f r.aisle r.cell) (g r.aisle r.cell) r.quantity (h r (Memᴰ.head refl)), supply_le f g stock a (λ s m. h s (Memᴰ.tail m)))

-- so it does of the records that count
pub serves_too : (job : Job) (f g : ℕ → ℕ → Bool) → PassesToo f g (open_stock job) → Serves job f → Serves job g
unfolding Serves
serves_too job f g h s l m = omega (arith, s l m, supply_le f g (open_stock job) l.article h)
