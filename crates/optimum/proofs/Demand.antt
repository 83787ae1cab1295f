-- The update of the open demand composes over aisles and counts a cell once; serving a list is reaching zero.
use Prim.Native.Nat.{ℕ, zero, suc, ◌+◌, ◌-◌, ◌<◌}
use native.Mathlib.Omega.{arith}
use mathlib.Core.Path.{◌≡◌, refl, sym, ◌∙◌, ap, ap₂}
use mathlib.Core.List.{List, [], ◌∷◌, map}
use mathlib.Core.Bool.{Bool, true, false, cond, ◌&&◌, and-false}
use lib.Dec.{eqb, leb}
use borrow.Author.Tests.{eq-eqb, ne_eqb, leb-true, leb-false}
use Rattle.rules.specs.declared.Action.{Action}
use Rattle.rules.specs.declared.Action.TheVariants.{Void}
use Rattle.rules.specs.declared.StockRecord.{StockRecord}
use Rattle.rules.specs.declared.OrderLine.{OrderLine}
use Rattle.rules.specs.Lists.{all_of, nth}
use Rattle.rules.specs.Jobs.{Job, open_stock}
use Rattle.rules.specs.Plans.{Plan, action_at, passes_cell, plan_passes}
use Rattle.rules.specs.Serving.{supply, serves}
use Rattle.optimum.specs.Demand.{supply_in, gains, less, whole_demand, met}

-- the open demand behind the aisles from j on
abbrev pub demand_after : Job → ℕ → List ℕ → List Action → List ℕ
demand_after job j q [] = q
demand_after job j q (x ∷ xs) = demand_after job (suc j) (less q (gains job j x)) xs

-- what the aisles from j on supply of an article
abbrev supplied_from : List StockRecord → ℕ → List Action → ℕ → ℕ
supplied_from stock j [] a = 0
supplied_from stock j (x ∷ xs) a = supply_in stock j x a + supplied_from stock (suc j) xs a

less_map : (f g : OrderLine → ℕ) (ls : List OrderLine) → less (map f ls) (map g ls) ≡ map (λ l. f l - g l) ls
less_map f g [] = refl
less_map f g (l ∷ ls) = ap (λ q. (f l - g l) ∷ q) (less_map f g ls)

map_agree : (f g : OrderLine → ℕ) → ((l : OrderLine) → f l ≡ g l) → (ls : List OrderLine) → map f ls ≡ map g ls
map_agree f g e [] = refl
map_agree f g e (l ∷ ls) = ap₂ (λ x xs. x ∷ xs) (e l) (map_agree f g e ls)

-- what is lacking behind the aisles: the whole demand less all that they supply
after_all : (job : Job) (xs : List Action) (j : ℕ) (f : OrderLine → ℕ)
    → demand_after job j (map f job.lines) xs ≡ map (λ l. f l - supplied_from (open_stock job) j xs l.article) job.lines
unfolding gains
after_all job [] j f = map_agree _ _ (λ l. omega arith) job.lines
after_all job (x ∷ xs) j f =
    ap (λ q. demand_after job (suc j) q xs) (less_map f _ job.lines)
    ∙ after_all job xs (suc j) _
    ∙ map_agree _ _ (λ l. omega arith) job.lines

-- one record's part of what the aisles from j on supply
abbrev part_from : StockRecord → ℕ → List Action → ℕ → ℕ
part_from r j [] a = 0
part_from r j (x ∷ xs) a =
    cond (eqb r.article a && (eqb r.aisle j && passes_cell x r.cell)) r.quantity 0 + part_from r (suc j) xs a

no_stock_lem : (xs : List Action) (j a : ℕ) → supplied_from [] j xs a ≡ 0
unfolding supply_in
no_stock_lem [] j a = refl
no_stock_lem (x ∷ xs) j a = omega (arith, no_stock_lem xs (suc j) a)

by_record : (r : StockRecord) (rs : List StockRecord) (xs : List Action) (j a : ℕ) → supplied_from (r ∷ rs) j xs a ≡ part_from r j xs a + supplied_from rs j xs a
unfolding supply_in
by_record r rs [] j a = refl
by_record r rs (x ∷ xs) j a = omega (arith, by_record r rs xs (suc j) a)

nothing_of : (b : Bool) (n : ℕ) → cond (b && false) n 0 ≡ 0
nothing_of b n = rw (and-false b) refl

-- aisles behind the record's aisle have no part of it
part_behind : (r : StockRecord) (xs : List Action) (j a : ℕ) → r.aisle < j → part_from r j xs a ≡ 0
part_behind r [] j a h = refl
part_behind r (x ∷ xs) j a h =
    rw (ne_eqb r.aisle j (λ e. omega arith), nothing_of (eqb r.article a) r.quantity) (omega (arith, part_behind r xs (suc j) a (omega arith)))

-- the record counts once: in its own aisle, if its cell is passed there
part_at : (r : StockRecord) (xs : List Action) (j k a : ℕ) → r.aisle ≡ j + k → part_from r j xs a ≡ cond (eqb r.article a && passes_cell (nth xs (suc k) Void) r.cell) r.quantity 0
part_at r [] j k a e = sym (nothing_of (eqb r.article a) r.quantity)
part_at r (x ∷ xs) j zero a e =
    rw (eq-eqb r.aisle j (omega arith)) (omega (arith, part_behind r xs (suc j) a (omega arith)))
part_at r (x ∷ xs) j (suc k) a e =
    rw (ne_eqb r.aisle j (λ p. omega arith), nothing_of (eqb r.article a) r.quantity) (omega (arith, part_at r xs (suc j) k a (omega arith)))

-- a record's part in a plan
part_of : (r : StockRecord) (plan : Plan) (a : ℕ) → part_from r 1 plan.actions a ≡ cond (eqb r.article a && plan_passes plan r.aisle r.cell) r.quantity 0
unfolding plan_passes action_at
part_of r plan a = go r.aisle refl
  where
    go : (j : ℕ) → r.aisle ≡ j → part_from r 1 plan.actions a ≡ cond (eqb r.article a && passes_cell (nth plan.actions j Void) r.cell) r.quantity 0
    go zero e = part_behind r plan.actions 1 a (omega arith) ∙ sym (nothing_of (eqb r.article a) r.quantity)
    go (suc k) e = part_at r plan.actions 1 k a (omega arith)

-- what the aisles of a plan supply is the stock in its passed cells
pub supplied : (plan : Plan) (stock : List StockRecord) (a : ℕ) → supplied_from stock 1 plan.actions a ≡ supply (plan_passes plan) stock a
unfolding supply
supplied plan [] a = no_stock_lem plan.actions 1 a
supplied plan (r ∷ rs) a = omega (arith, by_record r rs plan.actions 1 a, part_of r plan a, supplied plan rs a)

left_over : (n s : ℕ) → eqb (n - s) 0 ≡ leb n s
left_over n s = go (leb n s) refl
  where
    go : (b : Bool) → leb n s ≡ b → eqb (n - s) 0 ≡ b
    go true e = eq-eqb (n - s) 0 (omega (arith, leb-true n s e))
    go false e = ne_eqb (n - s) 0 (λ p. omega (arith, leb-false n s e))

met_lines : (n s : OrderLine → ℕ) (ls : List OrderLine) → met (map (λ l. n l - s l) ls) ≡ all_of (λ l. leb (n l) (s l)) ls
unfolding met
met_lines n s [] = refl
met_lines n s (l ∷ ls) = ap₂ ◌&&◌ (left_over (n l) (s l)) (met_lines n s ls)

all_agree : (t u : OrderLine → Bool) → ((l : OrderLine) → t l ≡ u l) → (ls : List OrderLine) → all_of t ls ≡ all_of u ls
all_agree t u e [] = refl
all_agree t u e (l ∷ ls) = ap₂ ◌&&◌ (e l) (all_agree t u e ls)

-- a plan serves the list exactly when nothing is lacking behind its aisles
pub serves_met : (job : Job) (plan : Plan) → met (demand_after job 1 (whole_demand job) plan.actions) ≡ serves job (plan_passes plan)
unfolding whole_demand serves
serves_met job plan =
    ap met (after_all job plan.actions 1 (λ l. l.quantity))
    ∙ met_lines (λ l. l.quantity) _ job.lines
    ∙ all_agree _ _ (λ l. ap (leb l.quantity) (supplied plan (open_stock job) l.article)) job.lines
