-- What the cells of a part of an aisle supply, and the demand behind two parts of which neither has a cell of the other.
use Prim.Native.Nat.{ℕ, suc, ◌+◌, ◌≤◌, ◌<◌}
use native.Mathlib.Omega.{arith}
use native.Mathlib.Nat.{mul-suc, zero-mod, zero-div}
use mathlib.Core.Path.{◌≡◌, refl, sym, ◌∙◌, ap, ap₂}
use mathlib.Core.List.{List, [], ◌∷◌, map, Memᴰ}
use mathlib.Core.Bool.{Bool, true, false, cond, ◌&&◌, and-eq-true_iff, true≢false}
use lib.Dec.{eqb}
use lib.ListN.{length}
use borrow.Author.Tests.{eqb-true, eq-eqb}
use Rattle.rules.specs.declared.StockRecord.{StockRecord}
use Rattle.rules.specs.declared.OrderLine.{OrderLine}
use Rattle.rules.specs.Lists.{sum_of, product_of, all_of}
use Rattle.rules.specs.Jobs.{Job, open_stock}
use Rattle.rules.specs.Refusals.{stock_in_bounds, weight}
use Rattle.rules.proofs.Lists.{sum_agree, sum_plus}
use Rattle.rules.proofs.Admission.{stock_within, open_in_stock}
use Rattle.optimum.specs.Demand.{less, whole_demand, met, radices, code_of, demand_of, less_code}
use Rattle.optimum.proofs.Radix.{Positive, code_of_demand, less_code_lem, radices_positive, count_weight}

-- the stock of an article in those cells of aisle j of which a test holds, and what it supplies to each line
abbrev pub stock_where : List StockRecord → ℕ → (ℕ → Bool) → ℕ → ℕ
stock_where stock j p a =
    sum_of (λ (r : StockRecord). cond (eqb r.article a && (eqb r.aisle j && p r.cell)) r.quantity 0) stock

abbrev pub gains_where : Job → ℕ → (ℕ → Bool) → List ℕ
gains_where job j p = map (λ (l : OrderLine). stock_where (open_stock job) j p l.article) job.lines

-- two vectors of gains together
abbrev pub plus : List ℕ → List ℕ → List ℕ
plus [] ms = []
plus (n ∷ ns) [] = []
plus (n ∷ ns) (m ∷ ms) = (n + m) ∷ plus ns ms

-- of the tests p, q and r: at a cell p counts what q and r count together
abbrev pub Parted : Bool → Bool → Bool → Type 0
Parted p q r = (n : ℕ) → cond p n 0 ≡ cond q n 0 + cond r n 0

-- a test that is parted is so under further tests, and the gains with it
parted_under : (b d p q r : Bool) (n : ℕ) → Parted p q r → cond (b && (d && p)) n 0 ≡ cond (b && (d && q)) n 0 + cond (b && (d && r)) n 0
parted_under true true p q r n h = h n
parted_under true false p q r n h = refl
parted_under false d p q r n h = refl

map_plus : (f g h : OrderLine → ℕ) → ((l : OrderLine) → f l ≡ g l + h l) → (ls : List OrderLine) → map f ls ≡ plus (map g ls) (map h ls)
map_plus f g h e [] = refl
map_plus f g h e (l ∷ ls) = ap₂ (λ x xs. x ∷ xs) (e l) (map_plus f g h e ls)

-- a test that is parted at every cell of the store parts the gains
pub gains_parted : (job : Job) → stock_in_bounds job ≡ true → (j : ℕ) (p q r : ℕ → Bool)
    → ((c : ℕ) → 1 ≤ c → c ≤ job.layout.cells → Parted (p c) (q c) (r c)) → gains_where job j p ≡ plus (gains_where job j q) (gains_where job j r)
gains_parted job ok j p q r e =
    map_plus _ _ _ (λ l. sum_agree _ _ (open_stock job) (at_record l) ∙ sum_plus _ _ (open_stock job)) job.lines
  where
    held : (ℕ → Bool) → OrderLine → StockRecord → ℕ
    held p l s = cond (eqb s.article l.article && (eqb s.aisle j && p s.cell)) s.quantity 0

    at_record : (l : OrderLine) (s : StockRecord) → Memᴰ s (open_stock job) → held p l s ≡ held q l s + held r l s
    at_record l s m =
        let (low, high) = (((stock_within job).0 ok).records s (open_in_stock job s m)).cell in
        parted_under (eqb s.article l.article) (eqb s.aisle j) (p s.cell) (q s.cell) (r s.cell) s.quantity (e s.cell low high)

-- what is lacking after two vectors of gains
less_plus : (q gs hs : List ℕ) → less q (plus gs hs) ≡ less (less q gs) hs
less_plus [] gs hs = refl
less_plus (n ∷ q) [] hs = refl
less_plus (n ∷ q) (g ∷ gs) [] = refl
less_plus (n ∷ q) (g ∷ gs) (h ∷ hs) = ap₂ (λ x xs. x ∷ xs) (omega arith) (less_plus q gs hs)

-- two vectors of gains together: first the one, then the other
pub less_code_plus : {rs : List ℕ} (gs hs : List ℕ) → Positive rs → length gs ≡ length rs → (q : ℕ) → less_code rs (plus gs hs) q ≡ less_code rs hs (less_code rs gs q)
unfolding less_code
less_code_plus {rs} gs hs p e q = ap (code_of rs) (less_plus (demand_of rs q) gs hs ∙ ap (λ d. less d hs) (sym (less_code_lem gs p e q)))

-- the number of the whole demand is the last below the weight
pub whole_code : (job : Job) → code_of (radices job) (whole_demand job) + 1 ≡ weight job.lines
unfolding radices whole_demand weight
whole_code job = go job.lines
  where
    go : (ls : List OrderLine) → code_of (map (λ (l : OrderLine). l.quantity + 1) ls) (map (λ (l : OrderLine). l.quantity) ls) + 1 ≡ product_of (λ (l : OrderLine). l.quantity + 1) ls
    go [] = refl
    go (l ∷ ls) =
        let code = code_of (map (λ (l : OrderLine). l.quantity + 1) ls) (map (λ (l : OrderLine). l.quantity) ls) in
        let next : suc code ≡ product_of (λ (l : OrderLine). l.quantity + 1) ls = omega (arith, go ls) in
        rw (← next) (omega (arith, mul-suc (l.quantity + 1) code))

met_code : (rs q : List ℕ) → met q ≡ true → code_of rs q ≡ 0
unfolding met
met_code [] q h = refl
met_code (r ∷ rs) [] h = refl
met_code (r ∷ rs) (n ∷ q) h =
    let both = (and-eq-true_iff (eqb n 0) (all_of (λ n. eqb n 0) q)).0 h in
    rw (met_code rs q both.1) (omega (arith, eqb-true n 0 both.0))

zero_met : (rs : List ℕ) → met (demand_of rs 0) ≡ true
unfolding met
zero_met [] = refl
zero_met (r ∷ rs) = rw (zero-mod r, zero-div r) (zero_met rs)

-- nothing is lacking just at the number 0
pub met_zero : (job : Job) (q : ℕ) → q < weight job.lines → met (demand_of (radices job) q) ≡ eqb q 0
met_zero job q h = go (met (demand_of (radices job) q)) refl (eqb q 0) refl
  where
    go : (b : Bool) → met (demand_of (radices job) q) ≡ b → (d : Bool) → eqb q 0 ≡ d → b ≡ d
    go true e true p = refl
    go true e false p = absurd (true≢false (sym (eq-eqb q 0 (sym (code_of_demand (radices_positive job) q (omega (arith, count_weight job))) ∙ met_code (radices job) _ e)) ∙ p))
    go false e true p = absurd (true≢false (sym (zero_met (radices job)) ∙ ap (λ n. met (demand_of (radices job) n)) (sym (eqb-true q 0 p)) ∙ e))
    go false e false p = refl
