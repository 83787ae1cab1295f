-- Open demand: what each order line still lacks, and its number in mixed radix, by which the table is indexed.
use Rattle.std.specs.Prelude.{ℕ, ◌+◌, ◌*◌, ◌-◌, ◌/◌, ◌%◌, ◌<◌, List, [], ◌∷◌, map, Bool, cond, ◌&&◌, eqb}
use Rattle.rules.specs.declared.Action.{Action}
use Rattle.rules.specs.declared.StockRecord.{StockRecord}
use Rattle.rules.specs.declared.OrderLine.{OrderLine}
use Rattle.rules.specs.Lists.{sum_of, all_of}
use Rattle.rules.specs.Jobs.{Job, open_stock}
use Rattle.rules.specs.Plans.{passes_cell}

-- the stock of an article in the cells of aisle j that an action passes
unfoldable pub supply_in : List StockRecord → ℕ → Action → ℕ → ℕ
supply_in stock j x a =
    sum_of (λ (r : StockRecord). cond (eqb r.article a && (eqb r.aisle j && passes_cell x r.cell)) r.quantity 0) stock

-- what an action of aisle j supplies to each line, of the stock that counts
unfoldable pub gains : Job → ℕ → Action → List ℕ
gains job j x = map (λ (l : OrderLine). supply_in (open_stock job) j x l.article) job.lines

-- what is lacking after gains: a truncated subtraction for each line
abbrev pub less : List ℕ → List ℕ → List ℕ
less [] gs = []
less (n ∷ q) [] = []
less (n ∷ q) (g ∷ gs) = (n - g) ∷ less q gs

-- at the start each line lacks its quantity
unfoldable pub whole_demand : Job → List ℕ
whole_demand job = map (λ (l : OrderLine). l.quantity) job.lines

-- nothing is lacking
unfoldable pub met : List ℕ → Bool
met q = all_of (λ n. eqb n 0) q

-- the radix of each line: its quantity + 1
unfoldable pub radices : Job → List ℕ
radices job = map (λ (l : OrderLine). l.quantity + 1) job.lines

-- the number of a demand: the first line is the lowest digit
abbrev pub code_of : List ℕ → List ℕ → ℕ
code_of [] q = 0
code_of (r ∷ rs) [] = 0
code_of (r ∷ rs) (n ∷ q) = n + r * code_of rs q

-- the demand of a number
abbrev pub demand_of : List ℕ → ℕ → List ℕ
demand_of [] c = []
demand_of (r ∷ rs) c = (c % r) ∷ demand_of rs (c / r)

-- a demand with each digit below its radix
pub data Within : List ℕ → List ℕ → Type 0 where
  none_left : Within [] []
  digit : {r n : ℕ} {rs q : List ℕ} → n < r → Within rs q → Within (r ∷ rs) (n ∷ q)

-- the number of what is lacking after gains
unfoldable pub less_code : List ℕ → List ℕ → ℕ → ℕ
less_code rs gs c = code_of rs (less (demand_of rs c) gs)
