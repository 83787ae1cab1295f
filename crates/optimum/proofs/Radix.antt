-- The number of a demand below the weight and the demand of a number are inverse to each other.
use Prim.Native.Nat.{ℕ, suc, ◌+◌, ◌*◌, ◌-◌, ◌/◌, ◌%◌, ◌<◌}
use native.Mathlib.Omega.{arith}
use native.Mathlib.Nat.{mod-lt, mod-eq_of_lt, mod-add-div, div-eq_of_lt, add-mul-div_left, add-mul-mod_self_left, div-lt_iff_lt-mul, mul_comm, mul-le-mul_left, mul-suc}
use mathlib.Core.Path.{◌≡◌, refl, sym, ◌∙◌, ap, ap₂}
use mathlib.Core.List.{List, [], ◌∷◌, map}
use lib.ListN.{length, length-map}
use Rattle.rules.specs.declared.Action.{Action}
use Rattle.rules.specs.declared.OrderLine.{OrderLine}
use Rattle.rules.specs.Lists.{product_of}
use Rattle.rules.specs.Jobs.{Job}
use Rattle.rules.specs.Refusals.{weight}
use Rattle.optimum.specs.Demand.{gains, less, whole_demand, radices, code_of, demand_of, Within, none_left, digit, less_code}

-- how many demands there are
abbrev pub count : List ℕ → ℕ
count rs = product_of (λ r. r) rs

-- every radix is positive
pub data Positive : List ℕ → Type 0 where
  no_radix : Positive []
  radix : {r : ℕ} {rs : List ℕ} → 0 < r → Positive rs → Positive (r ∷ rs)

digit_below : (r n c p : ℕ) → n < r → c < p → n + r * c < r * p
digit_below r n c p h k = omega (arith, mul-le-mul_left r k, mul-suc r c)

-- the number of a demand is below their count
pub code_below : {rs q : List ℕ} → Within rs q → code_of rs q < count rs
code_below none_left = omega arith
code_below (digit {r = r} {n = n} {rs = rs} {q = q} h w) = digit_below r n (code_of rs q) (count rs) h (code_below w)

-- the demand of its number is the demand
pub demand_of_code : {rs q : List ℕ} → Within rs q → demand_of rs (code_of rs q) ≡ q
demand_of_code none_left = refl
demand_of_code (digit {r = r} {n = n} {rs = rs} {q = q} h w) =
    let rest : (n + r * code_of rs q) / r ≡ code_of rs q = add-mul-div_left n (code_of rs q) (omega arith) ∙ ap (λ k. k + code_of rs q) (div-eq_of_lt h) ∙ omega arith in
    ap₂ (λ x xs. x ∷ xs) (add-mul-mod_self_left n r (code_of rs q) ∙ mod-eq_of_lt h) (ap (demand_of rs) rest ∙ demand_of_code w)

-- the demand of a number is within the radices
pub demand_within : {rs : List ℕ} → Positive rs → (c : ℕ) → Within rs (demand_of rs c)
demand_within no_radix c = none_left
demand_within (radix {r = r} h p) c = digit (mod-lt c h) (demand_within p (c / r))

-- the number of its demand is the number
pub code_of_demand : {rs : List ℕ} → Positive rs → (c : ℕ) → c < count rs → code_of rs (demand_of rs c) ≡ c
code_of_demand no_radix c h = omega arith
code_of_demand (radix {r = r} {rs = rs} h p) c k =
    ap (λ n. c % r + r * n) (code_of_demand p (c / r) ((div-lt_iff_lt-mul h).1 (rw (mul_comm (count rs) r) k))) ∙ mod-add-div c r

-- what is lacking after gains is within the radices again
pub less_within : {rs q : List ℕ} (gs : List ℕ) → length gs ≡ length q → Within rs q → Within rs (less q gs)
less_within [] e none_left = none_left
less_within [] e (digit h w) = absurd (omega arith)
less_within (g ∷ gs) e none_left = absurd (omega arith)
less_within (g ∷ gs) e (digit {r = r} {n = n} h w) = digit {r = r} {n = n - g} (omega arith) (less_within gs (omega arith) w)

-- a demand has as many digits as there are radices
within_length : {rs q : List ℕ} → Within rs q → length q ≡ length rs
within_length none_left = refl
within_length (digit h w) = ap suc (within_length w)

-- the update of the number is the update of the demand
pub less_code_lem : {rs : List ℕ} (gs : List ℕ) → Positive rs → length gs ≡ length rs → (c : ℕ) → demand_of rs (less_code rs gs c) ≡ less (demand_of rs c) gs
unfolding less_code
less_code_lem gs p e c = let w = demand_within p c in demand_of_code (less_within gs (e ∙ sym (within_length w)) w)

pub less_code_below : {rs : List ℕ} (gs : List ℕ) → Positive rs → length gs ≡ length rs → (c : ℕ) → less_code rs gs c < count rs
unfolding less_code
less_code_below gs p e c = let w = demand_within p c in code_below (less_within gs (e ∙ sym (within_length w)) w)

-- the radices of a job: positive, as many as lines, their product the weight of its list
pub radices_positive : (job : Job) → Positive (radices job)
unfolding radices
radices_positive job = go job.lines
  where
    go : (ls : List OrderLine) → Positive (map (λ (l : OrderLine). l.quantity + 1) ls)
    go [] = no_radix
    go (l ∷ ls) = radix {r = l.quantity + 1} (omega arith) (go ls)

pub gains_length : (job : Job) (j : ℕ) (x : Action) → length (gains job j x) ≡ length (radices job)
unfolding gains radices
gains_length job j x = length-map job.lines _ ∙ sym (length-map job.lines _)

pub count_weight : (job : Job) → count (radices job) ≡ weight job.lines
unfolding radices weight
count_weight job = go job.lines
  where
    go : (ls : List OrderLine) → count (map (λ (l : OrderLine). l.quantity + 1) ls) ≡ product_of (λ (l : OrderLine). l.quantity + 1) ls
    go [] = refl
    go (l ∷ ls) = ap (λ n. (l.quantity + 1) * n) (go ls)

pub whole_within : (job : Job) → Within (radices job) (whole_demand job)
unfolding radices whole_demand
whole_within job = go job.lines
  where
    go : (ls : List OrderLine) → Within (map (λ (l : OrderLine). l.quantity + 1) ls) (map (λ (l : OrderLine). l.quantity) ls)
    go [] = none_left
    go (l ∷ ls) = digit {r = l.quantity + 1} {n = l.quantity} (omega arith) (go ls)
