-- The order lines as digits of a demand number.
use Rattle.std.specs.Prelude.{ℕ, ◌*◌, ◌-◌, ◌≤◌, ◌<◌, min, ◌≡◌, [], length, get_or, take, Option, Some, None}
use Rattle.rules.specs.Lists.{product_of}
use Rattle.rules.specs.Jobs.{Job}
use Rattle.rules.specs.Refusals.{weight}
use Rattle.optimum.specs.Demand.{radices, demand_of}
use Rattle.demand.specs.declared.digits.Digit.{Digit}
use Rattle.demand.specs.declared.digits.Digits.{Digits}

-- the most demands that a list can have
abbrev pub demands : ℕ
demands = 256

-- a line as a digit: the product of the radices before it, and what it lacks in each demand
pub record DigitOf (job : Job) (l : ℕ) (x : Digit) : Type 0 where
  pub stride_is : x.stride ≡ product_of (λ r. r) (take l (radices job))
  pub lacks_at : (q : ℕ) → q < demands → get_or x.lacks q 0 ≡ get_or (demand_of (radices job) q) l 0

-- a digit that is not there
abbrev pub no_digit : Digit
no_digit = record { stride = 0; lacks = [] }

-- the digits of a job: a digit for each line, and the weight of the list
pub record DigitsOf (job : Job) (d : Digits) : Type 0 where
  pub counted : d.weight ≡ weight job.lines
  pub small : (1 ≤ d.weight) × (d.weight ≤ demands)
  pub digit_at : (l : ℕ) → l < length job.lines → DigitOf job l (get_or d.digit l no_digit)

-- a demand number after a cell that holds n for the line of a digit
abbrev pub less_digit : Digit → ℕ → ℕ → ℕ
less_digit x n q = q - min (get_or x.lacks q 0) n * x.stride

-- the same for a cell's line, if it has one
abbrev pub less_line : Digits → Option ℕ → ℕ → ℕ → ℕ
less_line d None n q = q
less_line d (Some l) n q = less_digit (get_or d.digit l no_digit) n q

-- a digit that can be taken from every number below n
abbrev pub Within : Digit → ℕ → Type 0
Within x n = (q : ℕ) → q < n → get_or x.lacks q 0 * x.stride ≤ q
