-- Request #105: what is said of the records that the stock test looks at.
use Rattle.std.specs.Prelude.{ℕ, ◌+◌, ◌*◌, ◌≤◌, ◌<◌, ◌≡◌, ◌⊎◌, ◌↔◌, length}
use mathlib.Core.List.{List, [], ◌∷◌, ◌++◌, Memᴰ}
use Rattle.rules.specs.declared.OrderLine.{OrderLine}
use Rattle.rules.specs.Lists.{sum_of}
use Rattle.rules.specs.Jobs.{Job}
use Rattle.rules.specs.Refusals.{all_stock}
use Rattle.rules.specs.Looked.{with_first, looked_for}

-- a line is short: it exceeds all the stock of its article
unfoldable pub LineShort : Job → OrderLine → Type 0
LineShort job l = all_stock job l.article < l.quantity

-- a line is not short
unfoldable pub InStock : Job → OrderLine → Type 0
InStock job l = l.quantity ≤ all_stock job l.article

-- none of these lines is
unfoldable pub NoneShort : Job → List OrderLine → Type 0
NoneShort job lines = (l : OrderLine) → Memᴰ l lines → InStock job l

-- n is the least number of records from the top that hold the line's quantity of its article: they do, and no smaller number does
pub record LeastHolding (job : Job) (l : OrderLine) (n : ℕ) : Type 0 where
  pub within : n ≤ length job.stock
  pub hold : l.quantity ≤ all_stock (with_first n job) l.article
  pub fewer_do_not : (k : ℕ) → k < n → all_stock (with_first k job) l.article < l.quantity

-- n is the sum over all lines where none is short, or else over those in front of the first short one, and all records for that one
pub record AddedUp (job : Job) (n : ℕ) : Type 0 where
  pub all_lines : NoneShort job job.lines → n ≡ sum_of (looked_for job) job.lines
  pub to_first_short : (before after : List OrderLine) (l : OrderLine) → job.lines ≡ before ++ l ∷ after → NoneShort job before → LineShort job l
      → n ≡ sum_of (looked_for job) before + length job.stock

-- at most records times lines, and 0 exactly when there is no line or no record
pub record LookedBounds (job : Job) (n : ℕ) : Type 0 where
  pub most : n ≤ length job.stock * length job.lines
  pub none : (n ≡ 0) ↔ ((job.lines ≡ []) ⊎ (job.stock ≡ []))
