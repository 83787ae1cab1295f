-- The row of entered aisles.
use Prim.Native.Nat.{ℕ, zero, suc, ◌+◌, ◌≤◌, ◌<◌}
use mathlib.Core.Path.{◌≡◌}
use mathlib.Core.Bool.{Bool, true, false, cond}
use Rattle.rules.specs.declared.Action.{Action}
use Rattle.rules.specs.declared.Action.TheVariants.{Once}
use Rattle.rules.specs.declared.Side.{Side}
use Rattle.rules.specs.Plans.{Plan, action_at, entered}
use Rattle.rules.specs.Policies.{Entered, WalkedFrom}
use Rattle.annex_policy.specs.declared.row.Row.{Row}

-- the number of entered aisles among the first n
abbrev pub entered_to : Plan → ℕ → ℕ
entered_to plan zero = 0
entered_to plan (suc i) = entered_to plan i + cond (entered (action_at plan (suc i))) 1 0

-- aisle k is the first that is entered among the first n
pub record FirstTo (plan : Plan) (n k : ℕ) : Type 0 where
  pub low : 1 ≤ k
  pub high : k ≤ n
  pub is : Entered plan k
  pub before : (i : ℕ) → 1 ≤ i → i < k → Entered plan i → ⊥

-- and the last
pub record LastTo (plan : Plan) (n k : ℕ) : Type 0 where
  pub low : 1 ≤ k
  pub high : k ≤ n
  pub is : Entered plan k
  pub behind : (i : ℕ) → k < i → i ≤ n → Entered plan i → ⊥

-- the row of the first n aisles
pub record RowTo (plan : Plan) (n : ℕ) (r : Row) : Type 0 where
  pub count : r.entered ≡ entered_to plan n
  pub few : r.entered ≤ n
  pub none : r.entered ≡ 0 → (j : ℕ) → 1 ≤ j → j ≤ n → Entered plan j → ⊥
  pub first : 0 < r.entered → FirstTo plan n r.first
  pub last : 0 < r.entered → LastTo plan n r.last

-- an entered aisle is walked from the depot's side and back to it, or else walked through
abbrev pub WalksAs : Side → Action → Bool → Type 0
WalksAs side a true = entered a ≡ true → WalkedFrom side a
WalksAs side a false = entered a ≡ true → a ≡ Once
