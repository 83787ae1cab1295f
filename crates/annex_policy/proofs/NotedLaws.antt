-- What is noted aisle by aisle, aisle j at j - 1.
use Prim.Native.Nat.{ℕ, ◌+◌, ◌-◌, ◌≤◌, ◌<◌}
use native.Mathlib.Omega.{arith}
use native.Mathlib.Nat.{eq-or-lt_of_le}
use mathlib.Core.Path.{◌≡◌, sym, ap, ap₂, ◌∙◌}
use mathlib.Core.Logic.{◌⊎◌, inl, inr}
use mathlib.Core.List.{List}
use mathlib.Core.Bool.{Bool, false, ◌&&◌, ◌||◌}
use lib.ListN.{length, get_or, set}
use lib.Seq.{get_or-set_same, get_or-set_other}
use Rattle.rules.specs.declared.Layout.{Layout}
use Rattle.rules.specs.declared.Policy.{Policy}
use Rattle.rules.specs.Hours.{is_open}
use Rattle.rules.specs.Jobs.{Job, holds_listed}
use Rattle.values.specs.declared.Shelf.{Shelf}
use Rattle.annex_policy.specs.Ruled.{enters_any, may_be_entered}
use Rattle.annex_policy.specs.Noted.{ShelfFor}

-- one aisle more
pub by_aisle : {A : Type 0} (f : ℕ → A) (d : A) (xs : List A) (n : ℕ) (v : A)
    → n < length xs
    → ((i : ℕ) → 1 ≤ i → i ≤ n → get_or xs (i - 1) d ≡ f i)
    → v ≡ f (n + 1)
    → (i : ℕ) → 1 ≤ i → i ≤ n + 1 → get_or (set xs n v) (i - 1) d ≡ f i
by_aisle f d xs n v h g e i l k = go (eq-or-lt_of_le k)
  where
    go : (i ≡ n + 1) ⊎ (i < n + 1) → get_or (set xs n v) (i - 1) d ≡ f i
    go (inl q) = let p : i - 1 ≡ n = omega arith in ap (λ m. get_or (set xs n v) m d) p ∙ get_or-set_same xs n v d h ∙ e ∙ ap f (sym q)
    go (inr m) = get_or-set_other xs n (i - 1) v d (λ p. omega (arith, p, m, l)) ∙ g i l (omega arith)

-- whether an aisle may be entered, by the shelf
pub may_by : (job : Job) (z : Layout) (policy : Policy) (shelf : Shelf)
    → ShelfFor job z policy shelf
    → (j : ℕ) (any holds : Bool)
    → j < 16
    → any ≡ enters_any policy
    → holds ≡ holds_listed job (j + 1)
    → get_or shelf.open j false && (any || holds) ≡ may_be_entered job (j + 1)
may_by job z policy shelf s j any holds h a e =
    let p : j + 1 - 1 ≡ j = omega arith in
    let o : get_or shelf.open j false ≡ is_open job.hours (j + 1) = ap (λ i. get_or shelf.open i false) (sym p) ∙ s.shelf_of.open_at (j + 1) (omega arith) (omega arith) in
    ap₂ ◌&&◌ o (ap₂ ◌||◌ (a ∙ ap enters_any s.policy_is) e)
