-- What an action supplies is what its front part and its back part supply, so the demand behind it is found in two steps.
use Prim.Native.Nat.{ℕ, suc, ◌≤◌}
use native.Mathlib.Omega.{arith}
use mathlib.Core.Path.{◌≡◌, refl, ◌∙◌, ap}
use mathlib.Core.Bool.{Bool, true, false, ◌||◌}
use lib.Dec.{leb}
use borrow.Author.Tests.{leb-true, le-leb, lt-leb}
use Rattle.rules.specs.declared.Action.{Action}
use Rattle.rules.specs.declared.Action.TheVariants.{Void, Bottom, Top, Gap, Once, Twice}
use Rattle.rules.specs.Jobs.{Job}
use Rattle.rules.specs.Plans.{Fits, passes_cell}
use Rattle.rules.specs.Refusals.{stock_in_bounds}
use Rattle.optimum.specs.Demand.{supply_in, gains, radices, less_code}
use Rattle.optimum.proofs.Radix.{radices_positive, gains_length}
use Rattle.demand.proofs.Composition.{plus, Parted, gains_parted, less_code_plus}
use Rattle.aisles.specs.Actions.{front_of, back_of}

-- of two tests that never hold together
parted_or : (b d : Bool) → (b ≡ true → d ≡ true → ⊥) → Parted (b || d) b d
parted_or true true h n = absurd (h refl refl)
parted_or true false h n = omega arith
parted_or false d h n = omega arith

-- the cells that an action passes: those of its front part and those of its back part
passes_parted : (cells : ℕ) (a : Action) → Fits cells a → (c : ℕ) → 1 ≤ c → c ≤ cells
    → Parted (passes_cell a c) (leb c (front_of cells a)) (leb (back_of cells a) c)
passes_parted cells Void f c low high n = rw (lt-leb c 0 low, lt-leb (suc cells) c (omega arith)) refl
passes_parted cells (Bottom i) f c low high n = rw (lt-leb (suc cells) c (omega arith)) (omega arith)
passes_parted cells (Top i) f c low high n = rw (lt-leb c 0 low) (omega arith)
passes_parted cells (Gap h i) f c low high n =
    parted_or (leb c h) (leb i c) (λ l u. omega (arith, f.1, leb-true c h l, leb-true i c u)) n
passes_parted cells Once f c low high n = rw (le-leb c cells high, lt-leb (suc cells) c (omega arith)) (omega arith)
passes_parted cells Twice f c low high n = rw (le-leb c cells high, lt-leb (suc cells) c (omega arith)) (omega arith)

-- the front part and the back part of an action, as actions
abbrev front_part : ℕ → Action → Action
front_part cells a = Bottom (front_of cells a)

abbrev back_part : ℕ → Action → Action
back_part cells a = Top (back_of cells a)

module _ (job : Job) (ok : stock_in_bounds job ≡ true) (j : ℕ) (a : Action) (fits : Fits job.layout.cells a) where
  abbrev cells : ℕ
  cells = job.layout.cells

  -- what an action supplies: what its front part supplies, and its back part
  gains_by_parts : gains job j a ≡ plus (gains job j (front_part cells a)) (gains job j (back_part cells a))
  unfolding gains supply_in
  gains_by_parts =
      gains_parted job ok j (passes_cell a) (λ c. leb c (front_of cells a)) (λ c. leb (back_of cells a) c) (passes_parted cells a fits)

  -- the demand behind an action: behind its front part, then behind its back part
  pub less_by_parts : (q : ℕ) → less_code (radices job) (gains job j a) q
      ≡ less_code (radices job) (gains job j (back_part cells a)) (less_code (radices job) (gains job j (front_part cells a)) q)
  less_by_parts q =
      let front = gains job j (front_part cells a) in
      let back = gains job j (back_part cells a) in
      ap (λ gs. less_code (radices job) gs q) gains_by_parts
      ∙ less_code_plus front back (radices_positive job) (gains_length job j (front_part cells a)) q
