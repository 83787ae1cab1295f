-- An empty list of order lines, and the plan that treads nothing, by value.
use Prim.Native.Nat.{ℕ, zero, suc, ◌-◌, ◌≤◌}
use native.Mathlib.Omega.{arith}
use mathlib.Core.Path.{◌≡◌, refl, ap, ap₂}
use mathlib.Core.List.{List, [], ◌∷◌, map}
use lib.ListN.{length, take, replicate}
use lib.Seq.{length-take-le}
use Rattle.rules.specs.declared.Layout.{Layout}
use Rattle.rules.specs.declared.OrderLine.{OrderLine}
use Rattle.rules.specs.declared.Action.TheVariants.{Void}
use Rattle.rules.specs.declared.Passage.TheVariants.{P00}
use Rattle.rules.specs.BestPlan.{empty_plan}
use Rattle.values.specs.declared.JobValue.{JobValue}
use Rattle.values.specs.declared.Stage.{Stage}
use Rattle.values.specs.Values.{job_of, plan_of}

-- no line counts
pub no_line : (job : JobValue) → job.orders ≡ 0 → (job_of job).lines ≡ []
unfolding job_of
no_line job e = ap (λ n. take n job.lines) e

-- a line that counts is there
pub some_line : (job : JobValue) → length job.lines ≡ 8 → 1 ≤ job.orders → job.orders ≤ 8 → (job_of job).lines ≡ [] → ⊥
unfolding job_of
some_line job size low high e =
    let none : length (take job.orders job.lines) ≡ 0 = ap (λ (lines : List OrderLine). length lines) e in
    omega (arith, length-take-le job.orders job.lines (omega arith))

-- the first of elements that are all alike
first_alike : {A B : Type 0} (f : A → B) (n k : ℕ) (x : A) → n ≤ k → map f (take n (replicate k x)) ≡ replicate n (f x)
first_alike f zero k x h = refl
first_alike f (suc n) zero x h = absurd (omega arith)
first_alike f (suc n) (suc k) x h = ap (λ l. f x ∷ l) (first_alike f n k x (omega arith))

-- a stage that treads nothing
abbrev nothing_done : Stage
nothing_done = record { action = Void; passage = P00 }

-- sixteen of them are the plan that treads nothing, in a store of at most sixteen aisles
pub stages_empty : (z : Layout) → z.aisles ≤ 16 → (fits : z.aisles ≤ 16) → plan_of (record { aisles = z.aisles; stages = replicate 16 nothing_done; fits = fits }) ≡ empty_plan z
unfolding plan_of empty_plan
stages_empty z h fits =
    ap₂ (λ xs ps. record { actions = xs; passages = ps })
    (first_alike (λ (s : Stage). s.action) z.aisles 16 nothing_done h)
    (first_alike (λ (s : Stage). s.passage) (z.aisles - 1) 16 nothing_done (omega arith))
