-- The test of serving is the statement.
use mathlib.Core.Path.{◌≡◌}
use mathlib.Core.Logic.{◌↔◌}
use mathlib.Core.Bool.{Bool, true}
use lib.Dec.{leb}
use Prim.Native.Nat.{ℕ}
use borrow.Author.Tests.{leb-true, le-leb}
use Rattle.rules.specs.declared.OrderLine.{OrderLine}
use Rattle.rules.specs.Jobs.{Job, open_stock}
use Rattle.rules.specs.Serving.{supply, Serves, serves}
use Rattle.rules.proofs.Lists.{all_true}

-- passed cells serve a list exactly when the test says so
pub serves_test : (job : Job) (passes : ℕ → ℕ → Bool) → (serves job passes ≡ true) ↔ Serves job passes
unfolding serves Serves
serves_test job passes =
    let each = all_true (λ (l : OrderLine). leb l.quantity (supply passes (open_stock job) l.article)) job.lines in (
      λ h l m. leb-true l.quantity (supply passes (open_stock job) l.article) (each.0 h l m),
      λ h. each.1 (λ l m. le-leb l.quantity (supply passes (open_stock job) l.article) (h l m)),
    )
