-- What is noted of a job is noted by its shelf.
use mathlib.Core.Path.{◌≡◌}
use Rattle.rules.specs.declared.Layout.{Layout}
use Rattle.rules.specs.declared.Policy.{Policy}
use Rattle.rules.specs.Jobs.{Job}
use Rattle.rules.specs.Refusals.{Admitted}
use Rattle.values.specs.declared.Shelf.{Shelf}
use Rattle.values.specs.Shelves.{ShelfOf}

-- layout, policy and shelf are those of an admitted job
pub record ShelfFor (job : Job) (z : Layout) (policy : Policy) (shelf : Shelf) : Type 0 where
  pub layout_is : z ≡ job.layout
  pub policy_is : policy ≡ job.policy
  pub admitted : Admitted job
  pub shelf_of : ShelfOf job shelf
