-- `router::empty_plan` meets its contract: sixteen stages that tread nothing, of which those of the store's aisles count.
use mathlib.Core.Path.{refl}
use Rattle.router.proofs.EmptyLists.{stages_empty}
use Rattle.router.proofs.empty_plan.Goals as goal

pub returns : goal.returns
returns c = (refl, stages_empty c.args.layout c.requires _)
