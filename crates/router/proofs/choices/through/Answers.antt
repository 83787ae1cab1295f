-- `router::choices::through` meets its contract: where the passage leads, its length with what follows, and the set of entered aisles as it is.
use Rattle.aisles.proofs.Geometry.{within}
use Rattle.router.proofs.choices.through.Goals as goal

pub passage_length-requires : goal.passage_length-requires
passage_length-requires c = (within c.args.aisle.layout c.requires.0.aisle.bounds).width.1
