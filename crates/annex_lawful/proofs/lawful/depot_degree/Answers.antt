-- `annex_lawful::lawful::depot_degree` meets its contract: the depot's crossing goes by the depot's side.
use Rattle.annex_plans.proofs.Ranges.{plan_range}
use Rattle.annex_lawful.proofs.lawful.depot_degree.Goals as goal

pub front_degree-front-requires : goal.front_degree-front-requires
front_degree-front-requires c = let r = plan_range c.args.z c.args.plan c.requires in (c.requires, r.2, r.3)

pub back_degree-back-requires : goal.back_degree-back-requires
back_degree-back-requires c = let r = plan_range c.args.z c.args.plan c.requires in (c.requires, r.2, r.3)
