-- `walks_test::plans::plan_with` meets its contract: behind the stages given stand as many blank ones as there is room for.
use Rattle.std.proofs.Common.{◌++◌, ◌∙◌, ap, ap₂, length, drop, replicate}
use Rattle.std.proofs.lemmas.List.{drop-replicate}
use Rattle.values.specs.declared.Stage.{Stage}
use Rattle.rules.specs.declared.Action.TheVariants.{Void}
use Rattle.rules.specs.declared.Passage.TheVariants.{P00}
use Rattle.walks_test.specs.Plans.{stage}
use Rattle.walks_test.proofs.plans.plan_with.Goals as goal

pub returns-clause-stages : goal.returns-clause-stages
returns-clause-stages c =
    let n = length c.args.given.now in
    ap₂ ◌++◌ c.copy_from_slice.ensures.after (ap (λ (s : Stage). drop n (replicate 16 s)) c.stage-stages.ensures ∙ drop-replicate n 16 (stage Void P00))
