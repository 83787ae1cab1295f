-- `sheets::passages` meets its contract: each call of the closure gives a stage's passage.
use Rattle.std.proofs.Common.{rules, ◌-◌, length, ◌≡◌, take, ◌∙◌, ap}
use Rattle.std.proofs.lemmas.List.{take-map}
use Rattle.rules.specs.declared.Action.TheVariants.{Void}
use Rattle.rules.specs.declared.Passage.TheVariants.{P00}
use Rattle.values.specs.declared.Stage.{Stage}
use Rattle.values.specs.Values.{plan_of}
use Rattle.sheets.proofs.Mapped.{mapped}
use Rattle.sheets.proofs.passages.Goals as goal

pub returns : goal.returns
unfolding plan_of
returns c =
    let sixteen : length c.args.plan.stages ≡ 16 = search rules in
    ap (take (c.args.plan.aisles - 1)) (mapped _ (λ (s : Stage). s.passage) (record { action = Void; passage = P00 }) (λ p x y q h. search rules) sixteen c.map.ensures.items) ∙ take-map _ _ _
