use native.Mathlib.Omega.{arith}
use mathlib.Core.Path.{◌≡◌, ◌∙◌, ap}
use lib.ListN.{length-set}
use Rattle.rules.specs.declared.Side.{Side}
use Rattle.rules.specs.declared.Kind.{Kind}
use Rattle.demand.proofs.Filling.{filled_one}
use Rattle.machine.specs.Steps.{sample_action, kind_from, seen_kind, step_of}
use Rattle.machine.specs.States.{state_code, state_of}
use Rattle.aisles.specs.Layers.{step_with}
use Rattle.aisles.proofs.layers.steps_of.Goals as goal

pub loop-s-preserved : goal.loop-s-preserved
loop-s-preserved c =
    let p = c.args in
    let o = c.loop-s in
    let method = p.aisle.method in (
      length-set o.steps o.s c.action_step.result ∙ o.invariant.0,
      filled_one (λ s. state_code (step_of method.policy method.end (sample_action c.seen_kind-seen.result) p.aisle.may p.between (state_of s)))
          o.steps o.s c.action_step.result (omega (arith, o.invariant.0)) o.invariant.1 c.action_step.ensures,
    )

pub returns : goal.returns
unfolding step_with
returns c =
    let p = c.args in
    let method = p.aisle.method in
    let seen : c.seen_kind-seen.result ≡ seen_kind p.aisle.layout p.kind
    = c.seen_kind-seen.ensures ∙ ap (λ (side : Side). kind_from side p.kind) c.side.ensures in
    λ s h. c.loop-s.invariant.1 s (omega arith)
    ∙ ap (λ (k : Kind). state_code (step_of method.policy method.end (sample_action k) p.aisle.may p.between (state_of s))) seen
