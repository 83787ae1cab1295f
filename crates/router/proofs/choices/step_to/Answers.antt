-- `router::choices::step_to` meets its contract: the state is the machine's, the demand is read out of the maps of the aisle.
use Prim.Native.Nat.{ℕ, ◌+◌, ◌*◌}
use mathlib.Core.Path.{◌∙◌, ap, ap₂}
use mathlib.Core.Bool.{Bool}
use lib.ListN.{get_or}
use Rattle.rules.specs.declared.Kind.{Kind}
use Rattle.machine.specs.States.{state_code, state_of}
use Rattle.machine.specs.Steps.{sample_action, kind_from, step_of}
use Rattle.aisles.specs.Layers.{step_code, step_with, left_code}
use Rattle.router.specs.declared.choices.At.{At}
use Rattle.router.proofs.choices.step_to.Goals as goal

pub returns : goal.returns
unfolding step_code step_with left_code
returns c =
    let x = c.args in
    let made : ℕ → ℕ → At = λ s q. record { state = s; demand = q } in
    let after : Kind → Bool → ℕ = λ k b. state_code (step_of x.aisle.method.policy x.aisle.method.end (sample_action k) x.aisle.may b (state_of x.at.state)) in
    let seen = c.seen_kind-seen.ensures ∙ ap₂ kind_from c.side.ensures c.kind.ensures in
    let reach = c.reach_of-front.ensures in
    let open-at = c.from-open.ensures ∙ ap (λ h. get_or x.maps.now.fronts (h * 256 + x.at.demand) 0) reach.0 in
    let left-at = c.from-demand.ensures ∙ ap₂ (λ i q. get_or x.maps.now.backs (i * 256 + q) 0) reach.1 open-at in
    ap₂ made (c.action_step-state.ensures ∙ ap₂ after seen c.passes_between.ensures) left-at
