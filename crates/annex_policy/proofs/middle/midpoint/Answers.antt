use Prim.Native.Nat.{ℕ, ◌+◌, ◌-◌, ◌≤◌, ◌<◌}
use native.Mathlib.Omega.{arith}
use mathlib.Core.Path.{◌≡◌, refl, sym, ap, subst, subst₂, ◌∙◌}
use mathlib.Core.List.{List, []}
use mathlib.Core.Bool.{Bool, ◌||◌, false≢true}
use lib.Dec.{eqb}
use lib.ListN.{get_or}
use Rattle.rules.specs.declared.Layout.{Layout}
use Rattle.rules.specs.declared.Side.{Side}
use Rattle.rules.specs.declared.Action.{Action}
use Rattle.rules.specs.Store.{side_of}
use Rattle.rules.specs.Jobs.{Job}
use Rattle.rules.specs.Plans.{Fits}
use Rattle.values.specs.Values.{plan_of}
use Rattle.between.specs.declared.Between.{Between}
use Rattle.between.specs.Between.{between_of}
use Rattle.annex_plans.proofs.Ranges.{plan_range}
use Rattle.annex_policy.specs.Middle.{BetweenAsked, between_said, MidAt}
use Rattle.annex_policy.proofs.MiddleLaws.{void_said, rule_mid, mid_rule, MidTo, mid_more}
use Rattle.annex_policy.proofs.middle.midpoint.Goals as goal
use Rattle.annex_policy.proofs.middle.midpoint.Goals.{After-row_of-row, Start}

-- the arrays of aisle j + 1 stand at j
array_of : (gaps : Bool) (job : Job) (z : Layout) (betweens : List Between) (j : ℕ) → BetweenAsked gaps job z betweens → j < z.aisles
    → get_or betweens j (record { front = []; back = []; from = [] }) ≡ between_of gaps job (j + 1)
array_of gaps job z betweens j asked h =
    let none : Between = record { front = []; back = []; from = [] } in
    let e : j + 1 - 1 ≡ j = omega arith in
    ap (λ i. get_or betweens i none) (sym e) ∙ asked.at (j + 1) none (omega arith) (omega (arith, h))

pub loop-j-init : goal.loop-j-init
loop-j-init c = λ gaps job asked j l h. absurd (omega arith)

pub offset_bounds-betweens-j : goal.offset_bounds-betweens-j
offset_bounds-betweens-j c =
    let few : c.args.plan.aisles ≤ 16 = let r = plan_range c.args.z c.args.plan c.requires.0 in omega (arith, r.0, r.4) in
    omega (arith, c.loop-j-test.true, few)

pub bounds-betweens-j : goal.bounds-betweens-j
bounds-betweens-j c = omega (arith, c.loop-j-test.true, c.requires.1, c.requires.0.aisles)

pub mid_at-requires : goal.mid_at-requires
mid_at-requires c =
    let r = plan_range c.args.z c.args.plan c.requires.0 in
    (r.1, subst (Fits c.args.z.cells) (sym c.action_of.ensures) (c.requires.0.well_formed.fits (c.loop-j.j + 1)))

pub returns-then-not-mid_at : goal.returns-then-not-mid_at
returns-then-not-mid_at c =
    -- what is asked of aisle j of the plan, should its action be a and the depot's side s
    let Asks : (Bool → Job → ℕ → Side → Action → Type 0) = λ gaps job j s a. let row = c.row_of-row.result in
    MidAt s (eqb row.entered 1) (eqb j row.first || eqb j row.last) a (between_said gaps job j a) in
    let x = c.args in
    let j = c.loop-j.j in
    λ gaps job asked. (
      λ f. absurd (false≢true f),
      λ rule. absurd (false≢true (
          let all = rule_mid x.z x.plan c.requires.0 c.row_of-row.result c.row_of-row.ensures (side_of x.z) (between_said gaps job) (void_said gaps job) rule in
          let here = subst₂ (Asks gaps job (j + 1)) (sym c.side-side.ensures) (sym c.action_of.ensures) (all (j + 1) (omega arith) (omega (arith, c.loop-j-test.true))) in
          let array = array_of gaps job x.z x.betweens j asked (omega (arith, c.loop-j-test.true, c.requires.0.aisles)) in
          sym c.if-not-mid_at.true ∙ (c.mid_at.ensures gaps job (j + 1) array (ap (λ (z : Layout). z.cells) asked.layout)).1
          (subst (λ e. MidAt c.side-side.result (eqb c.row_of-row.result.entered 1) e c.action_of.result (between_said gaps job (j + 1) c.action_of.result)) (sym c.is_end-end.ensures) here)
          )),
    )

pub loop-j-preserved : goal.loop-j-preserved
loop-j-preserved c =
    let Asks : (Bool → Job → ℕ → Side → Action → Type 0) = λ gaps job j s a. let row = c.row_of-row.result in
    MidAt s (eqb row.entered 1) (eqb j row.first || eqb j row.last) a (between_said gaps job j a) in
    let side = c.side-side.result in
    let x = c.args in
    let j = c.loop-j.j in
    let row = c.row_of-row.result in
    λ gaps job asked. (
    let array = array_of gaps job x.z x.betweens j asked (omega (arith, c.loop-j-test.true, c.requires.0.aisles)) in
    let here = subst (λ e. MidAt side (eqb row.entered 1) e c.action_of.result (between_said gaps job (j + 1) c.action_of.result)) c.is_end-end.ensures
    ((c.mid_at.ensures gaps job (j + 1) array (ap (λ (y : Layout). y.cells) asked.layout)).0 c.if-not-mid_at.false) in
    mid_more side (plan_of x.plan) (eqb row.entered 1) row.first row.last (between_said gaps job) j
    (c.loop-j.invariant gaps job asked)
    (subst (Asks gaps job (j + 1) side) c.action_of.ensures here)
    )

pub returns : goal.returns
returns c =
    let x = c.args in
    λ gaps job asked. (
      λ e. (
          let all = c.loop-j.invariant gaps job asked in
          let seen : Side → Type 0 = λ q. MidTo q (plan_of x.plan) (eqb c.row_of-row.result.entered 1) c.row_of-row.result.first c.row_of-row.result.last (between_said gaps job) c.loop-j.j in
          let told = subst seen c.side-side.ensures all in
          mid_rule x.z x.plan c.requires.0 c.row_of-row.result c.row_of-row.ensures (side_of x.z) (between_said gaps job) (void_said gaps job)
          (λ j l h. told j l (omega (arith, h, c.loop-j-test.false)))
          ),
      λ r. refl,
    )
