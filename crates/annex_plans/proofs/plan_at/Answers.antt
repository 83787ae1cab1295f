use Prim.Native.Nat.{◌-◌}
use native.Mathlib.Omega.{arith}
use native.Mathlib.Numerals.{add-one}
use mathlib.Core.Path.{◌≡◌, refl}
use Rattle.rules.specs.declared.Passage.TheVariants.{P00}
use Rattle.values.specs.declared.Stage.{Stage}
use Rattle.annex_plans.proofs.Finding.{going_cut, going_end}
use Rattle.annex_plans.proofs.plan_at.Goals as goal

pub nonzero_rem-behind : goal.nonzero_rem-behind
nonzero_rem-behind c =
    let l = c.loop-j in
    let k = c.action_count-count in
    (going_cut _ _ _ _ _ _ _ k.result k.ensures l.invariant (omega (arith, c.requires.2)) (omega (arith, c.loop-j-test.true))).block_some

pub nonzero_div-rest : goal.nonzero_div-rest
nonzero_div-rest c =
    let l = c.loop-j in
    let k = c.action_count-count in
    (going_cut _ _ _ _ _ _ _ k.result k.ensures l.invariant (omega (arith, c.requires.2)) (omega (arith, c.loop-j-test.true))).block_some

pub action_at-action-requires : goal.action_at-action-requires
action_at-action-requires c =
    let l = c.loop-j in
    let k = c.action_count-count in
    (omega (arith, c.requires.0), (going_cut _ _ _ _ _ _ _ k.result k.ensures l.invariant (omega (arith, c.requires.2)) (omega (arith, c.loop-j-test.true))).action)

pub nonzero_div-behind : goal.nonzero_div-behind
nonzero_div-behind c =
    let l = c.loop-j in
    let k = c.action_count-count in
    (going_cut _ _ _ _ _ _ _ k.result k.ensures l.invariant (omega (arith, c.requires.2)) (omega (arith, c.loop-j-test.true))).rest_some

pub passage_at-passage-requires : goal.passage_at-passage-requires
passage_at-passage-requires c =
    let l = c.loop-j in
    let k = c.action_count-count in
    (going_cut _ _ _ _ _ _ _ k.result k.ensures l.invariant (omega (arith, c.requires.2)) (omega (arith, c.loop-j-test.true))).passage

pub nonzero_rem-rest : goal.nonzero_rem-rest
nonzero_rem-rest c =
    let l = c.loop-j in
    let k = c.action_count-count in
    (going_cut _ _ _ _ _ _ _ k.result k.ensures l.invariant (omega (arith, c.requires.2)) (omega (arith, c.loop-j-test.true))).rest_some

pub loop-j-preserved : goal.loop-j-preserved
loop-j-preserved c =
    let l = c.loop-j in
    let k = c.action_count-count in
    let stage : Stage = record { action = c.action_at-action.result; passage = c.passage_at-passage.result } in
    rw (add-one l.j) ((going_cut _ _ _ _ _ _ _ k.result k.ensures l.invariant (omega (arith, c.requires.2)) (omega (arith, c.loop-j-test.true))).going stage c.action_at-action.ensures c.passage_at-passage.ensures)

-- only the last aisle is left
pub action_at-requires : goal.action_at-requires
action_at-requires c =
    let l = c.loop-j in
    let ends = going_end _ _ _ _ _ _ l.j l.invariant (omega (arith, c.requires.2)) (omega (arith, c.loop-j-test.false)) in
    (omega (arith, c.requires.0), ends.0)

pub returns : goal.returns
returns c =
    let l = c.loop-j in
    let last : l.j ≡ c.args.aisles - 1 = omega (arith, l.auto.j-end, c.loop-j-test.false) in
    let ends = going_end _ _ _ _ _ _ l.j l.invariant (omega (arith, c.requires.2)) (omega (arith, c.loop-j-test.false)) in
    (refl, rw last at ends.1 (record { action = c.action_at.result; passage = P00 }) _ c.action_at.ensures)
