use Prim.Native.Nat.{◌+◌, ◌-◌}
use native.Mathlib.Omega.{arith}
use mathlib.Core.Path.{◌≡◌, refl, sym, ap, ap₂, ◌∙◌}
use mathlib.Core.Bool.{false, false≢true}
use lib.ListN.{get_or}
use Rattle.rules.specs.declared.Layout.{Layout}
use Rattle.rules.specs.declared.Side.{Side}
use Rattle.rules.specs.declared.Policy.{Policy}
use Rattle.rules.specs.Store.{side_of}
use Rattle.rules.specs.Jobs.{Job}
use Rattle.rules.specs.Plans.{action_at, passage_at, entered}
use Rattle.rules.specs.Policies.{action_named, passage_named}
use Rattle.values.specs.Values.{plan_of}
use Rattle.annex_policy.specs.Ruled.{RulesAsked, may_be_entered}
use Rattle.annex_policy.proofs.KindLaws.{void_unless_entered}
use Rattle.annex_policy.proofs.RuleLaws.{named_more, named_all}
use Rattle.annex_policy.proofs.policy.named.Goals as goal
use Rattle.annex_policy.proofs.policy.named.Goals.{else-not-may-j-via-then-not-may-j+else-enters, else-not-may-j-via-else-not-may-j}

pub loop-j-init : goal.loop-j-init
loop-j-init c = λ job z e a j l h. absurd (omega arith)

pub bounds-may-j : goal.bounds-may-j
bounds-may-j c = omega (arith, c.loop-j-test.true, c.requires)

pub returns-then-not-names_action : goal.returns-then-not-names_action
returns-then-not-names_action c =
    -- the test of the action is of aisle j + 1, at the job's side, under the job's policy
    let action_said : ((job : Job) (z : Layout) → let x = c.args in c.side-side.result ≡ side_of z → RulesAsked job z x.may x.policy x.plan → c.names_action.result ≡ action_named (side_of job.layout) job.policy (action_at (plan_of x.plan) (c.loop-j.j + 1))) = λ job z e asked. let x = c.args in
    c.names_action.ensures
    ∙ ap (action_named c.side-side.result x.policy) c.action_of-action.ensures
    ∙ ap₂ (λ (s : Side) (p : Policy). action_named s p (action_at (plan_of x.plan) (c.loop-j.j + 1))) (e ∙ ap side_of asked.layout) asked.same in
    λ job asked. (
      λ f. absurd (false≢true f),
      λ named. absurd (false≢true (
          sym c.if-not-names_action.true
          ∙ action_said job c.args.z c.side-side.ensures asked
          ∙ named.actions (c.loop-j.j + 1)
          )),
    )

pub returns-then-not-names_passage : goal.returns-then-not-names_passage
returns-then-not-names_passage c =
    -- that of the passage is of the one behind it
    let passage_said : ((job : Job) (z : Layout) → let x = c.args in c.side-side.result ≡ side_of z → RulesAsked job z x.may x.policy x.plan → c.names_passage.result ≡ passage_named (side_of job.layout) job.policy (passage_at (plan_of x.plan) (c.loop-j.j + 1))) = λ job z e asked. let x = c.args in
    c.names_passage.ensures
    ∙ ap (passage_named c.side-side.result x.policy) c.passage_of.ensures
    ∙ ap₂ (λ (s : Side) (p : Policy). passage_named s p (passage_at (plan_of x.plan) (c.loop-j.j + 1))) (e ∙ ap side_of asked.layout) asked.same in
    λ job asked. (
      λ f. absurd (false≢true f),
      λ named. absurd (false≢true (
          sym c.if-not-names_passage.true
          ∙ passage_said job c.args.z c.side-side.ensures asked
          ∙ named.passages (c.loop-j.j + 1)
          )),
    )

pub returns-then-enters : goal.returns-then-enters
returns-then-enters c =
    -- and the flag is that of aisle j + 1
    let flag_said : ((job : Job) (z : Layout) → let x = c.args in RulesAsked job z x.may x.policy x.plan → get_or x.may c.loop-j.j false ≡ may_be_entered job (c.loop-j.j + 1)) = λ job z asked. let x = c.args in
    let j = c.loop-j.j in
    let e : j + 1 - 1 ≡ j = omega arith in
    ap (λ i. get_or x.may i false) (sym e) ∙ asked.may_at (j + 1) (omega arith) (omega (arith, c.loop-j-test.true)) in
    let x = c.args in
    λ job asked. (
      λ f. absurd (false≢true f),
      λ named. absurd (
          let void = named.void (c.loop-j.j + 1) (sym (flag_said job x.z asked) ∙ c.if-not-may-j.true) in
          false≢true (sym (c.enters.ensures ∙ ap entered (c.action_of-action.ensures ∙ void)) ∙ c.if-enters.true)
          ),
    )

pub loop-j-preserved : goal.loop-j-preserved
loop-j-preserved c =
    let action_said : ((job : Job) (z : Layout) → let x = c.args in c.side-side.result ≡ side_of z → RulesAsked job z x.may x.policy x.plan → c.names_action.result ≡ action_named (side_of job.layout) job.policy (action_at (plan_of x.plan) (c.loop-j.j + 1))) = λ job z e asked. let x = c.args in
    c.names_action.ensures
    ∙ ap (action_named c.side-side.result x.policy) c.action_of-action.ensures
    ∙ ap₂ (λ (s : Side) (p : Policy). action_named s p (action_at (plan_of x.plan) (c.loop-j.j + 1))) (e ∙ ap side_of asked.layout) asked.same in
    let passage_said : ((job : Job) (z : Layout) → let x = c.args in c.side-side.result ≡ side_of z → RulesAsked job z x.may x.policy x.plan → c.names_passage.result ≡ passage_named (side_of job.layout) job.policy (passage_at (plan_of x.plan) (c.loop-j.j + 1))) = λ job z e asked. let x = c.args in
    c.names_passage.ensures
    ∙ ap (passage_named c.side-side.result x.policy) c.passage_of.ensures
    ∙ ap₂ (λ (s : Side) (p : Policy). passage_named s p (passage_at (plan_of x.plan) (c.loop-j.j + 1))) (e ∙ ap side_of asked.layout) asked.same in
    let flag_said : ((job : Job) (z : Layout) → let x = c.args in RulesAsked job z x.may x.policy x.plan → get_or x.may c.loop-j.j false ≡ may_be_entered job (c.loop-j.j + 1)) = λ job z asked. let x = c.args in
    let j = c.loop-j.j in
    let e : j + 1 - 1 ≡ j = omega arith in
    ap (λ i. get_or x.may i false) (sym e) ∙ asked.may_at (j + 1) (omega arith) (omega (arith, c.loop-j-test.true)) in
    let x = c.args in
    let j = c.loop-j.j in
    λ job z e asked. named_more job (plan_of x.plan) j (c.loop-j.invariant job z e asked) (record {
      action = sym (action_said job z e asked) ∙ c.if-not-names_action.false;
      passage = sym (passage_said job z e asked) ∙ c.if-not-names_passage.false;
      void = λ shut. elim c.else-not-may-j.branch [
        | else-not-may-j-via-then-not-may-j+else-enters w ↦ sym c.action_of-action.ensures ∙ void_unless_entered c.action_of-action.result (sym w.enters.ensures ∙ w.if-enters.false)
        | else-not-may-j-via-else-not-may-j w ↦ absurd (false≢true (sym (flag_said job z asked ∙ shut) ∙ w.if-not-may-j.false))
      ];
    })

pub returns : goal.returns
returns c =
    let x = c.args in
    λ job asked. (
      λ e. named_all job x.plan (λ j l h. c.loop-j.invariant job x.z c.side-side.ensures asked j l (omega (arith, h, c.loop-j-test.false))),
      λ n. refl,
    )
