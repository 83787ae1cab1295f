-- `machine::Method::possible` meets its contract: by the mark of the policy's row.
use mathlib.Core.Path.{◌≡◌, refl, sym, ◌∙◌, ap}
use mathlib.Core.Bool.{true, false, not}
use lib.Dec.{eqb}
use borrow.Author.Tests.{ne_eqb, eq-eqb}
use Rattle.rules.specs.declared.Side.TheVariants.{FrontSide}
use Rattle.rules.specs.Policies.{action_named}
use Rattle.rules.specs.Machine.{is_void}
use Rattle.machine.specs.Steps.{sample_action}
use Rattle.machine.proofs.Tables.{kind_tag, kind_mark, void_kind}
use Rattle.machine.proofs.Method.possible.Goals as goal

pub returns-else-eq : goal.returns-else-eq
returns-else-eq c =
    let args = c.args in
    let marked : not (eqb c.mark.result 45) ≡ action_named FrontSide args.self.policy (sample_action args.kind)
    = rw (c.mark.ensures, kind_tag args.kind) (kind_mark args.self.policy args.self.end args.kind) in
    let named : action_named FrontSide args.self.policy (sample_action args.kind) ≡ true
    = sym marked ∙ ap not (ne_eqb c.mark.result 45 c.if-mark-ne45.true) in
    let enters : is_void (sample_action args.kind) ≡ false = sym (void_kind args.kind) ∙ sym c.eq.ensures ∙ c.if-eq.false in
    rw (named, enters) refl

pub returns-else-mark-ne45 : goal.returns-else-mark-ne45
returns-else-mark-ne45 c =
    let args = c.args in
    let marked : not (eqb c.mark.result 45) ≡ action_named FrontSide args.self.policy (sample_action args.kind)
    = rw (c.mark.ensures, kind_tag args.kind) (kind_mark args.self.policy args.self.end args.kind) in
    let lacks : action_named FrontSide args.self.policy (sample_action args.kind) ≡ false
    = sym marked ∙ ap not (eq-eqb c.mark.result 45 c.if-mark-ne45.false) in
    rw (marked, lacks) refl
