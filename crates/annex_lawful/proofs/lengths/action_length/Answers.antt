-- `annex_lawful::lengths::action_length` meets its contract: each action twice to its turnings, or through.
use Prim.Native.Nat.{◌+◌, ◌*◌, ◌-◌}
use native.Mathlib.Omega.{arith}
use mathlib.Core.Path.{sym, ap, ◌∙◌}
use Rattle.rules.specs.Lengths.{action_length}
use Rattle.rules.specs.Store.{position, aisle_length}
use Rattle.rules.proofs.Lengths.{position_within}
use Rattle.annex_lawful.proofs.lengths.action_length.Goals as goal

pub overflow_sub-result : goal.overflow_sub-result
overflow_sub-result c =
    omega (arith, c.position_of-in-Top.ensures.0, c.aisle_length.ensures.0, position_within c.args.z c.in-Top.i)

pub overflow_sub-result-in-Gap : goal.overflow_sub-result-in-Gap
overflow_sub-result-in-Gap c =
    omega (arith, c.position_of-in-Gap-2.ensures.0, c.aisle_length-in-Gap.ensures.0, position_within c.args.z c.in-Gap.i)

pub returns-in-Void : goal.returns-in-Void
unfolding action_length
returns-in-Void c = (sym (ap (action_length c.args.z) c.in-Void.is), omega arith)

pub returns-in-Bottom : goal.returns-in-Bottom
unfolding action_length
returns-in-Bottom c =
    (ap (λ n. 2 * n) c.position_of.ensures.0 ∙ sym (ap (action_length c.args.z) c.in-Bottom.is), omega (arith, c.position_of.ensures.1))

pub returns-in-Top : goal.returns-in-Top
unfolding action_length
returns-in-Top c = (
  ap (λ n. 2 * (n - c.position_of-in-Top.result)) c.aisle_length.ensures.0
      ∙ ap (λ n. 2 * (aisle_length c.args.z - n)) c.position_of-in-Top.ensures.0
      ∙ sym (ap (action_length c.args.z) c.in-Top.is),
  omega (arith, c.aisle_length.ensures.1),
)

pub returns-in-Gap : goal.returns-in-Gap
unfolding action_length
returns-in-Gap c =
    let z = c.args.z in
    let front = c.position_of-in-Gap in
    let whole = c.aisle_length-in-Gap in
    let back = c.position_of-in-Gap-2 in (
      ap (λ n. 2 * n + 2 * (whole.result - back.result)) front.ensures.0
          ∙ ap (λ n. 2 * position z c.in-Gap.h + 2 * (n - back.result)) whole.ensures.0
          ∙ ap (λ n. 2 * position z c.in-Gap.h + 2 * (aisle_length z - n)) back.ensures.0
          ∙ sym (ap (action_length z) c.in-Gap.is),
      omega (arith, front.ensures.1, whole.ensures.1),
    )

pub returns-in-Once : goal.returns-in-Once
unfolding action_length
returns-in-Once c =
    (c.aisle_length-in-Once.ensures.0 ∙ sym (ap (action_length c.args.z) c.in-Once.is), omega (arith, c.aisle_length-in-Once.ensures.1))

pub returns-in-Twice : goal.returns-in-Twice
unfolding action_length
returns-in-Twice c =
    (ap (λ n. 2 * n) c.aisle_length-in-Twice.ensures.0 ∙ sym (ap (action_length c.args.z) c.in-Twice.is), omega (arith, c.aisle_length-in-Twice.ensures.1))
