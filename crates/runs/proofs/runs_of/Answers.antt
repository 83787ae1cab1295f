use Rattle.std.proofs.Common.{◌<◌, ◌≤◌, length, ap, ◌∙◌, append_assoc, length-append, arith}
use Rattle.values.specs.FixedLists.{items}
use Rattle.runs.specs.Leading.{leading}
use Rattle.runs.proofs.Running.{runs_next, leading_some}
use Rattle.runs.proofs.runs_of.Goals as goal

-- the first run is made, and the steps behind it are left
pub loop-direction-preserved : goal.loop-direction-preserved
loop-direction-preserved c =
    let d = c.in-Some.field-0.now in
    let rest = c.loop-direction.rest.now in
    let first = c.in-Some.ensures.item in
    let some : 0 < length rest = first.3.0 in
    let run = runs_next rest d some first.1 in
    let long : 1 ≤ leading d rest = leading_some rest d some first.1 in (
      rw (c.push.ensures, c.split_at.ensures.back, append_assoc, c.split_at.ensures.front_len, c.leading.ensures.value, ← run) c.loop-direction.invariant.0,
      omega (arith, ap length c.push.ensures ∙ length-append (items c.loop-direction.runs) _, c.split_at.ensures.back_len, c.leading.ensures.value),
    )
