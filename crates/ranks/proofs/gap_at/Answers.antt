use native.Mathlib.Omega.{arith}
use mathlib.Core.Path.{sym}
use Rattle.ranks.proofs.RankLaws.{gap_next, gap_found, gap_once, gap_twice}
use Rattle.ranks.proofs.gap_at.Goals as goal

pub returns-then-rest-cells : goal.returns-then-rest-cells
returns-then-rest-cells c =
    let x = c.args in
    let loop = c.loop-h in
    sym (gap_found x.cells x.g loop.h loop.rest loop.invariant (omega arith) (omega arith))

pub loop-h-preserved : goal.loop-h-preserved
loop-h-preserved c =
    let x = c.args in
    let loop = c.loop-h in gap_next x.cells x.g loop.h loop.rest loop.invariant (omega arith) (omega arith)

pub returns-then-rest-eq0 : goal.returns-then-rest-eq0
returns-then-rest-eq0 c =
    let x = c.args in
    let loop = c.loop-h in
    sym (gap_once x.cells x.g loop.h loop.rest loop.invariant (omega arith) (omega arith))

pub returns-else-rest-eq0 : goal.returns-else-rest-eq0
returns-else-rest-eq0 c =
    let x = c.args in
    let loop = c.loop-h in
    sym (gap_twice x.cells x.g loop.h loop.rest loop.invariant (omega arith) c.if-rest-eq0.false)
