-- All lines are counted, and none has more bytes than its bound.
use Rattle.std.proofs.Common.{arith, length, ◌≤◌}
use Rattle.std.proofs.Math.Nat.{mul-le-mul_left}
use Rattle.std.proofs.lemmas.List.{take_all}
use Rattle.rules.specs.JobFile.{section_text}
use Rattle.sheets.proofs.sections.section_size.Goals as goal

pub returns : goal.returns
unfolding section_text
returns g c =
    let in_list : c.loop-line.line-index ≤ length c.args.lines.now = omega (arith, c.loop-line.auto.line-index-end) in
    record {
      count = rw (take_all c.loop-line.line-index c.args.lines.now c.loop-line-test.false) at c.loop-line.invariant.0;
      bound = omega (arith, c.loop-line.invariant.1, mul-le-mul_left g.T.Line.most in_list);
    }
