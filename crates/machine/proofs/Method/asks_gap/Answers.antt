-- `machine::Method::asks_gap` meets its contract: by the mark of the test in the policy's row.
use Rattle.machine.proofs.Tables.{gap_mark}
use Rattle.machine.proofs.Method.asks_gap.Goals as goal

pub returns : goal.returns
returns c = rw c.mark.ensures (gap_mark c.args.self.policy c.args.self.end)
