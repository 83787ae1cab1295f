-- `machine::Method::enters_any` meets its contract: by the '+' or '-' of the policy's row.
use Rattle.machine.proofs.Tables.{anywhere_mark}
use Rattle.machine.proofs.Method.enters_any.Goals as goal

pub returns : goal.returns
returns c = rw c.mark.ensures (anywhere_mark c.args.self.policy c.args.self.end)
