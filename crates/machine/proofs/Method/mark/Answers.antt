-- `machine::Method::mark` meets its contract: POLICIES holds the policies' rows.
use Rattle.machine.proofs.Tables.{policy_entry}
use Rattle.machine.proofs.Method.mark.Goals as goal

pub returns : goal.returns
returns c = rw c.row.ensures.0 (policy_entry c.args.self.policy c.args.self.end c.args.column c.requires)
