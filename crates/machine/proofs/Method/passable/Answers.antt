-- `machine::Method::passable` meets its contract: by the mark of the policy's row.
use Rattle.machine.proofs.Tables.{passage_tag, passage_mark_named}
use Rattle.machine.proofs.Method.passable.Goals as goal

pub returns : goal.returns
returns c =
    let args = c.args in
    rw (c.mark.ensures, passage_tag args.passage) (passage_mark_named args.self.policy args.self.end args.passage)
