-- `annex_policy::row::with_aisle` meets its contract: a VOID aisle leaves the row as it is, an entered one is its last, and its first if it had none.
use Rattle.annex_policy.proofs.RowLaws.{with_idle, with_first, with_more}
use Rattle.annex_policy.proofs.row.with_aisle.Goals as goal

pub returns-then-not-enters : goal.returns-then-not-enters
returns-then-not-enters c =
    let x = c.args in
    λ plan i e t same. with_idle plan i x.j x.row x.action e t same c.enters.result c.enters.ensures c.if-not-enters.true

pub returns-then-row-eq0 : goal.returns-then-row-eq0
returns-then-row-eq0 c =
    let x = c.args in
    λ plan i e t same. with_first plan i x.j x.row x.action e t same c.enters.result c.enters.ensures c.if-not-enters.false c.if-row-eq0.true

pub returns : goal.returns
returns c =
    let x = c.args in
    λ plan i e t same. with_more plan i x.j x.row x.action e t same c.enters.result c.enters.ensures c.if-not-enters.false c.if-row-eq0.false
