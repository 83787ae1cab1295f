-- `table::filling::may_enter` meets its contract: whichever job the order is of, the shelf tells whether the aisle is open, and the
-- policy's row and the shelf whether the policy lets it be entered.
use Rattle.std.proofs.Common.{arith, ◌≤◌, sym, ◌∙◌, ap, true, false}
use Rattle.rules.specs.declared.Layout.{Layout}
use Rattle.table.proofs.TableFills.{order_aisles, order_small, enter_shut, enter_open}
use Rattle.table.proofs.filling.may_enter.Goals as goal

pub bounds-o-j : goal.bounds-o-j
bounds-o-j c =
    let r = c.requires in
    let small = order_small r.0.0 c.args.o.now r.0.1 c.args.j r.1 r.2 in
    omega arith

pub returns-then-not-open : goal.returns-then-not-open
returns-then-not-open c = λ job of. sym (enter_shut job c.args.o.now of c.args.j c.requires.1 c.requires.2 c.if-not-open.true)

pub returns-then-enters_any : goal.returns-then-enters_any
returns-then-enters_any c =
    let x = c.args in
    let any = sym c.if-enters_any.true ∙ c.enters_any.ensures in
    λ job of. sym (enter_open job x.o.now of x.j c.requires.1 c.requires.2 c.if-not-open.false true any)

pub holds_listed-requires : goal.holds_listed-requires
holds_listed-requires c = let r = c.requires in order_small r.0.0 c.args.o.now r.0.1 c.args.j r.1 r.2

pub returns : goal.returns
returns c =
    let x = c.args in
    let any = sym c.if-enters_any.false ∙ c.enters_any.ensures in
    λ job of.
    let cells = ap (λ (z : Layout). z.cells) of.layout in
    let in-job : x.j ≤ job.layout.aisles = omega (arith, c.requires.2, order_aisles job x.o.now of) in
    c.holds_listed.ensures job of.admitted of.shelf cells in-job
    ∙ sym (enter_open job x.o.now of x.j c.requires.1 c.requires.2 c.if-not-open.false false any)
