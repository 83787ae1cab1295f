-- One line more, with a place for it or not.
use Rattle.std.proofs.Common.{◌+◌, ◌++◌, ◌∷◌, [], List, sym, subst, arith}
use Rattle.reading.proofs.Storing.{LinesKept, kept_none, kept_stored, kept_passed}
use Rattle.reading.proofs.cursor.Cursor.rows.Goals as goal
use Rattle.reading.proofs.cursor.Cursor.rows.Goals.{then-i-places, else-i-places}

pub loop-i-init : goal.loop-i-init
loop-i-init g c = ([], kept_none g.T.Row.reads g.T.Row.noting c.args.count c.args.self.rest.now c.args.places.now c.args.notes)

pub loop-i-preserved : goal.loop-i-preserved
loop-i-preserved g c =
    let reads = g.T.Row.reads in
    let noting = g.T.Row.noting in
    let before = c.args.places.now in
    let l = c.loop-i in
    let xs = l.invariant.0 in
    let row = c.in_ok-row.row in
    let next = c.in_ok-row.next.rest.now in
    let e = sym c.in_ok-row.ensures in
    let stored = kept_stored reads noting c.args.count c.args.self.rest.now before c.args.notes l.i l.here.rest.now l.places l.notes xs l.invariant.1 c.loop-i-test.true row next e in
    let passed = kept_passed reads noting c.args.count c.args.self.rest.now before c.args.notes l.i l.here.rest.now l.places l.notes xs l.invariant.1 c.loop-i-test.true row next e in
    let After : List _ → Type 0 = λ places. LinesKept reads noting c.args.count c.args.self.rest.now before c.args.notes (l.i + 1) next places (noting l.notes row) (xs ++ (row ∷ [])) in
    let Noted : g.row.T-Notes.Denot → Type 0 = λ notes. LinesKept reads noting c.args.count c.args.self.rest.now before c.args.notes (l.i + 1) next c.if-i-places.places notes (xs ++ (row ∷ [])) in (
      xs ++ (row ∷ []),
      subst Noted (sym c.note-notes.ensures) (elim c.if-i-places.branch [
        | then-i-places w ↦ subst After (sym w.places-is) (stored (omega (arith, w.if-i-places.true)))
        | else-i-places w ↦ subst After (sym w.places-is) (passed (omega (arith, w.if-i-places.false)))
      ]),
    )
