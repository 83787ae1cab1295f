-- Some lines have been read and noted, and the first of them stand in the places.
use Rattle.std.proofs.Common.{List}
use Rattle.reading.proofs.Storing.{LinesKept}
use Rattle.reading.proofs.cursor.Cursor.rows.Given as goal

abbrev pub invariant-loop-i : goal.invariant-loop-i
invariant-loop-i g l =
    (xs : List _) × LinesKept g.T.Row.reads g.T.Row.noting l.count l.initial.here.rest.now l.initial.places l.initial.notes l.i l.here.rest.now l.places l.notes xs
