-- `shelves::listed_cells` meets its contract: the cells before i are flagged by their lines, all other heights are not flagged.
use Rattle.shelves.proofs.Shelving.{Flagged}
use Rattle.shelves.proofs.listed_cells.Given as goal

abbrev pub invariant-loop-i : goal.invariant-loop-i
invariant-loop-i l = Flagged l.shelf.line l.j l.listed l.i
