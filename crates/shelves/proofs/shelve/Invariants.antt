-- `shelves::shelve` meets its contract. The loop's invariant: of the first n records those of open aisles are on the shelf. An
-- admitted job has no two records of one cell, so that the last record of a cell is the first one too.
use Rattle.values.specs.Values.{job_of}
use Rattle.shelves.proofs.Shelving.{ShelvedTo}
use Rattle.shelves.proofs.shelve.Given as goal

abbrev pub invariant-loop-record : goal.invariant-loop-record
invariant-loop-record l = ShelvedTo (job_of l.fn.job) l.line l.quantity l.record-index
