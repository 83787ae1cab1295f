-- `visits::note` meets its contract. The loop's invariant: the picks passed are noted.
use Rattle.std.proofs.Common.{◌≡◌, take}
use Rattle.visits.specs.Numbered.{noted_all}
use Rattle.visits.proofs.note.Given as goal

abbrev pub invariant-loop-pick : goal.invariant-loop-pick
invariant-loop-pick l = l.noted ≡ noted_all (take l.pick-index l.picks) l.initial.noted
