-- `pages::write_page` meets its contract. The loop's invariant: the lines of the first picks are written, and all have room.
use Rattle.rules.specs.Page.{page_line}
use Rattle.lines.proofs.Writing.{SoFar}
use Rattle.pages.proofs.write_page.Given as goal

abbrev pub invariant-loop-pick : goal.invariant-loop-pick
invariant-loop-pick l = SoFar page_line l.pick-items l.initial.page l.page l.at l.pick-index
