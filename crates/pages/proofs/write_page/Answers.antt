-- The next line stands in the rest of the space.
use Rattle.std.proofs.lemmas.List.{get_or_default}
use Rattle.lines.proofs.Writing.{turn_room, turn_written}
use Rattle.pages.proofs.write_page.Goals as goal

pub write_line-at-requires : goal.write_line-at-requires
write_line-at-requires c = turn_room c.loop-pick.invariant _ (get_or_default _ _ _ _ c.loop-pick-test.true) c.loop-pick-test.true

pub loop-pick-preserved : goal.loop-pick-preserved
loop-pick-preserved c = turn_written c.loop-pick.invariant _ (get_or_default _ _ _ _ c.loop-pick-test.true) c.loop-pick-test.true c.write_line-at.ensures
