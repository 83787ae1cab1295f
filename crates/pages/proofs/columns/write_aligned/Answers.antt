-- `pages::columns::write_aligned` meets its contract: the spaces, and the number in the rest of the space.
use Rattle.std.proofs.Common.{arith, ℕ, ◌-◌, ◌≡◌, List, length, replicate}
use Rattle.rules.specs.JobFile.{space, numeral}
use Rattle.rules.specs.Page.{aligned}
use Rattle.lines.specs.Written.{Written, Sized}
use Rattle.pages.proofs.PageLines.{aligned_length}
use Rattle.lines.proofs.Writing.{going_first, end_room, going_end}
use Rattle.pages.proofs.columns.write_aligned.Goals as goal

-- the spaces are those of the definition
spaces : (width n : ℕ) {size count at : ℕ} {b m : List ℕ} → count ≡ width - size → Sized (numeral n) 20 size
    → Written (replicate count space) b m at → Written (replicate (width - length (numeral n)) space) b m at
spaces width n e s w = rw (e, s.count) at w

pub write_spaces-at-requires : goal.write_spaces-at-requires
write_spaces-at-requires c = omega (arith, c.saturating_sub.ensures, c.number_size-size.ensures.count, aligned_length c.args.width c.args.n, c.requires)

pub write_number-requires : goal.write_number-requires
unfolding aligned
write_number-requires c = end_room (going_first _ _ c.requires (spaces c.args.width c.args.n c.saturating_sub.ensures c.number_size-size.ensures c.write_spaces-at.ensures))

pub returns : goal.returns
unfolding aligned
returns c = going_end (going_first _ _ c.requires (spaces c.args.width c.args.n c.saturating_sub.ensures c.number_size-size.ensures c.write_spaces-at.ensures)) c.write_number.ensures
