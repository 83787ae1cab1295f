-- `table::passages::relax_passage` meets its contract: the rows are relaxed over those whose states are put in order, or stay for a
-- passage that leads nowhere.
use Rattle.std.proofs.Common.{subst}
use Rattle.rows.specs.Rows.{LivesAs}
use Rattle.rows.proofs.KeyRows.{keys_relaxed}
use Rattle.aisles.proofs.Geometry.{within}
use Rattle.table.proofs.PassageLaws.{plain_below, passage_relaxed, passage_skipped}
use Rattle.table.proofs.passages.relax_passage.Goals as goal

pub passage_length-cost-requires : goal.passage_length-cost-requires
passage_length-cost-requires c = (within c.args.x.layout c.requires.0.aisle.bounds).width.1

pub returns-then-lives : goal.returns-then-lives
returns-then-lives c =
    let relaxed = c.relax_row in
    let cost = c.passage_length-cost in
    let ones = c.permute-then-lives in
    let lengths = c.permute in
    let steps = c.passage_steps-steps in
    let p = c.args in
    let plain = p.plain.now in
    let keys =
    keys_relaxed p.after.now relaxed.new.row p.spared.now relaxed.new.spared lengths.new.perm ones.new.perm plain 0 cost.result p.x.weight
    (plain_below plain p.x.weight c.requires.1) relaxed.ensures in
    passage_relaxed p.x p.after.now p.spared.now p.next.now p.theirs.now steps.result p.passage steps.ensures
    relaxed.new.row relaxed.new.spared _ lengths.new.perm _ ones.new.perm plain cost.result
    c.requires.0.aisle.small cost.ensures.0 c.requires.1 lengths.ensures ones.ensures keys

pub returns-else-lives : goal.returns-else-lives
returns-else-lives c =
    let p = c.args in
    let steps = c.passage_steps-steps in
    passage_skipped p.x p.after.now p.spared.now p.next.now p.theirs.now steps.result p.passage steps.ensures
    (subst (λ b. LivesAs steps.result b) c.if-lives.false c.lives.ensures)
