-- `flood::Edges::spread` meets its contract: the two edges of the point, one after the other.
use Rattle.std.proofs.Common.{◌+◌, ap, ◌∙◌}
use lib.ListN.{get_or}
use Rattle.flood.specs.Flooded.{spread_edge, spread_at}
use Rattle.flood.proofs.Flooding.{news_join}
use Rattle.flood.proofs.Edges.spread.Goals as goal

pub returns-clause-seen_after : goal.returns-clause-seen_after
unfolding spread_at
returns-clause-seen_after c =
    let x = c.args in
    c.spread_edge-across.ensures.seen_after ∙ ap (spread_edge (get_or x.self.now.left.now (442 + x.at) 0) x.at (x.at + 26)) c.spread_edge-along.ensures.seen_after

pub returns-clause-news : goal.returns-clause-news
returns-clause-news c =
    let s = c.spread_edge-along in
    let t = c.spread_edge-across in
    news_join c.args.self.now.left.now c.args.seen.now s.new.seen t.new.seen s.result t.result s.ensures.fewer t.ensures.fewer s.ensures.news t.ensures.news
