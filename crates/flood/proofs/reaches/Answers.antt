-- `flood::reaches` meets its contract: the flood starts from the one point, and all that is left starts where it came.
use Rattle.flood.proofs.Flooding.{seen_reached}
use Rattle.flood.proofs.reaches.Goals as goal

pub returns : goal.returns
returns c =
    let x = c.args in
    let t = seen_reached x.left.now x.end c.requires.1 x.at c.requires.0 c.flood.ensures in
    let r = c.all_start_at.ensures in
    (λ e. t.0 (r.0 e), λ a. r.1 (t.1 a))
