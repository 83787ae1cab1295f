use Rattle.std.proofs.Common.{◌∙◌, subst}
use Rattle.flood.specs.Flooded.{Swept}
use Rattle.flood.proofs.Flooding.{grown_none, grown_on, calm_after, flooded}
use Rattle.flood.proofs.Edges.flood.Goals as goal

pub loop-init : goal.loop-init
loop-init c = let x = c.args in grown_none x.self.now.left.now x.seen.now tt

pub loop-preserved : goal.loop-preserved
loop-preserved c = let x = c.args in grown_on x.self.now.left.now x.self.now.end x.self.now.ranged c.loop.invariant c.sweep.ensures.grown

pub returns : goal.returns
returns c =
    let x = c.args in
    let last = subst (Swept x.self.now.left.now x.self.now.end c.loop.seen c.sweep.new.seen) c.loop-test.false c.sweep.ensures.grown in
    let edges = x.self.now in
    flooded edges.left.now edges.end edges.ranged (grown_on edges.left.now edges.end edges.ranged c.loop.invariant c.sweep.ensures.grown) (calm_after edges.left.now edges.end edges.ranged last)
    (c.sweep.ensures.grown.grown.size ∙ c.loop.invariant.size ∙ c.requires)
