-- `flood::spread_edge` meets its contract: by whether one of the two points is seen alone.
use Rattle.std.proofs.Common.{inl, inr, refl, arith}
use Rattle.flood.proofs.Flooding.{edge_same, edge_both, edge_news}
use Rattle.flood.proofs.spread_edge.Goals as goal
use Rattle.flood.proofs.spread_edge.Goals.{then-n-eq0-via-then-n-eq0, then-n-eq0-via-else-n-eq0+then-seen-a}

pub returns-then-n-eq0-clause-seen_after : goal.returns-then-n-eq0-clause-seen_after
returns-then-n-eq0-clause-seen_after c =
    let x = c.args in
    edge_same x.n x.a x.b x.seen.now (elim c.then-n-eq0.branch [ then-n-eq0-via-then-n-eq0 w ↦ inl w.if-n-eq0.true | then-n-eq0-via-else-n-eq0+then-seen-a w ↦ inr w.if-seen-a.true ])

pub returns-clause-seen_after : goal.returns-clause-seen_after
returns-clause-seen_after c = let x = c.args in edge_both x.a x.b x.seen.now c.if-seen-a.false x.n c.if-n-eq0.false

pub returns-clause-news : goal.returns-clause-news
returns-clause-news c = let x = c.args in (λ e. edge_news x.a x.b x.seen.now c.if-seen-a.false (c.requires (omega arith)), λ h. refl)

pub returns-clause-fewer : goal.returns-clause-fewer
returns-clause-fewer c = let x = c.args in omega (arith, edge_news x.a x.b x.seen.now c.if-seen-a.false (c.requires (omega arith)))
