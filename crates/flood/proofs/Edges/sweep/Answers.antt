use Rattle.std.proofs.Common.{ℕ, ◌-◌, ◌≡◌, refl, ap, ◌∙◌, arith}
use Rattle.flood.specs.Flooded.{swept_up, swept_down}
use Rattle.flood.proofs.Flooding.{swept_none, swept_more, swept_again, swept_to, up_more, down_more}
use Rattle.flood.proofs.Edges.sweep.Goals as goal

pub loop-at-init : goal.loop-at-init
loop-at-init c =
    let x = c.args in
    (swept_none x.self.now.left.now x.self.now.end x.self.now.ranged 26 (omega arith) x.seen.now, omega arith, omega arith, refl)

pub loop-at-preserved : goal.loop-at-preserved
loop-at-preserved c =
    let x = c.args in
    let t = x.self.now.ranged.top in
    let i = c.loop-at.invariant in
    let s = c.spread-news in (
      swept_more x.self.now.left.now x.self.now.end x.self.now.ranged c.loop-at.at (omega arith) c.loop-at.news s.result c.requires i.0 s.ensures.seen_after s.ensures.news,
      omega (arith, i.1),
      omega (arith, i.1, c.loop-at-test.true),
      up_more x.self.now.left.now c.loop-at.at x.seen.now i.1 i.3 s.ensures.seen_after,
    )

pub loop-at-2-init : goal.loop-at-2-init
loop-at-2-init c =
    let x = c.args in
    let left = x.self.now.left.now in
    let i = c.loop-at.invariant in
    let all : c.loop-at.at - 26 ≡ x.self.now.end - 26 = omega (arith, i.2, c.loop-at-test.false) in (
      swept_to left x.self.now.end x.self.now.ranged c.loop-at.at c.loop-at-test.false c.loop-at.news i.0,
      ap (swept_down left (x.self.now.end - 26)) (i.3 ∙ ap (λ (n : ℕ). swept_up left n x.seen.now) all),
    )

pub loop-at-2-preserved : goal.loop-at-2-preserved
loop-at-2-preserved c =
    let x = c.args in
    let t = x.self.now.ranged.top in
    let at = c.loop-at-2.at in
    let i = c.loop-at-2.invariant in
    let s = c.spread-news-in-loop-at-2 in (
      swept_again x.self.now.left.now x.self.now.end x.self.now.ranged (at - 1) (omega arith) c.loop-at-2.news s.result c.requires i.0 s.ensures.seen_after s.ensures.news,
      down_more x.self.now.left.now at c.loop-at-2.seen (omega (arith, c.loop-at-2-test.true)) i.1 s.ensures.seen_after,
    )

pub returns-clause-seen_after : goal.returns-clause-seen_after
returns-clause-seen_after c =
    let none : 0 ≡ c.loop-at-2.at - 26 = omega (arith, c.loop-at-2-test.false) in
    ap (λ (n : ℕ). swept_down c.args.self.now.left.now n c.loop-at-2.seen) none ∙ c.loop-at-2.invariant.1

pub returns-clause-grown : goal.returns-clause-grown
returns-clause-grown c = c.loop-at-2.invariant.0
