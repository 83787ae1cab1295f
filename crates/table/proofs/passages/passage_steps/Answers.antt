use Rattle.std.proofs.Common.{◌≡◌, ◌∙◌, ap, arith}
use Rattle.rules.specs.declared.Side.{Side}
use Rattle.rules.specs.declared.Passage.{Passage}
use Rattle.rules.specs.Turned.{passage_from, seen_passage}
use Rattle.machine.specs.Steps.{cross_of}
use Rattle.machine.specs.States.{state_code, state_of}
use Rattle.table.specs.Crossings.{cross_code}
use Rattle.table.proofs.passages.passage_steps.Goals as goal

pub returns : goal.returns
unfolding cross_code
returns c =
    let p = c.args in
    let seen : c.seen_passage-seen.result ≡ seen_passage p.x.layout p.passage =
    c.seen_passage-seen.ensures ∙ ap (λ (side : Side). passage_from side p.passage) c.side.ensures in
    λ s h. c.loop-s.invariant.1 s (omega arith) ∙ ap (λ (a : Passage). state_code (cross_of p.x.method.policy a p.x.place (state_of s))) seen
