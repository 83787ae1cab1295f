-- `annex_policy::row::walks_as` meets its contract: action by action what is said is what is asked.
use mathlib.Core.Path.{refl}
use mathlib.Core.Bool.{true, false, not}
use mathlib.Core.Logic.{inl, inr}
use Rattle.annex_policy.proofs.KindLaws.{walks_said}
use Rattle.annex_policy.proofs.row.walks_as.Goals as goal

pub returns-in-FrontSide : goal.returns-in-FrontSide
returns-in-FrontSide c = let x = c.args in walks_said x.side x.action x.back true (rw (c.in-Bottom.is, c.if-back.true, c.in-FrontSide.is) refl)

pub returns-in_default : goal.returns-in_default
returns-in_default c = let x = c.args in walks_said x.side x.action x.back false (rw (c.in-Bottom.is, c.if-back.true, c.in_default.is) refl)

pub returns-in-BackSide : goal.returns-in-BackSide
returns-in-BackSide c = let x = c.args in walks_said x.side x.action x.back true (rw (c.in-Top.is, c.if-back-2.true, c.in-BackSide.is) refl)

pub returns-in_default-matches : goal.returns-in_default-matches
returns-in_default-matches c = let x = c.args in walks_said x.side x.action x.back false (rw (c.in-Top.is, c.if-back-2.true, c.in_default-matches.is) refl)

pub returns-in-Once : goal.returns-in-Once
returns-in-Once c = let x = c.args in walks_said x.side x.action x.back (not x.back) (rw c.in-Once.is refl)

pub returns-in-Gap : goal.returns-in-Gap
returns-in-Gap c =
    let x = c.args in
    elim c.in-Gap.is [
      | inl e ↦ walks_said x.side x.action x.back false (rw e.2 refl)
      | inr e ↦ walks_said x.side x.action x.back false (rw e refl)
    ]
