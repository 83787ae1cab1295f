use Prim.Native.Nat.{ℕ}
use native.Mathlib.Omega.{arith}
use native.Mathlib.Numerals.{add-one}
use mathlib.Core.Path.{◌∙◌, ap}
use mathlib.Core.List.{List, map}
use Rattle.std.proofs.lemmas.List.{take_all}
use Rattle.values.specs.declared.Stage.{Stage}
use Rattle.values.specs.Values.{plan_of}
use Rattle.entered.specs.Sets.{entered_set, set_of}
use Rattle.entered.proofs.SetLaws.{set_next}
use Rattle.entered.proofs.entered_set.Goals as goal

pub loop-k-preserved : goal.loop-k-preserved
loop-k-preserved c =
    let loop = c.loop-k in
    rw (add-one loop.k) (c.with_aisle-set.ensures ∙ set_next _ loop.k _ c.loop-k-test.true loop.set loop.invariant)

pub returns : goal.returns
unfolding entered_set plan_of
returns c =
    let set_in : List Stage → ℕ = λ stages. set_of (map (λ (s : Stage). s.action) stages) in
    c.loop-k.invariant ∙ ap set_in (take_all c.loop-k.k _ (omega (arith, c.loop-k-test.false))) ∙ ap set_in c.as_slice-stage-items.ensures
