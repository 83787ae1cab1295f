-- `annex_policy::middle::keeps_between` meets its contract: kind by kind the action turns at the two heights between which it leaves its aisle untrodden.
use Prim.Native.Nat.{ℕ, ◌≤◌}
use native.Mathlib.Omega.{arith}
use native.Mathlib.Numerals.{add-one}
use mathlib.Core.Path.{◌≡◌, refl, sym, ap, subst, ◌∙◌}
use mathlib.Core.Bool.{Bool, false}
use mathlib.Core.Logic.{inl, inr}
use Rattle.rules.specs.declared.Action.{Action}
use Rattle.rules.specs.declared.Action.TheVariants.{Void, Bottom, Top, Gap, Once, Twice}
use Rattle.rules.specs.Jobs.{Job}
use Rattle.rules.specs.Plans.{Fits}
use Rattle.rules.specs.Policies.{through}
use Rattle.rules.proofs.Stops.{gap_from, gap_to}
use Rattle.between.specs.declared.Between.{Between}
use Rattle.between.specs.Between.{allows_turns, between_of}
use Rattle.annex_policy.specs.Middle.{between_said}
use Rattle.annex_policy.proofs.MiddleLaws.{keeps_said, through_said}
use Rattle.annex_policy.proofs.middle.keeps_between.Goals as goal

-- what the arrays say of an action that is walked there and back is what the test says
kept : (cells : ℕ) (b : Between) (x a : Action) (r : Bool)
    → cells ≤ 24
    → Fits cells x
    → x ≡ a
    → through a ≡ false
    → r ≡ allows_turns b (gap_from a) (gap_to cells a)
    → (gaps : Bool) (job : Job) (j : ℕ) → b ≡ between_of gaps job j → cells ≡ job.layout.cells → r ≡ between_said gaps job j x
kept cells b x a r small fits told back e gaps job j f g =
    e
    ∙ keeps_said gaps job j cells b a f g small (subst (Fits cells) told fits) back
    ∙ sym (ap (between_said gaps job j) told)

pub allows-requires-in-Bottom : goal.allows-requires-in-Bottom
allows-requires-in-Bottom c =
    let h = subst (Fits c.args.cells) c.in-Bottom.is c.requires.1 in
    (omega (arith, h.1, c.requires.0), omega (arith, c.requires.0))

pub allows-requires-in-Top : goal.allows-requires-in-Top
allows-requires-in-Top c =
    let h = subst (Fits c.args.cells) c.in-Top.is c.requires.1 in
    (omega arith, omega (arith, h.1, c.requires.0))

pub allows-requires-in-Gap : goal.allows-requires-in-Gap
allows-requires-in-Gap c =
    let h = subst (Fits c.args.cells) c.in-Gap.is c.requires.1 in
    (omega (arith, h.1, h.2, c.requires.0), omega (arith, h.2, c.requires.0))

pub returns-in-Void : goal.returns-in-Void
returns-in-Void c =
    let x = c.args in
    kept x.cells x.b x.action Void c.allows.result c.requires.0 c.requires.1 c.in-Void.is refl (c.allows.ensures ∙ ap (allows_turns x.b 0) (add-one x.cells))

pub returns-in-Bottom : goal.returns-in-Bottom
returns-in-Bottom c =
    let x = c.args in
    let i = c.in-Bottom.i in
    let r = c.allows-in-Bottom in
    kept x.cells x.b x.action (Bottom i) r.result c.requires.0 c.requires.1 c.in-Bottom.is refl (r.ensures ∙ ap (allows_turns x.b i) (add-one x.cells))

pub returns-in-Top : goal.returns-in-Top
returns-in-Top c =
    let x = c.args in
    let r = c.allows-in-Top in
    kept x.cells x.b x.action (Top c.in-Top.i) r.result c.requires.0 c.requires.1 c.in-Top.is refl r.ensures

pub returns-in-Gap : goal.returns-in-Gap
returns-in-Gap c =
    let x = c.args in
    let r = c.allows-in-Gap in
    kept x.cells x.b x.action (Gap c.in-Gap.h c.in-Gap.i) r.result c.requires.0 c.requires.1 c.in-Gap.is refl r.ensures

pub returns-in-Once : goal.returns-in-Once
returns-in-Once c =
    λ gaps job j e f. elim c.in-Once.is [
      | inl e ↦ through_said gaps job j Once refl ∙ sym (ap (between_said gaps job j) e)
      | inr e ↦ through_said gaps job j Twice refl ∙ sym (ap (between_said gaps job j) e)
    ]
