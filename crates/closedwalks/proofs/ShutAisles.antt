-- A plan that treads no edge of a shut aisle keeps out of it, and so do its walks.
use Prim.Native.Nat.{ℕ, zero, suc}
use native.Mathlib.Omega.{arith}
use mathlib.Core.Path.{◌≡◌, refl, ◌∙◌, ap}
use mathlib.Core.Logic.{inl, inr}
use mathlib.Core.Bool.{false, true≢false}
use Rattle.rules.specs.declared.Layout.{Layout}
use Rattle.rules.specs.declared.Action.TheVariants.{Void}
use Rattle.rules.specs.Store.{along, InStore}
use Rattle.rules.specs.Hours.{Hours, NoHours, is_open}
use Rattle.rules.specs.Plans.{Plan, WellFormed, action_at, aisle_treads, multiplicity}
use Rattle.rules.specs.Walks.{Walk, KeepsToOpen}
use Rattle.rules.specs.FirstWalk.{WalkOf}
use Rattle.rules.specs.Policies.{ShutVoid}
use Rattle.rules.proofs.Lists.{place_beyond}
use Rattle.rules.proofs.EmptyPlan.{untrodden_void, void_told}
use Rattle.closedwalks.proofs.Splits.{below_or_from}

-- the aisles of the store by their treads; there is no other aisle, and the action is VOID there
pub shut_void : (hours : Hours) (z : Layout) (plan : Plan) → WellFormed z plan
    → ((j k : ℕ) → is_open hours j ≡ false → InStore z (along j k) → multiplicity plan (along j k) ≡ 0) → ShutVoid hours plan
unfolding ShutVoid multiplicity action_at InStore
shut_void hours z plan wf untrodden zero shut = refl
shut_void hours z plan wf untrodden (suc j) shut =
    let m = wf.aisles in
    elim (below_or_from j z.aisles) [
      | inl l ↦ void_told (action_at plan (suc j)) (untrodden_void z (action_at plan (suc j)) (wf.fits (suc j)) (λ k h. untrodden (suc j) k shut (omega arith, l, h)))
      | inr l ↦ place_beyond Void plan.actions j (omega arith)
    ]

-- the walks of a plan in which shut aisles are VOID tread no edge of one
pub walk_keeps : (hours : Hours) (z : Layout) (plan : Plan) (walk : Walk) → ShutVoid hours plan → WalkOf z plan walk → KeepsToOpen z hours walk
unfolding ShutVoid KeepsToOpen multiplicity
walk_keeps hours z plan walk void w j k shut i = w.treads (along j k) i ∙ ap (λ a. aisle_treads a k) (void j shut)

-- without the sections M and H every walk keeps to open aisles: none is shut
pub plain_keeps : (z : Layout) (walk : Walk) → KeepsToOpen z NoHours walk
unfolding KeepsToOpen
plain_keeps z walk j k shut i = absurd (true≢false shut)
