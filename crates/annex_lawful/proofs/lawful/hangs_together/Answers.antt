-- `annex_lawful::lawful::hangs_together` meets its contract: the flood from the depot's number reaches all treads of the plan's list.
use Prim.Native.Nat.{ℕ, ◌+◌, ◌*◌}
use native.Mathlib.Omega.{arith}
use mathlib.Core.Path.{◌≡◌, refl, sym, subst, subst₂}
use mathlib.Core.List.{List}
use mathlib.Core.Bool.{true}
use mathlib.Core.Logic.{◌↔◌}
use Rattle.flood.specs.Flooded.{AllReached, Ranged}
use Rattle.treads.proofs.Filled.{plan_list}
use Rattle.annex_plans.proofs.Ranges.{plan_range}
use Rattle.annex_lawful.proofs.LawfulLaws.{treads_ranged, depot_below, reached_together}
use Rattle.annex_lawful.proofs.lawful.hangs_together.Goals as goal

pub fill-requires : goal.fill-requires
fill-requires c =
    let r = plan_range c.args.z c.args.plan c.requires in
    (r.1, r.0, refl)

pub depot_number-requires : goal.depot_number-requires
depot_number-requires c = c.requires.bounds

-- the store has at most 16 aisles
pub overflow_add-z : goal.overflow_add-z
overflow_add-z c = omega (arith, (plan_range c.args.z c.args.plan c.requires).0)

pub overflow_mul-z : goal.overflow_mul-z
overflow_mul-z c = omega (arith, (plan_range c.args.z c.args.plan c.requires).0)

-- where the flood is called
pub reaches-requires : goal.reaches-requires
reaches-requires c =
    -- the list is that of the plan's treads
    let filled : c.fill.new.left ≡ plan_list c.args.z c.args.plan = c.fill.ensures in
    let below = depot_below c.args.z c.args.plan c.requires in
    let ranged = treads_ranged c.args.z c.args.plan c.requires in
    (omega (arith, c.depot_number.ensures, below), subst (λ (l : List ℕ). Ranged l (26 * (c.args.z.aisles + 1))) (sym filled) ranged)

pub returns : goal.returns
returns c =
    let filled : c.fill.new.left ≡ plan_list c.args.z c.args.plan = c.fill.ensures in
    let t = reached_together c.args.z c.args.plan c.requires in
    let r = subst₂ (λ (l : List ℕ) (n : ℕ). (c.reaches.result ≡ true) ↔ AllReached l n) filled c.depot_number.ensures c.reaches.ensures in
    (λ e. t.0 (r.0 e), λ j. r.1 (t.1 j))
