-- Each plan of the test is lawful: the machine closes it off as it is seen from the depot's side, which is computed.
use Prim.Native.Nat.{ℕ, zero, suc}
use native.Mathlib.Omega.{arith}
use mathlib.Core.Path.{◌≡◌, refl}
use mathlib.Core.Logic.{inl}
use mathlib.Core.List.{List, [], ◌∷◌}
use mathlib.Core.Bool.{Bool, true, false, ◌&&◌}
use lib.Dec.{leb, ltb, eqb}
use lib.ListN.{length}
use borrow.Author.Tests.{leb-true, ltb-true, eqb-true}
use Rattle.rules.specs.declared.Layout.{Layout}
use Rattle.rules.specs.declared.Action.{Action}
use Rattle.rules.specs.declared.Action.TheVariants.{Void, Bottom, Top, Gap, Once, Twice}
use Rattle.rules.specs.Lists.{all_of, nth}
use Rattle.rules.specs.declared.Posts.TheVariants.{NoPosts}
use Rattle.rules.specs.Store.{within, layout_in_bounds, side_of}
use Rattle.rules.specs.Plans.{Plan, Fits, WellFormed, action_at, passage_at}
use Rattle.rules.specs.Turned.{seen_plan}
use Rattle.rules.specs.Machine.{State, nothing, closed, at_front, at_back, odd, joined, split, ending, dead}
use Rattle.values.specs.declared.PlanValue.{PlanValue}
use Rattle.values.specs.Values.{plan_of}
use Rattle.mirror.proofs.Lawful.{lawful_seen}
use Rattle.mirror.proofs.Rules.{seen_formed}
use Rattle.tours.specs.Prefixes.{lawful_state}
use Rattle.tours.proofs.Exact.{closed_lawful}
use Rattle.walks.specs.Lawfully.{LawfulPlan}
use Rattle.walks_test.specs.Plans.{store_of, back_depot, mixed, six, two}

-- both parts of a test hold
both : (a b : Bool) → (a && b) ≡ true → (a ≡ true) × (b ≡ true)
both true b h = (refl, h)
both false b h = (h, absurd (let bad : ◌≡◌ {A = ℕ} 0 1 = cc in omega arith))

-- the machine has closed the plan off
abbrev is_closed : State → Bool
is_closed nothing = false
is_closed closed = true
is_closed at_front = false
is_closed at_back = false
is_closed odd = false
is_closed joined = false
is_closed split = false
is_closed ending = false
is_closed dead = false

-- which only one state says
is_closed_lem : (s : State) → is_closed s ≡ true → s ≡ closed
is_closed_lem nothing h = cc
is_closed_lem closed h = refl
is_closed_lem at_front h = cc
is_closed_lem at_back h = cc
is_closed_lem odd h = cc
is_closed_lem joined h = cc
is_closed_lem split h = cc
is_closed_lem ending h = cc
is_closed_lem dead h = cc

-- an action fits into an aisle of that many cells, as a test
abbrev fits_in : ℕ → Action → Bool
fits_in cells Void = true
fits_in cells (Bottom i) = leb 1 i && leb i cells
fits_in cells (Top i) = leb 1 i && leb i cells
fits_in cells (Gap h i) = leb 1 h && ltb h i && leb i cells
fits_in cells Once = true
fits_in cells Twice = true

-- the test says so
fits_in_lem : (cells : ℕ) (a : Action) → fits_in cells a ≡ true → Fits cells a
fits_in_lem cells Void h = tt
fits_in_lem cells (Bottom i) h = let t = both (leb 1 i) (leb i cells) h in (leb-true 1 i t.0, leb-true i cells t.1)
fits_in_lem cells (Top i) h = let t = both (leb 1 i) (leb i cells) h in (leb-true 1 i t.0, leb-true i cells t.1)
fits_in_lem cells (Gap g i) h =
    let t = both (leb 1 g && ltb g i) (leb i cells) h in
    let u = both (leb 1 g) (ltb g i) t.0 in
    (leb-true 1 g u.0, ltb-true g i u.1, leb-true i cells t.1)
fits_in_lem cells Once h = tt
fits_in_lem cells Twice h = tt

-- each action of a list fits
all_fit : (cells : ℕ) (actions : List Action) → all_of (fits_in cells) actions ≡ true → (j : ℕ) → Fits cells (nth actions j Void)
all_fit cells actions h zero = tt
all_fit cells [] h (suc j) = tt
all_fit cells (a ∷ actions) h (suc zero) = fits_in_lem cells a (both (fits_in cells a) (all_of (fits_in cells) actions) h).0
all_fit cells (a ∷ actions) h (suc (suc j)) = all_fit cells actions (both (fits_in cells a) (all_of (fits_in cells) actions) h).1 (suc j)

module _ (z : Layout) (value : PlanValue) where
  abbrev plan : Plan
  plan = plan_of value

  -- as it is seen from the depot's side
  abbrev facing : Plan
  facing = seen_plan z plan

  -- what is computed of a plan: the bounds and the depot, how many actions and passages it has, that they fit, and the machine's end
  abbrev inside : Bool
  inside = layout_in_bounds z && ltb 0 z.depot && eqb value.aisles z.aisles

  abbrev counted : Bool
  counted = eqb (length plan.actions) z.aisles && eqb (suc (length plan.passages)) z.aisles

  abbrev ends : Bool
  ends = is_closed (lawful_state z.depot facing z.aisles)

  abbrev right : Bool
  right = inside && counted && all_of (fits_in z.cells) plan.actions && ends

  -- where all of it is right, the plan is lawful
  lawful_plan : right ≡ true → LawfulPlan z value
  unfolding action_at
  lawful_plan h =
      let e = both (inside && counted && all_of (fits_in z.cells) plan.actions) ends h in
      let f = both (inside && counted) (all_of (fits_in z.cells) plan.actions) e.0 in
      let s = both inside counted f.0 in
      let d = both (layout_in_bounds z && ltb 0 z.depot) (eqb value.aisles z.aisles) s.0 in
      let b = both (layout_in_bounds z) (ltb 0 z.depot) d.0 in
      let n = both (eqb (length plan.actions) z.aisles) (eqb (suc (length plan.passages)) z.aisles) s.1 in
      let aisles = eqb-true (length plan.actions) z.aisles n.0 in
      let passages = eqb-true (suc (length plan.passages)) z.aisles n.1 in
      let formed : WellFormed z plan = record { aisles = aisles; passages = passages; fits = all_fit z.cells plan.actions f.1 } in
      let end = is_closed_lem (lawful_state z.depot facing z.aisles) e.1 in
      let seen = closed_lawful (seen_formed (side_of z) z plan formed) (ltb-true 0 z.depot b.1) end in
      record { bounds = b.0; aisles = eqb-true value.aisles z.aisles d.1; lawful = inl ((lawful_seen z plan formed).0 seen) }

-- the three plans of the test
pub mixed_lawful : LawfulPlan (store_of 4 5 2 NoPosts) mixed
unfolding plan_of layout_in_bounds within action_at passage_at
mixed_lawful = lawful_plan (store_of 4 5 2 NoPosts) mixed refl

pub six_lawful : LawfulPlan (store_of 6 4 6 NoPosts) six
unfolding plan_of layout_in_bounds within action_at passage_at
six_lawful = lawful_plan (store_of 6 4 6 NoPosts) six refl

pub two_lawful : LawfulPlan (store_of 2 2 1 back_depot) two
unfolding plan_of layout_in_bounds within action_at passage_at
two_lawful = lawful_plan (store_of 2 2 1 back_depot) two refl
