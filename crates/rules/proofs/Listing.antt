-- The listed plans are plans of the store, if the listed actions fit.
use Prim.Native.Nat.{ℕ, zero, suc}
use mathlib.Core.Path.{◌≡◌, refl, sym, ap, subst}
use mathlib.Core.List.Memᴰ
use mathlib.Core.List.{List, ◌∷◌, map, Memᴰ}
use mathlib.Core.Bool.{Bool, true, false}
use lib.Dec.{ltb}
use lib.ListN.{length}
use borrow.Author.Tests.{ltb-true, ltb-false}
use Rattle.rules.specs.declared.Layout.{Layout}
use Rattle.rules.specs.declared.Action.{Action}
use Rattle.rules.specs.declared.Action.TheVariants.{Void}
use Rattle.rules.specs.declared.Passage.{Passage}
use Rattle.rules.specs.Lists.{concat_of, nth}
use Rattle.rules.specs.Plans.{Plan, Fits, WellFormed, action_at}
use Rattle.rules.specs.BestPlan.{actions_of, passages_in_order, single, prepend, plans_of}
use Rattle.rules.proofs.Lists.{place_member, place_beyond, member_concat}

-- so many actions that fit, and a passage less
abbrev Sound : ℕ → ℕ → Plan → Type 0
Sound cells m plan =
    (length plan.actions ≡ m) × (suc (length plan.passages) ≡ m) × ((a : Action) → Memᴰ a plan.actions → Fits cells a)

module _ (cells : ℕ) (fit : (a : Action) → Memᴰ a (actions_of cells) → Fits cells a) where
  abbrev plans_from : ℕ → Action → Passage → List Plan
  plans_from n a p = map (prepend a p) (plans_of cells n)

  abbrev plans_with : ℕ → Action → List Plan
  plans_with n a = concat_of (plans_from n a) passages_in_order

  -- one more action in front
  all_fit : (a b : Action) (xs : List Action) → Fits cells b → ((c : Action) → Memᴰ c xs → Fits cells c) → Memᴰ a (b ∷ xs) → Fits cells a
  all_fit a b xs f h (Memᴰ.head e) = subst (Fits cells) (sym e) f
  all_fit a b xs f h (Memᴰ.tail l) = h a l

  sound_from : (m : ℕ) (plan : Plan) → Memᴰ plan (plans_of cells m) → Sound cells m plan
  unfolding single prepend
  sound_from zero plan m = absurd (Memᴰ.not-nil m)
  sound_from (suc zero) plan m =
      let p = Memᴰ.of_map single (actions_of cells) m in
      subst (Sound cells 1) p.2 (refl, refl, λ a l. subst (Fits cells) (sym (Memᴰ.eq_of_singleton l)) (fit p.0 p.1))
  sound_from (suc (suc n)) plan m =
      let p = member_concat (plans_with (suc n)) (actions_of cells) m in
      let q = member_concat (plans_from (suc n) p.0) passages_in_order p.2 in
      let r = Memᴰ.of_map (prepend p.0 q.0) (plans_of cells (suc n)) q.2 in
      let rest = sound_from (suc n) r.0 r.1 in
      subst (Sound cells (suc (suc n))) r.2
      (ap suc rest.0, ap suc rest.1, λ a l. all_fit a p.0 r.0.actions (fit p.0 p.1) rest.2 l)

-- where every action of a list fits, the action of each aisle does
pub nth_fits : (cells : ℕ) (xs : List Action) → ((a : Action) → Memᴰ a xs → Fits cells a) → (j : ℕ) → Fits cells (nth xs j Void)
nth_fits cells xs h zero = tt
nth_fits cells xs h (suc j) = go (ltb j (length xs)) refl
  where
    go : (t : Bool) → ltb j (length xs) ≡ t → Fits cells (nth xs (suc j) Void)
    go true e = h (nth xs (suc j) Void) (place_member Void xs j (ltb-true j (length xs) e))
    go false e = subst (Fits cells) (sym (place_beyond Void xs j (ltb-false j (length xs) e))) tt

-- every listed plan is well_formed
pub listed_sound : (z : Layout) → ((a : Action) → Memᴰ a (actions_of z.cells) → Fits z.cells a)
    → (plan : Plan) → Memᴰ plan (plans_of z.cells z.aisles) → WellFormed z plan
unfolding action_at
listed_sound z fit plan m =
    let s = sound_from z.cells fit z.aisles plan m in
    record { aisles = s.0; passages = s.1; fits = nth_fits z.cells plan.actions s.2 }
