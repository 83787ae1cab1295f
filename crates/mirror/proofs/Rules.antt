-- The policies' rules on the plan as it is seen from the depot's side.
use Prim.Native.Nat.{ℕ, ◌%◌}
use mathlib.Core.Path.{◌≡◌, refl, sym, ◌∙◌, ap, subst}
use mathlib.Core.Logic.{◌↔◌}
use mathlib.Core.Bool.{cond}
use Rattle.rules.specs.declared.Layout.{Layout}
use Rattle.rules.specs.declared.Action.{Action}
use Rattle.rules.specs.declared.Action.TheVariants.{Void, Bottom, Top, Gap, Once, Twice}
use Rattle.rules.specs.declared.Side.{Side}
use Rattle.rules.specs.declared.Side.TheVariants.{FrontSide, BackSide}
use Rattle.rules.specs.Turned.{turned_height, turned_action, turned_plan, seen_from, passage_from, plan_from}
use Rattle.rules.specs.Plans.{Plan, Fits, WellFormed, action_at, passage_at, entered}
use Rattle.rules.specs.declared.End.{End}
use Rattle.rules.specs.declared.End.TheVariants.{Leftmost, Rightmost}
use Rattle.rules.specs.Policies.{Entered, entered_aisles, First, Last, EnteredAt, WalkedBack, walk_back_end, IsBottom, IsTop, WalkedFrom, TraversalRule, MidpointRule}
use Rattle.rules.proofs.Lists.{sum_map, sum_agree}
use Rattle.mirror.specs.Turned.{other_side}
use Rattle.mirror.proofs.Plans.{action_twice, turned_action_at, turned_passage_at, turned_well_formed}

turned_entered : (cells : ℕ) (a : Action) → entered (turned_action cells a) ≡ entered a
turned_entered cells Void = refl
turned_entered cells (Bottom i) = refl
turned_entered cells (Top i) = refl
turned_entered cells (Gap h i) = refl
turned_entered cells Once = refl
turned_entered cells Twice = refl

turned_count : (cells : ℕ) (plan : Plan) → entered_aisles (turned_plan cells plan) ≡ entered_aisles plan
unfolding entered_aisles
turned_count cells plan =
    sum_map (λ a. cond (entered a) 1 0) (turned_action cells) plan.actions
    ∙ sum_agree (λ a. cond (entered (turned_action cells a)) 1 0) (λ a. cond (entered a) 1 0) plan.actions (λ a m. rw (turned_entered cells a))

-- two plans that enter the same aisles
pub record Alike (p q : Plan) : Type 0 where
  pub at : (j : ℕ) → entered (action_at q j) ≡ entered (action_at p j)
  pub count : entered_aisles q ≡ entered_aisles p

alike_back : {p q : Plan} → Alike p q → Alike q p
alike_back a = record { at = λ j. sym (a.at j); count = sym a.count }

pub turned_alike : (cells : ℕ) (plan : Plan) → Alike plan (turned_plan cells plan)
turned_alike cells plan = record { at = λ j. rw (turned_action_at cells plan j) (turned_entered cells (action_at plan j)); count = turned_count cells plan }

module _ {p q : Plan} (same : Alike p q) where
  enters : (j : ℕ) → Entered q j → Entered p j
  unfolding Entered
  enters j e = sym (same.at j) ∙ e

  enters_back : (j : ℕ) → Entered p j → Entered q j
  unfolding Entered
  enters_back j e = same.at j ∙ e

  first : (j : ℕ) → First q j → First p j
  unfolding First
  first j (e, none) = (enters j e, λ i l g. none i l (enters_back i g))

  last : (j : ℕ) → Last q j → Last p j
  unfolding Last
  last j (e, none) = (enters j e, λ i l g. none i l (enters_back i g))

  at_end_lem : (end : End) (j : ℕ) → EnteredAt end q j → EnteredAt end p j
  at_end_lem Leftmost j e = first j e
  at_end_lem Rightmost j e = last j e

-- a rule carried from one plan to another that enters the same aisles
pub carry_midpoint : {p q : Plan} {s t : Side} {B D : ℕ → Action → Type 0} → Alike p q
    → ((j : ℕ) → WalkedFrom s (action_at p j) → WalkedFrom t (action_at q j))
    → ((j : ℕ) → action_at p j ≡ Once → action_at q j ≡ Once)
    → ((j : ℕ) → B j (action_at p j) → D j (action_at q j))
    → MidpointRule s B p → MidpointRule t D q
carry_midpoint same walked once between rule =
    record {
      single = λ n j e. walked j (rule.single (sym same.count ∙ n) j (enters same j e));
      first = λ n j f. once j (rule.first (λ c. n (same.count ∙ c)) j (first same j f));
      last = λ n j l. once j (rule.last (λ c. n (same.count ∙ c)) j (last same j l));
      between = λ n i j k f l low high. between j (rule.between (λ c. n (same.count ∙ c)) i j k (first same i f) (last same k l) low high);
    }

pub carry_traversal : {p q : Plan} {s t : Side} {z y : Layout} → Alike p q → walk_back_end y ≡ walk_back_end z
    → ((j : ℕ) → WalkedFrom s (action_at p j) → WalkedFrom t (action_at q j))
    → ((j : ℕ) → action_at p j ≡ Once → action_at q j ≡ Once)
    → TraversalRule s z p → TraversalRule t y q
carry_traversal {p} {q} {z = z} {y = y} same end walked once rule =
    record {
      even = λ n j e. once j (rule.even (sym (ap (λ c. c % 2) same.count) ∙ n) j (enters same j e));
      odd_walked_back = λ n j w. walked j (rule.odd_walked_back (sym (ap (λ c. c % 2) same.count) ∙ n) j (to j w));
      odd_others = λ n j e other. once j (rule.odd_others (sym (ap (λ c. c % 2) same.count) ∙ n) j (enters same j e) (λ w. other (fro j w)));
    }
  where
    to : (j : ℕ) → WalkedBack y q j → WalkedBack z p j
    to j w = at_end_lem same (walk_back_end z) j (subst (λ (e : End). EnteredAt e q j) end w)

    fro : (j : ℕ) → WalkedBack z p j → WalkedBack y q j
    fro j w = subst (λ (e : End). EnteredAt e q j) (sym end) (at_end_lem (alike_back same) (walk_back_end z) j w)

-- turned BOTTOM is TOP and TOP is BOTTOM
pub turned_walked : (side : Side) (cells : ℕ) (a : Action) → WalkedFrom side a → WalkedFrom (other_side side) (turned_action cells a)
unfolding IsBottom IsTop
turned_walked FrontSide cells a (i, e) = (turned_height cells i, ap (turned_action cells) e)
turned_walked BackSide cells a (i, e) = (turned_height cells i, ap (turned_action cells) e)

pub seen_formed : (side : Side) (z : Layout) (plan : Plan) → WellFormed z plan → WellFormed z (plan_from side z.cells plan)
seen_formed FrontSide z plan wf = wf
seen_formed BackSide z plan wf = turned_well_formed plan (record { cells = refl; aisles = refl }) wf

pub seen_action_at : (side : Side) (cells : ℕ) (plan : Plan) (j : ℕ) → action_at (plan_from side cells plan) j ≡ seen_from side cells (action_at plan j)
seen_action_at FrontSide cells plan j = refl
seen_action_at BackSide cells plan j = turned_action_at cells plan j

pub seen_passage_at : (side : Side) (cells : ℕ) (plan : Plan) (j : ℕ) → passage_at (plan_from side cells plan) j ≡ passage_from side (passage_at plan j)
seen_passage_at FrontSide cells plan j = refl
seen_passage_at BackSide cells plan j = turned_passage_at cells plan j

pub seen_twice : (side : Side) (cells : ℕ) (a : Action) → Fits cells a → seen_from side cells (seen_from side cells a) ≡ a
seen_twice FrontSide cells a fits = refl
seen_twice BackSide cells a fits = action_twice cells a fits

seen_alike : (side : Side) (cells : ℕ) (plan : Plan) → Alike plan (plan_from side cells plan)
seen_alike FrontSide cells plan = record { at = λ j. refl; count = refl }
seen_alike BackSide cells plan = turned_alike cells plan

-- from its own side every walked-back aisle is BOTTOM
seen_walked : (side : Side) (cells : ℕ) (a : Action) → WalkedFrom side a → IsBottom (seen_from side cells a)
seen_walked FrontSide cells a w = w
seen_walked BackSide cells a w = turned_walked BackSide cells a w

walked_seen : (side : Side) (cells : ℕ) (a : Action) → Fits cells a → IsBottom (seen_from side cells a) → WalkedFrom side a
walked_seen FrontSide cells a fits w = w
walked_seen BackSide cells a fits w = subst IsTop (action_twice cells a fits) (turned_walked FrontSide cells (turned_action cells a) w)

seen_once : (side : Side) (cells : ℕ) (a : Action) → a ≡ Once → seen_from side cells a ≡ Once
seen_once FrontSide cells a e = e
seen_once BackSide cells a e = ap (turned_action cells) e

module _ (side : Side) (z : Layout) (plan : Plan) (wf : WellFormed z plan) where
  abbrev seen : Plan
  seen = plan_from side z.cells plan

  walked_to : (j : ℕ) → WalkedFrom side (action_at plan j) → WalkedFrom FrontSide (action_at seen j)
  walked_to j w = subst IsBottom (sym (seen_action_at side z.cells plan j)) (seen_walked side z.cells (action_at plan j) w)

  walked_from : (j : ℕ) → WalkedFrom FrontSide (action_at seen j) → WalkedFrom side (action_at plan j)
  walked_from j w = walked_seen side z.cells (action_at plan j) (wf.fits j) (subst IsBottom (seen_action_at side z.cells plan j) w)

  once_to : (j : ℕ) → action_at plan j ≡ Once → action_at seen j ≡ Once
  once_to j e = seen_action_at side z.cells plan j ∙ seen_once side z.cells (action_at plan j) e

  again : (j : ℕ) → seen_from side z.cells (action_at seen j) ≡ action_at plan j
  again j = ap (seen_from side z.cells) (seen_action_at side z.cells plan j) ∙ seen_twice side z.cells (action_at plan j) (wf.fits j)

  once_from : (j : ℕ) → action_at seen j ≡ Once → action_at plan j ≡ Once
  once_from j e = sym (again j) ∙ seen_once side z.cells (action_at seen j) e

  -- TRAVERSAL's rule at a side is its rule at the front of the plan as it is seen
  pub traversal_seen : TraversalRule FrontSide z seen ↔ TraversalRule side z plan
  traversal_seen = (
    (λ r. carry_traversal {s = FrontSide} {t = side} (alike_back (seen_alike side z.cells plan)) refl walked_from once_from r),
    (λ r. (carry_traversal {s = side} {t = FrontSide} (seen_alike side z.cells plan) refl walked_to once_to r)),
  )

  -- and so with MIDPOINT and LARGEST, with any test for aisles between, asked of the action itself
  pub midpoint_seen : (B : ℕ → Action → Type 0) → MidpointRule FrontSide (λ j a. B j (seen_from side z.cells a)) seen ↔ MidpointRule side B plan
  midpoint_seen B = (
    (λ r. carry_midpoint {s = FrontSide} {t = side} {B = λ j a. B j (seen_from side z.cells a)} {D = B} (alike_back (seen_alike side z.cells plan)) walked_from once_from
        (λ j b. subst (B j) (again j) b) r),
    (λ r. (carry_midpoint {s = side} {t = FrontSide} {B = B} {D = λ j a. B j (seen_from side z.cells a)} (seen_alike side z.cells plan) walked_to once_to
        (λ j b. subst (B j) (sym (again j)) b) r)),
  )
