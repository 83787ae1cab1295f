-- TRAVERSAL's own rule, aisle by aisle.
use Prim.Native.Nat.{ℕ, ◌+◌, ◌*◌, ◌%◌, ◌≤◌, ◌<◌}
use native.Mathlib.Omega.{arith}
use native.Mathlib.Nat.{eq-or-lt_of_le}
use mathlib.Core.Path.{◌≡◌, refl, sym, ap, ap₂, ◌∙◌, subst}
use mathlib.Core.Logic.{◌⊎◌, inl, inr}
use mathlib.Core.Bool.{Bool, true, false, cond, ◌&&◌}
use lib.Dec.{ltb, eqb}
use borrow.Author.Tests.{eqb-true, eqb-false, eq-eqb, ne_eqb}
use Rattle.rules.specs.declared.Layout.{Layout}
use Rattle.rules.specs.declared.Side.{Side}
use Rattle.rules.specs.Plans.{Plan, action_at}
use Rattle.rules.specs.declared.End.TheVariants.{Leftmost, Rightmost}
use Rattle.rules.specs.Policies.{Entered, First, Last, EnteredAt, WalkedBack, entered_aisles, TraversalRule}
use Rattle.values.specs.declared.PlanValue.{PlanValue}
use Rattle.values.specs.Values.{plan_of}
use Rattle.annex_plans.specs.OfStore.{PlanFor}
use Rattle.annex_policy.specs.declared.row.Row.{Row}
use Rattle.annex_policy.specs.Rows.{RowTo, WalksAs}
use Rattle.annex_policy.proofs.RowLaws.{inside, row_count, row_first_is, row_last_is, one_first, one_last}

-- the aisles up to n walk as TRAVERSAL asks, by whether their number is odd and the one walked back
abbrev pub WalkTo : Side → Plan → Bool → ℕ → ℕ → Type 0
WalkTo side plan odd back n = (j : ℕ) → 1 ≤ j → j ≤ n → WalksAs side (action_at plan j) (odd && eqb j back)

-- one aisle more
pub walk_more : (side : Side) (plan : Plan) (odd : Bool) (back n : ℕ)
    → WalkTo side plan odd back n
    → WalksAs side (action_at plan (n + 1)) (odd && eqb (n + 1) back)
    → WalkTo side plan odd back (n + 1)
walk_more side plan odd back n f g j l h = go (eq-or-lt_of_le h)
  where
    go : (j ≡ n + 1) ⊎ (j < n + 1) → WalksAs side (action_at plan j) (odd && eqb j back)
    go (inl e) = subst (λ i. WalksAs side (action_at plan i) (odd && eqb i back)) (sym e) g
    go (inr k) = f j l (omega arith)

module _ (z : Layout) (v : PlanValue) (p : PlanFor z v) (row : Row) (t : RowTo (plan_of v) v.aisles row) where
  abbrev plan : Plan
  plan = plan_of v

  -- the row counts all entered aisles
  count : row.entered ≡ entered_aisles plan
  count = row_count z v p row t

  -- the aisle that TRAVERSAL walks back, by the row
  abbrev pub back : ℕ
  back = cond (ltb (z.aisles + 1) (2 * z.depot)) row.first row.last

  -- where one is entered it is the one
  back_is : (j : ℕ) → Entered plan j → WalkedBack z plan back
  back_is j e = go (ltb (z.aisles + 1) (2 * z.depot))
    where
      go : (b : Bool) → EnteredAt (cond b Leftmost Rightmost) plan (cond b row.first row.last)
      go true = row_first_is z v p row t j e
      go false = row_last_is z v p row t j e

  -- there is no other
  back_only : (j : ℕ) → Entered plan j → WalkedBack z plan j → j ≡ back
  back_only j e w = go (ltb (z.aisles + 1) (2 * z.depot)) w
    where
      go : (b : Bool) → EnteredAt (cond b Leftmost Rightmost) plan j → j ≡ cond b row.first row.last
      go true f = one_first plan j row.first f (row_first_is z v p row t j e)
      go false f = one_last plan j row.last f (row_last_is z v p row t j e)

  -- it is entered
  back_entered : (j : ℕ) → WalkedBack z plan j → Entered plan j
  back_entered j w = go (ltb (z.aisles + 1) (2 * z.depot)) w
    where
      go : (b : Bool) → EnteredAt (cond b Leftmost Rightmost) plan j → Entered plan j
      go true f = (unfold First in f.0)
      go false f = (unfold Last in f.0)

  -- whether the number of entered aisles is odd
  abbrev pub odd : Bool
  odd = eqb (row.entered % 2) 1

  -- as the rule says it
  is_odd : entered_aisles plan % 2 ≡ 1 → odd ≡ true
  is_odd c = eq-eqb (row.entered % 2) 1 (ap (λ n. n % 2) count ∙ c)

  -- every aisle of the store walks as TRAVERSAL asks
  abbrev pub AllWalk : Side → Type 0
  AllWalk side = WalkTo side plan odd back v.aisles

  -- by the rule they do
  pub rule_walks : (side : Side) → TraversalRule side z plan → AllWalk side
  unfolding Entered
  rule_walks side r j l h = go odd refl (eqb j back) refl
    where
      uneven : odd ≡ true → entered_aisles plan % 2 ≡ 1
      uneven o = sym (ap (λ n. n % 2) count) ∙ eqb-true (row.entered % 2) 1 o

      go : (o : Bool) → odd ≡ o → (k : Bool) → eqb j back ≡ k → WalksAs side (action_at plan j) (o && k)
      go false p k q = λ e. r.even (omega (arith, count, eqb-false (row.entered % 2) 1 p)) j e
      go true p true q = λ e. r.odd_walked_back (uneven p) j (subst (WalkedBack z plan) (sym (eqb-true j back q)) (back_is j e))
      go true p false q = λ e. r.odd_others (uneven p) j e (λ w. eqb-false j back q (back_only j e w))

  -- and that is the rule
  pub walks_rule : (side : Side) → AllWalk side → TraversalRule side z plan
  unfolding Entered
  walks_rule side f =
      record {
        even = λ c j e. (
            let o : odd ≡ false = ne_eqb (row.entered % 2) 1 (λ q. omega (arith, ap (λ n. n % 2) count, c, q)) in
            walks j e false (ap (λ b. b && eqb j back) o) e
            );
        odd_walked_back = λ c j b. (
            let e = back_entered j b in
            walks j e true (ap₂ ◌&&◌ (is_odd c) (eq-eqb j back (back_only j e b))) e
            );
        odd_others = λ c j e n. (
            let other : eqb j back ≡ false = ne_eqb j back (λ q. n (subst (WalkedBack z plan) (sym q) (back_is j e))) in
            walks j e false (ap₂ ◌&&◌ (is_odd c) other) e
            );
      }
    where
      walks : (j : ℕ) → Entered plan j → (b : Bool) → odd && eqb j back ≡ b → WalksAs side (action_at plan j) b
      walks j e b q = subst (WalksAs side (action_at plan j)) q (f j (inside v j e).0 (inside v j e).1)
