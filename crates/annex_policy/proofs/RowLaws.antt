-- The row of entered aisles, aisle by aisle; that of all aisles is that of the plan.
use Prim.Native.Nat.{ℕ, zero, suc, ◌+◌, ◌≤◌, ◌<◌}
use native.Mathlib.Omega.{arith}
use native.Mathlib.Nat.{eq-or-lt_of_le}
use mathlib.Core.Path.{◌≡◌, refl, sym, ap, ◌∙◌, subst}
use mathlib.Core.Logic.{◌⊎◌, inl, inr}
use mathlib.Core.Bool.{Bool, true, false, cond, true≢false}
use Rattle.rules.specs.declared.Layout.{Layout}
use Rattle.rules.specs.declared.Action.{Action}
use Rattle.rules.specs.declared.Action.TheVariants.{Void}
use Rattle.rules.specs.Lists.{from, sum_of}
use Rattle.rules.specs.Plans.{Plan, WellFormed, action_at, entered}
use Rattle.rules.specs.Policies.{Entered, First, Last, entered_aisles}
use Rattle.rules.proofs.Lists.{sum_places, sum_from_append}
use Rattle.values.specs.declared.PlanValue.{PlanValue}
use Rattle.values.specs.Values.{plan_of}
use Rattle.closedwalks.proofs.Splits.{none_or_some, below_or_from}
use Rattle.annex_plans.specs.OfStore.{PlanFor}
use Rattle.annex_policy.specs.declared.row.Row.{Row}
use Rattle.annex_policy.specs.Rows.{entered_to, LastTo, RowTo}
use Rattle.annex_policy.proofs.RuleLaws.{action_outside}

-- the row of no aisle
pub row_none : (plan : Plan) → RowTo plan 0 (record { entered = 0; first = 0; last = 0 })
row_none plan =
    record {
      count = refl;
      few = omega arith;
      none = λ e j l h. absurd (omega arith);
      first = λ h. absurd (omega arith);
      last = λ h. absurd (omega arith);
    }

module _ (plan : Plan) (i : ℕ) (row : Row) (t : RowTo plan i row) where
  -- the next aisle is not entered
  module _ (v : entered (action_at plan (suc i)) ≡ false) where
    -- as said
    void : entered (action_at plan (suc i)) ≡ false
    void = v

    -- not entered
    idle : Entered plan (suc i) → ⊥
    unfolding Entered
    idle e = true≢false (sym e ∙ void)

    -- so none is entered up to it where none is before it
    split : (j : ℕ) → j ≤ suc i → (j ≤ i → Entered plan j → ⊥) → Entered plan j → ⊥
    split j h f e = go (eq-or-lt_of_le h)
      where
        go : (j ≡ suc i) ⊎ (j < suc i) → ⊥
        go (inl q) = idle (subst (Entered plan) q e)
        go (inr l) = f (omega arith) e

    -- the row stays
    pub row_idle : RowTo plan (suc i) row
    row_idle =
        record {
          count = t.count ∙ rw void (omega arith);
          few = let f = t.few in omega arith;
          none = λ e j l h. split j h (t.none e j l);
          first = λ p. (let f = t.first p in record { low = f.low; high = (let h = f.high in omega arith); is = f.is; before = f.before });
          last = λ p. (let f = t.last p in record { low = f.low; high = (let h = f.high in omega arith); is = f.is; behind = λ j l h. split j h (f.behind j l) });
        }

  -- the next aisle is entered
  module _ (v : entered (action_at plan (suc i)) ≡ true) where
    -- as said
    does : Entered plan (suc i)
    unfolding Entered
    does = v

    -- there is one more
    more : entered_to plan (suc i) ≡ entered_to plan i + 1
    unfolding Entered
    more = let w = does in rw w refl

    -- and it is the last
    newest : (r : Row) → r.last ≡ suc i → LastTo plan (suc i) r.last
    newest r e = record { low = omega (arith, e); high = omega (arith, e); is = subst (Entered plan) (sym e) does; behind = λ j l h. absurd (omega (arith, e, l, h)) }

    -- the first too, where there was none
    pub row_first : row.entered ≡ 0 → RowTo plan (suc i) (record { entered = 1; first = suc i; last = suc i })
    row_first e =
        record {
          count = omega (arith, more, t.count, e);
          few = omega arith;
          none = λ z. absurd (omega arith);
          first = λ p. record { low = omega arith; high = omega arith; is = does; before = λ j l h. t.none e j l (omega arith) };
          last = λ p. newest (record { entered = 1; first = suc i; last = suc i }) refl;
        }

    -- where there were some the first stays
    pub row_more : (row.entered ≡ 0 → ⊥) → RowTo plan (suc i) (record { entered = row.entered + 1; first = row.first; last = suc i })
    row_more n =
        let f = t.first (omega (arith, n)) in
        record {
          count = omega (arith, more, t.count);
          few = omega (arith, t.few);
          none = λ z. absurd (omega arith);
          first = λ p. record { low = f.low; high = omega (arith, f.high); is = f.is; before = f.before };
          last = λ p. newest (record { entered = row.entered + 1; first = row.first; last = suc i }) refl;
        }

-- the same of aisle j
module _ (plan : Plan) (i j : ℕ) (row : Row) (a : Action) (e : j ≡ i + 1) (t : RowTo plan i row) (same : a ≡ action_at plan j) (k : Bool) (q : k ≡ entered a) where
  -- it is the next
  at : j ≡ suc i
  at = omega arith

  -- and entered or not as that
  enters : k ≡ entered (action_at plan (suc i))
  enters = q ∙ ap entered same ∙ ap (λ n. entered (action_at plan n)) at

  -- VOID
  pub with_idle : k ≡ false → RowTo plan j row
  with_idle z = subst (λ n. RowTo plan n row) (sym at) (row_idle plan i row t (sym enters ∙ z))

  -- the first that is entered
  pub with_first : k ≡ true → row.entered ≡ 0 → RowTo plan j (record { entered = 1; first = j; last = j })
  with_first n z = subst (λ m. RowTo plan m (record { entered = 1; first = m; last = m })) (sym at) (row_first plan i row t (sym enters ∙ n) z)

  -- a later one
  pub with_more : k ≡ true → (row.entered ≡ 0 → ⊥) → RowTo plan j (record { entered = row.entered + 1; first = row.first; last = j })
  with_more n z = subst (λ m. RowTo plan m (record { entered = row.entered + 1; first = row.first; last = m })) (sym at) (row_more plan i row t (sym enters ∙ n) z)

-- the number of entered aisles, added up
entered_sum : (plan : Plan) (n : ℕ) → entered_to plan n ≡ sum_of (λ j. cond (entered (action_at plan j)) 1 0) (from 1 n)
entered_sum plan zero = refl
entered_sum plan (suc n) =
    let f : ℕ → ℕ = λ j. cond (entered (action_at plan j)) 1 0 in
    let e : suc n ≡ n + 1 = omega arith in
    let s = ap (λ m. sum_of f (from 1 m)) e ∙ sum_from_append f 1 (suc n) n 1 (omega arith) in
    omega (arith, entered_sum plan n, s)

-- up to the last aisle it is that of the plan
entered_all : (z : Layout) (plan : Plan) → WellFormed z plan → entered_to plan z.aisles ≡ entered_aisles plan
unfolding entered_aisles action_at
entered_all z plan wf =
    entered_sum plan z.aisles
    ∙ ap (λ n. sum_of (λ j. cond (entered (action_at plan j)) 1 0) (from 1 n)) (sym wf.aisles)
    ∙ sum_places (λ a. cond (entered a) 1 0) Void plan.actions

-- there is one first entered aisle
pub one_first : (plan : Plan) (j k : ℕ) → First plan j → First plan k → j ≡ k
unfolding First
one_first plan j k f g = go (below_or_from j k) (below_or_from k j)
  where
    go : (j < k) ⊎ (k ≤ j) → (k < j) ⊎ (j ≤ k) → j ≡ k
    go (inl l) q = absurd (g.1 j l f.0)
    go (inr l) (inl m) = absurd (f.1 k m g.0)
    go (inr l) (inr m) = omega arith

-- and one last
pub one_last : (plan : Plan) (j k : ℕ) → Last plan j → Last plan k → j ≡ k
unfolding Last
one_last plan j k f g = go (below_or_from j k) (below_or_from k j)
  where
    go : (j < k) ⊎ (k ≤ j) → (k < j) ⊎ (j ≤ k) → j ≡ k
    go (inl l) q = absurd (f.1 k l g.0)
    go (inr l) (inl m) = absurd (g.1 j m f.0)
    go (inr l) (inr m) = omega arith

-- entered aisles are the store's
pub inside : (v : PlanValue) (j : ℕ) → Entered (plan_of v) j → (1 ≤ j) × (j ≤ v.aisles)
unfolding Entered
inside v zero e = absurd (true≢false (sym e ∙ ap entered (action_outside v 0 (inl refl))))
inside v (suc j) e = go (below_or_from v.aisles (suc j))
  where
    go : (v.aisles < suc j) ⊎ (suc j ≤ v.aisles) → (1 ≤ suc j) × (suc j ≤ v.aisles)
    go (inl l) = absurd (true≢false (sym e ∙ ap entered (action_outside v (suc j) (inr l))))
    go (inr l) = (omega arith, l)

-- the row of all aisles of a plan
module _ (z : Layout) (v : PlanValue) (p : PlanFor z v) (row : Row) (t : RowTo (plan_of v) v.aisles row) where
  abbrev plan : Plan
  plan = plan_of v

  -- the row counts them all
  pub row_count : row.entered ≡ entered_aisles plan
  row_count = t.count ∙ ap (entered_to plan) p.aisles ∙ entered_all z plan p.well_formed

  -- where one is entered the row has some
  some_entered : (j : ℕ) → Entered plan j → 0 < row.entered
  some_entered j e = go (none_or_some row.entered)
    where
      go : (row.entered ≡ 0) ⊎ (0 < row.entered) → 0 < row.entered
      go (inl n) = absurd (t.none n j (inside v j e).0 (inside v j e).1 e)
      go (inr l) = l

  -- and its first is the first of all
  pub row_first_is : (j : ℕ) → Entered plan j → First plan row.first
  unfolding First
  row_first_is j e = let f = t.first (some_entered j e) in (f.is, λ i l g. f.before i (inside v i g).0 l g)

  -- its last the last
  pub row_last_is : (j : ℕ) → Entered plan j → Last plan row.last
  unfolding Last
  row_last_is j e = let f = t.last (some_entered j e) in (f.is, λ i l g. f.behind i l (inside v i g).1 g)
