-- One plan more is tried: what is kept of n plans and one more.
use Prim.Native.Nat.{ℕ, zero, suc, ◌+◌, ◌≤◌, ◌<◌}
use native.Mathlib.Omega.{arith}
use mathlib.Core.Path.{◌≡◌, refl, sym, ap, ◌∙◌, subst}
use mathlib.Core.Logic.{◌↔◌}
use mathlib.Core.List.{List}
use mathlib.Core.Bool.{Bool, true, false, ◌||◌, true≢false}
use mathlib.Core.Option.{Option, none, some}
use lib.Dec.{ltb}
use lib.Count.{ones}
use lib.ListN.{length, get_or, take}
use lib.Seq.{take_all}
use borrow.Author.Tests.{le-ltb, eq-eqb, ne_eqb}
use Rattle.rules.specs.declared.Layout.{Layout}
use Rattle.rules.specs.Store.{layout_in_bounds}
use Rattle.rules.specs.Jobs.{Job}
use Rattle.rules.specs.Lists.{select}
use Rattle.rules.specs.Plans.{Plan, WellFormed, plan_length}
use Rattle.rules.specs.Policies.{entered_aisles, Allowed}
use Rattle.rules.specs.Serving.{PlanServes}
use Rattle.rules.specs.BestPlan.{plans_of, is_better, first_best}
use Rattle.annex_stock.proofs.Supplies.{at_member}
use Rattle.std.specs.Prelude.{is_none}
use Rattle.std.specs.declared.option.Option.{Option as Maybe}
use Rattle.std.specs.declared.option.Option.TheVariants.{Some, None}
use Rattle.rules.proofs.Enumeration.{enumeration_sound}
use Rattle.closedwalks.proofs.Counts.{layout_bounds}
use Rattle.values.specs.declared.PlanValue.{PlanValue}
use Rattle.values.specs.Values.{plan_of}
use Rattle.annex_plans.specs.Numbered.{no_plan}
use Rattle.annex_plans.specs.OfStore.{PlanFor}
use Rattle.annex_plans.proofs.Numbers.{plans_some}
use Rattle.annex_search.specs.declared.search.Asked.{Asked}
use Rattle.annex_search.specs.declared.search.Kept.{Kept}
use Rattle.annex_search.specs.Keeping.{kept_with}
use Rattle.annex_search.specs.Searched.{Asking, Searching, Tells, kept_plan, improves_on, better, KeptRight, KeptTo, KeptAll}
use Rattle.annex_search.proofs.Kept.{same_test, kept_next, better_ranks}

-- the plan that is kept, or another
abbrev held : Kept → Maybe Kept → Kept
held other None = other
held other (Some kept) = kept

-- something is not nothing
nothing : (kept : Kept) → None ≡ Some kept → ⊥
nothing kept e = true≢false (ap is_none e)

-- the plans of a layout
abbrev pub plans_in : Layout → List Plan
plans_in z = plans_of z.cells z.aisles

module _ {job : Job} {asked : Asked} (s : Searching job asked) where
  -- its store has at most 4 cells, and 1 to 3 aisles
  pub small_layout : (asked.layout.cells ≤ 4) × (1 ≤ asked.layout.aisles) × (asked.layout.aisles ≤ 3)
  small_layout =
      let b = layout_bounds job.layout s.bounds in
      let e = s.asked_of_lem.layout in (
        omega (arith, ap (λ (z : Layout). z.cells) e, s.small.1),
        omega (arith, ap (λ (z : Layout). z.aisles) e, b.2, b.3),
        omega (arith, ap (λ (z : Layout). z.aisles) e, s.small.0),
      )

  module _ (plan : PlanValue) (n : ℕ) (same : plan.aisles ≡ asked.layout.aisles) (at : plan_of plan ≡ get_or (plans_in asked.layout) n no_plan)
      (below : n < length (plans_in asked.layout)) where
    -- plan n of the store is a plan for it
    pub tried_plan : PlanFor asked.layout plan
    tried_plan =
        let z = asked.layout in
        let listed = enumeration_sound z (get_or (plans_in z) n no_plan) (at_member no_plan (plans_in z) n below) in
        record { bounds = ap layout_in_bounds s.asked_of_lem.layout ∙ s.bounds; aisles = same; well_formed = subst (WellFormed z) (sym at) listed }

    -- so the tests may be made of it
    pub tried_asking : Asking job asked plan
    tried_asking = record { asked_of_lem = s.asked_of_lem; plan_for = tried_plan }

    -- and in the job's own layout it is plan n, and well_formed
    pub tried_at_lem : (get_or (plans_in job.layout) n no_plan ≡ plan_of plan) × (n < length (plans_in job.layout)) × WellFormed job.layout (plan_of plan)
    tried_at_lem =
        let e = s.asked_of_lem.layout in (
          sym (at ∙ ap (λ (z : Layout). get_or (plans_in z) n no_plan) e),
          subst (λ (z : Layout). n < length (plans_in z)) e below,
          subst (λ (z : Layout). WellFormed z (plan_of plan)) e tried_plan.well_formed,
        )

module _ (job : Job) (best : Maybe Kept) (n : ℕ) (p : Plan) (k : KeptTo job best n)
    (at : get_or (plans_in job.layout) n no_plan ≡ p) (below : n < length (plans_in job.layout)) (wf : WellFormed job.layout p) where
  -- what is kept with one plan more, by a test that tells
  next : (test : Plan → Bool) → Tells job test
      → first_best (better job) (select test (take (n + 1) (plans_in job.layout))) ≡ kept_with (better job) (kept_plan best) (test p) p
  next test tells =
      let plans = plans_in job.layout in
      kept_next (better job) (better_ranks (plan_length job.layout) entered_aisles) test plans n no_plan below
      ∙ ap (λ (q : Plan). kept_with (better job) (first_best (better job) (select test (take n plans))) (test q) q) at
      ∙ ap (λ o. kept_with (better job) o (test p) p) (sym (k.first test tells))

  -- whether the plan is better than what is kept, if anything is
  abbrev over : Maybe Kept → Bool
  over None = true
  over (Some kept) = better job p (plan_of kept.plan)

  -- the numbers that are kept compare as the plans do
  compares : (o : Maybe Kept) → best ≡ o → improves_on o (plan_length job.layout p) (entered_aisles p) ≡ over o
  unfolding is_better
  compares None e = refl
  compares (Some kept) e = let r = k.right kept e in rw (r.length, r.counted) refl

  -- what is no better than what is kept changes nothing
  pub kept_skip : improves_on best (plan_length job.layout p) (entered_aisles p) ≡ false → KeptTo job best (n + 1)
  kept_skip h = record { right = k.right; first = λ test tells. (stays best (sym (compares best refl) ∙ h) (test p) ∙ sym (next test tells)) }
    where
      stays : (o : Maybe Kept) → over o ≡ false → (t : Bool) → kept_plan o ≡ kept_with (better job) (kept_plan o) t p
      stays None e t = absurd (true≢false e)
      stays (Some kept) e true = rw e refl
      stays (Some kept) e false = refl

  module _ (r : Bool) (tells-it : (r ≡ true) ↔ (Allowed job p × PlanServes job p)) where
    -- every test that tells agrees
    agrees : (test : Plan → Bool) → Tells job test → test p ≡ r
    agrees test tells = same_test (test p) r (tells p wf) tells-it

    -- what does not pass changes nothing
    pub kept_fail : r ≡ false → KeptTo job best (n + 1)
    kept_fail e =
        record {
          right = k.right;
          first = λ test tells. sym (next test tells ∙ ap (λ t. kept_with (better job) (kept_plan best) t p) (agrees test tells ∙ e) ∙ go (kept_plan best));
        }
      where
        go : (o : Option Plan) → kept_with (better job) o false p ≡ o
        go none = refl
        go (some b) = refl

    -- what passes and is better is kept
    pub kept_take : r ≡ true → improves_on best (plan_length job.layout p) (entered_aisles p) ≡ true
        → (kept : Kept) → plan_of kept.plan ≡ p → KeptRight job kept → KeptTo job (Some kept) (n + 1)
    kept_take e h kept same right =
        record {
          right = λ other is. subst (KeptRight job) (some_injective is) right;
          first = λ test tells. (ap some same ∙ sym (taken test tells));
        }
      where
        some_injective : {other : Kept} → Some kept ≡ Some other → kept ≡ other
        some_injective is = ap (held kept) is

        go : (o : Maybe Kept) → over o ≡ true → kept_with (better job) (kept_plan o) true p ≡ some p
        go None x = refl
        go (Some b) x = rw x refl

        taken : (test : Plan → Bool) → Tells job test → first_best (better job) (select test (take (n + 1) (plans_in job.layout))) ≡ some p
        taken test tells =
            next test tells
            ∙ ap (λ t. kept_with (better job) (kept_plan best) t p) (agrees test tells ∙ e)
            ∙ go best (sym (compares best refl) ∙ h)

-- nothing is kept of no plans
pub kept_none : (job : Job) → KeptTo job None 0
kept_none job = record { right = λ kept e. absurd (nothing kept e); first = λ test tells. refl }

-- what is kept of as many plans as there are is kept of all
pub kept_all : (job : Job) (best : Maybe Kept) (n : ℕ) → length (plans_in job.layout) ≤ n → KeptTo job best n → KeptAll job best
kept_all job best n h k =
    record {
      right = k.right;
      first = λ test tells. (k.first test tells ∙ ap (λ xs. first_best (better job) (select test xs)) (take_all n (plans_in job.layout) h));
    }

module _ (kept : Kept) (size aisles : ℕ) where
  -- of one as long as what is kept, the aisles are compared
  pub improves_equal : size ≡ kept.length → ltb aisles (ones kept.entered) ≡ improves_on (Some kept) size aisles
  improves_equal e = rw (le-ltb size kept.length (omega arith), eq-eqb size kept.length e) refl

  -- and otherwise the lengths
  pub improves_other : (size ≡ kept.length → ⊥) → ltb size kept.length ≡ improves_on (Some kept) size aisles
  improves_other n = rw (ne_eqb size kept.length n) (go (ltb size kept.length))
    where
      go : (b : Bool) → b ≡ (b || false)
      go true = refl
      go false = refl

-- a store with an aisle has a plan
pub some_plans : (cells aisles : ℕ) → 1 ≤ aisles → 0 < length (plans_of cells aisles)
some_plans cells zero h = absurd (omega arith)
some_plans cells (suc n) h = plans_some cells n
