-- MIDPOINT's and LARGEST's own rule, aisle by aisle.
use Prim.Native.Nat.{ℕ, ◌+◌, ◌≤◌, ◌<◌}
use native.Mathlib.Omega.{arith}
use native.Mathlib.Nat.{eq-or-lt_of_le}
use mathlib.Core.Path.{◌≡◌, refl, sym, ap, ap₂, ◌∙◌, subst, subst₂}
use mathlib.Core.Logic.{◌⊎◌, inl, inr, ◌↔◌}
use mathlib.Core.Bool.{Bool, true, false, ◌||◌, or-true, false≢true}
use lib.Dec.{eqb}
use borrow.Author.Tests.{eqb-true, eqb-false, eq-eqb, ne_eqb}
use Rattle.rules.specs.declared.Layout.{Layout}
use Rattle.rules.specs.declared.Side.{Side}
use Rattle.rules.specs.declared.Action.{Action}
use Rattle.rules.specs.declared.Action.TheVariants.{Void, Bottom, Top, Gap, Once, Twice}
use Rattle.rules.specs.Jobs.{Job}
use Rattle.rules.specs.Plans.{Plan, Fits, action_at, entered}
use Rattle.rules.specs.Policies.{Entered, First, Last, entered_aisles, through, LargestGap, MidpointRule}
use Rattle.rules.specs.Machine.{keeps_largest_gap}
use Rattle.rules.proofs.Stops.{gap_from, gap_to, largest_gap}
use Rattle.between.specs.declared.Between.{Between}
use Rattle.between.specs.Between.{allows_turns, between_of}
use Rattle.between.proofs.Laws.{allows_halves, allows_largest}
use Rattle.values.specs.declared.PlanValue.{PlanValue}
use Rattle.values.specs.Values.{plan_of}
use Rattle.closedwalks.proofs.Splits.{below_or_from}
use Rattle.annex_plans.specs.OfStore.{PlanFor}
use Rattle.annex_policy.specs.declared.row.Row.{Row}
use Rattle.annex_policy.specs.Rows.{RowTo}
use Rattle.annex_policy.specs.Middle.{between_said, MidAt}
use Rattle.annex_policy.proofs.KindLaws.{void_unless_entered}
use Rattle.annex_policy.proofs.RowLaws.{inside, row_count, row_first_is, row_last_is, one_first, one_last}

-- the arrays say what the test for aisles between says
pub keeps_said : (gaps : Bool) (job : Job) (j : ℕ) (cells : ℕ) (b : Between) (a : Action)
    → b ≡ between_of gaps job j
    → cells ≡ job.layout.cells
    → cells ≤ 24
    → Fits cells a
    → through a ≡ false
    → allows_turns b (gap_from a) (gap_to cells a) ≡ between_said gaps job j a
keeps_said gaps job j cells b a e f small fits t =
    ap₂ (λ x n. allows_turns x (gap_from a) (gap_to n a)) e f ∙ go gaps (subst (λ n. Fits n a) f fits)
  where
    go : (g : Bool) → Fits job.layout.cells a → allows_turns (between_of g job j) (gap_from a) (gap_to job.layout.cells a) ≡ between_said g job j a
    go true h = allows_largest job j a (omega (arith, f, small)) h t
    go false h = allows_halves job j a (omega (arith, f, small)) h t

-- an action that goes through never passes it
pub through_said : (gaps : Bool) (job : Job) (j : ℕ) (a : Action) → through a ≡ true → false ≡ between_said gaps job j a
unfolding keeps_largest_gap
through_said gaps job j Void e = absurd (false≢true e)
through_said gaps job j (Bottom i) e = absurd (false≢true e)
through_said gaps job j (Top i) e = absurd (false≢true e)
through_said gaps job j (Gap h i) e = absurd (false≢true e)
through_said true job j Once e = refl
through_said false job j Once e = refl
through_said true job j Twice e = refl
through_said false job j Twice e = refl

-- VOID always does
pub void_said : (gaps : Bool) (job : Job) (j : ℕ) → between_said gaps job j Void ≡ true
unfolding keeps_largest_gap
void_said true job j = refl
void_said false job j = refl

-- the aisles up to n are what is asked of them, by whether there is one, the first, the last, and a test for those between
abbrev pub MidTo : Side → Plan → Bool → ℕ → ℕ → (ℕ → Action → Bool) → ℕ → Type 0
MidTo side plan single first last said n = (j : ℕ) → 1 ≤ j → j ≤ n → MidAt side single (eqb j first || eqb j last) (action_at plan j) (said j (action_at plan j))

-- one aisle more
pub mid_more : (side : Side) (plan : Plan) (single : Bool) (first last : ℕ) (said : ℕ → Action → Bool) (n : ℕ)
    → MidTo side plan single first last said n
    → MidAt side single (eqb (n + 1) first || eqb (n + 1) last) (action_at plan (n + 1)) (said (n + 1) (action_at plan (n + 1)))
    → MidTo side plan single first last said (n + 1)
mid_more side plan single first last said n f g j l h = go (eq-or-lt_of_le h)
  where
    go : (j ≡ n + 1) ⊎ (j < n + 1) → MidAt side single (eqb j first || eqb j last) (action_at plan j) (said j (action_at plan j))
    go (inl e) = subst (λ i. MidAt side single (eqb i first || eqb i last) (action_at plan i) (said i (action_at plan i))) (sym e) g
    go (inr k) = f j l (omega arith)

module _ (z : Layout) (v : PlanValue) (p : PlanFor z v) (row : Row) (t : RowTo (plan_of v) v.aisles row)
    (side : Side) (said : ℕ → Action → Bool) (void : (j : ℕ) → said j Void ≡ true) where
  abbrev plan : Plan
  plan = plan_of v

  -- whether one aisle is entered
  abbrev single : Bool
  single = eqb row.entered 1

  -- all aisles of the store are what is asked of them
  abbrev pub AllMid : Type 0
  AllMid = MidTo side plan single row.first row.last said v.aisles

  -- the rule by that test
  abbrev pub Rule : Type 0
  Rule = MidpointRule side (λ j a. said j a ≡ true) plan

  -- by the rule they are; an aisle that is neither end is VOID or lies between
  pub rule_mid : Rule → AllMid
  unfolding Entered First Last
  rule_mid r j l h = go single refl (eqb j row.first) refl (eqb j row.last) refl
    where
      many : single ≡ false → entered_aisles plan ≡ 1 → ⊥
      many s e = eqb-false row.entered 1 s (row_count z v p row t ∙ e)

      past : (row.first ≡ j → ⊥) → Entered plan j → row.first < j
      past n e = from (below_or_from row.first j)
        where
          from : (row.first < j) ⊎ (j ≤ row.first) → row.first < j
          from (inl k) = k
          from (inr k) = absurd ((row_first_is z v p row t j e).1 j (omega (arith, n, k)) e)

      ahead : (j ≡ row.last → ⊥) → Entered plan j → j < row.last
      ahead n e = to (below_or_from j row.last)
        where
          to : (j < row.last) ⊎ (row.last ≤ j) → j < row.last
          to (inl k) = k
          to (inr k) = absurd ((row_last_is z v p row t j e).1 j (omega (arith, n, k)) e)

      middle : single ≡ false → eqb j row.first ≡ false → eqb j row.last ≡ false → (b : Bool) → entered (action_at plan j) ≡ b → said j (action_at plan j) ≡ true
      middle s x y false e = ap (said j) (void_unless_entered (action_at plan j) e) ∙ void j
      middle s x y true e =
          r.between (many s) row.first j row.last (row_first_is z v p row t j e) (row_last_is z v p row t j e)
          (past (λ q. eqb-false j row.first x (sym q)) e)
          (ahead (eqb-false j row.last y) e)

      go : (s : Bool) → single ≡ s → (f : Bool) → eqb j row.first ≡ f → (g : Bool) → eqb j row.last ≡ g → MidAt side s (f || g) (action_at plan j) (said j (action_at plan j))
      go true q f x g y = λ e. r.single (sym (row_count z v p row t) ∙ eqb-true row.entered 1 q) j e
      go false q true x g y = λ e. r.first (many q) j (subst (First plan) (sym (eqb-true j row.first x)) (row_first_is z v p row t j e))
      go false q false x true y = λ e. r.last (many q) j (subst (Last plan) (sym (eqb-true j row.last y)) (row_last_is z v p row t j e))
      go false q false x false y = middle q x y (entered (action_at plan j)) refl

  -- and that is the rule
  pub mid_rule : AllMid → Rule
  unfolding Entered First Last
  mid_rule f =
      record {
        single = λ c j e. at j e true (eq-eqb row.entered 1 (row_count z v p row t ∙ c)) (eqb j row.first || eqb j row.last) refl e;
        first = λ n j g. (
            let is : eqb j row.first ≡ true = eq-eqb j row.first (one_first plan j row.first g (row_first_is z v p row t j g.0)) in
            at j g.0 false (many n) true (ap (λ b. b || eqb j row.last) is) g.0
            );
        last = λ n j g. (
            let is : eqb j row.last ≡ true = eq-eqb j row.last (one_last plan j row.last g (row_last_is z v p row t j g.0)) in
            at j g.0 false (many n) true (ap (λ b. eqb j row.first || b) is ∙ or-true (eqb j row.first)) g.0
            );
        between = λ n i j k g h a b. (
            let first = one_first plan i row.first g (row_first_is z v p row t i g.0) in
            let last = one_last plan k row.last h (row_last_is z v p row t k h.0) in
            let no-first : eqb j row.first ≡ false = ne_eqb j row.first (λ e. omega (arith, e, first, a)) in
            let no_last : eqb j row.last ≡ false = ne_eqb j row.last (λ e. omega (arith, e, last, b)) in
            asked j (omega (arith, a)) (omega (arith, b, (inside v k h.0).1)) false (many n) false (ap₂ ◌||◌ no-first no_last)
            );
      }
    where
      many : (entered_aisles plan ≡ 1 → ⊥) → single ≡ false
      many n = ne_eqb row.entered 1 (λ e. n (sym (row_count z v p row t) ∙ e))

      asked : (j : ℕ) → 1 ≤ j → j ≤ v.aisles → (s : Bool) → single ≡ s → (b : Bool) → eqb j row.first || eqb j row.last ≡ b → MidAt side s b (action_at plan j) (said j (action_at plan j))
      asked j l h s x b y = subst₂ (λ q r. MidAt side q r (action_at plan j) (said j (action_at plan j))) x y (f j l h)

      at : (j : ℕ) → Entered plan j → (s : Bool) → single ≡ s → (b : Bool) → eqb j row.first || eqb j row.last ≡ b → MidAt side s b (action_at plan j) (said j (action_at plan j))
      at j e = asked j (inside v j e).0 (inside v j e).1

-- LARGEST's own rule is the rule by its test
pub largest_rule : (side : Side) (job : Job) (plan : Plan) → MidpointRule side (λ j a. between_said true job j a ≡ true) plan ↔ MidpointRule side (LargestGap job) plan
largest_rule side job plan = (
  same (λ j a. between_said true job j a ≡ true) (LargestGap job) (λ j a. (largest_gap job j a).0),
  same (LargestGap job) (λ j a. between_said true job j a ≡ true) (λ j a. (largest_gap job j a).1),
)
  where
    same : (B C : ℕ → Action → Type 0) → ((j : ℕ) (a : Action) → B j a → C j a) → MidpointRule side B plan → MidpointRule side C plan
    same B C f r = record { single = r.single; first = r.first; last = r.last; between = λ n i j k g h a b. f j (action_at plan j) (r.between n i j k g h a b) }
