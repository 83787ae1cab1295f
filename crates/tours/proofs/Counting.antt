-- The entered aisles of a plan: their number, the first and the last of them.
use Prim.Native.Nat.{ℕ, zero, suc, ◌+◌, ◌≤◌, ◌<◌}
use native.Mathlib.Omega.{arith}
use mathlib.Core.Path.{◌≡◌, refl, sym, ◌∙◌}
use mathlib.Core.Logic.{◌⊎◌, inl, inr}
use mathlib.Core.List.{List, [], ◌∷◌}
use mathlib.Core.Bool.{Bool, true, false, cond}
use lib.ListN.{length}
use Rattle.rules.specs.declared.Layout.{Layout}
use Rattle.rules.specs.declared.Action.{Action}
use Rattle.rules.specs.declared.Action.TheVariants.{Void, Bottom, Top, Gap, Once, Twice}
use Rattle.rules.specs.Lists.{sum_of, nth}
use Rattle.rules.specs.Plans.{Plan, WellFormed, action_at, entered}
use Rattle.rules.specs.Policies.{entered_aisles, Entered, First, Last, IsBottom}
use Rattle.tours.specs.Prefixes.{entered_up_to}
use Rattle.tours.proofs.Basics.{below, split_at, true_not_false, false_not_true}
use Rattle.tours.proofs.Aisles.{action_past}

-- an aisle that is not entered is VOID
void_unless_entered : (a : Action) → entered a ≡ false → a ≡ Void
void_unless_entered Void e = refl
void_unless_entered (Bottom i) e = absurd (true_not_false e)
void_unless_entered (Top i) e = absurd (true_not_false e)
void_unless_entered (Gap h i) e = absurd (true_not_false e)
void_unless_entered Once e = absurd (true_not_false e)
void_unless_entered Twice e = absurd (true_not_false e)

module _ (plan : Plan) where
  -- an aisle is entered or not
  pub entered? : (j : ℕ) → Entered plan j ⊎ (Entered plan j → ⊥)
  unfolding Entered
  entered? j = go (entered (action_at plan j)) refl
    where
      go : (b : Bool) → entered (action_at plan j) ≡ b → (entered (action_at plan j) ≡ true) ⊎ (entered (action_at plan j) ≡ true → ⊥)
      go true e = inl e
      go false e = inr (λ h. true_not_false (sym h ∙ e))

  -- not entered is VOID; BOTTOM and ONCE are entered
  pub not_entered_void : (j : ℕ) → (Entered plan j → ⊥) → action_at plan j ≡ Void
  unfolding Entered
  not_entered_void j n = go (entered (action_at plan j)) refl
    where
      go : (b : Bool) → entered (action_at plan j) ≡ b → action_at plan j ≡ Void
      go true e = absurd (n e)
      go false e = void_unless_entered (action_at plan j) e

  pub void_not_entered : (j : ℕ) → action_at plan j ≡ Void → Entered plan j → ⊥
  unfolding Entered
  void_not_entered j e h = true_not_false (sym h ∙ rw e)

  pub bottom_entered : (j : ℕ) → IsBottom (action_at plan j) → Entered plan j
  unfolding IsBottom Entered
  bottom_entered j (k, e) = rw e

  pub once_entered : (j : ℕ) → action_at plan j ≡ Once → Entered plan j
  unfolding Entered
  once_entered j e = rw e

  -- an entered aisle adds one, any other nothing
  pub count_rises : (i : ℕ) → Entered plan (suc i) → entered_up_to plan (suc i) ≡ suc (entered_up_to plan i)
  unfolding Entered
  count_rises i e = rw e (omega arith)

  pub count_stays : (i : ℕ) → (Entered plan (suc i) → ⊥) → entered_up_to plan (suc i) ≡ entered_up_to plan i
  count_stays i n = rw (not_entered_void (suc i) n) (omega arith)

  -- where no aisle is entered from a + 1 to n the number stays
  count_still : (a n : ℕ) → a ≤ n → ((j : ℕ) → a < j → j ≤ n → Entered plan j → ⊥) → entered_up_to plan n ≡ entered_up_to plan a
  count_still a zero l none = let p : a ≡ 0 = omega arith in rw p
  count_still a (suc n) l none = elim (below a n l) [
    | inl h ↦ count_stays n (none (suc n) (omega arith) (omega arith)) ∙ count_still a n h (λ j g k. none j g (omega arith))
    | inr p ↦ rw p
  ]

  -- the number only grows
  count_grows : (a n : ℕ) → a ≤ n → entered_up_to plan a ≤ entered_up_to plan n
  count_grows a zero l = let p : a ≡ 0 = omega arith in rw p (omega arith)
  count_grows a (suc n) l = elim (below a n l) [
    | inl h ↦ let g = count_grows a n h in omega arith
    | inr p ↦ rw p (omega arith)
  ]

  -- the last entered aisle of the first n, or none
  last_up_to : (n : ℕ)
      → ((j : ℕ) → 1 ≤ j → j ≤ n → Entered plan j → ⊥)
      ⊎ ((k : ℕ) × (1 ≤ k) × (k ≤ n) × Entered plan k × ((j : ℕ) → k < j → j ≤ n → Entered plan j → ⊥))
  last_up_to zero = inl (λ j l h e. omega arith)
  last_up_to (suc n) = go (entered? (suc n)) (last_up_to n)
    where
      go : Entered plan (suc n) ⊎ (Entered plan (suc n) → ⊥)
          → ((j : ℕ) → 1 ≤ j → j ≤ n → Entered plan j → ⊥)
          ⊎ ((k : ℕ) × (1 ≤ k) × (k ≤ n) × Entered plan k × ((j : ℕ) → k < j → j ≤ n → Entered plan j → ⊥))
          → ((j : ℕ) → 1 ≤ j → j ≤ suc n → Entered plan j → ⊥)
          ⊎ ((k : ℕ) × (1 ≤ k) × (k ≤ suc n) × Entered plan k × ((j : ℕ) → k < j → j ≤ suc n → Entered plan j → ⊥))
      go (inl e) r = inr (suc n, omega arith, omega arith, e, λ j l h g. omega arith)
      go (inr e) (inl none) = inl (λ j l h g. elim (below j n h) [ inl k ↦ none j l k g | inr p ↦ e (rw p at g) ])
      go (inr e) (inr (k, low, high, f, none)) =
          inr (k, low, omega arith, f, λ j l h g. elim (below j n h) [ inl i ↦ none j l i g | inr p ↦ e (rw p at g) ])

  -- the first entered aisle of the first n, or none
  first_up_to : (n : ℕ)
      → ((j : ℕ) → 1 ≤ j → j ≤ n → Entered plan j → ⊥)
      ⊎ ((k : ℕ) × (1 ≤ k) × (k ≤ n) × Entered plan k × ((j : ℕ) → 1 ≤ j → j < k → Entered plan j → ⊥))
  first_up_to zero = inl (λ j l h e. omega arith)
  first_up_to (suc n) = go (entered? (suc n)) (first_up_to n)
    where
      go : Entered plan (suc n) ⊎ (Entered plan (suc n) → ⊥)
          → ((j : ℕ) → 1 ≤ j → j ≤ n → Entered plan j → ⊥)
          ⊎ ((k : ℕ) × (1 ≤ k) × (k ≤ n) × Entered plan k × ((j : ℕ) → 1 ≤ j → j < k → Entered plan j → ⊥))
          → ((j : ℕ) → 1 ≤ j → j ≤ suc n → Entered plan j → ⊥)
          ⊎ ((k : ℕ) × (1 ≤ k) × (k ≤ suc n) × Entered plan k × ((j : ℕ) → 1 ≤ j → j < k → Entered plan j → ⊥))
      go e (inr (k, low, high, f, none)) = inr (k, low, omega arith, f, none)
      go (inl e) (inl none) = inr (suc n, omega arith, omega arith, e, λ j l h g. none j l (omega arith) g)
      go (inr e) (inl none) = inl (λ j l h g. elim (below j n h) [ inl k ↦ none j l k g | inr p ↦ e (rw p at g) ])

  -- the sum over the list is the number by prefixes
  count_from : (actions : List Action) (j n : ℕ)
      → ((k i : ℕ) → j + k ≡ i → action_at plan (suc i) ≡ nth actions (suc k) Void)
      → j + length actions ≡ n
      → entered_up_to plan j + sum_of (λ a. cond (entered a) 1 0) actions ≡ entered_up_to plan n
  count_from [] j n f e = let p : j ≡ n = omega arith in rw p (omega arith)
  count_from (a ∷ actions) j n f e =
      let p : action_at plan (suc j) ≡ a = f 0 j (omega arith) in
      let r = count_from actions (suc j) n (λ k i h. f (suc k) i (omega arith)) (omega arith) in
      let s = rw p at r in
      omega arith

module _ {z : Layout} {plan : Plan} (wf : WellFormed z plan) where
  -- entered aisles are the store's
  pub entered_inside : (j : ℕ) → Entered plan j → (1 ≤ j) × (j ≤ z.aisles)
  unfolding action_at Entered
  entered_inside zero e = absurd (false_not_true e)
  entered_inside (suc j) e = elim (split_at j z.aisles) [
    | inl l ↦ (omega arith, l)
    | inr l ↦ absurd (void_not_entered plan (suc j) (action_past wf (suc j) (omega arith)) e)
  ]

  -- the number of entered aisles, by prefixes
  pub count_all : entered_aisles plan ≡ entered_up_to plan z.aisles
  unfolding entered_aisles action_at
  count_all =
      let e = wf.aisles in
      let r = count_from plan plan.actions 0 z.aisles (λ k i p. let q : i ≡ k = omega arith in rw q) (omega arith) in
      omega arith

  -- the last entered aisle of a plan, or none is entered
  pub last_entered : ((j : ℕ) → Entered plan j → ⊥) ⊎ ((k : ℕ) × Last plan k)
  unfolding Last
  last_entered = elim (last_up_to plan z.aisles) [
    | inl none ↦ inl (λ j e. none j (entered_inside j e).0 (entered_inside j e).1 e)
    | inr f ↦ inr (f.0, (f.3, λ j l e. f.4 j l (entered_inside j e).1 e))
  ]

  -- the first entered aisle of a plan, or none is entered
  pub first_entered : ((j : ℕ) → Entered plan j → ⊥) ⊎ ((k : ℕ) × First plan k)
  unfolding First
  first_entered = elim (first_up_to plan z.aisles) [
    | inl none ↦ inl (λ j e. none j (entered_inside j e).0 (entered_inside j e).1 e)
    | inr f ↦ inr (f.0, (f.3, λ j l e. f.4 j (entered_inside j e).0 l e))
  ]

  -- one entered aisle, or two
  pub count_one : (k : ℕ) → First plan k → Last plan k → entered_aisles plan ≡ 1
  unfolding First Last
  count_one zero f l = absurd (let e = entered_inside 0 f.0 in omega arith)
  count_one (suc i) f l =
      let e = entered_inside (suc i) f.0 in
      let a = count_still plan 0 i (omega arith) (λ j g h. f.1 j (omega arith)) in
      let b = count_rises plan i f.0 in
      let c = count_still plan (suc i) z.aisles e.1 (λ j g h. l.1 j g) in
      let d = count_all in
      omega arith

  pub count_two : (f k : ℕ) → f < k → Entered plan f → Entered plan k → 2 ≤ entered_aisles plan
  count_two zero k l e g = absurd (let h = entered_inside 0 e in omega arith)
  count_two (suc a) zero l e g = absurd (omega arith)
  count_two (suc a) (suc b) l e g =
      let h = entered_inside (suc b) g in
      let p = count_rises plan a e in
      let q = count_rises plan b g in
      let r = count_grows plan (suc a) b (omega arith) in
      let s = count_grows plan (suc b) z.aisles h.1 in
      let d = count_all in
      omega arith
