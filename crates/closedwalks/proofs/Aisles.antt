-- Reading one aisle and one passage: which action and which digits have given treads.
use Prim.Native.Nat.{ℕ, zero, suc, ◌+◌, ◌-◌, ◌%◌, ◌≤◌, ◌<◌}
use native.Mathlib.Omega.{arith}
use mathlib.Core.Path.{◌≡◌, refl, sym, ap, ◌∙◌, subst}
use mathlib.Core.Logic.{◌⊎◌, inl, inr}
use mathlib.Core.Bool.{Bool, true, false, cond, ◌||◌}
use lib.Dec.{ltb, leb}
use borrow.Author.Tests.{lt-ltb, le-ltb, le-leb, lt-leb}
use Rattle.rules.specs.declared.Action.{Action}
use Rattle.rules.specs.declared.Action.TheVariants.{Void, Bottom, Top, Gap, Once, Twice}
use Rattle.rules.specs.declared.Passage.{Passage}
use Rattle.rules.specs.declared.Passage.TheVariants.{P00, P02, P11, P20, P22}
use Rattle.rules.specs.Plans.{Fits, aisle_treads, back_treads, front_treads}
use Rattle.closedwalks.proofs.Splits.{none_or_some, equal_or_below, below_or_from}

-- the first and the last number below n at which a is nothing
first_none : (a : ℕ → ℕ) (n : ℕ) → ((k : ℕ) → k < n → 0 < a k) ⊎ ((h : ℕ) × (h < n) × (a h ≡ 0) × ((k : ℕ) → k < h → 0 < a k))
first_none a zero = inl (λ k h. absurd (omega arith))
first_none a (suc n) =
    elim (first_none a n) [
      | inl f ↦ elim (none_or_some (a n)) [
        | inl e ↦ inr (n, omega arith, e, f)
        | inr p ↦ inl (λ k h. elim (equal_or_below k n (omega arith)) [ inl e ↦ subst (λ (i : ℕ). 0 < a i) (sym e) p | inr l ↦ f k l ])
      ]
      | inr t ↦ inr (t.0, (let l = t.1 in omega arith), t.2, t.3)
    ]

last_none : (a : ℕ → ℕ) (h n : ℕ) → h < n → a h ≡ 0 → (l : ℕ) × (h ≤ l) × (l < n) × (a l ≡ 0) × ((k : ℕ) → l < k → k < n → 0 < a k)
last_none a h zero p e = absurd (omega arith)
last_none a h (suc n) p e =
    elim (none_or_some (a n)) [
      | inl f ↦ (n, omega arith, omega arith, f, λ k u v. absurd (omega arith))
      | inr s ↦ elim (equal_or_below h n (omega arith)) [
        | inl q ↦ absurd (omega (arith, ap a q))
        | inr l ↦
            let t = last_none a h n l e in
            let low = t.1 in
            let top = t.2 in
            (t.0, low, omega arith, t.3, λ k u v. elim (equal_or_below k n (omega arith)) [ inl q ↦ subst (λ (i : ℕ). 0 < a i) (sym q) s | inr m ↦ t.4 k u m ])
      ]
    ]

or-false : (b : Bool) → cond {A = ℕ} (b || false) 2 0 ≡ cond b 2 0
or-false true = refl
or-false false = refl

-- the action with given treads of the aisle's edges 0 to C
abbrev pub Read : ℕ → (ℕ → ℕ) → Type 0
Read cells a = (action : Action) × Fits cells action × ((k : ℕ) → k ≤ cells → aisle_treads action k ≡ a k)

module _ (cells : ℕ) (a : ℕ → ℕ) (few : (k : ℕ) → k ≤ cells → a k ≤ 2) where
  -- two treads up to h, none up to l, two behind
  read_even : (h l : ℕ) → h ≤ l → l ≤ cells → ((k : ℕ) → k ≤ cells → cond (ltb k h || leb (suc l) k) 2 0 ≡ a k) → Read cells a
  read_even h l p q shape = go (none_or_some h) (equal_or_below l cells q)
    where
      behind : l ≡ cells → (k : ℕ) → k ≤ cells → leb (suc l) k ≡ false
      behind e k r = lt-leb (suc l) k (omega arith)

      go : (h ≡ 0) ⊎ (0 < h) → (l ≡ cells) ⊎ (l < cells) → Read cells a
      go (inl e) (inl f) = (Void, tt, λ k r. rw (le-ltb k h (omega arith), behind f k r) at (shape k r))
      go (inl e) (inr f) = (Top (suc l), (omega arith, omega arith), λ k r. rw (le-ltb k h (omega arith)) at (shape k r))
      go (inr e) (inl f) = (Bottom h, (omega arith, omega arith), λ k r. sym (or-false (ltb k h)) ∙ (rw (behind f k r) at (shape k r)))
      go (inr e) (inr f) = (Gap h (suc l), (omega arith, omega arith, omega arith), shape)

  module _ (alike : (c : ℕ) → 1 ≤ c → c ≤ cells → (a (c - 1) + a c) % 2 ≡ 0)
      (whole : (h k i : ℕ) → h < k → k < i → i ≤ cells → a h ≡ 0 → a i ≡ 0 → a k ≡ 0) where
    all_alike : (k : ℕ) → k ≤ cells → (a 0 + a k) % 2 ≡ 0
    all_alike zero h = omega arith
    all_alike (suc k) h = let s : suc k - 1 ≡ k = omega arith in omega (arith, all_alike k (omega arith), alike (suc k) (omega arith) h, ap a s)

    pub aisle_reads : Read cells a
    aisle_reads = go (a 0 % 2) refl (first_none a (suc cells))
      where
        full : a 0 % 2 ≡ 0 → (k : ℕ) → k ≤ cells → 0 < a k → 2 ≡ a k
        full e k r s = omega (arith, few k r, all_alike k r)

        between : (h l k : ℕ) → h ≤ k → k ≤ l → l ≤ cells → a h ≡ 0 → a l ≡ 0 → a k ≡ 0
        between h l k p q r f g =
            elim (equal_or_below h k p) [
              | inl e ↦ ap a (sym e) ∙ f
              | inr u ↦ elim (equal_or_below k l q) [ inl e ↦ ap a e ∙ g | inr v ↦ whole h k l u v r f g ]
            ]

        even : a 0 % 2 ≡ 0 → (h : ℕ) → h < suc cells → a h ≡ 0 → ((k : ℕ) → k < h → 0 < a k)
            → (l : ℕ) × (h ≤ l) × (l < suc cells) × (a l ≡ 0) × ((k : ℕ) → l < k → k < suc cells → 0 < a k) → Read cells a
        even e h p f front u =
            let l = u.0 in
            let low = u.1 in
            let top : l ≤ cells = omega (arith, u.2) in
            read_even h l low top
            (λ k r. elim (below_or_from k h) [
              | inl v ↦ rw (lt-ltb k h v) (full e k r (front k v))
              | inr v ↦ elim (below_or_from l k) [
                | inl w ↦ rw (le-ltb k h v, le-leb (suc l) k w) (full e k r (u.4 k w (omega arith)))
                | inr w ↦ rw (le-ltb k h v, lt-leb (suc l) k (omega arith)) (sym (between h l k v w top f u.3))
              ]
            ])

        go : (r : ℕ) → a 0 % 2 ≡ r → ((k : ℕ) → k < suc cells → 0 < a k) ⊎ ((h : ℕ) × (h < suc cells) × (a h ≡ 0) × ((k : ℕ) → k < h → 0 < a k)) → Read cells a
        go (suc r) e f = (Once, tt, λ k r. omega (arith, few k r, all_alike k r))
        go zero e (inl f) = (Twice, tt, λ k r. full e k r (f k (omega arith)))
        go zero e (inr t) = even e t.0 t.1 t.2 t.3 (last_none a t.0 (suc cells) t.1 t.2)

pub passage_reads : (b f : ℕ) → b ≤ 2 → f ≤ 2 → (f + b) % 2 ≡ 0 → (p : Passage) × (back_treads p ≡ b) × (front_treads p ≡ f)
passage_reads zero zero h g e = (P00, refl, refl)
passage_reads zero (suc zero) h g e = absurd (omega arith)
passage_reads zero (suc (suc zero)) h g e = (P02, refl, refl)
passage_reads zero (suc (suc (suc f))) h g e = absurd (omega arith)
passage_reads (suc zero) zero h g e = absurd (omega arith)
passage_reads (suc zero) (suc zero) h g e = (P11, refl, refl)
passage_reads (suc zero) (suc (suc f)) h g e = absurd (omega arith)
passage_reads (suc (suc zero)) zero h g e = (P20, refl, refl)
passage_reads (suc (suc zero)) (suc zero) h g e = absurd (omega arith)
passage_reads (suc (suc zero)) (suc (suc zero)) h g e = (P22, refl, refl)
passage_reads (suc (suc zero)) (suc (suc (suc f))) h g e = absurd (omega arith)
passage_reads (suc (suc (suc b))) f h g e = absurd (omega arith)
