-- All pairs of turns in one sweep: the best back turn that goes with a height, then the front turn at it. `row`, `perm` and `acc` are the
-- keys of rows, by state and demand.
use Prim.Native.Nat.{ℕ, zero, suc, ◌+◌, ◌*◌, ◌≤◌, ◌<◌, min}
use native.Mathlib.Omega.{arith}
use native.Mathlib.Nat.{eq-or-lt_of_le, le_refl}
use mathlib.Core.Path.{◌≡◌, refl, sym, ◌∙◌, ap, subst}
use mathlib.Core.Logic.{◌⊎◌, inl, inr, ⊎_elim}
use mathlib.Core.List.{List}
use lib.ListN.{get_or}
use Rattle.optimum.specs.Routing.{no_key}
use Rattle.rows.specs.Pairs.{walk, RelaxedKeys}
use Rattle.rows.proofs.Keys.{walk_walk, walk_mono, walk_none}
use Rattle.aisles.specs.declared.layers.Turns.{Turns}
use Rattle.between.specs.Between.{Graded}
use Rattle.aisles.specs.Turns.{turn_way, back_way, Pair, BacksDone, SweptTo}

-- a least of two is one of them
min_pick : (a b c : ℕ) → c ≡ min a b → (c ≡ a) ⊎ (c ≡ b)
min_pick a b c e = ⊎_elim (λ p. inl p) (λ l. inr (omega arith)) (eq-or-lt_of_le (left a b c e))
  where
    left : (a b c : ℕ) → c ≡ min a b → c ≤ a
    left a b c e = omega arith

-- the back turns of a front turn begin at most one height past the back crossing
pub least_within : (from : List ℕ) (top : ℕ) → Graded from top → (n h : ℕ) → h + n ≡ top → get_or from h 0 ≤ top + 1
least_within from top g zero h e =
    let last : h ≡ top = omega arith in omega (arith, ap (λ k. get_or from k 0) last, g.ends)
least_within from top g (suc n) h e = omega (arith, g.grows h (omega arith), least_within from top g n (h + 1) (omega arith))

module _ (perm : ℕ → ℕ → ℕ) (backs : List ℕ) (t : Turns) (weight : ℕ) where
  -- what is said of a key over the back turns from height n on: 'none', or the way over one of them
  abbrev BackOne : (ℕ → ℕ → ℕ) → ℕ → ℕ → ℕ → Type 0
  BackOne acc n s y = (acc s y ≡ no_key) ⊎ ((i : ℕ) × (n ≤ i) × (i ≤ t.top) × (acc s y ≡ back_way perm backs t.back s y i))

  -- past the back crossing there is no back turn
  pub backs_none : (acc : ℕ → ℕ → ℕ) (n : ℕ) → t.top < n → ((s y : ℕ) → s < 8 → y < weight → acc s y ≡ no_key) → BacksDone acc perm backs t weight n
  backs_none acc n past none =
      record { low = λ s y i l m a b. absurd (omega arith); one = λ s y l m. inl (none s y l m) }

  -- one more back turn, that at height n
  pub backs_one : (acc acc' : ℕ → ℕ → ℕ) (n : ℕ) → n ≤ t.top → BacksDone acc perm backs t weight (n + 1)
      → RelaxedKeys acc acc' perm backs (n * 256) (get_or t.back n 0) weight → BacksDone acc' perm backs t weight n
  backs_one acc acc' n high r d =
      record { low = low; one = λ s y l m. one s y (min_pick (acc s y) (back_way perm backs t.back s y n) (acc' s y) (d.done s y l m)) (r.one s y l m) }
    where
      low : (s y i : ℕ) → s < 8 → y < weight → n ≤ i → i ≤ t.top → acc' s y ≤ back_way perm backs t.back s y i
      low s y i l m a b =
          ⊎_elim (λ p. subst (λ i. acc' s y ≤ back_way perm backs t.back s y i) p (omega (arith, d.done s y l m)))
          (λ p. omega (arith, d.done s y l m, r.low s y i l m (omega arith) b))
          (eq-or-lt_of_le a)

      one : (s y : ℕ) → (acc' s y ≡ acc s y) ⊎ (acc' s y ≡ back_way perm backs t.back s y n) → BackOne acc (n + 1) s y → BackOne acc' n s y
      one s y (inl e) (inl none) = inl (e ∙ none)
      one s y (inl e) (inr (i, a, b, f)) = inr (i, omega arith, b, e ∙ f)
      one s y (inr e) v = inr (n, le_refl n, high, e)

module _ (row perm : ℕ → ℕ → ℕ) (fronts backs : List ℕ) (t : Turns) (weight : ℕ) where
  -- what is said of a key of a row: as it was, or the way over a pair
  abbrev SweptOne : (ℕ → ℕ → ℕ) → ℕ → ℕ → ℕ → Type 0
  SweptOne row' h s q =
      (row' s q ≡ row s q) ⊎ ((a : ℕ) × (i : ℕ) × (h ≤ a) × Pair t a i × (row' s q ≡ turn_way perm fronts backs t.front t.back s q a i))

  -- no pair has its front turn at the back crossing
  pub swept_none : SweptTo row row perm fronts backs t weight t.top
  swept_none =
      record {
        low = λ s q a i l m u p. absurd (omega arith);
        less = λ s q l m. le_refl (row s q);
        one = λ s q l m. inl refl;
      }

  -- all pairs whose front turn is at height h too
  pub swept_one : (row' row'' acc : ℕ → ℕ → ℕ) (h : ℕ) → h < t.top → ((s q : ℕ) → row s q ≤ no_key)
      → ((q : ℕ) → q < weight → get_or fronts (h * 256 + q) 0 < weight) → BacksDone acc perm backs t weight (get_or t.from h 0)
      → SweptTo row row' perm fronts backs t weight (h + 1) → RelaxedKeys row' row'' acc fronts (h * 256) (get_or t.front h 0) weight
      → SweptTo row row'' perm fronts backs t weight h
  swept_one row' row'' acc h high fits below d r x =
      record {
        low = low;
        less = λ s q l m. omega (arith, x.done s q l m, r.less s q l m);
        one = λ s q l m. one s q l m (min_pick (row' s q) (turn s q) (row'' s q) (x.done s q l m)) (r.one s q l m) (d.one s (at q) l (below q m));
      }
    where
      -- what the front turn costs, the demand behind it, and the way over it
      cost : ℕ
      cost = get_or t.front h 0

      at : ℕ → ℕ
      at q = get_or fronts (h * 256 + q) 0

      turn : ℕ → ℕ → ℕ
      turn s q = walk cost (acc s (at q))

      -- a way over the turn at height h in two steps
      in_steps : (s q i : ℕ) → walk cost (back_way perm backs t.back s (at q) i) ≡ turn_way perm fronts backs t.front t.back s q h i
      in_steps s q i = walk_walk cost (get_or t.back i 0) (perm s (get_or backs (i * 256 + at q) 0))

      -- the turn at height h with a back turn that goes with it
      here : (s q i : ℕ) → s < 8 → q < weight → Pair t h i → turn s q ≤ turn_way perm fronts backs t.front t.back s q h i
      here s q i l m p =
          subst (λ n. turn s q ≤ n) (in_steps s q i)
          (walk_mono cost cost (acc s (at q)) (back_way perm backs t.back s (at q) i) (le_refl cost) (d.low s (at q) i l (below q m) p.goes p.back))

      low : (s q a i : ℕ) → s < 8 → q < weight → h ≤ a → Pair t a i → row'' s q ≤ turn_way perm fronts backs t.front t.back s q a i
      low s q a i l m u p =
          ⊎_elim
          (λ e. subst (λ a. row'' s q ≤ turn_way perm fronts backs t.front t.back s q a i) e
          (omega (arith, x.done s q l m, here s q i l m (subst (λ a. Pair t a i) (sym e) p))))
          (λ e. omega (arith, x.done s q l m, r.low s q a i l m (omega arith) p))
          (eq-or-lt_of_le u)

      -- as before: unchanged, or a pair further on
      still : (s q : ℕ) → row'' s q ≡ row' s q → SweptOne row' (h + 1) s q → SweptOne row'' h s q
      still s q e (inl f) = inl (e ∙ f)
      still s q e (inr (a, i, u, p, f)) = inr (a, i, omega arith, p, e ∙ f)

      one : (s q : ℕ) → s < 8 → q < weight → (row'' s q ≡ row' s q) ⊎ (row'' s q ≡ turn s q) → SweptOne row' (h + 1) s q
          → BackOne perm backs t weight acc (get_or t.from h 0) s (at q) → SweptOne row'' h s q
      one s q l m (inl e) u v = still s q e u
      one s q l m (inr e) u (inr (i, goes, back, f)) =
          inr (h, i, le_refl h, record { front = high; goes = goes; back = back }, e ∙ ap (walk cost) f ∙ in_steps s q i)
      one s q l m (inr e) u (inl n) =
          -- 'none' is no less than what was there
          still s q (omega (arith, e, walk_none cost (acc s (at q)) n, x.done s q l m, r.less s q l m, fits s q)) u
