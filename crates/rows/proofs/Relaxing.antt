-- One more demand of a row, one more state.
use Prim.Native.Nat.{ℕ, ◌+◌, ◌*◌, ◌<◌, min}
use native.Mathlib.Omega.{arith}
use mathlib.Core.Path.{◌≡◌, refl, sym, ◌∙◌, subst}
use mathlib.Core.Logic.{inl, inr, ⊎_elim}
use mathlib.Core.List.{List}
use lib.ListN.{get_or}
use Rattle.optimum.specs.Routing.{sat}
use Rattle.demand.proofs.Filling.{below}
use Rattle.rows.specs.Rows.{tab, Shorter, StoredTo, RelaxedRow, next_at, StateSet, Permuted}

-- eight more numbers of a row, whose numbers up to a demand are as a function says, stored behind them
pub demand_one : (f : ℕ → ℕ → ℕ) (row row' v : List ℕ) (q : ℕ) → ((s k : ℕ) → s < 8 → k < q → tab row s k ≡ f s k) → StoredTo row row' v (q * 8) 8
    → ((s : ℕ) → s < 8 → get_or v s 0 ≡ f s q) → (s k : ℕ) → s < 8 → k < q + 1 → tab row' s k ≡ f s k
demand_one f row row' v q done t here s k l h =
    ⊎_elim (λ m. t.rest (k * 8 + s) (inl (omega arith)) ∙ done s k l m)
    (λ p. subst (λ n. tab row' s n ≡ f s n) (sym p) (t.done s l ∙ here s l))
    (below k q h)

-- at first no demand is relaxed
pub row_none : (row perm map : List ℕ) (base cost : ℕ) → RelaxedRow row row perm map base cost 0
row_none row perm map base cost = record { kept = refl; done = λ s q l h. absurd (omega arith); rest = λ k h. refl }

-- one more demand
pub row_one : (row row' row'' v perm map : List ℕ) (base cost q from : ℕ) → RelaxedRow row row' perm map base cost q
    → Shorter row' (q * 8) perm from cost v 8 → StoredTo row' row'' v (q * 8) 8 → from ≡ get_or map (base + q) 0 * 8
    → RelaxedRow row row'' perm map base cost (q + 1)
row_one row row' row'' v perm map base cost q from r u t e =
    record {
      kept = t.kept ∙ r.kept;
      done = demand_one shorter row' row'' v q r.done t here;
      rest = λ k h. t.rest k (inr (omega arith)) ∙ r.rest k (omega arith);
    }
  where
    shorter : ℕ → ℕ → ℕ
    shorter s k = min (tab row s k) (sat cost (tab perm s (get_or map (base + k) 0)))

    here : (s : ℕ) → s < 8 → get_or v s 0 ≡ shorter s q
    here s l = let row_is = r.rest (q * 8 + s) (omega arith) in u s l ∙ rw (row_is, e) refl

-- at first no state is set
pub permuted_none : (perm after steps : List ℕ) (weight : ℕ) → Permuted perm perm after steps weight 0
permuted_none perm after steps weight = record { kept = refl; done = λ s q l h. absurd (omega arith); past = λ k h. refl }

-- one more state
pub permuted_one : (perm perm' perm'' after steps : List ℕ) (weight s : ℕ) → s < 8 → Permuted perm perm' after steps weight s
    → StateSet perm' perm'' after s (get_or steps s 0) weight → Permuted perm perm'' after steps weight (s + 1)
permuted_one perm perm' perm'' after steps weight s small r t =
    record {
      kept = t.kept ∙ r.kept;
      done = λ k q h l. ⊎_elim (λ m. t.rest q k (omega arith) (λ p. omega arith) ∙ r.done k q m l) (here q l k) (below k s h);
      past = λ k h. t.past k h ∙ r.past k h;
    }
  where
    here : (q : ℕ) → q < weight → (k : ℕ) → k ≡ s → tab perm'' k q ≡ next_at after (get_or steps k 0) q
    here q l k p = subst (λ n. tab perm'' n q ≡ next_at after (get_or steps n 0) q) (sym p) (t.done q l)
