-- One more demand of a row of ones.
use Prim.Native.Nat.{ℕ, ◌+◌, ◌*◌, ◌<◌}
use native.Mathlib.Omega.{arith}
use mathlib.Core.Path.{◌≡◌, refl, ◌∙◌}
use mathlib.Core.Logic.{inr}
use mathlib.Core.List.{List}
use lib.ListN.{get_or}
use Rattle.optimum.specs.Routing.{sat}
use Rattle.rows.specs.Rows.{tab, StoredTo, RelaxedRow}
use Rattle.rows.specs.Pairs.{ones_of, Fewer, FewerRow}
use Rattle.rows.proofs.Relaxing.{demand_one}

-- one more demand
pub fewer_one : (row row' spared spared' spared'' v perm perm-spared map : List ℕ) (base cost q from : ℕ) → RelaxedRow row row' perm map base cost q
    → FewerRow row spared spared' perm perm-spared map base cost q → Fewer row' spared' (q * 8) perm perm-spared from cost v 8 → StoredTo spared' spared'' v (q * 8) 8
    → from ≡ get_or map (base + q) 0 * 8 → FewerRow row spared spared'' perm perm-spared map base cost (q + 1)
fewer_one row row' spared spared' spared'' v perm perm-spared map base cost q from r f u t e =
    record {
      kept = t.kept ∙ f.kept;
      done = demand_one fewer spared' spared'' v q f.done t here;
      rest = λ k h. t.rest k (inr (omega arith)) ∙ f.rest k (omega arith);
    }
  where
    fewer : ℕ → ℕ → ℕ
    fewer s k = let at = get_or map (base + k) 0 in ones_of (tab row s k) (tab spared s k) (sat cost (tab perm s at)) (tab perm-spared s at)

    here : (s : ℕ) → s < 8 → get_or v s 0 ≡ fewer s q
    here s l =
        let row_is = r.rest (q * 8 + s) (omega arith) in
        let ones-are = f.rest (q * 8 + s) (omega arith) in
        u s l ∙ rw (row_is, ones-are, e) refl
