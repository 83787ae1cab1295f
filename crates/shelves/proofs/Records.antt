-- The record of a cell: the first record of the stock that is of it, and of an admitted job the only one.
use Prim.Native.Nat.{ℕ, zero, suc, ◌<◌}
use native.Mathlib.Omega.{arith}
use mathlib.Core.Path.{◌≡◌, refl, sym, ◌∙◌, ap}
use mathlib.Core.List.{List, [], ◌∷◌, ◌++◌, Memᴰ}
use mathlib.Core.Bool.{Bool, true, false, cond, ◌&&◌, ◌||◌, and-eq-true_iff, true≢false}
use mathlib.Core.Option.{Option, none, some}
use lib.Dec.{eqb}
use lib.ListN.{length, get_or, take}
use borrow.Author.Tests.{eqb-true, eq-eqb}
use Rattle.rules.specs.declared.StockRecord.{StockRecord}
use Rattle.rules.specs.Lists.{any_of, any_two, select, first_of}
use Rattle.rules.specs.Store.{Point}
use Rattle.rules.specs.Jobs.{Job, open_stock}
use Rattle.rules.specs.Picks.{record_at}
use Rattle.rules.specs.Refusals.{Admitted}
use Rattle.rules.proofs.Lists.{any_false, member_select}
use Rattle.rules.proofs.Admission.{one_record_per_cell, open_in_stock}

-- an or that is false is false on both sides
pub or-false : (b d : Bool) → (b || d) ≡ false → (b ≡ false) × (d ≡ false)
or-false true d h = absurd (true≢false h)
or-false false d h = (refl, h)

module _ {A : Type 0} where
  -- what stands at a place of the list is a member
  pub at_member : (d : A) (xs : List A) (i : ℕ) → i < length xs → Memᴰ (get_or xs i d) xs
  at_member d [] i h = absurd (omega arith)
  at_member d (x ∷ xs) zero h = Memᴰ.head refl
  at_member d (x ∷ xs) (suc i) h = Memᴰ.tail (at_member d xs i (omega arith))

  -- where no two are alike, none in front of a place is like what stands there
  pub none_before : (alike : A → A → Bool) (d : A) (xs : List A) (n : ℕ) → n < length xs → any_two alike xs ≡ false → any_of (λ x. alike x (get_or xs n d)) (take n xs) ≡ false
  none_before alike d [] n h e = absurd (omega arith)
  none_before alike d (x ∷ xs) zero h e = refl
  none_before alike d (x ∷ xs) (suc n) h e =
      let parts = or-false (any_of (alike x) xs) (any_two alike xs) e in
      rw ((any_false (alike x) xs).0 parts.0 (get_or xs n d) (at_member d xs n (omega arith))) (none_before alike d xs n (omega arith) parts.1)

  -- none is such among those of which another test holds either
  pub none_select : (such t : A → Bool) (xs : List A) → any_of such xs ≡ false → any_of such (select t xs) ≡ false
  none_select such t xs e =
      (any_false such (select t xs)).1 (λ x m. (any_false such xs).0 e x ((member_select t xs).0 m).0)

  -- the first element of which a test holds: a member; none where the test holds of none; with one more, at the end
  pub first_member : (t : A → Bool) (xs : List A) (x : A) → first_of t xs ≡ some x → Memᴰ x xs × (t x ≡ true)
  first_member t [] x e = let z : ◌≡◌ {A = ℕ} 0 1 = cc in absurd (omega arith)
  first_member t (y ∷ ys) x e = go (t y) refl e (first_member t ys x)
    where
      go : (b : Bool) → t y ≡ b → cond b (some y) (first_of t ys) ≡ some x → (first_of t ys ≡ some x → Memᴰ x ys × (t x ≡ true)) → Memᴰ x (y ∷ ys) × (t x ≡ true)
      go true h e rest = let same : x ≡ y = cc in (Memᴰ.head same, ap t same ∙ h)
      go false h e rest = let r = rest e in (Memᴰ.tail r.0, r.1)

  pub first_none : (t : A → Bool) (xs : List A) → first_of t xs ≡ none → any_of t xs ≡ false
  first_none t [] e = refl
  first_none t (y ∷ ys) e = go (t y) e (first_none t ys)
    where
      go : (b : Bool) → cond b (some y) (first_of t ys) ≡ none → (first_of t ys ≡ none → any_of t ys ≡ false) → (b || any_of t ys) ≡ false
      go true k rest = let z : ◌≡◌ {A = ℕ} 0 1 = cc in absurd (omega arith)
      go false k rest = rest k

  pub first_other : (t : A → Bool) (xs : List A) (y : A) → t y ≡ false → first_of t (xs ++ (y ∷ [])) ≡ first_of t xs
  first_other t [] y e = rw e refl
  first_other t (x ∷ xs) y e = ap (cond (t x) (some x)) (first_other t xs y e)

  pub first_last : (t : A → Bool) (xs : List A) (y : A) → any_of t xs ≡ false → t y ≡ true → first_of t (xs ++ (y ∷ [])) ≡ some y
  first_last t [] y e h = rw h refl
  first_last t (x ∷ xs) y e h = let parts = or-false (t x) (any_of t xs) e in rw parts.0 (first_last t xs y parts.1 h)

-- a cell of the store
abbrev pub cell_at : ℕ → ℕ → Point
cell_at j c = record { aisle = j; height = c }

-- whether a record is of a cell
abbrev pub is_at : ℕ → ℕ → StockRecord → Bool
is_at j c r = eqb r.aisle j && eqb r.cell c

-- what the test says, and that a record is of its own cell
pub is_at_lem : (j c : ℕ) (r : StockRecord) → is_at j c r ≡ true → (r.aisle ≡ j) × (r.cell ≡ c)
is_at_lem j c r e = let parts = (and-eq-true_iff (eqb r.aisle j) (eqb r.cell c)).0 e in (eqb-true r.aisle j parts.0, eqb-true r.cell c parts.1)

pub at_itself : (r : StockRecord) → is_at r.aisle r.cell r ≡ true
at_itself r = rw (eq-eqb r.aisle r.aisle refl, eq-eqb r.cell r.cell refl) refl

-- two records of the stock that counts are the same if they are of one cell
pub one_open_record : (job : Job) → Admitted job → (r s : StockRecord) → Memᴰ r (open_stock job) → Memᴰ s (open_stock job)
    → r.aisle ≡ s.aisle → r.cell ≡ s.cell → r ≡ s
one_open_record job ok r s k m a c =
    one_record_per_cell job ok.cells_once r s (open_in_stock job r k) (open_in_stock job s m) a c

-- a record of the stock that counts is the record of its cell
pub its_record : (job : Job) → Admitted job → (r : StockRecord) → Memᴰ r (open_stock job)
    → record_at (open_stock job) (cell_at r.aisle r.cell) ≡ some r
unfolding record_at
its_record job ok r m = go (record_at stock (cell_at r.aisle r.cell)) refl
  where
    stock : List StockRecord
    stock = open_stock job

    go : (o : Option StockRecord) → record_at stock (cell_at r.aisle r.cell) ≡ o → record_at stock (cell_at r.aisle r.cell) ≡ some r
    go none e = absurd (true≢false (sym (at_itself r) ∙ (any_false (is_at r.aisle r.cell) stock).0 (first_none _ stock e) r m))
    go (some s) e =
        let (k, there) = first_member (is_at r.aisle r.cell) stock s e in
        let same = is_at_lem r.aisle r.cell s there in
        e ∙ ap some (one_open_record job ok s r k m same.0 same.1)
