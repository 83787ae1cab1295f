-- The rows of an aisle in the work area and in the list of ones: read where they stand, and written in their places.
use Prim.Native.Nat.{ℕ, suc, ◌+◌, ◌*◌, ◌-◌, ◌≤◌, ◌<◌}
use native.Mathlib.Omega.{arith}
use native.Mathlib.Nat.{eq-or-lt_of_le}
use mathlib.Core.Path.{◌≡◌, sym, ◌∙◌, ap, ap₂, subst}
use mathlib.Core.Logic.{⊎_elim}
use mathlib.Core.List.{List, ◌++◌}
use lib.ListN.{length, get_or, take, drop, get_or-append}
use lib.Seq.{get_or-take, get_or-drop, get_or-append-add, length-take-le}
use borrow.Rule.Slice.PartMut.{put_mid, post_of, drop_put}
use Rattle.rules.specs.Jobs.{Job}
use Rattle.rules.specs.Refusals.{weight}
use Rattle.optimum.specs.Demand.{radices, demand_of}
use Rattle.machine.specs.States.{state_of}
use Rattle.rows.specs.Rows.{numbers}
use Rattle.rows.specs.Pairs.{Holds}
use Rattle.rows.proofs.Keys.{held_as}
use Rattle.table.specs.TableHolds.{values, row_in, RowHolds, TableFrom}

-- the numbers of aisle j as a part of a list
pub part_is : (xs : List ℕ) (j a e : ℕ) → a ≡ (j - 1) * numbers → e ≡ a + numbers → take (e - a) (drop a xs) ≡ row_in xs j
part_is xs j a e starts ends = let whole : e - a ≡ numbers = omega arith in ap₂ (λ n m. take n (drop m xs)) whole starts

-- a list with other numbers from place a to place e
module _ (xs ys : List ℕ) (a e : ℕ) (order : a ≤ e) (within : e ≤ length xs) (fits : length ys ≡ e - a) where
  -- the numbers that are put
  put_at : (k : ℕ) → a + k < e → get_or (put_mid a (e - a) xs ys) (a + k) 0 ≡ get_or ys k 0
  put_at k h =
      let front : length (take a xs) ≡ a = length-take-le a xs (omega arith) in
      ap (λ n. get_or (put_mid a (e - a) xs ys) (n + k) 0) (sym front)
      ∙ get_or-append-add (take a xs) (ys ++ post_of a (e - a) xs) k 0
      ∙ get_or-append ys (post_of a (e - a) xs) 0 k (omega arith)

  -- those past them
  put_past : (k : ℕ) → e ≤ k → get_or (put_mid a (e - a) xs ys) k 0 ≡ get_or xs k 0
  put_past k h =
      let whole : e + (k - e) ≡ k = omega arith in
      ap (λ n. get_or (put_mid a (e - a) xs ys) n 0) (sym whole)
      ∙ sym (get_or-drop e (put_mid a (e - a) xs ys) (k - e) 0)
      ∙ ap (λ l. get_or l (k - e) 0) (drop_put a e xs ys order within fits)
      ∙ get_or-drop e xs (k - e) 0
      ∙ ap (λ n. get_or xs n 0) whole

-- where a state and a demand of aisle i stand
abbrev place : ℕ → ℕ → ℕ → ℕ
place i s q = (i - 1) * numbers + (q * 8 + s)

module _ (job : Job) (small : weight job.lines ≤ 256) where
  -- what the table holds for aisle i with n aisles left
  abbrev Entry : List ℕ → List ℕ → ℕ → ℕ → ℕ → ℕ → Type 0
  Entry work spared n i s q = Holds n (get_or work (place i s q) 0) (get_or spared (place i s q) 0) (values job n i (state_of s) (demand_of (radices job) q))

  -- the rows of aisle i, read in the work area and in the list of ones
  pub row_read : (work spared : List ℕ) (j i : ℕ) → TableFrom job j work spared → j ≤ i → i ≤ job.layout.aisles
      → RowHolds job (suc job.layout.aisles - i) i (row_in work i) (row_in spared i)
  row_read work spared j i table low high s q l h = held_as (read work) (read spared) (table i s q low high l h)
    where
      read : (xs : List ℕ) → get_or (row_in xs i) (q * 8 + s) 0 ≡ get_or xs (place i s q) 0
      read xs = get_or-take numbers (drop ((i - 1) * numbers) xs) (q * 8 + s) 0 (omega arith) ∙ get_or-drop ((i - 1) * numbers) xs (q * 8 + s) 0

  -- the rows of aisle j, written in their places
  pub row_written : (work spared row row-spared : List ℕ) (j a e : ℕ) → 1 ≤ j → j ≤ job.layout.aisles → a ≡ (j - 1) * numbers → e ≡ a + numbers
      → e ≤ length work → e ≤ length spared → length row ≡ e - a → length row-spared ≡ e - a → TableFrom job (suc j) work spared
      → RowHolds job (suc (job.layout.aisles - j)) j row row-spared → TableFrom job j (put_mid a (e - a) work row) (put_mid a (e - a) spared row-spared)
  row_written work spared row row-spared j a e low high starts ends within within' fits fits' table holds i s q l m t h = ⊎_elim here later (eq-or-lt_of_le l)
    where
      work' : List ℕ
      work' = put_mid a (e - a) work row

      spared' : List ℕ
      spared' = put_mid a (e - a) spared row-spared

      left_is : suc (job.layout.aisles - j) ≡ suc job.layout.aisles - j
      left_is = omega arith

      -- in the rows of aisle j stands what is written
      read : (xs ys : List ℕ) → e ≤ length xs → length ys ≡ e - a → get_or (put_mid a (e - a) xs ys) (place j s q) 0 ≡ get_or ys (q * 8 + s) 0
      read xs ys in-xs f =
          ap (λ n. get_or (put_mid a (e - a) xs ys) (n + (q * 8 + s)) 0) (sym starts)
          ∙ put_at xs ys a e (omega arith) in-xs f (q * 8 + s) (omega arith)

      here : j ≡ i → Entry work' spared' (suc job.layout.aisles - i) i s q
      here same =
          subst (λ k. Entry work' spared' (suc job.layout.aisles - k) k s q) same
          (subst (λ n. Entry work' spared' n j s q) left_is
          (held_as (read work row within fits) (read spared row-spared within' fits') (holds s q t h)))

      -- in those of later aisles what stood there
      past : (xs ys : List ℕ) → e ≤ length xs → length ys ≡ e - a → j < i → get_or (put_mid a (e - a) xs ys) (place i s q) 0 ≡ get_or xs (place i s q) 0
      past xs ys in-xs f k = put_past xs ys a e (omega arith) in-xs f (place i s q) (omega arith)

      later : j < i → Entry work' spared' (suc job.layout.aisles - i) i s q
      later k = held_as (past work row within fits k) (past spared row-spared within' fits' k) (table i s q k m t h)
