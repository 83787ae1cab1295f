-- The stops of a job's aisle by its flags, and which gaps are wide.
use Prim.Native.Nat.{ℕ, zero, suc, ◌+◌, ◌-◌, ◌≤◌, ◌<◌}
use native.Mathlib.Omega.{arith}
use mathlib.Core.Path.{◌≡◌, refl, sym, ◌∙◌, ap, ap₂}
use mathlib.Core.List.{[], ◌∷◌, ◌++◌, append-nil}
use mathlib.Core.Bool.{Bool, true, false, cond, ◌&&◌, ◌||◌, and-eq-true_iff}
use lib.Dec.{leb, eqb}
use lib.ListN.{get_or}
use borrow.Author.Tests.{le-leb, lt-leb, leb-true}
use Rattle.rules.specs.Lists.{from, select}
use Rattle.rules.specs.Store.{position, back_height}
use Rattle.rules.specs.Jobs.{Job, cell_holds_listed}
use Rattle.rules.specs.Machine.{stops_within}
use Rattle.rules.specs.Policies.{from_front, from_back, listed_cells, stops_on}
use Rattle.rules.proofs.Lists.{select_append}
use Rattle.rules.proofs.Lengths.{position_monotone}
use Rattle.between.specs.Stops.{flagged, front_stops, back_stops, front_most, back_most, wide_by, first_by, flagged_or, largest_by}
use Rattle.between.specs.Between.{listed_at, listed_flags, front_allowed, back_allowed, gap_length, wide, first_back, largest_of}
use Rattle.between.proofs.Heights.{by_height_at, by_height_agree, same_between}
use Rattle.between.proofs.First.{first_agree}
use Rattle.between.proofs.Widest.{within_widest, from_append, front_grows, back_grows}

-- two tests that agree on consecutive numbers select the same of them
select_agree : (s t : ℕ → Bool) (a n : ℕ) → ((c : ℕ) → a ≤ c → c < a + n → s c ≡ t c) → select s (from a n) ≡ select t (from a n)
select_agree s t a zero agree = refl
select_agree s t a (suc n) agree =
    ap₂ (λ b l. cond b (a ∷ l) l) (agree a (omega arith) (omega arith)) (select_agree s t (suc a) n (λ c low high. agree c (omega arith) (omega arith)))

-- a test that fails at all of them selects none
select_fails : (s : ℕ → Bool) (a n : ℕ) → ((c : ℕ) → a ≤ c → c < a + n → s c ≡ false) → select s (from a n) ≡ []
select_fails s a zero fails = refl
select_fails s a (suc n) fails =
    rw (fails a (omega arith) (omega arith)) (select_fails s (suc a) n (λ c low high. fails c (omega arith) (omega arith)))

module _ (job : Job) (j : ℕ) (small : job.layout.cells ≤ 24) where
  -- the flag of a cell
  flag_at : (c : ℕ) → 1 ≤ c → c ≤ job.layout.cells → get_or (listed_flags job j) c false ≡ cell_holds_listed job j c
  unfolding listed_flags
  flag_at c low high =
      by_height_at (listed_at job j) false c (omega arith) ∙ rw (le-leb 1 c low, le-leb c job.layout.cells high)

  -- a part's stops are those by the flags: of a front part
  pub front_stops_lem : (h : ℕ) → h ≤ job.layout.cells → stops_on job j (from_front h) ≡ front_stops (listed_flags job j) h
  unfolding front_stops listed_cells
  front_stops_lem h l =
      let cells = job.layout.cells in
      let s : ℕ → Bool = λ c. leb c h && cell_holds_listed job j c in
      let t : ℕ → Bool = λ c. get_or (listed_flags job j) c false in
      let passed = select_agree s t 1 h (λ c low high. rw (le-leb c h (omega arith)) (sym (flag_at c low (omega arith)))) in
      let rest = select_fails s (suc h) (cells - h) (λ c low high. rw (lt-leb c h (omega arith))) in
      ap (λ l. 0 ∷ l)
      (ap (select s) (from_append 1 (suc h) h (cells - h) cells (omega arith) (omega arith))
      ∙ select_append s (from 1 h) (from (suc h) (cells - h))
      ∙ ap₂ ◌++◌ passed rest
      ∙ append-nil (flagged (listed_flags job j) 1 h))

  -- and of a back part
  pub back_stops_lem : (i : ℕ) → 1 ≤ i → i ≤ suc job.layout.cells → stops_on job j (from_back i) ≡ back_stops (listed_flags job j) (suc job.layout.cells) i
  unfolding back_stops listed_cells back_height
  back_stops_lem i low high =
      let cells = job.layout.cells in
      let s : ℕ → Bool = λ c. leb i c && cell_holds_listed job j c in
      let t : ℕ → Bool = λ c. get_or (listed_flags job j) c false in
      let rest = select_fails s 1 (i - 1) (λ c l g. rw (lt-leb i c (omega arith))) in
      let passed = select_agree s t i (suc cells - i) (λ c l g. rw (le-leb i c l) (sym (flag_at c (omega arith) (omega arith)))) in
      ap (λ l. l ++ (suc cells ∷ []))
      (ap (select s) (from_append 1 i (i - 1) (suc cells - i) cells (omega arith) (omega arith))
      ∙ select_append s (from 1 (i - 1)) (from i (suc cells - i))
      ∙ ap₂ ◌++◌ rest passed)

  -- a gap is wide where it is at least as long as the largest distances
  wide_most : (h i : ℕ) → h ≤ job.layout.cells → 1 ≤ i → i ≤ suc job.layout.cells
      → wide job j h i ≡ wide_by job.layout (listed_flags job j) h i
  unfolding wide back_height
  wide_most h i l low high =
      let at : ℕ → ℕ = position job.layout in
      let gap = gap_length job.layout h i in
      let flags = listed_flags job j in
      ap₂ ◌&&◌
      (ap (stops_within at gap) (front_stops_lem h l) ∙ within_widest at gap (front_stops flags h))
      (ap (stops_within at gap) (back_stops_lem i low high) ∙ within_widest at gap (back_stops flags (suc job.layout.cells) i))

  -- a gap that is longer at both ends stays wide
  pub wide_longer : (g h i k : ℕ) → h ≤ g → g ≤ job.layout.cells → 1 ≤ i → i ≤ k → k ≤ suc job.layout.cells → wide job j g i ≡ true → wide job j h k ≡ true
  unfolding back_height
  wide_longer g h i k hg l low ik high t =
      let z = job.layout in
      let flags = listed_flags job j in
      let both = (and-eq-true_iff (leb (front_most z flags g) (gap_length z g i)) (leb (back_most z flags i) (gap_length z g i))).0 (sym (wide_most g i l low (omega arith)) ∙ t) in
      let front = leb-true (front_most z flags g) (gap_length z g i) both.0 in
      let back = leb-true (back_most z flags i) (gap_length z g i) both.1 in
      let longer : gap_length z g i ≤ gap_length z h k = omega (arith, position_monotone z h g hg, position_monotone z i k ik) in
      let less-front = front_grows flags (position z) h (g - h) g (omega arith) in
      let less-back = back_grows flags (position z) (suc z.cells) i (k - i) k (omega arith) high in
      wide_most h k (omega arith) (omega arith) high
      ∙ rw (le-leb (front_most z flags h) (gap_length z h k) (omega arith), le-leb (back_most z flags k) (gap_length z h k) (omega arith))

  -- the arrays by the flags are the job's
  pub largest_by_lem : largest_by job.layout (listed_flags job j) ≡ largest_of job j
  unfolding largest_by largest_of first_back listed_flags back_height
  largest_by_lem =
      let z = job.layout in
      let flags = listed_flags job j in
      let held : (h : ℕ) → h < 26 → get_or flags h false ≡ listed_at job j h = by_height_at (listed_at job j) false in
      same_between
      (by_height_agree (flagged_or flags 0) (front_allowed job j) (λ h l. ap (λ b. eqb h 0 || b) (held h l)))
      (by_height_agree (flagged_or flags (suc z.cells)) (back_allowed job j) (λ i l. ap (λ b. eqb i (suc z.cells) || b) (held i l)))
      (by_height_agree (first_by z flags) (first_back job j)
      (λ h l. first_agree (wide_by z flags h) (wide job j h) (suc h) (suc z.cells - h)
      (λ i low high. sym (wide_most h i (omega arith) (omega arith) (omega arith)))))
