-- What the arrays of the test say: back turns that go with a front turn are graded, and an action passes where the policy's test does.
use Prim.Native.Nat.{ℕ, suc, ◌+◌, ◌-◌, ◌*◌, ◌≤◌, ◌<◌}
use native.Mathlib.Omega.{arith}
use native.Mathlib.Nat.{eq-or-lt_of_le, le_of_suc-le-suc}
use native.Mathlib.Numerals.{add-one}
use mathlib.Core.Path.{◌≡◌, refl, sym, ◌∙◌, ap, ap₂}
use mathlib.Core.Logic.{⊎_elim}
use mathlib.Core.List.{List}
use mathlib.Core.Bool.{Bool, true, false, ◌&&◌, true≢false, and-true}
use lib.Dec.{leb}
use lib.ListN.{get_or}
use borrow.Author.Tests.{le-leb, eq-eqb, ne_eqb}
use Rattle.rules.specs.declared.Layout.{Layout}
use Rattle.rules.specs.declared.Action.{Action}
use Rattle.rules.specs.declared.Action.TheVariants.{Void, Bottom, Top, Gap, Once, Twice}
use Rattle.rules.specs.Store.{position, back_height, aisle_length}
use Rattle.rules.specs.Jobs.{Job, cell_holds_listed}
use Rattle.rules.specs.Plans.{Fits}
use Rattle.rules.specs.Policies.{in_front_half, in_back_half, halved, from_front, from_back, stops_on, through}
use Rattle.rules.specs.Machine.{stops_within, part_keeps, keeps_largest_gap}
use Rattle.rules.proofs.Lengths.{position_front, position_back}
use Rattle.rules.proofs.Stops.{gap_from, gap_to, untrodden_gap}
use Rattle.between.specs.Stops.{front_stops, back_stops, between_by}
use Rattle.between.specs.Between.{by_height, listed_at, listed_flags, halves_of, gap_length, wide, first_back, front_allowed, back_allowed, largest_of, between_of, allows_turns, Graded}
use Rattle.between.proofs.Heights.{by_height_at}
use Rattle.between.proofs.First.{first_range, first_upwards, first_earlier}
use Rattle.between.proofs.Wide.{front_stops_lem, back_stops_lem, wide_longer, largest_by_lem}

-- MIDPOINT's are graded: each front turn goes with the back turns past it
graded_halves : (z : Layout) (top : ℕ) → top ≤ 25 → Graded (halves_of z).from top
unfolding halves_of
graded_halves z top small =
    let next : (h : ℕ) → h ≤ top → get_or (by_height suc) h 0 ≡ suc h = λ h l. by_height_at suc 0 h (omega arith) in
    record {
      past = λ h l. omega (arith, next h l);
      grows = λ h l. omega (arith, next h (omega arith), next (h + 1) (omega arith));
      ends = omega (arith, next top (omega arith));
    }

-- the test of a front part: its turn, and its neighbouring stops at most n apart
abbrev front_keeps : Job → ℕ → ℕ → ℕ → Bool
front_keeps job j n h = front_allowed job j h && stops_within (position job.layout) n (stops_on job j (from_front h))

-- the test of a back part
abbrev back_keeps : Job → ℕ → ℕ → ℕ → Bool
back_keeps job j n i = back_allowed job j i && stops_within (position job.layout) n (stops_on job j (from_back i))

-- two tests of each of two parts, in another order
regroup : (p q f b : Bool) → (p && (q && (f && b))) ≡ ((p && f) && ((q && b) && true))
regroup true q true b = sym (and-true (q && b))
regroup true true false b = refl
regroup true false false b = refl
regroup false q f b = refl

module _ (job : Job) (j : ℕ) (small : job.layout.cells ≤ 24) where
  -- the number of a front turn
  first_at_lem : (h : ℕ) → h ≤ suc job.layout.cells → get_or (largest_of job j).from h 0 ≡ first_back job j h
  unfolding largest_of
  first_at_lem h l = by_height_at (first_back job j) 0 h (omega arith)

  -- it lies past the turn, and not past the height behind the back crossing
  first_past_lem : (h : ℕ) → h ≤ suc job.layout.cells → (h < first_back job j h) × (first_back job j h ≤ job.layout.cells + 2)
  unfolding first_back back_height
  first_past_lem h l =
      let cells = job.layout.cells in first_range (wide job j h) (suc h) (suc cells - h) (cells + 2) (omega arith)

  -- what is wide with a further front turn is wide with a nearer one
  first_grows : (h : ℕ) → h < job.layout.cells → first_back job j h ≤ first_back job j (suc h)
  unfolding first_back back_height
  first_grows h l =
      let cells = job.layout.cells in
      let one_less : suc cells - h ≡ suc (suc cells - suc h) = omega arith in
      rw (one_less)
      (first_earlier (wide job j (suc h)) (wide job j h) (suc h) (suc cells - suc h)
      (λ i low high. wide_longer job j small (suc h) h i i (omega arith) l (omega arith) (omega arith) (omega arith)))

  -- a back turn goes with a front turn where the gap between them is wide
  first_wide_lem : (h i : ℕ) → h < i → i ≤ suc job.layout.cells → leb (first_back job j h) i ≡ wide job j h i
  unfolding first_back back_height
  first_wide_lem h i l high =
      let cells = job.layout.cells in
      first_upwards (wide job j h) (suc h) (suc cells - h) i (λ k low le. wide_longer job j small h h k i (omega arith) (omega arith) (omega arith) le high) l (omega arith)

  -- LARGEST's are graded
  graded_largest : Graded (largest_of job j).from (suc job.layout.cells)
  graded_largest =
      let cells = job.layout.cells in
      let next : (h : ℕ) → first_back job j (h + 1) ≡ first_back job j (suc h) = λ h. ap (first_back job j) (add-one h) in
      record {
        past = λ h l. omega (arith, first_at_lem h l, first_past_lem h l);
        grows = λ h l.
            let step : first_back job j h ≤ first_back job j (suc h) =
            ⊎_elim (λ e. omega (arith, first_past_lem h (omega arith), first_past_lem (suc h) l)) (first_grows h) (eq-or-lt_of_le (le_of_suc-le-suc l)) in
            omega (arith, first_at_lem h (omega arith), first_at_lem (h + 1) (omega arith), next h);
        ends = omega (arith, first_at_lem (suc cells) (omega arith), first_past_lem (suc cells) (omega arith));
      }

  -- a front part and a back part may turn at a cell where it holds a listed article
  cell_turn : (c : ℕ) → 1 ≤ c → c ≤ job.layout.cells → (front_allowed job j c ≡ cell_holds_listed job j c) × (back_allowed job j c ≡ cell_holds_listed job j c)
  unfolding back_height
  cell_turn c low high =
      let cells = job.layout.cells in
      let in_aisle : listed_at job j c ≡ cell_holds_listed job j c = rw (le-leb 1 c low, le-leb c cells high) in
      (rw (ne_eqb c 0 (λ e. omega arith)) in_aisle, rw (ne_eqb c (suc cells) (λ e. omega arith)) in_aisle)

  -- the test of a front part that turns at a cell is the policy's
  front_part_lem : (n h : ℕ) → 1 ≤ h → h ≤ job.layout.cells → front_keeps job j n h ≡ part_keeps job j n (from_front h)
  unfolding part_keeps
  front_part_lem n h low high = ap (λ b. b && stops_within (position job.layout) n (stops_on job j (from_front h))) (cell_turn h low high).0

  -- a back part likewise
  back_part_lem : (n i : ℕ) → 1 ≤ i → i ≤ job.layout.cells → back_keeps job j n i ≡ part_keeps job j n (from_back i)
  unfolding part_keeps
  back_part_lem n i low high = ap (λ b. b && stops_within (position job.layout) n (stops_on job j (from_back i))) (cell_turn i low high).1

  -- a front part that is not there passes
  front_none : (n : ℕ) → front_keeps job j n 0 ≡ true
  unfolding front_stops
  front_none n = ap (stops_within (position job.layout) n) (front_stops_lem job j small 0 (omega arith))

  -- so does a back part that is not there
  back_none : (n : ℕ) → back_keeps job j n (suc job.layout.cells) ≡ true
  unfolding back_stops back_height
  back_none n =
      let top = suc job.layout.cells in
      let no_cell : top - top ≡ 0 = omega arith in
      let stops = rw no_cell at (back_stops_lem job j small top (omega arith) (omega arith)) in
      rw (eq-eqb top top refl) (ap (stops_within (position job.layout) n) stops)

  -- the arrays' test is that of both parts
  allows_parts : (h i : ℕ) → h < i → i ≤ suc job.layout.cells
      → allows_turns (largest_of job j) h i ≡ (front_keeps job j (gap_length job.layout h i) h && (back_keeps job j (gap_length job.layout h i) i && true))
  unfolding allows_turns largest_of wide
  allows_parts h i l high =
      let z = job.layout in
      let within : List ℕ → Bool = stops_within (position z) (gap_length z h i) in
      let front = by_height_at (front_allowed job j) false h (omega arith) in
      let back = by_height_at (back_allowed job j) false i (omega arith) in
      let goes = ap (λ n. leb n i) (first_at_lem h (omega arith)) ∙ first_wide_lem h i l high in
      ap₂ ◌&&◌ front (ap₂ ◌&&◌ back goes)
      ∙ regroup (front_allowed job j h) (back_allowed job j i) (within (stops_on job j (from_front h))) (within (stops_on job j (from_back i)))

-- MIDPOINT's and LARGEST's are graded
pub graded : (gaps : Bool) (job : Job) (j : ℕ) → job.layout.cells ≤ 24 → Graded (between_of gaps job j).from (job.layout.cells + 1)
unfolding between_of
graded true job j small = rw (add-one job.layout.cells) (graded_largest job j small)
graded false job j small = graded_halves job.layout (job.layout.cells + 1) (omega arith)

-- MIDPOINT's arrays ask both halves
halves_parts : (z : Layout) (h i : ℕ) → h < i → i ≤ 25 → allows_turns (halves_of z) h i ≡ (in_front_half z h && in_back_half z i)
unfolding allows_turns halves_of
halves_parts z h i l high =
    let front = by_height_at (in_front_half z) false h (omega arith) in
    let back = by_height_at (in_back_half z) false i (omega arith) in
    let past = ap (λ n. leb n i) (by_height_at suc 0 h (omega arith)) ∙ le-leb (suc h) i l in
    ap₂ ◌&&◌ front (ap₂ ◌&&◌ back past ∙ and-true (in_back_half z i))

-- a front part that is not there keeps to its half
front_half_none : (z : Layout) → in_front_half z 0 ≡ true
unfolding in_front_half
front_half_none z = le-leb (2 * position z 0) (aisle_length z) (omega (arith, position_front z))

-- so does a back part that is not there
back_half_none : (z : Layout) → in_back_half z (suc z.cells) ≡ true
unfolding in_back_half
back_half_none z = le-leb (aisle_length z) (2 * position z (suc z.cells)) (omega (arith, position_back z (suc z.cells) (omega arith)))

-- MIDPOINT's test, of an action that is walked there and back
pub allows_halves : (job : Job) (j : ℕ) (a : Action) → job.layout.cells ≤ 24 → Fits job.layout.cells a → through a ≡ false
    → allows_turns (between_of false job j) (gap_from a) (gap_to job.layout.cells a) ≡ halved job.layout a
unfolding between_of
allows_halves job j Void small fits e =
    let z = job.layout in
    halves_parts z 0 (suc z.cells) (omega arith) (omega arith) ∙ ap₂ ◌&&◌ (front_half_none z) (back_half_none z)
allows_halves job j (Bottom i) small fits e =
    let z = job.layout in
    halves_parts z i (suc z.cells) (omega arith) (omega arith) ∙ ap (λ b. in_front_half z i && b) (back_half_none z) ∙ and-true (in_front_half z i)
allows_halves job j (Top i) small fits e =
    let z = job.layout in
    halves_parts z 0 i (omega arith) (omega arith) ∙ ap (λ b. b && in_back_half z i) (front_half_none z)
allows_halves job j (Gap h i) small fits e = halves_parts job.layout h i (omega arith) (omega arith)
allows_halves job j Once small fits e = absurd (true≢false e)
allows_halves job j Twice small fits e = absurd (true≢false e)

-- LARGEST's test, of an action that is walked there and back
pub allows_largest : (job : Job) (j : ℕ) (a : Action) → job.layout.cells ≤ 24 → Fits job.layout.cells a → through a ≡ false
    → allows_turns (between_of true job j) (gap_from a) (gap_to job.layout.cells a) ≡ keeps_largest_gap job j a
unfolding between_of keeps_largest_gap
allows_largest job j Void small fits e =
    let z = job.layout in
    let gap = gap_length z 0 (suc z.cells) in
    allows_parts job j small 0 (suc z.cells) (omega arith) (omega arith)
    ∙ ap₂ (λ p q. p && (q && true)) (front_none job j small gap) (back_none job j small gap)
allows_largest job j (Bottom i) small fits e =
    let z = job.layout in
    let gap = gap_length z i (suc z.cells) in
    rw (untrodden_gap z j (Bottom i) fits e) (
    allows_parts job j small i (suc z.cells) (omega arith) (omega arith)
    ∙ ap₂ (λ p q. p && (q && true)) (front_part_lem job j small gap i fits.0 fits.1) (back_none job j small gap)
    )
allows_largest job j (Top i) small fits e =
    let z = job.layout in
    let gap = gap_length z 0 i in
    rw (untrodden_gap z j (Top i) fits e) (
    allows_parts job j small 0 i (omega arith) (omega arith)
    ∙ ap₂ (λ p q. p && (q && true)) (front_none job j small gap) (back_part_lem job j small gap i fits.0 fits.1)
    )
allows_largest job j (Gap h i) small fits e =
    let z = job.layout in
    let gap = gap_length z h i in
    rw (untrodden_gap z j (Gap h i) fits e) (
    allows_parts job j small h i (omega arith) (omega arith)
    ∙ ap₂ (λ p q. p && (q && true)) (front_part_lem job j small gap h fits.0 (omega arith)) (back_part_lem job j small gap i (omega arith) fits.2)
    )
allows_largest job j Once small fits e = absurd (true≢false e)
allows_largest job j Twice small fits e = absurd (true≢false e)

-- the arrays by layout and flags are the job's
pub between_by_lem : (gaps : Bool) (job : Job) (j : ℕ) → job.layout.cells ≤ 24 → between_by gaps job.layout (listed_flags job j) ≡ between_of gaps job j
unfolding between_by between_of
between_by_lem true job j few = largest_by_lem job j few
between_by_lem false job j few = refl
