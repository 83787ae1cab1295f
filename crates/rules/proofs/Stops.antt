-- LARGEST's rule for aisles between: the untrodden part as a gap between two heights, neighbouring stops, and the test that is the rule.
use Prim.Native.Nat.{ℕ, suc, ◌*◌, ◌-◌, ◌≤◌, ◌<◌}
use mathlib.Core.Path.{◌≡◌, refl, sym, ap}
use mathlib.Core.Logic.{◌⊎◌, inl, inr, ◌↔◌}
use mathlib.Core.List.Memᴰ
use mathlib.Core.List.{List, [], ◌∷◌, Memᴰ}
use mathlib.Core.Bool.{Bool, true, false, cond, not, ◌&&◌, ◌||◌, true≢false, or-false, and-eq-true_iff}
use native.Mathlib.Omega.{arith}
use lib.Dec.{leb, eqb}
use borrow.Author.Tests.{lt-ltb, le-ltb, le-leb, lt-leb, leb-true, not-true}
use Rattle.rules.specs.declared.Layout.{Layout}
use Rattle.rules.specs.declared.Action.{Action}
use Rattle.rules.specs.declared.Action.TheVariants.{Void, Bottom, Top, Gap, Once, Twice}
use Rattle.rules.specs.Lists.{from, all_of, any_of, Sorted}
use Rattle.rules.specs.Store.{position, back_height, distance}
use Rattle.rules.specs.Jobs.{Job, cell_holds_listed}
use Rattle.rules.specs.Plans.{Fits, aisle_treads, passes_cell}
use Rattle.rules.specs.Policies.{Part, from_front, from_back, parts_of, turn_of, part_passes, listed_cells, stops_on, Neighbours, next, later, untrodden, through, LargestGap}
use Rattle.rules.specs.Machine.{stops_within, part_keeps, keeps_largest_gap}
use Rattle.rules.proofs.Lists.{sum_agree, all_true, member_from, from_member, member_select, sorted_append, sorted_select, sorted_from}
use Rattle.rules.proofs.Lengths.{position_monotone, three_stretches}

-- the height from which an action that is walked there and back leaves its aisle untrodden
abbrev pub gap_from : Action → ℕ
gap_from Void = 0
gap_from (Bottom i) = i
gap_from (Top i) = 0
gap_from (Gap h i) = h
gap_from Once = 0
gap_from Twice = 0

-- and the height up to which it does
abbrev pub gap_to : ℕ → Action → ℕ
gap_to cells Void = suc cells
gap_to cells (Bottom i) = suc cells
gap_to cells (Top i) = i
gap_to cells (Gap h i) = i
gap_to cells Once = 0
gap_to cells Twice = 0

-- a distance that counts or not, as a factor
counted : (b : Bool) (d : ℕ) → cond b d 0 ≡ cond b 1 0 * d
counted true d = omega arith
counted false d = omega arith

-- an aisle that is untrodden just from height h to height i
untrodden_between : (z : Layout) (j : ℕ) (a : Action) (h i : ℕ) → h ≤ i → i ≤ suc z.cells → ((k : ℕ) → k < h → aisle_treads a k ≡ 2)
    → ((k : ℕ) → h ≤ k → k < i → aisle_treads a k ≡ 0) → ((k : ℕ) → i ≤ k → k < suc z.cells → aisle_treads a k ≡ 2)
    → untrodden z j a ≡ position z i - position z h
unfolding untrodden distance
untrodden_between z j a h i le within low middle high =
    let t : ℕ → ℕ = λ k. cond (eqb (aisle_treads a k) 0) 1 0 in
    let d : ℕ → ℕ = λ k. position z (suc k) - position z k in
    let all = three_stretches (position z) t (position_monotone z) 0 1 0 h i (suc z.cells) le within (λ k l. rw (low k l)) (λ k l g. rw (middle k l g)) (λ k l g. rw (high k l g)) in
    let terms = sum_agree (λ k. cond (eqb (aisle_treads a k) 0) (d k) 0) (λ k. t k * d k) (from 0 (suc z.cells)) (λ k m. counted (eqb (aisle_treads a k) 0) (d k)) in
    omega (arith, all, terms)

-- the untrodden part of an action that is walked there and back lies between its two heights
pub untrodden_gap : (z : Layout) (j : ℕ) (a : Action) → Fits z.cells a → through a ≡ false → untrodden z j a ≡ position z (gap_to z.cells a) - position z (gap_from a)
untrodden_gap z j Void fits e =
    untrodden_between z j Void 0 (suc z.cells) (omega arith) (omega arith) (λ k l. absurd (omega arith)) (λ k l g. refl) (λ k l g. absurd (omega arith))
untrodden_gap z j (Bottom i) fits e =
    untrodden_between z j (Bottom i) i (suc z.cells) (omega arith) (omega arith) (λ k l. rw (lt-ltb k i l)) (λ k l g. rw (le-ltb k i l)) (λ k l g. absurd (omega arith))
untrodden_gap z j (Top i) fits e =
    untrodden_between z j (Top i) 0 i (omega arith) (omega arith) (λ k l. absurd (omega arith)) (λ k l g. rw (lt-leb i k g)) (λ k l g. rw (le-leb i k l))
untrodden_gap z j (Gap h i) fits e =
    untrodden_between z j (Gap h i) h i (omega arith) (omega arith) (λ k l. rw (lt-ltb k h l)) (λ k l g. rw (le-ltb k h l, lt-leb i k g)) (λ k l g. rw (le-ltb k h (omega arith), le-leb i k l))
untrodden_gap z j Once fits e = absurd (true≢false e)
untrodden_gap z j Twice fits e = absurd (true≢false e)

-- the test of the distances between neighbouring stops, either way
stops_within_lem : (at : ℕ → ℕ) (n : ℕ) (stops : List ℕ) → (stops_within at n stops ≡ true) ↔ ((x y : ℕ) → Neighbours stops x y → at y - at x ≤ n)
stops_within_lem at n stops = (λ h x y m. each m h, whole stops)
  where
    behind : (w : ℕ) (l : List ℕ) → stops_within at n (w ∷ l) ≡ true → stops_within at n l ≡ true
    behind w [] h = refl
    behind w (x ∷ l) h = ((and-eq-true_iff (leb (at x - at w) n) (stops_within at n (x ∷ l))).0 h).1

    each : {x y : ℕ} {l : List ℕ} → Neighbours l x y → stops_within at n l ≡ true → at y - at x ≤ n
    each (next {x} {y} {stops = l}) h = leb-true (at y - at x) n ((and-eq-true_iff (leb (at y - at x) n) (stops_within at n (y ∷ l))).0 h).0
    each (later {w} {stops = l} m) h = each m (behind w l h)

    whole : (l : List ℕ) → ((x y : ℕ) → Neighbours l x y → at y - at x ≤ n) → stops_within at n l ≡ true
    whole [] h = refl
    whole (x ∷ []) h = refl
    whole (x ∷ y ∷ l) h = rw (le-leb (at y - at x) n (h x y next)) (whole (y ∷ l) (λ v w m. h v w (later m)))

-- the test of one part: its turn, and its neighbouring stops
part_keeps_lem : (job : Job) (j n : ℕ) (part : Part)
    → (part_keeps job j n part ≡ true) ↔ ((cell_holds_listed job j (turn_of part) ≡ true) × ((x y : ℕ) → Neighbours (stops_on job j part) x y → position job.layout y - position job.layout x ≤ n))
unfolding part_keeps
part_keeps_lem job j n part =
    let at : ℕ → ℕ = position job.layout in
    let near = stops_within_lem at n (stops_on job j part) in
    (λ h. let both = (and-eq-true_iff (cell_holds_listed job j (turn_of part)) (stops_within at n (stops_on job j part))).0 h in (both.0, near.0 both.1), λ h. rw h.0 (near.1 h.1))

-- LARGEST's test for aisles between is its rule
pub largest_gap : (job : Job) (j : ℕ) (a : Action) → (keeps_largest_gap job j a ≡ true) ↔ LargestGap job j a
unfolding keeps_largest_gap
largest_gap job j a =
    let keeps : Part → Bool = part_keeps job j (untrodden job.layout j a) in
    let one = part_keeps_lem job j (untrodden job.layout j a) in
    let every = all_true keeps (parts_of a) in
    let both = and-eq-true_iff (not (through a)) (all_of keeps (parts_of a)) in (
      λ h. record {
        not_through = not-true (through a) (both.0 h).0;
        turns = λ part m. ((one part).0 (every.0 (both.0 h).1 part m)).0;
        longest = λ part m. ((one part).0 (every.0 (both.0 h).1 part m)).1;
      },
      λ rule. rw rule.not_through (every.1 (λ part m. (one part).1 (rule.turns part m, rule.longest part m))),
    )

-- an action that is walked there and back passes just the cells that its parts pass
pub parts_pass : (a : Action) → through a ≡ false → (c : ℕ) → passes_cell a c ≡ any_of (λ part. part_passes part c) (parts_of a)
parts_pass Void e c = refl
parts_pass (Bottom i) e c = sym (or-false (leb c i))
parts_pass (Top i) e c = sym (or-false (leb i c))
parts_pass (Gap h i) e c = ap (λ b. leb c h || b) (sym (or-false (leb i c)))
parts_pass Once e c = absurd (true≢false e)
parts_pass Twice e c = absurd (true≢false e)

-- the height of the crossing from which a part is entered
abbrev pub entry_of : Layout → Part → ℕ
entry_of z (from_front i) = 0
entry_of z (from_back i) = suc z.cells

-- a cell with a listed article that a part passes
pub record ListedOn (job : Job) (j : ℕ) (part : Part) (c : ℕ) : Type 0 where
  pub low : 1 ≤ c
  pub high : c ≤ job.layout.cells
  pub passed : part_passes part c ≡ true
  pub holds : cell_holds_listed job j c ≡ true

-- these are the cells that the list of them has
listed_cells_lem : (job : Job) (j : ℕ) (part : Part) (c : ℕ) → Memᴰ c (listed_cells job j part) ↔ ListedOn job j part c
unfolding listed_cells
listed_cells_lem job j part c =
    let chosen = member_select (λ k. part_passes part k && cell_holds_listed job j k) (from 1 job.layout.cells) in
    let both = and-eq-true_iff (part_passes part c) (cell_holds_listed job j c) in (
      λ m.
          let range = member_from 1 job.layout.cells (chosen.0 m).0 in
          let tests = both.0 (chosen.0 m).1 in
          record { low = range.0; high = omega arith; passed = tests.0; holds = tests.1 },
      λ on. chosen.1 (from_member c 1 job.layout.cells on.low (omega arith), both.1 (on.passed, on.holds)),
    )

-- a stop on a part is the crossing from which it is entered, or a cell with a listed article that it passes
pub stop_passed : (job : Job) (j : ℕ) (part : Part) (s : ℕ) → Memᴰ s (stops_on job j part) → (s ≡ entry_of job.layout part) ⊎ ListedOn job j part s
unfolding back_height
stop_passed job j (from_front i) s m = go (Memᴰ.cases_cons m)
  where
    go : (s ≡ 0) ⊎ Memᴰ s (listed_cells job j (from_front i)) → (s ≡ 0) ⊎ ListedOn job j (from_front i) s
    go (inl e) = inl e
    go (inr l) = inr ((listed_cells_lem job j (from_front i) s).0 l)
stop_passed job j (from_back i) s m = go (Memᴰ.append_cases (listed_cells job j (from_back i)) m)
  where
    go : Memᴰ s (listed_cells job j (from_back i)) ⊎ Memᴰ s (suc job.layout.cells ∷ []) → (s ≡ suc job.layout.cells) ⊎ ListedOn job j (from_back i) s
    go (inl l) = inr ((listed_cells_lem job j (from_back i) s).0 l)
    go (inr l) = inl (Memᴰ.eq_of_singleton l)

-- and such a cell is a stop
pub passed_stop : (job : Job) (j : ℕ) (part : Part) (c : ℕ) → ListedOn job j part c → Memᴰ c (stops_on job j part)
passed_stop job j (from_front i) c on = Memᴰ.tail ((listed_cells_lem job j (from_front i) c).1 on)
passed_stop job j (from_back i) c on = Memᴰ.append_left (back_height job.layout ∷ []) ((listed_cells_lem job j (from_back i) c).1 on)

-- the cells with listed articles on a part are sorted upwards
sorted_cells : (job : Job) (j : ℕ) (part : Part) → Sorted ◌<◌ (listed_cells job j part)
unfolding listed_cells
sorted_cells job j part =
    sorted_select ◌<◌ (λ c. part_passes part c && cell_holds_listed job j c) (from 1 job.layout.cells) (sorted_from 1 job.layout.cells)

-- and so are the stops
pub sorted_stops : (job : Job) (j : ℕ) (part : Part) → Sorted ◌<◌ (stops_on job j part)
unfolding back_height
sorted_stops job j (from_front i) = (λ c m. ((listed_cells_lem job j (from_front i) c).0 m).low, sorted_cells job j (from_front i))
sorted_stops job j (from_back i) =
    let cells = listed_cells job j (from_back i) in
    sorted_append ◌<◌ cells (back_height job.layout ∷ []) (sorted_cells job j (from_back i)) (λ y m. absurd (Memᴰ.not-nil m), tt) (
    λ x y l m. omega (arith, Memᴰ.eq_of_singleton m, ((listed_cells_lem job j (from_back i) x).0 l).high)
    )

-- neighbours in a sorted list: members with no member between them
neighbours_sorted : {x y : ℕ} {stops : List ℕ} → Neighbours stops x y → Sorted ◌<◌ stops
    → Memᴰ x stops × Memᴰ y stops × (x < y) × ((c : ℕ) → Memᴰ c stops → (c ≤ x) ⊎ (y ≤ c))
neighbours_sorted (next {x} {y} {stops}) s = (Memᴰ.head refl, Memᴰ.tail (Memᴰ.head refl), s.0 y (Memᴰ.head refl), apart)
  where
    apart : (c : ℕ) → Memᴰ c (x ∷ y ∷ stops) → (c ≤ x) ⊎ (y ≤ c)
    apart c (Memᴰ.head e) = inl (omega arith)
    apart c (Memᴰ.tail (Memᴰ.head e)) = inr (omega arith)
    apart c (Memᴰ.tail (Memᴰ.tail m)) = let l = s.1.0 c m in inr (omega arith)
neighbours_sorted (later {w} {x} {y} {stops} n) s =
    let rest = neighbours_sorted n s.1 in
    (Memᴰ.tail rest.0, Memᴰ.tail rest.1, rest.2, λ c m. apart c rest.3 (s.0 x rest.0) (Memᴰ.cases_cons m))
  where
    apart : (c : ℕ) → ((d : ℕ) → Memᴰ d stops → (d ≤ x) ⊎ (y ≤ d)) → w < x → (c ≡ w) ⊎ Memᴰ c stops → (c ≤ x) ⊎ (y ≤ c)
    apart c others l (inl e) = inl (omega arith)
    apart c others l (inr m) = others c m

-- no stop lies beyond the back crossing
stop_below : (job : Job) (j : ℕ) (part : Part) (s : ℕ) → Memᴰ s (stops_on job j part) → s ≤ suc job.layout.cells
stop_below job j part s m = go part (stop_passed job j part s m)
  where
    go : (p : Part) → (s ≡ entry_of job.layout p) ⊎ ListedOn job j p s → s ≤ suc job.layout.cells
    go (from_front i) (inl e) = omega arith
    go (from_back i) (inl e) = omega arith
    go p (inr on) = omega (arith, on.high)

-- a part passes the cells between two of its stops
passed_between : (job : Job) (j : ℕ) (part : Part) (x c y : ℕ) → Memᴰ x (stops_on job j part) → Memᴰ y (stops_on job j part) → x < c → c < y → part_passes part c ≡ true
passed_between job j (from_front i) x c y l m low high = go (stop_passed job j (from_front i) y m)
  where
    go : (y ≡ 0) ⊎ ListedOn job j (from_front i) y → leb c i ≡ true
    go (inl e) = absurd (omega arith)
    go (inr on) = le-leb c i (omega (arith, leb-true y i on.passed))
passed_between job j (from_back i) x c y l m low high = go (stop_passed job j (from_back i) x l)
  where
    go : (x ≡ suc job.layout.cells) ⊎ ListedOn job j (from_back i) x → leb i c ≡ true
    go (inl e) = absurd (omega (arith, stop_below job j (from_back i) y m))
    go (inr on) = le-leb i c (omega (arith, leb-true i x on.passed))

-- two heights of an aisle with so many cells, and no cell between them of which the test holds
pub record Bare (cells : ℕ) (held : ℕ → Bool) (x y : ℕ) : Type 0 where
  pub upwards : x < y
  pub within : y ≤ suc cells
  pub none_between : (c : ℕ) → x < c → c < y → held c ≡ true → ⊥

-- neighbouring stops on a part are such heights: no cell between them holds a listed article
pub neighbours_bare : (job : Job) (j : ℕ) (part : Part) (x y : ℕ) → Neighbours (stops_on job j part) x y → Bare job.layout.cells (cell_holds_listed job j) x y
neighbours_bare job j part x y n =
    let stops = neighbours_sorted n (sorted_stops job j part) in
    let top = stop_below job j part y stops.1 in
    record {
      upwards = stops.2;
      within = top;
      none_between = λ c low high holds.
          let passed = passed_between job j part x c y stops.0 stops.1 low high in
          outside low high (stops.3 c (passed_stop job j part c (record { low = omega arith; high = omega arith; passed = passed; holds = holds })));
    }
  where
    outside : {c : ℕ} → x < c → c < y → (c ≤ x) ⊎ (y ≤ c) → ⊥
    outside low high (inl l) = omega arith
    outside low high (inr l) = omega arith
