-- LARGEST's rule for aisles between, turned front to back: the stops of a turned part are the turned stops, and their distances are kept.
use Prim.Native.Nat.{ℕ, suc, ◌-◌, ◌≤◌, ◌<◌}
use mathlib.Core.Path.{◌≡◌, refl, sym, ◌∙◌, ap, subst}
use mathlib.Core.Logic.{◌⊎◌, inl, inr}
use mathlib.Core.List.Memᴰ
use mathlib.Core.List.{List, [], ◌∷◌, Memᴰ}
use mathlib.Core.Bool.{false, true≢false}
use native.Mathlib.Omega.{arith}
use Rattle.rules.specs.declared.Layout.{Layout}
use Rattle.rules.specs.declared.Action.{Action}
use Rattle.rules.specs.declared.Action.TheVariants.{Void, Bottom, Top, Gap, Once, Twice}
use Rattle.rules.specs.Lists.{Sorted}
use Rattle.rules.specs.Store.{position, back_height}
use Rattle.rules.specs.Jobs.{Job, cell_holds_listed}
use Rattle.rules.specs.Plans.{Fits}
use Rattle.rules.specs.Policies.{Part, from_front, from_back, parts_of, turn_of, part_passes, listed_cells, stops_on, Neighbours, next, later, untrodden, through, LargestGap}
use Rattle.rules.specs.Turned.{turned_height, turned_action}
use Rattle.rules.proofs.Stops.{gap_from, gap_to, untrodden_gap, entry_of, ListedOn, stop_passed, passed_stop, sorted_stops, Bare, neighbours_bare}
use Rattle.mirror.specs.Turned.{turned_into, Opposite}
use Rattle.mirror.proofs.Plans.{turned_fits, turned_cells}
use Rattle.mirror.proofs.Serving.{InCells, turned_cell_holds}

-- neighbours are members
neighbours_in : {x y : ℕ} {stops : List ℕ} → Neighbours stops x y → Memᴰ x stops × Memᴰ y stops
neighbours_in next = (Memᴰ.head refl, Memᴰ.tail (Memᴰ.head refl))
neighbours_in (later n) = let rest = neighbours_in n in (Memᴰ.tail rest.0, Memᴰ.tail rest.1)

-- in a sorted list two members with none between them are neighbours
sorted_neighbours : (x y : ℕ) (stops : List ℕ) → Sorted ◌<◌ stops → Memᴰ x stops → Memᴰ y stops → x < y
    → ((c : ℕ) → Memᴰ c stops → x < c → c < y → ⊥) → Neighbours stops x y
sorted_neighbours x y [] s l m up apart = absurd (Memᴰ.not-nil l)
sorted_neighbours x y (w ∷ stops) s (Memᴰ.head e) (Memᴰ.head f) up apart = absurd (omega arith)
sorted_neighbours x y (w ∷ stops) s (Memᴰ.tail l) (Memᴰ.head f) up apart = let g = s.0 x l in absurd (omega arith)
sorted_neighbours x y (w ∷ stops) s (Memᴰ.tail l) (Memᴰ.tail m) up apart =
    later (sorted_neighbours x y stops s.1 l m up (λ c k. apart c (Memᴰ.tail k)))
sorted_neighbours x y (w ∷ []) s (Memᴰ.head e) (Memᴰ.tail m) up apart = absurd (Memᴰ.not-nil m)
sorted_neighbours x y (w ∷ v ∷ stops) s (Memᴰ.head e) (Memᴰ.tail (Memᴰ.head f)) up apart =
    subst (λ (a : ℕ). Neighbours (w ∷ v ∷ stops) a y) (sym e) (subst (λ (b : ℕ). Neighbours (w ∷ v ∷ stops) w b) (sym f) next)
sorted_neighbours x y (w ∷ v ∷ stops) s (Memᴰ.head e) (Memᴰ.tail (Memᴰ.tail m)) up apart =
    let g = s.0 v (Memᴰ.head refl) in
    absurd (apart v (Memᴰ.tail (Memᴰ.head refl)) (omega arith) (s.1.0 y m))

-- two stops on a part with no cell between them that holds a listed article are neighbours
bare_neighbours : (job : Job) (j : ℕ) (part : Part) (x y : ℕ) → Memᴰ x (stops_on job j part) → Memᴰ y (stops_on job j part)
    → Bare job.layout.cells (cell_holds_listed job j) x y → Neighbours (stops_on job j part) x y
bare_neighbours job j part x y l m bare =
    sorted_neighbours x y (stops_on job j part) (sorted_stops job j part) l m bare.upwards (λ c k low high. between part c low high (stop_passed job j part c k))
  where
    between : (p : Part) (c : ℕ) → x < c → c < y → (c ≡ entry_of job.layout p) ⊎ ListedOn job j p c → ⊥
    between (from_front i) c low high (inl e) = omega arith
    between (from_back i) c low high (inl e) = let top = bare.within in omega arith
    between p c low high (inr on) = bare.none_between c low high on.holds

-- the crossing from which a part is entered is a stop on it
entry_stop : (job : Job) (j : ℕ) (part : Part) (s : ℕ) → s ≡ entry_of job.layout part → Memᴰ s (stops_on job j part)
unfolding back_height
entry_stop job j (from_front i) s e = Memᴰ.head e
entry_stop job j (from_back i) s e = Memᴰ.append_right (listed_cells job j (from_back i)) (Memᴰ.head e)

-- a part turned: it is entered from the other crossing
abbrev turned_part : ℕ → Part → Part
turned_part cells (from_front i) = from_back (turned_height cells i)
turned_part cells (from_back i) = from_front (turned_height cells i)

turned_turn : (cells : ℕ) (part : Part) → turn_of (turned_part cells part) ≡ turned_height cells (turn_of part)
turned_turn cells (from_front i) = refl
turned_turn cells (from_back i) = refl

part_twice : (cells : ℕ) (part : Part) → turn_of part ≤ suc cells → turned_part cells (turned_part cells part) ≡ part
part_twice cells (from_front i) h = ap from_front (omega arith)
part_twice cells (from_back i) h = ap from_back (omega arith)

-- it passes the turned cells
turned_part_passes : (cells : ℕ) (part : Part) (c : ℕ) → turn_of part ≤ suc cells → c ≤ suc cells
    → part_passes (turned_part cells part) (turned_height cells c) ≡ part_passes part c
turned_part_passes cells (from_front i) c h low = turned_cells cells c i low h
turned_part_passes cells (from_back i) c h low = turned_cells cells i c h low

-- the parts of a turned action are the turned parts
turned_parts : (cells : ℕ) (a : Action) → Fits cells a → (part : Part) → Memᴰ part (parts_of (turned_action cells a))
    → Memᴰ (turned_part cells part) (parts_of a) × (turn_of part ≤ suc cells)
turned_parts cells Void fits part m = absurd (Memᴰ.not-nil m)
turned_parts cells (Bottom i) fits part m =
    let e = Memᴰ.eq_of_singleton m in
    (Memᴰ.head (ap (turned_part cells) e ∙ part_twice cells (from_front i) (omega arith)), rw e (omega arith))
turned_parts cells (Top i) fits part m =
    let e = Memᴰ.eq_of_singleton m in
    (Memᴰ.head (ap (turned_part cells) e ∙ part_twice cells (from_back i) (omega arith)), rw e (omega arith))
turned_parts cells (Gap h i) fits part m = elim (Memᴰ.cases_cons m) [
  | inl e ↦ (Memᴰ.tail (Memᴰ.head (ap (turned_part cells) e ∙ part_twice cells (from_back i) (omega arith))), rw e (omega arith))
  | inr l ↦ (
      let e = Memᴰ.eq_of_singleton l in
      (Memᴰ.head (ap (turned_part cells) e ∙ part_twice cells (from_front h) (omega arith)), rw e (omega arith)))
]
turned_parts cells Once fits part m = absurd (Memᴰ.not-nil m)
turned_parts cells Twice fits part m = absurd (Memᴰ.not-nil m)

turned_through : (cells : ℕ) (a : Action) → through (turned_action cells a) ≡ through a
turned_through cells Void = refl
turned_through cells (Bottom i) = refl
turned_through cells (Top i) = refl
turned_through cells (Gap h i) = refl
turned_through cells Once = refl
turned_through cells Twice = refl

-- the untrodden part of a turned action lies between the turned heights
record TurnedGap (cells : ℕ) (a : Action) : Type 0 where
  start : gap_from (turned_action cells a) ≡ turned_height cells (gap_to cells a)
  end : gap_to cells (turned_action cells a) ≡ turned_height cells (gap_from a)
  start_low : gap_from a ≤ suc cells
  end_low : gap_to cells a ≤ suc cells

turned_gap : (cells : ℕ) (a : Action) → Fits cells a → through a ≡ false → TurnedGap cells a
turned_gap cells Void fits e = record { start = omega arith; end = omega arith; start_low = omega arith; end_low = omega arith }
turned_gap cells (Bottom i) fits e = record { start = omega arith; end = omega arith; start_low = omega arith; end_low = omega arith }
turned_gap cells (Top i) fits e = record { start = omega arith; end = omega arith; start_low = omega arith; end_low = omega arith }
turned_gap cells (Gap h i) fits e = record { start = omega arith; end = omega arith; start_low = omega arith; end_low = omega arith }
turned_gap cells Once fits e = absurd (true≢false e)
turned_gap cells Twice fits e = absurd (true≢false e)

-- so it is as long
turned_untrodden : (z y : Layout) → Opposite z y → (j : ℕ) (a : Action) → Fits z.cells a → through a ≡ false
    → untrodden y j (turned_action z.cells a) ≡ untrodden z j a
turned_untrodden z y o j a fits e =
    let turned = turned_action z.cells a in
    let g = turned_gap z.cells a fits e in
    let here = untrodden_gap z j a fits e in
    let there = untrodden_gap y j turned (rw o.grid.cells (turned_fits z.cells a fits)) (turned_through z.cells a ∙ e) in
    let upper : gap_to y.cells turned ≡ turned_height z.cells (gap_from a) = ap (λ c. gap_to c turned) o.grid.cells ∙ g.end in
    let at-start = o.heights (gap_from a) g.start_low in
    let at_end_lem = o.heights (gap_to z.cells a) g.end_low in
    omega (arith, here, there, ap (position y) upper, ap (position y) g.start, at-start, at_end_lem)

module _ (job : Job) (y : Layout) (within : InCells job) (o : Opposite job.layout y) (j : ℕ) where
  -- a cell holds what it holds turned
  held : (s : ℕ) → s ≤ suc job.layout.cells → cell_holds_listed job j (turned_height job.layout.cells s) ≡ cell_holds_listed (turned_into y job) j s
  held s h =
      let again : suc job.layout.cells - (suc job.layout.cells - s) ≡ s = omega arith in
      sym (turned_cell_holds job y within j (suc job.layout.cells - s) (omega arith)) ∙ ap (cell_holds_listed (turned_into y job) j) again

  -- a stop of the turned job, turned, is a stop of the job on the turned part
  turned_stop : (part : Part) → turn_of part ≤ suc job.layout.cells → (s : ℕ) → Memᴰ s (stops_on (turned_into y job) j part)
      → Memᴰ (turned_height job.layout.cells s) (stops_on job j (turned_part job.layout.cells part))
  turned_stop part h s m = go (stop_passed (turned_into y job) j part s m)
    where
      entry : (p : Part) → s ≡ entry_of y p → turned_height job.layout.cells s ≡ entry_of job.layout (turned_part job.layout.cells p)
      entry (from_front i) e = omega arith
      entry (from_back i) e = omega (arith, o.grid.cells)

      go : (s ≡ entry_of y part) ⊎ ListedOn (turned_into y job) j part s
          → Memᴰ (turned_height job.layout.cells s) (stops_on job j (turned_part job.layout.cells part))
      go (inl e) = entry_stop job j (turned_part job.layout.cells part) (turned_height job.layout.cells s) (entry part e)
      go (inr on) =
          let low = on.low in
          let high = on.high in
          let cells = o.grid.cells in
          passed_stop job j (turned_part job.layout.cells part) (turned_height job.layout.cells s)
          (record {
            low = omega arith;
            high = omega arith;
            passed = turned_part_passes job.layout.cells part s h (omega arith) ∙ on.passed;
            holds = held s (omega arith) ∙ on.holds;
          })

  -- heights of the turned job with no such cell between them, turned, have none between them
  turned_bare : (v w : ℕ) → Bare y.cells (cell_holds_listed (turned_into y job) j) v w
      → Bare job.layout.cells (cell_holds_listed job j) (turned_height job.layout.cells w) (turned_height job.layout.cells v)
  turned_bare v w bare =
      let up = bare.upwards in
      let top = bare.within in
      let same = o.grid.cells in
      record {
        upwards = omega arith;
        within = omega arith;
        none_between = λ c low high on.
            let there = turned_cell_holds job y within j c (omega arith) ∙ on in
            bare.none_between (turned_height job.layout.cells c) (omega arith) (omega arith) there;
      }

  -- neighbouring stops of the turned job, turned, are neighbouring stops of the job, the other way round
  turned_neighbours : (part : Part) → turn_of part ≤ suc job.layout.cells → (v w : ℕ) → Neighbours (stops_on (turned_into y job) j part) v w
      → Neighbours (stops_on job j (turned_part job.layout.cells part)) (turned_height job.layout.cells w) (turned_height job.layout.cells v)
  turned_neighbours part h v w n =
      let cells = job.layout.cells in
      let bare = turned_bare v w (neighbours_bare (turned_into y job) j part v w n) in
      let both = neighbours_in n in
      bare_neighbours job j (turned_part cells part) (suc cells - w) (suc cells - v) (turned_stop part h w both.1) (turned_stop part h v both.0) bare

  -- LARGEST's rule for aisles between is kept
  pub turned_largest : (a : Action) → Fits job.layout.cells a → LargestGap job j a → LargestGap (turned_into y job) j (turned_action job.layout.cells a)
  turned_largest a fits rule =
      record {
        not_through = turned_through job.layout.cells a ∙ rule.not_through;
        turns = λ part m.
            let c = job.layout.cells in
            let p = turned_parts c a fits part m in
            sym (held (turn_of part) p.1) ∙ ap (cell_holds_listed job j) (sym (turned_turn c part)) ∙ rule.turns (turned_part c part) p.0;
        longest = λ part m v w n.
            let c = job.layout.cells in
            let p = turned_parts c a fits part m in
            let bare = neighbours_bare (turned_into y job) j part v w n in
            let up = bare.upwards in
            let top : w ≤ suc c = omega (arith, bare.within, o.grid.cells) in
            let l = rule.longest (turned_part c part) p.0 (suc c - w) (suc c - v) (turned_neighbours part p.1 v w n) in
            let again-v : suc c - (suc c - v) ≡ v = omega arith in
            let again-w : suc c - (suc c - w) ≡ w = omega arith in
            let at-v = o.heights (suc c - v) (omega arith) in
            let at-w = o.heights (suc c - w) (omega arith) in
            let same = turned_untrodden job.layout y o j a fits rule.not_through in
            omega (arith, same, l, at-v, at-w, ap (position y) again-v, ap (position y) again-w);
      }
