-- LARGEST in one aisle between: the untrodden part of an action can be moved to a longest gap between the listed cells that it passes.
use Prim.Native.Nat.{ℕ, zero, suc, ◌*◌, ◌+◌, ◌-◌, ◌≤◌, ◌<◌}
use mathlib.Core.Path.{◌≡◌, refl, sym, ◌∙◌, ap, subst}
use mathlib.Core.Logic.{◌⊎◌, inl, inr, ◌↔◌}
use mathlib.Core.List.Memᴰ
use mathlib.Core.List.{List, [], ◌∷◌, map, Memᴰ}
use mathlib.Core.Bool.{Bool, true, false, not, ◌&&◌, true≢false, false≢true, and-eq-true_iff}
use native.Mathlib.Nat.{eq-or-lt_of_le}
use native.Mathlib.Omega.{arith}
use lib.Dec.{leb, ltb}
use borrow.Author.Tests.{lt-ltb, ltb-true, le-leb, leb-true, not-true}
use Rattle.tours.proofs.Basics.{split_at, below}
use Rattle.rules.specs.declared.Layout.{Layout}
use Rattle.rules.specs.declared.Action.{Action}
use Rattle.rules.specs.declared.Action.TheVariants.{Void, Bottom, Top, Gap, Once, Twice}
use Rattle.rules.specs.Lists.{from, any_of, select, concat_of}
use Rattle.rules.specs.Store.{aisle_length, position, LayoutWithin}
use Rattle.rules.specs.Jobs.{Job, cell_holds_listed}
use Rattle.rules.specs.Plans.{Fits, passes_cell}
use Rattle.rules.specs.Lengths.{action_length}
use Rattle.rules.specs.Policies.{Part, parts_of, turn_of, untrodden, through, LargestGap}
use Rattle.rules.specs.Machine.{keeps_largest_gap}
use Rattle.rules.proofs.Lists.{or-true, or_right, member_from, from_member, any_false, any_true, member_select, concat_member}
use Rattle.rules.proofs.Lengths.{position_front, position_back, position_within, position_monotone, position_grows}
use Rattle.rules.proofs.Stops.{gap_from, gap_to, untrodden_gap, largest_gap, Bare, neighbours_bare}

-- an action that LARGEST allows in an aisle between, that passes every listed cell that a passes, and is no longer
pub record Moved (job : Job) (j : ℕ) (a b : Action) : Type 0 where
  pub fits : Fits job.layout.cells b
  pub keeps : keeps_largest_gap job j b ≡ true
  pub passes : (c : ℕ) → 1 ≤ c → c ≤ job.layout.cells → cell_holds_listed job j c ≡ true → passes_cell a c ≡ true → passes_cell b c ≡ true
  pub shorter : action_length job.layout b ≤ action_length job.layout a

-- an action that leaves its aisle untrodden just from one height to another
data Leaves (cells : ℕ) : Action → ℕ → ℕ → Type 0 where
  whole : Leaves cells Void 0 (suc cells)
  behind : {i : ℕ} → 1 ≤ i → i ≤ cells → Leaves cells (Bottom i) i (suc cells)
  before : {i : ℕ} → 1 ≤ i → i ≤ cells → Leaves cells (Top i) 0 i
  amid : {h i : ℕ} → 1 ≤ h → h < i → i ≤ cells → Leaves cells (Gap h i) h i

-- a cell at the end of a gap
data AtEnd (cells x y c : ℕ) : Type 0 where
  low_end : c ≡ x → 1 ≤ x → AtEnd cells x y c
  high_end : c ≡ y → y ≤ cells → AtEnd cells x y c

module _ {cells : ℕ} where
  -- every action that is walked there and back does so
  leaves_own : (a : Action) → Fits cells a → through a ≡ false → Leaves cells a (gap_from a) (gap_to cells a)
  leaves_own Void fits e = whole
  leaves_own (Bottom i) fits e = behind fits.0 fits.1
  leaves_own (Top i) fits e = before fits.0 fits.1
  leaves_own (Gap h i) fits e = amid fits.0 fits.1 fits.2
  leaves_own Once fits e = absurd (true≢false e)
  leaves_own Twice fits e = absurd (true≢false e)

  -- and for any two heights some action does
  leaving : (x y : ℕ) → x < y → y ≤ suc cells → (b : Action) × Leaves cells b x y
  leaving x y up top = go x y up (below y cells top)
    where
      go : (h i : ℕ) → h < i → (i ≤ cells) ⊎ (i ≡ suc cells) → (b : Action) × Leaves cells b h i
      go zero i l (inl s) = (Top i, before l s)
      go zero i l (inr e) = (Void, subst (Leaves cells Void 0) (sym e) whole)
      go (suc k) i l (inl s) = (Gap (suc k) i, amid {h = suc k} (omega arith) l s)
      go (suc k) i l (inr e) = (Bottom (suc k), subst (Leaves cells (Bottom (suc k)) (suc k)) (sym e) (behind (omega arith) (omega arith)))

  -- such an action fits the aisle
  leaves_fits : {b : Action} {x y : ℕ} → Leaves cells b x y → Fits cells b
  leaves_fits whole = tt
  leaves_fits (behind l h) = (l, h)
  leaves_fits (before l h) = (l, h)
  leaves_fits (amid l m h) = (l, m, h)

  -- and does not go through it
  leaves_not_through : {b : Action} {x y : ℕ} → Leaves cells b x y → through b ≡ false
  leaves_not_through whole = refl
  leaves_not_through (behind l h) = refl
  leaves_not_through (before l h) = refl
  leaves_not_through (amid l m h) = refl

  -- the gap goes upwards, within the aisle, and no cell in it is passed
  leaves_bare : {b : Action} {x y : ℕ} → Leaves cells b x y → Bare cells (passes_cell b) x y
  leaves_bare whole = record { upwards = omega arith; within = omega arith; none_between = λ c l g p. false≢true p }
  leaves_bare (behind {i} l h) = record { upwards = omega arith; within = omega arith; none_between = λ c low high p. omega (arith, leb-true c i p) }
  leaves_bare (before {i} l h) = record { upwards = l; within = omega arith; none_between = λ c low high p. omega (arith, leb-true i c p) }
  leaves_bare (amid {h} {i} l m g) = record { upwards = m; within = omega arith; none_between = λ c low high p. beside c low high (or-true (leb c h) (leb i c) p) }
    where
      beside : (c : ℕ) → h < c → c < i → (leb c h ≡ true) ⊎ (leb i c ≡ true) → ⊥
      beside c low high (inl p) = omega (arith, leb-true c h p)
      beside c low high (inr p) = omega (arith, leb-true i c p)

  -- all other cells are passed
  leaves_passes : {b : Action} {x y : ℕ} → Leaves cells b x y → (c : ℕ) → 1 ≤ c → c ≤ cells → (x < c → c < y → ⊥) → passes_cell b c ≡ true
  leaves_passes whole c low high out = absurd (out low (omega arith))
  leaves_passes (behind {i} l h) c low high out = elim (split_at i c) [ inl g ↦ absurd (out g (omega arith)) | inr g ↦ le-leb c i g ]
  leaves_passes (before {i} l h) c low high out = elim (split_at c i) [ inl g ↦ absurd (out low g) | inr g ↦ le-leb i c g ]
  leaves_passes (amid {h} {i} l m g) c low high out =
      elim (split_at h c) [ inl s ↦ elim (split_at c i) [ inl t ↦ absurd (out s t) | inr t ↦ rw (le-leb i c t) (or_right (leb c h)) ] | inr s ↦ rw (le-leb c h s) refl ]

  -- turns are at the ends of the gap
  leaves_turns : {b : Action} {x y : ℕ} → Leaves cells b x y → (part : Part) → Memᴰ part (parts_of b) → AtEnd cells x y (turn_of part)
  leaves_turns whole part m = absurd (Memᴰ.not-nil m)
  leaves_turns (behind l h) part m = low_end (ap turn_of (Memᴰ.eq_of_singleton m)) l
  leaves_turns (before l h) part m = high_end (ap turn_of (Memᴰ.eq_of_singleton m)) h
  leaves_turns (amid l m h) part (Memᴰ.head e) = low_end (ap turn_of e) l
  leaves_turns (amid l m h) part (Memᴰ.tail n) = high_end (ap turn_of (Memᴰ.eq_of_singleton n)) h

module _ (z : Layout) where
  -- the untrodden part is as long as the gap
  leaves_untrodden : (j : ℕ) {b : Action} {x y : ℕ} → Leaves z.cells b x y → untrodden z j b ≡ position z y - position z x
  leaves_untrodden j whole = untrodden_gap z j Void tt refl
  leaves_untrodden j (behind {i} l h) = untrodden_gap z j (Bottom i) (l, h) refl
  leaves_untrodden j (before {i} l h) = untrodden_gap z j (Top i) (l, h) refl
  leaves_untrodden j (amid {h} {i} l m g) = untrodden_gap z j (Gap h i) (l, m, g) refl

  -- the action's length is twice the aisle's less twice the gap's
  leaves_length : {b : Action} {x y : ℕ} → Leaves z.cells b x y → action_length z b + 2 * (position z y - position z x) ≡ 2 * aisle_length z
  unfolding action_length
  leaves_length whole = omega (arith, position_front z, position_back z (suc z.cells) (omega arith))
  leaves_length (behind {i} l h) = omega (arith, position_within z i, position_back z (suc z.cells) (omega arith))
  leaves_length (before {i} l h) = omega (arith, position_front z, position_within z i)
  leaves_length (amid {h} {i} l m g) = omega (arith, position_within z i, position_monotone z h i (omega arith))

module _ {A : Type 0} (f : A → ℕ) where
  -- in a list with a first element some member has the largest value of a measure
  largest_of_lem : (x : A) (xs : List A) → (w : A) × Memᴰ w (x ∷ xs) × ((y : A) → Memᴰ y (x ∷ xs) → f y ≤ f w)
  largest_of_lem x [] = (x, Memᴰ.head refl, λ y m. let e = ap f (Memᴰ.eq_of_singleton m) in omega arith)
  largest_of_lem x (y ∷ ys) = let rest = largest_of_lem y ys in go rest.0 rest.1 rest.2 (split_at (f x) (f rest.0))
    where
      go : (w : A) → Memᴰ w (y ∷ ys) → ((v : A) → Memᴰ v (y ∷ ys) → f v ≤ f w) → (f x < f w) ⊎ (f w ≤ f x)
          → (u : A) × Memᴰ u (x ∷ y ∷ ys) × ((v : A) → Memᴰ v (x ∷ y ∷ ys) → f v ≤ f u)
      go w m most (inl l) = (w, Memᴰ.tail m, λ v k. elim (Memᴰ.cases_cons k) [ inl e ↦ (let same = ap f e in omega arith) | inr t ↦ most v t ])
      go w m most (inr l) = (x, Memᴰ.head refl, λ v k. elim (Memᴰ.cases_cons k) [ inl e ↦ (let same = ap f e in omega arith) | inr t ↦ omega (arith, most v t) ])

  -- and so in every list with a member
  largest_in : {x : A} {xs : List A} → Memᴰ x xs → (w : A) × Memᴰ w xs × ((y : A) → Memᴰ y xs → f y ≤ f w)
  largest_in (Memᴰ.head {x} {xs} e) = largest_of_lem x xs
  largest_in (Memᴰ.tail {x} {xs} m) = largest_of_lem x xs

-- the test of a bare stretch, given as a pair of heights
abbrev is_bare : ℕ → (ℕ → Bool) → ℕ × ℕ → Bool
is_bare cells held p = ltb p.0 p.1 && (leb p.1 (suc cells) && not (any_of held (from (suc p.0) (p.1 - suc p.0))))

-- it holds just of bare stretches
bare_test : (cells : ℕ) (held : ℕ → Bool) (x y : ℕ) → (is_bare cells held (x, y) ≡ true) ↔ Bare cells held x y
bare_test cells held x y = (told, tested)
  where
    between : List ℕ
    between = from (suc x) (y - suc x)

    told : is_bare cells held (x, y) ≡ true → Bare cells held x y
    told h =
        let tests = (and-eq-true_iff (ltb x y) (leb y (suc cells) && not (any_of held between))).0 h in
        let others = (and-eq-true_iff (leb y (suc cells)) (not (any_of held between))).0 tests.1 in
        let none_held = (any_false held between).0 (not-true (any_of held between) others.1) in
        record {
          upwards = ltb-true x y tests.0;
          within = leb-true y (suc cells) others.0;
          none_between = λ c low high e. true≢false (sym e ∙ none_held c (from_member c (suc x) (y - suc x) low (omega arith)));
        }

    tested : Bare cells held x y → is_bare cells held (x, y) ≡ true
    tested bare = rw (lt-ltb x y bare.upwards, le-leb y (suc cells) bare.within) (go (any_of held between) refl)
      where
        go : (t : Bool) → any_of held between ≡ t → not t ≡ true
        go true e =
            let found = (any_true held between).0 e in
            let range = member_from (suc x) (y - suc x) found.1 in
            absurd (bare.none_between found.0 range.0 (omega arith) found.2)
        go false e = refl

-- the bare stretches of an aisle: all pairs of its heights are tried
bare_stretches : ℕ → (ℕ → Bool) → List (ℕ × ℕ)
bare_stretches cells held = let heights = from 0 (suc (suc cells)) in select (is_bare cells held) (concat_of (λ u. map (λ v. (u, v)) heights) heights)

-- they are in the list, and nothing else is
bare_stretches_lem : (cells : ℕ) (held : ℕ → Bool) (u v : ℕ) → Memᴰ {A = ℕ × ℕ} (u, v) (bare_stretches cells held) ↔ Bare cells held u v
unfolding bare_stretches
bare_stretches_lem cells held u v =
    let heights = from 0 (suc (suc cells)) in
    let chosen = member_select {x = (u, v)} (is_bare cells held) (concat_of (λ x. map (λ y. (x, y)) heights) heights) in
    let test = bare_test cells held u v in
    (λ m. test.0 (chosen.0 m).1, λ bare. chosen.1 (tried bare.upwards bare.within, test.1 bare))
  where
    height : (x : ℕ) → x ≤ suc cells → Memᴰ x (from 0 (suc (suc cells)))
    height x l = from_member x 0 (suc (suc cells)) (omega arith) (omega arith)

    tried : u < v → v ≤ suc cells → Memᴰ {A = ℕ × ℕ} (u, v) (concat_of (λ x. map (λ y. (x, y)) (from 0 (suc (suc cells)))) (from 0 (suc (suc cells))))
    tried up top = concat_member (λ x. map (λ y. (x, y)) (from 0 (suc (suc cells)))) (height u (omega arith)) (Memᴰ.map (λ y. (u, y)) (height v top))

-- a longest bare stretch of an aisle
record Widest (z : Layout) (held : ℕ → Bool) (x y : ℕ) : Type 0 where
  bare : Bare z.cells held x y
  most : (u v : ℕ) → Bare z.cells held u v → position z v - position z u ≤ position z y - position z x

-- where there is a bare stretch there is a longest
widest : (z : Layout) (held : ℕ → Bool) (x y : ℕ) → Bare z.cells held x y → (u v : ℕ) × Widest z held u v
widest z held x y bare =
    let stretches = bare_stretches_lem z.cells held in
    let (p, m, most) = largest_in (λ (q : ℕ × ℕ). position z q.1 - position z q.0) ((stretches x y).1 bare) in
    (p.0, p.1, record { bare = (stretches p.0 p.1).0 m; most = λ u v b. most (u, v) ((stretches u v).1 b) })

module _ (cells : ℕ) (held : ℕ → Bool) where
  -- a bare stretch that begins at a cell of which the test does not hold may begin one earlier
  lower : (k y : ℕ) → Bare cells held (suc k) y → held (suc k) ≡ false → Bare cells held k y
  lower k y bare e = record { upwards = omega (arith, bare.upwards); within = bare.within; none_between = λ c low high h. go c high h (eq-or-lt_of_le low) }
    where
      go : (c : ℕ) → c < y → held c ≡ true → (suc k ≡ c) ⊎ (suc k < c) → ⊥
      go c high h (inl s) = true≢false (sym h ∙ ap held (sym s) ∙ e)
      go c high h (inr l) = bare.none_between c l high h

  -- and one that ends at such a cell may end one later
  higher : (x y : ℕ) → Bare cells held x y → y ≤ cells → held y ≡ false → Bare cells held x (suc y)
  higher x y bare le e = record { upwards = omega (arith, bare.upwards); within = omega arith; none_between = λ c low high h. go c low high h (split_at c y) }
    where
      go : (c : ℕ) → x < c → c < suc y → held c ≡ true → (c < y) ⊎ (y ≤ c) → ⊥
      go c low high h (inl l) = bare.none_between c low l h
      go c low high h (inr l) = let s : c ≡ y = omega arith in true≢false (sym h ∙ ap held s ∙ e)

  -- a stretch is also bare by a test that holds of fewer cells
  bare_of_fewer : {x y : ℕ} (fewer : ℕ → Bool) → ((c : ℕ) → fewer c ≡ true → held c ≡ true) → Bare cells held x y → Bare cells fewer x y
  bare_of_fewer fewer imply bare =
      record { upwards = bare.upwards; within = bare.within; none_between = λ c low high h. bare.none_between c low high (imply c h) }

-- a test that cannot fail holds
cannot_fail : (t : Bool) → (t ≡ false → ⊥) → t ≡ true
cannot_fail true h = refl
cannot_fail false h = absurd (h refl)

module _ (z : Layout) (lw : LayoutWithin z) (held : ℕ → Bool) where
  -- a longest bare stretch begins at the front crossing or at a cell of which the test holds: otherwise it might begin earlier
  widest_front : (x y : ℕ) → Widest z held x y → 1 ≤ x → held x ≡ true
  widest_front zero y w low = absurd (omega arith)
  widest_front (suc k) y w low =
      let up = w.bare.upwards in
      let top = w.bare.within in
      let grows = position_grows z lw k (suc k) (omega arith) (omega arith) in
      cannot_fail (held (suc k)) (λ e. omega (arith, w.most k y (lower z.cells held k y w.bare e), position_monotone z (suc k) y (omega arith)))

  -- and ends at the back crossing or at such a cell
  widest_back : (x y : ℕ) → Widest z held x y → y ≤ z.cells → held y ≡ true
  widest_back x y w le =
      let up = w.bare.upwards in
      let grows = position_grows z lw y (suc y) (omega arith) (omega arith) in
      cannot_fail (held y) (λ e. omega (arith, w.most x (suc y) (higher z.cells held x y w.bare le e), position_monotone z x y (omega arith)))

-- whether a cell is passed by an action and holds a listed article
abbrev kept : Job → ℕ → Action → ℕ → Bool
kept job j a c = passes_cell a c && cell_holds_listed job j c

-- it is so just where both tests hold
kept_both : (job : Job) (j : ℕ) (a : Action) (c : ℕ) → (kept job j a c ≡ true) ↔ ((passes_cell a c ≡ true) × (cell_holds_listed job j c ≡ true))
kept_both job j a c = and-eq-true_iff (passes_cell a c) (cell_holds_listed job j c)

-- an action whose gap is a longest stretch bare of the listed cells that another one passes keeps LARGEST's rule
widest_keeps : (job : Job) → LayoutWithin job.layout → (j : ℕ) (a : Action) (x y : ℕ) → Widest job.layout (kept job j a) x y
    → (b : Action) → Leaves job.layout.cells b x y → LargestGap job j b
widest_keeps job lw j a x y w b l =
    record {
      not_through = leaves_not_through l;
      turns = λ part m. turn (turn_of part) (leaves_turns l part m);
      longest = λ part m u v n.
          let bare = bare_of_fewer job.layout.cells (cell_holds_listed job j) (kept job j a) (λ c h. ((kept_both job j a c).0 h).1) (neighbours_bare job j part u v n) in
          rw (leaves_untrodden job.layout j l) (w.most u v bare);
    }
  where
    turn : (c : ℕ) → AtEnd job.layout.cells x y c → cell_holds_listed job j c ≡ true
    turn c (low_end e low) = rw e ((kept_both job j a x).0 (widest_front job.layout lw (kept job j a) x y w low)).1
    turn c (high_end e high) = rw e ((kept_both job j a y).0 (widest_back job.layout lw (kept job j a) x y w high)).1

-- the untrodden part is moved to a longest stretch bare of the listed cells that the action passes
pub move_gap : (job : Job) → LayoutWithin job.layout → (j : ℕ) (a : Action) → Fits job.layout.cells a → through a ≡ false → (b : Action) × Moved job j a b
move_gap job lw j a fits not_through =
    let held = kept job j a in
    let both = kept_both job j a in
    let own = leaves_own a fits not_through in
    let passed = bare_of_fewer job.layout.cells (passes_cell a) held (λ c h. ((both c).0 h).0) (leaves_bare own) in
    let (x, y, w) = widest job.layout held (gap_from a) (gap_to job.layout.cells a) passed in
    let (b, l) = leaving x y w.bare.upwards w.bare.within in (
      b,
      record {
        fits = leaves_fits l;
        keeps = (largest_gap job j b).1 (widest_keeps job lw j a x y w b l);
        passes = λ c low high holds passes. leaves_passes l c low high (λ g h. w.bare.none_between c g h ((both c).1 (passes, holds)));
        shorter = omega (arith, leaves_length job.layout own, leaves_length job.layout l, w.most (gap_from a) (gap_to job.layout.cells a) passed);
      },
    )
