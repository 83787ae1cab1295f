-- The turns of a kind of action, and all pairs of them in one sweep.
use Rattle.std.specs.Prelude.{ℕ, ◌+◌, ◌*◌, ◌≤◌, ◌<◌, ◌≡◌, ◌⊎◌, List, Bool, false, cond, ◌&&◌, ltb, leb, eqb, length, get_or}
use Rattle.rules.specs.declared.Layout.{Layout}
use Rattle.rules.specs.declared.Kind.{Kind}
use Rattle.rules.specs.declared.Kind.TheVariants.{Void as VOID, Bottom as BOTTOM, Top as TOP, Gap as GAP, Once as ONCE, Twice as TWICE}
use Rattle.between.specs.Between.{Graded}
use Rattle.optimum.specs.Routing.{no_tour, no_key}
use Rattle.aisles.specs.declared.layers.Turns.{Turns}
use Rattle.aisles.specs.declared.repeats.Repeats.{Repeats}
use Rattle.aisles.specs.Actions.{front_cost, back_cost}
use Rattle.demand.specs.Digits.{demands}
use Rattle.demand.specs.Maps.{entry, map_size}
use Rattle.rows.specs.Rows.{states}
use Rattle.rows.specs.Pairs.{walk, key_at, SoundRow}

-- the heights that the front part of a kind of action reaches: VOID and TOP have none, ONCE and TWICE pass all cells
abbrev pub front_at : ℕ → Kind → ℕ → Bool
front_at cells VOID h = eqb h 0
front_at cells BOTTOM h = leb 1 h && leb h cells
front_at cells TOP h = eqb h 0
front_at cells GAP h = leb 1 h && ltb h cells
front_at cells ONCE h = eqb h cells
front_at cells TWICE h = eqb h cells

-- the heights that its back part reaches; `top` is the back crossing, for none
abbrev pub back_at : ℕ → Kind → ℕ → Bool
back_at top VOID i = eqb i top
back_at top BOTTOM i = eqb i top
back_at top TOP i = leb 1 i && ltb i top
back_at top GAP i = leb 2 i && ltb i top
back_at top ONCE i = eqb i top
back_at top TWICE i = eqb i top

-- what a turn costs; 'none' where the kind has none, or may not turn
unfoldable pub front_turn : Layout → Kind → ℕ → Bool → ℕ
front_turn z kind h may = cond (front_at z.cells kind h && may) (front_cost z kind h) no_tour

unfoldable pub back_turn : Layout → Kind → ℕ → Bool → ℕ
back_turn z kind i may = cond (back_at (z.cells + 1) kind i && may) (back_cost z i) no_tour

-- the least back turn that goes with a front turn at height h: what the test says, if it is asked, or the next height
abbrev pub least_back : Bool → ℕ → ℕ → ℕ
least_back between from h = cond between from (h + 1)

-- what a turn costs; 'none' where the neighbouring height leaves the same demand and costs no more
unfoldable pub kept_turn : Bool → ℕ → ℕ → ℕ
kept_turn same neighbour cost = cond (same && leb neighbour cost) no_tour cost

-- a front turn at height h + 1, unless h replaces it, and a back turn at height i, unless i + 1 does
abbrev pub front_kept : Turns → Repeats → ℕ → ℕ
front_kept t same h = kept_turn (get_or same.front h false) (get_or t.front h 0) (get_or t.front (h + 1) 0)

abbrev pub back_kept : Turns → Repeats → ℕ → ℕ
back_kept t same i = kept_turn (get_or same.back i false) (get_or t.back (i + 1) 0) (get_or t.back i 0)

-- the turns that are left then; the first in front and the last at the back have no such neighbour
pub record Thinned (t : Turns) (same : Repeats) (r : Turns) : Type 0 where
  pub top : r.top ≡ t.top
  pub from : r.from ≡ t.from
  pub first : get_or r.front 0 0 ≡ get_or t.front 0 0
  pub front : (h : ℕ) → h < t.top → get_or r.front (h + 1) 0 ≡ front_kept t same h
  pub back : (i : ℕ) → i < t.top → get_or r.back i 0 ≡ back_kept t same i
  pub last : get_or r.back t.top 0 ≡ get_or t.back t.top 0

-- the way over a front turn at height h and a back turn at height i, by the keys behind
abbrev pub turn_way : (ℕ → ℕ → ℕ) → List ℕ → List ℕ → List ℕ → List ℕ → ℕ → ℕ → ℕ → ℕ → ℕ
turn_way perm fronts backs fc bc s q h i =
    walk (get_or fc h 0 + get_or bc i 0) (perm s (entry backs i (entry fronts h q)))

-- the way over a back turn alone
abbrev pub back_way : (ℕ → ℕ → ℕ) → List ℕ → List ℕ → ℕ → ℕ → ℕ → ℕ
back_way perm backs bc s y i = walk (get_or bc i 0) (perm s (entry backs i y))

-- a front turn at height a, and a back turn at height i that goes with it
pub record Pair (t : Turns) (a i : ℕ) : Type 0 where
  pub front : a < t.top
  pub goes : get_or t.from a 0 ≤ i
  pub back : i ≤ t.top

-- the least over the back turns from height n on: none is less, and it is one of them or 'none'
pub record BacksDone (acc perm : ℕ → ℕ → ℕ) (backs : List ℕ) (t : Turns) (weight n : ℕ) : Type 0 where
  pub low : (s y i : ℕ) → s < states → y < weight → n ≤ i → i ≤ t.top → acc s y ≤ back_way perm backs t.back s y i
  pub one : (s y : ℕ) → s < states → y < weight → (acc s y ≡ no_key) ⊎ ((i : ℕ) × (n ≤ i) × (i ≤ t.top) × (acc s y ≡ back_way perm backs t.back s y i))

-- the same of rows, whatever number of aisles is left
abbrev pub BacksHeld : List ℕ → List ℕ → List ℕ → List ℕ → List ℕ → Turns → ℕ → ℕ → Type 0
BacksHeld acc acc-spared perm perm-spared backs t weight n =
    (r : ℕ) → r ≤ 16 → SoundRow r perm perm-spared weight
    → SoundRow r acc acc-spared weight × BacksDone (key_at r acc acc-spared) (key_at r perm perm-spared) backs t weight n

-- keys after all pairs whose front turn is at height h or past it: no way over one of them is less, nothing grew,
-- and each key is as it was or the way over a pair
pub record SweptTo (old new perm : ℕ → ℕ → ℕ) (fronts backs : List ℕ) (t : Turns) (weight h : ℕ) : Type 0 where
  pub low : (s q a i : ℕ) → s < states → q < weight → h ≤ a → Pair t a i → new s q ≤ turn_way perm fronts backs t.front t.back s q a i
  pub less : (s q : ℕ) → s < states → q < weight → new s q ≤ old s q
  pub one : (s q : ℕ) → s < states → q < weight
      → (new s q ≡ old s q) ⊎ ((a : ℕ) × (i : ℕ) × (h ≤ a) × Pair t a i × (new s q ≡ turn_way perm fronts backs t.front t.back s q a i))

-- the same of rows, whatever number of aisles is left; past the last demand nothing changes
pub record RowsSwept (row row' spared spared' perm perm-spared fronts backs : List ℕ) (t : Turns) (weight h : ℕ) : Type 0 where
  pub kept : length row' ≡ length row
  pub spared_kept : length spared' ≡ length spared
  pub rest : (k : ℕ) → weight * states ≤ k → get_or row' k 0 ≡ get_or row k 0
  pub spared_rest : (k : ℕ) → weight * states ≤ k → get_or spared' k 0 ≡ get_or spared k 0
  pub keyed : (r : ℕ) → r ≤ 16 → SoundRow r row spared weight → SoundRow r perm perm-spared weight
      → SoundRow r row' spared' weight × SweptTo (key_at r row spared) (key_at r row' spared') (key_at r perm perm-spared) fronts backs t weight h

-- what the back turns need to be let in
pub record BacksReady (backs : List ℕ) (t : Turns) (weight : ℕ) : Type 0 where
  pub small : weight ≤ demands
  pub top_fits : t.top ≤ 25
  pub graded : Graded t.from t.top
  pub backs_long : map_size ≤ length backs
  pub back_below : (i q : ℕ) → 1 ≤ i → i ≤ t.top → q < weight → entry backs i q < weight

-- what the sweep needs
pub record SweepReady (row spared fronts backs : List ℕ) (t : Turns) (weight : ℕ) : Type 0 where
  pub behind : BacksReady backs t weight
  pub row_long : weight * states ≤ length row
  pub spared_long : weight * states ≤ length spared
  pub fronts_long : map_size ≤ length fronts
  pub front_below : (h q : ℕ) → h < t.top → q < weight → entry fronts h q < weight
