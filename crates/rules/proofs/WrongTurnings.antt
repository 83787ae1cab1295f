-- Document 01, "Wrong turnings on the floor": plans with even crossings that are not lawful.
use Prim.Native.Nat.{ℕ, zero, suc, ◌≤◌, ◌<◌}
use native.Mathlib.Omega.{arith}
use mathlib.Core.Path.{◌≡◌, refl, sym, ap, subst}
use mathlib.Core.Logic.{◌⊎◌, inl, inr}
use mathlib.Core.List.{[], ◌∷◌}
use Rattle.rules.specs.declared.Posts.TheVariants.{NoPosts}
use Rattle.rules.specs.declared.Layout.{Layout}
use Rattle.rules.specs.declared.Action.TheVariants.{Void, Bottom, Gap}
use Rattle.rules.specs.declared.Passage.TheVariants.{P00, P02}
use Rattle.rules.specs.Store.{Point, Edge, along, front, back, start_of, end_of, Joins, InStore, depot_point}
use Rattle.rules.specs.Plans.{Plan, action_at, passage_at, aisle_treads, multiplicity}
use Rattle.rules.specs.Lawful.{Trodden, Touched, Linked, here, step, Lawful}

-- two aisles of three cells, the depot at aisle 1
unfoldable pub two_aisles : Layout
two_aisles = record { aisles = 2; cells = 3; front = 2; pitch = 1; back = 2; width = 5; depot = 1; posts = NoPosts }

-- VOID 00 BOTTOM 1: the edge to the depot is dropped
unfoldable pub without_depot : Plan
without_depot = record { actions = Void ∷ Bottom 1 ∷ []; passages = P00 ∷ [] }

no_passage : (j : ℕ) → passage_at without_depot j ≡ P00
unfolding passage_at without_depot
no_passage zero = refl
no_passage (suc zero) = refl
no_passage (suc (suc j)) = refl

in_first : (j k : ℕ) → 1 ≡ j → 0 < multiplicity without_depot (along j k) → ⊥
unfolding multiplicity action_at without_depot
in_first j k e t = let z : 0 < 0 = subst (λ i. 0 < aisle_treads (action_at without_depot i) k) (sym e) t in omega arith

untrodden : (e : Edge) → 0 < multiplicity without_depot e → (depot_point two_aisles ≡ start_of two_aisles e) ⊎ (depot_point two_aisles ≡ end_of two_aisles e) → ⊥
unfolding multiplicity two_aisles depot_point start_of end_of
untrodden (along j k) t (inl p) = in_first j k (ap (λ (x : Point). x.aisle) p) t
untrodden (along j k) t (inr p) = in_first j k (ap (λ (x : Point). x.aisle) p) t
untrodden (front j) t p = let z : 0 < 0 = rw (no_passage j) at t in omega arith
untrodden (back j) t p = let z : 0 < 0 = rw (no_passage j) at t in omega arith

pub depot_dropped : Lawful two_aisles without_depot → ⊥
unfolding Touched Trodden
depot_dropped lawful = let t = lawful.depot_touched in untrodden t.0 t.1.1 t.2

-- one aisle of three cells
unfoldable pub one_aisle : Layout
one_aisle = record { aisles = 1; cells = 3; front = 2; pitch = 1; back = 2; width = 5; depot = 1; posts = NoPosts }

-- GAP 1 3 alone: two separate loops
unfoldable pub two_loops : Plan
two_loops = record { actions = Gap 1 3 ∷ []; passages = [] }

-- of the edges between the heights 2 and 4 only the one at the back is trodden
back_part_lem : (k : ℕ) → 0 < aisle_treads (Gap 1 3) k → 2 ≤ k → 3 ≤ k
back_part_lem zero t h = omega arith
back_part_lem (suc zero) t h = omega arith
back_part_lem (suc (suc zero)) t h = let z : 0 < 0 = t in omega arith
back_part_lem (suc (suc (suc k))) t h = omega arith

-- a trodden edge keeps to the back loop
stays : (x w : Point) (e : Edge) → Trodden one_aisle (multiplicity two_loops) e → Joins one_aisle e x w → 3 ≤ w.height → 3 ≤ x.height
unfolding Trodden multiplicity action_at two_loops one_aisle Joins InStore start_of end_of
stays x w (along j k) t (inl p) h =
    let first : j ≡ 1 = omega (arith, t.0.0, t.0.1) in
    let x-at : x.height ≡ k = ap (λ (v : Point). v.height) p.0 in
    let w_at : w.height ≡ suc k = ap (λ (v : Point). v.height) p.1 in
    omega (arith, back_part_lem k (subst (λ i. 0 < aisle_treads (action_at two_loops i) k) first t.1) (omega arith))
stays x w (along j k) t (inr p) h =
    let w_at : w.height ≡ k = ap (λ (v : Point). v.height) p.0 in
    let x-at : x.height ≡ suc k = ap (λ (v : Point). v.height) p.1 in
    omega arith
stays x w (front j) t p h = omega (arith, t.0.0, t.0.1)
stays x w (back j) t p h = omega (arith, t.0.0, t.0.1)

-- what is linked to the back crossing is in the back loop
behind : (y : Point) {x : Point} → 3 ≤ y.height → Linked one_aisle (multiplicity two_loops) y x → 3 ≤ x.height
behind y h here = h
behind y h (step {x = x} {w = w} e t j l) = stays x w e t j (behind y h l)

-- even crossings are not enough: the loops do not hang together
pub loops_apart : Lawful one_aisle two_loops → ⊥
unfolding Touched Trodden InStore multiplicity action_at one_aisle two_loops start_of end_of
loops_apart lawful =
    let apart : 3 ≤ 0 = behind (record { aisle = 1; height = 4 }) (omega arith) (lawful.together (record { aisle = 1; height = 0 }) (record { aisle = 1; height = 4 }) (along 1 0, ((omega arith, omega arith, omega arith), omega arith), inl refl) (along 1 3, ((omega arith, omega arith, omega arith), omega arith), inr refl)) in
    omega arith

-- VOID 02 BOTTOM 99: there is no such cell
unfoldable pub beyond_cells : Plan
beyond_cells = record { actions = Void ∷ Bottom 99 ∷ []; passages = P02 ∷ [] }

-- so it is no plan of the store, and not lawful
pub no_such_cell : Lawful two_aisles beyond_cells → ⊥
unfolding two_aisles beyond_cells action_at
no_such_cell lawful = let reached : 99 ≤ 3 = (lawful.well_formed.fits 2).1 in omega arith
