-- Distances and lengths: positions in an aisle, the closed forms of lengths, and what bounds them.
use Prim.Native.Nat.{ℕ, zero, suc, ◌+◌, ◌*◌, ◌-◌, ◌/◌, ◌≤◌, ◌<◌}
use mathlib.Core.Path.{◌≡◌, refl, sym, ◌∙◌, ap, ap₂, subst}
use mathlib.Core.List.{◌++◌, map, Memᴰ}
use mathlib.Core.Bool.{Bool, true, false}
use native.Mathlib.Nat.{mul-zero, suc-mul, mul-add, add-mul, mul-le-mul_left, mul-le-mul_right, div-zero, div-mul-le_self, le-div_iff_mul-le}
use native.Mathlib.Omega.{arith}
use lib.Dec.{ltb}
use lib.ListN.{length}
use borrow.Author.Tests.{lt-ltb, le-ltb, le-leb, lt-leb, ltb-true, ltb-false}
use Rattle.rules.specs.declared.Posts.{Posts}
use Rattle.rules.specs.declared.Posts.TheVariants.{NoPosts, Every, Sided}
use Rattle.rules.specs.declared.Layout.{Layout}
use Rattle.rules.specs.declared.Action.{Action}
use Rattle.rules.specs.declared.Action.TheVariants.{Void, Bottom, Top, Gap, Once, Twice}
use Rattle.rules.specs.declared.Passage.{Passage}
use Rattle.rules.specs.declared.Passage.TheVariants.{P00, P02, P11, P20, P22}
use Rattle.rules.specs.Lists.{from, sum_of, concat_of}
use Rattle.rules.specs.Store.{posts_before, WithoutPosts, LayoutWithin, cell_position, aisle_length, position, Edge, along, front, back, distance, edges_of}
use Rattle.rules.specs.Plans.{Plan, Fits, WellFormed, action_at, passage_at, aisle_treads, back_treads, front_treads, multiplicity, length_of, plan_length}
use Rattle.rules.specs.Lengths.{action_length, passage_length}
use Rattle.rules.proofs.Lists.{sum_append, sum_agree, sum_plus, sum_below, sum_map, sum_concat, sum_from_append, sum_places, member_place}

-- division rounded down grows with what is divided
div_monotone : (k : ℕ) {x y : ℕ} → x ≤ y → x / k ≤ y / k
div_monotone zero {x} {y} l = rw (div-zero x, div-zero y) (omega arith)
div_monotone (suc k) {x} {y} l = (le-div_iff_mul-le {k = suc k} {x = x / suc k} {y = y} (omega arith)).1 (omega (arith, div-mul-le_self x (suc k)))

-- the further a cell, the more posts are before it
posts_monotone : (p : Posts) (h k : ℕ) → h ≤ k → posts_before p h ≤ posts_before p k
posts_monotone NoPosts h k le = omega arith
posts_monotone (Every q u) h k le = mul-le-mul_left u (div_monotone q (omega arith))
posts_monotone (Sided q u side) h k le = mul-le-mul_left u (div_monotone q (omega arith))

-- without posts cell i lies f + (i − 1)·p from the front
pub none_before : (p : Posts) → WithoutPosts p → (i : ℕ) → posts_before p i ≡ 0
none_before NoPosts w i = refl
none_before (Every k u) w i = rw w (omega arith)
none_before (Sided k u side) w i = rw w (omega arith)

pub cell_without_posts : (z : Layout) → WithoutPosts z.posts → (i : ℕ) → cell_position z i ≡ z.front + (i - 1) * z.pitch
cell_without_posts z w i = omega (arith, none_before z.posts w i)

module _ (z : Layout) where
  -- the front crossing
  pub position_front : position z 0 ≡ 0
  unfolding position
  position_front = refl

  -- a cell
  pub position_cell : (i : ℕ) → 1 ≤ i → i ≤ z.cells → position z i ≡ cell_position z i
  unfolding position
  position_cell zero low high = absurd (omega arith)
  position_cell (suc k) low high =
      rw (lt-ltb k z.cells high) refl

  -- the back crossing, and any height beyond it
  pub position_back : (i : ℕ) → z.cells < i → position z i ≡ aisle_length z
  unfolding position
  position_back zero h = absurd (omega arith)
  position_back (suc k) h = rw (le-ltb k z.cells (omega arith))

  -- a height is the front crossing, a cell or beyond the cells
  pub data Height (i : ℕ) : Type 0 where
    at_front : i ≡ 0 → Height i
    at_cell : 1 ≤ i → i ≤ z.cells → Height i
    at_back : z.cells < i → Height i

  pub height : (i : ℕ) → Height i
  height zero = at_front refl
  height (suc k) = go (ltb k z.cells) refl
    where
      go : (t : Bool) → ltb k z.cells ≡ t → Height (suc k)
      go true e = at_cell (omega arith) (ltb-true k z.cells e)
      go false e = at_back (omega (arith, ltb-false k z.cells e))

  -- no position is beyond the back crossing
  pub position_within : (i : ℕ) → position z i ≤ aisle_length z
  unfolding aisle_length
  position_within i = go (height i)
    where
      go : Height i → position z i ≤ aisle_length z
      go (at_front e) = rw (e, position_front) (omega arith)
      go (at_cell low high) =
          let p : (i - 1) * z.pitch ≤ (z.cells - 1) * z.pitch = mul-le-mul_right z.pitch (omega arith) in
          rw (position_cell i low high) (omega (arith, posts_monotone z.posts i z.cells high))
      go (at_back h) = rw (position_back i h) (omega arith)

  -- positions grow with the height
  pub position_monotone : (h k : ℕ) → h ≤ k → position z h ≤ position z k
  position_monotone h k le = go (height h) (height k)
    where
      go : Height h → Height k → position z h ≤ position z k
      go (at_front e) _ = rw (e, position_front) (omega arith)
      go (at_cell low high) (at_front e) = absurd (omega arith)
      go (at_cell low high) (at_cell l g) =
          let p : (h - 1) * z.pitch ≤ (k - 1) * z.pitch = mul-le-mul_right z.pitch (omega arith) in
          rw (position_cell h low high, position_cell k l g) (omega (arith, posts_monotone z.posts h k le))
      go (at_cell low high) (at_back b) = rw (position_back k b) (position_within h)
      go (at_back b) (at_front e) = absurd (omega arith)
      go (at_back b) (at_cell l g) = absurd (omega arith)
      go (at_back b) (at_back c) = rw (position_back h b, position_back k c) (omega arith)

  -- and every edge of an aisle is at least 1 long
  pub position_grows : LayoutWithin z → (h k : ℕ) → h < k → k ≤ suc z.cells → position z h < position z k
  unfolding aisle_length
  position_grows lw h k less within = go (height h) (height k)
    where
      go : Height h → Height k → position z h < position z k
      go (at_front e) (at_front d) = absurd (omega arith)
      go (at_front e) (at_cell low high) = rw (e, position_front, position_cell k low high) (omega (arith, lw.front.0))
      go (at_front e) (at_back b) = rw (e, position_front, position_back k b) (omega (arith, lw.back.0))
      go (at_cell low high) (at_front e) = absurd (omega arith)
      go (at_cell low high) (at_cell l g) =
          let p : suc (h - 1) * z.pitch ≤ (k - 1) * z.pitch = mul-le-mul_right z.pitch (omega arith) in
          rw (position_cell h low high, position_cell k l g) (omega (arith, lw.pitch.0, suc-mul (h - 1) z.pitch, posts_monotone z.posts h k (omega arith)))
      go (at_cell low high) (at_back b) =
          let p : (h - 1) * z.pitch ≤ (z.cells - 1) * z.pitch = mul-le-mul_right z.pitch (omega arith) in
          rw (position_cell h low high, position_back k b) (omega (arith, lw.back.0, posts_monotone z.posts h z.cells high))
      go (at_back b) _ = absurd (omega arith)

  -- the length of an action in its aisle, as the sum over the edges of the aisle
  unfoldable pub action_sum : ℕ → Action → ℕ
  action_sum j a = sum_of (λ k. aisle_treads a k * distance z (along j k)) (from 0 (suc z.cells))

-- heights and how often the edges above them are trodden
module _ (p t : ℕ → ℕ) (grows : (i k : ℕ) → i ≤ k → p i ≤ p k) where
  -- edges of an aisle that are all trodden c times
  stretch_sum : (c a n b : ℕ) → a + n ≡ b → ((k : ℕ) → a ≤ k → k < b → t k ≡ c) → sum_of (λ k. t k * (p (suc k) - p k)) (from a n) ≡ c * (p b - p a)
  stretch_sum c a zero b e h =
      let same : a ≡ b = omega arith in
      let nothing : p b - p b ≡ 0 = omega arith in
      rw (same, nothing, mul-zero)
  stretch_sum c a (suc n) b e h =
      let whole : p b - p a ≡ (p (suc a) - p a) + (p b - p (suc a)) = omega (arith, grows a (suc a) (omega arith), grows (suc a) b (omega arith)) in
      rw (h a (omega arith) (omega arith), stretch_sum c (suc a) n b (omega arith) (λ k l. h k (omega arith)), whole, mul-add)

  -- an aisle in three stretches, up to h, from h to i and from i on
  pub three_stretches : (x y w h i n : ℕ) → h ≤ i → i ≤ n → ((k : ℕ) → k < h → t k ≡ x) → ((k : ℕ) → h ≤ k → k < i → t k ≡ y) → ((k : ℕ) → i ≤ k → k < n → t k ≡ w)
      → sum_of (λ k. t k * (p (suc k) - p k)) (from 0 n) ≡ x * (p h - p 0) + (y * (p i - p h) + w * (p n - p i))
  three_stretches x y w h i n hi le low middle high =
      let f : ℕ → ℕ = λ k. t k * (p (suc k) - p k) in
      let all : n ≡ h + ((i - h) + (n - i)) = omega arith in
      let first = stretch_sum x 0 h h (omega arith) (λ k l. low k) in
      let second = stretch_sum y h (i - h) i (omega arith) middle in
      let third = stretch_sum w i (n - i) n (omega arith) high in
      rw (ap (λ m. sum_of f (from 0 m)) all, sum_from_append f 0 h h ((i - h) + (n - i)) (omega arith), sum_from_append f h i (i - h) (n - i) (omega arith), first, second, third) refl

-- the same in the store's aisles
aisle_sum : (z : Layout) (j : ℕ) (a : Action) (x y w h i : ℕ) → h ≤ i → i ≤ suc z.cells → ((k : ℕ) → k < h → aisle_treads a k ≡ x) → ((k : ℕ) → h ≤ k → k < i → aisle_treads a k ≡ y) → ((k : ℕ) → i ≤ k → aisle_treads a k ≡ w) → action_sum z j a ≡ x * position z h + (y * (position z i - position z h) + w * (aisle_length z - position z i))
unfolding action_sum distance
aisle_sum z j a x y w h i hi le low middle high =
    let sum = three_stretches (position z) (aisle_treads a) (position_monotone z) x y w h i (suc z.cells) hi le low middle (λ k l g. high k l) in
    let from_front : position z h - position z 0 ≡ position z h = omega (arith, position_front z) in
    rw (from_front, position_back z (suc z.cells) (omega arith)) at sum

-- what an action treads in its aisle, counted edge by edge, has the closed form
pub action_length_lem : (z : Layout) (j : ℕ) (a : Action) → Fits z.cells a → action_sum z j a ≡ action_length z a
unfolding action_length
action_length_lem z j Void fits =
    omega (arith, aisle_sum z j Void 0 0 0 0 0 (omega arith) (omega arith) (λ k l. refl) (λ k l g. refl) (λ k l. refl))
action_length_lem z j (Bottom i) fits =
    omega (arith, aisle_sum z j (Bottom i) 2 0 0 i i (omega arith) (omega arith) (λ k l. rw (lt-ltb k i l)) (λ k l g. absurd (omega arith)) (λ k l. rw (le-ltb k i l)))
action_length_lem z j (Top i) fits =
    omega (arith, aisle_sum z j (Top i) 0 0 2 i i (omega arith) (omega arith) (λ k l. rw (lt-leb i k l)) (λ k l g. absurd (omega arith)) (λ k l. rw (le-leb i k l)))
action_length_lem z j (Gap h i) fits =
    omega (arith, aisle_sum z j (Gap h i) 2 0 2 h i (omega arith) (omega arith) (λ k l. rw (lt-ltb k h l)) (λ k l g. rw (le-ltb k h l, lt-leb i k g)) (λ k l. rw (le-ltb k h (omega arith), le-leb i k l)))
action_length_lem z j Once fits =
    omega (arith, position_front z, aisle_sum z j Once 1 1 1 0 0 (omega arith) (omega arith) (λ k l. refl) (λ k l g. refl) (λ k l. refl))
action_length_lem z j Twice fits =
    omega (arith, position_front z, aisle_sum z j Twice 2 2 2 0 0 (omega arith) (omega arith) (λ k l. refl) (λ k l g. refl) (λ k l. refl))

-- the three groups of edges: along the aisles, on the front and on the back cross-aisle
pub edges_sum : (z : Layout) (f : Edge → ℕ) → sum_of f (edges_of z) ≡ sum_of (λ j. sum_of (λ k. f (along j k)) (from 0 (suc z.cells))) (from 1 z.aisles) + sum_of (λ j. f (back j) + f (front j)) (from 1 (z.aisles - 1))
unfolding edges_of
edges_sum z f =
    let m = z.aisles in
    let heights = from 0 (suc z.cells) in
    let gaps = from 1 (m - 1) in
    let aisles = concat_of (λ j. map (along j) heights) (from 1 m) in
    let in_aisles = sum_concat f (λ j. map (along j) heights) (from 1 m) ∙ sum_agree (λ j. sum_of f (map (along j) heights)) (λ j. sum_of (λ k. f (along j k)) heights) (from 1 m) (λ j l. sum_map f (along j) heights) in
    omega (arith, in_aisles, sum_append f aisles (map front gaps ++ map back gaps), sum_append f (map front gaps) (map back gaps), sum_map f front gaps, sum_map f back gaps, sum_plus (λ j. f (back j)) (λ j. f (front j)) gaps)

-- a plan's length is the sum of the lengths of its actions and of its passages
pub plan_length_lem : (z : Layout) (plan : Plan) → WellFormed z plan → plan_length z plan ≡ sum_of (action_length z) plan.actions + sum_of (passage_length z) plan.passages
unfolding plan_length length_of multiplicity action_sum passage_length distance action_at passage_at
plan_length_lem z plan wf = edges_sum z (λ e. multiplicity plan e * distance z e) ∙ ap₂ ◌+◌ in_aisles between_aisles
  where
    in_aisles : sum_of (λ j. action_sum z j (action_at plan j)) (from 1 z.aisles) ≡ sum_of (action_length z) plan.actions
    in_aisles =
        sum_agree (λ j. action_sum z j (action_at plan j)) (λ j. action_length z (action_at plan j)) (from 1 z.aisles) (λ j l. action_length_lem z j (action_at plan j) (wf.fits j))
        ∙ ap (λ n. sum_of (λ j. action_length z (action_at plan j)) (from 1 n)) (sym wf.aisles)
        ∙ sum_places (action_length z) Void plan.actions

    between_aisles : sum_of (λ j. back_treads (passage_at plan j) * z.width + front_treads (passage_at plan j) * z.width) (from 1 (z.aisles - 1)) ≡ sum_of (passage_length z) plan.passages
    between_aisles =
        let count : z.aisles - 1 ≡ length plan.passages = omega (arith, wf.passages) in
        sum_agree (λ j. back_treads (passage_at plan j) * z.width + front_treads (passage_at plan j) * z.width) (λ j. passage_length z (passage_at plan j)) (from 1 (z.aisles - 1)) (λ j l. sym (add-mul (back_treads (passage_at plan j)) (front_treads (passage_at plan j)) z.width))
        ∙ ap (λ n. sum_of (λ j. passage_length z (passage_at plan j)) (from 1 n)) count
        ∙ sum_places (passage_length z) P00 plan.passages

-- no action is longer than its aisle twice
pub action_length_bound : (z : Layout) (a : Action) → Fits z.cells a → action_length z a ≤ 2 * aisle_length z
unfolding action_length
action_length_bound z Void fits = omega arith
action_length_bound z (Bottom i) fits = omega (arith, position_within z i)
action_length_bound z (Top i) fits = omega arith
action_length_bound z (Gap h i) fits = omega (arith, position_within z i, position_monotone z h i (omega arith))
action_length_bound z Once fits = omega arith
action_length_bound z Twice fits = omega arith

-- no passage is longer than four times the width
pub passage_length_bound : (z : Layout) (p : Passage) → passage_length z p ≤ 4 * z.width
unfolding passage_length
passage_length_bound z P00 = omega arith
passage_length_bound z P02 = omega arith
passage_length_bound z P11 = omega arith
passage_length_bound z P20 = omega arith
passage_length_bound z P22 = omega arith

-- every action of a well_formed plan fits the store's aisles
pub well_formed_fits : (z : Layout) (plan : Plan) → WellFormed z plan → (a : Action) → Memᴰ a plan.actions → Fits z.cells a
unfolding action_at
well_formed_fits z plan wf a m = let p = member_place Void m in subst (Fits z.cells) p.1 (wf.fits (suc p.0))

-- no well_formed plan is longer than 2·m·L + 4·(m − 1)·w
pub plan_length_bound : (z : Layout) (plan : Plan) → WellFormed z plan → plan_length z plan ≤ z.aisles * (2 * aisle_length z) + (z.aisles - 1) * (4 * z.width)
plan_length_bound z plan wf =
    let actions = sum_below (action_length z) (2 * aisle_length z) plan.actions (λ a m. action_length_bound z a (well_formed_fits z plan wf a m)) in
    let passages = sum_below (passage_length z) (4 * z.width) plan.passages (λ p m. passage_length_bound z p) in
    let count : length plan.passages ≡ z.aisles - 1 = omega (arith, wf.passages) in
    omega (arith, plan_length_lem z plan wf, rw wf.aisles at actions, rw count at passages)
