-- The flood fill: what one edge, a sweep and the whole flood do to the seen points.
use Rattle.std.proofs.Common.{ℕ, zero, suc, ◌+◌, ◌-◌, ◌≤◌, ◌<◌, ◌≡◌, ◌⊎◌, inl, inr, ◌↔◌, Bool, true, false, cond, ◌||◌, eqb, List, [], ◌∷◌, length, get_or, set, replicate, refl, sym, ap, ap₂, ◌∙◌, subst, arith}
use Rattle.std.proofs.lemmas.List.{set-get_or, get_or-set_same, get_or-set_other}
use lib.ListN.{length-set, length-replicate, get_or-eq_default}
use borrow.Author.Tests.{eqb-true, eqb-false, eq-eqb, ne_eqb}
use mathlib.Core.Bool.{beq}
use Rattle.closedwalks.proofs.Splits.{equal_or_below, below_or_from}
use Rattle.flood.specs.Flooded.{Seen, unseen, Reach, here, backward, forward, rightward, leftward, Starts, AllReached, Ranged, spread_edge, spread_at, swept_up, swept_down}
use Rattle.flood.specs.Flooded.{Alike, Calm, CalmTo, Grown, Swept, Flooded, AllSeen}

-- a point that is seen newly is one unseen less
pub unseen_set : (seen : List Bool) (i : ℕ) → i < length seen → get_or seen i false ≡ false → unseen (set seen i true) + 1 ≡ unseen seen
unseen_set [] i h e = absurd (omega arith)
unseen_set (false ∷ seen) zero h e = omega arith
unseen_set (true ∷ seen) zero h e = cc
unseen_set (false ∷ seen) (suc i) h e = omega (arith, unseen_set seen i (omega arith) e)
unseen_set (true ∷ seen) (suc i) h e = unseen_set seen i (omega arith) e

-- two numbers are equal, or not
pub same_or_not : (a b : ℕ) → (a ≡ b) ⊎ (a ≡ b → ⊥)
same_or_not a b = elim (below_or_from a b) [ inl l ↦ inr (λ e. omega arith) | inr l ↦ elim (equal_or_below b a l) [ inl e ↦ inl (sym e) | inr g ↦ inr (λ e. omega arith) ] ]

-- what stands at a place lies in the list
pub seen_below : (left : List ℕ) (p : ℕ) → 0 < get_or left p 0 → p < length left
seen_below left p h =
    elim (below_or_from p (length left)) [ inl l ↦ l | inr g ↦ absurd (omega (arith, get_or-eq_default left 0 g)) ]

-- a list of nothing else has it everywhere, also past its end
pub none_at : {A : Type 0} (none : A) (n i : ℕ) → get_or (replicate n none) i none ≡ none
none_at none zero i = refl
none_at none (suc n) zero = refl
none_at none (suc n) (suc i) = none_at none n i

-- a point that is seen has a number below the length
point_below : (seen : List Bool) (p : ℕ) → Seen seen p → p < length seen
point_below seen p h =
    elim (below_or_from p (length seen)) [ inl l ↦ l | inr g ↦ absurd (let e = get_or-eq_default seen false g in let bad : ◌≡◌ {A = Bool} true false = sym h ∙ e in cc) ]

-- at first only one point is seen
abbrev pub one_seen : ℕ → ℕ → List Bool
one_seen n at = set (replicate n false) at true

-- no other point is
only_seen : (n at p : ℕ) → Seen (one_seen n at) p → p ≡ at
only_seen n at p h =
    let none : List Bool = replicate n false in
    elim (same_or_not p at) [ inl e ↦ e | inr q ↦ absurd (let bad : ◌≡◌ {A = Bool} true false = sym h ∙ get_or-set_other none at p true false q ∙ none_at false n p in cc) ]

-- that one is
first_seen : (n at : ℕ) → at < n → Seen (one_seen n at) at
first_seen n at h = let none : List Bool = replicate n false in get_or-set_same none at true false (omega (arith, length-replicate {A = Bool} n false))

-- nothing changes along an edge that is not left, nor between points of which both are seen or neither
pub edge_same : (n a b : ℕ) (seen : List Bool) → (n ≡ 0) ⊎ (beq (get_or seen a false) (get_or seen b false) ≡ true) → seen ≡ spread_edge n a b seen
unfolding spread_edge
edge_same n a b seen (inl e) = rw (eq-eqb n 0 e)
edge_same n a b seen (inr q) = go (eqb n 0) (get_or seen a false) (get_or seen b false) refl q
  where
    go : (x y z : Bool) → z ≡ get_or seen b false → beq y z ≡ true → seen ≡ cond x seen (cond y (set seen b true) (cond z (set seen a true) seen))
    go true y z f q = refl
    go false true true f q = sym (ap (set seen b) f ∙ set-get_or seen b false)
    go false true false f q = cc
    go false false true f q = cc
    go false false false f q = refl

module _ (a b : ℕ) (seen : List Bool) (differ : beq (get_or seen a false) (get_or seen b false) ≡ false) where
  -- of two points of which one is seen, both written is the other written
  both_set : set (set seen a true) b true ≡ cond (get_or seen a false) (set seen b true) (cond (get_or seen b false) (set seen a true) seen)
  both_set = go (get_or seen a false) (get_or seen b false) refl refl differ
    where
      go : (x y : Bool) → get_or seen a false ≡ x → get_or seen b false ≡ y → beq x y ≡ false → set (set seen a true) b true ≡ cond x (set seen b true) (cond y (set seen a true) seen)
      go true y e f d = ap (λ (l : List Bool). set l b true) (ap (set seen a) (sym e) ∙ set-get_or seen a false)
      go false true e f d =
          let other : b ≡ a → ⊥ = λ (q : b ≡ a). let bad : ◌≡◌ {A = Bool} true false = sym f ∙ ap (λ (k : ℕ). get_or seen k false) q ∙ e in cc in
          ap (set (set seen a true) b) (sym (get_or-set_other seen a b true false other ∙ f)) ∙ set-get_or (set seen a true) b false
      go false false e f d = cc

  -- so it is along an edge that is left
  pub edge_both : (n : ℕ) → (n ≡ 0 → ⊥) → set (set seen a true) b true ≡ spread_edge n a b seen
  unfolding spread_edge
  edge_both n left = rw (ne_eqb n 0 left) both_set

  -- and one point is seen newly
  pub edge_news : (a < length seen) × (b < length seen) → unseen (set (set seen a true) b true) < unseen seen
  edge_news in_list = subst (λ (l : List Bool). unseen l < unseen seen) (sym both_set) (go (get_or seen a false) (get_or seen b false) refl refl differ)
    where
      go : (x y : Bool) → get_or seen a false ≡ x → get_or seen b false ≡ y → beq x y ≡ false → unseen (cond x (set seen b true) (cond y (set seen a true) seen)) < unseen seen
      go true true e f d = cc
      go true false e f d = omega (arith, unseen_set seen b in_list.1 f)
      go false true e f d = omega (arith, unseen_set seen a in_list.0 e)
      go false false e f d = cc

-- one point more is swept upwards
pub up_more : (left : List ℕ) (at : ℕ) (first : List Bool) {seen after : List Bool} → 26 ≤ at → seen ≡ swept_up left (at - 26) first → after ≡ spread_at left at seen
    → after ≡ swept_up left (at + 1 - 26) first
up_more left at first low p q =
    let number : at ≡ 26 + (at - 26) = omega arith in
    let next : suc (at - 26) ≡ at + 1 - 26 = omega arith in
    q ∙ ap₂ (λ (k : ℕ) (l : List Bool). spread_at left k l) number p ∙ ap (λ (k : ℕ). swept_up left k first) next

-- one point more downwards
pub down_more : (left : List ℕ) (at : ℕ) (seen : List Bool) {last after : List Bool} → 26 < at → swept_down left (at - 26) seen ≡ last → after ≡ spread_at left (at - 1) seen
    → swept_down left (at - 1 - 26) after ≡ last
down_more left at seen low p q =
    let number : at - 1 ≡ 26 + (at - 1 - 26) = omega arith in
    let next : suc (at - 1 - 26) ≡ at - 26 = omega arith in
    ap (swept_down left (at - 1 - 26)) (q ∙ ap (λ (k : ℕ). spread_at left k seen) number) ∙ ap (λ (k : ℕ). swept_down left k seen) next ∙ p

module _ (left : List ℕ) where
  -- ways joined
  reach_on : {a b p : ℕ} → Reach left b a → Reach left a p → Reach left b p
  reach_on r here = r
  reach_on r (backward h s) = backward h (reach_on r s)
  reach_on r (forward h s) = forward h (reach_on r s)
  reach_on r (rightward h s) = rightward h (reach_on r s)
  reach_on r (leftward h s) = leftward h (reach_on r s)

  -- nothing is seen newly
  pub grown_none : {Still : List Bool → Type 0} (seen : List Bool) → Still seen → Grown left Still seen seen
  grown_none seen h = record { size = refl; fewer = omega arith; still = λ e. (refl, h); kept = λ p s. s; from = λ p s. (p, s, here) }

  -- a point c is seen newly from d
  grown_one : {Still : List Bool → Type 0} (seen : List Bool) (c d : ℕ) → c < length seen → get_or seen c false ≡ false → Seen seen d → Reach left d c → Grown left Still seen (set seen c true)
  grown_one seen c d low none some way =
      let other : (p : ℕ) → (p ≡ c → ⊥) → get_or (set seen c true) p false ≡ get_or seen p false = λ p q. get_or-set_other seen c p true false q in
      let this : Seen (set seen c true) c = get_or-set_same seen c true false low in
      let less = unseen_set seen c low none in
      record {
        size = length-set seen c true;
        fewer = omega arith;
        still = λ e. absurd (omega arith);
        kept = λ p s. elim (same_or_not p c) [ inl e ↦ subst (Seen (set seen c true)) (sym e) this | inr q ↦ other p q ∙ s ];
        from = λ p s. elim (same_or_not p c) [ inl e ↦ (d, some, subst (Reach left d) (sym e) way) | inr q ↦ (p, sym (other p q) ∙ s, here) ];
      }

  -- what one edge does
  edge_grown : (n a b : ℕ) (seen : List Bool) → (0 < n → (a < length seen) × (b < length seen)) → (0 < n → Reach left a b × Reach left b a)
      → Grown left (λ s. 0 < n → Alike s a b) seen (spread_edge n a b seen)
  unfolding spread_edge
  edge_grown n a b seen low ways = go (eqb n 0) (get_or seen a false) (get_or seen b false) refl refl refl
    where
      go : (x y z : Bool) → eqb n 0 ≡ x → get_or seen a false ≡ y → get_or seen b false ≡ z
          → Grown left (λ s. 0 < n → Alike s a b) seen (cond x seen (cond y (set seen b true) (cond z (set seen a true) seen)))
      go true y z e f g = grown_none seen (λ h. absurd (omega (arith, eqb-true n 0 e)))
      go false true true e f g =
          subst (λ (l : List Bool). Grown left (λ s. 0 < n → Alike s a b) seen l) (sym (ap (set seen b) (sym g) ∙ set-get_or seen b false)) (grown_none seen (λ h. (λ s. g, λ s. f)))
      go false true false e f g = let h : 0 < n = omega (arith, eqb-false n 0 e) in grown_one seen b a (low h).1 g f (ways h).0
      go false false true e f g = let h : 0 < n = omega (arith, eqb-false n 0 e) in grown_one seen a b (low h).0 f g (ways h).1
      go false false false e f g =
          grown_none seen (λ h. (λ s. absurd (let bad : ◌≡◌ {A = Bool} true false = sym s ∙ f in cc), λ s. absurd (let bad : ◌≡◌ {A = Bool} true false = sym s ∙ g in cc)))

  -- one after the other
  grown_join : {P Q : List Bool → Type 0} {before mid after : List Bool} → Grown left P before mid → Grown left Q mid after → Grown left (λ s. P s × Q s) before after
  grown_join {P} {Q} {before} {mid} {after} s t =
      let less = s.fewer in
      let again = t.fewer in
      record {
        size = t.size ∙ s.size;
        fewer = omega arith;
        still = λ e. let u = s.still (omega arith) in let v = t.still (omega arith) in (v.0 ∙ u.0, (u.1, subst Q u.0 v.1));
        kept = λ p h. t.kept p (s.kept p h);
        from = λ p h. let u = t.from p h in let v = s.from u.0 u.1 in (v.0, v.1, reach_on v.2 u.2);
      }

  -- where `Still` says less
  grown_so : {P Q : List Bool → Type 0} {before after : List Bool} → (P before → Q before) → Grown left P before after → Grown left Q before after
  grown_so h g = record { size = g.size; fewer = g.fewer; still = λ e. let t = g.still e in (t.0, h t.1); kept = g.kept; from = g.from }

  -- a point is seen newly where one of two parts saw one
  pub news_join : (before mid after : List Bool) (x y : Bool) → unseen mid ≤ unseen before → unseen after ≤ unseen mid
      → (x ≡ true) ↔ (unseen mid < unseen before) → (y ≡ true) ↔ (unseen after < unseen mid) → ((x || y) ≡ true) ↔ (unseen after < unseen before)
  news_join before mid after true y s t p q = (λ e. let v = p.0 refl in omega arith, λ h. refl)
  news_join before mid after false y s t p q = (
    λ e. let v = q.0 e in omega arith,
    λ h. elim (below_or_from (unseen mid) (unseen before)) [ inl u ↦ absurd (let bad : ◌≡◌ {A = Bool} false true = p.1 u in cc) | inr u ↦ q.1 (omega arith) ],
  )

  module _ (end : ℕ) (range : Ranged left end) where
    -- what the two edges of a point do
    pub at_grown : (p : ℕ) → p < 442 → (seen : List Bool) → length seen ≡ 442 → Grown left (λ s. Calm left s p) seen (spread_at left p seen)
    unfolding spread_at
    at_grown p low seen size =
        let top = range.top in
        let n = get_or left p 0 in
        let m = get_or left (442 + p) 0 in
        let back = edge_grown n p (p + 1) seen (λ h. let t = range.along p low h in (omega arith, omega arith)) (λ h. (backward h here, forward h here)) in
        let kept = back.size in
        grown_join back (edge_grown m p (p + 26) (spread_edge n p (p + 1) seen) (λ h. let t = range.across p h in (omega arith, omega arith)) (λ h. (rightward h here, leftward h here)))

    -- calm below a point, and at it
    calm_next : (at : ℕ) (seen : List Bool) → CalmTo left at seen → Calm left seen at → CalmTo left (at + 1) seen
    calm_next at seen below calm p low high =
        elim (equal_or_below p at (omega arith)) [ inl e ↦ subst (Calm left seen) (sym e) calm | inr g ↦ below p low g ]

    -- at first nothing is swept
    pub swept_none : (at : ℕ) → at ≤ 26 → (seen : List Bool) → Swept left at seen seen false
    swept_none at h seen = record { grown = grown_none seen (λ p l g. absurd (omega arith)); news = (λ e. absurd (cc), λ e. absurd (omega arith)) }

    -- one point more upwards
    pub swept_more : (at : ℕ) → at < 442 → {before seen after : List Bool} (x y : Bool) → length before ≡ 442 → Swept left at before seen x → after ≡ spread_at left at seen
        → (y ≡ true) ↔ (unseen after < unseen seen) → Swept left (at + 1) before after (x || y)
    swept_more at low {before} {seen} {after} x y size s e p =
        let step : Grown left (λ s. Calm left s at) seen after = subst (Grown left (λ s. Calm left s at) seen) (sym e) (at_grown at low seen (s.grown.size ∙ size)) in
        record { grown = grown_so (λ t. calm_next at before t.0 t.1) (grown_join s.grown step); news = news_join before seen after x y s.grown.fewer step.fewer s.news p }

    -- and one again, where all are swept
    pub swept_again : (at : ℕ) → at < 442 → {before seen after : List Bool} (x y : Bool) → length before ≡ 442 → Swept left end before seen x → after ≡ spread_at left at seen
        → (y ≡ true) ↔ (unseen after < unseen seen) → Swept left end before after (x || y)
    swept_again at low {before} {seen} {after} x y size s e p =
        let step : Grown left (λ s. Calm left s at) seen after = subst (Grown left (λ s. Calm left s at) seen) (sym e) (at_grown at low seen (s.grown.size ∙ size)) in
        record { grown = grown_so (λ t. t.0) (grown_join s.grown step); news = news_join before seen after x y s.grown.fewer step.fewer s.news p }

    -- what is swept below a number is below a smaller one
    pub swept_to : (at : ℕ) → end ≤ at → {before after : List Bool} (x : Bool) → Swept left at before after x → Swept left end before after x
    swept_to at h x s = record { grown = grown_so (λ t p low high. t p low (omega arith)) s.grown; news = s.news }

    -- the flood goes on with a sweep
    pub grown_on : {before mid after : List Bool} {x : Bool} → Grown left (λ s. Unit {0}) before mid → Swept left end mid after x → Grown left (λ s. Unit {0}) before after
    grown_on s t = grown_so (λ u. tt) (grown_join s t.grown)

    -- a sweep that saw nothing newly found all calm
    pub calm_after : {before after : List Bool} → Swept left end before after false → CalmTo left end after
    calm_after {before} {after} s =
        let less = s.grown.fewer in
        let none : unseen after ≡ unseen before =
        elim (below_or_from (unseen after) (unseen before)) [ inl u ↦ absurd (let bad : ◌≡◌ {A = Bool} false true = s.news.1 u in cc) | inr u ↦ omega arith ]
        in
        let t = s.grown.still none in
        subst (CalmTo left end) (sym t.0) t.1

    -- a flood that ended holds whatever can be reached from a point that was seen
    module _ {before after : List Bool} (grown : Grown left (λ s. Unit {0}) before after) (calm : CalmTo left end after) (size : length after ≡ 442) where
      -- a seen point lies in the list
      below : (q : ℕ) → Seen after q → q < 442
      below q h = omega (arith, point_below after q h)

      -- along an edge that is left the flood went on
      reach_seen : (a : ℕ) → Seen after a → (p : ℕ) → Reach left a p → Seen after p
      reach_seen a start p here = start
      reach_seen a start p (backward {p = q} h r) = let s = reach_seen a start q r in let u = range.along q (below q s) h in ((calm q u.0 (omega arith)).0 h).0 s
      reach_seen a start p (forward h r) = let s = reach_seen a start (p + 1) r in let b = below (p + 1) s in let u = range.along p (omega arith) h in ((calm p u.0 (omega arith)).0 h).1 s
      reach_seen a start p (rightward {p = q} h r) = let s = reach_seen a start q r in let u = range.across q h in ((calm q u.0 (omega arith)).1 h).0 s
      reach_seen a start p (leftward h r) = let s = reach_seen a start (p + 26) r in let u = range.across p h in ((calm p u.0 (omega arith)).1 h).1 s

      -- so it is what can be reached from where it started
      pub flooded : Flooded left before after
      flooded = record { size = grown.size; reached = λ p. (grown.from p, λ w. reach_seen w.0 (grown.kept w.0 w.1) p w.2) }

    -- where the flood started from one point, all that is left can be reached from there exactly if it starts at seen points
    pub seen_reached : (a : ℕ) {after : List Bool} → a < 442 → Flooded left (one_seen 442 a) after → AllSeen left after end ↔ AllReached left a
    unfolding AllSeen AllReached
    seen_reached a {after} low f = (
      λ all p l s. let r = starts_ranged p l s in let w = (f.reached p).0 (all p r.0 r.1 s) in subst (λ (b : ℕ). Reach left b p) (only_seen 442 a w.0 w.1) w.2,
      λ all p l h s. let top = range.top in (f.reached p).1 (a, first_seen 442 a low, all p (omega arith) s),
    )
      where
        starts_ranged : (p : ℕ) → p < 442 → Starts left p → (26 ≤ p) × (p < end)
        starts_ranged p low (inl h) = let t = range.along p low h in (t.0, omega arith)
        starts_ranged p low (inr h) = let t = range.across p h in (t.0, omega arith)

    -- the edges lie in the whole list too
    pub ranged_all : Ranged left 442
    ranged_all =
        let top = range.top in
        record {
          size = range.size;
          top = omega arith;
          along = λ p l h. let t = range.along p l h in (t.0, omega arith);
          across = λ p h. let t = range.across p h in (t.0, omega arith);
        }
