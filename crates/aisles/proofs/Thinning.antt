-- A turn whose row of the map repeats that of its neighbour can be left out: the neighbour's way is no longer. `row` and `perm` are the
-- keys of rows, by state and demand.
use Prim.Native.Nat.{ℕ, zero, suc, ◌+◌, ◌*◌, ◌-◌, ◌≤◌, ◌<◌}
use native.Mathlib.Omega.{arith}
use native.Mathlib.Nat.{eq-or-lt_of_le, le_trans}
use native.Mathlib.Numerals.{add-one}
use mathlib.Core.Path.{◌≡◌, refl, sym, ◌∙◌, ap, ap₂, subst}
use mathlib.Core.Logic.{◌⊎◌, inl, inr, ⊎_elim}
use mathlib.Core.List.{List, [], ◌∷◌}
use mathlib.Core.Bool.{Bool, true, false, cond, ◌&&◌, and-eq-true_iff}
use lib.Dec.{leb, eqb}
use lib.ListN.{length, get_or, set, take, drop, length-take, length-drop}
use lib.Seq.{get_or-set_same, get_or-set_other, get_or-take, get_or-drop}
use lib.Pointwise.{pointwise}
use borrow.Author.Tests.{leb-true, eqb-true, eqb-false}
use Rattle.optimum.specs.Least.{sum_up_to}
use Rattle.optimum.specs.Routing.{no_key}
use Rattle.demand.specs.Maps.{entry}
use Rattle.demand.proofs.Filling.{below}
use Rattle.rows.specs.Pairs.{walk}
use Rattle.rows.proofs.Keys.{walk_mono}
use Rattle.aisles.specs.declared.layers.Turns.{Turns}
use Rattle.aisles.specs.declared.repeats.Repeats.{Repeats}
use Rattle.aisles.specs.Repeating.{Agree, RepeatsTo}
use Rattle.between.specs.Between.{Graded}
use Rattle.aisles.specs.Turns.{kept_turn, Thinned, turn_way, Pair, SweepReady, SweptTo}

-- two lists of one length, compared: they are the same, or there is a place where they are not
abbrev Compared : List ℕ → List ℕ → Bool → Type 0
Compared xs ys true = (k : ℕ) → get_or xs k 0 ≡ get_or ys k 0
Compared xs ys false = (k : ℕ) × (k < length xs) × (get_or xs k 0 ≡ get_or ys k 0 → ⊥)

compared : (xs ys : List ℕ) → length xs ≡ length ys → Compared xs ys (pointwise eqb xs ys)
compared [] [] e = λ k. refl
compared [] (y ∷ ys) e = absurd (omega arith)
compared (x ∷ xs) [] e = absurd (omega arith)
compared (x ∷ xs) (y ∷ ys) e = go (eqb x y) (pointwise eqb xs ys) refl (compared xs ys (omega arith))
  where
    all : x ≡ y → ((k : ℕ) → get_or xs k 0 ≡ get_or ys k 0) → (k : ℕ) → get_or (x ∷ xs) k 0 ≡ get_or (y ∷ ys) k 0
    all f g zero = f
    all f g (suc k) = g k

    go : (u v : Bool) → eqb x y ≡ u → Compared xs ys v → Compared (x ∷ xs) (y ∷ ys) (u && v)
    go false v f g = (0, omega arith, eqb-false x y f)
    go true true f g = all (eqb-true x y f) g
    go true false f (k, l, d) = (suc k, omega arith, d)

-- so two rows of a map agree, or they do not
pub rows_agree : (map : List ℕ) (a b n : ℕ) → a * 256 + n ≤ length map → b * 256 + n ≤ length map
    → Agree map a b n (pointwise eqb (take (a * 256 + n - a * 256) (drop (a * 256) map)) (take (b * 256 + n - b * 256) (drop (b * 256) map)))
rows_agree map a b n a-in b-in = go (pointwise eqb (part a) (part b)) (compared (part a) (part b) (long a a-in ∙ sym (long b b-in)))
  where
    part : ℕ → List ℕ
    part i = take (i * 256 + n - i * 256) (drop (i * 256) map)

    long : (i : ℕ) → i * 256 + n ≤ length map → length (part i) ≡ n
    long i l = simp (length-take, length-drop) (omega arith)

    at : (i q : ℕ) → q < n → get_or (part i) q 0 ≡ entry map i q
    at i q l = get_or-take (i * 256 + n - i * 256) (drop (i * 256) map) q 0 (omega arith) ∙ get_or-drop (i * 256) map q 0

    go : (same : Bool) → Compared (part a) (part b) same → Agree map a b n same
    go true e = λ q l. sym (at a q l) ∙ e q ∙ at b q l
    go false (q, l, d) = let below : q < n = omega (arith, long a a-in) in (q, below, λ e. d (at a q below ∙ e ∙ sym (at b q below)))

-- one more height whose next row is compared
pub repeats_one : (map : List ℕ) (weight : ℕ) (same : List Bool) (n : ℕ) (b : Bool) → n < length same → RepeatsTo map weight same n
    → Agree map n (n + 1) weight b → RepeatsTo map weight (set same n b) (n + 1)
repeats_one map weight same n b in_List done agreed h l =
    ⊎_elim (λ m. subst (Agree map h (h + 1) weight) (sym (get_or-set_other same n h b false (λ p. omega arith))) (done h m))
    (λ p. subst (λ k. Agree map k (k + 1) weight (get_or (set same n b) k false)) (sym p) here)
    (below h n l)
  where
    here : Agree map n (n + 1) weight (get_or (set same n b) n false)
    here = subst (Agree map n (n + 1) weight) (sym (get_or-set_same same n b false in_List)) agreed

-- one more entry of a list that is filled from place 1 on
pub filled_next : (f : ℕ → ℕ) (xs : List ℕ) (i v : ℕ) → i + 1 < length xs → ((k : ℕ) → k < i → get_or xs (k + 1) 0 ≡ f k) → v ≡ f i
    → (k : ℕ) → k < i + 1 → get_or (set xs (i + 1) v) (k + 1) 0 ≡ f k
filled_next f xs i v in_List filled e k h =
    ⊎_elim (λ l. get_or-set_other xs (i + 1) (k + 1) v 0 (λ p. omega arith) ∙ filled k l)
    (λ p. ap (λ n. get_or (set xs (i + 1) v) (n + 1) 0) p ∙ get_or-set_same xs (i + 1) v 0 in_List ∙ e ∙ ap f (sym p))
    (below k i h)

-- a turn is kept, or left out where its neighbour leaves the same demand and costs no more
abbrev Kept : List ℕ → ℕ → List ℕ → List ℕ → ℕ → ℕ → Type 0
Kept map weight costs kept h near =
    (get_or kept h 0 ≡ get_or costs h 0)
    ⊎ ((get_or kept h 0 ≡ 65535) × (get_or costs near 0 ≤ get_or costs h 0) × ((q : ℕ) → q < weight → entry map near q ≡ entry map h q))

kept_or_out : (map : List ℕ) (weight : ℕ) (costs kept : List ℕ) (h near : ℕ) (same : Bool)
    → get_or kept h 0 ≡ kept_turn same (get_or costs near 0) (get_or costs h 0) → (same ≡ true → (q : ℕ) → q < weight → entry map near q ≡ entry map h q)
    → Kept map weight costs kept h near
unfolding kept_turn
kept_or_out map weight costs kept h near same e agreed = go (same && leb (get_or costs near 0) (get_or costs h 0)) refl
  where
    go : (b : Bool) → (same && leb (get_or costs near 0) (get_or costs h 0)) ≡ b → Kept map weight costs kept h near
    go false p = inl (e ∙ ap (λ b. cond b 65535 (get_or costs h 0)) p)
    go true p =
        let both = (and-eq-true_iff same (leb (get_or costs near 0) (get_or costs h 0))).0 p in
        inr (e ∙ ap (λ b. cond b 65535 (get_or costs h 0)) p, leb-true (get_or costs near 0) (get_or costs h 0) both.1, agreed both.0)

kept_or_none : (map : List ℕ) (weight : ℕ) (costs kept : List ℕ) (h near : ℕ) → Kept map weight costs kept h near
    → (get_or kept h 0 ≡ get_or costs h 0) ⊎ (get_or kept h 0 ≡ 65535)
kept_or_none map weight costs kept h near k = ⊎_elim (λ p. inl p) (λ n. inr n.0) k

-- where all turns can be swept, so can those that are kept
pub sweep_kept : (row spared fronts backs : List ℕ) (t : Turns) (same : Repeats) (r : Turns) (weight : ℕ)
    → SweepReady row spared fronts backs t weight → Thinned t same r → SweepReady row spared fronts backs r weight
sweep_kept row spared fronts backs t same r weight ready thin =
    let top-is = thin.top in
    let b = ready.behind in
    record {
      behind = record {
        small = b.small;
        top_fits = omega (arith, b.top_fits);
        graded = subst (λ from. Graded from r.top) (sym thin.from) (subst (Graded t.from) (sym thin.top) b.graded);
        backs_long = b.backs_long;
        back_below = λ i q l m n. b.back_below i q l (omega arith) n;
      };
      row_long = ready.row_long;
      spared_long = ready.spared_long;
      fronts_long = ready.fronts_long;
      front_below = λ h q l m. ready.front_below h q (omega arith) m;
    }

-- keys that are swept over the turns that are kept are swept over all turns
module _ (row row' perm : ℕ → ℕ → ℕ) (fronts backs : List ℕ) (weight : ℕ) (t : Turns) (same : Repeats) (r : Turns) (thin : Thinned t same r)
    (graded : Graded t.from t.top) (front_below : (h q : ℕ) → h < t.top → q < weight → entry fronts h q < weight)
    (Front-same : RepeatsTo fronts weight same.front t.top) (back-same : RepeatsTo backs weight same.back t.top)
    (fits : (s q : ℕ) → row s q ≤ no_key) (swept : SweptTo row row' perm fronts backs r weight 0) where
  -- a front turn past the first is kept, or left out for the one before it
  front_kept_lem : (h : ℕ) → suc h ≤ t.top → Kept fronts weight t.front r.front (suc h) h
  front_kept_lem h l =
      subst (λ n. Kept fronts weight t.front r.front n h) (add-one h)
      (kept_or_out fronts weight t.front r.front (h + 1) h (get_or same.front h false) (thin.front h l)
      (λ e. subst (Agree fronts h (h + 1) weight) e (Front-same h l)))

  -- a back turn before the last is kept, or left out for the one past it
  back_kept_lem : (i : ℕ) → i < t.top → Kept backs weight t.back r.back i (i + 1)
  back_kept_lem i l =
      kept_or_out backs weight t.back r.back i (i + 1) (get_or same.back i false) (thin.back i l)
      (λ e q m. sym (subst (Agree backs i (i + 1) weight) e (back-same i l) q m))

  -- the costs that are kept are those of the turns, or none
  front_or_none : (h : ℕ) → h ≤ t.top → (get_or r.front h 0 ≡ get_or t.front h 0) ⊎ (get_or r.front h 0 ≡ 65535)
  front_or_none zero l = inl thin.first
  front_or_none (suc h) l = kept_or_none fronts weight t.front r.front (suc h) h (front_kept_lem h l)

  back_or_none : (i : ℕ) → i ≤ t.top → (get_or r.back i 0 ≡ get_or t.back i 0) ⊎ (get_or r.back i 0 ≡ 65535)
  back_or_none i l =
      ⊎_elim (λ p. inl (subst (λ k. get_or r.back k 0 ≡ get_or t.back k 0) (sym p) thin.last))
      (λ p. kept_or_none backs weight t.back r.back i (i + 1) (back_kept_lem i p))
      (eq-or-lt_of_le l)

  -- the pairs of turns are those of the turns that are kept
  pair_kept : (a i : ℕ) → Pair t a i → Pair r a i
  pair_kept a i p =
      record { front = omega (arith, p.front, thin.top); goes = subst (λ l. get_or l a 0 ≤ i) (sym thin.from) p.goes; back = omega (arith, p.back, thin.top) }

  pair_all : (a i : ℕ) → Pair r a i → Pair t a i
  pair_all a i p =
      record { front = omega (arith, p.front, thin.top); goes = subst (λ l. get_or l a 0 ≤ i) thin.from p.goes; back = omega (arith, p.back, thin.top) }

  -- a back turn that goes with a front turn goes with the one before it too
  pair_lower : (a i : ℕ) → Pair t (suc a) i → Pair t a i
  pair_lower a i p =
      let grown = subst (λ n. get_or t.from a 0 ≤ get_or t.from n 0) (add-one a) (graded.grows a (omega (arith, p.front))) in
      record { front = omega (arith, p.front); goes = le_trans grown p.goes; back = p.back }

  module _ (s q : ℕ) (l : s < 8) (m : q < weight) where
    -- the way over a pair of turns
    abbrev way : List ℕ → List ℕ → ℕ → ℕ → ℕ
    way fc bc a i = turn_way perm fronts backs fc bc s q a i

    -- the key behind a pair of turns
    abbrev behind : ℕ → ℕ → ℕ
    behind a i = perm s (entry backs i (entry fronts a q))

    -- no way over a front turn that is kept and any back turn is less: go up to a back turn that is kept
    low_kept : (a i : ℕ) → Pair t a i → get_or r.back i 0 ≡ get_or t.back i 0 → row' s q ≤ way r.front t.back a i
    low_kept a i p e =
        subst (λ c. row' s q ≤ walk (get_or r.front a 0 + c) (behind a i)) e (swept.low s q a i l m (omega arith) (pair_kept a i p))

    low_back : (n a i : ℕ) → i + n ≡ t.top → Pair t a i → row' s q ≤ way r.front t.back a i
    low_back zero a i e p = low_kept a i p (subst (λ k. get_or r.back k 0 ≡ get_or t.back k 0) (omega arith) thin.last)
    low_back (suc n) a i e p =
        go (low_back n a (i + 1) (omega arith) (record { front = p.front; goes = omega (arith, p.goes); back = omega arith })) (back_kept_lem i (omega arith))
      where
        go : row' s q ≤ way r.front t.back a (i + 1) → Kept backs weight t.back r.back i (i + 1) → row' s q ≤ way r.front t.back a i
        go higher (inl k) = low_kept a i p k
        go higher (inr (none, cost, agreed)) =
            let y = entry fronts a q in
            let alike = ap (perm s) (agreed y (front_below a q p.front m)) in
            let front = get_or r.front a 0 in
            le_trans higher (walk_mono (front + get_or t.back (i + 1) 0) (front + get_or t.back i 0) (behind a (i + 1)) (behind a i) (omega arith) (omega (arith, alike)))

    -- nor over any front turn: go down to one that is kept
    low_any : (a i : ℕ) → Pair t a i → get_or r.front a 0 ≡ get_or t.front a 0 → row' s q ≤ way t.front t.back a i
    low_any a i p e =
        subst (λ c. row' s q ≤ walk (c + get_or t.back i 0) (behind a i)) e (low_back (t.top - i) a i (omega (arith, p.back)) p)

    low : (a i : ℕ) → Pair t a i → row' s q ≤ way t.front t.back a i
    low zero i p = low_any zero i p thin.first
    low (suc a) i p = go (low a i (pair_lower a i p)) (front_kept_lem a (omega (arith, p.front)))
      where
        go : row' s q ≤ way t.front t.back a i → Kept fronts weight t.front r.front (suc a) a → row' s q ≤ way t.front t.back (suc a) i
        go lower (inl k) = low_any (suc a) i p k
        go lower (inr (none, cost, agreed)) =
            let alike = ap (λ y. perm s (entry backs i y)) (agreed q m) in
            let back = get_or t.back i 0 in
            le_trans lower (walk_mono (get_or t.front a 0 + back) (get_or t.front (suc a) 0 + back) (behind a i) (behind (suc a) i) (omega arith) (omega (arith, alike)))

    -- a key that changed is the way over two turns that are kept
    abbrev Found : Turns → Type 0
    Found u = (a : ℕ) × (i : ℕ) × (0 ≤ a) × Pair u a i × (row' s q ≡ way u.front u.back a i)

    abbrev One : Type 0
    One = (row' s q ≡ row s q) ⊎ Found t

    one : One
    unfolding sum_up_to
    one = go (swept.one s q l m)
      where
        -- 'none' is no less than what was there
        still : row' s q ≡ no_key → One
        still e = inl (omega (arith, swept.less s q l m, fits s q))

        pick : (a i : ℕ) → Pair t a i → row' s q ≡ way r.front r.back a i
            → (get_or r.front a 0 ≡ get_or t.front a 0) ⊎ (get_or r.front a 0 ≡ 65535) → (get_or r.back i 0 ≡ get_or t.back i 0) ⊎ (get_or r.back i 0 ≡ 65535) → One
        pick a i p e (inl u) (inl v) = inr (a, i, omega arith, p, e ∙ ap₂ (λ f b. walk (f + b) (behind a i)) u v)
        pick a i p e (inr u) v = still (omega (arith, e, u))
        pick a i p e (inl u) (inr v) = still (omega (arith, e, v))

        go : (row' s q ≡ row s q) ⊎ Found r → One
        go (inl e) = inl e
        go (inr (a, i, z, p, e)) =
            let k = pair_all a i p in
            pick a i k e (front_or_none a (omega (arith, k.front))) (back_or_none i k.back)

  pub swept_thin : SweptTo row row' perm fronts backs t weight 0
  swept_thin =
      record {
        low = λ s q a i l m z p. low s q l m a i p;
        less = swept.less;
        one = one;
      }
