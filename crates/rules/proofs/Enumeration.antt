-- The enumeration of plans: it holds every well_formed plan, in order; and the first of the shortest in a list, by any length.
use Prim.Native.Nat.{ℕ, zero, suc, ◌-◌, ◌≤◌, ◌<◌}
use mathlib.Core.Path.{◌≡◌, refl, sym, ◌∙◌, ap, subst, subst₂}
use mathlib.Core.Logic.{◌⊎◌, inl, inr, ◌↔◌}
use mathlib.Core.List.Memᴰ
use mathlib.Core.List.{List, [], ◌∷◌, ◌++◌, map, Memᴰ}
use mathlib.Core.Bool.{Bool, true, false, cond, ◌&&◌, and-eq-true_iff, and-false, or-false}
use mathlib.Core.Option.{Option, some}
use native.Mathlib.Nat.{eq-or-lt_of_le}
use native.Mathlib.Omega.{arith}
use lib.Dec.{ltb}
use lib.ListN.{length}
use borrow.Author.Tests.{ltb-true, ltb-false, lt-ltb, le-ltb}
use Rattle.rules.specs.declared.Layout.{Layout}
use Rattle.rules.specs.declared.Action.{Action}
use Rattle.rules.specs.declared.Action.TheVariants.{Void, Bottom, Top, Gap, Once, Twice}
use Rattle.rules.specs.declared.Passage.{Passage}
use Rattle.rules.specs.declared.Passage.TheVariants.{P00, P02, P11, P20, P22}
use Rattle.rules.specs.Lists.{from, concat_of, Sorted}
use Rattle.rules.specs.Plans.{Plan, Fits, WellFormed, plan_length, plan_passes}
use Rattle.rules.specs.Policies.{entered_aisles}
use Rattle.rules.specs.BestPlan.{down_from, actions_of, passages_in_order, single, prepend, plans_of, action_rank, passage_rank, RankBefore, Before, by_action, by_passage, further, PlanBefore, is_better, better_of, first_best, serving_plans, empty_plan, best_plan}
use Rattle.rules.specs.Jobs.{Job}
use Rattle.rules.specs.Serving.{serves, PlanServes}
use Rattle.rules.specs.Machine.{accepts}
use Rattle.rules.proofs.Lists.{member_from, from_member, member_concat, concat_member, member_select, sorted_append, sorted_split, sorted_select, sorted_map, sorted_by, sorted_concat, sorted_from}
use Rattle.rules.proofs.Listing.{listed_sound}
use Rattle.rules.proofs.Lengths.{well_formed_fits}
use Rattle.rules.proofs.Serving.{serves_test}
use Rattle.rules.proofs.FirstBest.{shorter_better, first_best_member, first_best_some, first_best_least, first_best_agrees}

-- the numbers from n down to 1
member_down : {k : ℕ} (n : ℕ) → Memᴰ k (down_from n) → (1 ≤ k) × (k ≤ n)
member_down zero m = absurd (Memᴰ.not-nil m)
member_down (suc n) (Memᴰ.head e) = omega arith
member_down (suc n) (Memᴰ.tail m) = let h = member_down n m in omega arith

down_member : (k n : ℕ) → 1 ≤ k → k ≤ n → Memᴰ k (down_from n)
down_member k zero low high = absurd (omega arith)
down_member k (suc n) low high = go (eq-or-lt_of_le high) (down_member k n low)
  where
    go : (k ≡ suc n) ⊎ (k < suc n) → (k ≤ n → Memᴰ k (down_from n)) → Memᴰ k (down_from (suc n))
    go (inl e) rest = Memᴰ.head e
    go (inr h) rest = Memᴰ.tail (rest (omega arith))

sorted_down : (c n : ℕ) → n ≤ c → Sorted (λ j k. (k < j) × (j ≤ c)) (down_from n)
sorted_down c zero h = tt
sorted_down c (suc n) h = (λ k m. (let p = member_down n m in omega arith), sorted_down c n (omega arith))

-- one action comes before another in an aisle with that many cells
abbrev pub ActionBefore : ℕ → Action → Action → Type 0
ActionBefore cells a b = RankBefore (action_rank cells a) (action_rank cells b)

module _ (cells : ℕ) where
  -- an action that fits, of a kind from low to high
  abbrev Kind : ℕ → ℕ → Action → Type 0
  Kind low high a = Fits cells a × (low ≤ (action_rank cells a).0) × ((action_rank cells a).0 ≤ high)

  -- a sorted list of such actions
  abbrev Block : ℕ → ℕ → List Action → Type 0
  Block low high xs = ((a : Action) → Memᴰ a xs → Kind low high a) × Sorted (ActionBefore cells) xs

  -- a block of lower kinds in front of another
  join : {low high low' high' : ℕ} (xs ys : List Action) → (low ≤ low') × (high < low') × (high ≤ high') → Block low high xs → Block low' high' ys → Block low high' (xs ++ ys)
  unfolding RankBefore
  join {low} {high} {low'} {high'} xs ys le x y =
      (λ a m. go a (Memᴰ.append_cases xs m), sorted_append (ActionBefore cells) xs ys x.1 y.1 (λ a b l m. inl (omega (arith, (x.0 a l).2, (y.0 b m).1))))
    where
      go : (a : Action) → Memᴰ a xs ⊎ Memᴰ a ys → Kind low high' a
      go a (inl l) = let k = x.0 a l in (k.0, k.1, omega arith)
      go a (inr l) = let k = y.0 a l in (k.0, omega arith, k.2)

  lone : (k : ℕ) (a : Action) → Kind k k a → Block k k (a ∷ [])
  lone k a h = (λ b m. subst (Kind k k) (sym (Memᴰ.eq_of_singleton m)) h, (λ b m. absurd (Memᴰ.not-nil m), tt))

  bottoms : Block 1 1 (map Bottom (from 1 cells))
  unfolding RankBefore action_rank
  bottoms = (
    λ a m. (let p = Memᴰ.of_map Bottom (from 1 cells) m in let b = member_from 1 cells p.1 in subst (Kind 1 1) p.2 (omega arith)),
    sorted_map ◌<◌ (ActionBefore cells) Bottom (from 1 cells) (λ i j h. inr (refl, inl h)) (sorted_from 1 cells),
  )

  tops : Block 2 2 (map Top (down_from cells))
  unfolding RankBefore action_rank
  tops = (
    λ a m. (let p = Memᴰ.of_map Top (down_from cells) m in let b = member_down cells p.1 in subst (Kind 2 2) p.2 (omega arith)),
    sorted_map (λ j k. (k < j) × (j ≤ cells)) (ActionBefore cells) Top (down_from cells) (λ i j h. inr (refl, inl (omega arith))) (sorted_down cells cells (omega arith)),
  )

  abbrev gaps_at : ℕ → List Action
  gaps_at h = map (Gap h) (from (suc h) (cells - h))

  gap_member : {a : Action} (h : ℕ) → Memᴰ a (gaps_at h) → (i : ℕ) × (h < i) × (i ≤ cells) × (Gap h i ≡ a)
  gap_member h m =
      let p = Memᴰ.of_map (Gap h) (from (suc h) (cells - h)) m in
      let b = member_from (suc h) (cells - h) p.1 in
      (p.0, omega arith, omega arith, p.2)

  gaps : Block 3 3 (concat_of gaps_at (from 1 cells))
  unfolding RankBefore action_rank
  gaps =
      (each, sorted_concat ◌<◌ (ActionBefore cells) gaps_at (from 1 cells) (sorted_from 1 cells) (λ h. sorted_map ◌<◌ (ActionBefore cells) (Gap h) (from (suc h) (cells - h)) (λ i j l. inr (refl, inr (refl, l))) (sorted_from (suc h) (cells - h))) across)
    where
      each : (a : Action) → Memᴰ a (concat_of gaps_at (from 1 cells)) → Kind 3 3 a
      each a m =
          let p = member_concat gaps_at (from 1 cells) m in
          let b = member_from 1 cells p.1 in
          let q = gap_member p.0 p.2 in
          subst (Kind 3 3) q.3 (omega arith)

      across : (g h : ℕ) (a b : Action) → g < h → Memᴰ a (gaps_at g) → Memᴰ b (gaps_at h) → ActionBefore cells a b
      across g h a b l m n = subst₂ (ActionBefore cells) (gap_member g m).3 (gap_member h n).3 (inr (refl, inl l))

  all_actions_lem : Block 0 5 (actions_of cells)
  unfolding actions_of action_rank
  all_actions_lem =
      let bs = map Bottom (from 1 cells) in
      let ts = map Top (down_from cells) in
      let gs = concat_of gaps_at (from 1 cells) in
      let os : List Action = Once ∷ Twice ∷ [] in
      let ones = join (Once ∷ []) (Twice ∷ []) (omega arith) (lone 4 Once (omega arith)) (lone 5 Twice (omega arith)) in
      join (Void ∷ []) (bs ++ (ts ++ (gs ++ os))) (omega arith) (lone 0 Void (omega arith)) (
      join bs (ts ++ (gs ++ os)) (omega arith) bottoms (join ts (gs ++ os) (omega arith) tops (join gs os (omega arith) gaps ones))
      )

-- every listed action fits
pub actions_sound : (cells : ℕ) (a : Action) → Memᴰ a (actions_of cells) → Fits cells a
actions_sound cells a m = ((all_actions_lem cells).0 a m).0

-- every action that fits is listed
pub actions_complete : (cells : ℕ) (a : Action) → Fits cells a → Memᴰ a (actions_of cells)
unfolding actions_of
actions_complete cells a fits = go a fits
  where
    bs : List Action
    bs = map Bottom (from 1 cells)

    ts : List Action
    ts = map Top (down_from cells)

    gs : List Action
    gs = concat_of (gaps_at cells) (from 1 cells)

    behind_gaps : {b : Action} → Memᴰ b (Once ∷ Twice ∷ []) → Memᴰ b (actions_of cells)
    behind_gaps m = Memᴰ.tail (Memᴰ.append_right bs (Memᴰ.append_right ts (Memᴰ.append_right gs m)))

    go : (b : Action) → Fits cells b → Memᴰ b (actions_of cells)
    go Void h = Memᴰ.head refl
    go (Bottom i) h = Memᴰ.tail (Memᴰ.append_left (ts ++ (gs ++ (Once ∷ Twice ∷ []))) (Memᴰ.map Bottom (from_member i 1 cells h.0 (omega arith))))
    go (Top i) h = Memᴰ.tail (Memᴰ.append_right bs (Memᴰ.append_left (gs ++ (Once ∷ Twice ∷ [])) (Memᴰ.map Top (down_member i cells h.0 h.1))))
    go (Gap g i) h = Memᴰ.tail (Memᴰ.append_right bs (Memᴰ.append_right ts (Memᴰ.append_left (Once ∷ Twice ∷ []) (concat_member (gaps_at cells) (from_member g 1 cells h.0 (omega arith)) (Memᴰ.map (Gap g) (from_member i (suc g) (cells - g) h.1 (omega arith)))))))
    go Once h = behind_gaps (Memᴰ.head refl)
    go Twice h = behind_gaps (Memᴰ.tail (Memᴰ.head refl))

-- the actions are listed in rank order
pub actions_ordered : (cells : ℕ) → Sorted (ActionBefore cells) (actions_of cells)
actions_ordered cells = (all_actions_lem cells).1

-- every passage is listed
pub passages_complete : (p : Passage) → Memᴰ p passages_in_order
unfolding passages_in_order
passages_complete P00 = Memᴰ.head refl
passages_complete P02 = Memᴰ.tail (Memᴰ.head refl)
passages_complete P11 = Memᴰ.tail (Memᴰ.tail (Memᴰ.head refl))
passages_complete P20 = Memᴰ.tail (Memᴰ.tail (Memᴰ.tail (Memᴰ.head refl)))
passages_complete P22 = Memᴰ.tail (Memᴰ.tail (Memᴰ.tail (Memᴰ.tail (Memᴰ.head refl))))

-- the passages are listed in rank order
pub passages_ordered : Sorted (λ p q. passage_rank p < passage_rank q) passages_in_order
unfolding passages_in_order
passages_ordered = sorted_by passage_rank ◌<◌ passages_in_order (sorted_from 0 5)

-- the plans that begin with an action and a passage
abbrev plans_from : ℕ → ℕ → Action → Passage → List Plan
plans_from cells n a p = map (prepend a p) (plans_of cells n)

abbrev plans_with : ℕ → ℕ → Action → List Plan
plans_with cells n a = concat_of (plans_from cells n a) passages_in_order

complete_from : (cells : ℕ) (xs : List Action) (ps : List Passage) → suc (length ps) ≡ length xs → ((a : Action) → Memᴰ a xs → Fits cells a) → Memᴰ (record { actions = xs; passages = ps }) (plans_of cells (length xs))
unfolding single prepend
complete_from cells [] ps e fits = absurd (omega arith)
complete_from cells (a ∷ []) [] e fits = Memᴰ.map single (actions_complete cells a (fits a (Memᴰ.head refl)))
complete_from cells (a ∷ []) (p ∷ ps) e fits = absurd (omega arith)
complete_from cells (a ∷ b ∷ xs) [] e fits = absurd (omega arith)
complete_from cells (a ∷ b ∷ xs) (p ∷ ps) e fits =
    let rest = complete_from cells (b ∷ xs) ps (omega arith) (λ c m. fits c (Memᴰ.tail m)) in
    concat_member (plans_with cells (length (b ∷ xs))) (actions_complete cells a (fits a (Memᴰ.head refl))) (concat_member (plans_from cells (length (b ∷ xs)) a) (passages_complete p) (Memᴰ.map (prepend a p) rest))

-- every well_formed plan is listed
pub enumeration_complete : (z : Layout) (plan : Plan) → WellFormed z plan → Memᴰ plan (plans_of z.cells z.aisles)
enumeration_complete z plan wf =
    rw wf.aisles at (complete_from z.cells plan.actions plan.passages (wf.passages ∙ sym wf.aisles) (well_formed_fits z plan wf))

-- every listed plan is well_formed
pub enumeration_sound : (z : Layout) (plan : Plan) → Memᴰ plan (plans_of z.cells z.aisles) → WellFormed z plan
enumeration_sound z = listed_sound z (actions_sound z.cells)

-- the plans are listed in order
pub enumeration_ordered : (cells m : ℕ) → Sorted (PlanBefore cells) (plans_of cells m)
unfolding PlanBefore single prepend
enumeration_ordered cells zero = tt
enumeration_ordered cells (suc zero) =
    sorted_map (ActionBefore cells) (PlanBefore cells) single (actions_of cells) (λ a b h. by_action h) (actions_ordered cells)
enumeration_ordered cells (suc (suc n)) = go (enumeration_ordered cells (suc n))
  where
    later : List Plan
    later = plans_of cells (suc n)

    by_passages : (a : Action) (p q : Passage) (u v : Plan) → passage_rank p < passage_rank q → Memᴰ u (plans_from cells (suc n) a p) → Memᴰ v (plans_from cells (suc n) a q) → PlanBefore cells u v
    by_passages a p q u v h l m =
        subst₂ (PlanBefore cells) (Memᴰ.of_map (prepend a p) later l).2 (Memᴰ.of_map (prepend a q) later m).2 (by_passage h)

    by_actions : (a b : Action) (u v : Plan) → ActionBefore cells a b → Memᴰ u (plans_with cells (suc n) a) → Memᴰ v (plans_with cells (suc n) b) → PlanBefore cells u v
    by_actions a b u v h l m =
        let p = member_concat (plans_from cells (suc n) a) passages_in_order l in
        let q = member_concat (plans_from cells (suc n) b) passages_in_order m in
        subst₂ (PlanBefore cells) (Memᴰ.of_map (prepend a p.0) later p.2).2 (Memᴰ.of_map (prepend b q.0) later q.2).2 (by_action h)

    go : Sorted (PlanBefore cells) later → Sorted (PlanBefore cells) (plans_of cells (suc (suc n)))
    go rest =
        sorted_concat (ActionBefore cells) (PlanBefore cells) (plans_with cells (suc n)) (actions_of cells) (actions_ordered cells) (
        λ a. sorted_concat (λ p q. passage_rank p < passage_rank q) (PlanBefore cells) (plans_from cells (suc n) a) passages_in_order passages_ordered (
        λ p. sorted_map (PlanBefore cells) (PlanBefore cells) (prepend a p) later (λ x y h. further h) rest
        ) (by_passages a)
        ) by_actions

-- of two ranks only one comes before the other
rank_one_way : (r s : ℕ × ℕ × ℕ) → RankBefore r s → RankBefore s r → ⊥
unfolding RankBefore
rank_one_way r s (inl h) (inl k) = omega arith
rank_one_way r s (inl h) (inr (f, k)) = omega arith
rank_one_way r s (inr (e, h)) (inl k) = omega arith
rank_one_way r s (inr (e, inl h)) (inr (f, inl k)) = omega arith
rank_one_way r s (inr (e, inl h)) (inr (f, inr k)) = omega arith
rank_one_way r s (inr (e, inr h)) (inr (f, inl k)) = omega arith
rank_one_way r s (inr (e, inr h)) (inr (f, inr k)) = omega arith

-- what differs in rank is not the same
action_differs : (cells : ℕ) {a b : Action} → RankBefore (action_rank cells a) (action_rank cells b) → a ≡ b → ⊥
action_differs cells {a} {b} h same =
    let g : RankBefore (action_rank cells b) (action_rank cells b) = subst (λ u. RankBefore (action_rank cells u) (action_rank cells b)) same h in
    rank_one_way (action_rank cells b) (action_rank cells b) g g

passage_differs : (p q : Passage) → passage_rank p < passage_rank q → p ≡ q → ⊥
passage_differs p q h same = omega (arith, ap passage_rank same)

-- the first difference is the same seen from either plan
before_one_way : {cells : ℕ} {xs ys us vs : List Action} {ps qs rs ss : List Passage} → Before cells xs ps ys qs → Before cells us rs vs ss → xs ≡ vs → ys ≡ us → ps ≡ ss → qs ≡ rs → ⊥
before_one_way {cells} (by_action {a} {b} h) (by_action {a = c} {b = d} k) x y p q =
    let left : d ≡ a = cc in
    let right : c ≡ b = cc in
    rank_one_way (action_rank cells a) (action_rank cells b) h
    (subst₂ (λ u v. RankBefore (action_rank cells u) (action_rank cells v)) right left k)
before_one_way {cells} (by_action h) (by_passage k) x y p q = action_differs cells h cc
before_one_way {cells} (by_action h) (further k) x y p q = action_differs cells h cc
before_one_way {cells} (by_passage h) (by_action k) x y p q = action_differs cells k cc
before_one_way {cells} (further h) (by_action k) x y p q = action_differs cells k cc
before_one_way (by_passage {p} {q} h) (by_passage {p = r} {q = s} k) e f g i =
    let left : p ≡ s = cc in
    let right : q ≡ r = cc in
    omega (arith, ap passage_rank left, ap passage_rank right)
before_one_way (by_passage {p = r} {q = s} h) (further k) x y p q = passage_differs r s h cc
before_one_way (further h) (by_passage {p = r} {q = s} k) x y p q = passage_differs r s k cc
before_one_way (further h) (further k) x y p q = before_one_way h k (cc) (cc) (cc) (cc)

-- of two plans only one comes before the other
pub plan_before_one_way : (cells : ℕ) (plan other : Plan) → PlanBefore cells plan other → PlanBefore cells other plan → ⊥
unfolding PlanBefore
plan_before_one_way cells plan other h k = before_one_way h k refl refl refl refl

-- no plan comes before itself, so that none is listed twice
pub plan_not_before_itself : (cells : ℕ) (plan : Plan) → PlanBefore cells plan plan → ⊥
plan_not_before_itself cells plan b = plan_before_one_way cells plan plan b b

-- the first of the shortest in a list: a shorter one is better, and nothing else is compared
abbrev pub first_shortest : {A : Type 0} → (A → ℕ) → List A → Option A
first_shortest len xs = first_best (λ x y. ltb (len x) (len y)) xs

-- it is the first of the best where nothing is counted in those that are equally long
pub nothing_counted : {A : Type 0} (len : A → ℕ) (xs : List A) → first_best (is_better len (λ x. 0)) xs ≡ first_shortest len xs
unfolding is_better
nothing_counted len xs = first_best_agrees (is_better len (λ x. 0)) (λ x y. ltb (len x) (len y)) xs (λ x y m l. simp (and-false, or-false))

-- a list has x as the first of its shortest elements: those in front of x are longer, those behind it no shorter
pub record FirstShortest {A : Type 0} (len : A → ℕ) (xs : List A) (x : A) : Type 0 where
  pub before : List A
  pub after : List A
  pub split : xs ≡ before ++ (x ∷ after)
  pub longer_before : (y : A) → Memᴰ y before → len x < len y
  pub no_shorter_after : (y : A) → Memᴰ y after → len x ≤ len y

module _ {A : Type 0} (len : A → ℕ) where
  -- it is a member
  pub first_shortest_member : {xs : List A} {x : A} → FirstShortest len xs x → Memᴰ x xs
  first_shortest_member {xs} {x} f = subst (Memᴰ x) (sym f.split) (Memᴰ.append_right f.before (Memᴰ.head refl))

  -- no member is shorter
  pub first_shortest_least : {xs : List A} {x : A} → FirstShortest len xs x → (y : A) → Memᴰ y xs → len x ≤ len y
  first_shortest_least {xs} {x} f y m = go (Memᴰ.append_cases f.before (subst (Memᴰ y) f.split m))
    where
      go : Memᴰ y f.before ⊎ Memᴰ y (x ∷ f.after) → len x ≤ len y
      go (inl l) = omega (arith, f.longer_before y l)
      go (inr (Memᴰ.head e)) = omega (arith, ap len e)
      go (inr (Memᴰ.tail l)) = f.no_shorter_after y l

  -- in a sorted list every other member of its length comes later
  pub first_shortest_first : (R : A → A → Type 0) {xs : List A} {x : A} → Sorted R xs → FirstShortest len xs x → (y : A) → Memᴰ y xs → len y ≤ len x → (y ≡ x) ⊎ R x y
  first_shortest_first R {xs} {x} s f y m le = go (Memᴰ.append_cases f.before (subst (Memᴰ y) f.split m))
    where
      go : Memᴰ y f.before ⊎ Memᴰ y (x ∷ f.after) → (y ≡ x) ⊎ R x y
      go (inl l) = absurd (omega (arith, f.longer_before y l))
      go (inr (Memᴰ.head e)) = inl e
      go (inr (Memᴰ.tail l)) = inr (sorted_split R f.before (subst (Sorted R) f.split s) y l)

  -- the shorter of two, by the test that chooses it
  abbrev pub shorter_of : A → Option A → A
  shorter_of x o = better_of (λ y z. ltb (len y) (len z)) x o

  -- a list with an element has a first of its shortest elements, and the function gives it
  pub first_shortest_some : (w : A) (ws : List A) → (x : A) × (first_shortest len (w ∷ ws) ≡ some x) × FirstShortest len (w ∷ ws) x
  unfolding better_of
  first_shortest_some w [] =
      (w, refl, record { before = []; after = []; split = refl; longer_before = λ y m. absurd (Memᴰ.not-nil m); no_shorter_after = λ y m. absurd (Memᴰ.not-nil m) })
  first_shortest_some w (v ∷ vs) = go (first_shortest_some v vs)
    where
      go : (x : A) × (first_shortest len (v ∷ vs) ≡ some x) × FirstShortest len (v ∷ vs) x → (x : A) × (first_shortest len (w ∷ v ∷ vs) ≡ some x) × FirstShortest len (w ∷ v ∷ vs) x
      go (x, e, f) = choose (ltb (len x) (len w)) refl
        where
          choose : (t : Bool) → ltb (len x) (len w) ≡ t → (x : A) × (first_shortest len (w ∷ v ∷ vs) ≡ some x) × FirstShortest len (w ∷ v ∷ vs) x
          choose false t =
              (w, ap (λ o. some (shorter_of w o)) e ∙ ap (λ b. some (cond b x w)) t, record { before = []; after = v ∷ vs; split = refl; longer_before = λ y m. absurd (Memᴰ.not-nil m); no_shorter_after = λ y m. omega (arith, first_shortest_least f y m, ltb-false (len x) (len w) t) })
          choose true t =
              (x, ap (λ o. some (shorter_of w o)) e ∙ ap (λ b. some (cond b x w)) t, record { before = w ∷ f.before; after = f.after; split = ap (λ l. w ∷ l) f.split; longer_before = longer; no_shorter_after = f.no_shorter_after })
            where
              longer : (y : A) → Memᴰ y (w ∷ f.before) → len x < len y
              longer y (Memᴰ.head h) = omega (arith, ap len h, ltb-true (len x) (len w) t)
              longer y (Memᴰ.tail m) = f.longer_before y m

  -- it is what the function gives
  pub first_shortest_given : (xs : List A) (x : A) → (first_shortest len xs ≡ some x) ↔ FirstShortest len xs x
  unfolding better_of
  first_shortest_given xs x = (found xs, λ f. rw f.split (given f.before f.after f.longer_before f.no_shorter_after))
    where
      found : (ys : List A) → first_shortest len ys ≡ some x → FirstShortest len ys x
      found [] e = let none_some : ◌≡◌ {A = ℕ} 0 1 = cc in absurd (omega arith)
      found (y ∷ ys) e = let r = first_shortest_some y ys in let same : r.0 ≡ x = cc in subst (FirstShortest len (y ∷ ys)) same r.2

      given : (before after : List A) → ((y : A) → Memᴰ y before → len x < len y) → ((y : A) → Memᴰ y after → len x ≤ len y) → first_shortest len (before ++ (x ∷ after)) ≡ some x
      given [] [] b a = refl
      given [] (v ∷ vs) b a =
          let r = first_shortest_some v vs in
          ap (λ o. some (shorter_of x o)) r.1 ∙ ap (λ b. some (cond b r.0 x)) (le-ltb (len r.0) (len x) (a r.0 (first_shortest_member r.2)))
      given (w ∷ ws) after b a =
          ap (λ o. some (shorter_of w o)) (given ws after (λ y m. b y (Memᴰ.tail m)) a) ∙ ap (λ b. some (cond b x w)) (lt-ltb (len x) (len w) (b w (Memᴰ.head refl)))

-- the plans among which the best is chosen: well_formed, allowed by the policy, serving the list
pub serving_plans_lem : (job : Job) (plan : Plan) → Memᴰ plan (serving_plans job) ↔ (WellFormed job.layout plan × (accepts job plan ≡ true) × PlanServes job plan)
unfolding serving_plans PlanServes
serving_plans_lem job plan =
    let test : Plan → Bool = λ x. accepts job x && serves job (plan_passes x) in
    let listed = plans_of job.layout.cells job.layout.aisles in
    let both = and-eq-true_iff (accepts job plan) (serves job (plan_passes plan)) in
    let serving = serves_test job (plan_passes plan) in (
      λ m.
          let p = (member_select test listed).0 m in
          let q = both.0 p.1 in
          (enumeration_sound job.layout plan p.0, q.0, serving.0 q.1),
      λ h. (member_select test listed).1 (enumeration_complete job.layout plan h.0, both.1 (h.1, serving.1 h.2)),
    )

-- they stand in order
pub serving_plans_ordered : (job : Job) → Sorted (PlanBefore job.layout.cells) (serving_plans job)
unfolding serving_plans
serving_plans_ordered job =
    sorted_select (PlanBefore job.layout.cells) (λ x. accepts job x && serves job (plan_passes x)) (plans_of job.layout.cells job.layout.aisles) (enumeration_ordered job.layout.cells job.layout.aisles)

-- where there is such a plan, the best plan is the first of the best among them
pub best_plan_found : (job : Job) (plan : Plan) → Memᴰ plan (serving_plans job)
    → first_best (is_better (plan_length job.layout) entered_aisles) (serving_plans job) ≡ some (best_plan job)
unfolding best_plan
best_plan_found job plan m = first_best_some (is_better (plan_length job.layout) entered_aisles) (serving_plans job) m (empty_plan job.layout)

module _ (job : Job) (plan : Plan) (listed : Memᴰ plan (serving_plans job)) where
  -- so it is one of them, and no longer than any
  pub best_plan_listed : Memᴰ (best_plan job) (serving_plans job)
  best_plan_listed = first_best_member (is_better (plan_length job.layout) entered_aisles) (serving_plans job) (best_plan job) (best_plan_found job plan listed)

  pub best_plan_shortest : plan_length job.layout (best_plan job) ≤ plan_length job.layout plan
  best_plan_shortest =
      let len = plan_length job.layout in
      first_best_least (is_better len entered_aisles) len (shorter_better len entered_aisles) (serving_plans job) (best_plan job) (best_plan_found job plan listed) plan listed
