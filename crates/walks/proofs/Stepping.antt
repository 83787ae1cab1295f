-- One step of the walk by the numbers: which letters can be next, and what is left behind the one that is taken.
use Prim.Native.Nat.{ℕ, zero, suc, ◌+◌, ◌*◌, ◌-◌, ◌≤◌, ◌<◌}
use native.Mathlib.Omega.{arith}
use mathlib.Core.Path.{◌≡◌, refl, sym, ap, ap₂, ◌∙◌, subst}
use mathlib.Core.Logic.{◌⊎◌, inl, inr, ◌↔◌}
use mathlib.Core.List.{List, [], ◌∷◌}
use mathlib.Core.Bool.{Bool, true, false, ◌&&◌}
use mathlib.Core.Option.{some}
use lib.Dec.{ltb}
use lib.ListN.{length, get_or, set, replicate, length-set, length-replicate}
use lib.Seq.{get_or-set_other, ext_get_or}
use borrow.Author.Tests.{lt-ltb, le-ltb}
use Rattle.rules.specs.declared.Layout.{Layout}
use Rattle.rules.specs.declared.Direction.{Direction}
use Rattle.rules.specs.declared.Direction.TheVariants.{Back, Front, Left, Right}
use Rattle.rules.specs.Store.{Point, Edge, InStore, depot_point}
use Rattle.rules.specs.Walks.{Walk, can_step, step_to, step_edge}
use Rattle.rules.specs.FirstWalk.{without, steps_of}
use Rattle.closedwalks.specs.Ways.{PointOf, Leads, treads_from, Joined}
use Rattle.closedwalks.specs.Greedy.{first_letter, greedy, Ready, TellsJoined}
use Rattle.closedwalks.proofs.Splits.{none_or_some}
use Rattle.closedwalks.proofs.Steps.{one_refl, stepped}
use Rattle.closedwalks.proofs.Parity.{total_step}
use Rattle.closedwalks.proofs.Counts.{layout_bounds}
use Rattle.closedwalks.proofs.Greedily.{spare_joined}
use Rattle.closedwalks.proofs.Statements.{completed}
use Rattle.treads.specs.Treads.{spot, point_at, slot_of, left_of, Charted}
use Rattle.flood.specs.Flooded.{AllReached, Ranged}
use Rattle.flood.specs.Points.{depot_number, next_by}
use Rattle.walks.specs.Letters.{slot_by, treads_at, finds, Walkable, can_be, next_letter, letters_left}
use Rattle.flood.proofs.Flooding.{same_or_not, seen_below, none_at}
use Rattle.treads.proofs.Places.{spot_at_lem, spot_point, spot_range, left_in, left_without, charted_fewer, charted_range}
use Rattle.walks.proofs.Places.{letter_slot, letter_next, free_slot, slot_free, free_test}
use Rattle.treads.proofs.Reaching.{reached_joined}
use Rattle.walks.proofs.Choice.{finds_tells, only_joined, chosen_ready, some_chosen, greedy_chosen}

-- the letters that are tried, in the order of the alphabet
abbrev pub tried : ℕ → Direction
tried k = get_or (Back ∷ Front ∷ Left ∷ []) k Back

-- a test that holds exactly where another does
same_test : (a b : Bool) → (a ≡ true → b ≡ true) → (b ≡ true → a ≡ true) → a ≡ b
same_test true b f g = sym (f refl)
same_test false true f g = g refl
same_test false false f g = refl

-- where one letter has the only tread, no other letter has any
only_tread : (left : List ℕ) (at : ℕ) (d e : Direction) → treads_at left at ≡ 1 → 0 < get_or left (slot_by d at) 0 → 0 < get_or left (slot_by e at) 0 → e ≡ d
only_tread left at Back Back s p q = refl
only_tread left at Back Front s p q = absurd (omega arith)
only_tread left at Back Left s p q = absurd (omega arith)
only_tread left at Back Right s p q = absurd (omega arith)
only_tread left at Front Back s p q = absurd (omega arith)
only_tread left at Front Front s p q = refl
only_tread left at Front Left s p q = absurd (omega arith)
only_tread left at Front Right s p q = absurd (omega arith)
only_tread left at Left Back s p q = absurd (omega arith)
only_tread left at Left Front s p q = absurd (omega arith)
only_tread left at Left Left s p q = refl
only_tread left at Left Right s p q = absurd (omega arith)
only_tread left at Right Back s p q = absurd (omega arith)
only_tread left at Right Front s p q = absurd (omega arith)
only_tread left at Right Left s p q = absurd (omega arith)
only_tread left at Right Right s p q = refl

-- a tread of a letter is one of the point
tread_at : (left : List ℕ) (at : ℕ) (d : Direction) → 0 < get_or left (slot_by d at) 0 → 0 < treads_at left at
tread_at left at Back h = omega arith
tread_at left at Front h = omega arith
tread_at left at Left h = omega arith
tread_at left at Right h = omega arith

-- a tread of the point is one of some letter
at_tread : (left : List ℕ) (at : ℕ) → 0 < treads_at left at → (d : Direction) × (0 < get_or left (slot_by d at) 0)
at_tread left at h = go (none_or_some (get_or left (slot_by Back at) 0)) (none_or_some (get_or left (slot_by Front at) 0)) (none_or_some (get_or left (slot_by Left at) 0))
  where
    Split : Direction → Type 0
    Split d = (get_or left (slot_by d at) 0 ≡ 0) ⊎ (0 < get_or left (slot_by d at) 0)

    go : Split Back → Split Front → Split Left → (d : Direction) × (0 < get_or left (slot_by d at) 0)
    go (inr b) f l = (Back, b)
    go (inl b) (inr f) l = (Front, f)
    go (inl b) (inl f) (inr l) = (Left, l)
    go (inl b) (inl f) (inl l) = (Right, omega arith)

module _ (z : Layout) (left : List ℕ) (at : ℕ) (w : Walkable z left at) where
  -- the bounds of the store
  wide : z.aisles ≤ 16
  wide = (layout_bounds z w.bounds).0

  deep : z.cells ≤ 24
  deep = (layout_bounds z w.bounds).1

  abbrev x : Point
  x = point_at at

  inside : PointOf z x
  inside = w.ready.point

  -- the point's number, and where its edges have their places
  pub at_range : (26 ≤ at) × (at < 26 * (z.aisles + 1)) × (at < 442)
  at_range = subst (λ (n : ℕ). (26 ≤ n) × (n < 26 * (z.aisles + 1)) × (n < 442)) (spot_at_lem at) (spot_range z wide deep x inside)

  pub at_in : (26 ≤ at) × (at < 442)
  at_in = (at_range.0, at_range.2)

  -- the edges that are left lie in the store
  pub left_range : Ranged left (26 * (z.aisles + 1))
  left_range = charted_range z wide deep left w.charted

  module _ (d : Direction) where
    abbrev n : ℕ
    n = get_or left (slot_by d at) 0

    -- the place by the number of the point
    at_slot : get_or left (slot_by d (spot x)) 0 ≡ n
    at_slot = ap (λ (k : ℕ). get_or left (slot_by d k) 0) (spot_at_lem at)

    -- a letter whose place has treads can be taken
    free : 0 < n → (can_step z x d ≡ true) × (0 < left_of z left (step_edge x d))
    free h = slot_free z wide deep x inside left w.charted d (omega (arith, at_slot))

    -- the treads of the letter stand at its place
    left_slot : can_step z x d ≡ true → left_of z left (step_edge x d) ≡ n
    left_slot c = free_slot z wide deep x inside left w.charted d c ∙ at_slot

    -- which is its edge's place
    edge_slot : can_step z x d ≡ true → slot_of z (step_edge x d) ≡ slot_by d at
    edge_slot c = letter_slot z wide deep x inside d c ∙ ap (slot_by d) (spot_at_lem at)

    -- where the step ends
    pub next_point : 0 < n → point_at (next_by d at) ≡ step_to x d
    next_point h =
        let c = (free h).0 in
        ap point_at (sym (letter_next z wide deep x inside d c ∙ ap (next_by d) (spot_at_lem at))) ∙ spot_point z wide deep (step_to x d) (stepped z x inside d c).end

    -- its number is in range
    pub next_range : 0 < n → next_by d at < 442
    next_range h =
        let c = (free h).0 in
        omega (arith, letter_next z wide deep x inside d c, ap (next_by d) (spot_at_lem at), (spot_range z wide deep (step_to x d) (stepped z x inside d c).end).2)

    -- what is left behind a letter
    module _ (v : ℕ) (e : v + 1 ≡ n) where
      abbrev rest : List ℕ
      rest = set left (slot_by d at) v

      some_left : 0 < n
      some_left = omega arith

      low : slot_by d at < length left
      low = seen_below left (slot_by d at) some_left

      -- the edge has one tread less
      pub rest_left : left_of z rest ≡ without (left_of z left) (step_edge x d)
      rest_left =
          let c = (free some_left).0 in
          let s = edge_slot c in
          ap (λ (i : ℕ). left_of z (set left i v)) (sym s)
          ∙ left_without z wide deep left (step_edge x d) v (stepped z x inside d c).edge (omega (arith, low, s)) (e ∙ ap (λ (i : ℕ). get_or left i 0) (sym s))

      -- the list is still one of treads
      pub rest_charted : Charted z rest
      rest_charted = charted_fewer z left rest w.charted (length-set left (slot_by d at) v) fewer
        where
          fewer : (i : ℕ) → 0 < get_or rest i 0 → 0 < get_or left i 0
          fewer i h =
              elim (same_or_not i (slot_by d at)) [
                | inl q ↦ subst (λ (k : ℕ). 0 < get_or left k 0) (sym q) some_left
                | inr q ↦ omega (arith, get_or-set_other left (slot_by d at) i v 0 q)
              ]

      -- whose edges lie in the store
      pub rest_range : Ranged rest (26 * (z.aisles + 1))
      rest_range = charted_range z wide deep rest rest_charted

      -- all that remains is joined exactly if it can be reached by the numbers
      rest_joined : AllReached rest (next_by d at) ↔ Joined z (without (left_of z left) (step_edge x d)) (step_to x d)
      rest_joined =
          let c = (free some_left).0 in
          let p = (stepped z x inside d c).end in
          let t = reached_joined z wide deep rest rest_charted (step_to x d) p in
          let s = letter_next z wide deep x inside d c ∙ ap (next_by d) (spot_at_lem at) in (
            λ a. subst (λ (f : Edge → ℕ). Joined z f (step_to x d)) rest_left (t.0 (subst (AllReached rest) (sym s) a)),
            λ j. subst (AllReached rest) s (t.1 (subst (λ (f : Edge → ℕ). Joined z f (step_to x d)) (sym rest_left) j)),
          )

    -- the test of a letter by its place
    can_be_lem : can_be z left at d ≡ (ltb 0 n && finds z (left_of z left) x d)
    unfolding can_be
    can_be_lem = ap (λ (t : Bool). t && finds z (left_of z left) x d) (free_test z wide deep x inside left w.charted d ∙ ap (ltb 0) at_slot)

    -- a letter whose remains are joined can be next
    can_be_joined : 0 < n → Joined z (without (left_of z left) (step_edge x d)) (step_to x d) → can_be z left at d ≡ true
    unfolding TellsJoined
    can_be_joined h j =
        let t = free h in
        can_be_lem ∙ ap₂ (λ (a b : Bool). a && b) (lt-ltb 0 n h) ((finds_tells z (left_of z left) x d w.ready t.0 t.1).1 j)

    -- and if it can be, they are
    joined_can_be : 0 < n → can_be z left at d ≡ true → Joined z (without (left_of z left) (step_edge x d)) (step_to x d)
    unfolding TellsJoined
    joined_can_be h a =
        let t = free h in
        let b : finds z (left_of z left) x d ≡ true = subst (λ (k : Bool). (k && finds z (left_of z left) x d) ≡ true) (lt-ltb 0 n h) (sym can_be_lem ∙ a) in
        (finds_tells z (left_of z left) x d w.ready t.0 t.1).0 b

    -- a letter whose edge is used up can't be next
    pub letter_none : n ≡ 0 → false ≡ can_be z left at d
    letter_none e = sym (can_be_lem ∙ ap (λ (t : Bool). t && finds z (left_of z left) x d) (le-ltb 0 n (omega arith)))

    -- one whose edge has a tread to spare can
    pub letter_spare : 1 < n → true ≡ can_be z left at d
    letter_spare h =
        let t = free (omega arith) in
        sym (can_be_joined (omega arith) (spare_joined z (left_of z left) x w.ready d t.0 t.1 (omega (arith, left_slot t.0))))

    -- so can one with the only tread at the point
    pub letter_alone : 0 < n → treads_at left at ≡ 1 → true ≡ can_be z left at d
    letter_alone h s =
        let t = free h in
        let other : (e : Direction) → can_step z x e ≡ true → left_of z left (step_edge x e) ≡ get_or left (slot_by e at) 0 =
        λ e c. free_slot z wide deep x inside left w.charted e c ∙ ap (λ (k : ℕ). get_or left (slot_by e k) 0) (spot_at_lem at) in
        sym (can_be_joined h (only_joined z (left_of z left) x w.ready d t.0 t.1 (λ e c p. only_tread left at d e s h (omega (arith, other e c)))))

    -- for the last tread of an edge the flood decides
    pub letter_last : n ≡ 1 → (r : Bool) → (r ≡ true) ↔ AllReached (set left (slot_by d at) 0) (next_by d at) → r ≡ can_be z left at d
    letter_last e r t =
        let h : 0 < n = omega arith in
        let j = rest_joined 0 (omega arith) in
        same_test r (can_be z left at d) (λ a. can_be_joined h (j.0 (t.0 a))) (λ b. t.1 (j.1 (joined_can_be h b)))

  -- the letter that is taken: its edge is left, and behind it the walk goes on
  pub letter_left : (d : Direction) → next_letter z left at ≡ some d → 0 < get_or left (slot_by d at) 0
  unfolding next_letter can_be
  letter_left d e = let t = chosen_ready z (left_of z left) x w.ready d e in omega (arith, t.1, left_slot d t.0)

  -- one step less is left
  pub letter_steps : (d : Direction) (v : ℕ) (e : v + 1 ≡ get_or left (slot_by d at) 0) → steps_of z (left_of z left) ≡ suc (steps_of z (left_of z (set left (slot_by d at) v)))
  letter_steps d v e =
      let t = free d (omega arith) in
      total_step z x inside d t.0 (left_of z left) t.1 ∙ ap (λ (f : Edge → ℕ). suc (steps_of z f)) (sym (rest_left d v e))

  -- the letters go on behind it
  pub letter_taken : (d : Direction) → next_letter z left at ≡ some d → (v : ℕ) (e : v + 1 ≡ get_or left (slot_by d at) 0)
      → Walkable z (set left (slot_by d at) v) (next_by d at) × (letters_left z left at ≡ d ∷ letters_left z (set left (slot_by d at) v) (next_by d at))
  unfolding next_letter can_be letters_left
  letter_taken d q v e =
      let t = chosen_ready z (left_of z left) x w.ready d q in
      let here = next_point d (omega arith) in
      let after = rest_left d v e in
      let ready = subst (λ (f : Edge → ℕ). Ready z f (step_to x d)) (sym after) t.2 in (
        record { bounds = w.bounds; charted = rest_charted d v e; ready = subst (λ (y : Point). Ready z (left_of z (set left (slot_by d at) v)) y) (sym here) ready },
        ap (λ (k : ℕ). greedy z (finds z) k (left_of z left) x) (letter_steps d v e)
            ∙ greedy_chosen z (left_of z left) x w.ready (steps_of z (left_of z (set left (slot_by d at) v))) d q
            ∙ ap₂ (λ (f : Edge → ℕ) (y : Point). d ∷ greedy z (finds z) (steps_of z (left_of z (set left (slot_by d at) v))) f y) (sym after) (sym here),
      )

  -- while a tread is left at the point, there is a next letter
  pub some_letter : 0 < treads_at left at → (d : Direction) × (next_letter z left at ≡ some d)
  unfolding next_letter can_be
  some_letter h =
      let t = at_tread left at h in
      let d = t.0 in
      let v = get_or left (slot_by d at) 0 - 1 in
      some_chosen z (left_of z left) x w.ready (steps_of z (left_of z (set left (slot_by d at) v))) (letter_steps d v (let p = t.1 in omega arith))

  -- where none is left, the walk is over
  pub no_letter : treads_at left at ≡ 0 → letters_left z left at ≡ []
  unfolding letters_left
  no_letter e = go (steps_of z (left_of z left)) refl
    where
      go : (k : ℕ) → steps_of z (left_of z left) ≡ k → greedy z (finds z) k (left_of z left) x ≡ []
      go zero q = refl
      go (suc k) q =
          let t = some_chosen z (left_of z left) x w.ready k q in
          let u = chosen_ready z (left_of z left) x w.ready t.0 t.1 in
          absurd (omega (arith, tread_at left at t.0 (omega (arith, u.1, left_slot t.0 u.0))))

  -- and nothing is left anywhere
  pub none_left : treads_at left at ≡ 0 → left ≡ replicate 884 0
  none_left e = ext_get_or 0 left (replicate 884 0) (w.charted.size ∙ sym (length-replicate {A = ℕ} 884 0)) (λ i l. nothing i (none_or_some (get_or left i 0)) ∙ sym (none_at {A = ℕ} 0 884 i))
    where
      -- the walk that treads all that is left has no first step
      used : (walk : Walk) → Leads z x walk (depot_point z) → ((f : Edge) → InStore z f → treads_from x walk f ≡ left_of z left f) → (f : Edge) → InStore z f → left_of z left f ≡ 0
      used [] l t f i = sym (t f i)
      used (d ∷ walk) l t f i =
          let s = t (step_edge x d) (stepped z x inside d l.0).edge in
          absurd (omega (arith, tread_at left at d (omega (arith, s, one_refl (step_edge x d), left_slot d l.0))))

      nothing : (i : ℕ) → ((get_or left i 0 ≡ 0) ⊎ (0 < get_or left i 0)) → get_or left i 0 ≡ 0
      nothing i (inl q) = q
      nothing i (inr h) =
          let t = w.charted.edge i h in
          let v = completed z (left_of z left) x (depot_point z) inside w.ready.balanced w.ready.joined in
          ap (λ (k : ℕ). get_or left k 0) (sym t.2) ∙ sym (left_in z left t.0 t.1) ∙ used v.0 v.1 v.2 t.0 t.1

  -- and the walk has come to the depot
  pub none_there : treads_at left at ≡ 0 → at ≡ depot_number z
  unfolding spot depot_number
  none_there e =
      let v = completed z (left_of z left) x (depot_point z) inside w.ready.balanced w.ready.joined in
      sym (spot_at_lem at) ∙ ap spot (over v.0 v.1 v.2)
    where
      over : (walk : Walk) → Leads z x walk (depot_point z) → ((f : Edge) → InStore z f → treads_from x walk f ≡ left_of z left f) → x ≡ depot_point z
      over [] l t = l
      over (d ∷ walk) l t =
          let s = t (step_edge x d) (stepped z x inside d l.0).edge in
          absurd (omega (arith, tread_at left at d (omega (arith, s, one_refl (step_edge x d), left_slot d l.0))))

  -- the first letter that can be next is the next letter
  pub first_tried : (k : ℕ) → k < 3 → ((i : ℕ) → i < k → can_be z left at (tried i) ≡ false) → can_be z left at (tried k) ≡ true → next_letter z left at ≡ some (tried k)
  unfolding next_letter
  first_tried zero h none here = rw here
  first_tried (suc zero) h none here = let back : can_be z left at Back ≡ false = none 0 (omega arith) in rw (back, here)
  first_tried (suc (suc zero)) h none here =
      let back : can_be z left at Back ≡ false = none 0 (omega arith) in
      let front : can_be z left at Front ≡ false = none 1 (omega arith) in
      rw (back, front, here)
  first_tried (suc (suc (suc k))) h none here = absurd (omega arith)

  -- where the others can't be next, R is
  pub last_right : ((i : ℕ) → i < 3 → can_be z left at (tried i) ≡ false) → 0 < treads_at left at → next_letter z left at ≡ some Right
  unfolding next_letter
  last_right none h =
      let back : can_be z left at Back ≡ false = none 0 (omega arith) in
      let front : can_be z left at Front ≡ false = none 1 (omega arith) in
      let leftwards : can_be z left at Left ≡ false = none 2 (omega arith) in
      let t = some_letter h in
      rw (back, front, leftwards) (go (can_be z left at Right) t.0 (rw (back, front, leftwards) at t.1))
    where
      go : (r : Bool) (d : Direction) → first_letter false false false r ≡ some d → first_letter false false false r ≡ some Right
      go true d q = refl
      go false d q = absurd (let bad : ◌≡◌ {A = ℕ} 0 1 = cc in omega arith)

-- a letter's place is in the list
pub slot_below : (d : Direction) (at : ℕ) → at < 442 → slot_by d at < 884
slot_below Back at h = omega arith
slot_below Front at h = omega arith
slot_below Left at h = omega arith
slot_below Right at h = omega arith
