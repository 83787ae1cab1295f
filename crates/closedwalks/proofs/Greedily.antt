-- The greedy walk is the first walk, whatever test tells that all that remains can be reached.
use Prim.Native.Nat.{ℕ, zero, suc, ◌≤◌, ◌<◌}
use native.Mathlib.Omega.{arith}
use mathlib.Core.Path.{◌≡◌, refl, sym, ap, ◌∙◌, subst}
use mathlib.Core.Logic.{inl, inr}
use mathlib.Core.List.{[], ◌∷◌}
use mathlib.Core.Bool.{Bool, true, false, ◌&&◌}
use mathlib.Core.Option.{Option, none, some, get_or, none-ne-some}
use lib.Dec.{ltb}
use borrow.Author.Tests.{ltb-true}
use Rattle.rules.specs.declared.Layout.{Layout}
use Rattle.rules.specs.declared.Direction.{Direction}
use Rattle.rules.specs.declared.Direction.TheVariants.{Back, Front, Left, Right}
use Rattle.rules.specs.Store.{Point, Edge, InStore, depot_point}
use Rattle.rules.specs.Plans.{Plan, multiplicity}
use Rattle.rules.specs.Lawful.{LawfulFor, Trodden, step}
use Rattle.rules.specs.Walks.{Walk, can_step, step_to, step_edge}
use Rattle.rules.specs.FirstWalk.{without, first_way, step_then, first_from, first_walk, steps_of}
use Rattle.closedwalks.specs.Ways.{PointOf, treads_from, Joined}
use Rattle.closedwalks.specs.Greedy.{first_letter, LetterTest, admits, greedy, Ready, TellsJoined}
use Rattle.closedwalks.proofs.Steps.{edge_split, both_true, stepped}
use Rattle.closedwalks.proofs.Parity.{taken, balanced_step, total_step}
use Rattle.closedwalks.proofs.Euler.{completed}
use Rattle.closedwalks.proofs.Links.{joined_same, joins_turn, walk_joined}
use Rattle.closedwalks.proofs.Degrees.{depot_point_lem}
use Rattle.closedwalks.proofs.Walked.{lawful_balanced, lawful_joined}
use Rattle.closedwalks.proofs.Counts.{length_treads, same_steps}
use Rattle.closedwalks.proofs.First.{tried, ways, tried_free, tried_shut, first_fits, first_found, fits_exactly, at_depot}

module _ (z : Layout) where
  -- what can be walked is found by the search, with as many steps as there are treads
  pub ready_found : (left : Edge → ℕ) (x : Point) → Ready z left x → (v : Walk) × (first_from z (steps_of z left) left x ≡ some v)
  ready_found left x r =
      let t = completed z left x (depot_point z) r.point r.balanced r.joined in
      let n = length_treads z x t.0 (depot_point z) r.point t.1 ∙ same_steps z (treads_from x t.0) left t.2 in
      let f = first_found z (steps_of z left) left x t.0 r.point (record { leads = t.1; steps = n; within = λ e i. omega (arith, t.2 e i) }) in
      (f.0, f.1)

  -- what the search finds shows that all that remains can be reached
  pub found_joined : (left : Edge → ℕ) (x : Point) (v : Walk) → PointOf z x → first_from z (steps_of z left) left x ≡ some v → Joined z left x
  found_joined left x v p h =
      let f = first_fits z (steps_of z left) left x v p h in
      let same = fits_exactly z (steps_of z left) left x v p f refl in
      joined_same z (treads_from x v) left x (λ e i u. omega (arith, same e i)) (λ e i u. omega (arith, same e i)) (walk_joined z x v (depot_point z) p f.leads)

  module _ (left : Edge → ℕ) (x : Point) (r : Ready z left x) (d : Direction) (c : can_step z x d ≡ true) (h : 0 < left (step_edge x d)) where
    -- after a step behind which all that remains can be reached, it can be walked again
    pub ready_step : Joined z (without left (step_edge x d)) (step_to x d) → Ready z (without left (step_edge x d)) (step_to x d)
    ready_step j = record { point = (stepped z x r.point d c).end; balanced = balanced_step z x r.point d c left (depot_point z) h r.balanced; joined = j }

    -- a tread that is not an edge's last keeps everything within reach
    pub spare_joined : 1 < left (step_edge x d) → Joined z (without left (step_edge x d)) (step_to x d)
    unfolding Joined Trodden
    spare_joined k =
        let s = step_edge x d in
        let t = stepped z x r.point d c in
        let still : (e : Edge) → InStore z e → 0 < left e → 0 < without left s e = λ e i u. elim (edge_split e s) [ inl q ↦ omega (arith, taken left s e h, q.1, ap left q.0) | inr q ↦ omega (arith, taken left s e h, q.0) ] in
        let j = joined_same z left (without left s) x still (λ e i u. omega (arith, taken left s e h)) r.joined in
        λ e u. step s (t.edge, still s t.edge h) (joins_turn z s x (step_to x d) t.joins) (j e u)

  -- the treads of a plan that is lawful, if only for an empty list, can be walked from the depot
  pub lawful_ready : (plan : Plan) → 1 ≤ z.depot → z.depot ≤ z.aisles → LawfulFor z [] plan → Ready z (multiplicity plan) (depot_point z)
  lawful_ready plan p q law = record { point = depot_point_lem z p q; balanced = lawful_balanced z plan law; joined = lawful_joined z plan law }

  module _ (test : LetterTest) (right : TellsJoined z test) where
    -- one letter of the search and of the greedy walk, where they agree on what follows
    module _ (n : ℕ) (left : Edge → ℕ) (x : Point) (r : Ready z left x) (e : steps_of z left ≡ suc n)
        (after : (rest : Edge → ℕ) (y : Point) → Ready z rest y → steps_of z rest ≡ n → first_from z n rest y ≡ some (greedy z test n rest y)) where
      abbrev onward : Direction → Walk
      onward d = d ∷ greedy z test n (without left (step_edge x d)) (step_to x d)

      -- what the search tries with a letter that is admitted, or is not
      abbrev Way : Direction → Bool → Type 0
      Way d b = tried z n left x d ≡ elim b as (λ t. Option Walk) [ true ↦ some (onward d) | false ↦ none ]

      open_way : (d : Direction) (c : can_step z x d ≡ true) (h : 0 < left (step_edge x d)) (b : Bool) → test left x d ≡ b → Way d b
      unfolding TellsJoined
      open_way d c h true t =
          let j = (right left x d r c h).0 t in
          let fewer = total_step z x r.point d c left h in
          tried_free z n left x d c h ∙ ap (step_then d) (after (without left (step_edge x d)) (step_to x d) (ready_step left x r d c h j) (omega arith))
      open_way d c h false t = tried_free z n left x d c h ∙ ap (step_then d) (go (first_from z n (without left (step_edge x d)) (step_to x d)) refl)
        where
          go : (o : Option Walk) → first_from z n (without left (step_edge x d)) (step_to x d) ≡ o → first_from z n (without left (step_edge x d)) (step_to x d) ≡ none
          go none q = q
          go (some v) q =
              let rest = without left (step_edge x d) in
              let fewer = total_step z x r.point d c left h in
              let size : n ≡ steps_of z rest = omega arith in
              let j = found_joined rest (step_to x d) v (stepped z x r.point d c).end (subst (λ (k : ℕ). first_from z k rest (step_to x d) ≡ some v) size q) in
              absurd (let bad : ◌≡◌ {A = ℕ} 0 1 = cc ((right left x d r c h).1 j) in omega arith)

      letter_way : (d : Direction) (b : Bool) → admits z test left x d ≡ b → Way d b
      letter_way d b t = go (can_step z x d && ltb 0 (left (step_edge x d))) refl b t
        where
          go : (free : Bool) → (can_step z x d && ltb 0 (left (step_edge x d))) ≡ free → (b : Bool) → (free && test left x d) ≡ b → Way d b
          go true q b t =
              let u = both_true (can_step z x d) (ltb 0 (left (step_edge x d))) q in
              open_way d u.0 (ltb-true 0 (left (step_edge x d)) u.1) b t
          go false q true t = absurd (let bad : ◌≡◌ {A = ℕ} 0 1 = cc in omega arith)
          go false q false t = tried_shut z n left x d q

      pick : (b f l s : Bool) → admits z test left x Back ≡ b → admits z test left x Front ≡ f → admits z test left x Left ≡ l → admits z test left x Right ≡ s
          → ways z n left x ≡ some (elim (first_letter b f l s) as (λ t. Walk) [ none ↦ [] | some d ↦ onward d ])
      pick true f l s p q u v = λ i. first_way (letter_way Back true p i) (first_way (tried z n left x Front) (first_way (tried z n left x Left) (tried z n left x Right)))
      pick false true l s p q u v = λ i. first_way (letter_way Back false p i) (first_way (letter_way Front true q i) (first_way (tried z n left x Left) (tried z n left x Right)))
      pick false false true s p q u v = λ i. first_way (letter_way Back false p i) (first_way (letter_way Front false q i) (first_way (letter_way Left true u i) (tried z n left x Right)))
      pick false false false true p q u v = λ i. first_way (letter_way Back false p i) (first_way (letter_way Front false q i) (first_way (letter_way Left false u i) (letter_way Right true v i)))
      pick false false false false p q u v =
          let t = ready_found left x r in
          let found = subst (λ (k : ℕ). first_from z k left x ≡ some t.0) e t.1 in
          let lost : ways z n left x ≡ none = λ i. first_way (letter_way Back false p i) (first_way (letter_way Front false q i) (first_way (letter_way Left false u i) (letter_way Right false v i))) in
          absurd (none-ne-some t.0 (sym lost ∙ found))

    -- from wherever all that is left can be walked, the greedy walk is what the search finds
    pub greedy_found : (n : ℕ) (left : Edge → ℕ) (x : Point) → Ready z left x → steps_of z left ≡ n → first_from z n left x ≡ some (greedy z test n left x)
    greedy_found zero left x r e =
        let t = ready_found left x r in
        let found = subst (λ (k : ℕ). first_from z k left x ≡ some t.0) e t.1 in
        found ∙ ap some (at_depot z x t.0 found).1
    greedy_found (suc n) left x r e =
        pick n left x r e (λ rest y. greedy_found n rest y) (admits z test left x Back) (admits z test left x Front) (admits z test left x Left) (admits z test left x Right) refl refl refl refl

    -- the greedy walk of such a plan is its first walk
    pub greedy_first : (plan : Plan) → 1 ≤ z.depot → z.depot ≤ z.aisles → LawfulFor z [] plan
        → greedy z test (steps_of z (multiplicity plan)) (multiplicity plan) (depot_point z) ≡ first_walk z plan
    unfolding first_walk
    greedy_first plan p q law =
        sym (ap (λ (o : Option Walk). get_or o []) (greedy_found (steps_of z (multiplicity plan)) (multiplicity plan) (depot_point z) (lawful_ready plan p q law) refl))
