-- The choice of a letter: whether the search finds a walk behind it, told by what can be reached.
use Prim.Native.Nat.{ℕ, suc, ◌<◌}
use native.Mathlib.Omega.{arith}
use mathlib.Core.Path.{◌≡◌, refl, ap, ◌∙◌, subst}
use mathlib.Core.List.{[], ◌∷◌}
use mathlib.Core.Bool.{Bool, true, false, ◌&&◌}
use mathlib.Core.Option.{Option, none, some}
use lib.Dec.{ltb}
use borrow.Author.Tests.{ltb-true}
use Rattle.rules.specs.declared.Layout.{Layout}
use Rattle.rules.specs.declared.Direction.{Direction}
use Rattle.rules.specs.declared.Direction.TheVariants.{Back, Front, Left, Right}
use Rattle.rules.specs.Store.{Point, Edge, InStore, depot_point}
use Rattle.rules.specs.Walks.{Walk, can_step, step_to, step_edge}
use Rattle.rules.specs.FirstWalk.{without, first_from, steps_of}
use Rattle.closedwalks.specs.Ways.{Leads, treads_from, Joined}
use Rattle.closedwalks.specs.Greedy.{first_letter, admits, greedy, Ready, TellsJoined}
use Rattle.closedwalks.proofs.Steps.{both_true, one_refl, stepped}
use Rattle.closedwalks.proofs.Parity.{taken}
use Rattle.closedwalks.proofs.Links.{joined_same, walk_joined}
use Rattle.closedwalks.proofs.First.{first_fits}
use Rattle.closedwalks.proofs.Greedily.{ready_found, found_joined, ready_step, greedy_found}
use Rattle.closedwalks.proofs.Statements.{completed}
use Rattle.walks.specs.Letters.{is_some, finds}

-- a walk that was found
some_found : (o : Option Walk) → is_some o ≡ true → (walk : Walk) × (o ≡ some walk)
some_found none h = absurd (let bad : ◌≡◌ {A = ℕ} 0 1 = cc in omega arith)
some_found (some walk) h = (walk, refl)

-- the first letter that is admitted is admitted
first_admitted : (t : Direction → Bool) (d : Direction) → first_letter (t Back) (t Front) (t Left) (t Right) ≡ some d → t d ≡ true
first_admitted t d e = go (t Back) (t Front) (t Left) (t Right) refl refl refl refl e
  where
    go : (b f l r : Bool) → t Back ≡ b → t Front ≡ f → t Left ≡ l → t Right ≡ r → first_letter b f l r ≡ some d → t d ≡ true
    go true f l r p q u v e = let s : Back ≡ d = cc in subst (λ (k : Direction). t k ≡ true) s p
    go false true l r p q u v e = let s : Front ≡ d = cc in subst (λ (k : Direction). t k ≡ true) s q
    go false false true r p q u v e = let s : Left ≡ d = cc in subst (λ (k : Direction). t k ≡ true) s u
    go false false false true p q u v e = let s : Right ≡ d = cc in subst (λ (k : Direction). t k ≡ true) s v
    go false false false false p q u v e = absurd (let bad : ◌≡◌ {A = ℕ} 0 1 = cc in omega arith)

module _ (z : Layout) where
  -- the search finds a walk behind a letter exactly if all that remains can be reached
  pub finds_tells : TellsJoined z (finds z)
  unfolding TellsJoined finds
  finds_tells left x d r c h =
      let rest = without left (step_edge x d) in (
        λ e. let t = some_found (first_from z (steps_of z rest) rest (step_to x d)) e in found_joined z rest (step_to x d) t.0 (stepped z x r.point d c).end t.1,
        λ j. ap is_some (ready_found z rest (step_to x d) (ready_step z left x r d c h j)).1,
      )

  module _ (left : Edge → ℕ) (x : Point) (r : Ready z left x) where
    -- behind the only letter whose edge is left all that remains can be reached
    pub only_joined : (d : Direction) → can_step z x d ≡ true → 0 < left (step_edge x d) → ((e : Direction) → can_step z x e ≡ true → 0 < left (step_edge x e) → e ≡ d)
        → Joined z (without left (step_edge x d)) (step_to x d)
    only_joined d c h only =
        let t = completed z left x (depot_point z) r.point r.balanced r.joined in
        go t.0 t.1 t.2
      where
        go : (walk : Walk) → Leads z x walk (depot_point z) → ((e : Edge) → InStore z e → treads_from x walk e ≡ left e) → Joined z (without left (step_edge x d)) (step_to x d)
        go [] l t = absurd (omega (arith, t (step_edge x d) (stepped z x r.point d c).edge))
        go (e ∷ walk) l t =
            let s = stepped z x r.point e l.0 in
            let some_left : 0 < left (step_edge x e) = omega (arith, t (step_edge x e) s.edge, one_refl (step_edge x e)) in
            let same = only e l.0 some_left in
            let at : (f : Edge) → InStore z f → treads_from (step_to x e) walk f ≡ without left (step_edge x e) f = λ f i. omega (arith, t f i, taken left (step_edge x e) f some_left) in
            subst (λ (k : Direction). Joined z (without left (step_edge x k)) (step_to x k)) same
            (joined_same z (treads_from (step_to x e) walk) (without left (step_edge x e)) (step_to x e) (λ f i u. omega (arith, at f i)) (λ f i u. omega (arith, at f i))
            (walk_joined z (step_to x e) walk (depot_point z) s.end l.1))

    -- the test of a letter
    abbrev pub Admitted : Direction → Bool
    Admitted d = admits z (finds z) left x d

    -- the first that is admitted
    abbrev pub Chosen : Option Direction
    Chosen = first_letter (Admitted Back) (Admitted Front) (Admitted Left) (Admitted Right)

    -- a letter that is admitted can be taken, and what remains is ready again
    pub admitted_ready : (d : Direction) → Admitted d ≡ true → (can_step z x d ≡ true) × (0 < left (step_edge x d)) × Ready z (without left (step_edge x d)) (step_to x d)
    unfolding TellsJoined
    admitted_ready d a =
        let t = both_true (can_step z x d && ltb 0 (left (step_edge x d))) (finds z left x d) a in
        let u = both_true (can_step z x d) (ltb 0 (left (step_edge x d))) t.0 in
        let h = ltb-true 0 (left (step_edge x d)) u.1 in
        (u.0, h, ready_step z left x r d u.0 h ((finds_tells left x d r u.0 h).0 t.1))

    -- so it is with the one that is chosen
    pub chosen_ready : (d : Direction) → Chosen ≡ some d → (can_step z x d ≡ true) × (0 < left (step_edge x d)) × Ready z (without left (step_edge x d)) (step_to x d)
    chosen_ready d e = admitted_ready d (first_admitted Admitted d e)

    -- while something is left, a letter is admitted
    pub some_chosen : (n : ℕ) → steps_of z left ≡ suc n → (d : Direction) × (Chosen ≡ some d)
    some_chosen n e = go Chosen refl
      where
        go : (o : Option Direction) → Chosen ≡ o → (d : Direction) × (Chosen ≡ some d)
        go (some d) q = (d, q)
        go none q =
            let found = greedy_found z (finds z) finds_tells (suc n) left x r e in
            let stops : greedy z (finds z) (suc n) left x ≡ [] = λ i. elim (q i) as (λ o. Walk) [ none ↦ [] | some d ↦ d ∷ greedy z (finds z) n (without left (step_edge x d)) (step_to x d) ] in
            let f = first_fits z (suc n) left x [] r.point (found ∙ ap some stops) in
            absurd (omega (arith, f.steps))

    -- the greedy walk goes on with it
    pub greedy_chosen : (n : ℕ) (d : Direction) → Chosen ≡ some d → greedy z (finds z) (suc n) left x ≡ d ∷ greedy z (finds z) n (without left (step_edge x d)) (step_to x d)
    greedy_chosen n d e = λ i. elim (e i) as (λ o. Walk) [ none ↦ [] | some k ↦ k ∷ greedy z (finds z) n (without left (step_edge x k)) (step_to x k) ]
