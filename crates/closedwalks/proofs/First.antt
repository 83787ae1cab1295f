-- The first walk of a plan: it is one of the plan's walks, and none comes before it.
use Prim.Native.Nat.{ℕ, zero, suc, ◌≤◌, ◌<◌}
use native.Mathlib.Omega.{arith}
use mathlib.Core.Path.{◌≡◌, refl, sym, ap, ◌∙◌, subst}
use mathlib.Core.Logic.{◌⊎◌, inl, inr}
use mathlib.Core.List.{[], ◌∷◌}
use mathlib.Core.Bool.{Bool, true, false, cond, ◌&&◌}
use mathlib.Core.Option.{Option, none, some, get_or}
use lib.Dec.{ltb}
use lib.ListN.{length}
use borrow.Author.Tests.{ltb-true, lt-ltb}
use Rattle.rules.specs.declared.Layout.{Layout}
use Rattle.rules.specs.declared.Direction.{Direction}
use Rattle.rules.specs.declared.Direction.TheVariants.{Back, Front, Left, Right}
use Rattle.rules.specs.Store.{Point, Edge, InStore, depot_point, same_point}
use Rattle.rules.specs.Plans.{Plan, multiplicity}
use Rattle.rules.specs.Lawful.{LawfulFor}
use Rattle.rules.specs.Walks.{Walk, can_step, step_to, step_edge, letter_rank, NotAfter, same, earlier, later}
use Rattle.rules.specs.FirstWalk.{WalkOf, without, first_way, step_then, first_from, first_walk, steps_of}
use Rattle.closedwalks.specs.Ways.{PointOf, Leads, treads_from}
use Rattle.closedwalks.proofs.Steps.{one_refl, both_true, true_both, stepped}
use Rattle.rules.proofs.WalkOrder.{same_point_lem, point_same}
use Rattle.closedwalks.proofs.Sums.{sum_exact}
use Rattle.closedwalks.proofs.Parity.{taken}
use Rattle.closedwalks.proofs.Degrees.{depot_point_lem}
use Rattle.closedwalks.proofs.Walked.{closed_leads, walk_of, of_walk, lawful_walked}
use Rattle.closedwalks.proofs.Counts.{length_treads, walk_steps}

-- a walk of n steps from x to the depot that treads no edge more often than is left
pub record Fitting (z : Layout) (n : ℕ) (left : Edge → ℕ) (x : Point) (walk : Walk) : Type 0 where
  pub leads : Leads z x walk (depot_point z)
  pub steps : length walk ≡ n
  pub within : (e : Edge) → InStore z e → treads_from x walk e ≤ left e

-- what the search tries with one letter
abbrev pub tried : Layout → ℕ → (Edge → ℕ) → Point → Direction → Option Walk
tried z n left x d = elim (can_step z x d && ltb 0 (left (step_edge x d))) [ true ↦ step_then d (first_from z n (without left (step_edge x d)) (step_to x d)) | false ↦ none ]

abbrev pub ways : Layout → ℕ → (Edge → ℕ) → Point → Option Walk
ways z n left x = first_way (tried z n left x Back) (first_way (tried z n left x Front) (first_way (tried z n left x Left) (tried z n left x Right)))

-- a way that is not after a walk
abbrev Found : Option Walk → Walk → Type 0
Found way walk = (v : Walk) × (way ≡ some v) × NotAfter v walk

-- a way that begins with that letter, if there is one
abbrev Headed : Direction → Option Walk → Type 0
Headed d none = Unit {0}
Headed d (some walk) = (v : Walk) × (walk ≡ d ∷ v)

way_here : (o rest : Option Walk) (walk : Walk) → Found o walk → Found (first_way o rest) walk
way_here o rest walk f = (f.0, ap (λ (w : Option Walk). first_way w rest) f.1, f.2)

way_past : (d e : Direction) (o rest : Option Walk) (walk : Walk) → letter_rank d < letter_rank e → Headed d o → Found rest (e ∷ walk) → Found (first_way o rest) (e ∷ walk)
way_past d e none rest walk l h f = f
way_past d e (some w) rest walk l h f = (w, refl, subst (λ (v : Walk). NotAfter v (e ∷ walk)) (sym h.1) (earlier l))

way_split : (o rest : Option Walk) (w : Walk) → first_way o rest ≡ some w → (o ≡ some w) ⊎ (rest ≡ some w)
way_split none rest w h = inr h
way_split (some v) rest w h = inl h

module _ (z : Layout) where
  module _ (n : ℕ) (left : Edge → ℕ) (x : Point) where
    -- the search from the point behind a letter
    abbrev behind : Direction → Option Walk
    behind d = first_from z n (without left (step_edge x d)) (step_to x d)

    branch : Direction → Bool → Option Walk
    branch d b = elim b [ true ↦ step_then d (behind d) | false ↦ none ]

    pub tried_free : (d : Direction) → can_step z x d ≡ true → 0 < left (step_edge x d) → tried z n left x d ≡ step_then d (behind d)
    unfolding branch
    tried_free d c h = ap (branch d) (true_both (can_step z x d) (ltb 0 (left (step_edge x d))) c (lt-ltb 0 (left (step_edge x d)) h))

    pub tried_shut : (d : Direction) → (can_step z x d && ltb 0 (left (step_edge x d))) ≡ false → tried z n left x d ≡ none
    unfolding branch
    tried_shut d h = ap (branch d) h

    then_headed : (d : Direction) (o : Option Walk) → Headed d (step_then d o)
    then_headed d none = tt
    then_headed d (some v) = (v, refl)

    headed : (d : Direction) → Headed d (tried z n left x d)
    unfolding branch
    headed d = go (can_step z x d && ltb 0 (left (step_edge x d)))
      where
        go : (b : Bool) → Headed d (branch d b)
        go true = then_headed d (behind d)
        go false = tt

    -- a letter that leads on, and the walk behind it
    abbrev Onward : Direction → Walk → Type 0
    Onward d walk = (can_step z x d ≡ true) × (0 < left (step_edge x d)) × (v : Walk) × (walk ≡ d ∷ v) × (behind d ≡ some v)

    then_some : (d : Direction) (o : Option Walk) (walk : Walk) → step_then d o ≡ some walk → (v : Walk) × (walk ≡ d ∷ v) × (o ≡ some v)
    then_some d none walk h = absurd (let bad : ◌≡◌ {A = ℕ} 0 1 = cc in omega arith)
    then_some d (some v) walk h = (v, cc, refl)

    onward : (d : Direction) (walk : Walk) → tried z n left x d ≡ some walk → Onward d walk
    unfolding branch
    onward d walk h = go (can_step z x d && ltb 0 (left (step_edge x d))) refl h
      where
        go : (b : Bool) → (can_step z x d && ltb 0 (left (step_edge x d))) ≡ b → branch d b ≡ some walk → Onward d walk
        go true e t =
            let c = both_true (can_step z x d) (ltb 0 (left (step_edge x d))) e in
            let u = then_some d (behind d) walk t in
            (c.0, ltb-true 0 (left (step_edge x d)) c.1, u.0, u.1, u.2)
        go false e t = absurd (let bad : ◌≡◌ {A = ℕ} 0 1 = cc in omega arith)

    any_way : (walk : Walk) → ways z n left x ≡ some walk → (d : Direction) × Onward d walk
    any_way walk h =
        elim (way_split (tried z n left x Back) (first_way (tried z n left x Front) (first_way (tried z n left x Left) (tried z n left x Right))) walk h) [
          | inl e ↦ (Back, onward Back walk e)
          | inr g ↦ elim (way_split (tried z n left x Front) (first_way (tried z n left x Left) (tried z n left x Right)) walk g) [
            | inl e ↦ (Front, onward Front walk e)
            | inr k ↦ elim (way_split (tried z n left x Left) (tried z n left x Right) walk k) [
              | inl e ↦ (Left, onward Left walk e)
              | inr e ↦ (Right, onward Right walk e)
            ]
          ]
        ]

    -- the search finds a walk that is not after the one that a letter leads to
    found_by : (d : Direction) (walk : Walk) → Found (tried z n left x d) (d ∷ walk) → Found (ways z n left x) (d ∷ walk)
    found_by Back walk f = way_here (tried z n left x Back) (first_way (tried z n left x Front) (first_way (tried z n left x Left) (tried z n left x Right))) (Back ∷ walk) f
    found_by Front walk f =
        way_past Back Front (tried z n left x Back) (first_way (tried z n left x Front) (first_way (tried z n left x Left) (tried z n left x Right))) walk (omega arith) (headed Back)
        (way_here (tried z n left x Front) (first_way (tried z n left x Left) (tried z n left x Right)) (Front ∷ walk) f)
    found_by Left walk f =
        way_past Back Left (tried z n left x Back) (first_way (tried z n left x Front) (first_way (tried z n left x Left) (tried z n left x Right))) walk (omega arith) (headed Back)
        (way_past Front Left (tried z n left x Front) (first_way (tried z n left x Left) (tried z n left x Right)) walk (omega arith) (headed Front)
        (way_here (tried z n left x Left) (tried z n left x Right) (Left ∷ walk) f))
    found_by Right walk f =
        way_past Back Right (tried z n left x Back) (first_way (tried z n left x Front) (first_way (tried z n left x Left) (tried z n left x Right))) walk (omega arith) (headed Back)
        (way_past Front Right (tried z n left x Front) (first_way (tried z n left x Left) (tried z n left x Right)) walk (omega arith) (headed Front)
        (way_past Left Right (tried z n left x Left) (tried z n left x Right) walk (omega arith) (headed Left) f))

  pub at_depot : (x : Point) (walk : Walk) → cond (same_point x (depot_point z)) (some []) none ≡ some walk → (x ≡ depot_point z) × (walk ≡ [])
  at_depot x walk h = go (same_point x (depot_point z)) refl h
    where
      go : (b : Bool) → same_point x (depot_point z) ≡ b → cond b (some []) none ≡ some walk → (x ≡ depot_point z) × (walk ≡ [])
      go true e t = (same_point_lem x (depot_point z) e, cc)
      go false e t = absurd (let bad : ◌≡◌ {A = ℕ} 0 1 = cc in omega arith)

  -- what the search finds fits
  pub first_fits : (n : ℕ) (left : Edge → ℕ) (x : Point) (walk : Walk) → PointOf z x → first_from z n left x ≡ some walk → Fitting z n left x walk
  first_fits zero left x walk p h =
      let t = at_depot x walk h in
      subst (Fitting z 0 left x) (sym t.1) (record { leads = t.0; steps = refl; within = λ e i. omega arith })
  first_fits (suc n) left x walk p h =
      let (d, onto) = any_way n left x walk h in
      let (c, s, v, e, g) = onto in
      let f = first_fits n (without left (step_edge x d)) (step_to x d) v (stepped z x p d c).end g in
      subst (Fitting z (suc n) left x) (sym e) (record { leads = (c, f.leads); steps = ap suc f.steps; within = λ e i. omega (arith, taken left (step_edge x d) e s, f.within e i) })

  -- whatever fits, the search finds a walk that is not after it
  pub first_found : (n : ℕ) (left : Edge → ℕ) (x : Point) (walk : Walk) → PointOf z x → Fitting z n left x walk → Found (first_from z n left x) walk
  first_found zero left x [] p f = ([], rw (point_same x (depot_point z) f.leads), same)
  first_found zero left x (d ∷ walk) p f = absurd (let h = f.steps in omega arith)
  first_found (suc n) left x [] p f = absurd (let h = f.steps in omega arith)
  first_found (suc n) left x (d ∷ walk) p f =
      let s = step_edge x d in
      let t = stepped z x p d f.leads.0 in
      let free : 0 < left s = omega (arith, f.within s t.edge, one_refl s) in
      let r = first_found n (without left s) (step_to x d) walk t.end
      (record { leads = f.leads.1; steps = let h = f.steps in omega arith; within = λ e i. omega (arith, taken left s e free, f.within e i) }) in
      found_by n left x d walk (d ∷ r.0, tried_free n left x d f.leads.0 free ∙ ap (step_then d) r.1, later r.2)

  -- a walk with as many steps as there are treads left treads them all
  pub fits_exactly : (n : ℕ) (left : Edge → ℕ) (x : Point) (walk : Walk) → PointOf z x → Fitting z n left x walk → steps_of z left ≡ n → (e : Edge) → InStore z e → treads_from x walk e ≡ left e
  unfolding steps_of
  fits_exactly n left x walk p f h = sum_exact z (treads_from x walk) left f.within (sym (length_treads z x walk (depot_point z) p f.leads) ∙ (f.steps ∙ sym h))

  module _ (p : 1 ≤ z.depot) (q : z.depot ≤ z.aisles) (plan : Plan) where
    walk_fits : (walk : Walk) → WalkOf z plan walk → Fitting z (steps_of z (multiplicity plan)) (multiplicity plan) (depot_point z) walk
    walk_fits walk w = record { leads = closed_leads z walk w.is_closed_lem; steps = walk_steps z p q plan walk w; within = λ e i. omega (arith, of_walk z plan walk w e i) }

    found_first : (walk : Walk) → WalkOf z plan walk → WalkOf z plan (first_walk z plan) × NotAfter (first_walk z plan) walk
    unfolding first_walk
    found_first walk w =
        let t = first_found (steps_of z (multiplicity plan)) (multiplicity plan) (depot_point z) walk (depot_point_lem z p q) (walk_fits walk w) in
        let f = first_fits (steps_of z (multiplicity plan)) (multiplicity plan) (depot_point z) t.0 (depot_point_lem z p q) t.1 in
        let is : t.0 ≡ first_walk z plan = ap (λ (o : Option Walk). get_or o []) (sym t.1) in (
          subst (WalkOf z plan) is (walk_of z plan t.0 f.leads (fits_exactly (steps_of z (multiplicity plan)) (multiplicity plan) (depot_point z) t.0 (depot_point_lem z p q) f refl)),
          subst (λ (v : Walk). NotAfter v walk) is t.2,
        )

    -- the first walk of a plan that is lawful, if only for an empty list, is one of its walks, and not after any of them
    pub first_walk_lem : LawfulFor z [] plan → WalkOf z plan (first_walk z plan) × ((walk : Walk) → WalkOf z plan walk → NotAfter (first_walk z plan) walk)
    first_walk_lem law = let w = lawful_walked z plan law p q in ((found_first w.0 w.1).0, λ walk v. (found_first walk v).1)
