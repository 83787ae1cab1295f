-- The ways on over the passages, one after the other.
use Prim.Native.Nat.{ℕ, ◌+◌, ◌*◌, ◌≤◌, ◌<◌, min}
use native.Mathlib.Omega.{arith}
use mathlib.Core.Path.{◌≡◌, refl, sym, ◌∙◌, ap, ap₂, subst}
use mathlib.Core.List.{List, [], ◌∷◌}
use mathlib.Core.Bool.{Bool, true, false, cond}
use mathlib.Core.Logic.{⊎_elim}
use lib.ListN.{length, get_or, take}
use lib.Seq.{get_or-take, length-take-le}
use Rattle.rules.specs.declared.Side.TheVariants.{FrontSide}
use Rattle.rules.specs.declared.Passage.{Passage}
use Rattle.rules.specs.declared.Passage.TheVariants.{P00, P02, P11, P20, P22}
use Rattle.rules.specs.Plans.{back_treads, front_treads}
use Rattle.rules.specs.Turned.{seen_passage}
use Rattle.rules.specs.BestPlan.{passages_in_order}
use Rattle.rules.specs.Machine.{State, dead, cross_step}
use Rattle.rules.specs.Policies.{passage_named}
use Rattle.optimum.specs.Least.{sum_up_to, least_or}
use Rattle.optimum.specs.Routing.{no_key}
use Rattle.optimum.proofs.Choice.{least_take}
use Rattle.machine.specs.States.{state_code, state_of}
use Rattle.machine.proofs.StepLaws.{state_small}
use Rattle.machine.specs.Steps.{place_number, cross_of}
use Rattle.aisles.specs.declared.layers.Aisle.{Aisle}
use Rattle.rows.specs.Rows.{Permuted, NoneTo}
use Rattle.rows.specs.Pairs.{walk, key_at, next_key, SoundRow, KeysRelaxed}
use Rattle.rows.proofs.KeyRows.{row_top, live_key, dead_key, sound_next, keys_none, keys_permuted, sound_permuted}
use Rattle.aisles.proofs.ActionRows.{DeadNone}
use Rattle.table.specs.Crossings.{cross_code, through_passage, least_over, least_after, Plain, PassageTried, AfterFilled}
use Rattle.demand.proofs.Filling.{below}

-- a passage by its place in the order
abbrev pub passage_at : ℕ → Passage
passage_at k = get_or passages_in_order k P00

module _ (x : Aisle) (next : ℕ → ℕ → ℕ) (s q : ℕ) where
  -- the number of the state after a passage
  abbrev to : Passage → ℕ
  to p = state_code (cross_of x.method.policy (seen_passage x.layout p) x.place (state_of s))

  -- no way on over a passage that leads to the dead state
  pub through_dead : DeadNone next → (p : Passage) → to p ≡ 8 → through_passage x next s q p ≡ no_key
  unfolding through_passage sum_up_to
  through_dead none p e = omega (arith, none (to p) q (omega arith))

  -- one more passage is tried
  pub least_tried : (k : ℕ) → k < 5 → least_over x next s q (k + 1) ≡ min (least_over x next s q k) (through_passage x next s q (passage_at k))
  unfolding passages_in_order through_passage sum_up_to
  least_tried k h = least_take no_key (through_passage x next s q) passages_in_order k P00 h ∙ omega arith

-- from the dead state there is no way on
dead_ways : (x : Aisle) (next : ℕ → ℕ → ℕ) (q : ℕ) → DeadNone next → (p : Passage) → through_passage x next 8 q p ≡ no_key
unfolding cross_of
dead_ways x next q none p =
    let seen = seen_passage x.layout p in
    through_dead x next 8 q none p (ap state_code (go (passage_named FrontSide x.method.policy seen) seen))
  where
    go : (b : Bool) (p : Passage) → cond b (cross_step 1 (place_number x.place) p dead) dead ≡ dead
    go true P00 = refl
    go true P02 = refl
    go true P11 = refl
    go true P20 = refl
    go true P22 = refl
    go false p = refl

-- the least over ways none of which leads on
pub least_none : {A : Type 0} (f : A → ℕ) → ((x : A) → f x ≡ no_key) → (xs : List A) → least_or no_key f xs ≡ no_key
least_none f e [] = refl
least_none f e (x ∷ xs) = omega (arith, e x, least_none f e xs)

-- a map that leaves each demand below n as it is leads to demands below n
pub plain_below : (plain : List ℕ) (n : ℕ) → Plain plain n → (q : ℕ) → q < n → get_or plain (0 + q) 0 < n
plain_below plain n same q h = subst (λ k. k < n) (sym (same q h)) h

module _ (x : Aisle) (after after-spared next next-spared steps : List ℕ) (p : Passage)
    (steps-are : (s : ℕ) → s < 8 → get_or steps s 0 ≡ cross_code x p s) where
  -- what the passage costs
  abbrev cost_of_lem : ℕ
  cost_of_lem = (back_treads p + front_treads p) * x.layout.width

  -- the rows behind a passage, their states put in order, then relaxed
  pub passage_relaxed : (after' after-spared' perm perm' perm-spared perm-spared' plain : List ℕ) (cost : ℕ) → x.weight ≤ 256
      → cost ≡ cost_of_lem → Plain plain x.weight
      → Permuted perm perm' next steps x.weight 8 → Permuted perm-spared perm-spared' next-spared steps x.weight 8
      → KeysRelaxed after after' after-spared after-spared' perm' perm-spared' plain 0 cost x.weight
      → PassageTried x after after' after-spared after-spared' next next-spared p
  unfolding through_passage cross_code
  passage_relaxed after' after-spared' perm perm' perm-spared perm-spared' plain cost light cost-is plain-is permuted ones-permuted relaxed =
      record {
        kept = relaxed.kept;
        spared_kept = relaxed.spared_kept;
        rest = relaxed.rest;
        spared_rest = relaxed.spared_rest;
        keyed = λ r small here there. (
            let k = relaxed.keyed r small here (sound_permuted perm perm' perm-spared perm-spared' next next-spared steps x.weight permuted ones-permuted r there) in
            (k.0, λ s q l h. k.1.done s q l h ∙ ap (min (key_at r after after-spared s q)) (over r there s q l h))
            );
      }
    where
      over : (r : ℕ) → SoundRow r next next-spared x.weight → (s q : ℕ) → s < 8 → q < x.weight
          → walk cost (key_at r perm' perm-spared' s (get_or plain (0 + q) 0)) ≡ through_passage x (next_key r next next-spared) s q p
      over r there s q l h =
          ap₂ walk cost-is
          (ap (λ n. key_at r perm' perm-spared' s n) (plain-is q h)
          ∙ keys_permuted perm perm' perm-spared perm-spared' next next-spared steps x.weight permuted ones-permuted r there s q l h
          ∙ ap (λ t. next_key r next next-spared t q) (steps-are s l))

  -- a passage that leads on from no state is passed over
  pub passage_skipped : ((s : ℕ) → s < 8 → 8 ≤ get_or steps s 0) → PassageTried x after after after-spared after-spared next next-spared p
  unfolding cross_code
  passage_skipped none =
      record { kept = refl; spared_kept = refl; rest = λ k h. refl; spared_rest = λ k h. refl; keyed = λ r small here there. (here, done r) }
    where
      end : ℕ → State
      end s = cross_of x.method.policy (seen_passage x.layout p) x.place (state_of s)

      done : (r s q : ℕ) → s < 8 → q < x.weight
          → key_at r after after-spared s q ≡ min (key_at r after after-spared s q) (through_passage x (next_key r next next-spared) s q p)
      done r s q l h =
          let to-dead : state_code (end s) ≡ 8 = omega (arith, state_small (end s), none s l, steps-are s l) in
          omega (arith, row_top r after after-spared s q, through_dead x (next_key r next next-spared) s q (dead_key r next next-spared) p to-dead)

-- the eight states of the rows behind the actions hold the least over the first n passages
abbrev pub AfterTried : Aisle → List ℕ → List ℕ → List ℕ → List ℕ → ℕ → Type 0
AfterTried x after after-spared next next-spared n =
    (r : ℕ) → r ≤ 16 → SoundRow r next next-spared x.weight
    → SoundRow r after after-spared x.weight
    × ((s q : ℕ) → s < 8 → q < x.weight → key_at r after after-spared s q ≡ least_over x (next_key r next next-spared) s q n)

module _ (x : Aisle) (next next-spared : List ℕ) where
  -- no passage yet
  pub after_none : (after after-spared : List ℕ) → NoneTo after after (x.weight * 8) → AfterTried x after after-spared next next-spared 0
  after_none after after-spared none r small there =
      let at = keys_none r after after after-spared x.weight none in
      (λ s q l h. (at s q l h).0, λ s q l h. (at s q l h).1)

  -- one more passage
  pub after_one : (after after' after-spared after-spared' : List ℕ) (k : ℕ) → k < 5 → AfterTried x after after-spared next next-spared k
      → PassageTried x after after' after-spared after-spared' next next-spared (passage_at k) → AfterTried x after' after-spared' next next-spared (k + 1)
  after_one after after' after-spared after-spared' k few tried relaxed r small there =
      let t = tried r small there in
      let more = relaxed.keyed r small t.0 there in (
        more.0,
        λ s q l h.
            more.1 s q l h
            ∙ ap (λ n. min n (through_passage x (next_key r next next-spared) s q (passage_at k))) (t.1 s q l h)
            ∙ sym (least_tried x (next_key r next next-spared) s q k few),
      )

  -- with the dead state the rows are filled
  pub after_all : (after after-spared : List ℕ) → AfterTried x after after-spared next next-spared x.tried → AfterFilled x after after-spared next next-spared
  unfolding least_after
  after_all after after-spared filled r small there s q l h =
      record {
        sound = sound_next r after after-spared x.weight (filled r small there).0 s q h;
        same = ⊎_elim here dead_here (below s 8 l);
      }
    where
      here : s < 8 → next_key r after after-spared s q ≡ least_after x (next_key r next next-spared) s q
      here m = live_key r after after-spared s q m ∙ (filled r small there).1 s q m h

      dead_here : s ≡ 8 → next_key r after after-spared s q ≡ least_after x (next_key r next next-spared) s q
      dead_here e =
          dead_key r after after-spared s q (omega arith)
          ∙ sym (least_none _ (dead_ways x (next_key r next next-spared) q (dead_key r next next-spared)) (take x.tried passages_in_order))
          ∙ ap (λ t. least_after x (next_key r next next-spared) t q) (sym e)

-- the passages that are tried
pub passage_tried : (tried p : ℕ) → p < tried → tried ≤ 5 → get_or (take tried passages_in_order) p P00 ≡ passage_at p
passage_tried tried p l h = get_or-take tried passages_in_order p P00 l

pub tried_length : (tried : ℕ) → tried ≤ 5 → length (take tried passages_in_order) ≡ tried
unfolding passages_in_order
tried_length tried h = length-take-le tried passages_in_order h
