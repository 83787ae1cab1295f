-- The state tells whether the passage before it is trodden an odd number of times, so crossings are even.
use Prim.Native.Nat.{ℕ, zero, suc, ◌+◌, ◌-◌, ◌%◌, ◌<◌}
use native.Mathlib.Omega.{arith}
use native.Mathlib.Nat.{add-mod, mod-add-mod, add-mod-mod}
use mathlib.Core.Path.{◌≡◌, refl, sym, ◌∙◌}
use mathlib.Core.Bool.{Bool, true, false, cond, ◌||◌}
use lib.Dec.{ltb, leb, eqb}
use Rattle.rules.specs.declared.Layout.{Layout}
use Rattle.rules.specs.declared.Action.{Action}
use Rattle.rules.specs.declared.Action.TheVariants.{Void, Bottom, Top, Gap, Once, Twice}
use Rattle.rules.specs.declared.Passage.{Passage}
use Rattle.rules.specs.declared.Passage.TheVariants.{P00, P02, P11, P20, P22}
use Rattle.rules.specs.Plans.{Plan, action_at, passage_at, aisle_treads, back_treads, front_treads, multiplicity}
use Rattle.rules.specs.Lawful.{front_degree, back_degree}
use Rattle.rules.specs.Machine.{State, nothing, closed, at_front, at_back, odd, joined, split, ending, dead, row, lawful_step, cross_step}
use Rattle.tours.specs.Prefixes.{lawful_state}

-- every state but `dead`
abbrev pub Live : State → Type 0
Live nothing = Unit {0}
Live closed = Unit {0}
Live at_front = Unit {0}
Live at_back = Unit {0}
Live odd = Unit {0}
Live joined = Unit {0}
Live split = Unit {0}
Live ending = Unit {0}
Live dead = ⊥

-- 1 in the state whose crossings have an odd number of treads
abbrev pub oddness : State → ℕ
oddness nothing = 0
oddness closed = 0
oddness at_front = 0
oddness at_back = 0
oddness odd = 1
oddness joined = 0
oddness split = 0
oddness ending = 0
oddness dead = 0

-- 1 for the action that treads an odd number of times
abbrev onceness : Action → ℕ
onceness Void = 0
onceness (Bottom i) = 0
onceness (Top i) = 0
onceness (Gap h i) = 0
onceness Once = 1
onceness Twice = 0

even_cond : (b : Bool) → cond b 2 0 % 2 ≡ 0
even_cond true = refl
even_cond false = refl

-- an action treads every edge of its aisle with one parity
action_treads : (a : Action) (k : ℕ) → aisle_treads a k % 2 ≡ onceness a
action_treads Void k = refl
action_treads (Bottom i) k = even_cond (ltb k i)
action_treads (Top i) k = even_cond (leb i k)
action_treads (Gap h i) k = even_cond (ltb k h || leb i k)
action_treads Once k = refl
action_treads Twice k = refl

-- a passage treads both cross-aisles with one parity
same_parity : (p : Passage) → back_treads p % 2 ≡ front_treads p % 2
same_parity P00 = refl
same_parity P02 = refl
same_parity P11 = refl
same_parity P20 = refl
same_parity P22 = refl

-- an action's row of the table, parity by parity
row_parity : (w : ℕ) (n f k t j s : State)
    → (w + 0 + oddness n) % 2 ≡ 0 → (w + 0 + oddness f) % 2 ≡ 0 → (w + 0 + oddness k) % 2 ≡ 0
    → (w + 1 + oddness t) % 2 ≡ 0 → (w + 0 + oddness j) % 2 ≡ 0 → (w + 0 + oddness s) % 2 ≡ 0
    → (st : State) → Live (row n f k t j s st) → (w + oddness st + oddness (row n f k t j s st)) % 2 ≡ 0
row_parity w _ _ _ _ _ _ n f k t j s nothing l = n
row_parity w _ _ _ _ _ _ n f k t j s closed l = absurd l
row_parity w _ _ _ _ _ _ n f k t j s at_front l = f
row_parity w _ _ _ _ _ _ n f k t j s at_back l = k
row_parity w _ _ _ _ _ _ n f k t j s odd l = t
row_parity w _ _ _ _ _ _ n f k t j s joined l = j
row_parity w _ _ _ _ _ _ n f k t j s split l = s
row_parity w _ _ _ _ _ _ n f k t j s ending l = absurd l
row_parity w _ _ _ _ _ _ n f k t j s dead l = absurd l

twice_even : (n : ℕ) → (0 + n + n) % 2 ≡ 0
twice_even n = omega arith

-- an action changes the parity of the state by its own
action_parity : (a : Action) (s : State) → Live (lawful_step a s) → (onceness a + oddness s + oddness (lawful_step a s)) % 2 ≡ 0
action_parity Void s l = twice_even (oddness s)
action_parity (Bottom i) s l = row_parity 0 at_front at_front split odd joined split refl refl refl refl refl refl s l
action_parity (Top i) s l = row_parity 0 at_back split at_back odd joined split refl refl refl refl refl refl s l
action_parity (Gap h i) s l = row_parity 0 split split split odd joined split refl refl refl refl refl refl s l
action_parity Once s l = row_parity 1 odd odd odd joined odd odd refl refl refl refl refl refl s l
action_parity Twice s l = row_parity 0 joined joined joined odd joined joined refl refl refl refl refl refl s l

even_when : (b : Bool) (s : State) → oddness s ≡ 0 → oddness (cond b s dead) ≡ 0
even_when true s e = e
even_when false s e = refl

even_unless : (b : Bool) (s : State) → oddness s ≡ 0 → oddness (cond b dead s) ≡ 0
even_unless true s e = refl
even_unless false s e = e

-- a passage that can be taken has the parity of the state before it, and of the state behind it
pub passage_parity : (d j : ℕ) (p : Passage) (s : State) → Live (cross_step d j p s)
    → (front_treads p % 2 ≡ oddness s) × (oddness (cross_step d j p s) ≡ oddness s)
passage_parity d j P00 nothing l = (refl, even_unless (eqb j d) nothing refl)
passage_parity d j P00 closed l = (refl, refl)
passage_parity d j P00 at_front l = (refl, even_when (leb d j) closed refl)
passage_parity d j P00 at_back l = (refl, even_when (ltb d j) closed refl)
passage_parity d j P00 odd l = absurd l
passage_parity d j P00 joined l = (refl, even_when (leb d j) closed refl)
passage_parity d j P00 split l = absurd l
passage_parity d j P00 ending l = (refl, even_when (leb d j) closed refl)
passage_parity d j P00 dead l = absurd l
passage_parity d j P02 nothing l = (refl, refl)
passage_parity d j P02 closed l = absurd l
passage_parity d j P02 at_front l = (refl, refl)
passage_parity d j P02 at_back l = absurd l
passage_parity d j P02 odd l = absurd l
passage_parity d j P02 joined l = (refl, refl)
passage_parity d j P02 split l = absurd l
passage_parity d j P02 ending l = (refl, refl)
passage_parity d j P02 dead l = absurd l
passage_parity d j P11 nothing l = absurd l
passage_parity d j P11 closed l = absurd l
passage_parity d j P11 at_front l = absurd l
passage_parity d j P11 at_back l = absurd l
passage_parity d j P11 odd l = (refl, refl)
passage_parity d j P11 joined l = absurd l
passage_parity d j P11 split l = absurd l
passage_parity d j P11 ending l = absurd l
passage_parity d j P11 dead l = absurd l
passage_parity d j P20 nothing l = (refl, even_unless (eqb j d) at_back refl)
passage_parity d j P20 closed l = absurd l
passage_parity d j P20 at_front l = absurd l
passage_parity d j P20 at_back l = (refl, even_unless (eqb j d) at_back refl)
passage_parity d j P20 odd l = absurd l
passage_parity d j P20 joined l = (refl, refl)
passage_parity d j P20 split l = absurd l
passage_parity d j P20 ending l = absurd l
passage_parity d j P20 dead l = absurd l
passage_parity d j P22 nothing l = (refl, refl)
passage_parity d j P22 closed l = absurd l
passage_parity d j P22 at_front l = (refl, refl)
passage_parity d j P22 at_back l = (refl, refl)
passage_parity d j P22 odd l = absurd l
passage_parity d j P22 joined l = (refl, refl)
passage_parity d j P22 split l = (refl, refl)
passage_parity d j P22 ending l = absurd l
passage_parity d j P22 dead l = absurd l

-- from `dead` no state is reached
pub live_before_action : (a : Action) (s : State) → Live (lawful_step a s) → Live s
live_before_action a nothing l = tt
live_before_action a closed l = tt
live_before_action a at_front l = tt
live_before_action a at_back l = tt
live_before_action a odd l = tt
live_before_action a joined l = tt
live_before_action a split l = tt
live_before_action a ending l = tt
live_before_action Void dead l = l
live_before_action (Bottom i) dead l = l
live_before_action (Top i) dead l = l
live_before_action (Gap h i) dead l = l
live_before_action Once dead l = l
live_before_action Twice dead l = l

pub live_before_passage : (d j : ℕ) (p : Passage) (s : State) → Live (cross_step d j p s) → Live s
live_before_passage d j p nothing l = tt
live_before_passage d j p closed l = tt
live_before_passage d j p at_front l = tt
live_before_passage d j p at_back l = tt
live_before_passage d j p odd l = tt
live_before_passage d j p joined l = tt
live_before_passage d j p split l = tt
live_before_passage d j p ending l = tt
live_before_passage d j P00 dead l = l
live_before_passage d j P02 dead l = l
live_before_passage d j P11 dead l = l
live_before_passage d j P20 dead l = l
live_before_passage d j P22 dead l = l

sum_parity : (x u v : ℕ) → (x + u + v) % 2 ≡ (x % 2 + u % 2 + v % 2) % 2
sum_parity x u v =
    cc (mod-add-mod (x + u) 2 v, add-mod x u 2, mod-add-mod (x % 2 + u % 2) 2 v, add-mod-mod (x % 2 + u % 2) v 2)

bit : (n o : ℕ) → n % 2 ≡ o → o < 2
bit n o e = omega arith

third_bit : (n v r : ℕ) → (n + v % 2) % 2 ≡ 0 → (n + r) % 2 ≡ 0 → r < 2 → v % 2 ≡ r
third_bit n v r e f l = go (v % 2) (bit v (v % 2) refl) e
  where
    go : (b : ℕ) → b < 2 → (n + b) % 2 ≡ 0 → b ≡ r
    go b h g = omega arith

oddness_bit : (s : State) → oddness s < 2
oddness_bit nothing = omega arith
oddness_bit closed = omega arith
oddness_bit at_front = omega arith
oddness_bit at_back = omega arith
oddness_bit odd = omega arith
oddness_bit joined = omega arith
oddness_bit split = omega arith
oddness_bit ending = omega arith
oddness_bit dead = omega arith

before_suc : (i : ℕ) → suc i - 1 ≡ i
before_suc i = omega arith

module _ (d : ℕ) (plan : Plan) where
  -- the state before aisle n + 1 has the parity of the passage before it
  pub run_parity : (n : ℕ) → Live (lawful_state d plan n) → front_treads (passage_at plan n) % 2 ≡ oddness (lawful_state d plan n)
  unfolding passage_at
  run_parity zero l = refl
  run_parity (suc i) l =
      let p = passage_parity d (suc i) (passage_at plan (suc i)) (lawful_step (action_at plan (suc i)) (lawful_state d plan i)) l in
      p.0 ∙ sym p.1

  module _ (i : ℕ) (live : Live (lawful_step (action_at plan (suc i)) (lawful_state d plan i))) where
    -- what the treads at a crossing of aisle i + 1 come to, but for the passage behind it
    crossing_parity : (k u v : ℕ) → u % 2 ≡ front_treads (passage_at plan i) % 2
        → (aisle_treads (action_at plan (suc i)) k + u + v) % 2 ≡ (onceness (action_at plan (suc i)) + oddness (lawful_state d plan i) + v % 2) % 2
    crossing_parity k u v e =
        sum_parity (aisle_treads (action_at plan (suc i)) k) u v
        ∙ rw (action_treads (action_at plan (suc i)) k, e, run_parity i (live_before_action (action_at plan (suc i)) (lawful_state d plan i) live)) refl

    even_crossing : (k u v : ℕ) → u % 2 ≡ front_treads (passage_at plan i) % 2
        → v % 2 ≡ oddness (lawful_step (action_at plan (suc i)) (lawful_state d plan i))
        → (aisle_treads (action_at plan (suc i)) k + u + v) % 2 ≡ 0
    even_crossing k u v e f =
        crossing_parity k u v e ∙ rw f (action_parity (action_at plan (suc i)) (lawful_state d plan i) live)

    -- an even crossing makes the passage behind it fit the state
    pub next_parity : front_degree (multiplicity plan) (suc i) % 2 ≡ 0
        → front_treads (passage_at plan (suc i)) % 2 ≡ oddness (lawful_step (action_at plan (suc i)) (lawful_state d plan i))
    unfolding front_degree multiplicity
    next_parity e =
        third_bit
        (onceness (action_at plan (suc i)) + oddness (lawful_state d plan i))
        (front_treads (passage_at plan (suc i)))
        (oddness (lawful_step (action_at plan (suc i)) (lawful_state d plan i)))
        (sym (crossing_parity 0 (front_treads (passage_at plan (suc i - 1))) (front_treads (passage_at plan (suc i))) (rw (before_suc i))) ∙ e)
        (action_parity (action_at plan (suc i)) (lawful_state d plan i) live)
        (oddness_bit (lawful_step (action_at plan (suc i)) (lawful_state d plan i)))

  module _ (i : ℕ) (live : Live (lawful_state d plan (suc i))) where
    behind_live : Live (lawful_step (action_at plan (suc i)) (lawful_state d plan i))
    behind_live = live_before_passage d (suc i) (passage_at plan (suc i)) (lawful_step (action_at plan (suc i)) (lawful_state d plan i)) live

    behind_parity : front_treads (passage_at plan (suc i)) % 2 ≡ oddness (lawful_step (action_at plan (suc i)) (lawful_state d plan i))
    behind_parity = (passage_parity d (suc i) (passage_at plan (suc i)) (lawful_step (action_at plan (suc i)) (lawful_state d plan i)) live).0

    -- where the machine goes on, the crossings of the aisle behind it are even
    pub front_crossing_even : front_degree (multiplicity plan) (suc i) % 2 ≡ 0
    unfolding front_degree multiplicity
    front_crossing_even =
        even_crossing i behind_live 0 (front_treads (passage_at plan (suc i - 1))) (front_treads (passage_at plan (suc i)))
        (rw (before_suc i)) behind_parity

    pub back_crossing_even : (z : Layout) → back_degree z (multiplicity plan) (suc i) % 2 ≡ 0
    unfolding back_degree multiplicity
    back_crossing_even z =
        even_crossing i behind_live z.cells (back_treads (passage_at plan (suc i - 1))) (back_treads (passage_at plan (suc i)))
        (rw (before_suc i) (same_parity (passage_at plan i))) (same_parity (passage_at plan (suc i)) ∙ behind_parity)
