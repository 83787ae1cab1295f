-- The steps that the tables hold are the machine's.
use Prim.Native.Nat.{ℕ, ◌≤◌}
use native.Mathlib.Omega.{arith}
use mathlib.Core.Path.{◌≡◌, refl, sym, ap}
use mathlib.Core.Bool.{Bool, true, false, cond, ◌||◌}
use lib.Dec.{ltb, leb, eqb}
use borrow.Author.Tests.{ltb-true, ltb-false, eqb-true, eqb-false, lt-ltb, le-ltb, le-leb, lt-leb, ne_eqb}
use Rattle.rules.specs.declared.Side.TheVariants.{FrontSide}
use Rattle.rules.specs.declared.Policy.{Policy}
use Rattle.rules.specs.declared.Policy.TheVariants.{Exact, Return, Traversal, Midpoint, Composite, Largest}
use Rattle.rules.specs.declared.Action.{Action}
use Rattle.rules.specs.declared.Action.TheVariants.{Void, Bottom, Top, Gap, Once, Twice}
use Rattle.rules.specs.declared.Passage.{Passage}
use Rattle.rules.specs.Plans.{Fits}
use Rattle.rules.specs.Jobs.{Job}
use Rattle.rules.proofs.Stops.{gap_from, gap_to}
use Rattle.rules.specs.Policies.{passage_named, walk_back_end, through}
use Rattle.rules.specs.Turned.{seen_passage}
use Rattle.rules.specs.Machine.{State, dead, keeps_largest_gap, between_test, may_enter, enterable, action_possible, action_step, cross_step, passage_step}
use Rattle.machine.specs.States.{state_code, state_of}
use Rattle.machine.specs.Steps.{place_number, cross_of}
use Rattle.machine.specs.declared.Place.TheVariants.{Left, At, Right}
use Rattle.machine.specs.Tables.{asks_gap}
use Rattle.machine.proofs.Seen.{by_seen_kind}
use Rattle.between.specs.Between.{allows_turns, between_of}
use Rattle.between.proofs.Laws.{allows_halves, allows_largest}
use Rattle.aisles.specs.Actions.{passes_between}
use Rattle.aisles.specs.Layers.{step_code, step_with}
use Rattle.table.specs.TableHolds.{place_of, aisle_of}

-- a policy lets an open aisle be entered that holds a listed article, or any
pub entered : (policy : Policy) (holds : Bool) → may_enter policy holds ≡ (may_enter policy false || holds)
entered Exact holds = refl
entered Return holds = refl
entered Traversal holds = refl
entered Midpoint holds = refl
entered Composite holds = refl
entered Largest holds = refl

module _ (job : Job) (j : ℕ) (few : job.layout.cells ≤ 24) where
  -- an aisle's turns are tested as the policy tests aisles between
  turns_tested : (policy : Policy) (a : Action) → Fits job.layout.cells a → through a ≡ false
      → allows_turns (between_of (asks_gap policy) job j) (gap_from a) (gap_to job.layout.cells a) ≡ between_test policy job j a
  turns_tested Exact a fits t = allows_halves job j a few fits t
  turns_tested Return a fits t = allows_halves job j a few fits t
  turns_tested Traversal a fits t = allows_halves job j a few fits t
  turns_tested Midpoint a fits t = allows_halves job j a few fits t
  turns_tested Composite a fits t = allows_halves job j a few fits t
  turns_tested Largest a fits t = allows_largest job j a few fits t

  -- an action that goes through its aisle passes no such test
  through_refused : (policy : Policy) → (between_test policy job j Once ≡ false) × (between_test policy job j Twice ≡ false)
  unfolding keeps_largest_gap
  through_refused Exact = (refl, refl)
  through_refused Return = (refl, refl)
  through_refused Traversal = (refl, refl)
  through_refused Midpoint = (refl, refl)
  through_refused Composite = (refl, refl)
  through_refused Largest = (refl, refl)

  -- so is an action
  between_code : (a : Action) → Fits job.layout.cells a
      → passes_between (between_of (asks_gap job.policy) job j) job.layout.cells a ≡ between_test job.policy job j a
  unfolding passes_between
  between_code Void fits = turns_tested job.policy Void fits refl
  between_code (Bottom i) fits = turns_tested job.policy (Bottom i) fits refl
  between_code (Top i) fits = turns_tested job.policy (Top i) fits refl
  between_code (Gap h i) fits = turns_tested job.policy (Gap h i) fits refl
  between_code Once fits = sym (through_refused job.policy).0
  between_code Twice fits = sym (through_refused job.policy).1

  -- the state after an action, by its kind as it is seen
  pub step_code_lem : (a : Action) → Fits job.layout.cells a → (s : ℕ) → step_code (aisle_of job j) a s ≡ state_code (action_step job j a (state_of s))
  unfolding step_code step_with aisle_of action_step action_possible
  step_code_lem a fits s =
      rw (between_code a fits)
      (ap state_code (by_seen_kind job.policy (walk_back_end job.layout) job.layout (between_test job.policy job j a) a (enterable job j) (state_of s)))

-- where an aisle lies answers the three tests on the depot
record Tests (d j side : ℕ) : Type 0 where
  here : eqb side 1 ≡ eqb j d
  reached : leb 1 side ≡ leb d j
  passed : ltb 1 side ≡ ltb d j

place_tests : (d j : ℕ) → Tests d j (place_number (place_of d j))
unfolding place_of
place_tests d j = go (ltb j d) refl
  where
    at : (b : Bool) → eqb j d ≡ b → d ≤ j → Tests d j (place_number (cond b At Right))
    at true e l = record { here = sym e; reached = sym (le-leb d j l); passed = sym (le-ltb d j (omega (arith, eqb-true j d e))) }
    at false e l = record { here = sym e; reached = sym (le-leb d j l); passed = sym (lt-ltb d j (omega (arith, eqb-false j d e))) }

    go : (b : Bool) → ltb j d ≡ b → Tests d j (place_number (cond b Left (cond (eqb j d) At Right)))
    go true e =
        let l = ltb-true j d e in
        record { here = sym (ne_eqb j d (λ p. omega arith)); reached = sym (lt-leb d j l); passed = sym (le-ltb d j (omega arith)) }
    go false e = at (eqb j d) refl (ltb-false j d e)

-- the machine asks of the depot these three only
cross_by_side : (d j side : ℕ) → Tests d j side → (p : Passage) (s : State) → cross_step 1 side p s ≡ cross_step d j p s
cross_by_side d j side t p s = rw (t.here, t.reached, t.passed) refl

-- the passages of the table are the machine's
pub cross_of_lem : (job : Job) (j : ℕ) (p : Passage) (s : State)
    → cross_of job.policy (seen_passage job.layout p) (place_of job.layout.depot j) s ≡ passage_step job j p s
unfolding cross_of passage_step
cross_of_lem job j p s =
    let d = job.layout.depot in
    let seen = seen_passage job.layout p in
    ap (λ t. cond (passage_named FrontSide job.policy seen) t dead) (cross_by_side d j (place_number (place_of d j)) (place_tests d j) seen s)
