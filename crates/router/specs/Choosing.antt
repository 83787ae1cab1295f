-- The choice that the table leads to, as the code finds it: by lengths, and by counting the aisles of a set.
use Rattle.std.specs.Prelude.{ℕ, ◌+◌, ◌*◌, ◌-◌, ◌≤◌, ◌<◌, ◌≡◌, List, Bool, true, false, ◌&&◌, eqb, length, get_or, take}
use Rattle.std.proofs.Math.Option.{some}
use Rattle.std.specs.Int.Count.{ones}
use Rattle.rules.specs.declared.Action.{Action}
use Rattle.rules.specs.declared.Passage.{Passage}
use Rattle.rules.specs.Lists.{first_of}
use Rattle.rules.specs.Lengths.{action_length}
use Rattle.rules.specs.Plans.{Fits, back_treads, front_treads}
use Rattle.rules.specs.Turned.{seen_passage}
use Rattle.rules.specs.BestPlan.{actions_of, passages_in_order}
use Rattle.optimum.specs.Routing.{sat}
use Rattle.machine.specs.States.{state_code, state_of}
use Rattle.machine.specs.Steps.{cross_of}
use Rattle.aisles.specs.declared.layers.Aisle.{Aisle}
use Rattle.rows.specs.Rows.{next_at}
use Rattle.demand.specs.Digits.{demands}
use Rattle.aisles.specs.Layers.{InRange, AisleReady, step_code, left_code}
use Rattle.entered.specs.Sets.{with_aisle}
use Rattle.router.specs.declared.choices.At.{At}
use Rattle.router.specs.declared.choices.Sought.{Sought}
use Rattle.router.specs.declared.choices.Taken.{Taken}
use Rattle.router.specs.declared.choices.Crossed.{Crossed}

-- the first number below a count that passes a test, by what the test answers; the count where none does
pub record FirstPass (answers : ℕ → Bool → Type 0) (count r : ℕ) : Type 0 where
  pub within : r ≤ count
  pub before : (k : ℕ) → k < r → answers k false
  pub passed : r < count → answers r true

-- the number of the first element that passes a test; the length where there is none
pub record FirstRank {A : Type 0} (test : A → Bool) (xs : List A) (d : A) (r : ℕ) : Type 0 where
  pub within : r ≤ length xs
  pub before : (k : ℕ) → k < r → test (get_or xs k d) ≡ true → ⊥
  pub attained : r < length xs → test (get_or xs r d) ≡ true

-- some element passes the test
abbrev pub Attained : {A : Type 0} → (A → Bool) → List A → Type 0
Attained {A = A} test xs = (x : A) × (first_of test xs ≡ some x)

-- what a row holds for a state and a demand; 'none' for the dead state
abbrev pub value_at : List ℕ → At → ℕ
value_at row at = next_at row at.state at.demand

-- where an action leads, and where a passage does
abbrev pub step_to : Aisle → List ℕ → List ℕ → At → Action → At
step_to x fronts backs at a = record { state = step_code x a at.state; demand = left_code x.layout.cells fronts backs a at.demand }

abbrev pub cross_to : Aisle → At → Passage → At
cross_to x at p = record { state = state_code (cross_of x.method.policy (seen_passage x.layout p) x.place (state_of at.state)); demand = at.demand }

-- a way attains what is sought: it has the length, and the aisles of its set and those that the rest enters of the aisles left are the fewest
unfoldable pub is_attained : Sought → ℕ → ℕ → ℕ → Bool
is_attained g entered len spared = eqb len g.length && eqb (ones entered + (g.left - ones spared)) g.fewest

-- the way over an action does, by the rows behind the actions
abbrev pub over_attains : Aisle → List ℕ → List ℕ → List ℕ → List ℕ → Sought → Action → Bool
over_attains x after after-spared fronts backs g a =
    let to = step_to x fronts backs g.at a in
    is_attained g (with_aisle g.entered g.aisle a) (sat (action_length x.layout a) (value_at after to)) (value_at after-spared to)

-- the way on over a passage does, by the next rows
abbrev pub on_attains : Aisle → List ℕ → List ℕ → Sought → Passage → Bool
on_attains x next next-spared g p =
    let to = cross_to x g.at p in
    is_attained g g.entered (sat ((back_treads p + front_treads p) * x.layout.width) (value_at next to)) (value_at next-spared to)

-- what a step needs: an aisle with its maps, a state and a demand of the job, an action of the aisle
pub record StepAsked (x : Aisle) (fronts backs : List ℕ) (at : At) (a : Action) : Type 0 where
  pub ready : AisleReady x fronts backs
  pub state_below : at.state < 9
  pub demand_below : at.demand < x.weight
  pub fits : Fits x.layout.cells a

-- what choosing an action needs: an aisle with its maps, a state and a demand of the job, one of sixteen aisles
pub record ActionAsked (x : Aisle) (fronts backs : List ℕ) (g : Sought) : Type 0 where
  pub ready : AisleReady x fronts backs
  pub state_below : g.at.state < 9
  pub demand_below : g.at.demand < x.weight
  pub aisle_below : g.aisle < 16
  pub left_few : g.left ≤ 16

-- what choosing a passage needs: numbers in range
pub record PassageAsked (x : Aisle) (g : Sought) : Type 0 where
  pub aisle : InRange x
  pub demand : g.at.demand < demands
  pub state_below : g.at.state < 9
  pub left_few : g.left ≤ 16

-- what is sought behind an action: the length that follows, from where it leads, with the aisle in the set if it is entered
abbrev pub sought_behind : Aisle → List ℕ → List ℕ → List ℕ → Sought → Action → Sought
sought_behind x after fronts backs g a =
    let to = step_to x fronts backs g.at a in
    record {
      at = to;
      length = value_at after to;
      fewest = g.fewest;
      entered = with_aisle g.entered g.aisle a;
      aisle = g.aisle;
      left = g.left;
    }

-- the first action that attains what is sought, and what is sought behind it
pub record ActionTaken (x : Aisle) (after after-spared fronts backs : List ℕ) (g : Sought) (r : Taken) : Type 0 where
  pub first : first_of (over_attains x after after-spared fronts backs g) (actions_of x.layout.cells) ≡ some r.action
  pub leads : r.sought ≡ sought_behind x after fronts backs g r.action

-- the first passage that attains what is sought behind an action, the stage of the two, where it leads, and the set of entered aisles
pub record PassageTaken (x : Aisle) (next next-spared : List ℕ) (a : Taken) (r : Crossed) : Type 0 where
  pub behind : r.stage.action ≡ a.action
  pub first : first_of (on_attains x next next-spared a.sought) (take x.tried passages_in_order) ≡ some r.stage.passage
  pub leads : r.at ≡ cross_to x a.sought.at r.stage.passage
  pub marked : r.entered ≡ a.sought.entered
