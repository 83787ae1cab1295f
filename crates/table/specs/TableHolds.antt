-- What the work area, and the list of ones beside it, hold when the table is filled.
use Rattle.std.specs.Prelude.{ℕ, zero, suc, ◌+◌, ◌*◌, ◌-◌, ◌≤◌, ◌<◌, ◌≡◌, List, cond, ltb, eqb, length, get_or, set, replicate, take, drop}
use Rattle.rules.specs.declared.Layout.{Layout}
use Rattle.rules.specs.declared.Policy.{Policy}
use Rattle.rules.specs.Jobs.{Job}
use Rattle.rules.specs.Policies.{walk_back_end}
use Rattle.rules.specs.Machine.{State, enterable}
use Rattle.rules.specs.Refusals.{Admitted, weight}
use Rattle.optimum.specs.Table.{after_action, value}
use Rattle.optimum.specs.Demand.{radices, demand_of}
use Rattle.optimum.specs.Routing.{no_tour, routing, all_actions}
use Rattle.machine.specs.States.{state_of}
use Rattle.machine.specs.declared.Method.{Method}
use Rattle.machine.specs.declared.Place.{Place}
use Rattle.machine.specs.declared.Place.TheVariants.{Left, At, Right}
use Rattle.machine.specs.Tables.{asks_gap}
use Rattle.between.specs.Between.{between_of}
use Rattle.values.specs.Shelves.{ShelfOf}
use Rattle.demand.specs.Digits.{DigitsOf, demands}
use Rattle.table.specs.declared.filling.Order.{Order}
use Rattle.aisles.specs.declared.layers.Aisle.{Aisle}
use Rattle.aisles.specs.Layers.{InRange}
use Rattle.rows.specs.Rows.{states, numbers, work_area, tab, next_at}
use Rattle.rows.specs.Pairs.{Holds}

-- where aisle j lies: left of the depot, at it or right of it
unfoldable pub place_of : ℕ → ℕ → Place
place_of d j = cond (ltb j d) Left (cond (eqb j d) At Right)

-- a policy in a store
abbrev pub method_of : Policy → Layout → Method
method_of policy z = record { policy = policy; end = walk_back_end z }

-- how many passages are tried with n aisles to the right: 00 alone behind the last aisle, all elsewhere
abbrev pub tried_at : ℕ → ℕ
tried_at zero = 1
tried_at (suc n) = 5

-- what an order tells of a job that is admitted
pub record OrderOf (job : Job) (o : Order) : Type 0 where
  pub admitted : Admitted job
  pub layout : o.layout ≡ job.layout
  pub method : o.method ≡ method_of job.policy job.layout
  pub shelf : ShelfOf job o.shelf
  pub digits : DigitsOf job o.digits

-- what the rows need of aisle j
unfoldable pub aisle_of : Job → ℕ → Aisle
aisle_of job j =
    record {
      layout = job.layout;
      method = method_of job.policy job.layout;
      may = enterable job j;
      weight = weight job.lines;
      place = place_of job.layout.depot j;
      tried = tried_at (job.layout.aisles - j);
      between = between_of (asks_gap job.policy) job j;
    }

-- the table's values, keys, with n aisles left from aisle j on
abbrev pub values : Job → ℕ → ℕ → State → List ℕ → ℕ
values job = value (routing job (all_actions job))

-- and behind the actions of aisle j with n aisles to the right
abbrev pub behind : Job → ℕ → ℕ → State → List ℕ → ℕ
behind job n j = after_action (routing job (all_actions job)) (values job n (suc j)) n j

-- a row and its ones hold the table's values with n aisles left from aisle j on
abbrev pub RowHolds : Job → ℕ → ℕ → List ℕ → List ℕ → Type 0
RowHolds job n j row row-spared =
    (s q : ℕ) → s < states → q < weight job.lines
    → Holds n (tab row s q) (tab row-spared s q) (values job n j (state_of s) (demand_of (radices job) q))

-- a row and its ones hold the values behind the actions of aisle j, the dead state's too
abbrev pub AfterHolds : Job → ℕ → ℕ → List ℕ → List ℕ → Type 0
AfterHolds job n j after after-spared =
    (s q : ℕ) → s < 9 → q < weight job.lines
    → Holds n (next_at after s q) (next_at after-spared s q) (behind job n j (state_of s) (demand_of (radices job) q))

-- the rows of the aisles from j to m, 2,048 numbers each, and their ones hold the table's values
abbrev pub TableFrom : Job → ℕ → List ℕ → List ℕ → Type 0
TableFrom job j work spared =
    (i s q : ℕ) → j ≤ i → i ≤ job.layout.aisles → s < states → q < weight job.lines →
    let place = (i - 1) * numbers + (q * states + s) in
    let left = suc job.layout.aisles - i in
    Holds left (get_or work place 0) (get_or spared place 0) (values job left i (state_of s) (demand_of (radices job) q))

-- the row behind the last aisle: length 0 in the closed state, 1, with demand 0, and else 'none'
unfoldable pub end_row : List ℕ
end_row = set (replicate numbers no_tour) 1 0

-- the numbers of aisle j in the work area, or in the list of ones
abbrev pub row_in : List ℕ → ℕ → List ℕ
row_in work j = take numbers (drop ((j - 1) * numbers) work)

-- with the rows behind aisle j filled, two rows hold the table's values with the aisles left that lie right of aisle j
abbrev pub NextHolds : ℕ → ℕ → List ℕ → List ℕ → List ℕ → List ℕ → Type 0
NextHolds aisles j work spared next next-spared =
    (job : Job) → job.layout.aisles ≡ aisles → weight job.lines ≤ demands → TableFrom job (suc j) work spared
    → RowHolds job (aisles - j) (suc j) next next-spared

-- what the rows behind the actions of an aisle are made from: in the work area, and in the list of ones, are sixteen rows
pub record BehindAsked (x : Aisle) (work spared : List ℕ) : Type 0 where
  pub aisle : InRange x
  pub few : x.layout.aisles ≤ 16
  pub work_long : work_area ≤ length work
  pub spared_long : work_area ≤ length spared

-- with the rows behind aisle j filled, the rows behind its actions hold the table's values
abbrev pub BehindFilled : Aisle → ℕ → List ℕ → List ℕ → List ℕ → List ℕ → Type 0
BehindFilled x j after after-spared work spared =
    (job : Job) → x ≡ aisle_of job j → TableFrom job (suc j) work spared → AfterHolds job (job.layout.aisles - j) j after after-spared

-- what the rows of aisle j are made from
pub record LayerAsked (o : Order) (j : ℕ) (work spared : List ℕ) : Type 0 where
  pub order : (job : Job) × OrderOf job o
  pub here : (1 ≤ j) × (j ≤ o.layout.aisles)
  pub few : o.layout.aisles ≤ 16
  pub work_long : work_area ≤ length work
  pub spared_long : work_area ≤ length spared

-- with the rows behind aisle j filled, its own are filled too
pub record LayerFilled (o : Order) (j : ℕ) (work work' spared spared' : List ℕ) : Type 0 where
  pub kept : length work' ≡ length work
  pub spared_kept : length spared' ≡ length spared
  pub filled : (job : Job) → OrderOf job o → TableFrom job (suc j) work spared → TableFrom job j work' spared'
