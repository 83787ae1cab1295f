-- The rows of the table and their ones, from those behind the last aisle to the first.
use Prim.Native.Nat.{ℕ, zero, suc, ◌+◌, ◌*◌, ◌-◌, ◌≤◌, ◌<◌}
use native.Mathlib.Omega.{arith}
use mathlib.Core.Path.{◌≡◌, refl, sym, ◌∙◌, ap, ap₂, subst}
use mathlib.Core.List.{List}
use mathlib.Core.Bool.{Bool, true, false, cond, ◌&&◌, ◌||◌}
use lib.Count.{ones-ones}
use lib.Dec.{eqb}
use borrow.Author.Tests.{eqb-true, eqb-false, eq-eqb, ne_eqb}
use lib.ListN.{length, get_or, set, replicate, length-set, length-replicate, get_or-replicate}
use lib.Seq.{get_or-set_same, get_or-set_other}
use Rattle.rules.specs.declared.Layout.{Layout}
use Rattle.rules.specs.declared.Action.TheVariants.{Bottom, Top}
use Rattle.rules.specs.Hours.{is_open}
use Rattle.rules.specs.Jobs.{Job, holds_listed}
use Rattle.rules.specs.Refusals.{weight, Admitted}
use Rattle.rules.specs.Machine.{is_closed, may_enter, enterable}
use Rattle.optimum.specs.Routing.{no_tour, no_key}
use Rattle.machine.specs.States.{state_of}
use Rattle.machine.specs.declared.Method.{Method}
use Rattle.machine.specs.declared.Place.{Place}
use Rattle.demand.specs.Maps.{map_size, MapsAsked, MapsReady}
use Rattle.demand.proofs.Composition.{met_zero}
use Rattle.demand.proofs.Filling.{zero_at}
use Rattle.table.specs.declared.filling.Order.{Order}
use Rattle.aisles.specs.declared.layers.Aisle.{Aisle}
use Rattle.rows.specs.Rows.{numbers}
use Rattle.rows.specs.Pairs.{key_of, Holds}
use Rattle.rows.proofs.Keys.{packed_low, held_as}
use Rattle.between.specs.declared.Between.{Between}
use Rattle.between.specs.Between.{between_of}
use Rattle.between.proofs.Laws.{graded}
use Rattle.machine.specs.Tables.{asks_gap}
use Rattle.aisles.specs.Layers.{InRange, AisleReady, RowFilled}
use Rattle.table.specs.Crossings.{AfterFilled}
use Rattle.table.specs.TableHolds.{place_of, tried_at, OrderOf, aisle_of, RowHolds, AfterHolds, end_row}
use Rattle.aisles.proofs.Geometry.{within}
use Rattle.table.proofs.StepLaws.{entered}
use Rattle.table.proofs.TableValues.{below_weight, after_value, row_value}

-- the only closed state has the number 1
closed_code : (s : ℕ) → is_closed (state_of s) ≡ eqb s 1
closed_code zero = refl
closed_code (suc zero) = refl
closed_code (suc (suc zero)) = refl
closed_code (suc (suc (suc zero))) = refl
closed_code (suc (suc (suc (suc zero)))) = refl
closed_code (suc (suc (suc (suc (suc zero))))) = refl
closed_code (suc (suc (suc (suc (suc (suc zero)))))) = refl
closed_code (suc (suc (suc (suc (suc (suc (suc zero))))))) = refl
closed_code (suc (suc (suc (suc (suc (suc (suc (suc s)))))))) = sym (ne_eqb (suc (suc (suc (suc (suc (suc (suc (suc s)))))))) 1 (λ e. omega arith))

-- the place of the closed state with nothing lacking
end_place : (s q : ℕ) → s < 8 → eqb (q * 8 + s) 1 ≡ (eqb s 1 && eqb q 0)
end_place s q l = go (eqb s 1) refl (eqb q 0) refl
  where
    go : (a : Bool) → eqb s 1 ≡ a → (b : Bool) → eqb q 0 ≡ b → eqb (q * 8 + s) 1 ≡ (a && b)
    go true e true f = eq-eqb (q * 8 + s) 1 (omega (arith, eqb-true s 1 e, eqb-true q 0 f))
    go true e false f = ne_eqb (q * 8 + s) 1 (λ p. eqb-false q 0 f (omega (arith, eqb-true s 1 e)))
    go false e b f = ne_eqb (q * 8 + s) 1 (λ p. eqb-false s 1 e (omega arith))

-- the row behind the last aisle: its length
pub end_length : length end_row ≡ numbers
unfolding end_row
end_length = length-set (replicate numbers no_tour) 1 0 ∙ length-replicate numbers no_tour

-- and its numbers
end_at : (k : ℕ) → k < numbers → get_or end_row k 0 ≡ cond (eqb k 1) 0 no_tour
unfolding end_row
end_at k h = go (eqb k 1) refl
  where
    none : List ℕ
    none = replicate numbers no_tour

    go : (b : Bool) → eqb k 1 ≡ b → get_or (set none 1 0) k 0 ≡ cond b 0 no_tour
    go true e = ap (λ n. get_or (set none 1 0) n 0) (eqb-true k 1 e) ∙ get_or-set_same none 1 0 0 (omega (arith, length-replicate numbers no_tour))
    go false e = get_or-set_other none 1 k 0 0 (eqb-false k 1 e) ∙ get_or-replicate numbers k no_tour 0 h

-- with no aisle left there are no ones: the key is 0, or that of 'none'
end_key : (b : Bool) → Holds 0 (cond b 0 no_tour) 0 (cond b 0 no_key)
unfolding key_of
end_key true = record { sound = λ l. packed_low 0 0 (omega arith); same = omega (arith, ones-ones 0) }
end_key false = record { sound = λ l. absurd (omega arith); same = omega arith }

-- without ones beside it it holds the table's values with no aisle left
pub end_holds : (job : Job) → weight job.lines ≤ 256 → (j : ℕ) → RowHolds job 0 j end_row (replicate numbers 0)
end_holds job small j s q l h =
    let at = end_at (q * 8 + s) (omega arith) in
    let done = end_place s q l ∙ ap₂ ◌&&◌ (sym (closed_code s)) (sym (met_zero job q h)) in
    let test = eqb (q * 8 + s) 1 in
    held_as at (zero_at numbers (q * 8 + s)) (subst (λ b. Holds 0 (cond test 0 no_tour) 0 (cond b 0 no_key)) done (end_key test))

-- five passages are tried at most
pub tried_five : (n : ℕ) → tried_at n ≤ 5
tried_five zero = omega arith
tried_five (suc n) = omega arith

-- the numbers of an aisle of an admitted job are in range
aisle_range : (job : Job) → Admitted job → (j : ℕ) → InRange (aisle_of job j)
unfolding aisle_of
aisle_range job ok j =
    record {
      bounds = ok.layout;
      small = ok.light;
      few = tried_five (job.layout.aisles - j);
      graded = graded (asks_gap job.policy) job j (within job.layout ok.layout).cells.1;
    }

-- an aisle whose maps are filled is ready
pub aisle_ready : (job : Job) → Admitted job → (j : ℕ) (fronts backs : List ℕ) → MapsReady job j fronts backs
    → map_size ≤ length fronts → map_size ≤ length backs → AisleReady (aisle_of job j) fronts backs
unfolding aisle_of
aisle_ready job ok j fronts backs maps fronts_long backs_long =
    record {
      aisle = aisle_range job ok j;
      fronts_long = fronts_long;
      backs_long = backs_long;
      front_below = λ h q l w. subst (λ n. n < weight job.lines) (sym (maps.front h q l w)) (below_weight job j (Bottom h) q);
      back_below = λ i q l m w. subst (λ n. n < weight job.lines) (sym (maps.back i q l m w)) (below_weight job j (Top i) q);
    }

module _ (job : Job) (o : Order) (of : OrderOf job o) where
  -- the order's aisles are the job's
  pub order_aisles : o.layout.aisles ≡ job.layout.aisles
  order_aisles = ap (λ (z : Layout). z.aisles) of.layout

  -- its policy is the job's
  pub order_policy : o.method.policy ≡ job.policy
  order_policy = ap (λ (m : Method). m.policy) of.method

  pub order_few : o.layout.aisles ≤ 16
  order_few = omega (arith, order_aisles, (within job.layout of.admitted.layout).aisles.1)

  module _ (j : ℕ) (low : 1 ≤ j) (high : j ≤ o.layout.aisles) where
    -- the aisle is one of a store's, and so are its cells
    pub order_small : (o.layout.cells ≤ 24) × (1 ≤ j) × (j ≤ 16)
    order_small =
        let cells = (within job.layout of.admitted.layout).cells.1 in
        (omega (arith, ap (λ (z : Layout). z.cells) of.layout), low, omega (arith, order_few))

    -- what the maps of an aisle are made from
    pub maps_asked : MapsAsked job o.shelf o.digits o.layout.cells j
    maps_asked =
        record {
          admitted = of.admitted;
          shelf_of = of.shelf;
          digits_of = of.digits;
          cells_are = ap (λ (z : Layout). z.cells) of.layout;
          aisle = (low, omega (arith, order_aisles));
        }

    -- the shelf tells whether the aisle is open
    flag_open : get_or o.shelf.open (j - 1) false ≡ is_open job.hours j
    flag_open = of.shelf.open_at j low order_small.2

    -- a shut aisle may not be entered, an open one if the policy enters any or if it holds a listed article
    pub enter_shut : get_or o.shelf.open (j - 1) false ≡ false → enterable job j ≡ false
    enter_shut e = rw (sym flag_open ∙ e) refl

    pub enter_open : get_or o.shelf.open (j - 1) false ≡ true → (any : Bool) → any ≡ may_enter o.method.policy false
        → enterable job j ≡ (any || holds_listed job j)
    enter_open e any a =
        let known : any ≡ may_enter job.policy false = a ∙ ap (λ p. may_enter p false) order_policy in
        rw (sym flag_open ∙ e, known) (entered job.policy (holds_listed job j))

  -- the fields of an aisle, one by one
  pub aisle_is : (j tried : ℕ) (may : Bool) (place : Place) (b : Between) → may ≡ enterable job j → place ≡ place_of o.layout.depot j
      → tried ≡ tried_at (o.layout.aisles - j) → b ≡ between_of (asks_gap job.policy) job j
      → ◌≡◌ {A = Aisle}
      (record { layout = o.layout; method = o.method; may = may; weight = o.digits.weight; place = place; tried = tried; between = b })
      (aisle_of job j)
  unfolding aisle_of
  aisle_is j tried may place b may-is place-is tried-is b-is =
      rw (place-is, tried-is, may-is, of.method, of.digits.counted, of.layout, b-is) refl

-- an aisle of a job, given as such
module _ (job : Job) (j : ℕ) (x : Aisle) (x-is : x ≡ aisle_of job j) where
  abbrev right : ℕ
  right = job.layout.aisles - j

  pub same_aisles : x.layout.aisles ≡ job.layout.aisles
  unfolding aisle_of
  same_aisles = ap (λ (y : Aisle). y.layout.aisles) x-is

  pub same_weight : x.weight ≡ weight job.lines
  unfolding aisle_of
  same_weight = ap (λ (y : Aisle). y.weight) x-is

  -- the rows behind the actions, out of the rows of the next aisle
  pub behind_holds : right ≤ 16 → (after after-spared next next-spared : List ℕ) → RowHolds job right (suc j) next next-spared
      → AfterFilled x after after-spared next next-spared → AfterHolds job right j after after-spared
  behind_holds small after after-spared next next-spared holds filled =
      after_value job right j next next-spared holds refl small after after-spared (subst (λ (y : Aisle). AfterFilled y after after-spared next next-spared) x-is filled)

  module _ (ok : Admitted job) where
    pub in_range : InRange x
    in_range = subst InRange (sym x-is) (aisle_range job ok j)

    -- with its maps the aisle is ready
    pub ready : (fronts backs : List ℕ) → MapsReady job j fronts backs → map_size ≤ length fronts → map_size ≤ length backs → AisleReady x fronts backs
    ready fronts backs maps fronts_long backs_long =
        subst (λ y. AisleReady y fronts backs) (sym x-is) (aisle_ready job ok j fronts backs maps fronts_long backs_long)

    -- the rows of the aisle, out of the rows behind its actions
    pub layer_holds : right < 16 → (after after-spared fronts backs row row-spared : List ℕ) → MapsReady job j fronts backs → AfterHolds job right j after after-spared
        → RowFilled x row row-spared after after-spared fronts backs → RowHolds job (suc right) j row row-spared
    layer_holds room after after-spared fronts backs row row-spared maps holds filled =
        row_value job (within job.layout ok.layout).cells.1 ok.stock right j room after after-spared fronts backs row row-spared maps holds
        (subst (λ (y : Aisle). RowFilled y row row-spared after after-spared fronts backs) x-is filled)
