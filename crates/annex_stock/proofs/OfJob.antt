-- Stock that is a job's: what counts of it is the job's open stock, so the test is whether the plan serves the list.
use Rattle.std.specs.Prelude.{◌≡◌, List, [], ◌∷◌, Bool, true, cond, ◌&&◌, leb}
use Rattle.std.specs.List.{list_all}
use native.Mathlib.Omega.{arith}
use mathlib.Core.Path.{refl, sym, ap, ◌∙◌}
use mathlib.Core.Logic.{◌↔◌}
use mathlib.Core.List.{Memᴰ}
use Rattle.rules.specs.declared.StockRecord.{StockRecord}
use Rattle.rules.specs.declared.OrderLine.{OrderLine}
use Rattle.rules.specs.Hours.{is_open}
use Rattle.rules.specs.Jobs.{Job, open_stock}
use Rattle.rules.specs.Lists.{all_of, select}
use Rattle.rules.specs.Plans.{plan_passes}
use Rattle.rules.specs.Serving.{supply, serves, PlanServes}
use Rattle.rules.proofs.Serving.{serves_test}
use Rattle.values.specs.declared.PlanValue.{PlanValue}
use Rattle.values.specs.Values.{plan_of}
use Rattle.annex_stock.specs.declared.Stock.{Stock}
use Rattle.annex_stock.specs.Stocked.{Held, StockOf, all_supplied, counted, is_open_by}

-- two tests that agree on a list select the same
select_agree : {A : Type 0} (t u : A → Bool) (xs : List A) → ((x : A) → Memᴰ x xs → t x ≡ u x) → select t xs ≡ select u xs
select_agree t u [] same = refl
select_agree t u (x ∷ xs) same =
    rw (same x (Memᴰ.head refl)) (ap (λ ys. cond (u x) (x ∷ ys) ys) (select_agree t u xs (λ y m. same y (Memᴰ.tail m))))

-- the two words for "of each element"
each_of : {A : Type 0} (t : A → Bool) (xs : List A) → list_all t xs ≡ all_of t xs
each_of t [] = refl
each_of t (x ∷ xs) = ap (λ b. t x && b) (each_of t xs)

module _ (job : Job) (stock : Stock) (of_job : StockOf job stock) where
  -- what counts is the open stock
  counts : counted stock ≡ open_stock job
  counts =
      let open_alike : (r : StockRecord) → Memᴰ r job.stock → is_open_by stock.open r.aisle ≡ is_open job.hours r.aisle = λ r m. (
      let w = of_job.within r m in
      of_job.doors r.aisle w.aisle.0 (omega (arith, w.aisle.1, of_job.aisles))
      ) in
      ap (select (λ (r : StockRecord). is_open_by stock.open r.aisle)) of_job.records
      ∙ select_agree (λ (r : StockRecord). is_open_by stock.open r.aisle) (λ (r : StockRecord). is_open job.hours r.aisle) job.stock open_alike

  -- the test on the job's lines is that of the job
  pub tests : (lines : List OrderLine) (plan : PlanValue) → lines ≡ job.lines → all_supplied stock lines plan ≡ serves job (plan_passes (plan_of plan))
  unfolding serves
  tests lines plan same =
      each_of (λ (l : OrderLine). leb l.quantity (supply (plan_passes (plan_of plan)) (counted stock) l.article)) lines
      ∙ ap (all_of (λ (l : OrderLine). leb l.quantity (supply (plan_passes (plan_of plan)) (counted stock) l.article))) same
      ∙ ap (λ (rs : List StockRecord). all_of (λ (l : OrderLine). leb l.quantity (supply (plan_passes (plan_of plan)) rs l.article)) job.lines) counts

  -- so it tells whether the plan serves the list
  pub tells : (lines : List OrderLine) (plan : PlanValue) (r : Bool) → r ≡ all_supplied stock lines plan → lines ≡ job.lines → (r ≡ true) ↔ PlanServes job (plan_of plan)
  unfolding PlanServes
  tells lines plan r e same =
      let is : r ≡ serves job (plan_passes (plan_of plan)) = e ∙ tests lines plan same in
      let test = serves_test job (plan_passes (plan_of plan)) in
      (λ h. test.0 (sym is ∙ h), λ s. is ∙ test.1 s)

  -- the stock of the job may be asked of every plan of its store
  pub held_for : (plan : PlanValue) → plan.aisles ≡ job.layout.aisles → Held stock plan
  held_for plan same = record {
    few = rw of_job.records of_job.few;
    within = λ r m. (
        let w = of_job.within r (rw of_job.records at m) in
        (w.aisle.0, omega (arith, w.aisle.1, same), w.quantity.1)
        );
  }
