-- Turned stock and turned plans: what a plan serves is served by the turned plan out of the turned stock.
use Prim.Native.Nat.{ℕ, suc, ◌-◌, ◌≤◌}
use mathlib.Core.Path.{◌≡◌, ◌∙◌, ap}
use mathlib.Core.Logic.{◌↔◌}
use mathlib.Core.List.{map, Memᴰ}
use mathlib.Core.Bool.{Bool, cond, ◌&&◌}
use native.Mathlib.Omega.{arith}
use lib.Dec.{eqb}
use Rattle.rules.specs.declared.Layout.{Layout}
use Rattle.rules.specs.declared.StockRecord.{StockRecord}
use Rattle.rules.specs.Lists.{sum_of, any_of}
use Rattle.rules.specs.Hours.{is_open}
use Rattle.rules.specs.Jobs.{Job, open_stock, listed, holds_listed, cell_holds_listed}
use Rattle.rules.specs.Plans.{Plan, WellFormed, plan_passes}
use Rattle.rules.specs.Serving.{supply, PlanServes, Serves}
use Rattle.rules.specs.Turned.{turned_height, turned_plan}
use Rattle.rules.proofs.Lists.{sum_map, sum_agree, any_map, any_agree, select_map}
use Rattle.rules.proofs.Admission.{open_in_stock}
use Rattle.mirror.specs.Turned.{turned_record, turned_into}
use Rattle.mirror.proofs.Tests.{eqb_agree}
use Rattle.mirror.proofs.Plans.{turned_plan_passes}

-- every record is of a cell of the store
abbrev pub InCells : Job → Type 0
InCells job = (r : StockRecord) → Memᴰ r job.stock → (1 ≤ r.cell) × (r.cell ≤ job.layout.cells)

module _ (job : Job) (y : Layout) where
  -- the turned stock that counts
  pub turned_open : open_stock (turned_into y job) ≡ map (turned_record job.layout.cells) (open_stock job)
  turned_open = select_map (λ (r : StockRecord). is_open job.hours r.aisle) (turned_record job.layout.cells) job.stock

  -- an aisle holds what it held
  pub turned_holds : (j : ℕ) → holds_listed (turned_into y job) j ≡ holds_listed job j
  unfolding holds_listed listed
  turned_holds j =
      let test : StockRecord → Bool = λ r. eqb r.aisle j && listed job r.article in
      ap (any_of test) turned_open ∙ any_map test (turned_record job.layout.cells) (open_stock job)

  module _ (within : InCells job) where
    -- a turned cell holds what the cell held
    pub turned_cell_holds : (j c : ℕ) → c ≤ suc job.layout.cells
        → cell_holds_listed (turned_into y job) j (turned_height job.layout.cells c) ≡ cell_holds_listed job j c
    unfolding cell_holds_listed listed
    turned_cell_holds j c h =
        ap (any_of (test (suc cells - c))) turned_open
        ∙ any_map (test (suc cells - c)) (turned_record cells) (open_stock job)
        ∙ any_agree (λ r. test (suc cells - c) (turned_record cells r)) (test c) (open_stock job) same
      where
        cells : ℕ
        cells = job.layout.cells

        test : ℕ → StockRecord → Bool
        test d r = eqb r.aisle j && eqb r.cell d && listed job r.article

        same : (r : StockRecord) → Memᴰ r (open_stock job) → test (suc cells - c) (turned_record cells r) ≡ test c r
        same r m =
            let w = within r (open_in_stock job r m) in
            let told = eqb_agree (suc cells - r.cell) (suc cells - c) r.cell c (λ e. omega arith) (λ e. omega arith) in
            ap (λ b. eqb r.aisle j && b && listed job r.article) told

    module _ (plan : Plan) (wf : WellFormed job.layout plan) where
      -- the turned plan passes as much
      turned_supply : (a : ℕ) → supply (plan_passes (turned_plan job.layout.cells plan)) (open_stock (turned_into y job)) a ≡ supply (plan_passes plan) (open_stock job) a
      unfolding supply
      turned_supply a =
          ap (sum_of (amount turned)) turned_open
          ∙ sum_map (amount turned) (turned_record job.layout.cells) (open_stock job)
          ∙ sum_agree (λ r. amount turned (turned_record job.layout.cells r)) (amount plan) (open_stock job) same
        where
          turned : Plan
          turned = turned_plan job.layout.cells plan

          amount : Plan → StockRecord → ℕ
          amount p r = cond (eqb r.article a && plan_passes p r.aisle r.cell) r.quantity 0

          same : (r : StockRecord) → Memᴰ r (open_stock job) → amount turned (turned_record job.layout.cells r) ≡ amount plan r
          same r m =
              let passed = turned_plan_passes job.layout.cells plan wf.fits r.aisle r.cell (within r (open_in_stock job r m)).1 in
              ap (λ b. cond (eqb r.article a && b) r.quantity 0) passed

      -- the turned plan serves the turned job just when the plan serves the job
      pub turned_serves : PlanServes job plan ↔ PlanServes (turned_into y job) (turned_plan job.layout.cells plan)
      unfolding PlanServes Serves
      turned_serves = (
        (λ s l m. rw (turned_supply l.article) (s l m)),
        (λ s l m. rw (← (turned_supply l.article)) (s l m)),
      )
