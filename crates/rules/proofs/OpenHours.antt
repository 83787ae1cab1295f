-- Jobs that are alike (#106): without the sections where every aisle is open; without the records of shut aisles; and under every policy
-- but EXACT without these records and without the sections.
use Prim.Native.Nat.{ℕ, ◌+◌, ◌≤◌}
use native.Mathlib.Omega.{arith}
use mathlib.Core.Path.{◌≡◌, refl, sym, ◌∙◌, ap, ap₂, fun_ext}
use mathlib.Core.List.{List, [], ◌∷◌}
use mathlib.Core.Option.{none, some}
use mathlib.Core.Bool.{Bool, true, false, cond, ◌&&◌, true≢false}
use borrow.Author.Tests.{ne_eqb}
use lib.Dec.{leb, eqb}
use lib.ListN.{length, take, drop}
use Rattle.rules.specs.declared.Policy.{Policy}
use Rattle.rules.specs.declared.Policy.TheVariants.{Exact, Return, Traversal, Midpoint, Composite, Largest}
use Rattle.rules.specs.declared.StockRecord.{StockRecord}
use Rattle.rules.specs.declared.OrderLine.{OrderLine}
use Rattle.rules.specs.Lists.{from, sum_of, any_of, any_two, select, head_or}
use Rattle.rules.specs.Hours.{Hours, NoHours, At, of_aisle, open_at, is_open, HoursWithin}
use Rattle.rules.specs.Jobs.{Job, job_with_stock, job_with_hours, open_stock, listed, holds_listed}
use Rattle.rules.specs.Machine.{may_enter, enterable}
use Rattle.rules.specs.Refusals.{same_cell, record_in_bounds, stock_in_bounds, first_row, job_rows, job_refusal, StockWithin}
use Rattle.rules.specs.Looked.{first_hold, looked_for, tested_lines, looked, stock_tested, looked_on}
use Rattle.rules.proofs.Lists.{any_false, select_implied, select_all, sorted_select, no_two_alike, length_select}
use Rattle.rules.proofs.Admission.{stock_within, hours_within, open_in_stock}
use Rattle.rules.proofs.Jobs.{shut_holds_nothing}
use Rattle.rules.proofs.Looked.{held, first_held}
use Rattle.rules.proofs.OpenAlike.{changed, Alike, same_rows}

-- an aisle that no window can have is open
beyond_open : (m : ℕ) (hours : Hours) → HoursWithin m hours → (j : ℕ) → ((1 ≤ j) × (j ≤ m) → ⊥) → is_open hours j ≡ true
unfolding open_at
beyond_open m NoHours h j out = refl
beyond_open m (At t windows) h j out =
    let none : any_of (of_aisle j) windows ≡ false
    = (any_false (of_aisle j) windows).1 (λ w n. ne_eqb w.aisle j (λ e. out (let b = (h.2 w n).aisle in omega arith))) in
    rw none refl

module _ (job : Job) where
  -- the records of aisle j with a listed article
  abbrev holds_in : ℕ → StockRecord → Bool
  holds_in j r = eqb r.aisle j && listed job r.article

  -- where every aisle of the store is open, so is every other
  module _ (h : HoursWithin job.layout.aisles job.hours) (opens : (j : ℕ) → 1 ≤ j → j ≤ job.layout.aisles → is_open job.hours j ≡ true) where
    every_open : (j : ℕ) → is_open job.hours j ≡ true
    every_open j = go (is_open job.hours j) refl
      where
        go : (b : Bool) → is_open job.hours j ≡ b → is_open job.hours j ≡ true
        go true e = e
        go false e = beyond_open job.layout.aisles job.hours h j (λ in_store_lem. true≢false (sym (opens j in_store_lem.0 in_store_lem.1) ∙ e))

    -- the job without the sections
    abbrev plain : Job
    plain = job_with_hours NoHours job

    -- it is alike
    pub open_alike : Alike job job.stock NoHours
    unfolding holds_listed listed
    open_alike =
        let whole = select_all (λ (r : StockRecord). is_open job.hours r.aisle) job.stock (λ r m. every_open r.aisle) in
        let counts = select_all (λ (r : StockRecord). true) job.stock (λ r m. refl) ∙ sym whole in
        record { counts = counts; enters = λ j. rw (every_open j) (ap (λ stock. may_enter job.policy (any_of (holds_in j) stock)) counts) }

    -- each record holds the same, so the same first records are enough for a line
    same_holds : first_hold plain ≡ first_hold job
    unfolding first_hold
    same_holds =
        fun_ext (λ l. fun_ext (λ n.
        let a = l.article in
        let held-alike : held NoHours a ≡ held job.hours a = fun_ext (λ r. rw (every_open r.aisle) refl) in
        let sums = ap (λ counts. sum_of counts (take n job.stock)) held-alike in
        ap (leb l.quantity) (first_held plain a n ∙ sums ∙ sym (first_held job a n))))

    -- and the stock test looks at the same lines, and at as many records for each
    same_tested : (lines : List OrderLine) → tested_lines plain lines ≡ tested_lines job lines
    same_tested [] = refl
    same_tested (l ∷ lines) =
        ap₂ (λ b rest. l ∷ cond b rest []) (ap (λ enough. enough l (length job.stock)) same_holds) (same_tested lines)

    same_looked : looked plain ≡ looked job
    unfolding looked looked_for
    same_looked =
        let all = length job.stock in
        let records : (OrderLine → ℕ → Bool) → OrderLine → ℕ = λ enough l. head_or all (select (enough l) (from 0 (all + 1))) in
        ap₂ (λ enough lines. sum_of (records enough) lines) same_holds (same_tested job.lines)

    -- so the number of the job is the same, or neither has one
    pub open_looked : looked_on plain ≡ looked_on job
    unfolding looked_on job_refusal job_rows stock_in_bounds record_in_bounds
    open_looked =
        let timely = sym ((hours_within job.layout.aisles job.hours).1 h) in
        let rows = same_rows job job.stock NoHours open_alike refl refl timely [] [] in
        ap₂ (λ t n. cond (stock_tested (first_row (take 8 (drop 2 t)))) (some n) none) rows same_looked

  -- the records of shut aisles left out, the same stock counts
  gone_counts : open_stock (job_with_stock (open_stock job) job) ≡ open_stock job
  gone_counts =
      let counted : StockRecord → Bool = λ r. is_open job.hours r.aisle in
      select_implied counted counted (λ r e. e) job.stock

  -- so the job without them is alike
  pub gone_alike : Alike job (open_stock job) job.hours
  unfolding holds_listed listed
  gone_alike =
      record {
        counts = gone_counts;
        enters = λ j. ap (λ stock. is_open job.hours j && may_enter job.policy (any_of (holds_in j) stock)) gone_counts;
      }

  -- a policy that is not EXACT enters no aisle that holds nothing listed
  holding_only : (policy : Policy) → (policy ≡ Exact → ⊥) → may_enter policy false ≡ false
  holding_only Exact other = absurd (other refl)
  holding_only Return other = refl
  holding_only Traversal other = refl
  holding_only Midpoint other = refl
  holding_only Composite other = refl
  holding_only Largest other = refl

  -- and under such a policy the job without the sections too: a shut aisle holds nothing, so it is not entered
  pub plain_alike : (job.policy ≡ Exact → ⊥) → Alike job (open_stock job) NoHours
  unfolding holds_listed listed
  plain_alike other = record { counts = counts; enters = λ j. enters j (is_open job.hours j) refl }
    where
      counts : open_stock (changed job (open_stock job) NoHours) ≡ open_stock job
      counts = select_all (λ (r : StockRecord). true) (open_stock job) (λ r m. refl)

      enters : (j : ℕ) (b : Bool) → is_open job.hours j ≡ b
          → enterable (changed job (open_stock job) NoHours) j ≡ b && may_enter job.policy (holds_listed job j)
      enters j true e = ap (λ stock. may_enter job.policy (any_of (holds_in j) stock)) counts
      enters j false e =
          ap (λ stock. may_enter job.policy (any_of (holds_in j) stock)) counts
          ∙ ap (may_enter job.policy) (shut_holds_nothing job j e) ∙ holding_only job.policy other

  -- without them the stock is within its bounds as before, and no cell has two records
  pub gone_bounds : (hours : Hours) → StockWithin job → stock_in_bounds (changed job (open_stock job) hours) ≡ true
  gone_bounds hours s =
      (stock_within (changed job (open_stock job) hours)).1
      (record {
        count = omega (arith, s.count, length_select (λ (r : StockRecord). is_open job.hours r.aisle) job.stock);
        records = λ r m. s.records r (open_in_stock job r m);
      })

  pub gone_once : any_two same_cell job.stock ≡ false → any_two same_cell (open_stock job) ≡ false
  gone_once e =
      (no_two_alike same_cell (open_stock job)).1
      (sorted_select _ (λ (r : StockRecord). is_open job.hours r.aisle) job.stock ((no_two_alike same_cell job.stock).0 e))
