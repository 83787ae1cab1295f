-- What a trace reads out of the table: the length where it stands, and the rows behind the next aisle.
use Prim.Native.Nat.{ℕ, suc, ◌+◌, ◌*◌, ◌-◌, ◌≤◌, ◌<◌}
use native.Mathlib.Omega.{arith}
use native.Mathlib.Numerals.{add-one}
use mathlib.Core.Path.{◌≡◌}
use mathlib.Core.List.{List}
use lib.ListN.{get_or}
use Rattle.rules.specs.Jobs.{Job}
use Rattle.rules.specs.Refusals.{weight}
use Rattle.table.specs.TableHolds.{TableFrom, NextHolds}
use Rattle.router.specs.declared.trace.Trace.{Trace}
use Rattle.router.specs.Tracing.{Traced, TraceAsked}

-- the table from a later aisle on
past : (job : Job) (j : ℕ) (work spared : List ℕ) → TableFrom job 1 work spared → TableFrom job (suc j) work spared
past job j work spared table i s q l = table i s q (omega (arith, l))

module _ (work spared : List ℕ) {job : Job} {n here : ℕ} {t : Trace} (small : weight job.lines ≤ 256) (table : TableFrom job 1 work spared)
    (traced : Traced job n t) (more : n < job.layout.aisles) (read : here ≡ get_or work (n * 2048 + t.at.demand * 8 + t.at.state) 0) where
  -- with the rows behind the next aisle the trace can go on
  pub asked : (aisles : ℕ) (next next-spared : List ℕ) → job.layout.aisles ≡ aisles → NextHolds aisles (n + 1) work spared next next-spared → TraceAsked job n t next next-spared here
  asked aisles next next-spared same rows =
      let s = t.at.state in
      let q = t.at.demand in
      let place : (suc n - 1) * 2048 + (q * 8 + s) ≡ n * 2048 + q * 8 + s = omega arith in
      let left : suc job.layout.aisles - suc n ≡ job.layout.aisles - n = omega arith in
      let entry = table (suc n) s q (omega arith) (omega arith) traced.state_below traced.demand_below in
      record {
        traced = traced;
        more = more;
        row = rw (← same, add-one n) at (rows job same small (past job (n + 1) work spared table));
        spared = get_or spared (n * 2048 + q * 8 + s) 0;
        held = rw read (rw (place, left) at entry);
      }
