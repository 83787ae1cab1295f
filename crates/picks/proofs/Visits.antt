-- The loop over the cells: what is picked, and what the lines lack, after so many of them.
use Prim.Native.Nat.{ℕ, suc, ◌+◌, ◌≤◌, ◌<◌}
use native.Mathlib.Numerals.{add-one}
use native.Mathlib.Omega.{arith}
use mathlib.Core.Path.{◌≡◌, refl, sym, subst, ◌∙◌}
use mathlib.Core.List.{List, [], ◌∷◌, ◌++◌, append-nil, append_assoc}
use mathlib.Core.Bool.{Bool}
use mathlib.Core.Option.{Option}
use lib.ListN.{length, get_or, set, take}
use lib.Seq.{take-set-lt, get_or-take}
use Rattle.rules.specs.declared.OrderLine.{OrderLine}
use Rattle.rules.specs.declared.StockRecord.{StockRecord}
use Rattle.rules.specs.declared.Pick.{Pick}
use Rattle.rules.specs.Lists.{concat_of}
use Rattle.rules.specs.Store.{Point}
use Rattle.rules.specs.Jobs.{Job, open_stock}
use Rattle.rules.specs.Plans.{Plan, plan_passes}
use Rattle.rules.specs.Picks.{record_at, found, picks_from, passed_records, picks_of}
use Rattle.std.specs.Prelude.{Some}
use Rattle.values.specs.Shelves.{line_of}
use Rattle.values.specs.Values.{no_line}
use Rattle.picks.specs.Picking.{less_line, pick_of}
use Rattle.picks.proofs.Lines.{Lacking, lacking_less}
use Rattle.picks.proofs.Cells.{cell_at, cells_from, cells_first, cells_next, cells_turn, cells_end, cell_line, taken_at, nothing_taken, some_taken}

-- the record of a cell as a list, if the plan passes the cell and it has one
abbrev given_by : Job → Plan → Point → List StockRecord
given_by job plan x = found (plan_passes plan x.aisle x.height) (record_at (open_stock job) x)

-- the lines that count
abbrev pub counted : Job → List OrderLine → List OrderLine
counted job lines = take (length job.lines) lines

-- j aisles and c cells of the next are visited: the picks listed, with those from the cells left, are all
pub record Visited (job : Job) (plan : Plan) (lacking : List OrderLine) (picks : List Pick) (j c : ℕ) : Type 0 where
  pub left : Lacking job (counted job lacking)
  pub all : picks ++ picks_from (counted job lacking) (concat_of (given_by job plan) (cells_from job.layout j c)) ≡ picks_of job plan

-- at first
pub visited_first : (job : Job) (plan : Plan) (lines : List OrderLine) → Lacking job job.lines → job.lines ≡ counted job lines → Visited job plan lines [] 0 0
unfolding picks_of passed_records
visited_first job plan lines ok e =
    record {
      left = subst (Lacking job) e ok;
      all = rw (← e, ← cells_first job.layout);
    }

module _ {job : Job} {plan : Plan} {lacking : List OrderLine} {picks : List Pick} {j c : ℕ} (v : Visited job plan lacking picks j c) where
  -- in the end
  pub visited_all : job.layout.aisles ≤ j → picks ≡ picks_of job plan
  visited_all l = sym (append-nil (picks)) ∙ rw (cells_end job.layout j c l) at v.all

  module _ (l : j < job.layout.aisles) where
    -- from aisle to aisle
    pub visited_turn : c ≡ job.layout.cells → Visited job plan lacking picks (suc j) 0
    visited_turn e = record { left = v.left; all = rw (← cells_turn job.layout j l c e) v.all }

    module _ (m : c < job.layout.cells) where
      -- the record of the cell, and what it has
      abbrev here : Option StockRecord
      here = record_at (open_stock job) (cell_at (suc j) (suc c))

      abbrev passed : Bool
      passed = plan_passes plan (suc j) (suc c)

      rest : List StockRecord
      rest = concat_of (given_by job plan) (cells_from job.layout j (suc c))

      next : picks ++ picks_from (counted job lacking) (found passed here ++ rest) ≡ picks_of job plan
      unfolding rest
      next = rw (cells_next job.layout j l c m) at v.all

      -- a cell from which nothing is taken
      pub visited_none : taken_at job (counted job lacking) passed here ≡ 0 → Visited job plan lacking picks j (suc c)
      unfolding rest
      visited_none e = record { left = v.left; all = rw (← nothing_taken v.left passed here rest e) next }

      -- a cell from which t is taken for line k
      pub visited_some : (k t : ℕ) → line_of job.lines here ≡ Some k → taken_at job (counted job lacking) passed here ≡ t → 0 < t
          → Visited job plan (set lacking k (less_line t (get_or lacking k no_line))) (picks ++ (pick_of (j + 1) (c + 1) (get_or lacking k no_line) t ∷ [])) j (c + 1)
      unfolding rest
      visited_some k t e f g =
          let n = length job.lines in
          let (a, line) = cell_line v.left here k e in
          let k-counts : k < n = omega (arith, line.within, v.left.count) in
          let same : get_or (counted job lacking) k no_line ≡ get_or lacking k no_line = get_or-take n lacking k no_line k-counts in
          let fewer : set (counted job lacking) k (less_line t (get_or (counted job lacking) k no_line)) ≡ counted job (set lacking k (less_line t (get_or lacking k no_line))) =
          rw same (sym (take-set-lt n lacking k (less_line t (get_or lacking k no_line)) k-counts))
          in
          simp add-one
          (record {
            left = subst (Lacking job) (line.less t ∙ fewer) (lacking_less v.left a t);
            all = rw (append_assoc, ← fewer, ← same, ← some_taken v.left passed here (suc j) (suc c) k t rest refl e f g) next;
          })
