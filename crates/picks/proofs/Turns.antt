-- The turns of the loop over the cells: what the shelf and the plan say of a cell, and the invariant behind it.
use Prim.Native.Nat.{ℕ, zero, suc, ◌+◌, ◌*◌, ◌≤◌, ◌<◌}
use native.Mathlib.Omega.{arith}
use native.Mathlib.Numerals.{add-one}
use mathlib.Core.Path.{◌≡◌, refl, sym, ap, ◌∙◌}
use mathlib.Core.List.{List, [], ◌∷◌, ◌++◌, map}
use mathlib.Core.Option.{Option}
use Rattle.std.specs.Prelude.{Option as Line, Some, None, IfSome, unwrap_or}
use lib.ListN.{length, get_or, take, length-append, length-take}
use lib.Seq.{get_or-take}
use Rattle.rules.specs.declared.OrderLine.{OrderLine}
use Rattle.rules.specs.declared.StockRecord.{StockRecord}
use Rattle.rules.specs.declared.Pick.{Pick}
use Rattle.rules.specs.declared.Action.{Action}
use Rattle.rules.specs.declared.Action.TheVariants.{Void}
use Rattle.rules.specs.declared.Passage.TheVariants.{P00}
use Rattle.rules.specs.Lists.{nth}
use Rattle.rules.specs.Jobs.{Job, open_stock}
use Rattle.rules.specs.Plans.{action_at, passes_cell, plan_passes}
use Rattle.rules.specs.Picks.{record_at}
use Rattle.rules.proofs.Admission.{layout_within, list_within, articles_once}
use Rattle.values.specs.declared.Stage.{Stage}
use Rattle.values.specs.declared.PlanValue.{PlanValue}
use Rattle.values.specs.declared.Shelf.{Shelf}
use Rattle.values.specs.Values.{no_line, plan_of}
use Rattle.values.specs.Shelves.{line_of, quantity_of, cell_number}
use Rattle.picks.specs.Picking.{Asked, PickedAt, taken_of, given_at, pick_of}
use Rattle.shelves.proofs.Shelving.{few_below}
use Rattle.picks.proofs.Lines.{Lacking, line_there}
use Rattle.picks.proofs.Cells.{cell_at, cell_line, taken_at}
use Rattle.picks.proofs.Visits.{counted, Visited, visited_first, visited_turn, visited_none, visited_some}

-- a part of the first n elements, by number
nth_map : {A B : Type 0} (f : A → B) (xs : List A) (n j : ℕ) (d : A) → j < n → nth (map f (take n xs)) (suc j) (f d) ≡ f (get_or xs j d)
nth_map f xs zero j d l = absurd (omega arith)
nth_map f [] (suc n) j d l = refl
nth_map f (x ∷ xs) (suc n) zero d l = refl
nth_map f (x ∷ xs) (suc n) (suc j) d l = nth_map f xs n j d (omega arith)

-- the first elements, counted anew
take_counted : {A : Type 0} (n : ℕ) (xs : List A) → take n xs ≡ take (length (take n xs)) xs
take_counted zero xs = refl
take_counted (suc n) [] = refl
take_counted (suc n) (x ∷ xs) = ap (λ ys. x ∷ ys) (take_counted n xs)

-- the lines that do not count change nothing
taken_counted : (lacking : List OrderLine) (n : ℕ) (number : Line ℕ) (stock : ℕ) → IfSome number (λ k. k < n) → taken_of (take n lacking) number stock ≡ taken_of lacking number stock
taken_counted lacking n None stock l = refl
taken_counted lacking n (Some k) stock l = rw (get_or-take n lacking k no_line l)

-- a stage that is not there
abbrev pub no_stage : Stage
no_stage = record { action = Void; passage = P00 }

-- a place among the first n elements
pub in_front : {A : Type 0} (xs : List A) (n : ℕ) {ys : List A} {j : ℕ} → ys ≡ take n xs → j < length ys → j < n
in_front xs n e l = omega (arith, ap length e, length-take n xs)

-- the line of the cell behind j aisles and c cells, as the shelf has it, and what the cell gives by the plan
abbrev pub line_here : Shelf → ℕ → ℕ → Line ℕ
line_here shelf j c = get_or shelf.line (cell_number (j + 1) (c + 1)) None

abbrev pub given_here : Shelf → PlanValue → List OrderLine → ℕ → ℕ → ℕ
given_here shelf plan lacking j c = given_at shelf (get_or plan.stages j no_stage).action (j + 1) (c + 1) lacking

-- of a job that is asked
module _ {job : Job} {lines : List OrderLine} {cells : ℕ} {shelf : Shelf} {plan : PlanValue} (a : Asked job lines cells shelf plan) where
  pub asked_bounds : (plan.aisles ≤ 16) × (1 ≤ cells) × (cells ≤ 24)
  asked_bounds =
      let z = (layout_within job.layout).0 a.admitted.layout in
      (omega (arith, z.aisles, a.its_aisles), omega (arith, z.cells, a.its_cells), omega (arith, z.cells, a.its_cells))

  -- at first all of each line is lacking
  asked_lacking : Lacking job job.lines
  asked_lacking = record { once = (articles_once job).0 a.admitted.articles_once; count = refl; numbers = λ n. refl }

  pub asked_first : Visited job (plan_of plan) lines [] 0 0
  asked_first =
      let (n, e) = a.its_lines in
      visited_first job (plan_of plan) lines asked_lacking (e ∙ take_counted n lines ∙ rw e)

  module _ (j c : ℕ) (l : j < plan.aisles) (m : c < cells) where
    abbrev record_here : Option StockRecord
    record_here = record_at (open_stock job) (cell_at (suc j) (suc c))

    -- the shelf tells the cell's line and its stock
    line_here_lem : line_here shelf j c ≡ line_of job.lines record_here
    line_here_lem =
        rw (add-one, add-one) (a.its_shelf.line_at_lem (suc j) (suc c) (omega arith) (omega (arith, asked_bounds)) (omega arith) (omega (arith, asked_bounds)))

    stock_here_lem : get_or shelf.quantity (cell_number (j + 1) (c + 1)) 0 ≡ quantity_of record_here
    stock_here_lem =
        rw (add-one, add-one) (a.its_shelf.quantity_at (suc j) (suc c) (omega arith) (omega (arith, asked_bounds)) (omega arith) (omega (arith, asked_bounds)))

    line_counts : IfSome (line_here shelf j c) (λ k. k < length job.lines)
    line_counts = rw line_here_lem (go (line_of job.lines record_here) refl)
      where
        go : (number : Line ℕ) → line_of job.lines record_here ≡ number → IfSome number (λ k. k < length job.lines)
        go None e = tt
        go (Some k) e = (cell_line asked_lacking record_here k e).1.within

    pub line_below : IfSome (line_here shelf j c) (λ k. k < 8)
    line_below = few_below ((list_within job).0 a.admitted.list).count (line_here shelf j c) line_counts

    -- the stage tells whether the plan passes the cell
    stage_passes : plan_passes (plan_of plan) (suc j) (suc c) ≡ passes_cell (get_or plan.stages j no_stage).action (c + 1)
    unfolding plan_passes action_at plan_of
    stage_passes = rw add-one (ap (λ (x : Action). passes_cell x (suc c)) (nth_map (λ (s : Stage). s.action) plan.stages plan.aisles j no_stage l))

    -- so both tell what the cell gives
    given_here_lem : (lacking : List OrderLine) → taken_at job (counted job lacking) (plan_passes (plan_of plan) (suc j) (suc c)) record_here ≡ given_here shelf plan lacking j c
    given_here_lem lacking =
        rw (stage_passes, ← line_here_lem, ← stock_here_lem, taken_counted lacking (length job.lines) (line_here shelf j c) (get_or shelf.quantity (cell_number (j + 1) (c + 1)) 0) line_counts)

-- the loops' invariant: j aisles and c cells of the next are visited, for every job that is asked; at most one pick for each cell
pub record Walked (lines : List OrderLine) (cells : ℕ) (shelf : Shelf) (plan : PlanValue) (picks : List Pick) (lacking : List OrderLine) (j c : ℕ) : Type 0 where
  pub small : cells ≤ 24
  pub room : length picks ≤ j * 24 + c
  pub visited : (job : Job) → Asked job lines cells shelf plan → Visited job (plan_of plan) lacking picks j c

module _ {lines : List OrderLine} {cells : ℕ} {shelf : Shelf} {plan : PlanValue} {picks : List Pick} {lacking : List OrderLine} {j c : ℕ}
    (w : Walked lines cells shelf plan picks lacking j c) (l : j < plan.aisles) where
  -- behind the last cell of an aisle comes the next aisle
  pub walked_turn : c ≡ cells → Walked lines cells shelf plan picks lacking (j + 1) 0
  walked_turn e =
      record {
        small = w.small;
        room = omega (arith, w.room, w.small);
        visited = λ job a. rw add-one (visited_turn (w.visited job a) (omega (arith, a.its_aisles)) (e ∙ sym a.its_cells));
      }

  module _ (m : c < cells) where
    -- nothing is picked at the next cell
    pub walked_none : {left : List OrderLine} → PickedAt shelf (get_or plan.stages j no_stage).action (j + 1) (c + 1) lacking left None
        → Walked lines cells shelf plan picks left j (c + 1)
    walked_none p =
        rw p.1
        (record {
          small = w.small;
          room = omega (arith, w.room);
          visited =
              λ job a.
              rw add-one (visited_none (w.visited job a) (omega (arith, a.its_aisles)) (omega (arith, a.its_cells)) (given_here_lem a j c l m lacking ∙ p.0));
        })

    -- a pick is made there
    pub walked_some : {left : List OrderLine} {pick : Pick} → PickedAt shelf (get_or plan.stages j no_stage).action (j + 1) (c + 1) lacking left (Some pick)
        → Walked lines cells shelf plan (picks ++ (pick ∷ [])) left j (c + 1)
    walked_some p =
        let k = unwrap_or (line_here shelf j c) 0 in
        rw (p.1, p.2)
        (record {
          small = w.small;
          room = omega (arith, length-append picks (pick_of (j + 1) (c + 1) (get_or lacking k no_line) (given_here shelf plan lacking j c) ∷ []), w.room);
          visited =
              λ job a.
              let there : line_here shelf j c ≡ Some k = line_there (passes_cell (get_or plan.stages j no_stage).action (c + 1)) lacking (line_here shelf j c) _ p.0 in
              let is-line : line_of job.lines (record_at (open_stock job) (cell_at (suc j) (suc c))) ≡ Some k = sym (line_here_lem a j c l m) ∙ there in
              visited_some (w.visited job a) (omega (arith, a.its_aisles)) (omega (arith, a.its_cells)) k (given_here shelf plan lacking j c) is-line (given_here_lem a j c l m lacking) p.0;
        })
