-- The sheet of every admitted job fits 16,384 bytes.
use Prim.Native.Nat.{ℕ, zero, suc, ◌+◌, ◌*◌, ◌≤◌, ◌<◌}
use native.Mathlib.Omega.{arith}
use mathlib.Core.Path.{◌≡◌, refl, sym, ap, ◌∙◌}
use mathlib.Core.List.Memᴰ
use mathlib.Core.List.{List, [], ◌∷◌, map, Memᴰ}
use mathlib.Core.Logic.{◌⊎◌, inl, inr}
use mathlib.Core.Bool.{Bool, true, false, cond, ◌&&◌}
use mathlib.Core.Option.{Option, none, some}
use lib.Dec.{eqb}
use lib.ListN.{length, length-append, length-map}
use borrow.Author.Tests.{lt-ltb}
use Rattle.rules.specs.declared.Layout.{Layout}
use Rattle.rules.specs.declared.Policy.{Policy}
use Rattle.rules.specs.declared.Policy.TheVariants.{Exact, Return, Traversal, Midpoint, Composite, Largest}
use Rattle.rules.specs.declared.Action.{Action}
use Rattle.rules.specs.declared.Action.TheVariants.{Void, Bottom, Top, Gap, Once, Twice}
use Rattle.rules.specs.declared.Passage.{Passage}
use Rattle.rules.specs.declared.StockRecord.{StockRecord}
use Rattle.rules.specs.declared.OrderLine.{OrderLine}
use Rattle.rules.specs.declared.Pick.{Pick}
use Rattle.rules.specs.declared.Run.{Run}
use Rattle.rules.specs.declared.Direction.{Direction}
use Rattle.rules.specs.Lists.{from, concat_of, sum_of, first_of}
use Rattle.rules.specs.Store.{Point, LayoutWithin}
use Rattle.rules.specs.Jobs.{Job, open_stock}
use Rattle.rules.specs.Plans.{Plan, plan_passes, plan_length, Fits, WellFormed}
use Rattle.rules.specs.Walks.{Walk, letter_rank}
use Rattle.rules.specs.FirstWalk.{first_walk}
use Rattle.rules.specs.Picks.{cells_of, record_at, found, less_of, taken, add_pick, picks_from, passed_records, picks_of}
use Rattle.rules.specs.Refusals.{Admitted}
use Rattle.rules.specs.JobFile.{space, line_feed, numeral, field, policy_word, section_text}
use Rattle.rules.specs.Sheet.{letter_t, letter_a, letter_c, letter_p, letter_w, action_text, passage_text, pick_text, run_text, add_step, runs_of, sheet_of}
use Rattle.rules.proofs.Lists.{sum_below, member_concat, concat_length, length_from}
use Rattle.rules.proofs.Numbers.{numeral_induction}
use Rattle.rules.proofs.Lengths.{well_formed_fits}
use Rattle.rules.proofs.Ceiling.{plan_length_57280}
use Rattle.rules.proofs.Admission.{layout_within, stock_within, open_in_stock}
use Rattle.lines.proofs.Sizes.{digits_most, field_size, header_size, run_size, total_size, pick_size}

-- if each of them is bounded
concat_most : {A B : Type 0} (f : A → List B) (b : ℕ) (xs : List A) → ((x : A) → length (f x) ≤ b) → length (concat_of f xs) ≤ length xs * b
concat_most f b xs h = rw (concat_length f xs) (sum_below (λ x. length (f x)) b xs (λ x _. h x))

-- a section: its first line and its lines
section_length : {A : Type 0} (letter : ℕ) (f : A → List ℕ) (xs : List A) → length (section_text letter f xs) ≡ 3 + length (numeral (length xs)) + sum_of (λ x. length (f x)) xs
unfolding section_text
section_length letter f xs = rw (length-append, header_size letter (length xs), concat_length f xs)

-- a section whose lines are bounded
section_most : {A : Type 0} (letter : ℕ) (f : A → List ℕ) (xs : List A) (b : ℕ) → ((x : A) → Memᴰ x xs → length (f x) ≤ b) → length xs < 1000
    → length (section_text letter f xs) ≤ 6 + length xs * b
section_most letter f xs b h l =
    omega (arith, section_length letter f xs, digits_most 2 (length xs) l, sum_below (λ x. length (f x)) b xs h)

policy_most : (policy : Policy) → length (policy_word policy) ≤ 9
policy_most Exact = omega arith
policy_most Return = omega arith
policy_most Traversal = omega arith
policy_most Midpoint = omega arith
policy_most Composite = omega arith
policy_most Largest = omega arith

-- an action of an aisle of 24 cells at most
action_most : (n : ℕ) → n ≤ 24 → (a : Action) → Fits n a → length (action_text a) ≤ 10
action_most n l Void f = omega arith
action_most n l (Bottom i) f = omega (arith, field_size line_feed i, digits_most 1 i (omega arith))
action_most n l (Top i) f = omega (arith, field_size line_feed i, digits_most 1 i (omega arith))
action_most n l (Gap h i) f = omega (arith, length-append (field space h) (field line_feed i), field_size space h, field_size line_feed i, digits_most 1 h (omega arith), digits_most 1 i (omega arith))
action_most n l Once f = omega arith
action_most n l Twice f = omega arith

passage_three : (p : Passage) → length (passage_text p) ≤ 3
unfolding passage_text
passage_three p = omega arith

-- a pick of so many from a record
abbrev pick_of : StockRecord → ℕ → Pick
pick_of r n = record { aisle = r.aisle; cell = r.cell; article = r.article; quantity = n }

-- a pick from one of the records, of which no more is taken than there is
record Drawn (p : Pick) (rs : List StockRecord) : Type 0 where
  source : StockRecord
  member : Memᴰ source rs
  aisle : p.aisle ≡ source.aisle
  cell : p.cell ≡ source.cell
  article : p.article ≡ source.article
  quantity : p.quantity ≤ source.quantity

drawn : (lacking : List OrderLine) (rs : List StockRecord) (p : Pick) → Memᴰ p (picks_from lacking rs) → Drawn p rs
unfolding taken
drawn lacking [] p m = absurd (Memᴰ.not-nil m)
drawn lacking (r ∷ rs) p m =
    go (taken lacking r) (picks_from (less_of r.article (taken lacking r) lacking) rs) (omega arith) m (drawn (less_of r.article (taken lacking r) lacking) rs p)
  where
    later : Drawn p rs → Drawn p (r ∷ rs)
    later d =
        record { source = d.source; member = Memᴰ.tail d.member; aisle = d.aisle; cell = d.cell; article = d.article; quantity = d.quantity }

    first : (n : ℕ) (picks : List Pick) → n ≤ r.quantity → (p ≡ pick_of r n) ⊎ Memᴰ p picks → (Memᴰ p picks → Drawn p rs) → Drawn p (r ∷ rs)
    first n picks l (inl e) rest =
        record {
          source = r;
          member = Memᴰ.head refl;
          aisle = ap (λ (x : Pick). x.aisle) e;
          cell = ap (λ (x : Pick). x.cell) e;
          article = ap (λ (x : Pick). x.article) e;
          quantity = omega (arith, ap (λ (x : Pick). x.quantity) e);
        }
    first n picks l (inr k) rest = later (rest k)

    go : (n : ℕ) (picks : List Pick) → n ≤ r.quantity → Memᴰ p (add_pick r n picks) → (Memᴰ p picks → Drawn p rs) → Drawn p (r ∷ rs)
    go zero picks l q rest = later (rest q)
    go (suc n) picks l q rest = first (suc n) picks l (Memᴰ.cases_cons (rw (lt-ltb 0 (suc n) (omega arith)) at q)) rest

-- a record found is one of the stock
first_member : (t : StockRecord → Bool) (xs : List StockRecord) (r : StockRecord) → first_of t xs ≡ some r → Memᴰ r xs
first_member t [] r e = let z : ◌≡◌ {A = ℕ} 0 1 = cc in absurd (omega arith)
first_member t (x ∷ xs) r e = go (t x) e (first_member t xs r)
  where
    go : (b : Bool) → cond b (some x) (first_of t xs) ≡ some r → (first_of t xs ≡ some r → Memᴰ r xs) → Memᴰ r (x ∷ xs)
    go true q rest = let e : r ≡ x = cc in Memᴰ.head e
    go false q rest = Memᴰ.tail (rest q)

found_some : (b : Bool) (o : Option StockRecord) (r : StockRecord) → Memᴰ r (found b o) → o ≡ some r
found_some b none r m = absurd (Memᴰ.not-nil m)
found_some true (some s) r m = ap some (sym (Memᴰ.eq_of_singleton m))
found_some false (some s) r m = absurd (Memᴰ.not-nil m)

passed_member : (job : Job) (plan : Plan) (r : StockRecord) → Memᴰ r (passed_records job plan) → Memᴰ r (open_stock job)
unfolding passed_records record_at
passed_member job plan r m =
    let q = member_concat (λ (x : Point). found (plan_passes plan x.aisle x.height) (record_at (open_stock job) x)) (cells_of job.layout) m in
    let x = q.0 in
    let there = found_some (plan_passes plan x.aisle x.height) (record_at (open_stock job) x) r q.2 in
    first_member (λ (s : StockRecord). eqb s.aisle x.aisle && eqb s.cell x.height) (open_stock job) r there

-- at most one pick for each passed record
picks_count : (lacking : List OrderLine) (rs : List StockRecord) → length (picks_from lacking rs) ≤ length rs
picks_count lacking [] = omega arith
picks_count lacking (r ∷ rs) = go (taken lacking r) (picks_from (less_of r.article (taken lacking r) lacking) rs) (picks_count (less_of r.article (taken lacking r) lacking) rs)
  where
    go : (n : ℕ) (picks : List Pick) → length picks ≤ length rs → length (add_pick r n picks) ≤ suc (length rs)
    go zero picks h = omega arith
    go (suc n) picks h = rw (lt-ltb 0 (suc n) (omega arith)) (omega arith)

-- at most one passed record for each cell
found_most : (b : Bool) (o : Option StockRecord) → length (found b o) ≤ 1
found_most b none = omega arith
found_most true (some r) = omega arith
found_most false (some r) = omega arith

-- at most 384 cells
cells_most : (z : Layout) → LayoutWithin z → length (cells_of z) ≤ 384
unfolding cells_of
cells_most z w = omega (arith, concat_most row 24 (from 1 z.aisles) row_most, length_from 1 z.aisles, w.aisles)
  where
    cell : ℕ → ℕ → Point
    cell j c = record { aisle = j; height = c }

    row : ℕ → List Point
    row j = map (cell j) (from 1 z.cells)

    row_most : (j : ℕ) → length (row j) ≤ 24
    row_most j = omega (arith, length-map (from 1 z.cells) (cell j), length_from 1 z.cells, w.cells)

-- so a job has at most 384 picks
picks_most : (job : Job) (plan : Plan) → LayoutWithin job.layout → length (picks_of job plan) ≤ 384
unfolding picks_of passed_records
picks_most job plan w =
    let given : Point → List StockRecord = λ x. found (plan_passes plan x.aisle x.height) (record_at (open_stock job) x) in
    let records = concat_most given 1 (cells_of job.layout) (λ x. found_most (plan_passes plan x.aisle x.height) (record_at (open_stock job) x)) in
    omega (arith, picks_count job.lines (passed_records job plan), records, cells_most job.layout w)

-- a pick's line
pick_most : (job : Job) (plan : Plan) → Admitted job → (p : Pick) → Memᴰ p (picks_of job plan) → length (pick_text p) ≤ 16
unfolding picks_of
pick_most job plan ok p m =
    let d = drawn job.lines (passed_records job plan) p m in
    let source_in = open_in_stock job d.source (passed_member job plan d.source d.member) in
    let w = ((stock_within job).0 ok.stock).records d.source source_in in
    let z = (layout_within job.layout).0 ok.layout in
    let aisle = digits_most 1 p.aisle (omega (arith, d.aisle, w.aisle, z.aisles)) in
    let cell = digits_most 1 p.cell (omega (arith, d.cell, w.cell, z.cells)) in
    let article = digits_most 4 p.article (omega (arith, d.article, w.article)) in
    let quantity = digits_most 2 p.quantity (omega (arith, d.quantity, w.quantity)) in
    omega (arith, pick_size p, aisle, cell, article, quantity)

-- a number has at most as many digits as it counts
digits_below : (n : ℕ) → 1 ≤ n → length (numeral n) ≤ n
digits_below = numeral_induction (λ (n : ℕ) (s : List ℕ). 1 ≤ n → length s ≤ n) (λ n h l. l) (λ n s h p l. rw length-append (omega (arith, p (omega arith))))

-- a step before a run, in the same direction or in another
abbrev stepped : Bool → Direction → Run → List Run → List Run
stepped same d r rs = cond same (record { direction = d; steps = suc r.steps } ∷ rs) (record { direction = d; steps = 1 } ∷ r ∷ rs)

-- the runs of a walk: each has a step, and their steps are those of the walk
runs_steps : (walk : Walk) → sum_of (λ (r : Run). r.steps) (runs_of walk) ≡ length walk
runs_steps [] = refl
runs_steps (d ∷ ds) = more (runs_of ds) ∙ ap suc (runs_steps ds)
  where
    more : (rs : List Run) → sum_of (λ (r : Run). r.steps) (add_step d rs) ≡ suc (sum_of (λ (r : Run). r.steps) rs)
    more [] = omega arith
    more (r ∷ rs) =
        elim (eqb (letter_rank d) (letter_rank r.direction)) as
        (λ (b : Bool). sum_of (λ (s : Run). s.steps) (stepped b d r rs) ≡ suc (r.steps + sum_of (λ (s : Run). s.steps) rs))
        [ true ↦ omega arith | false ↦ omega arith ]

abbrev Stepped : List Run → Type 0
Stepped [] = Unit {0}
Stepped (r ∷ rs) = (1 ≤ r.steps) × Stepped rs

runs_stepped : (walk : Walk) → Stepped (runs_of walk)
runs_stepped [] = tt
runs_stepped (d ∷ ds) = more (runs_of ds) (runs_stepped ds)
  where
    more : (rs : List Run) → Stepped rs → Stepped (add_step d rs)
    more [] s = (omega arith, tt)
    more (r ∷ rs) s =
        elim (eqb (letter_rank d) (letter_rank r.direction)) as (λ (b : Bool). Stepped (stepped b d r rs))
        [ true ↦ (omega arith, s.1) | false ↦ (omega arith, s) ]

-- so there is at most one run for each step, and their lines have at most four bytes for each
steps_most : (rs : List Run) → Stepped rs → (length rs ≤ sum_of (λ (r : Run). r.steps) rs) × (sum_of (λ (r : Run). length (run_text r)) rs ≤ 4 * sum_of (λ (r : Run). r.steps) rs)
steps_most [] s = (omega arith, omega arith)
steps_most (r ∷ rs) s =
    let rest = steps_most rs s.1 in
    (omega (arith, rest.0, s.0), omega (arith, rest.1, run_size r, digits_below r.steps s.0, s.0))

-- the W section of a walk of at most 860 steps
walk_fits : (walk : Walk) → length walk ≤ 860 → length (section_text letter_w run_text (runs_of walk)) ≤ 3446
walk_fits walk l =
    let most = steps_most (runs_of walk) (runs_stepped walk) in
    omega (arith, section_length letter_w run_text (runs_of walk), runs_steps walk, most.0, most.1, digits_most 2 (length (runs_of walk)) (omega (arith, runs_steps walk, most.0)))

-- the sheet of an admitted job with a plan of its store whose walk has at most 860 steps has at most 16,384 bytes
pub sheet_fits : (job : Job) (plan : Plan) → Admitted job → WellFormed job.layout plan → length (first_walk job.layout plan) ≤ 860 → length (sheet_of job plan) ≤ 16384
unfolding sheet_of
sheet_fits job plan ok w l =
    let z = (layout_within job.layout).0 ok.layout in
    let n = plan_length job.layout plan in
    let t = total_size n job.policy in
    let total = digits_most 4 n (omega (arith, plan_length_57280 job.layout plan ok.layout w)) in
    let action-line : (a : Action) → Memᴰ a plan.actions → length (action_text a) ≤ 10 =
    λ a m. action_most job.layout.cells z.cells.1 a (well_formed_fits job.layout plan w a m)
    in
    let actions = section_most letter_a action_text plan.actions 10 action-line (omega (arith, w.aisles, z.aisles)) in
    let passages = section_most letter_c passage_text plan.passages 3 (λ p m. passage_three p) (omega (arith, w.passages, z.aisles)) in
    let picks = section_most letter_p pick_text (picks_of job plan) 16 (pick_most job plan ok) (omega (arith, picks_most job plan z)) in
    let walk = walk_fits (first_walk job.layout plan) l in
    let first = header_size letter_t 1 in
    simp length-append
    (omega (arith, first, digits_most 0 1 (omega arith), t, total, policy_most job.policy, actions, passages, picks, picks_most job plan z, walk, w.aisles, w.passages, z.aisles))
