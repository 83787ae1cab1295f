-- Document 02, request #103, "The clipboard page": a line for each pick, in the order of the walk.
use Rattle.std.specs.Prelude.{ℕ, ◌-◌, ◌≤◌, ◌<◌, ◌≡◌, List, [], ◌∷◌, ◌++◌, Bool, not, length, replicate}
use Rattle.rules.specs.declared.Layout.{Layout}
use Rattle.rules.specs.declared.Pick.{Pick}
use Rattle.rules.specs.Lists.{concat_of, select, nth}
use Rattle.rules.specs.Store.{Point, depot_point, same_point}
use Rattle.rules.specs.Jobs.{Job}
use Rattle.rules.specs.JobFile.{space, line_feed, numeral}
use Rattle.rules.specs.Plans.{Plan}
use Rattle.rules.specs.BestPlan.{best_plan}
use Rattle.rules.specs.Picks.{picks_of}
use Rattle.rules.specs.Walks.{Walk, walk_points}
use Rattle.rules.specs.FirstWalk.{first_walk}

-- a hyphen stands between aisle and cell
abbrev pub hyphen : ℕ
hyphen = 45

-- full stops lead to the article
abbrev pub full_stop : ℕ
full_stop = 46

-- a number right-aligned in so many bytes, with spaces in front
unfoldable pub aligned : ℕ → ℕ → List ℕ
aligned width n = replicate (width - length (numeral n)) space ++ numeral n

-- a column of the page: a number, right-aligned, and the bytes behind it
unfoldable pub column : ℕ → ℕ → List ℕ → List ℕ
column width n behind = aligned width n ++ behind

-- the line of a pick, 24 bytes and a line feed: bytes 1–2 the aisle, byte 3 a hyphen, 4–5 the cell, 6 a space, 7–9 the quantity,
-- 10–19 ten full stops, 20–24 the article
unfoldable pub page_line : Pick → List ℕ
page_line x =
    column 2 x.aisle (hyphen ∷ [])
    ++ (column 2 x.cell (space ∷ [])
    ++ (column 3 x.quantity (replicate 10 full_stop)
    ++ column 5 x.article (line_feed ∷ [])))

-- the cell of a pick
unfoldable pub pick_cell : Pick → Point
pick_cell x = record { aisle = x.aisle; height = x.cell }

-- whether a pick is made at that point
unfoldable pub picked_at : Point → Pick → Bool
picked_at p x = same_point p (pick_cell x)

-- the picks in the order of the points: at each point those that are made there, then those of the others that later points have.
-- (A pick that no point has is left out; the walk of a plan leaves out none: `page_is_picks`)
abbrev pub in_order_of : List Point → List Pick → List Pick
in_order_of [] picks = []
in_order_of (p ∷ ps) picks = select (picked_at p) picks ++ in_order_of ps (select (λ x. not (picked_at p x)) picks)

-- "Lines follow the walk, each pick at the first step that reaches its cell."
unfoldable pub along_walk : Layout → Walk → List Pick → List Pick
along_walk z walk picks = in_order_of (walk_points (depot_point z) walk) picks

-- step n of a walk, counted from 1, is the first that reaches a point: it ends there, and no step before it does
pub record FirstStep (z : Layout) (walk : Walk) (p : Point) (n : ℕ) : Type 0 where
  pub is_step : (1 ≤ n) × (n ≤ length walk)
  pub reaches : nth (walk_points (depot_point z) walk) n (depot_point z) ≡ p
  pub none_before : (k : ℕ) → 1 ≤ k → k < n → nth (walk_points (depot_point z) walk) k (depot_point z) ≡ p → ⊥

-- the first step to the one pick's cell comes before the first step to the other's. (That `along_walk` is this order is proved: proofs/WalkOrder)
unfoldable pub ReachedBefore : Layout → Walk → Pick → Pick → Type 0
ReachedBefore z walk x y = (k n : ℕ) → FirstStep z walk (pick_cell x) k → FirstStep z walk (pick_cell y) n → k < n

-- the page of a plan: the lines of its picks, along its walk
unfoldable pub page_of : Job → Plan → List ℕ
page_of job plan = concat_of page_line (along_walk job.layout (first_walk job.layout plan) (picks_of job plan))

-- the page of a job: that of its best plan
unfoldable pub page_text : Job → List ℕ
page_text job = page_of job (best_plan job)
