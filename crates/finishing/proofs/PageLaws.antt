-- The page of an admitted job (#103): every pick's cell is reached by the walk, no two picks share a cell, and each line has 25 bytes.
use Prim.Native.Nat.{ℕ, ◌*◌, ◌≤◌, ◌<◌}
use native.Mathlib.Omega.{arith}
use mathlib.Core.Path.{◌≡◌, sym, ap, ◌∙◌, subst}
use mathlib.Core.Logic.{inl, inr}
use mathlib.Core.List.{List, Memᴰ, Permᴰ}
use lib.ListN.{length}
use Rattle.rules.specs.declared.Pick.{Pick}
use Rattle.rules.specs.Lists.{Sorted}
use Rattle.rules.specs.Store.{Point}
use Rattle.rules.specs.Jobs.{Job}
use Rattle.rules.specs.BestPlan.{best_plan}
use Rattle.rules.specs.Picks.{picks_of, CellBefore, PickBefore}
use Rattle.rules.specs.Walks.{Walk}
use Rattle.rules.specs.FirstWalk.{WalkOf, first_walk}
use Rattle.rules.specs.Refusals.{Admitted}
use Rattle.rules.specs.Page.{page_line, pick_cell, along_walk, FirstStep, page_of, page_text}
use Rattle.rules.specs.PageAnswers.{page_limit}
use Rattle.rules.proofs.Lists.{sorted_imply}
use Rattle.rules.proofs.Admission.{layout_within, stock_within, open_in_stock}
use Rattle.rules.proofs.Taken.{pick_taken, picks_ordered}
use Rattle.rules.proofs.WalkOrder.{passed_first, along_rearranged, perm_member, perm_length}
use Rattle.rules.proofs.FewPicks.{few_picks}
use Rattle.closedwalks.proofs.Statements.{first_walk_lem, walk_passes_lem}
use Rattle.optimum.proofs.Best.{best_plan_lem}
use Rattle.pages.proofs.PageLines.{line_size, page_size}
use Rattle.visits.specs.Visited.{CellWithin}

-- picks that go upwards are made in different cells
different_cells : (x y : Pick) → PickBefore x y → pick_cell x ≡ pick_cell y → ⊥
unfolding PickBefore CellBefore pick_cell
different_cells x y (inl l) e = omega (arith, ap (λ (p : Point). p.aisle) e)
different_cells x y (inr l) e = omega (arith, ap (λ (p : Point). p.height) e)

module _ (job : Job) (a : Admitted job) where
  abbrev pub picks : List Pick
  picks = picks_of job (best_plan job)

  abbrev pub walk : Walk
  walk = first_walk job.layout (best_plan job)

  -- its walk is one of its plan
  pub page_walk : WalkOf job.layout (best_plan job) walk
  page_walk =
      let depot = ((layout_within job.layout).0 a.layout).depot in
      (first_walk_lem job.layout depot.0 depot.1 job.lines (best_plan job) (best_plan_lem job a).allowed.lawful).0

  -- a pick's cell is one of the store's
  pub pick_within : (x : Pick) → Memᴰ x picks → CellWithin job.layout x
  pick_within x m =
      let (r, t) = pick_taken job (best_plan job) x m in
      let w = ((stock_within job).0 a.stock).records r (open_in_stock job r t.in_stock) in
      record { aisle = (omega (arith, t.aisle, w.aisle), omega (arith, t.aisle, w.aisle)); cell = (omega (arith, t.cell, w.cell), omega (arith, t.cell, w.cell)) }

  -- the walk reaches it
  pub pick_reached : (x : Pick) → Memᴰ x picks → (n : ℕ) × FirstStep job.layout walk (pick_cell x) n
  unfolding pick_cell
  pick_reached x m =
      let depot = ((layout_within job.layout).0 a.layout).depot in
      let (r, t) = pick_taken job (best_plan job) x m in
      let w = ((stock_within job).0 a.stock).records r (open_in_stock job r t.in_stock) in
      let same = walk_passes_lem job.layout depot.0 depot.1 (best_plan job) walk page_walk r.aisle r.cell w.aisle.0 w.aisle.1 w.cell.0 w.cell.1 in
      let (n, f) = passed_first job.layout walk r.aisle r.cell (same ∙ t.passed) in
      (n, subst (λ p. FirstStep job.layout walk p n) (λ i. record { aisle = sym t.aisle i; height = sym t.cell i }) f)

  -- no two picks share a cell
  pub picks_apart : Sorted (λ x y. pick_cell x ≡ pick_cell y → ⊥) picks
  picks_apart = sorted_imply PickBefore (λ x y. pick_cell x ≡ pick_cell y → ⊥) different_cells picks (picks_ordered job (best_plan job))

  -- the page has all picks, rearranged
  pub page_rearranged : Permᴰ (along_walk job.layout walk picks) picks
  page_rearranged = along_rearranged job.layout walk picks pick_reached

  -- the numbers of a pick fit their columns
  pick_fits : (x : Pick) → Memᴰ x picks → (x.aisle < 100) × (x.cell < 100) × (x.quantity < 1000) × (x.article < 100000)
  pick_fits x m =
      let (r, t) = pick_taken job (best_plan job) x m in
      let w = ((stock_within job).0 a.stock).records r (open_in_stock job r t.in_stock) in
      let z = (layout_within job.layout).0 a.layout in
      (omega (arith, t.aisle, w.aisle, z.aisles), omega (arith, t.cell, w.cell, z.cells), omega (arith, t.no_more, w.quantity), omega (arith, t.article, w.article))

  -- so each line has 25 bytes
  pub line_length : (x : Pick) → Memᴰ x picks → length (page_line x) ≡ 25
  line_length x m = let (aisle, cell, quantity, article) = pick_fits x m in line_size x aisle cell quantity article

  -- and the page 25 for each pick
  pub page_length : length (page_text job) ≡ 25 * length picks
  unfolding page_text page_of
  page_length =
      page_size (along_walk job.layout walk picks) (λ x m. pick_fits x (perm_member page_rearranged m)) ∙ ap (λ n. 25 * n) (perm_length page_rearranged)

  -- so 6,375 bytes suffice for it
  pub page_suffices : length (page_text job) ≤ page_limit
  page_suffices = omega (arith, page_length, few_picks job a (best_plan job))
