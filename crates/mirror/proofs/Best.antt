-- The job turned front to back: it is admitted if the job is, turned back it is the job, and its best plan is as long as the job's, under every
-- policy.
use Prim.Native.Nat.{ℕ, ◌≤◌}
use mathlib.Core.Path.{◌≡◌, refl, sym, ◌∙◌, ap, subst}
use mathlib.Core.List.Memᴰ
use mathlib.Core.List.{List, [], ◌∷◌, map, Memᴰ}
use mathlib.Core.Bool.{cond}
use native.Mathlib.Omega.{arith}
use lib.Dec.{eqb}
use lib.ListN.{length-map}
use Rattle.rules.specs.declared.Layout.{Layout}
use Rattle.rules.specs.declared.Posts.TheVariants.{Sided}
use Rattle.rules.specs.declared.Side.{Side}
use Rattle.rules.specs.declared.Side.TheVariants.{FrontSide, BackSide}
use Rattle.rules.specs.declared.StockRecord.{StockRecord}
use Rattle.rules.specs.Lists.{sum_of, Sorted}
use Rattle.rules.specs.Store.{WithoutPosts, PostsWithin, LayoutWithin, side_of}
use Rattle.rules.specs.Jobs.{Job, open_stock}
use Rattle.rules.specs.Plans.{Plan, plan_length}
use Rattle.rules.specs.BestPlan.{IsBest}
use Rattle.rules.specs.Refusals.{Admitted, RecordWithin, StockWithin, all_stock}
use Rattle.rules.specs.Turned.{turned_plan}
use Rattle.rules.proofs.Lists.{sum_map, map_twice}
use Rattle.rules.proofs.Admission.{layout_within, stock_within, cells_once, list_within, lines_in_stock}
use Rattle.mirror.specs.Turned.{other_side, turned_record, turned_into, TurnedStore}
use Rattle.mirror.proofs.Lengths.{turned_store, turned_length}
use Rattle.mirror.proofs.Serving.{InCells, turned_open, turned_serves}
use Rattle.mirror.proofs.Allowed.{allowed_formed, turned_allowed}

side_twice : (side : Side) → other_side (other_side side) ≡ side
side_twice FrontSide = refl
side_twice BackSide = refl

-- every store without posts has one that is it turned
pub some_turned : (z : Layout) → WithoutPosts z.posts → (y : Layout) × TurnedStore z y
some_turned z none = (
  record {
    aisles = z.aisles;
    cells = z.cells;
    front = z.back;
    pitch = z.pitch;
    back = z.front;
    width = z.width;
    depot = z.depot;
    posts = Sided 1 0 (other_side (side_of z));
  },
  record {
    aisles = refl;
    cells = refl;
    front = refl;
    pitch = refl;
    back = refl;
    width = refl;
    depot = refl;
    side = refl;
    no_posts = none;
    no_posts_there = refl;
    within = (omega arith, omega arith, omega arith);
  },
)

-- each of the two is the other turned
store_back : (z y : Layout) → TurnedStore z y → PostsWithin z.posts → TurnedStore y z
store_back z y t within =
    record {
      aisles = sym t.aisles;
      cells = sym t.cells;
      front = sym t.back;
      pitch = sym t.pitch;
      back = sym t.front;
      width = sym t.width;
      depot = sym t.depot;
      side = sym (side_twice (side_of z)) ∙ sym (ap other_side t.side);
      no_posts = t.no_posts_there;
      no_posts_there = t.no_posts;
      within = within;
    }

-- the turned store's numbers are within their bounds too
store_within : (z y : Layout) → TurnedStore z y → LayoutWithin z → LayoutWithin y
store_within z y t w =
    record {
      aisles = rw t.aisles w.aisles;
      cells = rw t.cells w.cells;
      front = rw t.front w.back;
      pitch = rw t.pitch w.pitch;
      back = rw t.back w.front;
      width = rw t.width w.width;
      depot = rw (t.depot, t.aisles) w.depot;
      posts = t.within;
    }

-- the records of an admitted job are of cells of its store
admitted_cells : (job : Job) → Admitted job → InCells job
admitted_cells job a r m = (((stock_within job).0 a.stock).records r m).cell

record_twice : (cells : ℕ) (r : StockRecord) → r.cell ≤ cells → turned_record cells (turned_record cells r) ≡ r
record_twice cells r h = ap (λ (c : ℕ). record { aisle = r.aisle; cell = c; article = r.article; quantity = r.quantity }) (omega arith)

-- records of different cells are of different cells when they are turned
abbrev Apart : StockRecord → StockRecord → Type 0
Apart r s = (r.aisle ≡ s.aisle) × (r.cell ≡ s.cell) → ⊥

apart_there : (cells : ℕ) (r s : StockRecord) → r.cell ≤ cells → s.cell ≤ cells → Apart r s → Apart (turned_record cells r) (turned_record cells s)
apart_there cells r s low high apart (a, c) = apart (a, omega arith)

turned_apart : (cells : ℕ) (xs : List StockRecord) → ((r : StockRecord) → Memᴰ r xs → r.cell ≤ cells)
    → Sorted Apart xs → Sorted Apart (map (turned_record cells) xs)
turned_apart cells [] within s = tt
turned_apart cells (r ∷ xs) within s = (behind, turned_apart cells xs (λ v m. within v (Memᴰ.tail m)) s.1)
  where
    behind : (w : StockRecord) → Memᴰ w (map (turned_record cells) xs) → Apart (turned_record cells r) w
    behind w m =
        let u = Memᴰ.of_map (turned_record cells) xs m in
        let apart = apart_there cells r u.0 (within r (Memᴰ.head refl)) (within u.0 (Memᴰ.tail u.1)) (s.0 u.0 u.1) in
        subst (Apart (turned_record cells r)) u.2 apart

module _ (job : Job) (y : Layout) (t : TurnedStore job.layout y) (a : Admitted job) where
  abbrev cells : ℕ
  cells = job.layout.cells

  here : StockWithin job
  here = (stock_within job).0 a.stock

  turned_record_lem : (r : StockRecord) → RecordWithin job.layout r → RecordWithin y (turned_record cells r)
  turned_record_lem r w =
      let c = w.cell in
      record { aisle = rw t.aisles w.aisle; cell = rw t.cells (omega arith, omega arith); article = w.article; quantity = w.quantity }

  turned_stock : StockWithin (turned_into y job)
  turned_stock =
      record {
        count = rw (length-map job.stock (turned_record cells)) here.count;
        records = λ r m.
            let s = Memᴰ.of_map (turned_record cells) job.stock m in
            subst (RecordWithin y) s.2 (turned_record_lem s.0 (here.records s.0 s.1));
      }

  -- of each article there is as much
  turned_all_stock : (n : ℕ) → all_stock (turned_into y job) n ≡ all_stock job n
  unfolding all_stock
  turned_all_stock n =
      let amount : StockRecord → ℕ = λ r. cond (eqb r.article n) r.quantity 0 in
      ap (sum_of amount) (turned_open job y) ∙ sum_map amount (turned_record cells) (open_stock job)

  -- the turned job is admitted
  pub turned_admitted : Admitted (turned_into y job)
  turned_admitted =
      let list = (list_within job).0 a.list in
      record {
        layout = (layout_within y).1 (store_within job.layout y t ((layout_within job.layout).0 a.layout));
        stock = (stock_within (turned_into y job)).1 turned_stock;
        cells_once = (cells_once (turned_into y job)).1 (turned_apart cells job.stock (λ r m. (here.records r m).cell.1) ((cells_once job).0 a.cells_once));
        hours = rw t.aisles a.hours;
        list = (list_within (turned_into y job)).1 (record { count = list.count; lines = list.lines });
        articles_once = a.articles_once;
        light = a.light;
        in_stock = (lines_in_stock (turned_into y job)).1 (λ l m. rw (turned_all_stock l.article) ((lines_in_stock job).0 a.in_stock l m));
      }

  -- turned back, it is the job
  pub turned_twice : turned_into job.layout (turned_into y job) ≡ job
  turned_twice =
      let again = map_twice (turned_record cells) job.stock (λ r m. record_twice cells r (here.records r m).cell.1) in
      ap (λ (stock : List StockRecord). record { layout = job.layout; policy = job.policy; stock = stock; hours = job.hours; lines = job.lines })
      (ap (λ (c : ℕ). map (turned_record c) (map (turned_record cells) job.stock)) t.cells ∙ again)

-- the best plan of the turned job is no longer
no_longer : (job : Job) (y : Layout) → TurnedStore job.layout y → Admitted job → (plan other : Plan)
    → IsBest job plan → IsBest (turned_into y job) other → plan_length y other ≤ plan_length job.layout plan
no_longer job y t a plan other best there =
    let z = job.layout in
    let o = turned_store z y t in
    let within = admitted_cells job a in
    let wf = allowed_formed job plan best.allowed in
    let allowed = turned_allowed job y within o plan best.allowed in
    let serving = (turned_serves job y within plan wf).0 best.serving in
    omega (arith, there.least (turned_plan z.cells plan) allowed serving, turned_length z y o plan wf)

-- nor is it shorter, since the job is the turned job turned back: so the two are of equal length
pub turned_shortest : (job : Job) (y : Layout) → TurnedStore job.layout y → Admitted job → (plan other : Plan)
    → IsBest job plan → IsBest (turned_into y job) other → plan_length y other ≡ plan_length job.layout plan
turned_shortest job y t a plan other best there =
    let z = job.layout in
    let back = store_back z y t ((layout_within z).0 a.layout).posts in
    let again = subst (λ (j : Job). IsBest j plan) (sym (turned_twice job y t a)) best in
    let one_way = no_longer job y t a plan other best there in
    let other_way = no_longer (turned_into y job) z back (turned_admitted job y t a) other plan there again in
    omega (arith, one_way, other_way)
