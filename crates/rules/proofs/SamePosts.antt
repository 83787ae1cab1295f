-- Two ways to say a store's posts and its depot's side that say the same (requests #102 and #109): no posts and posts that are 0 wide; no third
-- line and FRONT. The two stores have the same distances and the same depot, so the same plans, lengths, walks, sheets and pages, the same
-- refusals, and the stock test looks at as many records.
use Prim.Native.Nat.{ℕ, zero, suc, ◌+◌, ◌*◌, ◌-◌}
use mathlib.Core.Path.{◌≡◌, refl, sym, ◌∙◌, ap, ap₂, fun_ext}
use mathlib.Core.List.{List, [], ◌∷◌, ◌++◌, tail}
use mathlib.Core.Option.{Option, none, some, get_or}
use mathlib.Core.Bool.{true, false, cond, not, ◌&&◌, ◌||◌}
use lib.Dec.{leb, ltb, eqb}
use lib.ListN.{length, take, drop}
use Rattle.rules.specs.declared.Side.{Side}
use Rattle.rules.specs.declared.Side.TheVariants.{FrontSide}
use Rattle.rules.specs.declared.Posts.{Posts}
use Rattle.rules.specs.declared.Posts.TheVariants.{Every, Sided}
use Rattle.rules.specs.declared.Layout.{Layout}
use Rattle.rules.specs.declared.OrderLine.{OrderLine}
use Rattle.rules.specs.declared.Policy.{Policy}
use Rattle.rules.specs.declared.Policy.TheVariants.{Exact, Return, Traversal, Midpoint, Composite, Largest}
use Rattle.rules.specs.declared.Action.{Action}
use Rattle.rules.specs.declared.Action.TheVariants.{Void, Bottom, Top, Gap, Once, Twice}
use Rattle.rules.specs.declared.Passage.{Passage}
use Rattle.rules.specs.declared.Passage.TheVariants.{P00}
use Rattle.rules.specs.declared.Direction.{Direction}
use Rattle.rules.specs.declared.Direction.TheVariants.{Back, Front, Left, Right}
use Rattle.rules.specs.declared.Refusal.{Refusal}
use Rattle.rules.specs.declared.Refusal.TheVariants.{PageSpace}
use Rattle.std.specs.declared.result.Result.TheVariants.{Ok}
use Rattle.rules.specs.Turned.{seen_from, seen, passage_from, seen_passage}
use Rattle.rules.specs.Lists.{from, sum_of, all_of, concat_of, select, head_or}
use Rattle.rules.specs.Store.{Point, Edge, along, front, back, posts_before, WithoutPosts, with_posts, cell_position, aisle_length, position, back_height, same_point, side_in, height_at, depot_point, distance, edges_of, within, posts_in_bounds, PostsWithin, layout_in_bounds}
use Rattle.rules.specs.Jobs.{Job, empty_list, job_with_posts, listed, holds_listed, cell_holds_listed}
use Rattle.rules.specs.Plans.{Plan, aisle_treads, multiplicity, length_of, plan_length, plan_passes}
use Rattle.rules.specs.Policies.{action_named, passage_named, entered_aisles, walk_back_end, in_front_half, in_back_half, halved, Part, from_front, from_back, parts_of, listed_cells, stops_on, untrodden, through}
use Rattle.rules.specs.Machine.{State, policy_by, enterable, is_void, action_possible, action_step, cross_step, passage_step, run_from, is_closed, treads_nothing, accepts, nothing, dead}
use Rattle.rules.specs.Machine.{stops_within, part_keeps, keeps_largest_gap, between_test}
use Rattle.rules.specs.Serving.{serves}
use Rattle.rules.specs.BestPlan.{plans_of, is_better, first_best, serving_plans, empty_plan, best_plan}
use Rattle.rules.specs.Walks.{Walk, walk_points, is_crossing, can_step, step_to, step_edge}
use Rattle.rules.specs.FirstWalk.{without, first_way, step_then, first_from, steps_of, first_walk}
use Rattle.rules.specs.Picks.{cells_of, passed_records, picks_of}
use Rattle.rules.specs.Sheet.{sheet_of, sheet_text}
use Rattle.rules.specs.Refusals.{record_in_bounds, stock_in_bounds, list_in_bounds, all_stock, short_of_stock, table, page_table, cleared, first_row, job_rows, job_refusal}
use Rattle.rules.specs.Answers.{served, decided}
use Rattle.rules.specs.Page.{page_line, in_order_of, along_walk, page_of, page_text}
use Rattle.rules.specs.PageAnswers.{page_served, page_decided}
use Rattle.rules.specs.Looked.{with_first, first_hold, looked_for, tested_lines, looked, stock_tested, looked_on}
use Rattle.rules.proofs.Admission.{posts_within}
use Rattle.rules.proofs.Lengths.{none_before}

-- the posts before each cell take as much, the depot lies at the same side, and both are within the bounds or neither is
pub record SamePosts (p q : Posts) : Type 0 where
  pub before : (i : ℕ) → posts_before p i ≡ posts_before q i
  pub side : side_in p ≡ side_in q
  pub bounds : posts_in_bounds p ≡ posts_in_bounds q

-- where both say that there are no posts, k is of no consequence
pub nothing_between : (p q : Posts) → WithoutPosts p → WithoutPosts q → side_in p ≡ side_in q → PostsWithin p → PostsWithin q → SamePosts p q
nothing_between p q nil nought side b c =
    record {
      before = λ i. none_before p nil i ∙ sym (none_before q nought i);
      side = side;
      bounds = (posts_within p).1 b ∙ sym ((posts_within q).1 c);
    }

-- FRONT says what is so without a third line
pub front_said : (k u : ℕ) → SamePosts (Sided k u FrontSide) (Every k u)
front_said k u = record { before = λ i. refl; side = refl; bounds = refl }

module _ (p q : Posts) (same : SamePosts p q) (z : Layout) where
  -- the store by the one and by the other
  abbrev one : Layout
  one = with_posts p z

  abbrev other : Layout
  other = with_posts q z

  -- every cell lies as far from the front, and so does every height
  same_cell_lem : (i : ℕ) → cell_position one i ≡ cell_position other i
  same_cell_lem i = ap (λ n. z.front + (i - 1) * z.pitch + n) (same.before i)

  same_aisle : aisle_length one ≡ aisle_length other
  unfolding aisle_length
  same_aisle = ap (λ n. n + z.back) (same_cell_lem z.cells)

  same_position : (h : ℕ) → position one h ≡ position other h
  unfolding position
  same_position zero = refl
  same_position (suc i) = ap₂ (cond (ltb i z.cells)) (same_cell_lem (suc i)) same_aisle

  same_distance : (e : Edge) → distance one e ≡ distance other e
  unfolding distance
  same_distance (along j h) = ap₂ (λ x y. x - y) (same_position (suc h)) (same_position h)
  same_distance (front j) = refl
  same_distance (back j) = refl

  -- so every plan is as long
  same_length : plan_length one ≡ plan_length other
  unfolding plan_length length_of edges_of
  same_length = fun_ext (λ plan. ap (λ d. sum_of (λ e. multiplicity plan e * d e) (edges_of other)) (fun_ext same_distance))

  -- and the halves are the same
  same_front_half : (i : ℕ) → in_front_half one i ≡ in_front_half other i
  unfolding in_front_half
  same_front_half i = ap₂ (λ p l. leb (2 * p) l) (same_position i) same_aisle

  same_back_half : (i : ℕ) → in_back_half one i ≡ in_back_half other i
  unfolding in_back_half
  same_back_half i = ap₂ (λ p l. leb l (2 * p)) (same_position i) same_aisle

  same_halves : (a : Action) → halved one a ≡ halved other a
  same_halves Void = refl
  same_halves (Bottom i) = same_front_half i
  same_halves (Top i) = same_back_half i
  same_halves (Gap h i) = ap₂ ◌&&◌ (same_front_half h) (same_back_half i)
  same_halves Once = refl
  same_halves Twice = refl

  -- and so is the untrodden part of an aisle
  same_untrodden : (j : ℕ) (a : Action) → untrodden one j a ≡ untrodden other j a
  unfolding untrodden
  same_untrodden j a =
      ap (λ d. sum_of (λ k. cond (eqb (aisle_treads a k) 0) (d (along j k)) 0) (from 0 (suc z.cells))) (fun_ext same_distance)

  -- the depot is the same
  same_depot : depot_point one ≡ depot_point other
  unfolding depot_point
  same_depot = ap (λ (side : Side). record { aisle = z.depot; height = height_at side z.cells }) same.side

  -- a walk is found step by step: the way on from a point, given the ways from the points around it
  abbrev way_on : Layout → ((Edge → ℕ) → Point → Option Walk) → (Edge → ℕ) → Point → Option Walk
  way_on y rest left x =
      let go : Direction → Option Walk = λ d. elim (can_step y x d && ltb 0 (left (step_edge x d))) [ true ↦ step_then d (rest (without left (step_edge x d)) (step_to x d)) | false ↦ none ] in
      first_way (go Back) (first_way (go Front) (first_way (go Left) (go Right)))

  same_ways : (n : ℕ) → first_from one n ≡ first_from other n
  unfolding can_step is_crossing back_height
  same_ways zero = ap (λ (depot : Point). λ (left : Edge → ℕ) (x : Point). cond (same_point x depot) (some []) none) same_depot
  same_ways (suc n) = ap (way_on other) (same_ways n)

  -- the walk of a plan is the same
  same_walk : (plan : Plan) → first_walk one plan ≡ first_walk other plan
  unfolding first_walk steps_of edges_of
  same_walk plan = ap₂ (λ ways (x : Point). get_or (ways (multiplicity plan) x) []) (same_ways (steps_of other (multiplicity plan))) same_depot

  -- both are within the bounds, or neither
  same_bounds : layout_in_bounds one ≡ layout_in_bounds other
  unfolding layout_in_bounds
  same_bounds =
      ap (λ b. within 1 16 z.aisles && within 1 24 z.cells && within 1 60 z.front && within 1 30 z.pitch && within 1 60 z.back && within 1 400 z.width && within 1 z.aisles z.depot && b)
      same.bounds

  -- actions and passages are seen from the same side
  same_seen : (a : Action) → seen one a ≡ seen other a
  same_seen a = ap (λ (side : Side). seen_from side z.cells a) same.side

  same_seen_passage : (x : Passage) → seen_passage one x ≡ seen_passage other x
  same_seen_passage x = ap (λ (side : Side). passage_from side x) same.side

module _ (p q : Posts) (same : SamePosts p q) (job : Job) where
  -- the job in the one store and in the other
  abbrev here : Job
  here = job_with_posts p job

  abbrev there : Job
  there = job_with_posts q job

  -- the stops are the same and as far apart, so LARGEST asks the same
  same_part : (j n : ℕ) (part : Part) → part_keeps here j n part ≡ part_keeps there j n part
  unfolding part_keeps listed_cells cell_holds_listed listed back_height
  same_part j n (from_front i) =
      ap (λ at. cell_holds_listed there j i && stops_within at n (stops_on there j (from_front i))) (fun_ext (same_position p q same job.layout))
  same_part j n (from_back i) =
      ap (λ at. cell_holds_listed there j i && stops_within at n (stops_on there j (from_back i))) (fun_ext (same_position p q same job.layout))

  same_largest : (j : ℕ) (a : Action) → keeps_largest_gap here j a ≡ keeps_largest_gap there j a
  unfolding keeps_largest_gap
  same_largest j a =
      let gap = untrodden here.layout j a in
      ap (λ t. not (through a) && all_of t (parts_of a))
      (fun_ext (λ part. same_part j gap part ∙ ap (λ n. part_keeps there j n part) (same_untrodden p q same job.layout j a)))

  -- and so does every policy
  same_between : (policy : Policy) (j : ℕ) (a : Action) → between_test policy here j a ≡ between_test policy there j a
  same_between Exact j a = same_halves p q same job.layout a
  same_between Return j a = same_halves p q same job.layout a
  same_between Traversal j a = same_halves p q same job.layout a
  same_between Midpoint j a = same_halves p q same job.layout a
  same_between Composite j a = same_halves p q same job.layout a
  same_between Largest j a = same_largest j a

  -- the machine goes through the same states
  same_step : (j : ℕ) (a : Action) (s : State) → action_step here j a s ≡ action_step there j a s
  unfolding action_step action_possible holds_listed listed
  same_step j a s =
      let policy = job.policy in
      ap₂ (λ between (b : Action). cond (action_named FrontSide policy b && (is_void a || enterable there j)) (policy_by policy (walk_back_end job.layout) between b s) dead)
      (same_between policy j a) (same_seen p q same job.layout a)

  same_crossing : (j : ℕ) (x : Passage) (s : State) → passage_step here j x s ≡ passage_step there j x s
  unfolding passage_step
  same_crossing j x s =
      ap (λ (y : Passage). cond (passage_named FrontSide job.policy y) (cross_step job.layout.depot j y s) dead) (same_seen_passage p q same job.layout x)

  same_run : (actions : List Action) (passages : List Passage) (j : ℕ) (s : State) → run_from here j s actions passages ≡ run_from there j s actions passages
  same_run [] passages j s = refl
  same_run (a ∷ actions) passages j s =
      same_run actions (tail passages) (suc j) (passage_step here j (head_or P00 passages) (action_step here j a s))
      ∙ ap (λ t. run_from there (suc j) t actions (tail passages))
      (same_crossing j (head_or P00 passages) (action_step here j a s) ∙ ap (passage_step there j (head_or P00 passages)) (same_step j a s))

  -- so the same plans are accepted and serve the list
  same_plans : serving_plans here ≡ serving_plans there
  unfolding serving_plans accepts serves
  same_plans =
      ap (λ test. select (λ plan. test plan && serves there (plan_passes plan)) (plans_of job.layout.cells job.layout.aisles))
      (fun_ext (λ plan. ap (λ s. (empty_list job.lines && treads_nothing plan) || is_closed s) (same_run plan.actions plan.passages 1 nothing)))

  -- the best plan is the same
  same_best : best_plan here ≡ best_plan there
  unfolding best_plan empty_plan
  same_best = ap₂ (λ len plans. get_or (first_best (is_better len entered_aisles) plans) (empty_plan job.layout)) (same_length p q same job.layout) same_plans

  -- and so is the sheet
  same_sheet : sheet_text here ≡ sheet_text there
  unfolding sheet_text sheet_of picks_of passed_records cells_of
  same_sheet =
      let z = job.layout in
      ap (sheet_of here) same_best
      ∙ rw (ap (λ len. len (best_plan there)) (same_length p q same z), same_walk p q same z (best_plan there)) refl

  -- and the page
  same_page : page_text here ≡ page_text there
  unfolding page_text page_of along_walk picks_of passed_records cells_of
  same_page =
      let z = job.layout in
      ap (page_of here) same_best
      ∙ ap₂ (λ (x : Point) walk. concat_of page_line (in_order_of (walk_points x walk) (picks_of there (best_plan there)))) (same_depot p q same z) (same_walk p q same z (best_plan there))

  -- the rows of the table are the same
  same_table : (sheet work : List ℕ) → table (some here) sheet work ≡ table (some there) sheet work
  unfolding stock_in_bounds record_in_bounds list_in_bounds short_of_stock all_stock
  same_table sheet work = rw (same_bounds p q same job.layout, same_sheet) refl

  -- so the same refusal applies to the job itself
  same_refusal : job_refusal here ≡ job_refusal there
  unfolding job_refusal job_rows
  same_refusal = ap (λ rows. first_row (take 8 (drop 2 rows))) (same_table [] [])

  -- the whole answer is the same
  pub same_answer : (sheet work : List ℕ)
      → decided (first_row (table (some here) sheet work)) (some here) sheet work ≡ decided (first_row (table (some there) sheet work)) (some there) sheet work
  unfolding served
  same_answer sheet work =
      ap (λ t. decided (first_row t) (some here) sheet work) (same_table sheet work) ∙ go (first_row (table (some there) sheet work))
    where
      go : (r : Option Refusal) → decided r (some here) sheet work ≡ decided r (some there) sheet work
      go (some r) = refl
      go none = ap (λ text. record { reply = Ok (length text); sheet = text ++ drop (length text) sheet; work = cleared work }) same_sheet

  -- and so is that of a call which is lent a page
  pub same_page_answer : (sheet page work : List ℕ)
      → page_decided (first_row (page_table (some here) sheet page work)) (some here) sheet page work
      ≡ page_decided (first_row (page_table (some there) sheet page work)) (some there) sheet page work
  unfolding page_table served page_served
  same_page_answer sheet page work =
      let rows = ap₂ (λ t (text : List ℕ). t ++ ((ltb (length page) (length text), PageSpace) ∷ [])) (same_table sheet work) same_page in
      ap (λ t. page_decided (first_row t) (some here) sheet page work) rows ∙ go (first_row (page_table (some there) sheet page work))
    where
      go : (r : Option Refusal) → page_decided r (some here) sheet page work ≡ page_decided r (some there) sheet page work
      go (some r) = refl
      go none = rw (same_sheet, same_page) refl

  -- the same lines are tested
  same_tested : (lines : List OrderLine) → tested_lines here lines ≡ tested_lines there lines
  unfolding first_hold with_first all_stock
  same_tested [] = refl
  same_tested (l ∷ lines) = ap (λ rest. l ∷ cond (first_hold there l (length job.stock)) rest []) (same_tested lines)

  -- so the stock test looks at as many records
  pub same_looked : looked_on here ≡ looked_on there
  unfolding looked_on looked looked_for first_hold with_first all_stock
  same_looked = ap₂ (λ r n. cond (stock_tested r) (some n) none) same_refusal (ap (sum_of (looked_for there)) (same_tested job.lines))
