-- Document 01, "Walked examples": the cases 1 to 14 (14 as request #101 has it) and the job and sheet of "Sheet", byte for byte.
use Rattle.std.specs.Prelude.{ℕ, ◌≡◌, List, [], ◌∷◌, ◌++◌, map, Bool, true, false, length, drop, replicate}
use Rattle.std.proofs.Math.Option.{Option, none, some}
use Rattle.rules.specs.declared.Side.{Side}
use Rattle.rules.specs.declared.Side.TheVariants.{FrontSide, BackSide}
use Rattle.rules.specs.declared.Posts.TheVariants.{NoPosts, Every, Sided}
use Rattle.rules.specs.declared.Policy.{Policy}
use Rattle.rules.specs.declared.Policy.TheVariants.{Exact, Return, Traversal, Midpoint, Composite, Largest}
use Rattle.rules.specs.declared.StockRecord.{StockRecord}
use Rattle.rules.specs.declared.Window.{Window}
use Rattle.rules.specs.declared.OrderLine.{OrderLine}
use Rattle.rules.specs.declared.Action.{Action}
use Rattle.rules.specs.declared.Action.TheVariants.{Void, Bottom, Top, Gap, Once, Twice}
use Rattle.rules.specs.declared.Passage.{Passage}
use Rattle.rules.specs.declared.Passage.TheVariants.{P00, P02, P11, P20, P22}
use Rattle.rules.specs.declared.Direction.{Direction}
use Rattle.rules.specs.declared.Direction.TheVariants.{Back, Front, Left, Right}
use Rattle.rules.specs.declared.Refusal.{Refusal}
use Rattle.rules.specs.declared.Run.{Run}
use Rattle.rules.specs.Lists.{head_or}
use Rattle.rules.specs.Store.{with_posts}
use Rattle.rules.specs.Hours.{NoHours, At}
use Rattle.rules.specs.Jobs.{Job, job_with_posts, job_with_hours}
use Rattle.rules.specs.JobFile.{policy_word, side_word, field, layout_text, layout_section_text, record_text, line_text, letter_s, letter_d, section_text, hours_text, job_text}
use Rattle.rules.specs.Refusals.{weight, job_refusal, number_of, bad, check_bytes}
use Rattle.rules.specs.Looked.{looked_on, looked_in, handed_on, looked_text}
use Rattle.rules.specs.Plans.{Plan, plan_length, plan_passes}
use Rattle.rules.specs.Policies.{from_front, from_back, stops_on}
use Rattle.rules.specs.Serving.{serves}
use Rattle.rules.specs.Machine.{accepts}
use Rattle.rules.specs.BestPlan.{best_plan}
use Rattle.rules.specs.FirstWalk.{first_walk}
use Rattle.rules.specs.Sheet.{action_text, passage_text, pick_text, runs_of}
use Rattle.rules.specs.Page.{page_line, page_of}
use Rattle.rules.specs.Answers.{reply_number, answer, output}
use Rattle.rules.specs.PageAnswers.{page_answer, page_output}

-- a stock record: aisle cell article quantity
unfoldable pub stocked : ℕ → ℕ → ℕ → ℕ → StockRecord
stocked j c a q = record { aisle = j; cell = c; article = a; quantity = q }

infixl 60 ◌⨯◌
-- an order line: an article and how much of it, as document 01 writes 7×2
unfoldable pub ◌⨯◌ : ℕ → ℕ → OrderLine
a ⨯ q = record { article = a; quantity = q }

-- store α with a list
unfoldable pub alpha : List OrderLine → Policy → Job
alpha lines policy =
    record {
      layout = record { aisles = 2; cells = 3; front = 2; pitch = 1; back = 2; width = 5; depot = 1; posts = NoPosts };
      policy = policy;
      stock = stocked 1 1 7 1 ∷ stocked 2 1 9 5 ∷ stocked 2 3 7 1 ∷ [];
      hours = NoHours;
      lines = lines;
    }

-- store β with its list
unfoldable pub beta : Policy → Job
beta policy =
    record {
      layout = record { aisles = 3; cells = 5; front = 1; pitch = 1; back = 1; width = 1; depot = 1; posts = NoPosts };
      policy = policy;
      stock = stocked 1 3 3 1 ∷ stocked 2 1 1 1 ∷ stocked 2 5 2 1 ∷ stocked 3 3 4 1 ∷ [];
      hours = NoHours;
      lines = (1 ⨯ 1) ∷ (2 ⨯ 1) ∷ (3 ⨯ 1) ∷ (4 ⨯ 1) ∷ [];
    }

-- what is expected of a job
pub data Expected : Type 0 where
  tour : ℕ → List Action → List Passage → Expected  -- the length and the plan
  tied : ℕ → List Action → List Passage → List Action → List Passage → Expected  -- and another plan that is as long
  walked : ℕ → List Action → List Passage → List Run → Expected  -- and the walk
  long : ℕ → Expected  -- the length alone
  refusal : ℕ → Expected  -- the refusal's number
  weighing : ℕ → ℕ → Expected  -- the list's weight and the refusal's number
  allowing : Bool → List Action → List Passage → Expected  -- a plan that serves the list, and whether the policy allows it

-- a job is served with a tour of that length
pub record HasTour (job : Job) (n : ℕ) : Type 0 where
  pub admitted : job_refusal job ≡ none
  pub length : plan_length job.layout (best_plan job) ≡ n

-- a plan that the policy allows and that serves the list, of that length
pub record IsTour (job : Job) (plan : Plan) (n : ℕ) : Type 0 where
  pub allowed : accepts job plan ≡ true
  pub serving : serves job (plan_passes plan) ≡ true
  pub length : plan_length job.layout plan ≡ n

-- a job is refused with that number
unfoldable pub RefusedWith : Job → ℕ → Type 0
RefusedWith job n = (r : Refusal) × (job_refusal job ≡ some r) × (number_of r ≡ n)

-- a job is answered as expected
abbrev pub Meets : Job → Expected → Type 0
Meets job (tour n actions passages) = HasTour job n × (best_plan job ≡ record { actions = actions; passages = passages })
Meets job (tied n actions passages others gaps) =
    HasTour job n × (best_plan job ≡ record { actions = actions; passages = passages })
    × IsTour job (record { actions = actions; passages = passages }) n
    × IsTour job (record { actions = others; passages = gaps }) n
Meets job (walked n actions passages runs) =
    HasTour job n × (best_plan job ≡ record { actions = actions; passages = passages }) × (runs_of (first_walk job.layout (best_plan job)) ≡ runs)
Meets job (long n) = HasTour job n
Meets job (refusal n) = RefusedWith job n
Meets job (weighing w n) = (weight job.lines ≡ w) × RefusedWith job n
Meets job (allowing b actions passages) =
    (serves job (plan_passes (record { actions = actions; passages = passages })) ≡ true)
    × (accepts job (record { actions = actions; passages = passages }) ≡ b)

-- a row of the table: a job under one policy, or under every policy
pub data Case : Type 0 where
  under : Policy → (Policy → Job) → Expected → Case
  under_every : (Policy → Job) → Expected → Case

abbrev pub Holds : Case → Type 0
Holds (under policy job e) = Meets (job policy) e
Holds (under_every job e) = (policy : Policy) → Meets (job policy) e

-- a run of so many equal steps
unfoldable pub steps : Direction → ℕ → Run
steps d n = record { direction = d; steps = n }

-- the walk of case 4: B 4, R 1, F 4, L 1
unfoldable pub round_trip : List Run
round_trip = steps Back 4 ∷ steps Right 1 ∷ steps Front 4 ∷ steps Left 1 ∷ []

-- the cases 1 to 14
unfoldable pub cases : List Case
cases =
    under Exact (alpha ((9 ⨯ 1) ∷ [])) (tour 14 (Void ∷ Bottom 1 ∷ []) (P02 ∷ []))  -- 1
    ∷ under Exact (alpha ((7 ⨯ 1) ∷ (9 ⨯ 1) ∷ [])) (tied 18 (Void ∷ Bottom 3 ∷ []) (P02 ∷ []) (Bottom 1 ∷ Bottom 1 ∷ []) (P02 ∷ []))  -- 2
    ∷ under Exact (alpha ((7 ⨯ 2) ∷ [])) (tour 22 (Bottom 1 ∷ Bottom 3 ∷ []) (P02 ∷ []))  -- 3
    ∷ under Traversal (alpha ((7 ⨯ 2) ∷ [])) (walked 22 (Once ∷ Once ∷ []) (P11 ∷ []) round_trip)  -- 4
    ∷ under Midpoint (alpha ((7 ⨯ 2) ∷ [])) (tour 22 (Once ∷ Once ∷ []) (P11 ∷ []))  -- 5
    ∷ under_every (alpha ((7 ⨯ 3) ∷ [])) (refusal 8)  -- 6
    ∷ under Exact beta (tour 20 (Once ∷ Gap 1 5 ∷ Once ∷ []) (P11 ∷ P11 ∷ []))  -- 7
    ∷ under Composite beta (tour 22 (Bottom 3 ∷ Once ∷ Once ∷ []) (P02 ∷ P11 ∷ []))  -- 8
    ∷ under Traversal beta (tour 22 (Once ∷ Once ∷ Bottom 3 ∷ []) (P11 ∷ P02 ∷ []))  -- 9
    ∷ under Return beta (long 26)  -- 10
    ∷ under_every (alpha ((9 ⨯ 255) ∷ [])) (weighing 256 8)  -- 11
    ∷ under_every (alpha ((9 ⨯ 256) ∷ [])) (refusal 5)  -- 12
    ∷ under_every (alpha ((9 ⨯ 255) ∷ (7 ⨯ 1) ∷ [])) (weighing 512 7)  -- 13
    ∷ under_every (alpha []) (walked 0 (Void ∷ Void ∷ []) (P00 ∷ []) [])  -- 14
    ∷ []

-- a job of our own: m C f p b w d, its stock and its list
unfoldable pub own_job : (m c f p b w d : ℕ) → List StockRecord → List OrderLine → Policy → Job
own_job m c f p b w d stock lines policy =
    record {
      layout = record { aisles = m; cells = c; front = f; pitch = p; back = b; width = w; depot = d; posts = NoPosts };
      policy = policy;
      stock = stock;
      hours = NoHours;
      lines = lines;
    }

-- a list with one each of the articles 1 to 4
unfoldable pub one_each : List OrderLine
one_each = (1 ⨯ 1) ∷ (2 ⨯ 1) ∷ (3 ⨯ 1) ∷ (4 ⨯ 1) ∷ []

-- cell 2 of three lies midway; in aisle 2 the front part is wanted
unfoldable pub midway_front : Policy → Job
midway_front = own_job 3 3 1 1 1 1 1 (stocked 1 2 1 1 ∷ stocked 2 1 2 1 ∷ stocked 2 2 3 1 ∷ stocked 3 2 4 1 ∷ []) one_each

-- the same, and the back part is wanted
unfoldable pub midway_back : Policy → Job
midway_back = own_job 3 3 1 1 1 1 1 (stocked 1 2 1 1 ∷ stocked 2 3 2 1 ∷ stocked 2 2 3 1 ∷ stocked 3 2 4 1 ∷ []) one_each

-- the back crossing is far: by distance all cells are in the front half
unfoldable pub far_back : Policy → Job
far_back =
    own_job 3 3 1 1 4 1 1 (stocked 1 2 1 1 ∷ stocked 2 3 2 1 ∷ stocked 3 2 3 1 ∷ []) ((1 ⨯ 1) ∷ (2 ⨯ 1) ∷ (3 ⨯ 1) ∷ [])

-- the way along the back to a cell near the back crossing is worth walking twice
unfoldable pub near_back : Policy → Job
near_back =
    own_job 3 2 5 4 1 1 1 (stocked 1 1 1 1 ∷ stocked 1 2 1 1 ∷ stocked 2 1 1 1 ∷ stocked 2 2 1 1 ∷ stocked 3 2 1 1 ∷ []) ((1 ⨯ 5) ∷ [])

-- the depot is in the middle, and both cross-aisles are walked twice, to the two ends of an aisle
unfoldable pub both_ends : Policy → Job
both_ends =
    own_job 3 3 1 6 1 1 2 (stocked 1 2 1 1 ∷ stocked 2 1 1 1 ∷ stocked 2 2 1 1 ∷ stocked 3 1 1 1 ∷ stocked 3 3 1 1 ∷ []) ((1 ⨯ 5) ∷ [])

-- plans of BOTTOM and of TOP are equally short
unfoldable pub bottom_or_top : Policy → Job
bottom_or_top =
    own_job 3 2 2 1 2 2 3 (stocked 1 1 2 1 ∷ stocked 1 2 1 1 ∷ stocked 2 1 1 1 ∷ stocked 2 2 2 1 ∷ stocked 3 1 1 1 ∷ [])
    ((1 ⨯ 3) ∷ (2 ⨯ 1) ∷ [])

-- plans of TOP and of GAP are
unfoldable pub top_or_gap : Policy → Job
top_or_gap =
    own_job 3 2 3 3 2 3 1 (stocked 1 1 1 1 ∷ stocked 1 2 2 1 ∷ stocked 2 1 2 1 ∷ stocked 2 2 2 1 ∷ stocked 3 1 2 1 ∷ stocked 3 2 1 1 ∷ [])
    ((1 ⨯ 2) ∷ (2 ⨯ 4) ∷ [])

-- plans of GAP and of ONCE are
unfoldable pub gap_or_once : Policy → Job
gap_or_once =
    own_job 3 3 3 3 1 1 1 (stocked 1 2 2 1 ∷ stocked 1 3 2 1 ∷ stocked 2 1 1 1 ∷ stocked 2 3 2 1 ∷ stocked 3 2 2 1 ∷ stocked 3 3 2 1 ∷ [])
    ((1 ⨯ 1) ∷ (2 ⨯ 5) ∷ [])

-- passages 02 and 20 are, and the depot is in the middle
unfoldable pub front_or_back : Policy → Job
front_or_back =
    own_job 3 3 2 1 2 2 2 (stocked 1 1 1 1 ∷ stocked 1 3 2 1 ∷ stocked 2 1 2 1 ∷ stocked 2 2 1 1 ∷ stocked 2 3 2 1 ∷ stocked 3 2 2 1 ∷ [])
    ((1 ⨯ 2) ∷ (2 ⨯ 4) ∷ [])

-- its walk
unfoldable pub left_first : List Run
left_first =
    steps Back 4 ∷ steps Left 1 ∷ steps Front 4 ∷ steps Right 2 ∷ steps Back 2 ∷ steps Front 2 ∷ steps Left 1 ∷ []

-- two plans of TOP are equally short
unfoldable pub top_tie : Policy → Job
top_tie =
    own_job 4 2 20 1 1 1 1 (stocked 1 1 1 1 ∷ stocked 2 2 2 1 ∷ stocked 2 1 5 1 ∷ stocked 3 2 3 1 ∷ stocked 3 1 5 1 ∷ stocked 4 1 4 1 ∷ [])
    ((1 ⨯ 1) ∷ (2 ⨯ 1) ∷ (3 ⨯ 1) ∷ (4 ⨯ 1) ∷ (5 ⨯ 1) ∷ [])

-- six cells that any plan must pass, through four aisles, and others of article 2
unfoldable pub with_others : List StockRecord → ℕ → Policy → Job
with_others others n =
    own_job 4 6 1 1 1 1 1
    (stocked 1 3 1 1 ∷ stocked 2 1 1 1 ∷ stocked 2 6 1 1 ∷ stocked 3 1 1 1 ∷ stocked 3 6 1 1 ∷ stocked 4 3 1 1 ∷ others)
    ((1 ⨯ 6) ∷ (2 ⨯ n) ∷ [])

-- two plans of GAP are equally short: GAP 1 6 and GAP 3 6, or GAP 2 5 and GAP 1 6
unfoldable pub gap_by_front : Policy → Job
gap_by_front = with_others (stocked 2 2 2 1 ∷ stocked 2 5 2 1 ∷ stocked 3 3 2 2 ∷ []) 2

-- and here GAP 1 5 and GAP 1 6, or GAP 1 6 and GAP 1 5
unfoldable pub gap_by_back : Policy → Job
gap_by_back = with_others (stocked 2 5 2 1 ∷ stocked 3 5 2 1 ∷ []) 1

-- the same job with a post after every k cells, each u wide
unfoldable pub posted : ℕ → ℕ → (Policy → Job) → Policy → Job
posted k u job policy = job_with_posts (Every k u) (job policy)

-- cell 3 of both aisles is wanted
unfoldable pub third_cells : Policy → Job
third_cells = own_job 2 4 2 1 4 4 1 (stocked 1 3 1 1 ∷ stocked 2 3 2 1 ∷ []) ((1 ⨯ 1) ∷ (2 ⨯ 1) ∷ [])

-- in aisle 2 the last cell is wanted, which lies before the middle
unfoldable pub before_middle : Policy → Job
before_middle =
    own_job 3 2 1 1 3 1 1 (stocked 1 1 1 1 ∷ stocked 2 2 2 1 ∷ stocked 3 1 3 1 ∷ []) ((1 ⨯ 1) ∷ (2 ⨯ 1) ∷ (3 ⨯ 1) ∷ [])

-- in aisle 2 both cells are wanted, and both lie behind the middle
unfoldable pub behind_middle : Policy → Job
behind_middle =
    own_job 3 2 5 1 3 1 1 (stocked 1 1 1 1 ∷ stocked 2 1 2 1 ∷ stocked 2 2 4 1 ∷ stocked 3 1 3 1 ∷ []) one_each

-- store β whose end aisles are both entered, for the articles 3 and 4, and the rest of its stock and its list
unfoldable pub beta_with : List StockRecord → List OrderLine → Policy → Job
beta_with stock lines = own_job 3 5 1 1 1 1 1 (stocked 1 3 3 1 ∷ stocked 3 3 4 1 ∷ stock) ((3 ⨯ 1) ∷ (4 ⨯ 1) ∷ lines)

-- in aisle 2 these cells are wanted
unfoldable pub cells_between : List ℕ → Policy → Job
cells_between cells = beta_with (map (λ c. stocked 2 c 1 1) cells) ((1 ⨯ length cells) ∷ [])

-- the cells 1 to 4, the last of which lies behind the middle
unfoldable pub four_between : Policy → Job
four_between = cells_between (1 ∷ 2 ∷ 3 ∷ 4 ∷ [])

-- in aisle 2 one cell is wanted, and another holds article 9, which is not on the list
unfoldable pub beside_unlisted : ℕ → ℕ → Policy → Job
beside_unlisted wanted other = beta_with (stocked 2 wanted 1 1 ∷ stocked 2 other 9 1 ∷ []) ((1 ⨯ 1) ∷ [])

-- in aisle 2 the first and the last cell are wanted; its cell 3 holds article 5, which aisle 1 has too
unfoldable pub listed_in_gap : Policy → Job
listed_in_gap =
    beta_with (stocked 1 4 5 1 ∷ stocked 2 1 1 1 ∷ stocked 2 3 5 1 ∷ stocked 2 5 2 1 ∷ []) ((1 ⨯ 1) ∷ (2 ⨯ 1) ∷ (5 ⨯ 1) ∷ [])

-- a plan of store β that goes through the end aisles
unfoldable pub between_ends : Bool → Action → Expected
between_ends b a = allowing b (Once ∷ a ∷ Once ∷ []) (P11 ∷ P11 ∷ [])

-- an aisle alone, its cell 4 of five wanted
unfoldable pub one_aisle : Policy → Job
one_aisle = own_job 1 5 1 1 1 1 1 (stocked 1 4 1 1 ∷ []) ((1 ⨯ 1) ∷ [])

-- jobs with two faults each: the layout and the stock; the stock, and a cell twice; a cell twice, and the list; an article twice, and the weight
unfoldable pub wrong_layout : Policy → Job
wrong_layout = own_job 2 3 2 1 2 5 3 (stocked 3 1 7 1 ∷ []) ((7 ⨯ 1) ∷ [])

unfoldable pub wrong_stock : Policy → Job
wrong_stock = own_job 2 3 2 1 2 5 1 (stocked 1 1 7 1 ∷ stocked 1 1 7 256 ∷ []) ((7 ⨯ 1) ∷ [])

unfoldable pub shared_cell : Policy → Job
shared_cell = own_job 2 3 2 1 2 5 1 (stocked 1 1 7 1 ∷ stocked 1 1 9 1 ∷ []) ((0 ⨯ 1) ∷ [])

unfoldable pub shared_article : Policy → Job
shared_article = own_job 2 3 2 1 2 5 1 (stocked 1 1 7 200 ∷ []) ((7 ⨯ 99) ∷ (7 ⨯ 99) ∷ [])

-- plans that enter aisle 1 of store α, which holds article 7 alone
unfoldable pub both_bottom : Bool → Expected
both_bottom b = allowing b (Bottom 1 ∷ Bottom 1 ∷ []) (P02 ∷ [])

unfoldable pub both_once : Bool → Expected
both_once b = allowing b (Once ∷ Once ∷ []) (P11 ∷ [])

-- eight lines, one each of the articles 1 to 8, and nine
unfoldable pub eight_lines : List OrderLine
eight_lines = (1 ⨯ 1) ∷ (2 ⨯ 1) ∷ (3 ⨯ 1) ∷ (4 ⨯ 1) ∷ (5 ⨯ 1) ∷ (6 ⨯ 1) ∷ (7 ⨯ 1) ∷ (8 ⨯ 1) ∷ []

unfoldable pub nine_lines : List OrderLine
nine_lines = (9 ⨯ 1) ∷ eight_lines

-- plans of store α for an empty list: one that treads only the front cross-aisle, and one that does not touch the depot
unfoldable pub front_only : Bool → Expected
front_only b = allowing b (Void ∷ Void ∷ []) (P02 ∷ [])

unfoldable pub away_from_depot : Bool → Expected
away_from_depot b = allowing b (Void ∷ Bottom 1 ∷ []) (P00 ∷ [])

-- cases of our own: each pins what none of the fourteen does
unfoldable pub own_cases : List Case
own_cases =
    under Exact (alpha ((9 ⨯ 1) ∷ [])) (both_bottom true)  -- EXACT may enter an aisle that holds no article of the list
    ∷ under Return (alpha ((9 ⨯ 1) ∷ [])) (both_bottom false)  -- the others may not
    ∷ under Composite (alpha ((9 ⨯ 1) ∷ [])) (both_bottom false)
    ∷ under Exact (alpha ((9 ⨯ 1) ∷ [])) (both_once true)
    ∷ under Traversal (alpha ((9 ⨯ 1) ∷ [])) (both_once false)
    ∷ under Midpoint (alpha ((9 ⨯ 1) ∷ [])) (both_once false)
    ∷ under_every wrong_layout (refusal 2)  -- the first cause that applies
    ∷ under_every wrong_stock (refusal 3)
    ∷ under_every shared_cell (refusal 4)
    ∷ under_every shared_article (refusal 6)
    ∷ under Midpoint midway_front (tour 16 (Once ∷ Bottom 2 ∷ Once ∷ []) (P11 ∷ P11 ∷ []))  -- a cell midway serves the front part
    ∷ under Midpoint midway_back (tour 16 (Once ∷ Top 2 ∷ Once ∷ []) (P11 ∷ P11 ∷ []))  -- and the back part
    ∷ under Midpoint far_back (tour 24 (Once ∷ Bottom 3 ∷ Once ∷ []) (P11 ∷ P11 ∷ []))  -- the halves go by distance
    ∷ under Composite near_back (tour 26 (Once ∷ Once ∷ Top 2 ∷ []) (P11 ∷ P20 ∷ []))  -- COMPOSITE has 20
    ∷ under Exact both_ends (tour 38 (Once ∷ Once ∷ Gap 1 3 ∷ []) (P11 ∷ P22 ∷ []))  -- EXACT has 22
    ∷ under Exact bottom_or_top (tour 22 (Bottom 2 ∷ Bottom 1 ∷ Bottom 1 ∷ []) (P02 ∷ P02 ∷ []))  -- BOTTOM before TOP
    ∷ under Composite top_tie (tour 56 (Once ∷ Top 2 ∷ Top 1 ∷ Once ∷ []) (P11 ∷ P11 ∷ P11 ∷ []))  -- TOP: large i first
    ∷ under Exact top_or_gap (tour 38 (Once ∷ Top 1 ∷ Once ∷ []) (P11 ∷ P11 ∷ []))  -- TOP before GAP
    ∷ under Midpoint gap_by_front (tour 32 (Once ∷ Gap 1 6 ∷ Gap 3 6 ∷ Once ∷ []) (P11 ∷ P11 ∷ P11 ∷ []))  -- GAP: small h first
    ∷ under Midpoint gap_by_back (tour 30 (Once ∷ Gap 1 5 ∷ Gap 1 6 ∷ Once ∷ []) (P11 ∷ P11 ∷ P11 ∷ []))  -- then small i
    ∷ under Exact gap_or_once (tour 32 (Once ∷ Gap 1 3 ∷ Once ∷ []) (P11 ∷ P11 ∷ []))  -- GAP before ONCE
    ∷ under Composite front_or_back (walked 26 (Once ∷ Once ∷ Bottom 2 ∷ []) (P11 ∷ P02 ∷ []) left_first)  -- 02 before 20; L before R
    ∷ under_every (alpha eight_lines) (weighing 256 8)  -- eight lines pass 5
    ∷ under_every (alpha nine_lines) (refusal 5)  -- 5 still covers counts above 8
    ∷ under_every (alpha []) (front_only true)  -- the plan that treads nothing is lawful "too": the others stay lawful
    ∷ under Exact (alpha []) (away_from_depot false)  -- and nothing else becomes lawful
    ∷ under Exact third_cells (tour 24 (Bottom 3 ∷ Bottom 3 ∷ []) (P02 ∷ []))  -- without posts
    ∷ under Exact (posted 2 4 third_cells) (tour 34 (Once ∷ Once ∷ []) (P11 ∷ []))  -- a post before cell 3, none behind the last cell
    ∷ under Exact (posted 24 10 third_cells) (tour 24 (Bottom 3 ∷ Bottom 3 ∷ []) (P02 ∷ []))  -- k may exceed C
    ∷ under Midpoint before_middle (tour 18 (Once ∷ Bottom 2 ∷ Once ∷ []) (P11 ∷ P11 ∷ []))  -- without posts
    ∷ under Midpoint (posted 1 2 before_middle) (tour 24 (Once ∷ Top 2 ∷ Once ∷ []) (P11 ∷ P11 ∷ []))  -- a post moves it over the middle
    ∷ under Midpoint behind_middle (tour 30 (Once ∷ Top 1 ∷ Once ∷ []) (P11 ∷ P11 ∷ []))  -- without posts
    ∷ under Midpoint (posted 1 2 behind_middle) (tour 42 (Once ∷ Gap 1 2 ∷ Once ∷ []) (P11 ∷ P11 ∷ []))  -- the middle moves over one
    ∷ under_every (posted 0 0 third_cells) (refusal 2)  -- 2 covers k and u: k 1 to 24, also where u is 0
    ∷ under_every (posted 25 0 third_cells) (refusal 2)
    ∷ under_every (posted 24 11 third_cells) (refusal 2)  -- u 0 to 10, also where k exceeds C
    ∷ []

-- cases of request #104: LARGEST shorter than MIDPOINT, and as long; its rule for aisles between, each row against a misreading
unfoldable pub largest_cases : List Case
largest_cases =
    under Midpoint four_between (tour 26 (Once ∷ Gap 2 3 ∷ Once ∷ []) (P11 ∷ P11 ∷ []))
    ∷ under Largest four_between (tour 24 (Once ∷ Bottom 4 ∷ Once ∷ []) (P11 ∷ P11 ∷ []))  -- shorter: no halves for BOTTOM
    ∷ under Midpoint beta (tour 20 (Once ∷ Gap 1 5 ∷ Once ∷ []) (P11 ∷ P11 ∷ []))
    ∷ under Largest beta (tour 20 (Once ∷ Gap 1 5 ∷ Once ∷ []) (P11 ∷ P11 ∷ []))  -- as long
    ∷ under Largest (cells_between (2 ∷ 3 ∷ 4 ∷ 5 ∷ [])) (between_ends true (Top 2))  -- no halves for TOP
    ∷ under Largest (cells_between (1 ∷ 2 ∷ 3 ∷ 4 ∷ 5 ∷ [])) (between_ends true (Gap 1 2))  -- nor for GAP
    ∷ under Largest (cells_between (3 ∷ [])) (tour 22 (Once ∷ Bottom 3 ∷ Once ∷ []) (P11 ∷ P11 ∷ []))  -- the gap may equal a stop distance
    ∷ under Largest (cells_between (3 ∷ [])) (between_ends true (Top 3))  -- at the back too
    ∷ under Largest (cells_between (2 ∷ 4 ∷ [])) (between_ends true (Gap 2 4))  -- and at both ends
    ∷ under Largest (cells_between (4 ∷ [])) (between_ends false (Bottom 4))  -- the front crossing is a stop, a passed cell without stock is none
    ∷ under Largest (cells_between (2 ∷ [])) (between_ends false (Top 2))  -- so is the back crossing
    ∷ under Largest (beside_unlisted 4 2) (between_ends false (Bottom 4))  -- a passed cell with another article is no stop
    ∷ under Largest (cells_between (1 ∷ 4 ∷ [])) (between_ends false (Bottom 4))  -- every distance counts, the last one
    ∷ under Largest (cells_between (3 ∷ 4 ∷ [])) (between_ends false (Bottom 4))  -- and the first
    ∷ under Largest (cells_between (3 ∷ 5 ∷ [])) (between_ends false (Gap 3 5))  -- on the front part of a GAP
    ∷ under Largest (cells_between (1 ∷ 3 ∷ [])) (between_ends false (Gap 1 3))  -- and on its back part
    ∷ under Midpoint (cells_between (1 ∷ [])) (between_ends true (Bottom 2))  -- MIDPOINT may turn at any cell
    ∷ under Largest (cells_between (1 ∷ [])) (between_ends false (Bottom 2))  -- LARGEST turns at cells with listed articles
    ∷ under Largest (beside_unlisted 1 2) (between_ends false (Bottom 2))  -- another article is not enough
    ∷ under Largest (cells_between (5 ∷ [])) (between_ends false (Top 4))
    ∷ under Largest (cells_between (5 ∷ [])) (between_ends false (Gap 1 5))  -- the front turn of a GAP
    ∷ under Largest (cells_between (1 ∷ [])) (between_ends false (Gap 1 5))  -- and its back turn
    ∷ under Largest listed_in_gap (tour 20 (Once ∷ Gap 1 5 ∷ Once ∷ []) (P11 ∷ P11 ∷ []))  -- over a listed cell in the untrodden part
    ∷ under Largest (posted 4 2 (cells_between (4 ∷ []))) (between_ends true (Bottom 4))  -- the untrodden part goes past the posts
    ∷ under Largest (posted 2 2 (cells_between (4 ∷ []))) (between_ends false (Bottom 4))  -- and so do the stop distances
    ∷ under Largest one_aisle (tour 8 (Bottom 4 ∷ []) [])  -- the first and the last entered aisle are not bound
    ∷ under Largest (alpha ((9 ⨯ 1) ∷ [])) (both_once false)  -- no aisle without a listed article is entered
    ∷ []

-- stops of aisle 2 of `listed_in_gap`, upwards: the crossing and the passed listed cells, and no listed cell in the untrodden part
unfoldable pub stop_lists : List (List ℕ × List ℕ)
stop_lists =
    (stops_on (listed_in_gap Largest) 2 (from_front 1), 0 ∷ 1 ∷ [])
    ∷ (stops_on (listed_in_gap Largest) 2 (from_front 4), 0 ∷ 1 ∷ 3 ∷ [])
    ∷ (stops_on (listed_in_gap Largest) 2 (from_back 5), 5 ∷ 6 ∷ [])
    ∷ (stops_on (listed_in_gap Largest) 2 (from_back 2), 3 ∷ 5 ∷ 6 ∷ [])
    ∷ []

-- store α with other records
unfoldable pub restocked : List StockRecord → List OrderLine → Job
restocked stock lines = record { layout = (alpha [] Exact).layout; policy = Exact; stock = stock; hours = NoHours; lines = lines }

-- cases of request #105: jobs, and how many records the stock test looks at; each row against a misreading
unfoldable pub looked_cases : List (Job × Option ℕ)
looked_cases =
    (alpha ((9 ⨯ 1) ∷ []) Exact, some 2)  -- the record of article 7 above that of article 9 is looked at too, and none below
    ∷ (alpha ((9 ⨯ 5) ∷ []) Exact, some 2)  -- the quantity itself is enough
    ∷ (restocked (stocked 1 1 9 2 ∷ stocked 2 1 9 2 ∷ stocked 2 3 9 5 ∷ []) ((9 ⨯ 3) ∷ []), some 2)  -- so is more than that, and of several records
    ∷ (alpha ((7 ⨯ 2) ∷ []) Exact, some 3)  -- the last record may be needed
    ∷ (alpha ((7 ⨯ 1) ∷ (9 ⨯ 1) ∷ []) Exact, some 3)  -- 1 and 2: added up over the lines, each from the top
    ∷ (restocked (stocked 2 1 9 5 ∷ stocked 1 1 7 1 ∷ []) ((9 ⨯ 1) ∷ []), some 1)  -- the top of the S section, not of the store
    ∷ (alpha ((9 ⨯ 6) ∷ []) Exact, some 3)  -- short: all records, those behind the last of its article too
    ∷ (alpha ((8 ⨯ 1) ∷ []) Exact, some 3)  -- and all where none has its article
    ∷ (alpha ((7 ⨯ 1) ∷ (9 ⨯ 6) ∷ (8 ⨯ 1) ∷ []) Exact, some 4)  -- 1 and 3: the first short line counts, and none behind it
    ∷ (alpha ((9 ⨯ 5) ∷ (7 ⨯ 1) ∷ (8 ⨯ 1) ∷ []) Exact, some 6)  -- 2, 1 and 3: a line that takes all the stock is not short; the list's order
    ∷ (alpha [] Exact, some 0)  -- no line
    ∷ (restocked [] ((9 ⨯ 1) ∷ []), some 0)  -- no record
    ∷ (wrong_layout Exact, none)  -- a refusal before 8 stops the job: 2
    ∷ (wrong_stock Exact, none)  -- 3
    ∷ (shared_cell Exact, none)  -- 4
    ∷ (alpha nine_lines Exact, none)  -- 5
    ∷ (shared_article Exact, none)  -- 6
    ∷ (alpha ((8 ⨯ 255) ∷ (9 ⨯ 1) ∷ []) Exact, none)  -- 7, where a line is short too
    ∷ []

-- each job's stock test looks at so many records
abbrev pub AllLooked : List (Job × Option ℕ) → Type 0
AllLooked [] = Unit {0}
AllLooked (x ∷ rest) = (looked_on x.0 ≡ x.1) × AllLooked rest

-- a window: aisle from to
unfoldable pub window : ℕ → ℕ → ℕ → Window
window j a b = record { aisle = j; from = a; to = b }

-- the same job at a minute of the day, with these windows
unfoldable pub timed : ℕ → List Window → (Policy → Job) → Policy → Job
timed t windows job policy = job_with_hours (At t windows) (job policy)

-- store α with one of article 7, which is in cell 1 of aisle 1, the depot's, and in cell 3 of aisle 2; aisle 1 has these windows
unfoldable pub seven_at : ℕ → List (ℕ × ℕ) → Policy → Job
seven_at t windows = timed t (map (λ (w : ℕ × ℕ). window 1 w.0 w.1) windows) (alpha ((7 ⨯ 1) ∷ []))

-- it is taken from aisle 1, or else from aisle 2
unfoldable pub in_aisle_one : Expected
in_aisle_one = tour 4 (Bottom 1 ∷ Void ∷ []) (P00 ∷ [])

unfoldable pub in_aisle_two : Expected
in_aisle_two = tour 18 (Void ∷ Bottom 3 ∷ []) (P02 ∷ [])

-- store α with 385 records, all in aisle 1
unfoldable pub overstocked : Policy → Job
overstocked = own_job 2 3 2 1 2 5 1 (replicate 385 (stocked 1 1 7 1)) ((9 ⨯ 1) ∷ [])

-- cases of request #106; each row against a misreading
unfoldable pub hours_cases : List Case
hours_cases =
    under_every (seven_at 5 ((5, 6) ∷ [])) in_aisle_one  -- open from the first minute of its window on
    ∷ under_every (seven_at 6 ((5, 6) ∷ [])) in_aisle_two  -- and no longer at its end; the depot may lie at a shut aisle
    ∷ under Exact (seven_at 4 ((5, 6) ∷ [])) in_aisle_two  -- nor before its window
    ∷ under Exact (seven_at 5 ((0, 5) ∷ (5, 9) ∷ [])) in_aisle_one  -- windows may touch
    ∷ under Exact (seven_at 5 ((3, 9) ∷ (0, 4) ∷ (4, 8) ∷ [])) in_aisle_one  -- and overlap: one of them is enough
    ∷ under Exact (seven_at 5 ((4, 8) ∷ (0, 4) ∷ [])) in_aisle_one  -- whichever line it is
    ∷ under Exact (seven_at 5 ((0, 3) ∷ (7, 9) ∷ [])) in_aisle_two  -- between two windows it is shut
    ∷ under Exact (seven_at 1439 []) in_aisle_one  -- an aisle without lines is open; the last minute
    ∷ under Exact (timed 9 (window 2 5 6 ∷ []) (alpha ((7 ⨯ 1) ∷ []))) in_aisle_one  -- whatever lines another aisle has
    ∷ under Exact (timed 6 (window 2 0 9 ∷ window 1 5 6 ∷ []) (alpha ((7 ⨯ 1) ∷ []))) in_aisle_two  -- another aisle's window does not open it
    ∷ under Exact (seven_at 1439 ((1439, 1440) ∷ [])) in_aisle_one  -- to may be 1440
    ∷ under Exact (seven_at 0 (replicate 64 (0, 1))) in_aisle_one  -- 64 lines
    ∷ under_every (timed 6 (window 1 5 6 ∷ []) (alpha ((7 ⨯ 2) ∷ []))) (refusal 8)  -- 8 counts open aisles only
    ∷ under_every (timed 6 (window 2 5 6 ∷ []) (alpha ((9 ⨯ 1) ∷ []))) (refusal 8)  -- all aisles with the article are shut
    ∷ under_every (timed 6 (window 1 0 9 ∷ window 2 5 6 ∷ []) (alpha ((9 ⨯ 1) ∷ []))) (refusal 8)  -- whatever lines another aisle has
    ∷ under Exact (timed 5 (window 1 5 6 ∷ []) (alpha ((9 ⨯ 1) ∷ []))) (both_once true)  -- EXACT may walk through an open aisle for nothing
    ∷ under Exact (timed 6 (window 1 5 6 ∷ []) (alpha ((9 ⨯ 1) ∷ []))) (both_once false)  -- but not through a shut one
    ∷ under_every (seven_at 1440 []) (refusal 12)  -- a minute above 1439
    ∷ under_every (seven_at 0 (replicate 65 (0, 1))) (refusal 12)  -- 65 lines
    ∷ under_every (timed 0 (window 0 0 1 ∷ []) (alpha [])) (refusal 12)  -- aisle 0
    ∷ under_every (timed 0 (window 3 0 1 ∷ []) (alpha [])) (refusal 12)  -- aisle 3 of two
    ∷ under Exact (timed 0 (window 2 0 1 ∷ []) (alpha ((9 ⨯ 1) ∷ []))) (tour 14 (Void ∷ Bottom 1 ∷ []) (P02 ∷ []))  -- aisle 2 of two
    ∷ under_every (seven_at 5 ((5, 5) ∷ [])) (refusal 12)  -- from is not below to
    ∷ under_every (seven_at 5 ((0, 1441) ∷ [])) (refusal 12)  -- to above 1440
    ∷ under_every (seven_at 5 ((0, 9) ∷ (7, 6) ∷ [])) (refusal 12)  -- every line counts
    ∷ under_every (timed 1440 [] shared_cell) (refusal 4)  -- 12 is tried after 4
    ∷ under_every (timed 1440 [] (alpha nine_lines)) (refusal 12)  -- and before 5
    ∷ under_every (timed 6 (window 1 5 6 ∷ []) wrong_stock) (refusal 3)  -- 3 goes by the records of shut aisles too
    ∷ under_every (timed 6 (window 1 5 6 ∷ []) overstocked) (refusal 3)  -- and so does its count
    ∷ under_every (timed 6 (window 1 5 6 ∷ []) shared_cell) (refusal 4)  -- and so does 4
    ∷ []

-- of jobs with hours, the records that the stock test looks at
unfoldable pub hours_looked : List (Job × Option ℕ)
hours_looked =
    (seven_at 6 ((5, 6) ∷ []) Exact, some 3)  -- the record of a shut aisle is looked at and holds nothing
    ∷ (seven_at 5 ((5, 6) ∷ []) Exact, some 1)  -- that of an open one holds
    ∷ (seven_at 1440 [] Exact, none)  -- 12 stops the job before 8
    ∷ []

-- the file of case 1 with these bytes between its sections S and D
unfoldable pub before_list : List ℕ → List ℕ
before_list bytes =
    let job = alpha ((9 ⨯ 1) ∷ []) Exact in
    layout_section_text job.layout Exact
    ++ (section_text letter_s record_text job.stock ++ (bytes ++ section_text letter_d line_text job.lines))

-- what the program prints where there is no job file
unfoldable pub no_job_file : List ℕ
no_job_file = 82 ∷ 32 ∷ 49 ∷ 10 ∷ 49 ∷ 10 ∷ []  -- R 1, 1

-- texts with the sections M and H, the stops of a shut aisle, and where the sections may stand
unfoldable pub hours_texts : List (List ℕ × List ℕ)
hours_texts =
    (hours_text (At 5 (window 1 2 3 ∷ [])), 77 ∷ 32 ∷ 49 ∷ 10 ∷ 53 ∷ 10 ∷ 72 ∷ 32 ∷ 49 ∷ 10 ∷ 49 ∷ 32 ∷ 50 ∷ 32 ∷ 51 ∷ 10 ∷ [])  -- M 1, 5, H 1, 1 2 3
    ∷ (job_text (timed 5 [] (alpha ((9 ⨯ 1) ∷ [])) Exact), before_list (77 ∷ 32 ∷ 49 ∷ 10 ∷ 53 ∷ 10 ∷ 72 ∷ 32 ∷ 48 ∷ 10 ∷ []))  -- M 1, 5, H 0 between S and D
    ∷ (stops_on (timed 6 (window 2 5 6 ∷ []) listed_in_gap Largest) 2 (from_front 4), 0 ∷ [])  -- no cell of a shut aisle is a stop
    ∷ (output (before_list (77 ∷ 32 ∷ 49 ∷ 10 ∷ 49 ∷ 52 ∷ 52 ∷ 48 ∷ 10 ∷ 72 ∷ 32 ∷ 48 ∷ 10 ∷ [])), 82 ∷ 32 ∷ 49 ∷ 10 ∷ 49 ∷ 50 ∷ 10 ∷ [])  -- R 1, 12: M 1, 1440, H 0
    ∷ (output (before_list (77 ∷ 32 ∷ 48 ∷ 10 ∷ 72 ∷ 32 ∷ 48 ∷ 10 ∷ [])), no_job_file)  -- M 0, H 0
    ∷ (output (before_list (77 ∷ 32 ∷ 50 ∷ 10 ∷ 53 ∷ 10 ∷ 54 ∷ 10 ∷ 72 ∷ 32 ∷ 48 ∷ 10 ∷ [])), no_job_file)  -- M 2, 5, 6, H 0
    ∷ (output (before_list (77 ∷ 32 ∷ 49 ∷ 10 ∷ 53 ∷ 10 ∷ [])), no_job_file)  -- M 1, 5
    ∷ (output (before_list (72 ∷ 32 ∷ 48 ∷ 10 ∷ [])), no_job_file)  -- H 0
    ∷ (output (before_list (72 ∷ 32 ∷ 48 ∷ 10 ∷ 77 ∷ 32 ∷ 49 ∷ 10 ∷ 53 ∷ 10 ∷ [])), no_job_file)  -- H 0, M 1, 5
    ∷ []

-- request #107's own store, with its depot at aisle d
unfoldable pub door_at : ℕ → Policy → Job
door_at d = own_job 3 5 1 1 1 1 d (stocked 1 5 3 1 ∷ stocked 2 1 1 1 ∷ stocked 3 1 4 1 ∷ []) ((1 ⨯ 1) ∷ (3 ⨯ 1) ∷ (4 ⨯ 1) ∷ [])

-- a store like it with m aisles: in each of these aisles this cell is wanted, for an article that has the aisle's number
unfoldable pub wanted_in : (m d : ℕ) → List (ℕ × ℕ) → Policy → Job
wanted_in m d places =
    own_job m 5 1 1 1 1 d (map (λ (x : ℕ × ℕ). stocked x.0 x.1 x.0 1) places) (map (λ (x : ℕ × ℕ). x.0 ⨯ 1) places)

-- the last cell of aisle 1 and the first of the two beside it
unfoldable pub three_places : List (ℕ × ℕ)
three_places = (1, 5) ∷ (2, 1) ∷ (3, 1) ∷ []

-- four aisles, the depot at the last; aisle 1 has what the list wants of aisle 2
unfoldable pub spare_aisle : Policy → Job
spare_aisle =
    own_job 4 5 1 1 1 1 4 (stocked 1 5 2 1 ∷ stocked 2 5 2 1 ∷ stocked 3 1 3 1 ∷ stocked 4 1 4 1 ∷ []) ((2 ⨯ 1) ∷ (3 ⨯ 1) ∷ (4 ⨯ 1) ∷ [])

-- cases of request #107; each row against a misreading
unfoldable pub door_cases : List Case
door_cases =
    under Traversal (door_at 3) (tour 26 (Bottom 5 ∷ Once ∷ Once ∷ []) (P02 ∷ P11 ∷ []))  -- from the right-hand door the leftmost is walked back
    ∷ under Traversal (door_at 2) (tour 18 (Once ∷ Once ∷ Bottom 1 ∷ []) (P11 ∷ P02 ∷ []))  -- the middle aisle of an odd m keeps the rightmost rule
    ∷ under Traversal (door_at 1) (tour 18 (Once ∷ Once ∷ Bottom 1 ∷ []) (P11 ∷ P02 ∷ []))  -- and so does the left-hand door
    ∷ under Traversal (wanted_in 4 3 ((1, 5) ∷ (2, 1) ∷ (4, 1) ∷ [])) (tour 28 (Bottom 5 ∷ Once ∷ Void ∷ Once ∷ []) (P02 ∷ P11 ∷ P11 ∷ []))  -- d need not be m: 6 exceeds 5
    ∷ under Traversal (wanted_in 4 2 ((1, 5) ∷ (2, 1) ∷ (4, 1) ∷ [])) (tour 20 (Once ∷ Once ∷ Void ∷ Bottom 1 ∷ []) (P11 ∷ P02 ∷ P02 ∷ []))  -- 4 does not
    ∷ under Traversal (wanted_in 16 9 three_places) (tour 38 (Bottom 5 ∷ Once ∷ Once ∷ replicate 13 Void) (P02 ∷ P11 ∷ replicate 6 P02 ++ replicate 7 P00))  -- 18 exceeds 17
    ∷ under Traversal (wanted_in 16 8 three_places) (tour 28 (Once ∷ Once ∷ Bottom 1 ∷ replicate 13 Void) (P11 ∷ replicate 6 P02 ++ replicate 8 P00))  -- 16 does not exceed 17
    ∷ under Traversal spare_aisle (tour 26 (Void ∷ Bottom 5 ∷ Once ∷ Once ∷ []) (P00 ∷ P02 ∷ P11 ∷ []))  -- the leftmost entered, not the leftmost that could be
    ∷ under Traversal (wanted_in 3 3 ((1, 1) ∷ (2, 1) ∷ [])) (tour 16 (Once ∷ Once ∷ Void ∷ []) (P11 ∷ P02 ∷ []))  -- an even number: all are ONCE
    ∷ under Traversal (wanted_in 6 4 ((5, 1) ∷ (6, 1) ∷ [])) (tour 16 (Void ∷ Void ∷ Void ∷ Void ∷ Once ∷ Once ∷ []) (P00 ∷ P00 ∷ P00 ∷ P02 ∷ P11 ∷ []))  -- two right of the depot
    ∷ under Traversal (wanted_in 4 4 ((1, 1) ∷ (2, 1) ∷ (3, 1) ∷ (4, 1) ∷ [])) (tour 30 (Once ∷ Once ∷ Once ∷ Once ∷ []) (P11 ∷ P02 ∷ P11 ∷ []))  -- two rounds
    ∷ under Traversal (wanted_in 5 4 ((1, 2) ∷ (2, 1) ∷ (3, 1) ∷ (4, 1) ∷ (5, 1) ∷ [])) (tour 36 (Bottom 2 ∷ Once ∷ Once ∷ Once ∷ Once ∷ []) (P02 ∷ P11 ∷ P02 ∷ P11 ∷ []))  -- the others ONCE
    ∷ under Traversal (wanted_in 3 3 ((1, 5) ∷ [])) (tour 14 (Bottom 5 ∷ Void ∷ Void ∷ []) (P02 ∷ P02 ∷ []))  -- a single aisle is walked back
    ∷ under Traversal (wanted_in 4 3 ((4, 2) ∷ [])) (tour 6 (Void ∷ Void ∷ Void ∷ Bottom 2 ∷ []) (P00 ∷ P00 ∷ P02 ∷ []))  -- also right of the depot
    ∷ under Traversal (door_at 3) (allowing false (Once ∷ Once ∷ Bottom 1 ∷ []) (P11 ∷ P02 ∷ []))  -- not the rightmost: 18 before the request
    ∷ under Traversal (door_at 3) (allowing false (Once ∷ Bottom 1 ∷ Once ∷ []) (P11 ∷ P11 ∷ []))  -- nor one between
    ∷ under Traversal (door_at 3) (allowing false (Bottom 5 ∷ Bottom 1 ∷ Bottom 1 ∷ []) (P02 ∷ P02 ∷ []))  -- and only one
    ∷ under Traversal (door_at 2) (allowing false (Bottom 5 ∷ Once ∷ Once ∷ []) (P02 ∷ P11 ∷ []))  -- from the middle not the leftmost
    ∷ under Midpoint (door_at 3) (tour 18 (Once ∷ Bottom 1 ∷ Once ∷ []) (P11 ∷ P11 ∷ []))  -- TRAVERSAL's rule alone
    ∷ []

-- request #108's own store
unfoldable pub fewer_store : Policy → Job
fewer_store = own_job 3 3 2 1 2 5 2 (stocked 1 3 7 2 ∷ stocked 2 1 7 1 ∷ stocked 3 1 7 1 ∷ []) ((7 ⨯ 2) ∷ [])

-- there aisle 1 is left out
unfoldable pub beside_aisle_one : Expected
beside_aisle_one = tour 18 (Void ∷ Bottom 1 ∷ Bottom 1 ∷ []) (P00 ∷ P02 ∷ [])

-- aisles of one cell, w apart, the depot at the last: aisle 1 has all that the list wants, each of the others half of it
unfoldable pub fewer_apart : ℕ → Policy → Job
fewer_apart w = own_job 3 1 1 1 1 w 3 (stocked 1 1 7 2 ∷ stocked 2 1 7 1 ∷ stocked 3 1 7 1 ∷ []) ((7 ⨯ 2) ∷ [])

-- there aisle 1 alone is entered; the others, by this action and with this passage between them, are as near
unfoldable pub aisle_one_alone : Action → Passage → Expected
aisle_one_alone a p = tied 6 (Bottom 1 ∷ Void ∷ Void ∷ []) (P02 ∷ P02 ∷ []) (Void ∷ a ∷ a ∷ []) (P00 ∷ p ∷ [])

-- article 7 is in both cells of aisle 1, and in aisle 2 on the way to article 8 in aisle 3
unfoldable pub past_or_into : Policy → Job
past_or_into = own_job 3 2 1 1 1 1 1 (stocked 1 1 7 1 ∷ stocked 1 2 7 1 ∷ stocked 2 1 7 1 ∷ stocked 3 1 8 1 ∷ []) ((7 ⨯ 2) ∷ (8 ⨯ 1) ∷ [])

-- there aisle 2 is passed by; this plan is as long
unfoldable pub past_aisle_two : List Action → List Passage → Expected
past_aisle_two others gaps = tied 10 (Bottom 2 ∷ Void ∷ Bottom 1 ∷ []) (P02 ∷ P02 ∷ []) others gaps

-- cases of request #108; each row against a misreading
unfoldable pub fewer_cases : List Case
fewer_cases =
    under Exact fewer_store (tied 18 (Bottom 3 ∷ Void ∷ Void ∷ []) (P02 ∷ P00 ∷ []) (Void ∷ Bottom 1 ∷ Bottom 1 ∷ []) (P00 ∷ P02 ∷ []))  -- fewer aisles before document 01's order
    ∷ under Return (fewer_apart 1) (aisle_one_alone (Bottom 1) P02)  -- so under every policy
    ∷ under Composite (fewer_apart 1) (aisle_one_alone (Bottom 1) P02)
    ∷ under Traversal (fewer_apart 1) (aisle_one_alone Once P11)  -- the aisles count, not the turns in them
    ∷ under Midpoint (fewer_apart 1) (aisle_one_alone Once P11)
    ∷ under Largest (fewer_apart 1) (aisle_one_alone Once P11)
    ∷ under_every (fewer_apart 2) (long 8)  -- the length before the aisles: two are entered
    ∷ under_every (fewer_apart 2) (allowing true (Bottom 1 ∷ Void ∷ Void ∷ []) (P02 ∷ P02 ∷ []))  -- though one would do, with 10
    ∷ under Exact past_or_into (past_aisle_two (Bottom 1 ∷ Bottom 1 ∷ Bottom 1 ∷ []) (P02 ∷ P02 ∷ []))  -- a VOID aisle between entered ones is not entered
    ∷ under Exact past_or_into (past_aisle_two (Once ∷ Void ∷ Once ∷ []) (P11 ∷ P11 ∷ []))  -- of the two among these three that enter as few, the first
    ∷ under Exact (timed 6 (window 1 5 6 ∷ []) fewer_store) beside_aisle_one  -- aisle 1 is shut
    ∷ under Exact (posted 2 1 fewer_store) beside_aisle_one  -- cell 3 of aisle 1 is further, by a post
    ∷ []

-- a job with a third line in the L section: k u and the depot's side
unfoldable pub sided : ℕ → ℕ → Side → (Policy → Job) → Policy → Job
sided k u side job policy = job_with_posts (Sided k u side) (job policy)

-- the depot at the back, and no posts
unfoldable pub from_behind : (Policy → Job) → Policy → Job
from_behind job = sided 1 0 BackSide job

-- store α with article 9 to fetch, from the back: the single aisle is TOP
unfoldable pub top_of_two : Expected
top_of_two = tour 18 (Void ∷ Top 1 ∷ []) (P20 ∷ [])

-- a store like β, its aisles longer behind the cells: the cells wanted in the aisles 1 and 3 lie midway
unfoldable pub midway_cells : Policy → Job
midway_cells = own_job 3 5 1 1 3 1 3 (stocked 1 4 3 1 ∷ stocked 2 1 1 1 ∷ stocked 2 5 2 1 ∷ stocked 3 4 4 1 ∷ []) one_each

-- that store turned front to back
unfoldable pub midway_turned : Policy → Job
midway_turned = from_behind (own_job 3 5 3 1 1 1 3 (stocked 1 2 3 1 ∷ stocked 2 5 1 1 ∷ stocked 2 1 2 1 ∷ stocked 3 2 4 1 ∷ []) one_each)

-- its aisle 1 is walked back from either side, to the cell midway: both ways are as long, and BOTTOM ranks first
unfoldable pub either_way : ℕ → Expected
either_way i = tied 28 (Bottom i ∷ Once ∷ Once ∷ []) (P02 ∷ P11 ∷ []) (Top i ∷ Once ∷ Once ∷ []) (P20 ∷ P11 ∷ [])

-- aisles far longer behind the cells than before them
unfoldable pub long_behind : Policy → Job
long_behind = own_job 3 5 1 1 5 1 1 (stocked 1 3 1 1 ∷ stocked 2 4 2 1 ∷ stocked 3 3 3 1 ∷ []) ((1 ⨯ 1) ∷ (2 ⨯ 1) ∷ (3 ⨯ 1) ∷ [])

-- cases of request #109; each row against a misreading
unfoldable pub back_cases : List Case
back_cases =
    under Composite midway_cells (either_way 4)  -- a turned pair: equally long ..
    ∷ under Composite midway_turned (either_way 2)  -- .. and ranks are not turned over: BOTTOM before TOP, 02 before 20
    ∷ under Exact (from_behind beta) (walked 20 (Once ∷ Gap 1 5 ∷ Once ∷ []) (P11 ∷ P11 ∷ [])
    (steps Front 6 ∷ steps Right 1 ∷ steps Back 1 ∷ steps Front 1 ∷ steps Right 1 ∷ steps Back 6 ∷ steps Left 1 ∷ steps Front 1 ∷ steps Back 1 ∷ steps Left 1 ∷ []))  -- the walk starts at the back; F comes before R
    ∷ under Return (from_behind beta) (tour 26 (Top 3 ∷ Top 1 ∷ Top 3 ∷ []) (P20 ∷ P20 ∷ []))  -- TOP for BOTTOM and 20 for 02
    ∷ under Traversal (from_behind beta) (tour 22 (Once ∷ Once ∷ Top 3 ∷ []) (P11 ∷ P20 ∷ []))  -- the aisle walked back is TOP
    ∷ under Midpoint (from_behind beta) (tour 20 (Once ∷ Gap 1 5 ∷ Once ∷ []) (P11 ∷ P11 ∷ []))
    ∷ under Largest (from_behind beta) (tour 20 (Once ∷ Gap 1 5 ∷ Once ∷ []) (P11 ∷ P11 ∷ []))
    ∷ under Composite (from_behind beta) (tour 22 (Top 3 ∷ Once ∷ Once ∷ []) (P20 ∷ P11 ∷ []))
    ∷ under_every (from_behind (alpha ((9 ⨯ 1) ∷ []))) top_of_two  -- a single aisle is TOP
    ∷ under Traversal (from_behind (door_at 3)) (tour 18 (Top 5 ∷ Once ∷ Once ∷ []) (P20 ∷ P11 ∷ []))  -- left and right stay: from the right-hand door the leftmost
    ∷ under Traversal (from_behind beta) (allowing false (Once ∷ Once ∷ Bottom 3 ∷ []) (P11 ∷ P02 ∷ []))  -- not BOTTOM too
    ∷ under Midpoint (from_behind (wanted_in 3 1 ((1, 3) ∷ (2, 3) ∷ []))) (allowing false (Once ∷ Once ∷ Void ∷ []) (P11 ∷ P02 ∷ []))  -- nor 02
    ∷ under Midpoint (from_behind (wanted_in 3 1 ((1, 3) ∷ (2, 3) ∷ []))) (allowing true (Once ∷ Once ∷ Void ∷ []) (P11 ∷ P20 ∷ []))  -- but 20
    ∷ under Largest (from_behind (wanted_in 3 1 ((1, 3) ∷ (2, 3) ∷ []))) (allowing false (Once ∷ Once ∷ Void ∷ []) (P11 ∷ P02 ∷ []))
    ∷ under Composite (from_behind (wanted_in 3 1 ((1, 3) ∷ (2, 3) ∷ []))) (allowing true (Once ∷ Once ∷ Void ∷ []) (P11 ∷ P02 ∷ []))  -- COMPOSITE names both
    ∷ under Exact (from_behind (wanted_in 3 1 ((1, 3) ∷ []))) (allowing false (Bottom 3 ∷ Void ∷ Void ∷ []) (P00 ∷ P00 ∷ []))  -- the depot's crossing is the back one
    ∷ under Midpoint (from_behind long_behind) (tour 32 (Once ∷ Bottom 4 ∷ Once ∷ []) (P11 ∷ P11 ∷ []))  -- the halves stay: cell 4 is nearer the front
    ∷ under Largest (from_behind (wanted_in 3 1 ((1, 3) ∷ (2, 1) ∷ (3, 3) ∷ []))) (tour 18 (Once ∷ Bottom 1 ∷ Once ∷ []) (P11 ∷ P11 ∷ []))  -- so does the gap rule: a turn at cell 1
    ∷ under_every (from_behind (timed 6 (window 1 5 6 ∷ []) (alpha ((9 ⨯ 1) ∷ [])))) top_of_two  -- the depot at a shut aisle's back
    ∷ under_every (from_behind (alpha [])) (walked 0 (Void ∷ Void ∷ []) (P00 ∷ []) [])  -- an empty list
    ∷ under Return (sided 3 1 BackSide third_cells) (tour 32 (Top 3 ∷ Top 3 ∷ []) (P20 ∷ []))  -- posts are counted from the front: one lies behind cell 3
    ∷ under Return (sided 2 1 FrontSide (alpha ((9 ⨯ 1) ∷ []))) (tour 14 (Void ∷ Bottom 1 ∷ []) (P02 ∷ []))  -- FRONT says what is so without it
    ∷ under_every (sided 0 0 BackSide third_cells) (refusal 2)  -- 2 covers k and u under `L 3` too
    ∷ under_every (sided 25 0 FrontSide third_cells) (refusal 2)
    ∷ under_every (sided 24 11 BackSide third_cells) (refusal 2)
    ∷ []

-- an L section with posts and the depot's side
unfoldable pub three_lines : List ℕ
three_lines =
    76 ∷ 32 ∷ 51 ∷ 10  -- L 3
    ∷ 49 ∷ 32 ∷ 50 ∷ 32 ∷ 51 ∷ 32 ∷ 52 ∷ 32 ∷ 53 ∷ 32 ∷ 54 ∷ 32 ∷ 55 ∷ 32 ∷ 69 ∷ 88 ∷ 65 ∷ 67 ∷ 84 ∷ 10  -- 1 2 3 4 5 6 7 EXACT
    ∷ 56 ∷ 32 ∷ 57 ∷ 10  -- 8 9
    ∷ 66 ∷ 65 ∷ 67 ∷ 75 ∷ 10  -- BACK
    ∷ []

-- a file of three lines in the L section: its second line says that k, its third line has these bytes, and its S and D sections are empty
unfoldable pub third_line : ℕ → List ℕ → List ℕ
third_line k bytes =
    76 ∷ 32 ∷ 51 ∷ 10  -- L 3
    ∷ 49 ∷ 32 ∷ 49 ∷ 32 ∷ 49 ∷ 32 ∷ 49 ∷ 32 ∷ 49 ∷ 32 ∷ 49 ∷ 32 ∷ 49 ∷ 32 ∷ 69 ∷ 88 ∷ 65 ∷ 67 ∷ 84 ∷ 10  -- 1 1 1 1 1 1 1 EXACT
    ∷ (field 32 k ++ (48 ∷ 10 ∷ [])) ++ (bytes  -- k 0
    ++ (83 ∷ 32 ∷ 48 ∷ 10  -- S 0
    ∷ 68 ∷ 32 ∷ 48 ∷ 10  -- D 0
    ∷ []))

-- the page of a plan in one aisle of three cells, the depot at the back: its cell 3 is reached first
unfoldable pub page_from_behind : List ℕ
page_from_behind =
    32 ∷ 49 ∷ 45 ∷ 32 ∷ 51 ∷ 32 ∷ 32 ∷ 32 ∷ 49 ∷ 46 ∷ 46 ∷ 46 ∷ 46 ∷ 46 ∷ 46 ∷ 46 ∷ 46 ∷ 46 ∷ 46 ∷ 32 ∷ 32 ∷ 32 ∷ 32 ∷ 56 ∷ 10  --  1- 3   1..........    8
    ∷ 32 ∷ 49 ∷ 45 ∷ 32 ∷ 49 ∷ 32 ∷ 32 ∷ 32 ∷ 49 ∷ 46 ∷ 46 ∷ 46 ∷ 46 ∷ 46 ∷ 46 ∷ 46 ∷ 46 ∷ 46 ∷ 46 ∷ 32 ∷ 32 ∷ 32 ∷ 32 ∷ 55 ∷ 10  --  1- 1   1..........    7
    ∷ []

-- texts with a third line, and what is no such line
unfoldable pub back_texts : List (List ℕ × List ℕ)
back_texts =
    (layout_section_text (with_posts (Sided 8 9 BackSide) (own_job 1 2 3 4 5 6 7 [] [] Exact).layout) Exact, three_lines)  -- L 3, that line, 8 9, BACK
    ∷ (side_word FrontSide, 70 ∷ 82 ∷ 79 ∷ 78 ∷ 84 ∷ [])  -- FRONT
    ∷ (
      page_of (from_behind (own_job 1 3 1 1 1 1 1 (stocked 1 1 7 1 ∷ stocked 1 3 8 1 ∷ []) ((7 ⨯ 1) ∷ (8 ⨯ 1) ∷ [])) Exact)
          (record { actions = Top 1 ∷ []; passages = [] }),
      page_from_behind,
    )  -- the page follows the walk from the back
    ∷ (output (third_line 25 (66 ∷ 65 ∷ 67 ∷ 75 ∷ 10 ∷ [])), 82 ∷ 32 ∷ 49 ∷ 10 ∷ 50 ∷ 10 ∷ [])  -- R 1, 2: BACK is read, a k of 25 is out of bounds
    ∷ (output (third_line 25 (70 ∷ 82 ∷ 79 ∷ 78 ∷ 84 ∷ 10 ∷ [])), 82 ∷ 32 ∷ 49 ∷ 10 ∷ 50 ∷ 10 ∷ [])  -- R 1, 2: and so is FRONT
    ∷ (output (third_line 25 (82 ∷ 69 ∷ 65 ∷ 82 ∷ 10 ∷ [])), no_job_file)  -- REAR is another word: 1 before any bound
    ∷ (output (third_line 25 (98 ∷ 97 ∷ 99 ∷ 107 ∷ 10 ∷ [])), no_job_file)  -- back
    ∷ (output (third_line 25 (66 ∷ 65 ∷ 67 ∷ 10 ∷ [])), no_job_file)  -- BAC
    ∷ (output (third_line 25 (70 ∷ 82 ∷ 79 ∷ 78 ∷ 84 ∷ 83 ∷ 10 ∷ [])), no_job_file)  -- FRONTS
    ∷ (output (third_line 25 (32 ∷ 66 ∷ 65 ∷ 67 ∷ 75 ∷ 10 ∷ [])), no_job_file)  -- a space before BACK
    ∷ (output (third_line 25 (66 ∷ 65 ∷ 67 ∷ 75 ∷ 32 ∷ 10 ∷ [])), no_job_file)  -- a space behind it
    ∷ (output (third_line 25 (66 ∷ 65 ∷ 67 ∷ 75 ∷ 13 ∷ 10 ∷ [])), no_job_file)  -- a carriage return
    ∷ (output (third_line 25 (10 ∷ [])), no_job_file)  -- nothing
    ∷ (output (third_line 25 []), no_job_file)  -- no third line
    ∷ (output (third_line 25 (66 ∷ 65 ∷ 67 ∷ 75 ∷ 10 ∷ 66 ∷ 65 ∷ 67 ∷ 75 ∷ 10 ∷ [])), no_job_file)  -- two
    ∷ []

-- an L section with posts
unfoldable pub two_lines : List ℕ
two_lines =
    76 ∷ 32 ∷ 50 ∷ 10  -- L 2
    ∷ 49 ∷ 32 ∷ 50 ∷ 32 ∷ 51 ∷ 32 ∷ 52 ∷ 32 ∷ 53 ∷ 32 ∷ 54 ∷ 32 ∷ 55 ∷ 32 ∷ 69 ∷ 88 ∷ 65 ∷ 67 ∷ 84 ∷ 10  -- 1 2 3 4 5 6 7 EXACT
    ∷ 56 ∷ 32 ∷ 57 ∷ 10  -- 8 9
    ∷ []

-- the file of a job with posts, its L section with that digit for its count
unfoldable pub counted : ℕ → List ℕ
counted digit = 76 ∷ 32 ∷ digit ∷ 10 ∷ drop 4 (job_text (posted 2 4 third_cells Exact))

-- a store whose aisle 2 is entered from the back: its cell 3 is reached before its cell 1, and once more on the way back
unfoldable pub from_the_back : Job
from_the_back = own_job 3 3 1 1 1 1 1 (stocked 1 2 1 1 ∷ stocked 2 1 2 1 ∷ stocked 2 3 3 1 ∷ stocked 3 2 4 1 ∷ []) one_each Exact

-- the page of ONCE 11 TOP 1 11 ONCE there
unfoldable pub page_from_the_back : List ℕ
page_from_the_back =
    32 ∷ 49 ∷ 45 ∷ 32 ∷ 50 ∷ 32 ∷ 32 ∷ 32 ∷ 49 ∷ 46 ∷ 46 ∷ 46 ∷ 46 ∷ 46 ∷ 46 ∷ 46 ∷ 46 ∷ 46 ∷ 46 ∷ 32 ∷ 32 ∷ 32 ∷ 32 ∷ 49 ∷ 10  --  1- 2   1..........    1
    ∷ 32 ∷ 50 ∷ 45 ∷ 32 ∷ 51 ∷ 32 ∷ 32 ∷ 32 ∷ 49 ∷ 46 ∷ 46 ∷ 46 ∷ 46 ∷ 46 ∷ 46 ∷ 46 ∷ 46 ∷ 46 ∷ 46 ∷ 32 ∷ 32 ∷ 32 ∷ 32 ∷ 51 ∷ 10  --  2- 3   1..........    3
    ∷ 32 ∷ 50 ∷ 45 ∷ 32 ∷ 49 ∷ 32 ∷ 32 ∷ 32 ∷ 49 ∷ 46 ∷ 46 ∷ 46 ∷ 46 ∷ 46 ∷ 46 ∷ 46 ∷ 46 ∷ 46 ∷ 46 ∷ 32 ∷ 32 ∷ 32 ∷ 32 ∷ 50 ∷ 10  --  2- 1   1..........    2
    ∷ 32 ∷ 51 ∷ 45 ∷ 32 ∷ 50 ∷ 32 ∷ 32 ∷ 32 ∷ 49 ∷ 46 ∷ 46 ∷ 46 ∷ 46 ∷ 46 ∷ 46 ∷ 46 ∷ 46 ∷ 46 ∷ 46 ∷ 32 ∷ 32 ∷ 32 ∷ 32 ∷ 52 ∷ 10  --  3- 2   1..........    4
    ∷ []

-- texts and their bytes: every word, the order of the fields of a line, and what a refusal prints
unfoldable pub texts : List (List ℕ × List ℕ)
texts =
    (layout_text (own_job 1 2 3 4 5 6 7 [] [] Exact).layout Exact, 49 ∷ 32 ∷ 50 ∷ 32 ∷ 51 ∷ 32 ∷ 52 ∷ 32 ∷ 53 ∷ 32 ∷ 54 ∷ 32 ∷ 55 ∷ 32 ∷ 69 ∷ 88 ∷ 65 ∷ 67 ∷ 84 ∷ 10 ∷ [])  -- 1 2 3 4 5 6 7 EXACT
    ∷ (layout_section_text (with_posts (Every 8 9) (own_job 1 2 3 4 5 6 7 [] [] Exact).layout) Exact, two_lines)  -- L 2, that line, 8 9
    ∷ (policy_word Return, 82 ∷ 69 ∷ 84 ∷ 85 ∷ 82 ∷ 78 ∷ [])  -- RETURN
    ∷ (policy_word Traversal, 84 ∷ 82 ∷ 65 ∷ 86 ∷ 69 ∷ 82 ∷ 83 ∷ 65 ∷ 76 ∷ [])  -- TRAVERSAL
    ∷ (policy_word Midpoint, 77 ∷ 73 ∷ 68 ∷ 80 ∷ 79 ∷ 73 ∷ 78 ∷ 84 ∷ [])  -- MIDPOINT
    ∷ (policy_word Composite, 67 ∷ 79 ∷ 77 ∷ 80 ∷ 79 ∷ 83 ∷ 73 ∷ 84 ∷ 69 ∷ [])  -- COMPOSITE
    ∷ (policy_word Largest, 76 ∷ 65 ∷ 82 ∷ 71 ∷ 69 ∷ 83 ∷ 84 ∷ [])  -- LARGEST
    ∷ (record_text (stocked 1 2 3 4), 49 ∷ 32 ∷ 50 ∷ 32 ∷ 51 ∷ 32 ∷ 52 ∷ 10 ∷ [])  -- 1 2 3 4
    ∷ (line_text (7 ⨯ 2), 55 ∷ 32 ∷ 50 ∷ 10 ∷ [])  -- 7 2
    ∷ (action_text Void, 86 ∷ 79 ∷ 73 ∷ 68 ∷ 10 ∷ [])  -- VOID
    ∷ (action_text (Bottom 2), 66 ∷ 79 ∷ 84 ∷ 84 ∷ 79 ∷ 77 ∷ 32 ∷ 50 ∷ 10 ∷ [])  -- BOTTOM 2
    ∷ (action_text (Top 2), 84 ∷ 79 ∷ 80 ∷ 32 ∷ 50 ∷ 10 ∷ [])  -- TOP 2
    ∷ (action_text (Gap 3 5), 71 ∷ 65 ∷ 80 ∷ 32 ∷ 51 ∷ 32 ∷ 53 ∷ 10 ∷ [])  -- GAP 3 5
    ∷ (action_text Once, 79 ∷ 78 ∷ 67 ∷ 69 ∷ 10 ∷ [])  -- ONCE
    ∷ (action_text Twice, 84 ∷ 87 ∷ 73 ∷ 67 ∷ 69 ∷ 10 ∷ [])  -- TWICE
    ∷ (passage_text P20, 50 ∷ 48 ∷ 10 ∷ [])  -- 20
    ∷ (pick_text (record { aisle = 1; cell = 2; article = 3; quantity = 4 }), 49 ∷ 32 ∷ 50 ∷ 32 ∷ 51 ∷ 32 ∷ 52 ∷ 10 ∷ [])  -- 1 2 3 4
    ∷ (
      page_line (record { aisle = 1; cell = 2; article = 3; quantity = 4 }),
      32 ∷ 49 ∷ 45 ∷ 32 ∷ 50 ∷ 32 ∷ 32 ∷ 32 ∷ 52 ∷ 46 ∷ 46 ∷ 46 ∷ 46 ∷ 46 ∷ 46 ∷ 46 ∷ 46 ∷ 46 ∷ 46 ∷ 32 ∷ 32 ∷ 32 ∷ 32 ∷ 51 ∷ 10 ∷ [],
    )  --  1- 2   4..........    3
    ∷ (
      page_line (record { aisle = 16; cell = 24; article = 65535; quantity = 255 }),
      49 ∷ 54 ∷ 45 ∷ 50 ∷ 52 ∷ 32 ∷ 50 ∷ 53 ∷ 53 ∷ 46 ∷ 46 ∷ 46 ∷ 46 ∷ 46 ∷ 46 ∷ 46 ∷ 46 ∷ 46 ∷ 46 ∷ 54 ∷ 53 ∷ 53 ∷ 51 ∷ 53 ∷ 10 ∷ [],
    )  -- 16-24 255..........65535
    ∷ (page_of from_the_back (record { actions = Once ∷ Top 1 ∷ Once ∷ []; passages = P11 ∷ P11 ∷ [] }), page_from_the_back)  -- each at the first step
    ∷ (page_output [], 82 ∷ 32 ∷ 49 ∷ 10 ∷ 49 ∷ 10 ∷ [])  -- R 1, 1
    ∷ (output [], 82 ∷ 32 ∷ 49 ∷ 10 ∷ 49 ∷ 10 ∷ [])  -- R 1, 1: no bytes are no job file
    ∷ (output (counted 49), 82 ∷ 32 ∷ 49 ∷ 10 ∷ 49 ∷ 10 ∷ [])  -- R 1, 1: `L 1` with a second line is none
    ∷ (output (counted 51), 82 ∷ 32 ∷ 49 ∷ 10 ∷ 49 ∷ 10 ∷ [])  -- R 1, 1: nor is `L 3` with two lines
    ∷ (output (counted 52), 82 ∷ 32 ∷ 49 ∷ 10 ∷ 49 ∷ 10 ∷ [])  -- R 1, 1: nor is `L 4`
    ∷ (output (job_text (posted 25 0 third_cells Exact)), 82 ∷ 32 ∷ 49 ∷ 10 ∷ 50 ∷ 10 ∷ [])  -- R 1, 2: a k of 25 is out of bounds
    ∷ []

-- both of each pair are the same
abbrev pub AllSame : List (List ℕ × List ℕ) → Type 0
AllSame [] = Unit {0}
AllSame (x ∷ rest) = (x.0 ≡ x.1) × AllSame rest

-- store α with far too many stock records: so many whose lines have 8 bytes and so many with 9
unfoldable pub overfull : ℕ → ℕ → Job
overfull few more =
    record {
      layout = (alpha [] Exact).layout;
      policy = Exact;
      stock = replicate few (stocked 1 1 1 1) ++ replicate more (stocked 1 1 10 1);
      hours = NoHours;
      lines = (9 ⨯ 1) ∷ [];
    }

-- the text of a job has so many bytes, and reading it ends with that refusal
pub record FileEnds (job : Job) (n : ℕ) (r : Refusal) : Type 0 where
  pub bytes : length (job_text job) ≡ n
  pub ends : check_bytes (job_text job) ≡ bad r

-- every row of a table holds
abbrev pub AllHold : List Case → Type 0
AllHold [] = Unit {0}
AllHold (c ∷ rest) = Holds c × AllHold rest

-- the job of the worked example
unfoldable pub worked_job : List ℕ
worked_job =
    76 ∷ 32 ∷ 49 ∷ 10  -- L 1
    ∷ 50 ∷ 32 ∷ 51 ∷ 32 ∷ 50 ∷ 32 ∷ 49 ∷ 32 ∷ 50 ∷ 32 ∷ 53 ∷ 32 ∷ 49 ∷ 32 ∷ 69 ∷ 88 ∷ 65 ∷ 67 ∷ 84 ∷ 10  -- 2 3 2 1 2 5 1 EXACT
    ∷ 83 ∷ 32 ∷ 51 ∷ 10  -- S 3
    ∷ 49 ∷ 32 ∷ 49 ∷ 32 ∷ 55 ∷ 32 ∷ 49 ∷ 10  -- 1 1 7 1
    ∷ 50 ∷ 32 ∷ 49 ∷ 32 ∷ 57 ∷ 32 ∷ 53 ∷ 10  -- 2 1 9 5
    ∷ 50 ∷ 32 ∷ 51 ∷ 32 ∷ 55 ∷ 32 ∷ 49 ∷ 10  -- 2 3 7 1
    ∷ 68 ∷ 32 ∷ 49 ∷ 10  -- D 1
    ∷ 57 ∷ 32 ∷ 49 ∷ 10  -- 9 1
    ∷ []

-- its sheet
unfoldable pub worked_sheet : List ℕ
worked_sheet =
    84 ∷ 32 ∷ 49 ∷ 10  -- T 1
    ∷ 49 ∷ 52 ∷ 32 ∷ 69 ∷ 88 ∷ 65 ∷ 67 ∷ 84 ∷ 10  -- 14 EXACT
    ∷ 65 ∷ 32 ∷ 50 ∷ 10  -- A 2
    ∷ 86 ∷ 79 ∷ 73 ∷ 68 ∷ 10  -- VOID
    ∷ 66 ∷ 79 ∷ 84 ∷ 84 ∷ 79 ∷ 77 ∷ 32 ∷ 49 ∷ 10  -- BOTTOM 1
    ∷ 67 ∷ 32 ∷ 49 ∷ 10  -- C 1
    ∷ 48 ∷ 50 ∷ 10  -- 02
    ∷ 80 ∷ 32 ∷ 49 ∷ 10  -- P 1
    ∷ 50 ∷ 32 ∷ 49 ∷ 32 ∷ 57 ∷ 32 ∷ 49 ∷ 10  -- 2 1 9 1
    ∷ 87 ∷ 32 ∷ 52 ∷ 10  -- W 4
    ∷ 82 ∷ 32 ∷ 49 ∷ 10  -- R 1
    ∷ 66 ∷ 32 ∷ 49 ∷ 10  -- B 1
    ∷ 70 ∷ 32 ∷ 49 ∷ 10  -- F 1
    ∷ 76 ∷ 32 ∷ 49 ∷ 10  -- L 1
    ∷ []

-- what the program `looked` prints, and the numbers that are handed on
unfoldable pub looked_texts : List (List ℕ × List ℕ)
looked_texts =
    (looked_text (looked_in worked_job), 50 ∷ 10 ∷ [])  -- 2
    ∷ (looked_text (looked_in []), 45 ∷ 10 ∷ [])  -- -: no bytes are no job file
    ∷ (looked_text (some 0), 48 ∷ 10 ∷ [])  -- 0
    ∷ (looked_text (some 3072), 51 ∷ 48 ∷ 55 ∷ 50 ∷ 10 ∷ [])  -- 3072
    ∷ (handed_on none ∷ handed_on (some 2) ∷ [], 0 ∷ 2 ∷ [])  -- 0 where there is no number
    ∷ []

-- what a call on the worked job gives: the number that it returns, and the first number of the work area after it
pub record CallGives (sheet work : List ℕ) (number first : ℕ) : Type 0 where
  pub its_number : reply_number (answer worked_job sheet work).reply ≡ number
  pub its_work : head_or 7 (answer worked_job sheet work).work ≡ first

-- its page
unfoldable pub worked_page : List ℕ
worked_page = 32 ∷ 50 ∷ 45 ∷ 32 ∷ 49 ∷ 32 ∷ 32 ∷ 32 ∷ 49 ∷ 46 ∷ 46 ∷ 46 ∷ 46 ∷ 46 ∷ 46 ∷ 46 ∷ 46 ∷ 46 ∷ 46 ∷ 32 ∷ 32 ∷ 32 ∷ 32 ∷ 57 ∷ 10 ∷ []  --  2- 1   1..........    9

-- what a page call on the worked job gives: the number that it returns, and the first number of the work area after it
pub record PageCallGives (sheet page : List ℕ) (number first : ℕ) : Type 0 where
  pub its_number : reply_number (page_answer worked_job sheet page (replicate 32768 1)).call.reply ≡ number
  pub its_work : head_or 7 (page_answer worked_job sheet page (replicate 32768 1)).call.work ≡ first
